-- The names of inputs.
use Rattle.std.proofs.Common.{◌≡◌, ◌<◌, ◌≤◌, ◌==◌, ℕ, List, [], ◌∷◌, length, map, Bool, true, false, not, ◌&&◌, nat_eq, nat_lt, nat_le, Bor, ap, sym, ◌∙◌, arith}
use Rattle.std.specs.List.{list_any}
use Rattle.std.specs.Cmp.Lexicographic.{pointwise}
use Rattle.std.proofs.lemmas.List.{length-map}
use Rattle.clap.proofs.WalkLemmas.{list_any-map}
use Rattle.dsc_tool.specs.WordNumbers.{most_inputs}
use Rattle.dsc_tool.specs.Words.{are_few, are_inputs}

-- so many names, of which none or some is the cache's
pub inputs_are : (out : List ℕ) (names : List (Bor (List ℕ))) (few found : Bool) → few ≡ are_few (map (λ (name : Bor (List ℕ)). name.now) names) → few ≡ true
    → found ≡ list_any (λ (name : Bor (List ℕ)). pointwise nat_eq name.now out) names → not found ≡ are_inputs out (map (λ (name : Bor (List ℕ)). name.now) names)
inputs_are out names few found few_is some is =
    let there : not found ≡ not (list_any (λ (name : List ℕ). pointwise nat_eq name out) (map (λ (name : Bor (List ℕ)). name.now) names)) =
    ap not (is ∙ list_any-map (λ (name : List ℕ). pointwise nat_eq name out) (λ (name : Bor (List ℕ)). name.now) names) in
    there ∙ sym (ap (λ (b : Bool). b && not (list_any (λ (name : List ℕ). pointwise nat_eq name out) (map (λ (name : Bor (List ℕ)). name.now) names))) (sym few_is ∙ some))
