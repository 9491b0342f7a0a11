-- Lists of exports: how many there are, and what stands in one that is moved.
use Rattle.std.proofs.Common.{◌≡◌, ◌≤◌, ◌<◌, ℕ, ◌^◌, Bool, true, false, ◌||◌, nat_lt, Option, Some, None, List, length, map, refl, sym, ap, ◌∙◌, arith}
use Rattle.std.specs.Prelude.{slice_get, option_map}
use Rattle.std.proofs.lemmas.Bool.{cond-true, cond-false}
use Rattle.std.proofs.lemmas.Bool.Decides.{nat_tests}
use Rattle.std.proofs.lemmas.Option.{slice_get-map}
use Rattle.dsc_base.specs.Limits.{record_limit}
use Rattle.export_trie.specs.declared.export.Export.{Export}
use Rattle.export_trie.specs.Order.{too_many}
use Rattle.cache_check.specs.Differences.{same_export, other_at, moved_export}

few_of : (a b : Bool) → a || b ≡ false → a ≡ false
few_of true b is = absurd (cc)
few_of false b is = refl

pub few_exports : (exports : List Export) → too_many exports ≡ false → length exports < 2 ^ 32
unfolding too_many
few_exports exports few =
    let first : nat_lt record_limit (length exports) ≡ false = few_of (nat_lt record_limit (length exports)) _ few in
    let low : length exports ≤ record_limit = grind (arith, nat_tests) in
    omega (arith, low)

-- what two lists have at a number, where the second is moved
module _ (f : Export → Export) (found wanted : List Export) (k : ℕ) (same : Bool) (is : same ≡ same_export (slice_get found k) (option_map f (slice_get wanted k))) where
  at_is : same ≡ same_export (slice_get found k) (slice_get (map f wanted) k)
  at_is = is ∙ ap (λ (o : Option Export). same_export (slice_get found k) o) (sym (slice_get-map f wanted k))

  pub same_none : same ≡ true → other_at found (map f wanted) k ≡ None
  unfolding other_at
  same_none one = cond-true (same_export (slice_get found k) (slice_get (map f wanted) k)) None (Some k) (sym at_is ∙ one)

  pub other_some : same ≡ false → other_at found (map f wanted) k ≡ Some k
  unfolding other_at
  other_some differ = cond-false (same_export (slice_get found k) (slice_get (map f wanted) k)) None (Some k) (sym at_is ∙ differ)

-- offsets that are moved alike
pub moved_alike : (f g : ℕ → ℕ) (exports : List Export) → ((o : ℕ) → f o ≡ g o) → map (moved_export f) exports ≡ map (moved_export g) exports
moved_alike f g exports alike = ap (λ (h : ℕ → ℕ). map (moved_export h) exports) (λ i o. alike o i)
