-- The bytes of the edge, and five zeros.
use Rattle.std.proofs.Common.{◌≡◌, ◌++◌, ◌-◌, ◌+◌, ◌∙◌, ◌∷◌, [], ℕ, List, take, drop, sym, ap, append_assoc, arith}
use Rattle.std.proofs.lemmas.List.{drop-take}
use Rattle.export_trie.proofs.writing.put_edge.Goals as goal

pub returns : goal.returns
returns c =
    let name = c.args.first.now.name in
    let edge : take (c.args.len - c.args.depth) (drop c.args.depth name) ≡ drop c.args.depth (take c.args.len name) =
    sym (drop-take c.args.depth (c.args.len - c.args.depth) name)
    ∙ ap (λ (n : ℕ). drop c.args.depth (take n name)) (let e : c.args.depth + (c.args.len - c.args.depth) ≡ c.args.len = omega (arith, c.requires.order) in e) in
    let first : c.extend_from_slice.new.self.items ≡ c.args.out.now.items ++ drop c.args.depth (take c.args.len name) =
    c.in_ok-extend_from_slice.ensures.items
    ∙ ap (λ (l : List ℕ). c.args.out.now.items ++ l) (ap (λ (l : List ℕ). take (c.args.len - c.args.depth) (drop c.args.depth l)) c.as_slice.ensures ∙ edge) in
    c.in_ok-extend_from_slice-2.ensures.items
    ∙ (ap (λ (l : List ℕ). l ++ (0 ∷ 0 ∷ 0 ∷ 0 ∷ 0 ∷ [])) first
    ∙ append_assoc c.args.out.now.items (drop c.args.depth (take c.args.len name)) (0 ∷ 0 ∷ 0 ∷ 0 ∷ 0 ∷ []))
