-- The fronts that are known to be the same are in common.
use Rattle.std.proofs.Common.{◌≡◌, ◌+◌, ◌∙◌, ap₂, refl, ℕ, drop, arith, length-drop}
use Rattle.std.specs.Prelude.{nat_eq}
use Rattle.std.proofs.lemmas.List.{take_rest}
use Rattle.std.proofs.lemmas.List.Sums.{common_prefix_len-le}
use Rattle.export_trie.proofs.PrefixLaws.{common, common-from}
use Rattle.export_trie.proofs.writing.common_from.Goals as goal

pub overflow_add-result : goal.overflow_add-result
overflow_add-result c =
    let all : c.common_len.result ≡ common (drop c.args.depth c.args.a.now) (drop c.args.depth c.args.b.now) =
    c.common_len.ensures ∙ ap₂ common (take_rest c.args.a.now c.args.depth) (take_rest c.args.b.now c.args.depth) in
    omega (arith, all, (common_prefix_len-le nat_eq (drop c.args.depth c.args.a.now) (drop c.args.depth c.args.b.now)).0, length-drop c.args.depth c.args.a.now)

pub returns : goal.returns
returns c =
    ap₂ (λ (n : ℕ) (m : ℕ). n + m) refl (c.common_len.ensures ∙ ap₂ common (take_rest c.args.a.now c.args.depth) (take_rest c.args.b.now c.args.depth))
    ∙ common-from c.args.depth c.args.a.now c.args.b.now c.requires.first c.requires.second c.requires.same
