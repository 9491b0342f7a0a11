-- The text ends at the first 0.
use Rattle.std.proofs.Common.{◌≡◌, ℕ, List, ◌+◌, suc, drop, take, ap, sym, ◌∙◌, arith}
use Rattle.std.specs.Prelude.{Result, Ok}
use Rattle.std.proofs.lemmas.List.{take_rest}
use Rattle.dsc_base.specs.declared.rule.Rule.{Rule}
use Rattle.export_trie.proofs.NodeLaws.{text_at-some, text_at-none}
use Rattle.export_trie.proofs.node.read_text.Goals as goal

pub returns-in-Some-clause-read : goal.returns-in-Some-clause-read
returns-in-Some-clause-read c =
    let found = c.in-Some.ensures in
    text_at-some c.in-Some.len c.args.bytes.now found.0.high (λ k lt. found.0.before k (omega arith) lt) found.1
    ∙ ap (λ (rest : List ℕ). let r : Result (List ℕ × List ℕ) Rule = Ok (take c.in-Some.len c.args.bytes.now, rest) in r)
    (let e : suc c.in-Some.len ≡ c.in-Some.len + 1 = omega arith in ap (λ (n : ℕ). drop n c.args.bytes.now) e ∙ sym (take_rest c.args.bytes.now (c.in-Some.len + 1)))

pub returns-in-None-clause-read : goal.returns-in-None-clause-read
returns-in-None-clause-read c = text_at-none c.args.bytes.now (λ k lt. c.in-None.ensures k (omega arith) lt)
