use Rattle.std.proofs.Common.{◌≡◌, ◌∙◌, sym, ap, Some, None, false, List, ℕ}
use Rattle.std.specs.Option.{option_copied}
use Rattle.std.specs.List.{before_first}
use Rattle.std.proofs.lemmas.Bool.{cond-true, cond-false}
use Rattle.cache_header.specs.Paths.{is_nul}
use Rattle.cache_header.specs.Findings.{begins_plain}
use Rattle.cache_header.proofs.NameLaws.{begins_none, begins_some}
use Rattle.cache_header.proofs.path.plain_path.Goals as goal

pub returns-in_err-len : goal.returns-in_err-len
returns-in_err-len c =
    let none : begins_plain c.args.bytes.now ≡ false = begins_none c.args.bytes.now (sym (c.in_err-len.ensures {u = tt})) in
    ap option_copied c.from_residual.ensures ∙ sym (cond-false (begins_plain c.args.bytes.now) (Some (before_first is_nul c.args.bytes.now)) None none)

pub returns-then-is_plain_text : goal.returns-then-is_plain_text
returns-then-is_plain_text c =
    let some = begins_some c.args.bytes.now c.in_ok-len.len (sym c.nul_at.ensures ∙ c.in_ok-len.was) in
    ap (λ (l : List ℕ). Some l) some.0
    ∙ sym (cond-true (begins_plain c.args.bytes.now) (Some (before_first is_nul c.args.bytes.now)) None (some.1 ∙ (sym c.is_plain_text.ensures ∙ c.if-is_plain_text.true)))

pub returns-else-is_plain_text : goal.returns-else-is_plain_text
returns-else-is_plain_text c =
    let some = begins_some c.args.bytes.now c.in_ok-len.len (sym c.nul_at.ensures ∙ c.in_ok-len.was) in
    sym (cond-false (begins_plain c.args.bytes.now) (Some (before_first is_nul c.args.bytes.now)) None (some.1 ∙ (sym c.is_plain_text.ensures ∙ c.if-is_plain_text.false)))
