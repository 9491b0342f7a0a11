-- The steps give what the definition says, and so each fault comes where the bytes have it.
use Rattle.std.proofs.Common.{◌≡◌, ◌+◌, ℕ, ◌∙◌, sym, drop, arith, w64, to_z, of_z}
use Rattle.std.proofs.lemmas.Grind.{common_steps}
use Rattle.std.specs.Prelude.{ℤ, Result, Ok}
use Rattle.dsc_base.specs.declared.fault.UlebFault.{UlebFault}
use Rattle.dsc_base.specs.Uleb.{placed}
use Rattle.dsc_base.specs.Steps.Uleb.{sleb_within}
use Rattle.dsc_base.proofs.SignedLaws.{signed_too_wide_for, signed_cut_for, sleb_at-steps}
use Rattle.dsc_base.proofs.uleb.read_sleb.Goals as goal

failed : goal.returns-in_err-value-clause-number
failed c =
    let e : c.from_residual.result ≡ placed c.args.at (sleb_within 10 (drop c.args.at c.args.bytes.now)) = grind (arith, common_steps) in
    e ∙ sym (sleb_at-steps c.args.bytes.now c.args.at)

found : goal.returns-clause-number
found c =
    let given : Result (ℤ × ℕ) UlebFault = Ok (to_z w64 (of_z w64 c.in_ok-value.value), c.args.at + c.in_ok-value.len) in
    let e : given ≡ placed c.args.at (sleb_within 10 (drop c.args.at c.args.bytes.now)) = grind (arith, common_steps) in
    e ∙ sym (sleb_at-steps c.args.bytes.now c.args.at)

pub returns-in_err-value-clause-number : goal.returns-in_err-value-clause-number
returns-in_err-value-clause-number c = failed c

pub returns-clause-number : goal.returns-clause-number
returns-clause-number c = found c

pub returns-in_err-value-clause-too_wide : goal.returns-in_err-value-clause-too_wide
returns-in_err-value-clause-too_wide c = signed_too_wide_for c.args.bytes.now c.args.at c.from_residual.result (failed c)

pub returns-clause-too_wide : goal.returns-clause-too_wide
returns-clause-too_wide c = signed_too_wide_for c.args.bytes.now c.args.at (Ok (to_z w64 (of_z w64 c.in_ok-value.value), c.args.at + c.in_ok-value.len)) (found c)

pub returns-in_err-value-clause-ended : goal.returns-in_err-value-clause-ended
returns-in_err-value-clause-ended c = signed_cut_for c.args.bytes.now c.args.at c.from_residual.result (failed c)

pub returns-clause-ended : goal.returns-clause-ended
returns-clause-ended c = signed_cut_for c.args.bytes.now c.args.at (Ok (to_z w64 (of_z w64 c.in_ok-value.value), c.args.at + c.in_ok-value.len)) (found c)
