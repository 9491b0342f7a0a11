use Rattle.std.proofs.Common.{arith}
use Rattle.dsc_base.proofs.NumberLaws.{number_at-lt}
use Rattle.macho_edit.proofs.header.fit_fields.Goals as goal

pub returns-clause-flags : goal.returns-clause-flags
returns-clause-flags c = number_at-lt 4 c.args.header.now 24 (λ k. omega (arith, c.type_inv.header k))
