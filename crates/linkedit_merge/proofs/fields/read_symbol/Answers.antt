use Rattle.std.proofs.Common.{subst}
use Rattle.linkedit_merge.specs.ReadBack.{FitsSymbol}
use Rattle.linkedit_merge.proofs.fields.read_symbol.Goals as goal

pub returns : goal.returns
returns c = subst FitsSymbol c.symbol.view_is (record { desc = c.read_numbers.ensures.desc; value = c.read_numbers.ensures.value })
