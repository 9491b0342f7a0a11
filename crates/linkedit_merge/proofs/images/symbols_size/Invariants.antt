-- The entries so far.
use Rattle.std.proofs.Common.{take}
use Rattle.dsc_base.specs.Limits.{span_limit}
use Rattle.linkedit_merge.specs.Sizes.{symbols_size, IsSize}
use Rattle.linkedit_merge.proofs.images.symbols_size.Given as goal

abbrev pub invariant-loop-table : goal.invariant-loop-table
invariant-loop-table l = IsSize span_limit (symbols_size (take l.table-index l.tables)) l.size
