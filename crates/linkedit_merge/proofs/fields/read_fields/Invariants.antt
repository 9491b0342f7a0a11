-- The tables so far have fields of their widths.
use Rattle.std.proofs.Common.{◌<◌, ℕ, get_or}
use Rattle.nlist_table.specs.Symbols.{Tabs}
use Rattle.linkedit_merge.specs.ReadBack.{HasFields}
use Rattle.linkedit_merge.proofs.fields.read_fields.Given as goal

abbrev pub invariant-loop-table : goal.invariant-loop-table
invariant-loop-table l = (k : ℕ) (d : Tabs) → k < l.table-index → HasFields (get_or l.tables k d)
