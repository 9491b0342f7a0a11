-- The entries so far.
use Rattle.std.proofs.Common.{◌≡◌, ◌++◌, take}
use Rattle.std.specs.List.{flat_map}
use Rattle.dsc_base.specs.Numbers.{little_bytes}
use Rattle.linkedit_merge.proofs.images.append_all_indices.Given as goal

abbrev pub invariant-loop-table : goal.invariant-loop-table
invariant-loop-table l = l.out.items ≡ l.initial.out.items ++ flat_map (little_bytes 4) (flat_map (λ t. t.indirect) (take l.table-index l.tables))
