use Rattle.std.proofs.Common.{◌≡◌, map, take}
use Rattle.nlist_table.specs.Symbols.{renumbered}
use Rattle.nlist_table.proofs.numbering.Numbering.renumber_all.Given as goal

abbrev pub invariant-loop-index : goal.invariant-loop-index
invariant-loop-index l = l.renumbered.items ≡ map (renumbered l.self.entries.now) (take l.index-index l.indices)
