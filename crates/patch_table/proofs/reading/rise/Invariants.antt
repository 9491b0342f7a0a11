use Rattle.std.proofs.Common.{ℕ, ◌+◌, ◌<◌, get_or}
use Rattle.patch_table.specs.declared.patches.Record.{Record}
use Rattle.patch_table.proofs.reading.rise.Given as goal

-- the records before the index rise
abbrev pub invariant-loop-k : goal.invariant-loop-k
invariant-loop-k l = (i : ℕ) (d : Record) → i + 1 < l.k → (get_or l.records i d).at < (get_or l.records (i + 1) d).at
