use Rattle.std.proofs.Common.{take, ◌*◌}
use Rattle.patch_table.specs.Spelling.{SpellRecords}
use Rattle.patch_table.proofs.reading.spelled_records.Given as goal

-- the bytes before the index are spelled
abbrev pub invariant-loop-k : goal.invariant-loop-k
invariant-loop-k l = SpellRecords l.records.items (take (24 * l.k) l.bytes)
