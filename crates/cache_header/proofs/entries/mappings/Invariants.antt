use Rattle.std.proofs.Common.{◌≡◌, ◌++◌, ◌-◌, ◌+◌, ◌*◌}
use Rattle.cache_header.specs.Reading.{mappings_from}
use Rattle.cache_header.proofs.entries.mappings.Given as goal

-- what was read and what is behind is the whole
abbrev pub invariant-loop-k : goal.invariant-loop-k
invariant-loop-k l = l.mappings.items ++ mappings_from (l.count - l.k) l.bytes (l.table + 32 * l.k) ≡ mappings_from l.count l.bytes l.table
