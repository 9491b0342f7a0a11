use Rattle.std.proofs.Common.{◌≡◌, ◌*◌, map}
use Rattle.std.specs.List.{range_with_len}
use Rattle.dsc_base.specs.Numbers.{number_at}
use Rattle.nlist_table.proofs.entry.read_indices.Given as goal

abbrev pub invariant-loop-k : goal.invariant-loop-k
invariant-loop-k l = l.indices.items ≡ map (λ k. number_at 4 l.bytes (4 * k)) (range_with_len 0 l.k)
