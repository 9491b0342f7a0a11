use Rattle.std.proofs.Common.{◌≡◌, ◌*◌, map}
use Rattle.std.specs.List.{range_with_len}
use Rattle.macho_image.specs.Nlists.{nlist_at}
use Rattle.nlist_table.proofs.entry.read_entries.Given as goal

abbrev pub invariant-loop-k : goal.invariant-loop-k
invariant-loop-k l = l.entries.items ≡ map (λ k. nlist_at l.bytes (16 * k)) (range_with_len 0 l.k)
