use Rattle.std.proofs.Common.{◌≡◌, map}
use Rattle.std.specs.Ordering.{nat_cmp}
use Rattle.std.specs.Cmp.Lexicographic.{slice_cmp}
use Rattle.std.specs.FinMap.{get, find}
use Rattle.std.specs.VecDeque.Iter.{deque_iter_rest}
use Rattle.dsc_base.proofs.outside.file_map.FileMap.get.Given as goal

abbrev pub invariant-loop-key : goal.invariant-loop-key
invariant-loop-key l = get l.self l.name ≡ find (slice_cmp nat_cmp) l.name (map (λ e. (e.0, e.1.items)) (deque_iter_rest l.key-iterator))
