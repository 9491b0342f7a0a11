use Rattle.std.proofs.Common.{◌≤◌, ◌-◌, length}
use Rattle.split_info.specs.Reading.{pairs}
use Rattle.split_info.proofs.PartLaws.{AreLeft}
use Rattle.split_info.proofs.reading.read_pairs.Given as goal

abbrev pub invariant-loop : goal.invariant-loop
invariant-loop l = record {
  within : l.at ≤ length l.source.stream.now;
  left : AreLeft l.source.rebases.now l.initial.found.items l.found.items (pairs l.source.stream.now l.image l.count l.start) (pairs l.source.stream.now l.image (l.count - l.counter) l.at);
}
