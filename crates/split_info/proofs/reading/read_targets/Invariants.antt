use Rattle.std.proofs.Common.{◌≤◌, ◌-◌, length}
use Rattle.split_info.specs.Reading.{targets}
use Rattle.split_info.proofs.PartLaws.{AreLeft}
use Rattle.split_info.proofs.reading.read_targets.Given as goal

abbrev pub invariant-loop : goal.invariant-loop
invariant-loop l = record {
  within : l.at ≤ length l.source.stream.now;
  left : AreLeft l.source.rebases.now l.initial.found.items l.found.items (targets l.source.stream.now l.from l.to l.count 0 l.start) (targets l.source.stream.now l.from l.to (l.count - l.counter) l.offset l.at);
}
