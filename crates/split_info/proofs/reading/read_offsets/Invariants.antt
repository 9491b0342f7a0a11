use Rattle.std.proofs.Common.{◌≤◌, ◌-◌, length}
use Rattle.split_info.specs.Reading.{offsets}
use Rattle.split_info.proofs.PartLaws.{AreLeft}
use Rattle.split_info.proofs.reading.read_offsets.Given as goal

abbrev pub invariant-loop : goal.invariant-loop
invariant-loop l = record {
  within : l.at ≤ length l.source.stream.now;
  left : AreLeft l.source.rebases.now l.initial.found.items l.found.items (offsets l.source.stream.now l.kind l.from l.target l.count 0 l.start) (offsets l.source.stream.now l.kind l.from l.target (l.count - l.counter) l.distance l.at);
}
