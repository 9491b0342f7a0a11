use Rattle.std.proofs.Common.{◌≡◌, ◌≤◌, ◌+◌, take, drop, map}
use Rattle.prebind.specs.Sets.{ImageSet}
use Rattle.prebind.specs.Words.{placed_bind}
use Rattle.prebind.specs.Probes.{bind_probes}
use Rattle.prebind.specs.Indexed.{InEachSet}
use Rattle.prebind.proofs.WordLaws.{AreUnbroken}
use Rattle.prebind.proofs.place_indexed.place_binds.Given as goal

abbrev pub invariant-loop-index : goal.invariant-loop-index
invariant-loop-index g l = record {
  made : InEachSet l.links l.indexed (λ (set : ImageSet). l.words.items ≡ map (placed_bind set l.image) (take l.index l.binds));
  unbroken : InEachSet l.links l.indexed (λ (set : ImageSet). AreUnbroken set l.image l.binds l.index);
  counted : InEachSet l.links l.indexed (λ (set : ImageSet). l.steps + bind_probes set l.image (drop l.index l.binds) ≤ l.initial.steps + bind_probes set l.image l.binds);
}
