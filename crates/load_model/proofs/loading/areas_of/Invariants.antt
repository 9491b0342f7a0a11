use Rattle.std.proofs.Common.{◌≡◌, map, take}
use Rattle.load_model.specs.Phases.{contents}
use Rattle.load_model.specs.Loading.{in_memory}
use Rattle.load_model.proofs.loading.areas_of.Given as goal

abbrev pub invariant-loop-segment : goal.invariant-loop-segment
invariant-loop-segment l = contents l.areas.items ≡ map in_memory (take l.segment-index l.image.segments)
