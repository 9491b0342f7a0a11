use Rattle.std.proofs.Common.{◌+◌}
use Rattle.prebind.specs.Sets.{ImageSet}
use Rattle.prebind.specs.Resolves.{resolves}
use Rattle.prebind.specs.Probes.{probes}
use Rattle.prebind.specs.Indexed.{InEachSet}
use Rattle.prebind.proofs.StepLaws.{pairs_from, unmet}
use Rattle.prebind.proofs.ProbeLaws.{Probing}
use Rattle.prebind.proofs.probing.resolve_indexed.Given as goal

abbrev pub invariant-steps : goal.invariant-steps
invariant-steps g l =
    InEachSet l.links l.indexed
    (λ (set : ImageSet). Probing set l.met l.from l.by l.sought (resolves set l.fn.image l.fn.ordinal l.fn.name) l.steps (l.initial.steps + probes set l.fn.image l.fn.ordinal l.fn.name))

abbrev pub decreases-steps : goal.decreases-steps
decreases-steps g l = unmet l.met (pairs_from 0 l.indexed.names)
