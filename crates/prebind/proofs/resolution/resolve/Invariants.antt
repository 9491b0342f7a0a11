use Rattle.prebind.specs.Steps.{set_of}
use Rattle.prebind.specs.Resolves.{resolves}
use Rattle.prebind.proofs.StepLaws.{unmet}
use Rattle.prebind.proofs.ResolveLaws.{Resolving, set_pairs}
use Rattle.prebind.proofs.resolution.resolve.Given as goal

abbrev pub invariant-steps : goal.invariant-steps
invariant-steps l = Resolving (set_of l.set) l.met l.from l.by l.sought (resolves (set_of l.set) l.fn.image l.fn.ordinal l.fn.name)

abbrev pub decreases-steps : goal.decreases-steps
decreases-steps l = unmet l.met (set_pairs (set_of l.set))
