use Rattle.std.proofs.Common.{◌≡◌, take}
use Rattle.std.specs.List.{flat_map}
use Rattle.cache_build.proofs.planned.all_words.Given as goal

abbrev pub invariant-loop-plan : goal.invariant-loop-plan
invariant-loop-plan l = l.words.items ≡ flat_map (λ p. p.words) (take l.plan-index l.plans)
