use Rattle.std.proofs.Common.{◌≡◌, ◌++◌, take, drop}
use Rattle.ref_rewrite.specs.Planned.{with_headers}
use Rattle.cache_build.specs.Cache.{headers_of}
use Rattle.cache_build.proofs.PlanHeaders.{AreSizedUpTo}
use Rattle.cache_build.proofs.planned.put_headers.Given as goal

abbrev pub invariant-loop-number : goal.invariant-loop-number
invariant-loop-number l =
    (l.plans ≡ with_headers (headers_of l.layout l.spots l.images) (take l.number l.initial.plans) ++ drop l.number l.initial.plans)
    × AreSizedUpTo l.layout l.spots l.images l.number
