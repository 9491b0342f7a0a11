use Rattle.std.proofs.Common.{arith}
use Rattle.dep_closure.proofs.ResolveLaws.{is_relative, resolved_lacking, resolved_all, relative_refused, lacking_refused, none_refused, lacking_is, none_is}
use Rattle.std.specs.Prelude.{position}
use Rattle.dep_closure.proofs.dependencies.resolve.Goals as goal

pub returns-in-Some-clause-cause : goal.returns-in-Some-clause-cause
returns-in-Some-clause-cause c = relative_refused c.args.names.now c.args.dependencies.now c.in-Some.index c.refused.result c.in-Some.ensures c.refused.ensures

pub returns-in-None-2-clause-cause : goal.returns-in-None-2-clause-cause
returns-in-None-2-clause-cause c =
    lacking_refused c.args.names.now c.args.dependencies.now c.loop-index.index c.refused-in-None-2.result
    (none_is (position is_relative c.args.dependencies.now) c.first_relative.result c.first_relative.ensures c.in_default.not-Some)
    (resolved_lacking c.args.names.now c.args.dependencies.now c.loop-index.found.items c.loop-index.index c.index-dependencies-index.result c.loop-index.invariant c.loop-index-test.true c.index-dependencies-index.is
    (lacking_is c.args.names.now c.index-dependencies-index.result _ c.dependency.view_is c.if-is_weak.ensures c.in-None-2.ensures))
    c.refused-in-None-2.ensures

pub returns-clause-cause : goal.returns-clause-cause
returns-clause-cause c =
    none_refused c.args.names.now c.args.dependencies.now c.loop-index.found.items (none_is (position is_relative c.args.dependencies.now) c.first_relative.result c.first_relative.ensures c.in_default.not-Some)
    (resolved_all c.args.names.now c.args.dependencies.now c.loop-index.found.items c.loop-index.index c.loop-index.invariant (omega arith))
