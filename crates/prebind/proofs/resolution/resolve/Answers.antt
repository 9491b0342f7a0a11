use Rattle.std.proofs.Common.{List, subst, sym}
use Rattle.prebind.specs.Steps.{set_of}
use Rattle.prebind.specs.Resolves.{Pair, is_met, resolves}
use Rattle.prebind.proofs.ResolveLaws.{Resolving, resolving_all, resolving_ends, resolving_loops, resolving_next, was_met}
use Rattle.prebind.proofs.resolution.resolve.Goals as goal

pub steps-init : goal.steps-init
steps-init c =
    let set = set_of c.args.set.now in
    subst (λ (met : List Pair). Resolving set met c.args.image c.args.ordinal c.args.name.now (resolves set c.args.image c.args.ordinal c.args.name.now)) (sym c.new-met.ensures)
    (resolving_all set c.args.image c.args.ordinal c.args.name.now c.requires.image)

pub returns-in-Ends : goal.returns-in-Ends
returns-in-Ends c =
    let set = set_of c.args.set.now in
    resolving_ends set c.steps.met c.steps.from c.steps.by c.steps.sought.now (resolves set c.args.image c.args.ordinal c.args.name.now) c.in-Ends.outcome c.steps.invariant (sym c.in-Ends.ensures)

pub returns-then-not-branch : goal.returns-then-not-branch
returns-then-not-branch c =
    let set = set_of c.args.set.now in
    resolving_loops set c.steps.met c.steps.from c.steps.by c.in-Reexports.next c.in-Reexports.next_by c.steps.sought.now c.in-Reexports.own.now (resolves set c.args.image c.args.ordinal c.args.name.now) c.steps.invariant (sym c.in-Reexports.ensures)
    (was_met c.in_ok-insert-in-Reexports.field-0 (is_met c.steps.met (c.in-Reexports.next, c.steps.sought.now)) c.in_ok-insert-in-Reexports.ensures.fresh c.if-not-branch.true)

pub steps-preserved : goal.steps-preserved
steps-preserved c =
    let set = set_of c.args.set.now in
    (resolving_next set c.steps.met c.insert.new.self c.steps.from c.steps.by c.in-Reexports.next c.in-Reexports.next_by c.steps.sought.now c.in-Reexports.own.now c.next_name-sought.result.now (resolves set c.args.image c.args.ordinal c.args.name.now)
    c.in_ok-insert-in-Reexports.field-0 c.requires.sound.many c.steps.invariant c.in-Reexports.ensures c.in_ok-insert-in-Reexports.ensures.fresh c.if-not-branch.false (c.in_ok-insert-in-Reexports.ensures.added c.if-not-branch.false) c.next_name-sought.ensures).resolving

pub steps-smaller : goal.steps-smaller
steps-smaller c =
    let set = set_of c.args.set.now in
    (resolving_next set c.steps.met c.insert.new.self c.steps.from c.steps.by c.in-Reexports.next c.in-Reexports.next_by c.steps.sought.now c.in-Reexports.own.now c.next_name-sought.result.now (resolves set c.args.image c.args.ordinal c.args.name.now)
    c.in_ok-insert-in-Reexports.field-0 c.requires.sound.many c.steps.invariant c.in-Reexports.ensures c.in_ok-insert-in-Reexports.ensures.fresh c.if-not-branch.false (c.in_ok-insert-in-Reexports.ensures.added c.if-not-branch.false) c.next_name-sought.ensures).falls
