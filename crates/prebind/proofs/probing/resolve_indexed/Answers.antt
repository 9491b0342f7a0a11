use Rattle.std.proofs.Common.{◌+◌, ◌<◌, List, subst, sym, arith}
use Rattle.export_trie.specs.declared.export.Export.{Export}
use Rattle.prebind.specs.Resolves.{Pair, resolves}
use Rattle.prebind.specs.Probes.{probes}
use Rattle.prebind.proofs.StepLaws.{pairs_from, unmet}
use Rattle.prebind.proofs.IndexLaws.{many_frames}
use Rattle.prebind.proofs.ProbeLaws.{Probing, probing_all, probing_ends, probing_loops, probing_bound, probing_next}
use Rattle.prebind.proofs.probing.resolve_indexed.Goals as goal

pub steps-init : goal.steps-init
steps-init g c = λ set are.
    let outcome = resolves set c.args.image c.args.ordinal c.args.name.now in
    let total = c.args.steps.now + probes set c.args.image c.args.ordinal c.args.name.now in
    subst (λ (met : List Pair). Probing set met c.args.image c.args.ordinal c.args.name.now outcome c.args.steps.now total) (sym c.new-met.ensures)
    (probing_all set c.args.image c.args.ordinal c.args.steps.now c.args.name.now (omega (arith, many_frames set c.args.links.now c.args.indexed.now are, c.requires.image)))

pub returns-in-Ends-clause-found : goal.returns-in-Ends-clause-found
returns-in-Ends-clause-found g c = λ set are.
    let outcome = resolves set c.args.image c.args.ordinal c.args.name.now in
    let total = c.args.steps.now + probes set c.args.image c.args.ordinal c.args.name.now in
    probing_ends set c.steps.met c.steps.from c.steps.by c.steps.sought.now outcome c.in-Ends.outcome c.steps.steps total (c.steps.invariant set are) (c.in-Ends.ensures.found set are)

pub returns-in-Ends-clause-counted : goal.returns-in-Ends-clause-counted
returns-in-Ends-clause-counted g c = λ set are.
    let outcome = resolves set c.args.image c.args.ordinal c.args.name.now in
    let total = c.args.steps.now + probes set c.args.image c.args.ordinal c.args.name.now in
    probing_bound set c.steps.met c.steps.from c.steps.by c.steps.sought.now outcome c.steps.steps total c.next_step.new.steps (c.steps.invariant set are) (c.next_step.ensures.counted set are)

pub returns-in_err-insert-in-Reexports-clause-counted : goal.returns-in_err-insert-in-Reexports-clause-counted
returns-in_err-insert-in-Reexports-clause-counted g c = λ set are.
    let outcome = resolves set c.args.image c.args.ordinal c.args.name.now in
    let total = c.args.steps.now + probes set c.args.image c.args.ordinal c.args.name.now in
    probing_bound set c.steps.met c.steps.from c.steps.by c.steps.sought.now outcome c.steps.steps total c.next_step.new.steps (c.steps.invariant set are) (c.next_step.ensures.counted set are)

pub returns-then-not-branch-clause-found : goal.returns-then-not-branch-clause-found
returns-then-not-branch-clause-found g c = λ set are.
    let outcome = resolves set c.args.image c.args.ordinal c.args.name.now in
    let total = c.args.steps.now + probes set c.args.image c.args.ordinal c.args.name.now in
    probing_loops set c.steps.met c.steps.from c.steps.by c.in-Reexports.next c.in-Reexports.next_by c.steps.sought.now c.in-Reexports.own.now outcome c.steps.steps total c.in_ok-insert-in-Reexports.field-0 (c.steps.invariant set are)
    (c.in-Reexports.ensures.found set are) c.in_ok-insert-in-Reexports.ensures.fresh c.if-not-branch.true

pub returns-then-not-branch-clause-counted : goal.returns-then-not-branch-clause-counted
returns-then-not-branch-clause-counted g c = λ set are.
    let outcome = resolves set c.args.image c.args.ordinal c.args.name.now in
    let total = c.args.steps.now + probes set c.args.image c.args.ordinal c.args.name.now in
    probing_bound set c.steps.met c.steps.from c.steps.by c.steps.sought.now outcome c.steps.steps total c.next_step.new.steps (c.steps.invariant set are) (c.next_step.ensures.counted set are)

pub steps-preserved : goal.steps-preserved
steps-preserved g c = λ set are.
    let outcome = resolves set c.args.image c.args.ordinal c.args.name.now in
    let total = c.args.steps.now + probes set c.args.image c.args.ordinal c.args.name.now in
    (probing_next set c.steps.met c.insert.new.self c.steps.from c.steps.by c.in-Reexports.next c.in-Reexports.next_by c.steps.sought.now c.in-Reexports.own.now c.next_name-sought.result.now outcome c.steps.steps total c.next_step.new.steps
    c.in_ok-insert-in-Reexports.field-0 are.index.sound.many (c.steps.invariant set are) (c.in-Reexports.ensures.found set are) (c.next_step.ensures.counted set are) c.in_ok-insert-in-Reexports.ensures.fresh c.if-not-branch.false
    (c.in_ok-insert-in-Reexports.ensures.added c.if-not-branch.false) c.next_name-sought.ensures).probing

pub steps-smaller : goal.steps-smaller
steps-smaller g c =
    let set = c.requires.one.set in
    let are = c.requires.one.are in
    let outcome = resolves set c.args.image c.args.ordinal c.args.name.now in
    let total = c.args.steps.now + probes set c.args.image c.args.ordinal c.args.name.now in
    subst (λ (names : List (List Export)). unmet c.insert.new.self (pairs_from 0 names) < unmet c.steps.met (pairs_from 0 names)) (sym are.index.names)
    (probing_next set c.steps.met c.insert.new.self c.steps.from c.steps.by c.in-Reexports.next c.in-Reexports.next_by c.steps.sought.now c.in-Reexports.own.now c.next_name-sought.result.now outcome c.steps.steps total c.next_step.new.steps
    c.in_ok-insert-in-Reexports.field-0 are.index.sound.many (c.steps.invariant set are) (c.in-Reexports.ensures.found set are) (c.next_step.ensures.counted set are) c.in_ok-insert-in-Reexports.ensures.fresh c.if-not-branch.false
    (c.in_ok-insert-in-Reexports.ensures.added c.if-not-branch.false) c.next_name-sought.ensures).falls
