-- Each extra counts one word more, until one is marked or leaves no room in the page.
use Rattle.std.proofs.Common.{◌%◌, ◌∙◌, get_or, sym, arith}
use Rattle.std.proofs.lemmas.Bool.{ltb-true, ltb-false}
use Rattle.slide_chain.proofs.MadeLaws.{marked-large, marked-small}
use Rattle.slide_chain.proofs.MarkLaws.{run-none, run-more, run-ends, run-outside, run-over, any-counter-le, few-push}
use Rattle.slide_chain.proofs.sieve.count_run.Goals as goal

pub loop-extra-init : goal.loop-extra-init
loop-extra-init c = run-none c.args.marks.now c.args.extras.now c.requires.empty

pub count_head-requires-clause-room : goal.count_head-requires-clause-room
count_head-requires-clause-room c =
    omega (arith, any-counter-le c.loop-extra.marks (get_or c.args.extras.now c.loop-extra.extra-index 0 % 0x4000) (c.loop-extra.auto.marks ∙ c.requires.places), c.loop-extra.invariant.room)

pub returns-then-not-count_head-clause-outside : goal.returns-then-not-count_head-clause-outside
returns-then-not-count_head-clause-outside c = λ fails.
    run-outside c.loop-extra.marks c.args.extras.now c.loop-extra.extra-index c.loop-extra-test.true
    (ltb-false (get_or c.args.extras.now c.loop-extra.extra-index 0 % 0x4000) 1023 (sym c.count_head.ensures.inside ∙ c.if-not-count_head.true)) c.loop-extra.invariant

pub returns-then-extra-ge-MARKED-clause-counted : goal.returns-then-extra-ge-MARKED-clause-counted
returns-then-extra-ge-MARKED-clause-counted c = λ passes.
    run-ends c.loop-extra.marks c.count_head.new.marks c.args.extras.now c.loop-extra.extra-index c.loop-extra-test.true (c.loop-extra.auto.marks ∙ c.requires.places)
    (ltb-true (get_or c.args.extras.now c.loop-extra.extra-index 0 % 0x4000) 1023 (sym c.count_head.ensures.inside ∙ c.if-not-count_head.false))
    (marked-large (get_or c.args.extras.now c.loop-extra.extra-index 0) c.if-extra-ge-MARKED.true) (c.count_head.ensures.counted c.if-not-count_head.false) c.loop-extra.invariant

pub loop-extra-preserved : goal.loop-extra-preserved
loop-extra-preserved c =
    run-more c.loop-extra.marks c.count_head.new.marks c.args.extras.now c.loop-extra.extra-index c.loop-extra-test.true (c.loop-extra.auto.marks ∙ c.requires.places)
    (ltb-true (get_or c.args.extras.now c.loop-extra.extra-index 0 % 0x4000) 1023 (sym c.count_head.ensures.inside ∙ c.if-not-count_head.false))
    (marked-small (get_or c.args.extras.now c.loop-extra.extra-index 0) c.if-extra-ge-MARKED.false) (c.count_head.ensures.counted c.if-not-count_head.false) c.loop-extra.invariant

pub returns-clause-counted : goal.returns-clause-counted
returns-clause-counted c = λ passes. run-over c.loop-extra.marks c.args.extras.now c.loop-extra.extra-index c.loop-extra-test.false c.loop-extra.invariant

pub returns-then-extra-ge-MARKED-clause-few : goal.returns-then-extra-ge-MARKED-clause-few
returns-then-extra-ge-MARKED-clause-few c = λ passes.
    omega (
      arith,
      few-push c.loop-extra.marks c.count_head.new.marks (get_or c.args.extras.now c.loop-extra.extra-index 0 % 0x4000) c.loop-extra.extra-index (c.loop-extra.auto.marks ∙ c.requires.places)
          (ltb-true (get_or c.args.extras.now c.loop-extra.extra-index 0 % 0x4000) 1023 (sym c.count_head.ensures.inside ∙ c.if-not-count_head.false)) (c.count_head.ensures.counted c.if-not-count_head.false) c.loop-extra.invariant.room,
    )
