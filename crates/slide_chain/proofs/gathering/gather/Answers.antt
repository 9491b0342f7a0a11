use Rattle.std.proofs.Common.{◌≡◌, ◌∙◌, ◌+◌, false, sym, ap, subst, arith}
use Rattle.slide_chain.proofs.PageLaws.{clashes, Gathered, gathered-none, gathered-word, gathered-pass, gathered-all, overlap-none, overlap-some}
use Rattle.slide_chain.proofs.gathering.gather.Goals as goal
use Rattle.slide_chain.proofs.gathering.gather.Goals.{then-marks-k-gt0+in_ok-push_word, else-marks-k-gt0}

pub loop-k-init : goal.loop-k-init
loop-k-init c = gathered-none c.args.mask c.args.value_add c.args.area.now c.args.marks.now c.args.page c.args.words.now.items

pub returns-then-overlaps-clause-overlaps : goal.returns-then-overlaps-clause-overlaps
returns-then-overlaps-clause-overlaps c = λ places is.
    overlap-some c.args.marks.now places c.args.page c.loop-k.k c.requires.places is c.loop-k-test.true (sym c.overlaps.ensures ∙ c.if-overlaps.true) c.loop-k.invariant.apart

pub loop-k-preserved : goal.loop-k-preserved
loop-k-preserved c =
    let apart : clashes c.args.marks.now c.loop-k.k ≡ false = sym c.overlaps.ensures ∙ c.if-overlaps.false in
    elim c.if-marks-k-gt0.branch [
      | then-marks-k-gt0+in_ok-push_word w ↦
          gathered-word c.args.mask c.args.value_add c.args.area.now c.args.marks.now c.args.page c.args.words.now.items c.loop-k.words.items c.if-marks-k-gt0.words.items c.loop-k.k apart
          w.if-marks-k-gt0.true (ap (λ v. v.items) w.words-is ∙ w.in_ok-push_word.ensures {u = tt}) c.loop-k.invariant
      | else-marks-k-gt0 w ↦
          subst (λ v. Gathered c.args.mask c.args.value_add c.args.area.now c.args.marks.now c.args.page c.args.words.now.items v.items (c.loop-k.k + 1)) (sym w.words-is)
          (gathered-pass c.args.mask c.args.value_add c.args.area.now c.args.marks.now c.args.page c.args.words.now.items c.loop-k.words.items c.loop-k.k apart
          (omega (arith, w.if-marks-k-gt0.false)) c.loop-k.invariant)
    ]

pub returns-clause-apart : goal.returns-clause-apart
returns-clause-apart c = λ places is. overlap-none c.args.marks.now places c.args.page c.requires.places is (λ k lt. c.loop-k.invariant.apart k (omega arith))

pub returns-clause-words : goal.returns-clause-words
returns-clause-words c = λ places is.
    gathered-all c.args.mask c.args.value_add c.args.area.now c.args.marks.now c.args.page c.args.words.now.items c.loop-k.words.items c.loop-k.k places (omega arith) c.requires.places is c.loop-k.invariant
