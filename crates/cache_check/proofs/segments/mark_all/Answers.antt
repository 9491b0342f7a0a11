use Rattle.std.proofs.Common.{◌+◌, ◌++◌, ◌∷◌, [], List, Bool, take, length, refl, sym, ap, subst, ◌∙◌, append_assoc}
use Rattle.std.proofs.lemmas.List.{take_all, take_more, append-nil}
use Rattle.macho_image.specs.Records.{Seg}
use Rattle.cache_check.specs.Steps.Pages.{marked, AreMarked}
use Rattle.cache_check.proofs.MarkLaws.{length-marked, marked_more}
use Rattle.cache_check.proofs.PlacedLaws.{aligned_at}
use Rattle.cache_check.proofs.segments.mark_all.Goals as goal

pub loop-segment-init : goal.loop-segment-init
loop-segment-init c = record { marked = λ earlier are. subst (AreMarked c.args.marks.now) (sym (append-nil earlier)) are; count = refl }

pub loop-segment-preserved : goal.loop-segment-preserved
loop-segment-preserved c =
    let s : Seg = c.segment-item.result in
    let done : List Seg = take c.loop-segment.segment-index c.args.segments.now in
    let more = take_more c.args.segments.now c.loop-segment.segment-index c.segment-item.result c.loop-segment-test.true ∙ ap (λ (t : Seg). take c.loop-segment.segment-index c.args.segments.now ++ t ∷ []) (sym c.segment-item.is) in
    let aligned = aligned_at c.args.segments.now c.loop-segment.segment-index c.segment-item.result c.requires c.loop-segment-test.true c.segment-item.is in
    record {
      marked = λ earlier are.
          subst (λ (ms : List Bool). AreMarked ms (earlier ++ take (c.loop-segment.segment-index + 1) c.args.segments.now)) (sym c.mark.ensures)
          (subst (AreMarked (marked c.loop-segment.marks s)) (append_assoc earlier done (s ∷ []) ∙ ap (λ (l : List Seg). earlier ++ l) (sym more))
          (marked_more c.loop-segment.marks (earlier ++ done) s aligned (c.loop-segment.invariant.marked earlier are)));
      count = ap (λ (l : List Bool). length l) c.mark.ensures ∙ (length-marked c.loop-segment.marks s ∙ c.loop-segment.invariant.count);
    }

pub returns-clause-marked : goal.returns-clause-marked
returns-clause-marked c = λ earlier are.
    subst (λ (l : List Seg). AreMarked c.loop-segment.marks (earlier ++ l)) (take_all c.loop-segment.segment-index c.args.segments.now c.loop-segment-test.false) (c.loop-segment.invariant.marked earlier are)
