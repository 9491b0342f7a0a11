use Rattle.std.proofs.Common.{◌≤◌, ◌++◌, ◌*◌, List, None, Some, take, length, refl, sym, ap, subst, ◌∙◌, arith}
use Rattle.dsc_base.specs.declared.finding_kind.FindingKind.TheVariants.{SegmentOutside}
use Rattle.macho_image.specs.Records.{Seg, Img}
use Rattle.cache_check.specs.Images.{segment_finding, segments_of}
use Rattle.cache_check.specs.Steps.Pages.{is_taken, AreMarked, AreAligned}
use Rattle.std.specs.Prelude.{position}
use Rattle.macho_image.specs.Breaks.{IsSound}
use Rattle.cache_check.proofs.EachLaws.{clear_start, clear_more, clear_refused, clear_none, found_at}
use Rattle.cache_check.proofs.PlacedLaws.{first_taken_is, segments_more, aligned_append, whole_pages, segments_aligned}
use Rattle.cache_check.proofs.segments.check_each.Goals as goal

pub loop-number-init : goal.loop-number-init
loop-number-init c = record { clear = clear_start (segment_finding c.args.mappings.now c.args.images.now) c.args.images.now; marked = c.requires.unset; aligned = tt; count = c.requires.count }

pub mark_all-requires : goal.mark_all-requires
mark_all-requires c =
    subst AreAligned (sym c.deref-in-loop-number.ensures.value) (subst AreAligned (sym (ap (λ (i : Img). i.segments) c.image.view_is)) (segments_aligned c.index-images-number.result (subst IsSound c.image.view_is c.image.invariant)))

pub loop-number-preserved : goal.loop-number-preserved
loop-number-preserved c =
    let images = c.args.images.now in
    let n = c.loop-number.number in
    let own = segments_aligned c.index-images-number.result (subst IsSound c.image.view_is c.image.invariant) in
    let segments = c.deref-in-loop-number.ensures.value ∙ ap (λ (i : Img). i.segments) c.image.view_is in
    let tried = c.deref.ensures.value ∙ ap (λ (i : Img). i.segments) c.image.view_is in
    let more = segments_more c.args.images.now c.loop-number.number c.index-images-number.result c.loop-number-test.true c.index-images-number.is in
    let room : c.args.size ≤ 4096 * length c.loop-number.marks = omega (arith, whole_pages c.args.size c.args.mappings.now c.requires.mapped, c.loop-number.invariant.count) in
    record {
      clear = clear_more (segment_finding c.args.mappings.now c.args.images.now) c.args.images.now c.loop-number.number c.index-images-number.result c.loop-number.invariant.clear c.loop-number-test.true c.index-images-number.is
          (first_taken_is c.args.size c.args.mappings.now c.loop-number.marks c.args.images.now c.loop-number.number c.index-images-number.result None c.requires.mapped room c.loop-number.invariant.marked c.loop-number.invariant.aligned own
          (sym c.in_default.is ∙ (c.first_taken.ensures ∙ ap (λ (ss : List Seg). position (is_taken c.args.mappings.now c.loop-number.marks) ss) tried)));
      marked = subst (AreMarked c.mark_all.new.marks) (ap (λ (ss : List Seg). segments_of (take n images) ++ ss) segments ∙ sym more) (c.mark_all.ensures.marked (segments_of (take n images)) c.loop-number.invariant.marked);
      aligned = subst AreAligned (sym more) (aligned_append (segments_of (take n images)) c.index-images-number.result.segments c.loop-number.invariant.aligned own);
      count = c.mark_all.ensures.count ∙ c.loop-number.invariant.count;
    }

pub returns-in-Some : goal.returns-in-Some
returns-in-Some c =
    let own = segments_aligned c.index-images-number.result (subst IsSound c.image.view_is c.image.invariant) in
    let tried = c.deref.ensures.value ∙ ap (λ (i : Img). i.segments) c.image.view_is in
    let room : c.args.size ≤ 4096 * length c.loop-number.marks = omega (arith, whole_pages c.args.size c.args.mappings.now c.requires.mapped, c.loop-number.invariant.count) in
    clear_refused (segment_finding c.args.mappings.now c.args.images.now) c.args.images.now c.loop-number.number c.index-images-number.result c.found.result c.loop-number.invariant.clear c.loop-number-test.true c.index-images-number.is
    (found_at (segment_finding c.args.mappings.now c.args.images.now c.loop-number.number c.index-images-number.result) SegmentOutside c.loop-number.number c.in-Some.at c.in-Some.at c.found.result
    (first_taken_is c.args.size c.args.mappings.now c.loop-number.marks c.args.images.now c.loop-number.number c.index-images-number.result (Some c.in-Some.at) c.requires.mapped room c.loop-number.invariant.marked c.loop-number.invariant.aligned own
    (sym c.in-Some.is ∙ (c.first_taken.ensures ∙ ap (λ (ss : List Seg). position (is_taken c.args.mappings.now c.loop-number.marks) ss) tried))) refl c.found.ensures)

pub returns : goal.returns
returns c = clear_none (segment_finding c.args.mappings.now c.args.images.now) c.args.images.now c.loop-number.number c.loop-number.invariant.clear c.loop-number-test.false
