use Rattle.std.proofs.Common.{◌<◌, Some, None, length, arith, sym, refl, ap, ◌∙◌}
use Rattle.dsc_base.specs.declared.finding_kind.FindingKind.TheVariants.{PointerNotSymbol}
use Rattle.macho_image.specs.Records.{Img}
use Rattle.cache_check.proofs.EachLaws.{clear_start, clear_more, clear_refused, clear_none, found_at}
use Rattle.extractor.specs.Vetting.{pointer_in, cached_set}
use Rattle.extractor.proofs.PointerLaws.{bound_long, own_bound, pointer_is}
use Rattle.extractor.proofs.pointers.check_pointers.Goals as goal

pub bounds-bound-number : goal.bounds-bound-number
bounds-bound-number c = let long = bound_long c.args.images.now c.args.bound.now c.requires.bound in omega (arith, long, c.loop-number-test.true)

pub loop-number-init : goal.loop-number-init
loop-number-init c = clear_start (pointer_in c.args.start c.args.words.now (cached_set c.args.images.now)) c.args.images.now

pub loop-number-preserved : goal.loop-number-preserved
loop-number-preserved c =
    let images = c.args.images.now in
    let lt : c.loop-number.number < length c.args.bound.now = omega (arith, bound_long c.args.images.now c.args.bound.now c.requires.bound, c.loop-number-test.true) in
    let segments = c.deref.ensures.value ∙ ap (λ (i : Img). i.segments) c.image.view_is in
    let own = c.deref-in-loop-number.ensures.value ∙ own_bound (cached_set images) c.args.bound.now c.loop-number.number c.index-bound-number.result c.requires.bound lt c.index-bound-number.is in
    clear_more (pointer_in c.args.start c.args.words.now (cached_set c.args.images.now)) c.args.images.now c.loop-number.number c.index-images-number.result c.loop-number.invariant c.loop-number-test.true c.index-images-number.is
    (pointer_is c.args.start c.args.words.now c.args.images.now c.loop-number.number c.index-images-number.result c.deref.result.now c.deref-in-loop-number.result.now None segments own (sym c.in_default.is ∙ c.first_unset.ensures))

pub returns-in-Some : goal.returns-in-Some
returns-in-Some c =
    let images = c.args.images.now in
    let lt : c.loop-number.number < length c.args.bound.now = omega (arith, bound_long c.args.images.now c.args.bound.now c.requires.bound, c.loop-number-test.true) in
    let segments = c.deref.ensures.value ∙ ap (λ (i : Img). i.segments) c.image.view_is in
    let own = c.deref-in-loop-number.ensures.value ∙ own_bound (cached_set images) c.args.bound.now c.loop-number.number c.index-bound-number.result c.requires.bound lt c.index-bound-number.is in
    clear_refused (pointer_in c.args.start c.args.words.now (cached_set c.args.images.now)) c.args.images.now c.loop-number.number c.index-images-number.result c.found.result c.loop-number.invariant c.loop-number-test.true c.index-images-number.is
    (found_at (pointer_in c.args.start c.args.words.now (cached_set c.args.images.now) c.loop-number.number c.index-images-number.result) PointerNotSymbol c.loop-number.number c.in-Some.at c.in-Some.at c.found.result
    (pointer_is c.args.start c.args.words.now c.args.images.now c.loop-number.number c.index-images-number.result c.deref.result.now c.deref-in-loop-number.result.now (Some c.in-Some.at) segments own (sym c.in-Some.is ∙ c.first_unset.ensures))
    refl c.found.ensures)

pub returns : goal.returns
returns c = clear_none (pointer_in c.args.start c.args.words.now (cached_set c.args.images.now)) c.args.images.now c.loop-number.number c.loop-number.invariant c.loop-number-test.false
