use Rattle.std.proofs.Common.{◌≡◌, ◌≤◌, ◌^◌, List, sym, ap, subst, ◌∙◌, arith}
use Rattle.macho_image.specs.Records.{Seg, Img}
use Rattle.cache_layout.specs.Places.{segments_room}
use Rattle.cache_layout.proofs.SpaceLaws.{sound_room}
use Rattle.cache_layout.proofs.MoveLaws.{rooms-step}
use Rattle.cache_layout.proofs.room.images_room.Goals as goal

pub segments_room-requires : goal.segments_room-requires
segments_room-requires c = λ m.
    subst (λ (ss : List Seg). segments_room m ss ≤ 2 ^ 47) (sym (c.deref.ensures.value ∙ ap (λ (i : Img). i.segments) c.image.view_is))
    (sound_room c.image-item.result c.facts.ensures m)

pub add-requires : goal.add-requires
add-requires c = λ m.
    let is = ap (λ (ss : List Seg). segments_room m ss) (c.deref.ensures.value ∙ ap (λ (i : Img). i.segments) c.image.view_is) in
    omega (arith, c.loop-image.invariant.fits m, c.segments_room.ensures m, is, sound_room c.image-item.result c.facts.ensures m)

pub loop-image-preserved : goal.loop-image-preserved
loop-image-preserved c =
    let same : c.deref.result.now ≡ c.image-item.result.segments = c.deref.ensures.value ∙ ap (λ (i : Img). i.segments) c.image.view_is in
    record {
      sums = λ m. omega (
        arith,
        c.add.ensures m,
        c.loop-image.invariant.sums m,
        c.segments_room.ensures m,
        ap (λ (ss : List Seg). segments_room m ss) same,
        rooms-step m c.args.images.now c.loop-image.image-index c.image-item.result (omega arith) c.image-item.is,
      );
      fits = λ m. omega (
        arith,
        c.add.ensures m,
        c.loop-image.invariant.fits m,
        c.segments_room.ensures m,
        ap (λ (ss : List Seg). segments_room m ss) same,
        sound_room c.image-item.result c.facts.ensures m,
      );
    }
