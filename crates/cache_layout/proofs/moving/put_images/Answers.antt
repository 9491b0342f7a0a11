use Rattle.std.proofs.Common.{◌≡◌, List, ℕ, Vec, Global, map, take, ap, ap₂, ◌∙◌, arith}
use Rattle.std.proofs.lemmas.List.{take_all}
use Rattle.macho_image.specs.Records.{Seg, Img}
use Rattle.cache_layout.specs.Places.{image_start, segments_room, image_moves, image_shifts, moves_at, shifts_at, all_moves, all_shifts, numbered}
use Rattle.cache_layout.specs.Rooms.{held}
use Rattle.cache_layout.proofs.NumberedLaws.{numbered-grown, map-push}
use Rattle.cache_layout.proofs.MoveLaws.{rooms-step}
use Rattle.cache_layout.proofs.moving.put_images.Goals as goal

pub loop-image-preserved : goal.loop-image-preserved
loop-image-preserved c =
    let before = c.loop-image.invariant in
    let is = c.args.images.now in
    let n = c.loop-image.image-index in
    let i = c.image-item.result in
    let same : c.deref.result.now ≡ i.segments = c.deref.ensures.value ∙ ap (λ (i : Img). i.segments) c.image.view_is in
    let starts : held c.loop-image.next ≡ image_start is (take n is) = λ j m. before.next m j in
    record {
      next = λ m. omega (arith, c.in_ok-moving.ensures.next m, before.next m, ap (λ (ss : List Seg). segments_room m ss) same, rooms-step m is n i (omega arith) c.image-item.is);
      moves = numbered-grown (moves_at is) is n i c.loop-image.moves.items c.push.new.self.items c.in_ok-moving.moving.moves
          (omega arith) c.image-item.is before.moves c.in_ok-push.ensures.items
          (c.in_ok-moving.ensures.moves ∙ ap₂ image_moves starts same);
      shifts = numbered-grown (shifts_at is) is n i (map (λ (v : Vec ℕ Global). v.items) c.loop-image.shifts.items) (map (λ (v : Vec ℕ Global). v.items) c.push-in-loop-image.new.self.items) c.in_ok-moving.moving.shifts.items
          (omega arith) c.image-item.is before.shifts
          (ap (λ (l : List (Vec ℕ Global)). map (λ (v : Vec ℕ Global). v.items) l) c.in_ok-push-2.ensures.items ∙ map-push (λ (v : Vec ℕ Global). v.items) c.loop-image.shifts.items c.in_ok-moving.moving.shifts)
          (c.in_ok-moving.ensures.shifts ∙ ap₂ image_shifts starts same);
    }

pub returns-clause-moves : goal.returns-clause-moves
unfolding all_moves
returns-clause-moves c =
    let is = c.args.images.now in
    c.loop-image.invariant.moves ∙ ap (λ (l : List Img). numbered (moves_at is) l) (take_all c.loop-image.image-index is (omega arith))

pub returns-clause-shifts : goal.returns-clause-shifts
unfolding all_shifts
returns-clause-shifts c =
    let is = c.args.images.now in
    c.loop-image.invariant.shifts ∙ ap (λ (l : List Img). numbered (shifts_at is) l) (take_all c.loop-image.image-index is (omega arith))
