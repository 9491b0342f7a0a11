use Rattle.std.proofs.Common.{◌≡◌, ap, ◌∙◌, arith}
use Rattle.macho_image.specs.declared.place.Moved.{Moved}
use Rattle.cache_layout.specs.Places.{mapping_of, shift_of, segment_move, segment_shift}
use Rattle.cache_layout.specs.Rooms.{held}
use Rattle.cache_layout.proofs.NumberedLaws.{numbered-grown}
use Rattle.cache_layout.proofs.MoveLaws.{room-step, moved-next}
use Rattle.cache_layout.proofs.moving.put_segments.Goals as goal

pub loop-segment-preserved : goal.loop-segment-preserved
loop-segment-preserved c =
    let before = c.loop-segment.invariant in
    let starts = held c.args.next.now in
    let ss = c.args.segments.now in
    let n = c.loop-segment.segment-index in
    let s = c.segment-item.result in
    let moved : c.put_segment-moved.result ≡ segment_move starts ss n s = moved-next starts ss n s c.loop-segment.next c.put_segment-moved.result before.next c.put_segment-moved.ensures.moved in
    record {
      next = λ m. omega (arith, c.put_segment-moved.ensures.next m, before.next m, room-step m ss n s (omega arith) c.segment-item.is);
      moves = numbered-grown (segment_move starts ss) ss n s c.loop-segment.moves.items c.push.new.self.items c.put_segment-moved.result
          (omega arith) c.segment-item.is before.moves c.in_ok-push.ensures.items moved;
      shifts = numbered-grown (segment_shift starts ss) ss n s c.loop-segment.shifts.items c.push-in-loop-segment.new.self.items c.shift_of.result
          (omega arith) c.segment-item.is before.shifts c.in_ok-push-2.ensures.items (c.shift_of.ensures ∙ ap (λ (m : Moved). shift_of (mapping_of s) m.address s.vmaddr) moved);
    }
