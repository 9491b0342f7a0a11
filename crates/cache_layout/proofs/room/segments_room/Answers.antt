use Rattle.std.proofs.Common.{◌^◌, arith}
use Rattle.cache_layout.proofs.RoomLaws.{room_covers}
use Rattle.cache_layout.proofs.MoveLaws.{room-fits}
use Rattle.cache_layout.proofs.room.segments_room.Goals as goal

pub whole_pages-requires : goal.whole_pages-requires
whole_pages-requires c =
    let m = c.in-Some.mapping in
    room_covers (2 ^ 62) m c.segment-item.result c.in-Some.ensures
    (omega (arith, c.requires m, room-fits m c.args.segments.now c.loop-segment.segment-index c.segment-item.result (omega arith) c.segment-item.is))
