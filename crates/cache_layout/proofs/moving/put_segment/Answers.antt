use Rattle.std.proofs.Common.{◌^◌, arith}
use Rattle.cache_layout.proofs.RoomLaws.{room_covers}
use Rattle.cache_layout.proofs.moving.put_segment.Goals as goal

pub whole_pages-requires : goal.whole_pages-requires
whole_pages-requires c =
    room_covers (2 ^ 62) c.in-Some.mapping c.args.segment.now c.in-Some.ensures (omega (arith, c.requires.small c.in-Some.mapping))
