use Rattle.std.proofs.Common.{◌^◌, sym, ap, ◌∙◌, arith}
use Rattle.macho_image.specs.Records.{Seg}
use Rattle.cache_layout.proofs.MoveLaws.{room-fits}
use Rattle.ref_rewrite.proofs.SpanFacts.{owned_size}
use Rattle.ref_rewrite.proofs.spans.room_in.Goals as goal

pub page_up-room-requires : goal.page_up-room-requires
page_up-room-requires c =
    let s = c.segment-item.result in
    let room = room-fits c.args.mapping c.args.segments.now c.loop-segment.segment-index s (omega arith) c.segment-item.is in
    let size = owned_size c.args.mapping s (2 ^ 47) (sym c.has.ensures ∙ c.if-has.true) (omega (arith, room, c.requires)) in
    omega (arith, size, ap (λ (t : Seg). t.vmsize) c.segment.view_is)
