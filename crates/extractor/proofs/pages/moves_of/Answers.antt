-- One segment more.
use Rattle.std.proofs.Common.{◌+◌, ◌∙◌, ap, arith}
use Rattle.dsc_base.specs.Region.{paged}
use Rattle.macho_image.specs.Records.{Seg}
use Rattle.macho_image.specs.declared.place.Moved.{Moved}
use Rattle.extractor.proofs.MoveLaws.{move_room, move_next, moves_all}
use Rattle.extractor.proofs.pages.moves_of.Goals as goal

pub overflow_add-file : goal.overflow_add-file
overflow_add-file c =
    let size = ap (λ (s : Seg). s.vmsize) c.segment.view_is in
    let room = move_room c.loop-segment.file c.loop-segment.segment-index c.args.segments.now c.segment-item.result c.loop-segment-test.true c.segment-item.is c.loop-segment.invariant.low in
    omega (arith, size, room)

pub page_up-file-requires : goal.page_up-file-requires
page_up-file-requires c =
    let size = ap (λ (s : Seg). s.vmsize) c.segment.view_is in
    let room = move_room c.loop-segment.file c.loop-segment.segment-index c.args.segments.now c.segment-item.result c.loop-segment-test.true c.segment-item.is c.loop-segment.invariant.low in
    omega (arith, size, room)

pub loop-segment-preserved : goal.loop-segment-preserved
loop-segment-preserved c =
    let is = move_next c.loop-segment.file c.page_up-file.result c.loop-segment.segment-index c.args.segments.now c.segment-item.result (record { address = c.segment.inside.vmaddr; file = c.loop-segment.file }) c.loop-segment.moves.items c.push.new.self.items
    c.loop-segment-test.true c.segment-item.is c.loop-segment.invariant.moves c.loop-segment.invariant.whole c.loop-segment.invariant.low
    (ap (λ (s : Seg). let m : Moved = record { address = s.vmaddr; file = c.loop-segment.file } in m) c.segment.view_is) c.in_ok-push.ensures.items
    (c.page_up-file.ensures.value ∙ ap (λ (s : Seg). paged (c.loop-segment.file + s.vmsize)) c.segment.view_is) in
    record { moves = is.moves; whole = is.whole; low = is.low }

pub returns : goal.returns
returns c = moves_all c.loop-segment.file c.loop-segment.segment-index c.args.segments.now c.loop-segment.moves.items c.loop-segment-test.false c.loop-segment.invariant.moves
