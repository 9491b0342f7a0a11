use Rattle.std.proofs.Common.{◌≡◌, ◌≤◌, ◌+◌, ◌-◌, ◌*◌, ap, arith, suc, length, length-drop}
use Rattle.macho_image.proofs.Segments.{sections_step}
use Rattle.macho_image.proofs.segment.read_sections.Goals as goal

pub loop-preserved : goal.loop-preserved
loop-preserved c =
    let more : c.args.count - c.loop.counter ≡ suc (c.args.count - (c.loop.counter + 1)) = omega arith in
    let room : 80 * (c.args.count - (c.loop.counter + 1)) ≤ length c.behind-rest.result.now = omega (arith, ap length c.behind-rest.ensures, length-drop 80 c.loop.rest.now, c.loop.invariant.0) in
    (room, sections_step _ _ _ _ _ _ _ _ c.loop.invariant.1 more c.behind-rest.ensures c.section_fields.ensures c.in_ok-push.ensures.items)
