use Rattle.std.proofs.Common.{[], length, get_or, ap, arith}
use Rattle.macho_image.specs.Records.{Img}
use Rattle.cache_layout.specs.Layouts.{Laid}
use Rattle.cache_layout.proofs.PlaceLaws.{length-moves, length-shifts, length-shifts-of}
use Rattle.cache_layout.proofs.tests.push_places.Goals as goal

pub moves-moves-requires : goal.moves-moves-requires
moves-moves-requires c = omega (arith, c.requires.image, ap (λ (l : Laid). length l.moves) c.requires.layout, length-moves c.args.images.now)

pub shift-requires-clause-image : goal.shift-requires-clause-image
shift-requires-clause-image c = omega (arith, c.requires.image, ap (λ (l : Laid). length l.shifts) c.requires.layout, length-shifts c.args.images.now)

pub shift-requires-clause-segment : goal.shift-requires-clause-segment
shift-requires-clause-segment c =
    let i = c.index-images-number.result in
    let listed = ap (λ (l : Laid). length (get_or l.shifts c.args.number [])) c.requires.layout in
    let segments = ap (λ (i : Img). length i.segments) c.image.view_is in
    let all = length-shifts-of c.args.images.now c.args.number i c.requires.image c.index-images-number.is in
    omega (arith, listed, segments, all, c.len-segments.ensures)
