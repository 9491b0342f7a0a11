-- The header in place of the one of the cache.
use Rattle.std.proofs.Common.{◌∙◌, ℕ, List, length, ap, sym, subst, arith, length-append}
use Rattle.macho_image.specs.Records.{Seg, Img}
use Rattle.macho_image.specs.declared.place.Moved.{Moved}
use Rattle.macho_edit.specs.Conditions.{CanMove}
use Rattle.macho_edit.specs.declared.spots.LinkSpots.{LinkSpots}
use Rattle.extractor.specs.ExtractOf.{moves_from, body_bytes, linkedit_of}
use Rattle.extractor.specs.Files.{all_pages, last_file}
use Rattle.extractor.proofs.BodyLaws.{pages_low, bodies_fit, bodies_long, header_fits}
use Rattle.extractor.proofs.FileLaws.{with_header, header_is, written_back}
use Rattle.extractor.proofs.MoveLaws.{last_body, some_moves}
use Rattle.extractor.proofs.SpotLaws.{can_move}
use Rattle.extractor.proofs.extracting.write_file.Goals as goal

pub moves_of-requires : goal.moves_of-requires
moves_of-requires c =
    let segments = c.deref.ensures.value ∙ ap (λ (j : Img). j.segments) c.image.view_is in
    let pages = ap (λ (ss : List Seg). all_pages ss) segments in
    omega (arith, pages, pages_low c.args.image.now c.facts.ensures)

pub last_place-start-requires : goal.last_place-start-requires
last_place-start-requires c =
    let segments = c.deref.ensures.value ∙ ap (λ (j : Img). j.segments) c.image.view_is in
    let moves = c.in_ok-moves.ensures ∙ ap (λ (ss : List Seg). moves_from 0 ss) segments in
    let many = ap (λ (ms : List Moved). length ms) moves in
    omega (arith, many, some_moves c.args.image.now c.facts.ensures)

pub write_parts-requires-clause-start : goal.write_parts-requires-clause-start
write_parts-requires-clause-start c =
    let segments = c.deref.ensures.value ∙ ap (λ (j : Img). j.segments) c.image.view_is in
    let moves = c.in_ok-moves.ensures ∙ ap (λ (ss : List Seg). moves_from 0 ss) segments in
    c.last_place-start.ensures ∙ (ap last_file moves ∙ last_body c.args.image.now c.facts.ensures c.requires.ready.bodies)

pub write_parts-requires-clause-low : goal.write_parts-requires-clause-low
write_parts-requires-clause-low c =
    let i = c.args.image.now in
    let segments = c.deref.ensures.value ∙ ap (λ (j : Img). j.segments) c.image.view_is in
    let moves = c.in_ok-moves.ensures ∙ ap (λ (ss : List Seg). moves_from 0 ss) segments in
    let start = c.last_place-start.ensures ∙ (ap last_file moves ∙ last_body c.args.image.now c.facts.ensures c.requires.ready.bodies) in
    omega (arith, start, bodies_long i c.facts.ensures c.requires.ready.bodies, bodies_fit i c.facts.ensures c.requires.ready.bodies)

pub standalone_header-requires : goal.standalone_header-requires
standalone_header-requires c =
    let segments = c.deref.ensures.value ∙ ap (λ (j : Img). j.segments) c.image.view_is in
    let moves = c.in_ok-moves.ensures ∙ ap (λ (ss : List Seg). moves_from 0 ss) segments in
    subst (λ (ms : List Moved). CanMove c.args.image.now ms c.in_ok-out.spots) (sym moves)
    (subst (λ (s : LinkSpots). CanMove c.args.image.now (moves_from 0 c.args.image.now.segments) s) (sym c.in_ok-out.ensures.spots) (can_move c.args.number c.args.image.now c.args.words.now c.facts.ensures c.requires.ready))

pub put_header-requires : goal.put_header-requires
put_header-requires c =
    let i = c.args.image.now in
    let long = ap (λ (l : List ℕ). length l) (c.deref_mut.ensures.value ∙ c.in_ok-out.ensures.bytes) in
    let header = ap (λ (l : List ℕ). length l) c.deref-2.ensures.value in
    omega (arith, long, header, c.in_ok-header.ensures.size, length-append (body_bytes i) (linkedit_of i c.args.words.now), header_fits i c.facts.ensures)

pub returns : goal.returns
returns c =
    let i = c.args.image.now in
    let segments = c.deref.ensures.value ∙ ap (λ (j : Img). j.segments) c.image.view_is in
    let moves = c.in_ok-moves.ensures ∙ ap (λ (ss : List Seg). moves_from 0 ss) segments in
    let long = ap (λ (l : List ℕ). length l) c.deref-2.ensures.value in
    written_back c.in_ok-out.out.items c.deref_mut.result.now c.put_header.new.out c.in_ok-out.out.len c.deref_mut.ensures.value c.deref_mut.ensures.len c.put_header.auto.out
    ∙ with_header c.args.number i c.args.words.now c.deref-2.result.now c.deref_mut.result.now c.put_header.new.out
    (header_is c.args.number i c.args.words.now c.deref-2.result.now c.in_ok-moves.moves c.in_ok-out.spots moves c.in_ok-out.ensures.spots (c.deref-2.ensures.value ∙ c.in_ok-header.ensures.bytes))
    (c.deref_mut.ensures.value ∙ c.in_ok-out.ensures.bytes) (omega (arith, long, c.in_ok-header.ensures.size, header_fits i c.facts.ensures)) c.put_header.ensures
