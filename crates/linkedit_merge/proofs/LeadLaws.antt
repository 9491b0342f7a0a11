-- An export with its moved offset leads to the byte to which it led.
use Rattle.std.proofs.Common.{◌≡◌, ◌≤◌, ℕ, ◌+◌, ◌^◌, List, Some, ap, ◌∙◌, arith}
use Rattle.macho_image.specs.Records.{Seg}
use Rattle.macho_image.specs.declared.place.Moved.{Moved}
use Rattle.macho_image.specs.declared.places.segment_index.Inside.{Inside}
use Rattle.macho_image.specs.Places.{wrap}
use Rattle.macho_image.specs.Segments.{inside}
use Rattle.prebind.specs.Places.{address_of_export}
use Rattle.linkedit_merge.specs.Exports.{new_start, new_header, offset_from, moved_offset}
use Rattle.macho_image.proofs.AboveLaws.{added_above}

-- the new header's address and the moved offset make the address of the same distance in the segment where it stands now
pub leads_along : (segments : List Seg) (moves : List Moved) (offset : ℕ) (p : Inside) → new_header segments moves ≤ 2 ^ 64 → inside segments (address_of_export segments offset) ≡ Some p
    → wrap (new_header segments moves + moved_offset segments moves offset) ≡ wrap (new_start moves p.segment + p.distance)
unfolding moved_offset
leads_along segments moves offset p low found =
    ap (λ o. wrap (new_header segments moves + offset_from segments moves offset o)) found
    ∙ added_above (new_header segments moves) (wrap (new_start moves p.segment + p.distance)) low (omega arith)
