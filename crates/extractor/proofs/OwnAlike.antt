-- The image that a file has is linked, exports and lies as the cached one.
use Rattle.std.proofs.Common.{◌≡◌, ℕ, ◌+◌, Bool, true, false, Option, Some, None, List, [], ◌∷◌, ◌++◌, map, refl, sym, ap, ap₂, ◌∙◌, arith, if◌then◌else◌}
use Rattle.std.specs.Prelude.{find, codes}
use Rattle.std.specs.Cmp.Lexicographic.{same_text}
use Rattle.std.proofs.lemmas.Bool.{false≢true}
use Rattle.dsc_base.specs.Region.{paged}
use Rattle.macho_image.specs.Records.{Seg, Img}
use Rattle.macho_image.specs.Breaks.{IsSound}
use Rattle.macho_image.specs.Rules.{is_linkedit_segment, is_linkedit_name, is_text_name}
use Rattle.macho_image.specs.Places.{wrap}
use Rattle.macho_image.specs.Segments.{is_text_segment, start_of, header_address, inside}
use Rattle.macho_image.specs.declared.place.Location.{Location}
use Rattle.macho_image.specs.declared.places.segment_index.Inside.{Inside}
use Rattle.macho_image.proofs.SegmentLaws.{inside_some, inside_here}
use Rattle.macho_image.proofs.SoundSegments.{segments_keep_apart}
use Rattle.macho_edit.specs.declared.spots.LinkSpots.{LinkSpots}
use Rattle.macho_edit.specs.MovedImage.{seated, seated_all, standalone_image}
use Rattle.macho_edit.specs.Placed.{places_of}
use Rattle.macho_edit.specs.Segments.{place_for, linkedit_place, own_place}
use Rattle.export_trie.specs.declared.export.Target.{Target}
use Rattle.export_trie.specs.declared.export.Target.TheVariants.{Offset, Absolute, Reexport}
use Rattle.prebind.specs.Agree.{extent, body_extent}
use Rattle.prebind.specs.Places.{address_of_export, is_linkedit_at, is_stray, strays}
use Rattle.extractor.specs.ExtractOf.{moves_from, spots_of, file_of}
use Rattle.extractor.proofs.AgreeLaws.{IsAlike}
use Rattle.extractor.proofs.OwnSegments.{own_segment}
use Rattle.extractor.proofs.OwnStreams.{own_image, HasStreams}

-- ---- segments

-- a segment of the file has the extent of the cached one
seated_extent : (b : List ℕ) (spots : LinkSpots) (file : ℕ) (s : Seg) (named : Bool) → is_linkedit_name s.name ≡ named
    → (if named then None else Some (extent (seated b (if named then linkedit_place spots else own_place (record { address = s.vmaddr; file = file }) s.vmsize) s))) ≡ (if named then None else Some (extent s))
seated_extent b spots file s true is = refl
seated_extent b spots file s false is = refl

extents_from : (b : List ℕ) (spots : LinkSpots) (at : ℕ) (ss : List Seg) → map body_extent (seated_all b (places_of spots (moves_from at ss) ss) ss) ≡ map body_extent ss
unfolding moves_from place_for
extents_from b spots at [] = refl
extents_from b spots at (s ∷ ss) =
    ap₂ (λ (e : Option (ℕ × ℕ)) (es : List (Option (ℕ × ℕ))). e ∷ es) (seated_extent b spots at s (is_linkedit_name s.name) refl) (extents_from b spots (paged (at + s.vmsize)) ss)

-- `__TEXT` stays
text_other : (name : List ℕ) → is_text_name name ≡ true → is_linkedit_name name ≡ false
text_other name is = ap is_linkedit_name (same_text name (codes "__TEXT" ++ (0 ∷ 0 ∷ 0 ∷ 0 ∷ 0 ∷ 0 ∷ 0 ∷ 0 ∷ 0 ∷ 0 ∷ [])) (sym is))

text_at : (b : List ℕ) (spots : LinkSpots) (file : ℕ) (s : Seg) → is_text_name s.name ≡ true → (seated b (place_for spots (record { address = s.vmaddr; file = file }) s.name s.vmsize) s).vmaddr ≡ s.vmaddr
unfolding place_for
text_at b spots file s is = ap (λ (t : Bool). (if t then linkedit_place spots else own_place (record { address = s.vmaddr; file = file }) s.vmsize).address) (text_other s.name is)

header_from : (b : List ℕ) (spots : LinkSpots) (at : ℕ) (ss : List Seg) → header_address (seated_all b (places_of spots (moves_from at ss) ss) ss) ≡ header_address ss
unfolding moves_from header_address is_text_segment
header_from b spots at [] = refl
header_from b spots at (s ∷ ss) = by (is_text_name s.name) refl (header_from b spots (paged (at + s.vmsize)) ss)
  where
    by : (t : Bool) → is_text_name s.name ≡ t → start_of (find is_text_segment (seated_all b (places_of spots (moves_from (paged (at + s.vmsize)) ss) ss) ss)) ≡ start_of (find is_text_segment ss)
        → start_of (if t then Some (seated b (place_for spots (record { address = s.vmaddr; file = at }) s.name s.vmsize) s) else find is_text_segment (seated_all b (places_of spots (moves_from (paged (at + s.vmsize)) ss) ss) ss)) ≡ start_of (if t then Some s else find is_text_segment ss)
    by true is rest = text_at b spots at s is
    by false is rest = rest

pub own_alike : (k : ℕ) (i : Img) (words : List Location) → HasStreams i (own_image k i words) words → IsAlike i (own_image k i words)
unfolding own_image standalone_image
own_alike k i words streams = record {
  name = refl;
  needs = refl;
  exports = streams.exports;
  header = header_from (file_of k i words) (spots_of k i words) 0 i.segments;
  bodies = extents_from (file_of k i words) (spots_of k i words) 0 i.segments;
}

-- ---- an export that leads into a segment other than `__LINKEDIT` does so in the file

place_stays : (k : ℕ) (i : Img) (words : List Location) (x : ℕ) (found : Option Inside) → IsSound (own_image k i words) → inside i.segments x ≡ found → is_stray i.segments found ≡ false
    → is_stray (own_image k i words).segments (inside (own_image k i words).segments x) ≡ false
place_stays k i words x None sound is stays = absurd (false≢true (sym stays))
place_stays k i words x (Some p) sound is stays =
    let at = inside_some i.segments x p is in
    let s = at.0 in
    let other : is_linkedit_segment s ≡ false = sym (ap is_linkedit_at at.1) ∙ stays in
    let own = own_segment k p.segment i words s at.1 other in
    let size = own.like.size in
    let here = inside_here (own_image k i words).segments p.segment own.own x (segments_keep_apart (own_image k i words) sound) own.there (omega (arith, own.like.address, at.2)) (omega (arith, own.like.address, size, at.2, at.3, at.4)) in
    ap (λ (o : Option Inside). is_stray (own_image k i words).segments o) here
    ∙ (ap is_linkedit_at own.there ∙ (ap is_linkedit_name own.named ∙ other))

pub target_stays : (k : ℕ) (i : Img) (words : List Location) (t : Target) → IsSound (own_image k i words) → IsAlike i (own_image k i words) → strays i.segments t ≡ false → strays (own_image k i words).segments t ≡ false
target_stays k i words (Offset offset) sound alike stays =
    let same : address_of_export (own_image k i words).segments offset ≡ address_of_export i.segments offset = ap (λ (h : ℕ). wrap (h + offset)) alike.header in
    ap (λ (x : ℕ). is_stray (own_image k i words).segments (inside (own_image k i words).segments x)) same
    ∙ place_stays k i words (address_of_export i.segments offset) (inside i.segments (address_of_export i.segments offset)) sound refl stays
target_stays k i words (Absolute value) sound alike stays = refl
target_stays k i words (Reexport ordinal name) sound alike stays = refl
