-- The pages of the segments of sound images are whole, whatever headers stand in front that are as long as their own.
use Rattle.std.proofs.Common.{◌≡◌, ◌≤◌, ℕ, zero, suc, Option, List, [], drop, length, get_or, refl, sym, ap, ◌∙◌, subst, arith, length-append}
use Rattle.std.proofs.lemmas.List.{length-drop}
use Rattle.std.proofs.lemmas.Option.{slice_get_read}
use Rattle.dsc_base.specs.Region.{paged}
use Rattle.dsc_base.specs.declared.fault.Span.{Span}
use Rattle.macho_image.specs.Records.{Seg, Img}
use Rattle.macho_image.specs.Breaks.{IsSound}
use Rattle.macho_image.specs.Segments.{segments_in}
use Rattle.cache_layout.specs.declared.mapping.Mapping.TheVariants.{Writable}
use Rattle.cache_layout.specs.Layouts.{layout_of}
use Rattle.cache_layout.specs.Apart.{IsSegment}
use Rattle.cache_layout.specs.Parts.{mapping_part, AreWholePages}
use Rattle.cache_layout.proofs.PartLaws.{length-mapping_part}
use Rattle.cache_layout.proofs.PlaceLaws.{range_in-is}
use Rattle.cache_layout.proofs.RoomLaws.{paged-covers}
use Rattle.ref_rewrite.specs.Pages.{bytes_with, pages_of, pages_at, segment_pages, all_pages}
use Rattle.ref_rewrite.specs.Planned.{AreSized}
use Rattle.ref_rewrite.proofs.HomeLaws.{bytes_fit, header_fits}
use Rattle.cache_build.proofs.FitsLaws.{AreSound}
use Rattle.ref_rewrite.proofs.PageLaws.{padded_long}

-- the header in front leaves a segment as long as it is
pub headed_long : (header : List ℕ) (g : ℕ) (s : Seg) → (g ≡ 0 → length header ≤ length s.bytes) → length (bytes_with header g s) ≡ length s.bytes
headed_long header zero s fits = length-append header (drop (length header) s.bytes) ∙ omega (arith, fits refl, length-drop (length header) s.bytes)
headed_long header (suc g) s fits = refl

-- the pages of a segment
pub pages_there : (headers : List (List ℕ)) (is : List Img) (k g : ℕ) (i : Img) (s : Seg) → IsSegment is k g i s → all_pages headers is k g ≡ pages_of (get_or headers k []) g s
pages_there headers is k g i s there =
    ap (λ (o : Option Img). segment_pages (get_or headers k []) (segments_in o) g) (slice_get_read is (length is) k i refl there.image_in there.image_is)
    ∙ ap (λ (o : Option Seg). pages_at (get_or headers k []) g o) (slice_get_read i.segments (length i.segments) g s refl there.segment_in there.segment_is)

pub whole_pages : (headers : List (List ℕ)) (is : List Img) → AreSound is → AreSized headers is → AreWholePages (all_pages headers is) is
whole_pages headers is sound sized k g i s there owned =
    let header : List ℕ = get_or headers k [] in
    let own : IsSound i = subst IsSound (sym there.image_is) (sound k i there.image_in) in
    let long : length (get_or headers k []) ≡ length i.header = sized k i (slice_get_read is (length is) k i refl there.image_in there.image_is) in
    let first : g ≡ 0 → length (get_or headers k []) ≤ length s.bytes =
    λ at. omega (arith, long, header_fits i own s (omega (arith, there.segment_in)) (subst (λ (n : ℕ). s ≡ get_or i.segments n s) at there.segment_is)) in
    let few : length (bytes_with header g s) ≤ paged s.vmsize = omega (arith, headed_long header g s first, bytes_fit i own g s there.segment_in there.segment_is, paged-covers s.vmsize) in
    ap (λ (b : List ℕ). length b) (pages_there headers is k g i s there) ∙ padded_long (paged s.vmsize) (bytes_with header g s) few

-- so the data are as long as the layout says
pub data_long : (headers : List (List ℕ)) (is : List Img) → AreSound is → AreSized headers is → length (mapping_part Writable (all_pages headers is) is) ≡ (layout_of is).writable.len
data_long headers is sound sized =
    length-mapping_part Writable (all_pages headers is) is (whole_pages headers is sound sized) ∙ sym (ap (λ (r : Span). r.len) (range_in-is is Writable))
