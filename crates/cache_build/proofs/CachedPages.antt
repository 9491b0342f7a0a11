-- The pages of each segment of a set in its cache, which are whole, and the header in front of the first one, which is as long as the image's own.
use Rattle.std.proofs.Common.{◌≡◌, ◌≤◌, ◌<◌, ℕ, ◌+◌, Option, List, [], ◌++◌, take, length, map, get_or, refl, sym, ap, ◌∙◌, subst, arith, length-append}
use Rattle.std.specs.Prelude.{slice_index_or}
use Rattle.std.specs.List.{concat}
use Rattle.std.proofs.lemmas.List.{length-take-le, get_or-map}
use Rattle.std.proofs.lemmas.Option.{slice_get_read}
use Rattle.dsc_base.specs.Region.{paged}
use Rattle.macho_image.specs.declared.place.Moved.{Moved}
use Rattle.macho_image.specs.Records.{Seg, Img}
use Rattle.macho_image.specs.Segments.{segments_in}
use Rattle.macho_edit.specs.declared.spots.LinkSpots.{LinkSpots}
use Rattle.macho_edit.specs.Cached.{cached_commands, cached_front, kept_header, cached_bytes}
use Rattle.macho_edit.proofs.FrontLaws.{cached_fit, length-cached_front}
use Rattle.nlist_table.specs.Symbols.{Tabs, tables_of}
use Rattle.cache_layout.specs.Layouts.{layout_of}
use Rattle.cache_layout.specs.Apart.{IsSegment}
use Rattle.cache_layout.specs.Parts.{AreWholePages}
use Rattle.cache_layout.proofs.NumberedLaws.{numbered-get, length-numbered}
use Rattle.cache_layout.proofs.RoomLaws.{paged-covers}
use Rattle.ref_rewrite.specs.Pages.{bytes_with, pages_of, pages_at, segment_pages}
use Rattle.ref_rewrite.proofs.HomeLaws.{bytes_fit, header_fits}
use Rattle.linkedit_merge.specs.Shares.{Share, no_tables, share_of, share_at, shares_of}
use Rattle.linkedit_merge.specs.Linkedit.{spots_in, spots_of}
use Rattle.cache_build.specs.Cache.{no_spots, header_of}
use Rattle.cache_build.proofs.BuildableSets.{IsAccepted, set_shares, set_start, set_spots, set_headers, set_pages}
use Rattle.cache_build.proofs.CachePlaces.{sound_in}
use Rattle.macho_image.proofs.HeaderRules.{sound_rules}
use Rattle.macho_image.proofs.WalkLaws.{sound_front}
use Rattle.ref_rewrite.proofs.PageLaws.{padded_long}
use Rattle.cache_build.proofs.SizedPages.{headed_long}

-- ---- the spots of an image

kept_six : (image : Img) → length (tables_of image).groups ≡ 6
unfolding tables_of
kept_six image = refl

abbrev own_share : List Img → ℕ → Img → Share
own_share is k i = share_at (map tables_of is) (layout_of is).moves k i

share_is : (is : List Img) (k : ℕ) (i : Img) (d : Share) → k < length is → i ≡ get_or is k i → get_or (set_shares is) k d ≡ own_share is k i
unfolding shares_of
share_is is k i d lt at = numbered-get (share_at (map tables_of is) (layout_of is).moves) is k i d lt at

length-shares : (is : List Img) → length (set_shares is) ≡ length is
unfolding shares_of
length-shares is = length-numbered (share_at (map tables_of is) (layout_of is).moves) is

share_six : (is : List Img) (k : ℕ) (i : Img) → k < length is → i ≡ get_or is k i → length (own_share is k i).tables.groups ≡ 6
unfolding share_of
share_six is k i lt at = ap (λ (t : Tabs). length t.groups) (get_or-map tables_of is k i no_tables lt ∙ ap tables_of (sym at)) ∙ kept_six i

spots_are : (bits : ℕ) (is : List Img) (k : ℕ) (i : Img) → k < length is → i ≡ get_or is k i → get_or (set_spots bits is) k no_spots ≡ spots_in (set_start bits is) (set_shares is) k (own_share is k i)
unfolding spots_of
spots_are bits is k i lt at =
    numbered-get (spots_in (set_start bits is) (set_shares is)) (set_shares is) k (own_share is k i) no_spots (omega (arith, lt, length-shares is)) (sym (share_is is k i (own_share is k i) lt at))

-- they have six numbers of groups
pub spots_six : (bits : ℕ) (is : List Img) (k : ℕ) (i : Img) → k < length is → i ≡ get_or is k i → length (slice_index_or (set_spots bits is) k no_spots).groups ≡ 6
unfolding spots_in
spots_six bits is k i lt at = ap (λ (s : LinkSpots). length s.groups) (spots_are bits is k i lt at) ∙ share_six is k i lt at

-- ---- headers

pub sized : (bits : ℕ) (is : List Img) → IsAccepted is → (k : ℕ) (i : Img) → k < length is → i ≡ get_or is k i → length (header_of (layout_of is) (set_spots bits is) k i) ≡ length i.header
unfolding cached_bytes kept_header
sized bits is accepted k i lt at =
    let rules = sound_rules i (sound_in is accepted k i lt at) in
    let front : 32 ≤ length i.header = sound_front i (sound_in is accepted k i lt at) in
    let moves : List Moved = slice_index_or (layout_of is).moves k [] in
    let spots : LinkSpots = slice_index_or (set_spots bits is) k no_spots in
    let cs : List (List ℕ) = cached_commands spots moves i.header in
    let fits : 32 + length (concat cs) ≤ length i.header = cached_fit spots moves i.header (spots_six bits is k i lt at) front rules.shape in
    let short : length (take 32 i.header) ≡ 32 = length-take-le 32 i.header front in
    padded_long (length i.header) (cached_front (length cs) (length (concat cs)) (take 32 i.header) ++ concat cs)
    (omega (arith, fits, length-append (cached_front (length cs) (length (concat cs)) (take 32 i.header)) (concat cs), length-cached_front (length cs) (length (concat cs)) (take 32 i.header) (omega (arith, short)), short))

-- ---- pages

pub pages_are : (bits : ℕ) (is : List Img) (k g : ℕ) (i : Img) (s : Seg) → IsSegment is k g i s → set_pages bits is k g ≡ pages_of (header_of (layout_of is) (set_spots bits is) k i) g s
pages_are bits is k g i s there =
    let headers : List (List ℕ) = set_headers bits is in
    let header : List ℕ = header_of (layout_of is) (set_spots bits is) k i in
    ap (λ (o : Option Img). segment_pages (slice_index_or headers k []) (segments_in o) g) (slice_get_read is (length is) k i refl there.image_in there.image_is)
    ∙ (ap (λ (h : List ℕ). segment_pages h i.segments g) (numbered-get (header_of (layout_of is) (set_spots bits is)) is k i [] there.image_in there.image_is)
    ∙ ap (λ (o : Option Seg). pages_at header g o) (slice_get_read i.segments (length i.segments) g s refl there.segment_in there.segment_is))

pub length-pages : (bits : ℕ) (is : List Img) → IsAccepted is → (k g : ℕ) (i : Img) (s : Seg) → IsSegment is k g i s → length (pages_of (header_of (layout_of is) (set_spots bits is) k i) g s) ≡ paged s.vmsize
length-pages bits is accepted k g i s there =
    let sound = sound_in is accepted k i there.image_in there.image_is in
    let header : List ℕ = header_of (layout_of is) (set_spots bits is) k i in
    let room : g ≡ 0 → length (header_of (layout_of is) (set_spots bits is) k i) ≤ length s.bytes =
    λ first. (let own : length i.header ≤ length s.bytes = header_fits i sound s (omega (arith, there.segment_in, first)) (subst (λ (n : ℕ). s ≡ get_or i.segments n s) first there.segment_is) in
    omega (arith, own, sized bits is accepted k i there.image_in there.image_is)) in
    padded_long (paged s.vmsize) (bytes_with header g s)
    (omega (arith, headed_long header g s room, bytes_fit i sound g s there.segment_in there.segment_is, paged-covers s.vmsize))

pub pages_whole : (bits : ℕ) (is : List Img) → IsAccepted is → AreWholePages (set_pages bits is) is
pages_whole bits is accepted k g i s there owned =
    ap (λ (b : List ℕ). length b) (pages_are bits is k g i s there) ∙ length-pages bits is accepted k g i s there
