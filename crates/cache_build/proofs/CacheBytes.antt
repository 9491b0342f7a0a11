-- What is shown of the cache of a set that breaks no rule: its size, what its head says, and its bytes in the file and in memory.
use Rattle.std.proofs.Common.{◌≡◌, ◌<◌, ℕ, ◌+◌, ◌-◌, false, List, length, get_or, ap, ◌∙◌, sym, subst, arith}
use Rattle.dsc_base.specs.declared.edits.Edit.{Edit}
use Rattle.dsc_base.specs.Numbers.{little_bytes}
use Rattle.dsc_base.specs.Edits.{ApartFrom, IsAmong}
use Rattle.dsc_base.specs.Region.{paged, padded}
use Rattle.macho_image.specs.Records.{Seg, Img}
use Rattle.macho_image.specs.Rules.{is_linkedit_segment}
use Rattle.cache_header.specs.Spelling.{head_bytes}
use Rattle.cache_layout.specs.declared.mapping.Mapping.{Mapping}
use Rattle.cache_layout.specs.Layouts.{layout_of}
use Rattle.cache_layout.specs.Apart.{IsSegment, range_in, move_at}
use Rattle.cache_layout.specs.Parts.{StandsAt}
use Rattle.cache_layout.proofs.PartLaws.{are_joined}
use Rattle.ref_rewrite.specs.Pages.{pages_of}
use Rattle.ref_rewrite.specs.Plans.{IsInside}
use Rattle.linkedit_merge.specs.Linkedit.{linkedit_of}
use Rattle.cache_build.specs.Cache.{header_of}
use Rattle.cache_build.proofs.BuildableSets.{IsBuildable, set_edits, set_shares, set_start, set_span, set_spots, set_pages, set_mapping, set_head, plain_of, slid_of, slid_value}
use Rattle.cache_build.proofs.CacheFacts.{HasEdits, IsCache}
use Rattle.cache_build.proofs.CachePlaces.{span_low}
use Rattle.cache_build.proofs.CachedPages.{sized, pages_are, pages_whole, length-pages}
use Rattle.cache_build.proofs.CacheHeads.{head_long}
use Rattle.cache_build.proofs.CacheParts.{slid_part, set_tail, length-mapping, length-around, range_stands, linkedit_stands, stands_byte, same_byte}
use Rattle.cache_build.proofs.EditedRanges.{length-slid, free_part, word_part}
use Rattle.cache_build.proofs.ToldCaches.{count_is, path_is, address_is, most_is}
use Rattle.cache_build.proofs.SlidCaches.{long_is, flat_is, mapped_byte}

slid_long : (bits : ℕ) (is : List Img) → IsBuildable bits is → (slide : ℕ) → length (slid_of bits is slide) ≡ set_span bits is
slid_long bits is buildable slide = length-around bits is (slid_part bits is slide) buildable (length-slid bits is buildable.accepted slide)

-- a byte apart from all words is that of the pages
free_byte : (bits : ℕ) (is : List Img) → IsBuildable bits is → (slide f : ℕ) → ApartFrom f 1 (set_edits is) → get_or (slid_of bits is slide) f 0 ≡ get_or (plain_of bits is) f 0
free_byte bits is buildable slide f free =
    same_byte bits is (slid_part bits is slide) (set_mapping bits is) f buildable (length-slid bits is buildable.accepted slide) (length-mapping bits is buildable.accepted) (free_part bits is buildable.accepted slide f free)

-- a byte of a word is that of its number
word_in : (bits : ℕ) (is : List Img) → IsBuildable bits is → HasEdits bits is → (slide k : ℕ) (e : Edit) → IsAmong e (set_edits is) → k < e.width → (m : Mapping) → IsInside (range_in (layout_of is) m) e.at e.width
    → get_or (slid_of bits is slide) (e.at + k) 0 ≡ get_or (little_bytes e.width (slid_value is slide e)) k 0
word_in bits is buildable edits slide k e among lt m inside =
    let place : (range_in (layout_of is) m).at + (e.at - (range_in (layout_of is) m).at + k) ≡ e.at + k = omega (arith, inside.0) in
    let long : length (slid_part bits is slide m) ≡ (range_in (layout_of is) m).len = length-slid bits is buildable.accepted slide m in
    ap (λ (n : ℕ). get_or (slid_of bits is slide) n 0) (sym place)
    ∙ (stands_byte (slid_of bits is slide) (slid_part bits is slide m) (range_in (layout_of is) m).at (e.at - (range_in (layout_of is) m).at + k)
    (range_stands bits is (slid_part bits is slide) buildable (length-slid bits is buildable.accepted slide) m) (omega (arith, inside.0, inside.1, lt, long))
    ∙ word_part bits is buildable.accepted edits slide k e among m inside lt)

word_byte : (bits : ℕ) (is : List Img) → IsBuildable bits is → HasEdits bits is → (slide k : ℕ) (e : Edit) → IsAmong e (set_edits is) → k < e.width
    → get_or (slid_of bits is slide) (e.at + k) 0 ≡ get_or (little_bytes e.width (slid_value is slide e)) k 0
word_byte bits is buildable edits slide k e among lt = let within = edits.within e among in word_in bits is buildable edits slide k e among lt within.0 (within.1, within.2)

-- where a segment's pages stand before the words are set
segment_stands : (bits : ℕ) (is : List Img) → IsBuildable bits is → (k g : ℕ) (i : Img) (s : Seg) → IsSegment is k g i s → is_linkedit_segment s ≡ false
    → StandsAt (plain_of bits is) (move_at (layout_of is) k g).file (pages_of (header_of (layout_of is) (set_spots bits is) k i) g s)
segment_stands bits is buildable k g i s there owned =
    let file : ℕ = (move_at (layout_of is) k g).file in
    subst (λ (b : List ℕ). StandsAt (plain_of bits is) file b) (pages_are bits is k g i s there)
    (are_joined is (padded (layout_of is).text.at (head_bytes (set_head bits is))) (set_pages bits is) (set_tail bits is) (head_long bits is buildable) (pages_whole bits is buildable.accepted) k g i s there owned)

page_byte : (bits : ℕ) (is : List Img) → IsBuildable bits is → (k g : ℕ) (i : Img) (s : Seg) → IsSegment is k g i s → is_linkedit_segment s ≡ false → (d : ℕ) → d < paged s.vmsize
    → get_or (plain_of bits is) ((move_at (layout_of is) k g).file + d) 0 ≡ get_or (pages_of (header_of (layout_of is) (set_spots bits is) k i) g s) d 0
page_byte bits is buildable k g i s there owned d lt =
    let header : List ℕ = header_of (layout_of is) (set_spots bits is) k i in
    let long : length (pages_of (header_of (layout_of is) (set_spots bits is) k i) g s) ≡ paged s.vmsize = length-pages bits is buildable.accepted k g i s there in
    stands_byte (plain_of bits is) (pages_of header g s) (move_at (layout_of is) k g).file d (segment_stands bits is buildable k g i s there owned) (omega (arith, long, lt))

linkedit_byte : (bits : ℕ) (is : List Img) → IsBuildable bits is → (slide n : ℕ) → n < length (linkedit_of (set_shares is))
    → get_or (slid_of bits is slide) (set_start bits is + n) 0 ≡ get_or (linkedit_of (set_shares is)) n 0
linkedit_byte bits is buildable slide n lt =
    stands_byte (slid_of bits is slide) (linkedit_of (set_shares is)) (set_start bits is) n (linkedit_stands bits is (slid_part bits is slide) buildable (length-slid bits is buildable.accepted slide)) lt

pub is_cache : (bits : ℕ) (is : List Img) → IsBuildable bits is → HasEdits bits is → IsCache bits is
is_cache bits is buildable edits = record {
  low = span_low bits is buildable;
  long = long_is bits is buildable edits;
  slid_long = slid_long bits is buildable;
  count = count_is bits is buildable;
  path = path_is bits is buildable;
  address = address_is bits is buildable;
  most = most_is bits is buildable;
  flat_is = flat_is bits is buildable edits;
  mapped_byte = mapped_byte bits is buildable edits;
  free_byte = free_byte bits is buildable;
  word_byte = word_byte bits is buildable edits;
  page_byte = page_byte bits is buildable;
  sized = sized bits is buildable.accepted;
  linkedit = linkedit_byte bits is buildable;
}
