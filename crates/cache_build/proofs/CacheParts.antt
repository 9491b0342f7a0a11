-- The parts of a cache: how long they are, and where each stands in the file.
use Rattle.std.proofs.Common.{◌≡◌, ◌≤◌, ◌<◌, ℕ, ◌+◌, ◌-◌, List, ◌++◌, length, get_or, replicate, refl, sym, ap, ap₂, ◌∙◌, arith, inl, inr, length-append, append_assoc}
use Rattle.std.proofs.lemmas.Bool.{cases_lt}
use Rattle.std.proofs.lemmas.List.{get_or-append-add, get_or-append_right}
use Rattle.std.proofs.Math.ListN.{get_or-append}
use Rattle.dsc_base.specs.declared.fault.Span.{Span}
use Rattle.dsc_base.specs.Region.{paged, padded}
use Rattle.macho_image.specs.Records.{Img}
use Rattle.cache_header.specs.Spelling.{head_bytes}
use Rattle.cache_layout.specs.declared.mapping.Mapping.{Mapping}
use Rattle.cache_layout.specs.declared.mapping.Mapping.TheVariants.{Text, Writable, Fixed}
use Rattle.cache_layout.specs.Layouts.{layout_of}
use Rattle.cache_layout.specs.Apart.{AreInTurn, range_in}
use Rattle.cache_layout.specs.Parts.{StandsAt}
use Rattle.cache_layout.proofs.PlaceLaws.{range_in-is}
use Rattle.cache_layout.proofs.PartLaws.{length-mapping_part}
use Rattle.cache_layout.proofs.RoomLaws.{paged-covers}
use Rattle.slide_chain.specs.Linked.{linked_data}
use Rattle.prebind.specs.Sets.{image_set}
use Rattle.ref_rewrite.specs.Rewritten.{edits_in}
use Rattle.linkedit_merge.specs.Linkedit.{linkedit_size, linkedit_of}
use Rattle.cache_build.specs.Places.{frame_of}
use Rattle.cache_build.specs.Cache.{tail_of, cache_from, cache_of}
use Rattle.cache_build.proofs.BuildableSets.{IsAccepted, IsBuildable, set_edits, set_chained, set_slide, set_shares, set_start, set_span, set_frame, set_pages, set_mapping, set_head, cache_around, set_range, slid_range}
use Rattle.cache_build.proofs.CachePlaces.{in_turn, starts_at}
use Rattle.cache_build.proofs.CachedPages.{pages_whole}
use Rattle.cache_build.proofs.CacheHeads.{head_long}
use Rattle.linkedit_merge.proofs.MergeLaws.{length-linkedit_of}
use Rattle.ref_rewrite.proofs.PageLaws.{padded_long}

-- ---- three ranges

-- the cache with these bytes in the range of each mapping
abbrev pub around : ℕ → List Img → (Mapping → List ℕ) → List ℕ
around bits is parts = cache_around bits is (parts Text) (parts Writable) (parts Fixed)

-- the ranges with their words set and linked, and with their words set and slid
abbrev pub linked_part : ℕ → List Img → Mapping → List ℕ
linked_part bits is Text = set_range bits is Text
linked_part bits is Writable = linked_data bits (set_chained is) (edits_in (layout_of is).writable (set_edits is)) (set_mapping bits is Writable)
linked_part bits is Fixed = set_range bits is Fixed

abbrev pub slid_part : ℕ → List Img → ℕ → Mapping → List ℕ
slid_part bits is slide Text = set_range bits is Text
slid_part bits is slide Writable = slid_range bits is slide
slid_part bits is slide Fixed = set_range bits is Fixed

pub cache_parts : (bits : ℕ) (is : List Img) → cache_of bits is ≡ around bits is (linked_part bits is)
unfolding cache_from frame_of image_set
cache_parts bits is = refl

-- as long as the layout says
abbrev pub AreRanges : List Img → (Mapping → List ℕ) → Type 0
AreRanges is parts = (m : Mapping) → length (parts m) ≡ (range_in (layout_of is) m).len

pub length-mapping : (bits : ℕ) (is : List Img) → IsAccepted is → AreRanges is (set_mapping bits is)
length-mapping bits is accepted m = length-mapping_part m (set_pages bits is) is (pages_whole bits is accepted) ∙ sym (ap (λ (r : Span). r.len) (range_in-is is m))

-- ---- what stands behind them

abbrev pub set_tail : ℕ → List Img → List ℕ
set_tail bits is = tail_of (set_frame bits is) (set_slide bits is) (linkedit_of (set_shares is))

-- slide information with zeros up to the linkedit
abbrev pub slide_pages : ℕ → List Img → List ℕ
slide_pages bits is = padded (set_start bits is - ((layout_of is).fixed.at + (layout_of is).fixed.len)) (set_slide bits is)

abbrev pub linkedit_pages : ℕ → List Img → List ℕ
linkedit_pages bits is = padded (set_span bits is - set_start bits is) (linkedit_of (set_shares is))

pub tail_parts : (bits : ℕ) (is : List Img) → set_tail bits is ≡ slide_pages bits is ++ linkedit_pages bits is
unfolding frame_of
tail_parts bits is = refl

pub length-slide_pages : (bits : ℕ) (is : List Img) → IsAccepted is → length (slide_pages bits is) ≡ paged (length (set_slide bits is))
length-slide_pages bits is accepted =
    let start : set_start bits is ≡ (layout_of is).fixed.at + (layout_of is).fixed.len + paged (length (set_slide bits is)) = starts_at bits is accepted in
    padded_long (set_start bits is - ((layout_of is).fixed.at + (layout_of is).fixed.len)) (set_slide bits is) (omega (arith, start, paged-covers (length (set_slide bits is)))) ∙ omega (arith, start)

length-linkedit_pages : (bits : ℕ) (is : List Img) → length (linkedit_pages bits is) ≡ paged (linkedit_size (set_shares is))
length-linkedit_pages bits is =
    padded_long (set_span bits is - set_start bits is) (linkedit_of (set_shares is)) (omega (arith, length-linkedit_of (set_shares is), paged-covers (linkedit_size (set_shares is)))) ∙ omega arith

-- ---- where each part stands

abbrev pub set_front : ℕ → List Img → List ℕ
set_front bits is = padded (layout_of is).text.at (head_bytes (set_head bits is))

-- the bytes before the fixed range, and before the tail
abbrev before_fixed : ℕ → List Img → (Mapping → List ℕ) → List ℕ
before_fixed bits is parts = (set_front bits is ++ parts Text) ++ parts Writable

abbrev before_tail : ℕ → List Img → (Mapping → List ℕ) → List ℕ
before_tail bits is parts = before_fixed bits is parts ++ parts Fixed

pub length-text : (bits : ℕ) (is : List Img) (parts : Mapping → List ℕ) → IsBuildable bits is → AreRanges is parts → length (set_front bits is ++ parts Text) ≡ (layout_of is).writable.at
length-text bits is parts buildable long =
    let turn : AreInTurn is (layout_of is) = in_turn is buildable.accepted in
    length-append (set_front bits is) (parts Text) ∙ omega (arith, head_long bits is buildable, long Text, turn.writable)

length-before_fixed : (bits : ℕ) (is : List Img) (parts : Mapping → List ℕ) → IsBuildable bits is → AreRanges is parts → length (before_fixed bits is parts) ≡ (layout_of is).fixed.at
length-before_fixed bits is parts buildable long =
    let turn : AreInTurn is (layout_of is) = in_turn is buildable.accepted in
    length-append (set_front bits is ++ parts Text) (parts Writable) ∙ omega (arith, length-text bits is parts buildable long, long Writable, turn.fixed)

length-before_tail : (bits : ℕ) (is : List Img) (parts : Mapping → List ℕ) → IsBuildable bits is → AreRanges is parts
    → length (before_tail bits is parts) ≡ (layout_of is).fixed.at + (layout_of is).fixed.len
length-before_tail bits is parts buildable long =
    length-append (before_fixed bits is parts) (parts Fixed) ∙ omega (arith, length-before_fixed bits is parts buildable long, long Fixed)

fixed_last : (bits : ℕ) (is : List Img) (parts : Mapping → List ℕ) → around bits is parts ≡ before_fixed bits is parts ++ (parts Fixed ++ set_tail bits is)
fixed_last bits is parts =
    let rest : List ℕ = parts Fixed ++ set_tail bits is in
    sym (append_assoc (set_front bits is) (parts Text) (parts Writable ++ rest)) ∙ sym (append_assoc (set_front bits is ++ parts Text) (parts Writable) rest)

tail_last : (bits : ℕ) (is : List Img) (parts : Mapping → List ℕ) → around bits is parts ≡ before_tail bits is parts ++ (slide_pages bits is ++ linkedit_pages bits is)
tail_last bits is parts =
    fixed_last bits is parts
    ∙ (sym (append_assoc (before_fixed bits is parts) (parts Fixed) (set_tail bits is)) ∙ ap (λ (b : List ℕ). before_tail bits is parts ++ b) (tail_parts bits is))

pub range_stands : (bits : ℕ) (is : List Img) (parts : Mapping → List ℕ) → IsBuildable bits is → AreRanges is parts → (m : Mapping) → StandsAt (around bits is parts) (range_in (layout_of is) m).at (parts m)
range_stands bits is parts buildable long Text = (set_front bits is, parts Writable ++ (parts Fixed ++ set_tail bits is), refl, head_long bits is buildable)
range_stands bits is parts buildable long Writable = (
  set_front bits is ++ parts Text,
  parts Fixed ++ set_tail bits is,
  sym (append_assoc (set_front bits is) (parts Text) (parts Writable ++ (parts Fixed ++ set_tail bits is))),
  length-text bits is parts buildable long,
)
range_stands bits is parts buildable long Fixed = (before_fixed bits is parts, set_tail bits is, fixed_last bits is parts, length-before_fixed bits is parts buildable long)

pub slide_stands : (bits : ℕ) (is : List Img) (parts : Mapping → List ℕ) → IsBuildable bits is → AreRanges is parts → StandsAt (around bits is parts) ((layout_of is).fixed.at + (layout_of is).fixed.len) (set_slide bits is)
slide_stands bits is parts buildable long =
    let zeros : List ℕ = replicate (set_start bits is - ((layout_of is).fixed.at + (layout_of is).fixed.len) - length (set_slide bits is)) 0 in (
      before_tail bits is parts,
      zeros ++ linkedit_pages bits is,
      tail_last bits is parts ∙ ap (λ (b : List ℕ). before_tail bits is parts ++ b) (append_assoc (set_slide bits is) zeros (linkedit_pages bits is)),
      length-before_tail bits is parts buildable long,
    )

pub linkedit_stands : (bits : ℕ) (is : List Img) (parts : Mapping → List ℕ) → IsBuildable bits is → AreRanges is parts → StandsAt (around bits is parts) (set_start bits is) (linkedit_of (set_shares is))
linkedit_stands bits is parts buildable long = (
  before_tail bits is parts ++ slide_pages bits is,
  replicate (set_span bits is - set_start bits is - length (linkedit_of (set_shares is))) 0,
  tail_last bits is parts ∙ sym (append_assoc (before_tail bits is parts) (slide_pages bits is) (linkedit_pages bits is)),
  length-append (before_tail bits is parts) (slide_pages bits is)
      ∙ omega (arith, length-before_tail bits is parts buildable long, length-slide_pages bits is buildable.accepted, starts_at bits is buildable.accepted),
)

-- a byte of what stands in a list
pub stands_byte : (all bytes : List ℕ) (at d : ℕ) → StandsAt all at bytes → d < length bytes → get_or all (at + d) 0 ≡ get_or bytes d 0
stands_byte all bytes at d (front, after, whole, long) lt =
    ap₂ (λ (l : List ℕ) (n : ℕ). get_or l (n + d) 0) whole (sym long) ∙ (get_or-append-add front (bytes ++ after) d 0 ∙ get_or-append bytes after 0 d lt)

-- ---- altogether

pub length-around : (bits : ℕ) (is : List Img) (parts : Mapping → List ℕ) → IsBuildable bits is → AreRanges is parts → length (around bits is parts) ≡ set_span bits is
length-around bits is parts buildable long =
    ap (λ (c : List ℕ). length c) (tail_last bits is parts)
    ∙ (length-append (before_tail bits is parts) (slide_pages bits is ++ linkedit_pages bits is)
    ∙ omega (arith, length-append (slide_pages bits is) (linkedit_pages bits is), length-before_tail bits is parts buildable long, length-slide_pages bits is buildable.accepted, length-linkedit_pages bits is, starts_at bits is buildable.accepted))

-- ---- two caches that differ in their ranges alone

same_joined : (a a' b b' : List ℕ) (f : ℕ) → length a ≡ length a' → (f < length a → get_or a f 0 ≡ get_or a' f 0) → (length a ≤ f → get_or b (f - length a) 0 ≡ get_or b' (f - length a) 0)
    → get_or (a ++ b) f 0 ≡ get_or (a' ++ b') f 0
same_joined a a' b b' f same here later = elim (cases_lt f (length a)) [
  | inl lt ↦ get_or-append a b 0 f lt ∙ (here lt ∙ sym (get_or-append a' b' 0 f (omega (arith, lt, same))))
  | inr from ↦ get_or-append_right a b (length a) f 0 refl from ∙ (later from ∙ sym (get_or-append_right a' b' (length a) f 0 (sym same) from))
]

-- have the same byte at a place of the file if their range there has
pub same_byte : (bits : ℕ) (is : List Img) (parts parts' : Mapping → List ℕ) (f : ℕ) → IsBuildable bits is → AreRanges is parts → AreRanges is parts'
    → ((m : Mapping) (j : ℕ) → (range_in (layout_of is) m).at + j ≡ f → get_or (parts m) j 0 ≡ get_or (parts' m) j 0) → get_or (around bits is parts) f 0 ≡ get_or (around bits is parts') f 0
same_byte bits is parts parts' f buildable long long' each =
    let turn : AreInTurn is (layout_of is) = in_turn is buildable.accepted in
    let front : length (set_front bits is) ≡ (layout_of is).text.at = head_long bits is buildable in
    let tail : List ℕ = set_tail bits is in
    same_joined (set_front bits is) (set_front bits is) (parts Text ++ (parts Writable ++ (parts Fixed ++ tail))) (parts' Text ++ (parts' Writable ++ (parts' Fixed ++ tail))) f refl (λ lt. refl)
    (λ from. same_joined (parts Text) (parts' Text) (parts Writable ++ (parts Fixed ++ tail)) (parts' Writable ++ (parts' Fixed ++ tail)) (f - length (set_front bits is)) (long Text ∙ sym (long' Text))
    (λ lt. each Text (f - length (set_front bits is)) (omega (arith, from, front)))
    (λ behind_text. same_joined (parts Writable) (parts' Writable) (parts Fixed ++ tail) (parts' Fixed ++ tail) (f - length (set_front bits is) - length (parts Text)) (long Writable ∙ sym (long' Writable))
    (λ lt. each Writable (f - length (set_front bits is) - length (parts Text)) (omega (arith, from, behind_text, front, long Text, turn.writable)))
    (λ behind_data. same_joined (parts Fixed) (parts' Fixed) tail tail (f - length (set_front bits is) - length (parts Text) - length (parts Writable)) (long Fixed ∙ sym (long' Fixed))
    (λ lt. each Fixed (f - length (set_front bits is) - length (parts Text) - length (parts Writable)) (omega (arith, from, behind_text, behind_data, front, long Text, long Writable, turn.writable, turn.fixed)))
    (λ behind. refl))))
