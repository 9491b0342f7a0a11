-- The bytes of a set's data before its words are set: each is below 256.
use Rattle.std.proofs.Common.{◌≡◌, ◌<◌, ℕ, zero, suc, ◌+◌, ◌-◌, Option, Some, None, List, [], ◌∷◌, ◌++◌, length, get_or, replicate, refl, sym, subst, arith, inl, inr}
use Rattle.std.specs.List.{flat_map, enumerate_from}
use Rattle.std.proofs.lemmas.Bool.{cases_lt}
use Rattle.std.proofs.lemmas.List.{get_or-append_right, get_or-replicate, get_or_past, length-replicate}
use Rattle.std.proofs.Math.ListN.{get_or-append}
use Rattle.dsc_base.specs.Region.{paged}
use Rattle.macho_image.specs.Records.{Seg, Img}
use Rattle.cache_layout.specs.declared.mapping.Mapping.{Mapping}
use Rattle.cache_layout.specs.declared.mapping.Mapping.TheVariants.{Text, Writable, Fixed}
use Rattle.cache_layout.specs.Places.{mapping_of}
use Rattle.cache_layout.specs.Layouts.{layout_of}
use Rattle.cache_layout.specs.Apart.{IsSegment}
use Rattle.cache_layout.specs.Parts.{part_in, image_part}
use Rattle.cache_layout.proofs.SoundLaws.{sound_protection, mapped_protection}
use Rattle.ref_rewrite.specs.Pages.{pages_of}
use Rattle.cache_build.specs.Cache.{header_of}
use Rattle.cache_build.proofs.Protections.{first_protection}
use Rattle.cache_build.proofs.BuildableSets.{IsAccepted, set_spots, set_pages, set_mapping}
use Rattle.cache_build.proofs.CachePlaces.{sound_in}
use Rattle.cache_build.proofs.CachedPages.{pages_are}

-- every item of a list of numbers is a byte
abbrev AreBytes : List ℕ → Type 0
AreBytes bytes = (n : ℕ) → get_or bytes n 0 < 256

no_bytes : AreBytes []
no_bytes n = omega arith

zero_bytes : (n : ℕ) → AreBytes (replicate n 0)
zero_bytes n d = elim (cases_lt d n) [
  | inl lt ↦ let is : ◌≡◌ {A = ℕ} (get_or (replicate n 0) d 0) 0 = get_or-replicate n d 0 0 lt in omega (arith, is)
  | inr past ↦ let is : ◌≡◌ {A = ℕ} (get_or (replicate n 0) d 0) 0 = get_or_past (replicate n 0) d 0 (omega (arith, past, length-replicate {A = ℕ} n 0)) in omega (arith, is)
]

bytes_joined : (xs ys : List ℕ) → AreBytes xs → AreBytes ys → AreBytes (xs ++ ys)
bytes_joined xs ys first second n = elim (cases_lt n (length xs)) [
  | inl lt ↦ subst (λ (b : ℕ). b < 256) (sym (get_or-append xs ys 0 n lt)) (first n)
  | inr past ↦ subst (λ (b : ℕ). b < 256) (sym (get_or-append_right xs ys (length xs) n 0 refl past)) (second (n - length xs))
]

-- bytes that are joined of what each item and its number give
bytes_from : {X : Type 0} (h : ℕ → X → List ℕ) (n : ℕ) (xs : List X) → ((j m : ℕ) (x : X) → j < length xs → x ≡ get_or xs j x → m ≡ n + j → AreBytes (h m x)) → AreBytes (flat_map (λ p. h p.0 p.1) (enumerate_from n xs))
bytes_from h n [] each = no_bytes
bytes_from h n (y ∷ ys) each =
    bytes_joined (h n y) (flat_map (λ p. h p.0 p.1) (enumerate_from (n + 1) ys)) (each 0 n y (omega arith) refl (omega arith))
    (bytes_from h (n + 1) ys (λ j m x lt is number. each (suc j) m x (omega (arith, lt)) is (omega (arith, number))))

bytes_all : {X : Type 0} (h : ℕ → X → List ℕ) (xs : List X) → ((j : ℕ) (x : X) → j < length xs → x ≡ get_or xs j x → AreBytes (h j x)) → AreBytes (flat_map (λ p. h p.0 p.1) (enumerate_from 0 xs))
bytes_all {X} h xs each = bytes_from h 0 xs (λ j m x lt is number. let same : j ≡ m = omega (arith, number) in subst (λ (n : ℕ). AreBytes (h n x)) same (each j x lt is))

-- ---- one segment

-- the pages of a segment of the data are its bytes and zeros: it isn't the first one of its image
bytes_of_pages : (header : List ℕ) (g : ℕ) (s : Seg) → (g ≡ 0 → ⊥) → AreBytes s.bytes → AreBytes (pages_of header g s)
bytes_of_pages header zero s other bytes = absurd (other refl)
bytes_of_pages header (suc g) s other bytes = bytes_joined s.bytes (replicate (paged s.vmsize - length s.bytes) 0) bytes (zero_bytes (paged s.vmsize - length s.bytes))

not_first : (is : List Img) → IsAccepted is → (k g : ℕ) (i : Img) (s : Seg) → IsSegment is k g i s → mapping_of s ≡ Some Writable → g ≡ 0 → ⊥
not_first is accepted k g i s there own first =
    let sound = sound_in is accepted k i there.image_in there.image_is in
    let writable : s.initprot ≡ 3 = mapped_protection s Writable (sound_protection i sound g s there.segment_in there.segment_is) own in
    let text : s.initprot ≡ 5 = first_protection i sound s (subst (λ (n : ℕ). s ≡ get_or i.segments n s) first there.segment_is) in
    omega (arith, writable, text)

writable_pages : (bits : ℕ) (is : List Img) → IsAccepted is → (k g : ℕ) (i : Img) (s : Seg) → IsSegment is k g i s → mapping_of s ≡ Some Writable → AreBytes (set_pages bits is k g)
writable_pages bits is accepted k g i s there own =
    subst (λ (b : List ℕ). AreBytes b) (sym (pages_are bits is k g i s there))
    (bytes_of_pages (header_of (layout_of is) (set_spots bits is) k i) g s (not_first is accepted k g i s there own) (accepted.bytes k g i s there))

part_picked : (o : Option Mapping) (bytes : List ℕ) → (o ≡ Some Writable → AreBytes bytes) → AreBytes (part_in Writable o bytes)
part_picked None bytes own = no_bytes
part_picked (Some Text) bytes own = no_bytes
part_picked (Some Writable) bytes own = own refl
part_picked (Some Fixed) bytes own = no_bytes

-- ---- the data

pub data_bytes : (bits : ℕ) (is : List Img) → IsAccepted is → (n : ℕ) → get_or (set_mapping bits is Writable) n 0 < 256
data_bytes bits is accepted =
    let pages : ℕ → ℕ → List ℕ = set_pages bits is in
    bytes_all (λ (k : ℕ) (i : Img). image_part Writable (pages k) i.segments) is
    (λ k i lt at. bytes_all (λ (g : ℕ) (s : Seg). part_in Writable (mapping_of s) (pages k g)) i.segments
    (λ g s below is_there. let there : IsSegment is k g i s = record { image_in = lt; image_is = at; segment_in = below; segment_is = is_there } in
    part_picked (mapping_of s) (pages k g) (writable_pages bits is accepted k g i s there)))
