-- A moved section is the section with another address and offset.
use Rattle.std.proofs.Common.{◌≡◌, ◌≤◌, ◌<◌, inl, inr, ℕ, zero, suc, ◌+◌, ◌-◌, ◌*◌, ◌%◌, ◌^◌, if◌then◌else◌, true, false, List, ◌∷◌, ◌++◌, take, drop, length, map, refl, sym, ap, ap₂, ◌∙◌, arith, length-drop}
use Rattle.std.proofs.lemmas.List.{take-append-le, drop-take, take-take, length-take-le, drop_at}
use Rattle.dsc_base.specs.Numbers.{number_at, put_number, little_bytes}
use Rattle.dsc_base.proofs.NumberLaws.{number_at-put_same, number_at-put_other, length-put_number, number_at-append_left, number_at-take}
use Rattle.macho_image.specs.Records.{SectionLoad}
use Rattle.macho_image.specs.Macho.{section_fields, sections_in}
use Rattle.macho_edit.specs.declared.segment.SegmentPlace.{SegmentPlace}
use Rattle.macho_image.specs.Rules.{is_zero_fill}
use Rattle.macho_edit.specs.Segments.{section_address, section_offset, moved_section, moved_sections}
use Rattle.macho_edit.proofs.LengthLaws.{length-moved_section}

-- the bytes before a put stay
pub take-put : (n w : ℕ) (xs : List ℕ) (i v : ℕ) → n ≤ i → i ≤ length xs → take n (put_number w xs i v) ≡ take n xs
unfolding put_number
take-put n w xs i v le within =
    let len : length (take i xs) ≡ i = length-take-le i xs within in
    take-append-le n (take i xs) (little_bytes w v ++ drop (i + w) xs) (omega arith) ∙ take-take n i xs le

-- the fields of a section whose segment goes to a place
abbrev pub placed_section : SegmentPlace → ℕ → SectionLoad → SectionLoad
placed_section p start x = record {
  name = x.name;
  segment_name = x.segment_name;
  addr = section_address p (x.addr - start);
  size = x.size;
  offset = section_offset p x.flags (x.addr - start);
  nreloc = x.nreloc;
  flags = x.flags;
}

offset_fits : (p : SegmentPlace) (flags distance : ℕ) → section_offset p flags distance < 2 ^ 32
offset_fits p flags distance =
    elim (is_zero_fill flags) as (λ b. (if b then 0 else (p.file + distance) % 2 ^ 32) < 2 ^ 32) [ true ↦ omega arith | false ↦ omega arith ]

pub section_fields-moved : (p : SegmentPlace) (start : ℕ) (x rest : List ℕ) → length x ≡ 80 → section_fields (moved_section p start x ++ rest) ≡ placed_section p start (section_fields x)
unfolding moved_section section_fields
section_fields-moved p start x rest eighty =
    let distance : ℕ = number_at 8 x 32 - start in
    let addr : ℕ = section_address p distance in
    let offset : ℕ = section_offset p (number_at 4 x 64) distance in
    let a : List ℕ = put_number 8 x 32 addr in
    let b : List ℕ = put_number 4 a 48 offset in
    let la : length a ≡ 80 = length-put_number 8 x 32 addr (omega arith) ∙ eighty in
    let lb : length b ≡ 80 = length-put_number 4 a 48 offset (omega arith) ∙ la in
    let front : take 32 (b ++ rest) ≡ take 32 x =
    take-append-le 32 b rest (omega arith) ∙ (take-put 32 4 a 48 offset (omega arith) (omega arith) ∙ take-put 32 8 x 32 addr (omega arith) (omega arith)) in
    λ i. record {
      name = (short 16 (b ++ rest) x front (omega arith)) i;
      segment_name = (later (b ++ rest) x front) i;
      addr = (number_at-append_left 8 b rest 32 (omega arith) ∙ (number_at-put_other 4 a 48 offset 8 32 (omega arith) (inl (omega arith)) ∙ number_at-put_same 8 x 32 addr (omega arith) (omega arith))) i;
      size = (number_at-append_left 8 b rest 40 (omega arith) ∙ (number_at-put_other 4 a 48 offset 8 40 (omega arith) (inl (omega arith)) ∙ number_at-put_other 8 x 32 addr 8 40 (omega arith) (inr (omega arith)))) i;
      offset = (number_at-append_left 4 b rest 48 (omega arith) ∙ number_at-put_same 4 a 48 offset (omega arith) (offset_fits p (number_at 4 x 64) distance)) i;
      nreloc = (number_at-append_left 4 b rest 60 (omega arith) ∙ (number_at-put_other 4 a 48 offset 4 60 (omega arith) (inr (omega arith)) ∙ number_at-put_other 8 x 32 addr 4 60 (omega arith) (inr (omega arith)))) i;
      flags = (number_at-append_left 4 b rest 64 (omega arith) ∙ (number_at-put_other 4 a 48 offset 4 64 (omega arith) (inr (omega arith)) ∙ number_at-put_other 8 x 32 addr 4 64 (omega arith) (inr (omega arith)))) i;
    }
  where
    short : (n : ℕ) (xs ys : List ℕ) → take 32 xs ≡ take 32 ys → n ≤ 32 → take n xs ≡ take n ys
    short n xs ys same le = sym (take-take n 32 xs le) ∙ (ap (λ (l : List ℕ). take n l) same ∙ take-take n 32 ys le)

    later : (xs ys : List ℕ) → take 32 xs ≡ take 32 ys → take 16 (drop 16 xs) ≡ take 16 (drop 16 ys)
    later xs ys same = sym (drop-take 16 16 xs) ∙ (ap (λ (l : List ℕ). drop 16 l) same ∙ drop-take 16 16 ys)

-- the fields of a section are in its 80 bytes
section_fields-front : (bytes : List ℕ) → 80 ≤ length bytes → section_fields (take 80 bytes) ≡ section_fields bytes
unfolding section_fields
section_fields-front bytes within = λ i. record {
  name = (take-take 16 80 bytes (omega arith)) i;
  segment_name = (ap (λ (l : List ℕ). take 16 l) (drop-take 16 64 bytes) ∙ take-take 16 64 (drop 16 bytes) (omega arith)) i;
  addr = (number_at-take 8 80 bytes 32 (omega arith)) i;
  size = (number_at-take 8 80 bytes 40 (omega arith)) i;
  offset = (number_at-take 4 80 bytes 48 (omega arith)) i;
  nreloc = (number_at-take 4 80 bytes 60 (omega arith)) i;
  flags = (number_at-take 4 80 bytes 64 (omega arith)) i;
}

-- the sections at the front of moved ones are the moved fields of those at the front
pub sections_in-moved : (p : SegmentPlace) (start n : ℕ) (bytes : List ℕ) → 80 * n ≤ length bytes → sections_in n (moved_sections p start n bytes) ≡ map (placed_section p start) (sections_in n bytes)
unfolding moved_sections
sections_in-moved p start zero bytes within = refl
sections_in-moved p start (suc n) bytes within =
    let eighty : length (take 80 bytes) ≡ 80 = length-take-le 80 bytes (omega arith) in
    let first : List ℕ = moved_section p start (take 80 bytes) in
    let rest : List ℕ = moved_sections p start n (drop 80 bytes) in
    let here : section_fields (first ++ rest) ≡ placed_section p start (section_fields bytes) =
    section_fields-moved p start (take 80 bytes) rest eighty ∙ ap (placed_section p start) (section_fields-front bytes (omega arith)) in
    let behind : drop 80 (first ++ rest) ≡ rest = drop_at first rest 80 (length-moved_section p start (take 80 bytes) eighty) in
    let later : sections_in n rest ≡ map (placed_section p start) (sections_in n (drop 80 bytes)) = sections_in-moved p start n (drop 80 bytes) (omega (arith, length-drop 80 bytes)) in
    ap₂ (λ (x : SectionLoad) (xs : List SectionLoad). x ∷ xs) here (ap (λ (l : List ℕ). sections_in n l) behind ∙ later)
