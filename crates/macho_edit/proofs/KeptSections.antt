-- Sections stand in a segment at a place as they stand in the segment.
use Rattle.std.proofs.Common.{◌≡◌, ◌≤◌, ◌<◌, ℕ, ◌+◌, ◌-◌, ◌*◌, ◌/◌, ◌%◌, ◌^◌, Bool, true, false, ◌||◌, nat_eq, nat_le, List, [], ◌∷◌, map, length, refl, sym, ap₂, ◌∙◌, subst, arith}
use Rattle.std.specs.List.{list_any, AllByRecursion}
use Rattle.std.proofs.lemmas.Bool.{cond-false, eq-eqb, and_parts, and_from, le-leb, leb-true}
use Rattle.macho_image.specs.Records.{SectionLoad, SegmentLoad}
use Rattle.macho_image.specs.Rules.{section_stands, sections_stand, is_in_file_bytes, is_zero_fill, is_linkedit, is_well_shaped}
use Rattle.macho_edit.specs.declared.segment.SegmentPlace.{SegmentPlace}
use Rattle.macho_edit.specs.Segments.{section_address, section_offset}
use Rattle.macho_edit.specs.Placed.{IsSeated}
use Rattle.macho_edit.proofs.MovedSections.{placed_section}
use Rattle.macho_edit.proofs.MovedSegments.{placed_load}
use Rattle.macho_image.proofs.HeaderRules.{IsShaped}

-- a segment of good shape, the other way round
pub shaped_true : (s : SegmentLoad) → IsShaped s → is_well_shaped s ≡ true
shaped_true s is =
    and_from (nat_eq s.size (72 + 80 * s.nsects)) _ (eq-eqb s.size (72 + 80 * s.nsects) is.size)
    (and_from (nat_eq (s.vmaddr % 4096) 0) _ (eq-eqb (s.vmaddr % 4096) 0 is.aligned)
    (and_from (nat_le s.filesize s.vmsize) _ (le-leb s.filesize s.vmsize is.filled) (le-leb (s.vmaddr + s.vmsize) 0x8000_0000_0000 is.low)))

-- a segment other than `__LINKEDIT` keeps its size in memory, which is its size in the file, below 2 ^ 32
pub record IsWholeMove (p : SegmentPlace) (s : SegmentLoad) : Type 0 where
  pub sized : p.vmsize ≡ s.vmsize
  pub filled : p.filesize ≡ s.vmsize
  pub room : p.file + s.vmsize < 2 ^ 32

-- a segment and its place in a file of n bytes
pub record IsSeatedLoad (n : ℕ) (p : SegmentPlace) (s : SegmentLoad) : Type 0 where
  pub seated : IsSeated n p
  pub shaped : IsShaped s
  pub room : length s.sections ≡ (s.size - 72) / 80
  pub whole : is_linkedit s ≡ false → IsWholeMove p s
  pub bare : is_linkedit s ≡ true → s.nsects ≡ 0

-- the address at a distance within the segment
pub address_in : (n : ℕ) (p : SegmentPlace) (s : SegmentLoad) (x : ℕ) → IsSeated n p → IsWholeMove p s → x ≤ s.vmaddr + s.vmsize → section_address p (x - s.vmaddr) ≡ p.address + (x - s.vmaddr)
address_in n p s x seated whole inside =
    let a : p.address + p.vmsize ≤ 0x8000_0000_0000 = seated.low in
    let b : p.vmsize ≡ s.vmsize = whole.sized in
    omega arith

-- where a section stands: above the start, behind the one before it, inside its segment
pub record Stands (s : SegmentLoad) (start floor : ℕ) (x : SectionLoad) : Type 0 where
  pub above : start ≤ x.addr
  pub behind : floor ≤ x.addr
  pub inside : x.addr + x.size ≤ s.vmaddr + s.vmsize
  pub bytes : (nat_eq x.size 0 || (is_zero_fill x.flags || is_in_file_bytes s x)) ≡ true

pub stands_from : (s : SegmentLoad) (start floor : ℕ) (x : SectionLoad) → section_stands s start floor x ≡ true → Stands s start floor x
stands_from s start floor x is =
    let one = and_parts (nat_le start x.addr) _ is in
    let two = and_parts (nat_le floor x.addr) _ one.1 in
    let three = and_parts (nat_le (x.addr + x.size) (s.vmaddr + s.vmsize)) _ two.1 in
    record {
      above = leb-true start x.addr one.0;
      behind = leb-true floor x.addr two.0;
      inside = leb-true (x.addr + x.size) (s.vmaddr + s.vmsize) three.0;
      bytes = three.1;
    }

stands_true : (s : SegmentLoad) (start floor : ℕ) (x : SectionLoad) → Stands s start floor x → section_stands s start floor x ≡ true
stands_true s start floor x is =
    and_from (nat_le start x.addr) _ (le-leb start x.addr is.above)
    (and_from (nat_le floor x.addr) _ (le-leb floor x.addr is.behind)
    (and_from (nat_le (x.addr + x.size) (s.vmaddr + s.vmsize)) _ (le-leb (x.addr + x.size) (s.vmaddr + s.vmsize) is.inside) is.bytes))

moved_bytes : (n : ℕ) (p : SegmentPlace) (at : ℕ) (s : SegmentLoad) (x : SectionLoad) → IsSeated n p → IsWholeMove p s → s.vmaddr ≤ x.addr → x.addr + x.size ≤ s.vmaddr + s.vmsize
    → (nat_eq x.size 0 || (is_zero_fill x.flags || is_in_file_bytes s x)) ≡ true
    → (nat_eq x.size 0 || (is_zero_fill x.flags || is_in_file_bytes (placed_load p at s) (placed_section p s.vmaddr x))) ≡ true
moved_bytes n p at s x seated whole above inside is =
    elim (nat_eq x.size 0) as (λ b. (b || (is_zero_fill x.flags || is_in_file_bytes s x)) ≡ true → (b || (is_zero_fill x.flags || is_in_file_bytes (placed_load p at s) (placed_section p s.vmaddr x))) ≡ true) [
      | true ↦ λ any. refl
      | false ↦ λ rest.
          elim (is_zero_fill x.flags) as (λ b. is_zero_fill x.flags ≡ b → (b || is_in_file_bytes s x) ≡ true → (b || is_in_file_bytes (placed_load p at s) (placed_section p s.vmaddr x)) ≡ true) [
            | true ↦ λ filled any. refl
            | false ↦ λ kept in_file.
                let to : section_address p (x.addr - s.vmaddr) ≡ p.address + (x.addr - s.vmaddr) = address_in n p s x.addr seated whole (omega arith) in
                let offset : section_offset p x.flags (x.addr - s.vmaddr) ≡ (p.file + (x.addr - s.vmaddr)) % 2 ^ 32 = cond-false (is_zero_fill x.flags) 0 ((p.file + (x.addr - s.vmaddr)) % 2 ^ 32) kept in
                let room : p.file + s.vmsize < 2 ^ 32 = whole.room in
                let filled : p.filesize ≡ s.vmsize = whole.filled in
                and_from (nat_le (section_address p (x.addr - s.vmaddr) - p.address + x.size) p.filesize) _
                (le-leb _ _ (omega arith))
                (eq-eqb _ _ (offset ∙ omega arith))
          ] refl rest
    ] is

pub sections_stand-moved : (n : ℕ) (p : SegmentPlace) (at : ℕ) (s : SegmentLoad) (start start' floor floor' : ℕ) (xs : List SectionLoad) → IsSeated n p → IsWholeMove p s → s.vmaddr ≤ start
    → start' ≤ p.address + (start - s.vmaddr) → ((y : ℕ) → s.vmaddr ≤ y → floor ≤ y → floor' ≤ p.address + (y - s.vmaddr))
    → sections_stand s start floor xs ≡ true → sections_stand (placed_load p at s) start' floor' (map (placed_section p s.vmaddr) xs) ≡ true
sections_stand-moved n p at s start start' floor floor' [] seated whole low begins follows is = refl
sections_stand-moved n p at s start start' floor floor' (x ∷ xs) seated whole low begins follows is =
    let parts = and_parts (section_stands s start floor x) (sections_stand s start (x.addr + x.size) xs) is in
    let stands : Stands s start floor x = stands_from s start floor x parts.0 in
    let over : start ≤ x.addr = stands.above in
    let inside : x.addr + x.size ≤ s.vmaddr + s.vmsize = stands.inside in
    let to : section_address p (x.addr - s.vmaddr) ≡ p.address + (x.addr - s.vmaddr) = address_in n p s x.addr seated whole (omega arith) in
    let sized : p.vmsize ≡ s.vmsize = whole.sized in
    let above : s.vmaddr ≤ x.addr = omega arith in
    let here : Stands (placed_load p at s) start' floor' (placed_section p s.vmaddr x) = record {
      above = omega arith;
      behind = subst (λ (n : ℕ). floor' ≤ n) (sym to) (follows x.addr above stands.behind);
      inside = omega arith;
      bytes = moved_bytes n p at s x seated whole above inside stands.bytes;
    } in
    and_from (section_stands (placed_load p at s) start' floor' (placed_section p s.vmaddr x)) _ (stands_true (placed_load p at s) start' floor' (placed_section p s.vmaddr x) here)
    (sections_stand-moved n p at s start start' (x.addr + x.size) (section_address p (x.addr - s.vmaddr) + x.size) xs seated whole low begins
    (λ y high behind. omega arith) parts.1)

-- sections that stand begin inside their segment
pub all_inside : (s : SegmentLoad) (start floor : ℕ) (xs : List SectionLoad) → sections_stand s start floor xs ≡ true → AllByRecursion (λ x. x.addr ≤ s.vmaddr + s.vmsize) xs
all_inside s start floor [] is = tt
all_inside s start floor (x ∷ xs) is =
    let parts = and_parts (section_stands s start floor x) (sections_stand s start (x.addr + x.size) xs) is in
    let stands : Stands s start floor x = stands_from s start floor x parts.0 in
    (omega (arith, stands.inside), all_inside s start (x.addr + x.size) xs parts.1)

-- a test of sections that a move doesn't change
pub any-placed : (q : SectionLoad → Bool) (p : SegmentPlace) (start : ℕ) → ((x : SectionLoad) → q (placed_section p start x) ≡ q x) → (xs : List SectionLoad) → list_any q (map (placed_section p start) xs) ≡ list_any q xs
any-placed q p start same [] = refl
any-placed q p start same (x ∷ xs) = ap₂ (λ (a b : Bool). a || b) (same x) (any-placed q p start same xs)
