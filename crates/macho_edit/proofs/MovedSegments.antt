-- A segment command at a place is the segment with another place, and its sections moved along.
use Rattle.std.proofs.Common.{◌≡◌, ◌≤◌, ◌<◌, inl, inr, ℕ, ◌+◌, ◌-◌, ◌*◌, ◌/◌, ◌^◌, List, ◌++◌, take, drop, length, map, refl, sym, ap, ap₂, ◌∙◌, arith, length-append, length-drop}
use Rattle.std.proofs.lemmas.List.{take-append-le, drop-take, take-take, length-take-le, drop_at}
use Rattle.dsc_base.specs.Numbers.{number_at, put_number}
use Rattle.dsc_base.proofs.NumberLaws.{number_at-put_same, number_at-put_other, length-put_number, number_at-append_left, number_at-take}
use Rattle.macho_image.specs.Records.{SegmentLoad}
use Rattle.macho_image.specs.Macho.{number_of, size_of, segment_load, sections_in}
use Rattle.macho_edit.specs.declared.segment.SegmentPlace.{SegmentPlace}
use Rattle.macho_edit.specs.Segments.{moved_sections, moved_fields, placed_segment}
use Rattle.macho_edit.proofs.LengthLaws.{length-moved_sections, length-moved_fields}
use Rattle.macho_edit.proofs.MovedSections.{take-put, placed_section, sections_in-moved}

-- the numbers of a place fit their fields
pub record FitsPlace (p : SegmentPlace) : Type 0 where
  pub address : p.address < 2 ^ 64
  pub vmsize : p.vmsize < 2 ^ 64
  pub file : p.file < 2 ^ 64
  pub filesize : p.filesize < 2 ^ 64

-- a segment command is its 72 bytes and whole sections
pub record IsSegmentBytes (c : List ℕ) : Type 0 where
  pub front : 72 ≤ length c
  pub whole : length c ≡ 72 + 80 * ((length c - 72) / 80)

-- the fields of a segment at a place, in a command at an offset
abbrev pub placed_load : SegmentPlace → ℕ → SegmentLoad → SegmentLoad
placed_load p at s = record {
  at = at;
  size = s.size;
  name = s.name;
  vmaddr = p.address;
  vmsize = p.vmsize;
  fileoff = p.file;
  filesize = p.filesize;
  maxprot = s.maxprot;
  initprot = s.initprot;
  nsects = s.nsects;
  flags = s.flags;
  sections = map (placed_section p s.vmaddr) s.sections;
}

-- what the four puts leave, at 24, 32, 40 and 48
record Puts (p : SegmentPlace) (front : List ℕ) : Type 0 where
  before : take 24 (moved_fields p front) ≡ take 24 front
  behind : (w at : ℕ) → 56 ≤ at → number_at w (moved_fields p front) at ≡ number_at w front at
  low : (w at : ℕ) → at + w ≤ 24 → number_at w (moved_fields p front) at ≡ number_at w front at
  address : number_at 8 (moved_fields p front) 24 ≡ p.address
  vmsize : number_at 8 (moved_fields p front) 32 ≡ p.vmsize
  file : number_at 8 (moved_fields p front) 40 ≡ p.file
  filesize : number_at 8 (moved_fields p front) 48 ≡ p.filesize

puts_leave : (p : SegmentPlace) (front : List ℕ) → FitsPlace p → 72 ≤ length front → Puts p front
unfolding moved_fields
puts_leave p front fits len =
    let a : List ℕ = put_number 8 front 24 p.address in
    let b : List ℕ = put_number 8 a 32 p.vmsize in
    let c : List ℕ = put_number 8 b 40 p.file in
    let d : List ℕ = put_number 8 c 48 p.filesize in
    let la : length a ≡ length front = length-put_number 8 front 24 p.address (omega arith) in
    let lb : length b ≡ length front = length-put_number 8 a 32 p.vmsize (omega arith) ∙ la in
    let lc : length c ≡ length front = length-put_number 8 b 40 p.file (omega arith) ∙ lb in
    let f : (p.address < 2 ^ 64) × (p.vmsize < 2 ^ 64) × (p.file < 2 ^ 64) × (p.filesize < 2 ^ 64) = (fits.address, fits.vmsize, fits.file, fits.filesize) in
    record {
      before = take-put 24 8 c 48 p.filesize (omega arith) (omega arith) ∙ (take-put 24 8 b 40 p.file (omega arith) (omega arith) ∙ (take-put 24 8 a 32 p.vmsize (omega arith) (omega arith) ∙ take-put 24 8 front 24 p.address (omega arith) (omega arith)));
      behind = λ w at far. number_at-put_other 8 c 48 p.filesize w at (omega arith) (inr (omega arith)) ∙ (number_at-put_other 8 b 40 p.file w at (omega arith) (inr (omega arith)) ∙ (number_at-put_other 8 a 32 p.vmsize w at (omega arith) (inr (omega arith)) ∙ number_at-put_other 8 front 24 p.address w at (omega arith) (inr (omega arith))));
      low = λ w at near. number_at-put_other 8 c 48 p.filesize w at (omega arith) (inl (omega arith)) ∙ (number_at-put_other 8 b 40 p.file w at (omega arith) (inl (omega arith)) ∙ (number_at-put_other 8 a 32 p.vmsize w at (omega arith) (inl (omega arith)) ∙ number_at-put_other 8 front 24 p.address w at (omega arith) (inl (omega arith))));
      address = number_at-put_other 8 c 48 p.filesize 8 24 (omega arith) (inl (omega arith)) ∙ (number_at-put_other 8 b 40 p.file 8 24 (omega arith) (inl (omega arith)) ∙ (number_at-put_other 8 a 32 p.vmsize 8 24 (omega arith) (inl (omega arith)) ∙ number_at-put_same 8 front 24 p.address (omega arith) f.0));
      vmsize = number_at-put_other 8 c 48 p.filesize 8 32 (omega arith) (inl (omega arith)) ∙ (number_at-put_other 8 b 40 p.file 8 32 (omega arith) (inl (omega arith)) ∙ number_at-put_same 8 a 32 p.vmsize (omega arith) f.1);
      file = number_at-put_other 8 c 48 p.filesize 8 40 (omega arith) (inl (omega arith)) ∙ number_at-put_same 8 b 40 p.file (omega arith) f.2;
      filesize = number_at-put_same 8 c 48 p.filesize (omega arith) f.3;
    }

-- the moved command has as many bytes, the same number and the same size
pub record SameCommand (c d : List ℕ) : Type 0 where
  pub sized : length d ≡ length c
  pub number : number_of d ≡ number_of c
  pub size : size_of d ≡ size_of c

pub segment_same : (p : SegmentPlace) (c : List ℕ) → FitsPlace p → IsSegmentBytes c → SameCommand c (placed_segment p c)
unfolding placed_segment
segment_same p c fits is =
    let front : List ℕ = take 72 c in
    let len : length front ≡ 72 = length-take-le 72 c is.front in
    let puts : Puts p front = puts_leave p front fits (omega arith) in
    let rest : List ℕ = moved_sections p (number_at 8 c 24) ((length c - 72) / 80) (drop 72 c) in
    let tail : length rest ≡ 80 * ((length c - 72) / 80) = length-moved_sections p (number_at 8 c 24) ((length c - 72) / 80) (drop 72 c) (omega (arith, length-drop 72 c, is.whole)) in
    let sized : length (moved_fields p front) ≡ 72 = length-moved_fields p front (omega arith) ∙ len in
    record {
      sized = length-append (moved_fields p front) rest ∙ omega (arith, sized, tail, is.whole);
      number = number_at-append_left 4 (moved_fields p front) rest 0 (omega arith) ∙ (puts.low 4 0 (omega arith) ∙ number_at-take 4 72 c 0 (omega arith));
      size = number_at-append_left 4 (moved_fields p front) rest 4 (omega arith) ∙ (puts.low 4 4 (omega arith) ∙ number_at-take 4 72 c 4 (omega arith));
    }

pub segment_load-placed : (p : SegmentPlace) (at at' : ℕ) (c : List ℕ) → FitsPlace p → IsSegmentBytes c
    → segment_load (record { at = at'; bytes = placed_segment p c }) ≡ placed_load p at' (segment_load (record { at = at; bytes = c }))
unfolding placed_segment segment_load
segment_load-placed p at at' c fits is =
    let front : List ℕ = take 72 c in
    let len : length front ≡ 72 = length-take-le 72 c is.front in
    let puts : Puts p front = puts_leave p front fits (omega arith) in
    let n : ℕ = (length c - 72) / 80 in
    let start : ℕ = number_at 8 c 24 in
    let rest : List ℕ = moved_sections p start n (drop 72 c) in
    let sized : length (moved_fields p front) ≡ 72 = length-moved_fields p front (omega arith) ∙ len in
    let same : SameCommand c (moved_fields p front ++ rest) = segment_same p c fits is in
    let within : 80 * n ≤ length (drop 72 c) = omega (arith, length-drop 72 c, is.whole) in
    λ i. record {
      at = at';
      size = (same.sized) i;
      name = (named (moved_fields p front) rest front c puts.before sized refl) i;
      vmaddr = (number_at-append_left 8 (moved_fields p front) rest 24 (omega arith) ∙ puts.address) i;
      vmsize = (number_at-append_left 8 (moved_fields p front) rest 32 (omega arith) ∙ puts.vmsize) i;
      fileoff = (number_at-append_left 8 (moved_fields p front) rest 40 (omega arith) ∙ puts.file) i;
      filesize = (number_at-append_left 8 (moved_fields p front) rest 48 (omega arith) ∙ puts.filesize) i;
      maxprot = (number_at-append_left 4 (moved_fields p front) rest 56 (omega arith) ∙ (puts.behind 4 56 (omega arith) ∙ number_at-take 4 72 c 56 (omega arith))) i;
      initprot = (number_at-append_left 4 (moved_fields p front) rest 60 (omega arith) ∙ (puts.behind 4 60 (omega arith) ∙ number_at-take 4 72 c 60 (omega arith))) i;
      nsects = (number_at-append_left 4 (moved_fields p front) rest 64 (omega arith) ∙ (puts.behind 4 64 (omega arith) ∙ number_at-take 4 72 c 64 (omega arith))) i;
      flags = (number_at-append_left 4 (moved_fields p front) rest 68 (omega arith) ∙ (puts.behind 4 68 (omega arith) ∙ number_at-take 4 72 c 68 (omega arith))) i;
      sections = (ap₂ (λ (k : ℕ) (xs : List ℕ). sections_in ((k - 72) / 80) xs) same.sized (drop_at (moved_fields p front) rest 72 sized) ∙ sections_in-moved p start n (drop 72 c) within) i;
    }
  where
    named : (a rest front c : List ℕ) → take 24 a ≡ take 24 front → length a ≡ 72 → front ≡ take 72 c → take 16 (drop 8 (a ++ rest)) ≡ take 16 (drop 8 c)
    named a rest front c same sized is =
        sym (drop-take 8 16 (a ++ rest)) ∙ (ap (λ (l : List ℕ). drop 8 l) (take-append-le 24 a rest (omega arith) ∙ (same ∙ (ap (λ (l : List ℕ). take 24 l) is ∙ take-take 24 72 c (omega arith)))) ∙ drop-take 8 16 c)
