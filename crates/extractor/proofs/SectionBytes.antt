-- The bytes of sections: an image's file has those that the image has in the cache at slide 0.
use Rattle.std.proofs.Common.{◌≡◌, ◌≤◌, ◌<◌, ℕ, ◌+◌, ◌-◌, ◌^◌, false, Option, Some, List, drop, length, get_or, sym, ap, ◌∙◌, arith}
use Rattle.std.specs.Prelude.{slice_get, unwrap_or}
use Rattle.std.specs.List.{All}
use Rattle.std.proofs.lemmas.List.{get_or-drop}
use Rattle.dsc_base.specs.Numbers.{number_at}
use Rattle.dsc_base.specs.Region.{region_start}
use Rattle.dsc_base.proofs.NumberLaws.{number_at-same}
use Rattle.macho_image.specs.Records.{Seg, Img}
use Rattle.macho_image.specs.Breaks.{IsSound}
use Rattle.macho_image.specs.Places.{wrap, IsWord}
use Rattle.macho_image.specs.Rules.{is_linkedit_segment}
use Rattle.macho_image.specs.Segments.{number_of, number_within, value_of}
use Rattle.macho_image.specs.declared.place.Location.{Location}
use Rattle.macho_image.specs.declared.section.Section.{Section}
use Rattle.split_info.proofs.SoundSections.{section_inside}
use Rattle.load_model.specs.Loading.{segment_cells}
use Rattle.load_model.specs.Mapped.{flat}
use Rattle.load_model.specs.Memory.{number_from}
use Rattle.load_model.proofs.NumberLaws.{number_from-bytes}
use Rattle.cache_check.proofs.CachedBytes.{IsHome, IsHeld}
use Rattle.extractor.specs.ExtractOf.{bodies_of, header_of}
use Rattle.extractor.specs.Files.{IsPlaced}
use Rattle.extractor.proofs.BehindLaws.{section_behind}
use Rattle.extractor.proofs.OwnBytes.{own_cell}
use Rattle.extractor.proofs.OwnSections.{section_other}
use Rattle.extractor.proofs.OwnSegments.{writable_other}
use Rattle.extractor.proofs.OwnStreams.{own_image}

-- a byte of a section, and the segment that has it, in the cache
pub record IsSpot (cache : List ℕ) (i : Img) (u : Section) (offset : ℕ) : Type 0 where
  pub segment : Seg
  pub found : slice_get i.segments u.segment ≡ Some segment
  pub other : is_linkedit_segment segment ≡ false
  pub home : IsHome cache segment
  pub from : segment.vmaddr ≤ u.addr
  pub to : u.addr + offset < segment.vmaddr + segment.vmsize
  pub low : u.addr + offset < 2 ^ 63

pub spot : (cache : List ℕ) (k j offset : ℕ) (i : Img) (u : Section) → IsHeld cache k i → slice_get i.sections j ≡ Some u → offset < u.size → IsSpot cache i u offset
spot cache k j offset i u held got lt =
    let inside = section_inside i j u held.sound got in
    let other = section_other i j u inside.segment held.sound got inside.segment_is in
    record {
      segment = inside.segment;
      found = inside.segment_is;
      other = other;
      home = held.homes u.segment inside.segment inside.segment_is other;
      from = inside.from;
      to = omega (arith, inside.to, lt);
      low = omega (arith, inside.to, inside.low, lt);
    }

-- the number of a word of the image at slide 0
pub value_there : (cache : List ℕ) (k : ℕ) (i : Img) (l : Location) → IsHeld cache k i → IsWord i l → value_of i.segments l ≡ number_at 8 (flat cache) (l.address - region_start)
unfolding value_of number_of
value_there cache k i l held word =
    let s : Seg = word.segment in
    let home : IsHome cache word.segment = held.homes l.segment word.segment word.segment_is (writable_other i l.segment word.segment held.sound word.segment_is word.writable) in
    ap (λ (o : Option Seg). number_within 8 o l.address) word.segment_is
    ∙ number_at-same 8 s.bytes (flat cache) (l.address - s.vmaddr) (l.address - region_start)
    (λ n lt.
    let own : l.address - s.vmaddr + n ≡ l.address + n - s.vmaddr = omega (arith, word.from) in
    let there : l.address + n - region_start ≡ l.address - region_start + n = omega (arith, home.low, word.from) in
    ap (λ (x : ℕ). get_or s.bytes x 0) own
    ∙ (home.byte (l.address + n) (omega (arith, word.from)) (omega (arith, word.to, lt)) ∙ ap (λ (x : ℕ). get_or (flat cache) x 0) there))

-- ---- the file

-- an image of a cache, of which a file is made
pub record IsMade (cache : List ℕ) (k : ℕ) (i : Img) (words : List Location) : Type 0 where
  pub held : IsHeld cache k i
  pub own_sound : IsSound (own_image k i words)
  pub placed : All IsPlaced (bodies_of i)
  pub sized : length (header_of k i words) ≡ length i.header

-- a byte of a section of the file, as it is loaded before it is rebased
pub section_cell : (cache : List ℕ) (k j offset slide : ℕ) (i : Img) (words : List Location) (u : Section) → IsMade cache k i words → slice_get i.sections j ≡ Some u → offset < u.size
    → segment_cells slide (own_image k i words).segments (wrap (u.addr + offset + slide)) ≡ Some (get_or (flat cache) (u.addr + offset - region_start) 0)
section_cell cache k j offset slide i words u made got lt =
    let own : IsSpot cache i u offset = spot cache k j offset i u made.held got lt in
    let s : Seg = own.segment in
    let d : ℕ = u.addr + offset - s.vmaddr in
    let place : u.addr + offset ≡ own.segment.vmaddr + (u.addr + offset - own.segment.vmaddr) = omega (arith, own.from) in
    ap (λ (x : ℕ). segment_cells slide (own_image k i words).segments (wrap (x + slide))) place
    ∙ (own_cell k u.segment i words s slide d made.held.sound made.own_sound made.placed made.sized own.found own.other (omega (arith, own.from, own.to))
    (λ first.
    let home : slice_get i.segments 0 ≡ Some own.segment = ap (λ (g : ℕ). slice_get i.segments g) (sym first) ∙ own.found in
    let behind = section_behind i j u own.segment made.held.sound got first home in
    omega (arith, behind))
    ∙ ap (λ (b : ℕ). Some b) (own.home.byte (u.addr + offset) (omega (arith, own.from)) own.to))

-- and the number of a word
pub word_cell : (cache : List ℕ) (k slide : ℕ) (i : Img) (words : List Location) (l : Location) → IsMade cache k i words → IsWord i l
    → number_from 8 (segment_cells slide (own_image k i words).segments) (wrap (l.address + slide)) ≡ number_at 8 (flat cache) (l.address - region_start)
unfolding number_at
word_cell cache k slide i words l made word =
    let u : Section = word.section in
    let f : ℕ = l.address - region_start in
    let home : IsHome cache word.segment = made.held.homes l.segment word.segment word.segment_is (writable_other i l.segment word.segment made.held.sound word.segment_is word.writable) in
    number_from-bytes 8 l.address slide (segment_cells slide (own_image k i words).segments) (drop f (flat cache))
    (λ n lt.
    let place : l.address + n ≡ word.section.addr + (l.address - word.section.addr + n) = omega (arith, word.section_from) in
    let there : word.section.addr + (l.address - word.section.addr + n) - region_start ≡ l.address - region_start + n = omega (arith, word.section_from, home.low, word.from) in
    ap (λ (x : ℕ). unwrap_or (segment_cells slide (own_image k i words).segments (wrap (x + slide))) 0) place
    ∙ (ap (λ (o : Option ℕ). unwrap_or o 0) (section_cell cache k (l.section - 1) (l.address - u.addr + n) slide i words u made word.section_is (omega (arith, word.section_from, word.section_to, lt)))
    ∙ (ap (λ (x : ℕ). get_or (flat cache) x 0) there ∙ sym (get_or-drop f (flat cache) n 0))))
