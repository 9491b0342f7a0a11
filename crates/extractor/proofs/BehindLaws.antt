-- The sections of an image's first segment begin behind its header, which that segment holds.
use Rattle.std.proofs.Common.{◌≡◌, ◌≤◌, ℕ, zero, suc, ◌+◌, true, not, List, [], ◌∷◌, length, map, refl, sym, ap, ◌∙◌, arith, inl, inr, Some, None}
use Rattle.std.specs.Prelude.{find, slice_get}
use Rattle.std.proofs.lemmas.Bool.{cond-true, not-false}
use Rattle.std.proofs.lemmas.Bool.Decides.{nat_tests}
use Rattle.std.proofs.lemmas.Option.{same_Some}
use Rattle.macho_image.specs.Records.{Img, Seg, SegmentLoad, SectionLoad}
use Rattle.macho_image.specs.declared.section.Section.{Section}
use Rattle.macho_image.specs.Macho.{header_size, loads_of, segment_loads, segment_with, section_of, sections_from}
use Rattle.macho_image.specs.Rules.{first_segment, is_text, is_good_text, misplaced, misplaced_behind, sections_stand, sections_start, first_crowded}
use Rattle.macho_image.specs.Breaks.{IsSound, unread}
use Rattle.macho_image.proofs.Unbroken.{least_none_both, find_none, when_true}
use Rattle.macho_image.proofs.HeaderRules.{sound_rules, shape_parts}
use Rattle.macho_edit.proofs.KeptSegments.{IsGoodText, good_text}
use Rattle.extractor.proofs.OwnSections.{one_of_two}

-- ---- the first segment

record IsFirst (size : ℕ) (ls : List SegmentLoad) (s : Seg) : Type 0 where
  load : SegmentLoad
  found : slice_get ls 0 ≡ Some load
  text : is_text load ≡ true
  address : s.vmaddr ≡ load.vmaddr
  holds : size ≤ s.filesize

is_first : (size : ℕ) (ss : List Seg) (ls : List SegmentLoad) (s : Seg) → map unread ss ≡ map (segment_with []) ls → misplaced size ls ≡ None → slice_get ss 0 ≡ Some s → IsFirst size ls s
is_first size [] ls s same none got = absurd (cc)
is_first size (t ∷ ts) [] s same none got = absurd (cc)
is_first size (t ∷ ts) (l ∷ ls) s same none got =
    let here : unread t ≡ segment_with [] l = cc in
    let own : t ≡ s = same_Some t s got in
    let good : IsGoodText size l = good_text size l (when_true (is_good_text size l) l.at (misplaced_behind ls) none).0 in
    let file : t.filesize ≡ l.filesize = ap (λ (u : Seg). u.filesize) here in
    let kept : t.filesize ≡ s.filesize = ap (λ (u : Seg). u.filesize) own in
    let holds : size ≤ l.filesize = good.holds in
    record {
      load = l;
      found = refl;
      text = good.named;
      address = sym (ap (λ (u : Seg). u.vmaddr) own) ∙ ap (λ (u : Seg). u.vmaddr) here;
      holds = omega (arith, holds, file, kept);
    }

first_of : (i : Img) (s : Seg) → IsSound i → slice_get i.segments 0 ≡ Some s → IsFirst (header_size i.header) (segment_loads (loads_of i.header)) s
first_of i s sound got =
    let ls : List SegmentLoad = segment_loads (loads_of i.header) in
    let size : ℕ = header_size i.header in
    is_first size i.segments ls s sound.segments (shape_parts size ls (sound_rules i sound).segments).3 got

pub header_held : (i : Img) (s : Seg) → IsSound i → slice_get i.segments 0 ≡ Some s → length i.header ≤ s.filesize
header_held i s sound got = let first = first_of i s sound got in omega (arith, first.holds, sound.whole)

-- ---- its sections

-- a section of a command begins no earlier than its sections may
stand_above : (size k floor j : ℕ) (l : SegmentLoad) (u : Section) (xs : List SectionLoad) → sections_stand l (sections_start size l) floor xs ≡ true → slice_get (map (section_of k) xs) j ≡ Some u → (sections_start size l ≤ u.addr) × (u.segment ≡ k)
unfolding section_of
stand_above size k floor j l u [] stand got = absurd (cc)
stand_above size k floor zero l u (x ∷ xs) stand got =
    let low : sections_start size l ≤ x.addr = grind (arith, nat_tests) in
    let same : section_of k x ≡ u = same_Some (section_of k x) u got in
    (omega (arith, low, ap (λ (v : Section). v.addr) same), sym (ap (λ (v : Section). v.segment) same))
stand_above size k floor (suc j) l u (x ∷ xs) stand got =
    let rest : sections_stand l (sections_start size l) (x.addr + x.size) xs ≡ true = grind (arith, nat_tests) in
    stand_above size k (x.addr + x.size) j l u xs rest got

record IsAbove (size k : ℕ) (ls : List SegmentLoad) (u : Section) : Type 0 where
  load : SegmentLoad
  index : ℕ
  found : slice_get ls index ≡ Some load
  number : u.segment ≡ k + index
  above : sections_start size load ≤ u.addr

is_above : (size k : ℕ) (ls : List SegmentLoad) (j : ℕ) (u : Section) → first_segment (λ l. not (sections_stand l (sections_start size l) 0 l.sections)) ls ≡ None → slice_get (sections_from k ls) j ≡ Some u → IsAbove size k ls u
is_above size k [] j u none got = absurd (cc)
is_above size k (l ∷ ls) j u none got =
    let parts = find_none (not (sections_stand l (sections_start size l) 0 l.sections)) l (find (λ (t : SegmentLoad). not (sections_stand t (sections_start size t) 0 t.sections)) ls) none in
    elim (one_of_two (map (section_of k) l.sections) (sections_from (k + 1) ls) j u got) [
      | inl here ↦
          let own = stand_above size k 0 j l u l.sections (not-false (sections_stand l (sections_start size l) 0 l.sections) parts.0) here in
          record { load = l; index = 0; found = refl; number = omega (arith, own.1); above = own.0 }
      | inr later ↦
          let rest : IsAbove size (k + 1) ls u = is_above size (k + 1) ls later.0 u parts.1 later.1 in
          record { load = rest.load; index = suc rest.index; found = rest.found; number = omega (arith, rest.number); above = rest.above }
    ]

pub section_behind : (i : Img) (j : ℕ) (u : Section) (s : Seg) → IsSound i → slice_get i.sections j ≡ Some u → u.segment ≡ 0 → slice_get i.segments 0 ≡ Some s → s.vmaddr + length i.header ≤ u.addr
section_behind i j u s sound got first home =
    let ls : List SegmentLoad = segment_loads (loads_of i.header) in
    let size : ℕ = header_size i.header in
    let stand = (least_none_both (first_segment (λ l. not (sections_stand l (sections_start size l) 0 l.sections)) ls) (first_crowded 0 ls) (sound_rules i sound).sections).0 in
    let from : IsAbove size 0 ls u = is_above size 0 ls j u stand (ap (λ (xs : List Section). slice_get xs j) (sym sound.sections) ∙ got) in
    let own = first_of i s sound home in
    let index : from.index ≡ 0 = omega (arith, from.number, first) in
    let same : from.load ≡ own.load = same_Some from.load own.load (sym (ap (λ (n : ℕ). slice_get ls n) (sym index) ∙ from.found) ∙ own.found) in
    let start : sections_start size from.load ≡ own.load.vmaddr + size = ap (λ (l : SegmentLoad). sections_start size l) same ∙ cond-true (is_text own.load) (own.load.vmaddr + size) own.load.vmaddr own.text in
    omega (arith, from.above, start, own.address, sound.whole)
