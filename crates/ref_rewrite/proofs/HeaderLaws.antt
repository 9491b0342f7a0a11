-- The header of an image in a cache shares no byte with the image's words.
use Rattle.std.proofs.Common.{◌≡◌, ◌≤◌, ◌<◌, ◌⊎◌, ℕ, zero, suc, ◌+◌, ◌-◌, true, not, List, [], ◌∷◌, length, map, filter, get_or, refl, sym, ap, ◌∙◌, subst, arith, inl, inr, Option, Some, None}
use Rattle.std.specs.Prelude.{find, slice_get, slice_index_or}
use Rattle.std.specs.List.{All}
use Rattle.std.proofs.lemmas.Bool.{cond-true, cases_lt, and_parts, not-false}
use Rattle.std.proofs.lemmas.Bool.Decides.{nat_tests}
use Rattle.std.proofs.lemmas.List.Elements.{All-append, All-map, All-filter}
use Rattle.std.proofs.lemmas.Option.{same_Some, slice_get_read, slice_get-get_or, slice_get_within, get_or_from_slice_get}
use Rattle.dsc_base.specs.declared.edits.Edit.{Edit}
use Rattle.macho_image.specs.Records.{Img, Seg, SegmentLoad, SectionLoad}
use Rattle.macho_image.specs.declared.place.Location.{Location}
use Rattle.macho_image.specs.declared.section.Section.{Section}
use Rattle.macho_image.specs.Macho.{header_size, loads_of, segment_loads, section_of, sections_from}
use Rattle.macho_image.specs.Places.{IsWord}
use Rattle.macho_image.specs.Rules.{first_segment, is_text, sections_stand, sections_start, first_crowded}
use Rattle.macho_image.specs.Breaks.{IsSound}
use Rattle.macho_image.proofs.HeaderLaws.{text_position}
use Rattle.macho_image.proofs.Unbroken.{least_none_both, find_none}
use Rattle.cache_layout.proofs.SoundLaws.{load-of, sound_linkedit}
use Rattle.cache_layout.proofs.PlaceLaws.{are_apart}
use Rattle.cache_layout.proofs.RoomLaws.{paged-covers}
use Rattle.cache_layout.specs.Apart.{IsSegment, move_at}
use Rattle.cache_layout.specs.Layouts.{Laid, layout_of}
use Rattle.split_info.specs.declared.reference.Reference.{Reference}
use Rattle.split_info.specs.References.{width_of}
use Rattle.split_info.specs.Split.{IsReference}
use Rattle.prebind.specs.declared.resolved.PlacedWord.{PlacedWord}
use Rattle.prebind.specs.Sets.{StreamLists, ImageSet, IsSplitRead}
use Rattle.prebind.specs.Words.{Word, pointer_word, reference_word, is_no_pointer, streams_in, streams_at}
use Rattle.ref_rewrite.specs.Moving.{move_or_none, header_move, new_offset, edit_of}
use Rattle.ref_rewrite.specs.Planned.{words_with, plan_of}
use Rattle.ref_rewrite.proofs.FitLaws.{IsAt, IsPlanned, headed, segment_there, offset_is, references_are}
use Rattle.ref_rewrite.proofs.HomeLaws.{good_first, one_of_two, section_owned, two_segments, header_fits, bytes_fit}
use Rattle.ref_rewrite.proofs.PlacedLaws.{placed_words}
use Rattle.macho_image.proofs.HeaderRules.{sound_rules, shape_parts}
use Rattle.prebind.proofs.PlacedLists.{placed_at}

-- a section of a command begins no earlier than its sections may
stand_above : (size k floor j : ℕ) (l : SegmentLoad) (u : Section) (xs : List SectionLoad) → sections_stand l (sections_start size l) floor xs ≡ true → slice_get (map (section_of k) xs) j ≡ Some u → (sections_start size l ≤ u.addr) × (u.segment ≡ k)
unfolding section_of
stand_above size k floor j l u [] stand got = absurd (cc)
stand_above size k floor zero l u (x ∷ xs) stand got =
    let low : sections_start size l ≤ x.addr = grind (arith, nat_tests) in
    let same : section_of k x ≡ u = same_Some (section_of k x) u got in
    (omega (arith, low, ap (λ (v : Section). v.addr) same), sym (ap (λ (v : Section). v.segment) same))
stand_above size k floor (suc j) l u (x ∷ xs) stand got =
    let rest : sections_stand l (sections_start size l) (x.addr + x.size) xs ≡ true = grind (arith, nat_tests) in
    stand_above size k (x.addr + x.size) j l u xs rest got

record IsAbove (size k : ℕ) (ls : List SegmentLoad) (u : Section) : Type 0 where
  load : SegmentLoad
  index : ℕ
  found : slice_get ls index ≡ Some load
  number : u.segment ≡ k + index
  above : sections_start size load ≤ u.addr

is_above : (size k : ℕ) (ls : List SegmentLoad) (j : ℕ) (u : Section) → first_segment (λ l. not (sections_stand l (sections_start size l) 0 l.sections)) ls ≡ None → slice_get (sections_from k ls) j ≡ Some u → IsAbove size k ls u
is_above size k [] j u none got = absurd (cc)
is_above size k (l ∷ ls) j u none got =
    let parts = find_none (not (sections_stand l (sections_start size l) 0 l.sections)) l (find (λ (t : SegmentLoad). not (sections_stand t (sections_start size t) 0 t.sections)) ls) none in
    elim (one_of_two (map (section_of k) l.sections) (sections_from (k + 1) ls) j u got) [
      | inl here ↦
          let own = stand_above size k 0 j l u l.sections (not-false (sections_stand l (sections_start size l) 0 l.sections) parts.0) here in
          record { load = l; index = 0; found = refl; number = omega (arith, own.1); above = own.0 }
      | inr later ↦
          let rest : IsAbove size (k + 1) ls u = is_above size (k + 1) ls later.0 u parts.1 later.1 in
          record { load = rest.load; index = suc rest.index; found = rest.found; number = omega (arith, rest.number); above = rest.above }
    ]

-- a section of the first segment begins behind the header
pub section_behind : (image : Img) → IsSound image → (j : ℕ) (u : Section) (s : Seg) → slice_get image.sections j ≡ Some u → u.segment ≡ 0 → slice_get image.segments 0 ≡ Some s → s.vmaddr + length image.header ≤ u.addr
section_behind image sound j u s got first home =
    let ls : List SegmentLoad = segment_loads (loads_of image.header) in
    let size : ℕ = header_size image.header in
    let stand = (least_none_both (first_segment (λ l. not (sections_stand l (sections_start size l) 0 l.sections)) ls) (first_crowded 0 ls) (sound_rules image sound).sections).0 in
    let from : IsAbove size 0 ls u = is_above size 0 ls j u stand (ap (λ (xs : List Section). slice_get xs j) (sym sound.sections) ∙ got) in
    let some : 0 < length image.segments = slice_get_within image.segments 0 s home in
    let at : s ≡ get_or image.segments 0 s = sym (get_or_from_slice_get image.segments 0 s s home) in
    let command = load-of image.segments ls sound.segments 0 s some at in
    let index : from.index ≡ 0 = omega (arith, from.number, first) in
    let found : slice_get ls 0 ≡ Some command.0 = slice_get_read ls (length ls) 0 command.0 refl command.1 command.2 in
    let same : from.load ≡ command.0 = same_Some from.load command.0 (sym (ap (λ (n : ℕ). slice_get ls n) (sym index) ∙ from.found) ∙ found) in
    let good = and_parts (is_text command.0) _ (good_first size ls command.0 (shape_parts size ls (sound_rules image sound).segments).3 command.1 command.2) in
    let start : sections_start size from.load ≡ command.0.vmaddr + size = ap (sections_start size) same ∙ cond-true (is_text command.0) (command.0.vmaddr + size) command.0.vmaddr good.0 in
    omega (arith, from.above, start, ap (λ (t : Seg). t.vmaddr) command.3, sound.whole)

-- ---- in the cache

-- bytes that end before others begin, or begin behind their end
abbrev Clear : ℕ → ℕ → ℕ → ℕ → Type 0
Clear a m b n = (a + m ≤ b) ⊎ (b + n ≤ a)

abbrev header_place : List Img → ℕ → Img → ℕ
header_place is k i = (header_move (layout_of is) k i.segments).file

word_clear : (is : List Img) (k g j n address : ℕ) (i : Img) (s : Seg) (u : Section) → IsAt is k i → slice_get i.segments g ≡ Some s → slice_get i.sections j ≡ Some u → u.segment ≡ g → u.addr ≤ address → s.vmaddr ≤ address → address + n ≤ s.vmaddr + s.vmsize
    → Clear (new_offset (layout_of is) k i.segments g address) n (header_place is k i) (length i.header)
unfolding header_move
word_clear is k g j n address i s u at found got own low from to =
    let l : Laid = layout_of is in
    let there : IsSegment is k g i s = segment_there is k g i s at.lt at.at found in
    let other = section_owned i at.sound j u s got (ap (λ (x : ℕ). slice_get i.segments x) own ∙ found) in
    let place = offset_is is k g i s address at.none at.sound at.lt at.at found other from (omega (arith, to)) in
    let head : header_place is k i ≡ (move_at l k 0).file = ap (λ (o : Option ℕ). (move_or_none l k o).file) (text_position i at.sound) in
    let two = two_segments i at.sound in
    let d : Seg = record { name = []; vmaddr = 0; vmsize = 0; fileoff = 0; filesize = 0; maxprot = 0; initprot = 0; flags = 0; bytes = [] } in
    let t : Seg = get_or i.segments 0 d in
    let some : 0 < length i.segments = omega (arith, two) in
    let first : slice_get i.segments 0 ≡ Some t = slice_get-get_or i.segments 0 d some in
    let there' : IsSegment is k 0 i t = segment_there is k 0 i t at.lt at.at first in
    let other' = (sound_linkedit i at.sound 0 t some there'.segment_is).0 (omega (arith, two)) in
    let room = header_fits i at.sound t some there'.segment_is in
    let few = bytes_fit i at.sound 0 t some there'.segment_is in
    elim (cases_lt 0 g) [
      | inr none ↦
          let zero_g : g ≡ 0 = omega (arith, none) in
          let same : s ≡ t = same_Some s t (sym found ∙ (ap (λ (x : ℕ). slice_get i.segments x) zero_g ∙ first)) in
          let behind = section_behind i at.sound j u t got (own ∙ zero_g) first in
          let file : (move_at l k g).file ≡ (move_at l k 0).file = ap (λ (x : ℕ). (move_at l k x).file) zero_g in
          inr (omega (arith, place, head, file, behind, low, ap (λ (x : Seg). x.vmaddr) same))
      | inl later ↦ elim (are_apart is k g i s k 0 i t there there' other other' (λ e f. omega (arith, later, f))) [
        | inl before ↦ inl (omega (arith, place, head, before, from, to, paged-covers s.vmsize))
        | inr after ↦ inr (omega (arith, place, head, after, room, few, paged-covers t.vmsize))
      ]
    ]

words_clear : (is : List Img) (k : ℕ) (i : Img) (st : StreamLists) (placed : List PlacedWord) → IsAt is k i → IsSplitRead i st → All (λ (w : PlacedWord). IsWord i w.at) placed
    → All (λ (w : Word). Clear (new_offset (layout_of is) k i.segments w.at.segment w.at.address) (width_of w.kind) (header_place is k i) (length i.header)) (words_with k i st placed)
words_clear is k i st placed at read words =
    let P : Word → Type 0 = λ w. Clear (new_offset (layout_of is) k i.segments w.at.segment w.at.address) (width_of w.kind) (header_place is k i) (length i.header) in
    let references : List Reference = filter is_no_pointer st.references in
    All-append P (map pointer_word placed) (map (reference_word k i.sections i.segments) references)
    (All-map P pointer_word placed (λ j d lt. let w : PlacedWord = get_or placed j d in pointer w.at (words j d lt)))
    (All-map P (reference_word k i.sections i.segments) references
    (λ j d lt. reference (get_or references j d) (All-filter is_no_pointer (IsReference i st.rebases) st.references (references_are i st at.sound read) j d lt)))
  where
    pointer : (l : Location) → IsWord i l → Clear (new_offset (layout_of is) k i.segments l.segment l.address) 8 (header_place is k i) (length i.header)
    pointer l word = word_clear is k l.segment (l.section - 1) 8 l.address i word.segment word.section at word.segment_is word.section_is word.in_segment word.section_from word.from word.to

    reference : (r : Reference) → IsReference i st.rebases r → Clear (new_offset (layout_of is) k i.segments r.from_segment r.from) (width_of r.kind) (header_place is k i) (length i.header)
    reference r one = word_clear is k r.from_segment one.index (width_of r.kind) r.from i one.segment one.section at one.segment_is one.section_is one.in_segment one.section_from one.from one.to

-- No edit of an image shares a byte with its header.
pub header_clear : (set : ImageSet) (placed : List (List PlacedWord)) (headers : List (List ℕ)) → IsPlanned set placed headers → (k : ℕ) (i : Img) → k < length set.images → i ≡ get_or set.images k i
    → All (λ (e : Edit). Clear e.at e.width (headed set placed headers k i).header_at (length (headed set placed headers k i).header)) (headed set placed headers k i).edits
unfolding plan_of
header_clear set placed headers given k i lt at =
    let is : List Img = set.images in
    let image : slice_get is k ≡ Some i = slice_get_read is (length is) k i refl lt at in
    let long : k < length set.streams = omega (arith, lt, given.sound.many) in
    let none : StreamLists = record { rebases = []; binds = []; references = []; exports = [] } in
    let s : StreamLists = get_or set.streams k none in
    let streams : slice_get set.streams k ≡ Some s = slice_get-get_or set.streams k none long in
    let same : streams_at set k ≡ s = ap streams_in streams in
    let ws : List PlacedWord = slice_index_or placed k [] in
    let words = placed_words set k i s ws (given.sound.streams k i s image streams) streams (placed_at set placed given.placed_all k lt) in
    let there : IsAt is k i = record { none = given.none; lt = lt; at = at; sound = given.images k i lt at } in
    let read = subst (λ (t : StreamLists). IsSplitRead i t) (sym same) (given.read k i s image streams) in
    let all = words_clear is k i (streams_at set k) ws there read words in
    let size : length (slice_index_or headers k []) ≡ length i.header = given.sized k i image in
    All-map (λ (e : Edit). Clear e.at e.width (header_place is k i) (length (slice_index_or headers k []))) (edit_of (layout_of is) k i.segments) (words_with k i (streams_at set k) ws)
    (λ j d inside. let w : Word = get_or (words_with k i (streams_at set k) ws) j d in
    subst (λ (n : ℕ). Clear (new_offset (layout_of is) k i.segments w.at.segment w.at.address) (width_of w.kind) (header_place is k i) n) (sym size) (all j d inside))
