-- A byte of a section that is in no word is the same in the mapped cache as in the loaded file.
use Rattle.std.proofs.Common.{◌≡◌, ◌≤◌, ◌<◌, ◌⊎◌, ℕ, zero, suc, ◌+◌, ◌-◌, false, Some, List, [], ◌++◌, drop, length, get_or, replicate, refl, sym, ap, ap₂, ◌∙◌, subst, arith, inl, inr}
use Rattle.std.specs.Prelude.{slice_get, slice_index_or}
use Rattle.std.proofs.lemmas.Bool.{cases_lt}
use Rattle.std.proofs.lemmas.List.{get_or_default, get_or-append_right, get_or-drop, get_or_past}
use Rattle.std.proofs.lemmas.Option.{same_Some, slice_get_read}
use Rattle.std.proofs.Math.ListN.{get_or-append}
use Rattle.dsc_base.specs.Region.{region_start, paged}
use Rattle.dsc_base.specs.declared.edits.Edit.{Edit}
use Rattle.dsc_base.specs.Edits.{ApartFrom}
use Rattle.dsc_base.proofs.EditLaws.{in_one_or_apart}
use Rattle.macho_image.specs.Records.{Seg, Img}
use Rattle.macho_image.specs.Breaks.{IsSound}
use Rattle.macho_image.specs.Rules.{is_linkedit_segment}
use Rattle.macho_image.specs.declared.section.Section.{Section}
use Rattle.macho_image.specs.Places.{wrap}
use Rattle.cache_layout.specs.Layouts.{layout_of}
use Rattle.cache_layout.specs.Apart.{IsSegment, IsApart, move_at}
use Rattle.cache_layout.proofs.PlaceLaws.{are_apart, are_within}
use Rattle.cache_layout.proofs.RoomLaws.{paged-covers}
use Rattle.split_info.specs.References.{width_of}
use Rattle.prebind.specs.Sets.{image_set}
use Rattle.prebind.specs.Words.{words_of}
use Rattle.load_model.specs.Loading.{in_memory}
use Rattle.load_model.specs.Mapped.{mapped}
use Rattle.load_model.specs.Corresponds.{InWord}
use Rattle.load_model.proofs.LoadingLaws.{in_memory-byte, zero_byte}
use Rattle.load_model.proofs.LoadedBytes.{IsLoadedByte}
use Rattle.load_model.proofs.WordCases.{IsIn, IsOf, word_in, covered}
use Rattle.load_model.proofs.WordPlaces.{one_section}
use Rattle.ref_rewrite.specs.Pages.{pages_of}
use Rattle.ref_rewrite.proofs.HomeLaws.{section_owned}
use Rattle.ref_rewrite.proofs.HeaderLaws.{section_behind}
use Rattle.ref_rewrite.proofs.FitLaws.{segment_there}
use Rattle.cache_build.specs.Cache.{no_spots, header_of, cache_of}
use Rattle.cache_build.proofs.BuildableSets.{IsAccepted, set_edits, set_span, set_spots, slid_of}
use Rattle.cache_build.proofs.CacheFacts.{moved_in}
use Rattle.cache_build.proofs.MovedLaws.{IsMovedSection, moved_section_at}
use Rattle.cache_build.proofs.SetWords.{SetWord, set_words, edit_at, among_edits, IsOfSet, of_set}
use Rattle.cache_build.proofs.CachedWords.{Stands, word_stands_at}
use Rattle.cache_build.proofs.MappedWords.{IsCachedSet, move_there, segment_ends}

-- ---- which places are in no word

same_or_apart : (a b c d : ℕ) → ((a ≡ c) × (b ≡ d)) ⊎ (a ≡ c → b ≡ d → ⊥)
same_or_apart a b c d = elim (cases_lt a c) [
  | inl lt ↦ inr (λ e f. omega (arith, lt, e))
  | inr ge ↦ elim (cases_lt c a) [
    | inl gt ↦ inr (λ e f. omega (arith, gt, e))
    | inr le ↦ elim (cases_lt b d) [
      | inl lt ↦ inr (λ e f. omega (arith, lt, f))
      | inr ge' ↦ elim (cases_lt d b) [
        | inl gt ↦ inr (λ e f. omega (arith, gt, f))
        | inr le' ↦ inl (omega (arith, ge, le), omega (arith, ge', le'))
      ]
    ]
  ]
]

-- a section's byte that lies in a word of its image is covered by it
in_word_at : (is : List Img) (k j offset : ℕ) (i : Img) (u : Section) (x : SetWord) → IsSound i → slice_get i.sections j ≡ Some u → offset < u.size → IsOfSet is x → (stands : Stands is x) → x.number ≡ k → x.image ≡ i
    → x.word.at.address ≤ u.addr + offset → u.addr + offset < x.word.at.address + width_of x.word.kind → InWord (words_of (image_set is) k) (j + 1) u offset
in_word_at is k j offset i u x sound got lt own stands number image from to =
    let section : Section = stands.in_section.section in
    let found : slice_get i.sections (x.word.at.section - 1) ≡ Some section = subst (λ (y : Img). slice_get y.sections (x.word.at.section - 1) ≡ Some section) image stands.in_section.found in
    let same : j ≡ x.word.at.section - 1 =
    one_section i sound j (x.word.at.section - 1) u section got found (u.addr + offset) (omega arith) (omega (arith, lt)) (omega (arith, stands.in_section.place, from)) (omega (arith, stands.in_section.place, stands.in_section.within, to)) in
    subst (λ (n : ℕ). InWord (words_of (image_set is) n) (j + 1) u offset) number
    (covered (words_of (image_set is) x.number) x.word (j + 1) offset u (word_in (words_of (image_set is) x.number) x.word own.word)
    (omega (arith, same, stands.in_section.counts), u.addr + offset - x.word.at.address, omega (arith, from, to), omega (arith, from)))

-- a place of a segment in no word of its image is in no edit of the cache
free_place : (is : List Img) → IsAccepted is → (k g d : ℕ) (i : Img) (s : Seg) → IsSegment is k g i s → is_linkedit_segment s ≡ false → d < s.vmsize
    → ((x : SetWord) → IsIn (set_words is) x → x.number ≡ k → x.image ≡ i → x.word.at.address ≤ s.vmaddr + d → s.vmaddr + d < x.word.at.address + width_of x.word.kind → ⊥)
    → ApartFrom ((move_at (layout_of is) k g).file + d) 1 (set_edits is)
free_place is accepted k g d i s there other lt free =
    let l = layout_of is in
    elim (in_one_or_apart (set_edits is) ((move_at l k g).file + d)) [
      | inr apart ↦ apart
      | inl found ↦
          let own : IsOf (edit_at is) (set_words is) found.0 = among_edits is found.0 found.1.0 in
          let x : SetWord = own.from in
          let stands : Stands is own.from = word_stands_at is accepted own.from own.there in
          let at : found.0.at ≡ (edit_at is own.from).at = ap (λ (e : Edit). e.at) own.is in
          let width : found.0.width ≡ (edit_at is own.from).width = ap (λ (e : Edit). e.width) own.is in
          let low : found.0.at ≤ (move_at (layout_of is) k g).file + d = found.1.1 in
          let high : (move_at (layout_of is) k g).file + d < found.0.at + found.0.width = found.1.2 in
          elim (same_or_apart k g x.number x.word.at.segment) [
            | inl same ↦
                let image : own.from.image ≡ i = stands.image_is ∙ (get_same is own.from.image i k own.from.number same.0 there.image_in ∙ sym there.image_is) in
                let segment : stands.segment ≡ s =
                same_Some stands.segment s (sym stands.segment_is ∙ (ap₂ (λ (y : Img) (n : ℕ). slice_get y.segments n) image (sym same.1) ∙ segment_got i g s there.segment_in there.segment_is)) in
                let start : stands.segment.vmaddr ≡ s.vmaddr = ap (λ (t : Seg). t.vmaddr) segment in
                let file : (move_at (layout_of is) own.from.number own.from.word.at.segment).file ≡ (move_at (layout_of is) k g).file = ap₂ (λ (a b : ℕ). (move_at (layout_of is) a b).file) (sym same.0) (sym same.1) in
                absurd (free x own.there (sym same.0) image
                (omega (arith, at, low, start, file, stands.place, stands.in_section.place, stands.from)) (omega (arith, at, width, high, start, file, stands.place, stands.in_section.place, stands.from)))
            | inr differ ↦
                let apart : IsApart (move_at (layout_of is) k g).file s (move_at (layout_of is) own.from.number own.from.word.at.segment).file stands.segment =
                are_apart is k g i s x.number x.word.at.segment x.image stands.segment there stands.there other stands.owned differ in
                elim apart [
                  | inl before ↦ absurd (omega (arith, before, at, low, stands.place, stands.in_section.place, stands.from, lt, paged-covers s.vmsize))
                  | inr behind ↦ absurd (omega (arith, behind, at, width, high, stands.place, stands.in_section.place, stands.in_section.within, stands.from, stands.to, paged-covers stands.segment.vmsize))
                ]
          ]
    ]
  where
    get_same : (js : List Img) (a b : Img) (m n : ℕ) → m ≡ n → m < length js → get_or js n a ≡ get_or js m b
    get_same js a b m n same inside = ap (λ (q : ℕ). get_or js q a) (sym same) ∙ get_or_default js m a b inside

    segment_got : (j : Img) (n : ℕ) (t : Seg) → n < length j.segments → t ≡ get_or j.segments n t → slice_get j.segments n ≡ Some t
    segment_got j n t inside own = slice_get_read j.segments (length j.segments) n t refl inside own

-- ---- bytes behind the header

zeros_behind : (bytes : List ℕ) (n d : ℕ) → get_or (bytes ++ replicate n 0) d 0 ≡ get_or bytes d 0
zeros_behind bytes n d =
    elim (cases_lt d (length bytes)) [
      | inl lt ↦ get_or-append bytes (replicate n 0) 0 d lt
      | inr past ↦ get_or-append_right bytes (replicate n 0) (length bytes) d 0 refl past ∙ (zero_byte n (d - length bytes) ∙ sym (get_or_past bytes d 0 past))
    ]

fronted_byte : (header bytes : List ℕ) (d : ℕ) → length header ≤ d → get_or (header ++ drop (length header) bytes) d 0 ≡ get_or bytes d 0
fronted_byte header bytes d behind =
    get_or-append_right header (drop (length header) bytes) (length header) d 0 refl behind
    ∙ (get_or-drop (length header) bytes (d - length header) 0 ∙ ap (λ (n : ℕ). get_or bytes n 0) (omega (arith, behind)))

-- behind the header, a byte of a segment's pages is the one in memory
memory_byte : (header : List ℕ) (g d : ℕ) (s : Seg) → (g ≡ 0 → length header ≤ d) → get_or (pages_of header g s) d 0 ≡ get_or (in_memory s) d 0
memory_byte header zero d s behind =
    zeros_behind (header ++ drop (length header) s.bytes) (paged s.vmsize - length (header ++ drop (length header) s.bytes)) d ∙ (fronted_byte header s.bytes d (behind refl) ∙ sym (in_memory-byte s d))
memory_byte header (suc g) d s behind = zeros_behind s.bytes (paged s.vmsize - length s.bytes) d ∙ sym (in_memory-byte s d)

-- ---- a byte of a section

pub byte_mapped : (bits : ℕ) (is : List Img) → IsCachedSet bits is → (slides : ℕ → ℕ) (slide k j offset : ℕ) (i : Img) (u v : Section) → k < length is → i ≡ get_or is k i → IsSound i → slice_get i.sections j ≡ Some u
    → slice_get (moved_in bits is k i).sections j ≡ Some v → offset < u.size → (InWord (words_of (image_set is) k) (j + 1) u offset → ⊥) → (byte : IsLoadedByte (image_set is) slides k i u offset)
    → mapped (cache_of bits is) slide (wrap (v.addr + offset + slide)) ≡ Some (get_or (in_memory byte.home) byte.distance 0)
byte_mapped bits is set slides slide k j offset i u v lt at sound got moved_got inside free byte =
    let accepted : IsAccepted is = set.ready.accepted in
    let g : ℕ = u.segment in
    let s : Seg = byte.home in
    let d : ℕ = byte.distance in
    let l = layout_of is in
    let there : IsSegment is k u.segment i byte.home = segment_there is k u.segment i byte.home lt at byte.found in
    let other : is_linkedit_segment byte.home ≡ false = section_owned i sound j u byte.home got byte.found in
    let within = are_within is accepted.layout k g i s there other in
    let moved : IsMovedSection u v s (move_at (layout_of is) k u.segment) =
    moved_section_at i (slice_index_or l.moves k []) (slice_index_or (set_spots bits is) k no_spots) (slid_of bits is 0) sound j u v s (move_at l k g) got moved_got byte.found (move_there is k g i s lt at byte.found) in
    let place : v.addr + offset ≡ region_start + ((move_at (layout_of is) k u.segment).file + byte.distance) = omega (arith, moved.addr, byte.far, byte.above, within.2.address) in
    let room : byte.distance < paged byte.home.vmsize = omega (arith, byte.within, paged-covers s.vmsize) in
    let end : (move_at (layout_of is) k u.segment).file + byte.distance < set_span bits is = let ends = segment_ends bits is accepted k g i s there other in omega (arith, ends, room) in
    let header : List ℕ = header_of l (set_spots bits is) k i in
    let size : length (header_of (layout_of is) (set_spots bits is) k i) ≡ length i.header = set.cache.sized k i lt at in
    let behind : u.segment ≡ 0 → length (header_of (layout_of is) (set_spots bits is) k i) ≤ byte.distance =
    λ first. let past = section_behind i sound j u s got first (ap (λ (n : ℕ). slice_get i.segments n) (sym first) ∙ byte.found) in omega (arith, past, size, byte.far) in
    let apart : ApartFrom ((move_at (layout_of is) k u.segment).file + byte.distance) 1 (set_edits is) =
    free_place is accepted k g d i s there other byte.within
    (λ x member number image from to.
    let stands : Stands is x = word_stands_at is accepted x member in
    free (in_word_at is k j offset i u x sound got inside (of_set is x member) stands number image (omega (arith, from, byte.far, byte.above)) (omega (arith, to, byte.far, byte.above)))) in
    ap (λ (n : ℕ). mapped (cache_of bits is) slide (wrap (n + slide))) place
    ∙ (set.cache.mapped_byte slide ((move_at l k g).file + d) end
    ∙ ap (λ (b : ℕ). Some b) (set.cache.free_byte slide ((move_at l k g).file + d) apart ∙ (set.cache.page_byte k g i s there other d room ∙ memory_byte header g d s behind)))
