-- The segments of the image that a file has: behind the header each has the bytes of the cached one.
use Rattle.std.proofs.Common.{◌≡◌, ◌≤◌, ◌<◌, ℕ, zero, suc, ◌+◌, ◌-◌, ◌%◌, false, true, Some, List, [], ◌∷◌, ◌++◌, drop, length, get_or, replicate, refl, sym, ap, ◌∙◌, arith, inl, inr, length-append, length-drop}
use Rattle.std.specs.Prelude.{slice_get}
use Rattle.std.specs.List.{All, AllByRecursion, flat_map}
use Rattle.std.proofs.lemmas.Bool.{cases_lt, false≢true}
use Rattle.std.proofs.lemmas.List.{get_or-append_right, get_or-drop, get_or-take}
use Rattle.std.proofs.lemmas.Option.{same_Some}
use Rattle.std.proofs.Math.ListN.{get_or-append}
use Rattle.dsc_base.specs.Region.{paged}
use Rattle.macho_image.specs.Records.{Seg, Img}
use Rattle.macho_image.specs.Breaks.{IsSound}
use Rattle.macho_image.specs.Rules.{is_linkedit_segment}
use Rattle.macho_image.specs.Places.{wrap}
use Rattle.macho_image.specs.declared.place.Location.{Location}
use Rattle.macho_image.specs.declared.place.Moved.{Moved}
use Rattle.macho_image.proofs.HeaderLaws.{some_segment}
use Rattle.prebind.specs.Bodies.{body_of}
use Rattle.prebind.proofs.LinkeditLaws.{EndsInLinkedit, ends_in_linkedit}
use Rattle.load_model.specs.Loading.{segment_cells}
use Rattle.load_model.proofs.LoadingLaws.{IsLow, low_at, in_memory-byte, loaded_cell}
use Rattle.load_model.proofs.SoundApart.{sound_apart}
use Rattle.extractor.specs.ExtractOf.{moves_from, bodies_of, page_bytes, body_bytes, linkedit_of, header_of, file_of}
use Rattle.extractor.specs.Files.{IsPlaced}
use Rattle.extractor.proofs.BehindLaws.{header_held}
use Rattle.extractor.proofs.BodyLaws.{paged_whole, paged_behind, paged_covers, length-whole_pages, bodies_filled}
use Rattle.extractor.proofs.OwnSegments.{no_move, IsOwn, own_segment}
use Rattle.extractor.proofs.OwnStreams.{own_image}

-- ---- whole pages, one segment's behind the other's

page_byte : (s : Seg) (rest : List ℕ) (d : ℕ) → d < length s.bytes → get_or (page_bytes s ++ rest) d 0 ≡ get_or s.bytes d 0
page_byte s rest d lt =
    get_or-append (page_bytes s) rest 0 d (omega (arith, lt, length-whole_pages s.bytes, paged_covers (length s.bytes)))
    ∙ get_or-append s.bytes (replicate (paged (length s.bytes) - length s.bytes) 0) 0 d lt

-- the pages of a segment among those of some
record HasPages (at : ℕ) (bodies : List Seg) (l : Seg) (g : ℕ) (s : Seg) : Type 0 where
  place : ℕ
  file : (get_or (moves_from at (bodies ++ l ∷ [])) g no_move).file ≡ at + place
  inside : place + s.vmsize ≤ length (flat_map page_bytes bodies)
  byte : (d : ℕ) → d < s.vmsize → get_or (flat_map page_bytes bodies) (place + d) 0 ≡ get_or s.bytes d 0
  behind : (first : Seg) → slice_get (bodies ++ l ∷ []) 0 ≡ Some first → 0 < g → first.vmsize ≤ place

pages_at : (at : ℕ) (bodies : List Seg) (l : Seg) (g : ℕ) (s : Seg) → at % 4096 ≡ 0 → AllByRecursion (λ (t : Seg). length t.bytes ≡ t.vmsize) bodies → slice_get bodies g ≡ Some s → HasPages at bodies l g s
unfolding moves_from
pages_at at [] l g s whole filled got = absurd (cc)
pages_at at (b ∷ bs) l zero s whole filled got =
    let own : b ≡ s = same_Some b s got in
    let size : length b.bytes ≡ s.vmsize = filled.0 ∙ ap (λ (t : Seg). t.vmsize) own in
    let rest : List ℕ = flat_map page_bytes bs in
    record {
      place = 0;
      file = omega arith;
      inside = omega (arith, size, length-append (page_bytes b) (flat_map page_bytes bs), length-whole_pages b.bytes, paged_covers (length b.bytes));
      byte = λ d lt.
          let front : 0 + d ≡ d = omega arith in
          ap (λ (n : ℕ). get_or (page_bytes b ++ rest) n 0) front ∙ (page_byte b rest d (omega (arith, size, lt)) ∙ ap (λ (t : Seg). get_or t.bytes d 0) own);
      behind = λ first there some. absurd (omega (arith, some));
    }
pages_at at (b ∷ bs) l (suc g) s whole filled got =
    let own : HasPages (paged (at + b.vmsize)) bs l g s = pages_at (paged (at + b.vmsize)) bs l g s (paged_whole (at + b.vmsize)) filled.1 got in
    let rest : List ℕ = flat_map page_bytes bs in
    let long : length (page_bytes b) ≡ paged b.vmsize = length-whole_pages b.bytes ∙ ap (λ (n : ℕ). paged n) filled.0 in
    record {
      place = paged b.vmsize + own.place;
      file = omega (arith, own.file, paged_behind at b.vmsize whole);
      inside = omega (arith, own.inside, long, length-append (page_bytes b) (flat_map page_bytes bs));
      byte = λ d lt.
          let back : paged b.vmsize + own.place + d - paged b.vmsize ≡ own.place + d = omega arith in
          get_or-append_right (page_bytes b) rest (paged b.vmsize) (paged b.vmsize + own.place + d) 0 long (omega arith)
          ∙ (ap (λ (n : ℕ). get_or (flat_map page_bytes bs) n 0) back ∙ own.byte d lt);
      behind = λ first there some.
          let is : b ≡ first = same_Some b first there in
          omega (arith, paged_covers b.vmsize, ap (λ (t : Seg). t.vmsize) is);
    }

-- ---- in the file

-- a segment other than `__LINKEDIT` is among those in front of it
in_front : (bs : List Seg) (l : Seg) (g : ℕ) (s : Seg) → is_linkedit_segment l ≡ true → is_linkedit_segment s ≡ false → slice_get (bs ++ l ∷ []) g ≡ Some s → slice_get bs g ≡ Some s
in_front [] l zero s named other got = absurd (false≢true (sym other ∙ (ap (λ (t : Seg). is_linkedit_segment t) (sym (same_Some l s got)) ∙ named)))
in_front [] l (suc g) s named other got = absurd (cc)
in_front (b ∷ bs) l zero s named other got = got
in_front (b ∷ bs) l (suc g) s named other got = in_front bs l g s named other got

own_pages : (i : Img) (g : ℕ) (s : Seg) → IsSound i → All IsPlaced (bodies_of i) → slice_get i.segments g ≡ Some s → is_linkedit_segment s ≡ false → (ends : EndsInLinkedit i.segments) → HasPages 0 (bodies_of i) ends.linkedit g s
own_pages i g s sound placed got other ends =
    pages_at 0 (bodies_of i) ends.linkedit g s refl (bodies_filled i sound placed)
    (in_front (body_of i.segments) ends.linkedit g s ends.named other (ap (λ (ss : List Seg). slice_get ss g) (sym ends.split) ∙ got))

-- behind the header the file has the bytes of the segments
file_byte : (k : ℕ) (i : Img) (words : List Location) (x : ℕ) → length (header_of k i words) ≤ x → x < length (body_bytes i) → get_or (file_of k i words) x 0 ≡ get_or (body_bytes i) x 0
unfolding file_of
file_byte k i words x from to =
    let header : List ℕ = header_of k i words in
    let n : ℕ = length (header_of k i words) in
    let rest : List ℕ = drop (length (header_of k i words)) (body_bytes i) in
    let back : length (header_of k i words) + (x - length (header_of k i words)) ≡ x = omega (arith, from) in
    get_or-append_right header (rest ++ linkedit_of i words) n x 0 refl from
    ∙ (get_or-append rest (linkedit_of i words) 0 (x - n) (omega (arith, from, to, length-drop n (body_bytes i)))
    ∙ (get_or-drop n (body_bytes i) (x - n) 0 ∙ ap (λ (m : ℕ). get_or (body_bytes i) m 0) back))

-- ---- in memory

-- the first segment's bytes begin with the header, which is another one in the file
pub own_byte : (k g : ℕ) (i : Img) (words : List Location) (s : Seg) (d : ℕ) → IsSound i → All IsPlaced (bodies_of i) → length (header_of k i words) ≡ length i.header → (own : IsOwn k g i words s) → slice_get i.segments g ≡ Some s → is_linkedit_segment s ≡ false
    → d < s.vmsize → (g ≡ 0 → length i.header ≤ d) → get_or own.own.bytes d 0 ≡ get_or s.bytes d 0
unfolding body_bytes
own_byte k g i words s d sound placed sized own got other lt behind =
    let ends : EndsInLinkedit i.segments = ends_in_linkedit i sound in
    let pages : HasPages 0 (bodies_of i) ends.linkedit g s = own_pages i g s sound placed got other ends in
    let m : Moved = get_or (moves_from 0 i.segments) g no_move in
    let place : (get_or (moves_from 0 i.segments) g no_move).file ≡ pages.place = ap (λ (ss : List Seg). (get_or (moves_from 0 ss) g no_move).file) ends.split ∙ (pages.file ∙ omega arith) in
    let first = some_segment i sound in
    let low : IsLow first.0 = low_at 0 first.0 i.segments (sound_apart i sound) first.1 in
    let held : length i.header ≤ first.0.filesize = header_held i first.0 sound first.1 in
    let front : length i.header ≤ pages.place + d = elim (cases_lt 0 g) [
      | inl later ↦
          let far = pages.behind first.0 (ap (λ (ss : List Seg). slice_get ss 0) (sym ends.split) ∙ first.1) later in
          omega (arith, held, low.within, far)
      | inr none ↦ let deep = behind (omega (arith, none)) in omega (arith, deep)
    ] in
    ap (λ (t : Seg). get_or t.bytes d 0) own.place
    ∙ (get_or-take s.vmsize (drop m.file (file_of k i words)) d 0 lt
    ∙ (get_or-drop m.file (file_of k i words) d 0
    ∙ (ap (λ (n : ℕ). get_or (file_of k i words) (n + d) 0) place
    ∙ (file_byte k i words (pages.place + d) (omega (arith, sized, front)) (omega (arith, pages.inside, lt)) ∙ pages.byte d lt))))

-- as it is loaded, before it is rebased
pub own_cell : (k g : ℕ) (i : Img) (words : List Location) (s : Seg) (slide d : ℕ) → IsSound i → IsSound (own_image k i words) → All IsPlaced (bodies_of i) → length (header_of k i words) ≡ length i.header → slice_get i.segments g ≡ Some s
    → is_linkedit_segment s ≡ false → d < s.vmsize → (g ≡ 0 → length i.header ≤ d) → segment_cells slide (own_image k i words).segments (wrap (s.vmaddr + d + slide)) ≡ Some (get_or s.bytes d 0)
own_cell k g i words s slide d sound own_sound placed sized got other lt behind =
    let own : IsOwn k g i words s = own_segment k g i words s got other in
    ap (λ (a : ℕ). segment_cells slide (own_image k i words).segments (wrap (a + d + slide))) (sym own.like.address)
    ∙ (loaded_cell slide d g own.own (own_image k i words).segments (sound_apart (own_image k i words) own_sound) own.there (omega (arith, lt, own.like.size))
    ∙ ap (λ (b : ℕ). Some b) (in_memory-byte own.own d ∙ own_byte k g i words s d sound placed sized own got other lt behind))
