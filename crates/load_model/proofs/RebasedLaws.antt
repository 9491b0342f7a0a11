-- What loading leaves of an image with rebases: each word is raised by the slide, and each other byte is the file's.
use Rattle.std.proofs.Common.{◌≡◌, ◌≤◌, ◌<◌, ◌⊎◌, ℕ, zero, suc, ◌+◌, ◌-◌, ◌^◌, List, [], ◌∷◌, drop, length, refl, sym, ap, subst, ◌∙◌, arith, inl, inr}
use Rattle.std.specs.Prelude.{Option, Some, unwrap_or, option_map, slice_get, slice_index_or}
use Rattle.std.specs.List.{All}
use Rattle.std.proofs.lemmas.Bool.{cases_lt}
use Rattle.std.proofs.lemmas.List.{get_or-drop}
use Rattle.std.proofs.lemmas.List.Elements.{All-head, All-tail, All-get_or}
use Rattle.std.proofs.lemmas.Option.{slice_get-map, slice_get_within, get_or_from_slice_get}
use Rattle.macho_image.specs.Records.{Seg, Img}
use Rattle.macho_image.specs.declared.place.Location.{Location}
use Rattle.dsc_base.specs.Numbers.{number_at}
use Rattle.macho_image.specs.Segments.{number_of, number_within, value_of}
use Rattle.macho_image.specs.Order.{addresses_of}
use Rattle.macho_image.specs.Places.{wrap, IsWord}
use Rattle.rebase_ops.specs.Rebases.{AreRebases}
use Rattle.slide_chain.specs.Making.{AreWords, AllBelow}
use Rattle.load_model.specs.Memory.{Cells, with_number, number_from, HasNumber}
use Rattle.load_model.specs.Loading.{segment_cells, rebased}
use Rattle.load_model.proofs.LoadingLaws.{IsLow, AreApart, low_at, in_memory-byte, loaded_cell}
use Rattle.load_model.proofs.NumberLaws.{address_on, number_there, byte_apart, number_from-bytes, number_apart}

-- ---- words that rise

-- an address is in no word
abbrev pub IsFree : ℕ → List ℕ → Type 0
IsFree y [] = Unit {0}
IsFree y (a ∷ ws) = ((y < a) ⊎ (a + 8 ≤ y)) × IsFree y ws

free_below : (y from : ℕ) (ws : List ℕ) → y < from → AreWords from ws → IsFree y ws
free_below y from [] below words = tt
free_below y from (a ∷ ws) below words = (inl (omega (arith, words.0)), free_below y (a + 8) ws (omega (arith, words.0)) words.3)

-- where a word may lie
record IsBetween (from end a : ℕ) : Type 0 where
  behind : from ≤ a
  below : a < end

between : (from end i a : ℕ) (ws : List ℕ) → AreWords from ws → AllBelow end ws → slice_get ws i ≡ Some a → IsBetween from end a
between from end i a [] words under got = absurd (cc)
between from end zero a (w ∷ ws) words under got =
    let is : w ≡ a = cc in
    record { behind = subst (λ (x : ℕ). from ≤ x) is words.0; below = subst (λ (x : ℕ). x < end) is under.0 }
between from end (suc i) a (w ∷ ws) words under got =
    let later : IsBetween (w + 8) end a = between (w + 8) end i a ws words.3 under.1 got in
    record { behind = omega (arith, later.behind, words.0); below = later.below }

-- an address in no word keeps its byte
pub free_byte : (slide y : ℕ) (ws : List ℕ) (cells : Cells) → y < 2 ^ 63 → AllBelow (2 ^ 47) ws → IsFree y ws → rebased slide ws cells (wrap (y + slide)) ≡ cells (wrap (y + slide))
unfolding rebased
free_byte slide y [] cells small under free = refl
free_byte slide y (a ∷ ws) cells small under free =
    let at : ℕ = wrap (a + slide) in
    let v : ℕ = wrap (number_from 8 cells (wrap (a + slide)) + slide) in
    free_byte slide y ws (with_number 8 at v cells) small under.1 free.1 ∙ byte_apart 8 a y slide v cells (omega arith) (omega (arith, under.0)) small free.0

-- and each word has its number raised
pub raised_word : (slide from i a : ℕ) (ws : List ℕ) (cells : Cells) → AreWords from ws → AllBelow (2 ^ 47) ws → slice_get ws i ≡ Some a
    → HasNumber 8 (rebased slide ws cells) (wrap (a + slide)) (wrap (number_from 8 cells (wrap (a + slide)) + slide))
unfolding rebased
raised_word slide from i a [] cells words under got = absurd (cc)
raised_word slide from zero a (w ∷ ws) cells words under got =
    let is : w ≡ a = cc in
    let v : ℕ = wrap (number_from 8 cells (wrap (w + slide)) + slide) in
    let after : Cells = with_number 8 (wrap (w + slide)) v cells in
    subst (λ (x : ℕ). HasNumber 8 (rebased slide ws after) (wrap (x + slide)) (wrap (number_from 8 cells (wrap (x + slide)) + slide))) is
    (λ k lt. ap (rebased slide ws after) (address_on w slide k)
    ∙ (free_byte slide (w + k) ws after (omega (arith, under.0, lt)) under.1 (free_below (w + k) (w + 8) ws (omega (arith, lt)) words.3)
    ∙ (ap after (sym (address_on w slide k)) ∙ number_there 8 w slide v cells (omega arith) k lt)))
raised_word slide from (suc i) a (w ∷ ws) cells words under got =
    let v : ℕ = wrap (number_from 8 cells (wrap (w + slide)) + slide) in
    let after : Cells = with_number 8 (wrap (w + slide)) v cells in
    let there : IsBetween (w + 8) (2 ^ 47) a = between (w + 8) (2 ^ 47) i a ws words.3 under.1 got in
    let same : number_from 8 after (wrap (a + slide)) ≡ number_from 8 cells (wrap (a + slide)) =
    number_apart 8 w 8 a slide v cells (omega arith) (omega arith) (omega (arith, under.0)) (omega (arith, there.below)) (inr there.behind) in
    subst (λ (n : ℕ). HasNumber 8 (rebased slide ws after) (wrap (a + slide)) (wrap (n + slide))) same (raised_word slide (w + 8) i a ws after words.3 under.1 got)

-- ---- the words of an image

-- the addresses of rebases are words, one behind the other
words_from : (image : Img) (from : ℕ) (ls : List Location) → ((d : Location) → 0 < length ls → from ≤ (slice_index_or ls 0 d).address)
    → ((k : ℕ) (d : Location) → k + 1 < length ls → (slice_index_or ls k d).address + 8 ≤ (slice_index_or ls (k + 1) d).address) → All (IsWord image) ls → AreWords from (addresses_of ls)
words_from image from [] first apart all = tt
words_from image from (l ∷ ls) first apart all =
    let word : IsWord image l = All-head (IsWord image) l ls all in (
      first l (omega arith),
      word.aligned,
      word.in_page,
      words_from image (l.address + 8) ls (λ d some. apart 0 d (omega (arith, some)))
          (λ k d lt. let next : suc k + 1 ≡ suc (k + 1) = omega arith in
          subst (λ (j : ℕ). (slice_index_or ls k d).address + 8 ≤ (slice_index_or (l ∷ ls) j d).address) next (apart (suc k) d (omega (arith, lt))))
          (All-tail (IsWord image) l ls all),
    )

pub rebase_words : (image : Img) (ls : List Location) → AreRebases image ls → AreWords 0 (addresses_of ls)
rebase_words image ls rebases = words_from image 0 ls (λ d some. omega arith) rebases.apart rebases.all

words_low : (image : Img) (ls : List Location) → AreApart image.segments → All (IsWord image) ls → AllBelow (2 ^ 47) (addresses_of ls)
words_low image [] apart all = tt
words_low image (l ∷ ls) apart all =
    let word : IsWord image l = All-head (IsWord image) l ls all in
    let low : IsLow word.segment = low_at l.segment word.segment image.segments apart word.segment_is in
    let end : word.segment.vmaddr + word.segment.vmsize ≤ 0x800000000000 = low.low in
    (omega (arith, word.to, end), words_low image ls apart (All-tail (IsWord image) l ls all))

pub rebases_low : (image : Img) (ls : List Location) → AreApart image.segments → AreRebases image ls → AllBelow (2 ^ 47) (addresses_of ls)
rebases_low image ls apart rebases = words_low image ls apart rebases.all

-- a word of an image that is loaded has the number that it has in the file
pub loaded_number : (slide : ℕ) (image : Img) (l : Location) → AreApart image.segments → IsWord image l → number_from 8 (segment_cells slide image.segments) (wrap (l.address + slide)) ≡ value_of image.segments l
unfolding value_of number_of number_at
loaded_number slide image l apart word =
    let s : Seg = word.segment in
    let d : ℕ = l.address - word.segment.vmaddr in
    number_from-bytes 8 l.address slide (segment_cells slide image.segments) (drop d s.bytes)
    (λ k lt.
    let place : l.address + k + slide ≡ word.segment.vmaddr + (l.address - word.segment.vmaddr + k) + slide = omega (arith, word.from) in
    ap (λ (x : ℕ). unwrap_or (segment_cells slide image.segments (wrap x)) 0) place
    ∙ (ap (λ (o : Option ℕ). unwrap_or o 0) (loaded_cell slide (d + k) l.segment s image.segments apart word.segment_is (omega (arith, lt, word.from, word.to)))
    ∙ (in_memory-byte s (d + k) ∙ sym (get_or-drop d s.bytes k 0))))
    ∙ ap (λ (o : Option Seg). number_within 8 o l.address) (sym word.segment_is)

-- each rebased word leads where the file's leads, raised by the slide
pub rebased_word : (slide i : ℕ) (image : Img) (ls : List Location) (l : Location) → AreApart image.segments → AreRebases image ls → slice_get ls i ≡ Some l
    → HasNumber 8 (rebased slide (addresses_of ls) (segment_cells slide image.segments)) (wrap (l.address + slide)) (wrap (value_of image.segments l + slide))
rebased_word slide i image ls l apart rebases got =
    let word : IsWord image l = subst (IsWord image) (get_or_from_slice_get ls i l l got) (All-get_or (IsWord image) ls i l (slice_get_within ls i l got) rebases.all) in
    let there : slice_get (addresses_of ls) i ≡ Some l.address = slice_get-map (λ (x : Location). x.address) ls i ∙ ap (λ (o : Option Location). option_map (λ (x : Location). x.address) o) got in
    subst (λ (n : ℕ). HasNumber 8 (rebased slide (addresses_of ls) (segment_cells slide image.segments)) (wrap (l.address + slide)) (wrap (n + slide))) (loaded_number slide image l apart word)
    (raised_word slide 0 i l.address (addresses_of ls) (segment_cells slide image.segments) (rebase_words image ls rebases) (rebases_low image ls apart rebases) there)

-- ---- the other bytes

in_none : (y : ℕ) (ls : List Location) → ((i : ℕ) (l : Location) → slice_get ls i ≡ Some l → l.address ≤ y → y < l.address + 8 → ⊥) → IsFree y (addresses_of ls)
in_none y [] none = tt
in_none y (l ∷ ls) none = (
  elim (cases_lt y l.address) [
    | inl below ↦ inl below
    | inr from ↦ elim (cases_lt y (l.address + 8)) [ inl within ↦ absurd (none 0 l refl from within) | inr behind ↦ inr behind ]
  ],
  in_none y ls (λ i m got. none (suc i) m got),
)
