-- The chain word that has a byte of an image of a vetted cache is one of the image's own.
use Rattle.std.proofs.Common.{◌≡◌, ◌≤◌, ◌<◌, ◌⊎◌, ℕ, zero, suc, ◌+◌, ◌^◌, min, max, Bool, true, false, not, ◌&&◌, ◌||◌, Option, Some, None, List, [], ◌∷◌, take, refl, sym, ap, ◌∙◌, subst, arith, inl, inr}
use Rattle.std.specs.Prelude.{slice_get, position}
use Rattle.std.specs.List.{list_any}
use Rattle.std.proofs.lemmas.Bool.{cases_lt, lt-ltb, eq-eqb, or_left, or_right, false≢true}
use Rattle.std.proofs.lemmas.Option.{same_Some, slice_get_within, get_or_from_slice_get}
use Rattle.macho_image.specs.Records.{Seg, Img}
use Rattle.macho_image.specs.Breaks.{IsSound}
use Rattle.macho_image.specs.Places.{IsWord}
use Rattle.macho_image.specs.Rules.{is_linkedit_segment}
use Rattle.macho_image.specs.declared.place.Location.{Location}
use Rattle.prebind.specs.Sets.{all_binds}
use Rattle.slide_chain.specs.declared.words.ChainWord.{ChainWord}
use Rattle.cache_header.specs.declared.head.Mapping.{Mapping}
use Rattle.load_model.proofs.RuledWords.{position_none}
use Rattle.load_model.proofs.WordCases.{IsIn, in_first, in_rest, in_none, in_cases, in_left, in_right, in_map, in_filter, of_map, of_filter, all_in}
use Rattle.cache_check.specs.Images.{images_of, segments_of, shares, is_placed, is_misplaced, segment_finding}
use Rattle.cache_check.specs.Views.{View, IsSoundView}
use Rattle.extractor.specs.declared.homes.Home.{Home}
use Rattle.extractor.specs.ExtractOf.{is_free, location_at, location_of, free_words}
use Rattle.extractor.specs.Placing.{data_start, home_of, is_crossed}
use Rattle.extractor.specs.Vetting.{cached_set, outside_at, outside_of, chain_finding}
use Rattle.extractor.proofs.OwnSegments.{writable_other}
use Rattle.extractor.proofs.PlaceLaws.{addresses}
use Rattle.extractor.proofs.ReadLaws.{AreClean}
use Rattle.extractor.proofs.ReadyLaws.{each_none, none_found}
use Rattle.extractor.proofs.WritableLaws.{IsWritable, image_at, written, address_is, all_inside}

-- ---- words of 8 bytes and a byte

-- one of them has it
pub record IsOver {X : Type 0} (at : X → ℕ) (xs : List X) (y : ℕ) : Type 0 where
  pub one : X
  pub there : IsIn xs one
  pub from : at one ≤ y
  pub to : y < at one + 8

-- none has
abbrev pub AreClear : {X : Type 0} → (X → ℕ) → List X → ℕ → Type 0
AreClear {X = X} at xs y = (x : X) → IsIn xs x → (y < at x) ⊎ (at x + 8 ≤ y)

pub over_or_clear : {X : Type 0} (at : X → ℕ) (xs : List X) (y : ℕ) → IsOver at xs y ⊎ AreClear at xs y
over_or_clear at [] y = inr (λ x there. absurd (in_none x there))
over_or_clear {X = X} at (x ∷ xs) y = by (cases_lt y (at x)) (cases_lt y (at x + 8)) (over_or_clear at xs y)
  where
    later : (y < at x) ⊎ (at x + 8 ≤ y) → IsOver at xs y ⊎ AreClear at xs y → IsOver at (x ∷ xs) y ⊎ AreClear at (x ∷ xs) y
    later own (inl over) = inl (record { one = over.one; there = in_rest x xs over.one over.there; from = over.from; to = over.to })
    later own (inr clear) = inr (λ z there. elim (in_cases x xs z there) [
      | inl is ↦ subst (λ (u : X). (y < at u) ⊎ (at u + 8 ≤ y)) is own
      | inr rest ↦ clear z rest
    ])

    by : (y < at x) ⊎ (at x ≤ y) → (y < at x + 8) ⊎ (at x + 8 ≤ y) → IsOver at xs y ⊎ AreClear at xs y → IsOver at (x ∷ xs) y ⊎ AreClear at (x ∷ xs) y
    by (inl below) any rest = later (inl below) rest
    by (inr from) (inl to) rest = inl (record { one = x; there = in_first x xs; from = from; to = to })
    by (inr from) (inr behind) rest = later (inr behind) rest

-- ---- segments of two images

in_earlier : (images : List Img) (j k : ℕ) (a : Img) (g : ℕ) (s : Seg) → j < k → slice_get images j ≡ Some a → slice_get a.segments g ≡ Some s → IsIn (segments_of (take k images)) s
in_earlier [] j k a g s lt got there = absurd (cc)
in_earlier (i ∷ is) j zero a g s lt got there = absurd (omega (arith, lt))
in_earlier (i ∷ is) zero (suc k) a g s lt got there =
    let same : i ≡ a = same_Some i a got in
    in_left i.segments (segments_of (take k is)) s (record { number = g; found = ap (λ (m : Img). slice_get m.segments g) same ∙ there })
in_earlier (i ∷ is) (suc j) (suc k) a g s lt got there = in_right i.segments (segments_of (take k is)) s (in_earlier is j k a g s (omega (arith, lt)) got there)

pub any_in : {X : Type 0} (p : X → Bool) (xs : List X) (x : X) → IsIn xs x → p x ≡ true → list_any p xs ≡ true
any_in p [] x there is = absurd (in_none x there)
any_in p (y ∷ ys) x there is = elim (in_cases y ys x there) [
  | inl same ↦ or_left (p y) (list_any p ys) (ap p same ∙ is)
  | inr later ↦ or_right (p y) (list_any p ys) (any_in p ys x later is)
]

not_shared : (a b c : Bool) → (not a && (not b || c)) ≡ false → a ≡ false → c ≡ false
not_shared true b c none other = absurd (false≢true (sym other))
not_shared false true c none other = none
not_shared false false c none other = absurd (false≢true (sym none))

-- an address of a segment other than `__LINKEDIT`
record Has (s : Seg) (y : ℕ) : Type 0 where
  other : is_linkedit_segment s ≡ false
  from : s.vmaddr ≤ y
  to : y < s.vmaddr + s.vmsize

-- it is in no segment of an earlier image
never_shared : (mappings : List Mapping) (images : List Img) (j k f g : ℕ) (a b : Img) (s t : Seg) (y : ℕ) → segment_finding mappings images k b ≡ None → j < k → slice_get images j ≡ Some a → slice_get a.segments g ≡ Some s → slice_get b.segments f ≡ Some t
    → Has s y → Has t y → ⊥
unfolding segment_finding is_misplaced
never_shared mappings images j k f g a b s t y none lt earlier there own has also =
    let all : List Seg = segments_of (take k images) in
    let position_is : position (is_misplaced mappings (segments_of (take k images))) b.segments ≡ None = none_found k (position (is_misplaced mappings (segments_of (take k images))) b.segments) none in
    let fine : is_misplaced mappings (segments_of (take k images)) t ≡ false = position_none (is_misplaced mappings all) b.segments t position_is (record { number = f; found = own }) in
    let free : list_any (shares t) (segments_of (take k images)) ≡ false = not_shared (is_linkedit_segment t) (is_placed mappings t) (list_any (shares t) all) fine also.other in
    let both : shares t s ≡ true = lt-ltb (max t.vmaddr s.vmaddr) (min (t.vmaddr + t.vmsize) (s.vmaddr + s.vmsize)) (omega (arith, has.from, has.to, also.from, also.to)) in
    false≢true (sym free ∙ any_in (shares t) all s (in_earlier images j k a g s lt earlier there) both)

same_image : (v : View) (j k f g : ℕ) (a b : Img) (s t : Seg) (y : ℕ) → AreClean v → slice_get (images_of v) j ≡ Some a → slice_get (images_of v) k ≡ Some b → slice_get a.segments g ≡ Some s → slice_get b.segments f ≡ Some t → Has s y → Has t y → j ≡ k
same_image v j k f g a b s t y found one two there own has also = elim (cases_lt j k) [
  | inl before ↦ absurd (never_shared v.head.mappings (images_of v) j k f g a b s t y (placed k b two) before one there own has also)
  | inr from ↦ elim (cases_lt k j) [
    | inl after ↦ absurd (never_shared v.head.mappings (images_of v) k j g f b a t s y (placed j a one) after two own there also has)
    | inr same ↦ omega (arith, from, same)
  ]
]
  where
    placed : (n : ℕ) (i : Img) → slice_get (images_of v) n ≡ Some i → segment_finding v.head.mappings (images_of v) n i ≡ None
    placed n i got =
        let first : 0 + n ≡ n = omega arith in
        sym (ap (λ (m : ℕ). segment_finding v.head.mappings (images_of v) m i) first) ∙ each_none (segment_finding v.head.mappings (images_of v)) 0 n (images_of v) i found.placed got

-- ---- the word

pub record IsNear (start : ℕ) (images : List Img) (k : ℕ) (i : Img) (w : ChainWord) : Type 0 where
  pub home : Home
  pub is : home_of images (start + w.offset) ≡ Some home
  pub image : home.image ≡ k
  pub word : IsWord i (location_of start images i w)
  pub clear : is_crossed (all_binds i) (start + w.offset) ≡ false

module _ (v : View) (sound : IsSoundView v) (found : AreClean v) (inside : chain_finding (data_start v) v.words (cached_set (images_of v)) ≡ None) (sounds : (n : ℕ) (j : Img) → slice_get (images_of v) n ≡ Some j → IsSound j) where
  high : (w : ChainWord) → IsIn v.words w → data_start v + w.offset < 2 ^ 63
  high w there =
      subst (λ (x : ChainWord). data_start v + x.offset < 2 ^ 63) (get_or_from_slice_get v.words there.number w w there.found)
      (addresses v sound there.number w (slice_get_within v.words there.number w there.found)).high

  near_at : (k g : ℕ) (i : Img) (s : Seg) (y : ℕ) (w : ChainWord) (o : Option Home) → slice_get (images_of v) k ≡ Some i → slice_get i.segments g ≡ Some s → Has s y → IsIn v.words w → data_start v + w.offset ≤ y → y < data_start v + w.offset + 8
      → home_of (images_of v) (data_start v + w.offset) ≡ o → outside_at (cached_set (images_of v)) w (data_start v + w.offset) o ≡ None → IsNear (data_start v) (images_of v) k i w
  unfolding home_of
  near_at k g i s y w None got own has there from to is none = absurd (cc)
  near_at k g i s y w (Some h) got own has there from to is none =
      let images : List Img = images_of v in
      let a : ℕ = data_start v + w.offset in
      let holds = image_at 0 images a h is in
      let j : Img = holds.image in
      let number : h.image ≡ holds.place = omega (arith, holds.number) in
      let here : slice_get (images_of v) h.image ≡ Some holds.image = ap (λ (n : ℕ). slice_get images n) number ∙ holds.there in
      let low = high w there in
      let one : IsWritable holds.image (location_at holds.image (data_start v + w.offset) (Some h)) = written (data_start v) images h.image j w (Some h) is here (eq-eqb h.image h.image refl) (omega (arith, low)) none in
      let t : Seg = one.word.segment in
      let other : is_linkedit_segment one.word.segment ≡ false = writable_other j h.segment t (sounds h.image j here) one.word.segment_is one.word.writable in
      let also : Has one.word.segment y = record { other = other; from = omega (arith, one.word.from, from); to = omega (arith, one.word.to, to) } in
      let image : h.image ≡ k = same_image v h.image k g h.segment j i t s y found here got one.word.segment_is own also has in
      let same : holds.image ≡ i = same_Some j i (sym here ∙ (ap (λ (n : ℕ). slice_get images n) image ∙ got)) in
      let mine : IsWritable i (location_at i (data_start v + w.offset) (Some h)) = subst (λ (m : Img). IsWritable m (location_at m a (Some h))) same one in
      record {
        home = h;
        is = is;
        image = image;
        word = subst (λ (o : Option Home). IsWord i (location_at i a o)) (sym is) mine.word;
        clear = mine.clear;
      }

  pub near : (k g : ℕ) (i : Img) (s : Seg) (y : ℕ) (w : ChainWord) → slice_get (images_of v) k ≡ Some i → slice_get i.segments g ≡ Some s → is_linkedit_segment s ≡ false → s.vmaddr ≤ y → y < s.vmaddr + s.vmsize → IsIn v.words w
      → data_start v + w.offset ≤ y → y < data_start v + w.offset + 8 → IsNear (data_start v) (images_of v) k i w
  unfolding cached_set
  near k g i s y w got own other low top there from to =
      near_at k g i s y w (home_of (images_of v) (data_start v + w.offset)) got own (record { other = other; from = low; to = top }) there from to refl
      (all_in (λ (x : ChainWord). outside_of (data_start v) (cached_set (images_of v)) x ≡ None) v.words w (all_inside (data_start v) v.words (images_of v) inside) there)

-- ---- words that aren't bound

pub in_free : (start : ℕ) (words : List ChainWord) (images : List Img) (k : ℕ) (i : Img) (w : ChainWord) → IsIn words w → is_free start images k (all_binds i) w ≡ true → IsIn (free_words start words images k i) (location_of start images i w)
unfolding free_words
in_free start words images k i w there free = in_map (location_of start images i) _ w (in_filter (is_free start images k (all_binds i)) words w there free)

pub record IsOfWord (start : ℕ) (words : List ChainWord) (l : Location) : Type 0 where
  pub word : ChainWord
  pub there : IsIn words word
  pub at : l.address ≡ start + word.offset

pub of_free : (start : ℕ) (words : List ChainWord) (images : List Img) (k : ℕ) (i : Img) (l : Location) → IsIn (free_words start words images k i) l → IsOfWord start words l
unfolding free_words
of_free start words images k i l there =
    let from = of_map (location_of start images i) _ l there in
    let kept = of_filter (is_free start images k (all_binds i)) words from.from from.there in
    record {
      word = from.from;
      there = kept.0;
      at = ap (λ (m : Location). m.address) from.is ∙ address_is i (start + from.from.offset) (home_of images (start + from.from.offset));
    }
