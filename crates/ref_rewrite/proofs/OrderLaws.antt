-- The pointers of an image in the order of their addresses are placed: they are all of its pointers, one at each address.
use Rattle.std.proofs.Common.{◌≡◌, if◌then◌else◌, ◌≤◌, ◌<◌, ℕ, zero, suc, ◌+◌, true, false, nat_le, Some, List, [], ◌∷◌, length, get_or, sym, ap, subst, arith, inl, inr}
use Rattle.std.specs.Prelude.{slice_get, slice_index_or}
use Rattle.std.specs.List.Sorted.{IsPermutation, IsNonDecreasingBy}
use Rattle.std.proofs.lemmas.Bool.{cases_lt, lt-leb, le-leb, cond-true, cond-false}
use Rattle.std.proofs.lemmas.List.Sorted.{IsPermutation-refl, IsPermutation-sym, IsPermutation-trans, IsPermutation-cons, IsPermutation-middle, IsNonDecreasingBy-from_all_adjacent}
use Rattle.std.proofs.lemmas.Option.{slice_get_cases}
use Rattle.macho_image.specs.Records.{Seg, Img}
use Rattle.macho_image.specs.Segments.{segments_at}
use Rattle.prebind.specs.declared.resolved.PlacedWord.{PlacedWord}
use Rattle.prebind.specs.Sets.{StreamLists, ImageSet, AreStreamsOf, IsSoundSet}
use Rattle.prebind.specs.Words.{ArePlaced, put_word, in_word_order, all_pointers, pointers_of, ordered_pointers, streams_in, streams_at}
use Rattle.prebind.proofs.DistinctLaws.{words_rise}
use Rattle.cache_layout.specs.Places.{numbered}
use Rattle.cache_layout.proofs.NumberedLaws.{numbered-get, length-numbered}
use Rattle.prebind.specs.Placed.{AreListsPlaced}
use Rattle.prebind.proofs.PlacedLists.{lists_placed}

-- ---- words that are put in order are the same words

put_moved : (w : PlacedWord) (ws : List PlacedWord) → IsPermutation (w ∷ ws) (put_word w ws)
put_moved w [] = IsPermutation-refl (w ∷ [])
put_moved w (v ∷ vs) =
    elim (nat_le w.at.address v.at.address) as (λ b. IsPermutation (w ∷ (v ∷ vs)) (if b then w ∷ (v ∷ vs) else v ∷ put_word w vs)) [
      | true ↦ IsPermutation-refl (w ∷ (v ∷ vs))
      | false ↦
          IsPermutation-trans (w ∷ (v ∷ vs)) (v ∷ (w ∷ vs)) (v ∷ put_word w vs)
          (IsPermutation-sym (v ∷ (w ∷ vs)) (w ∷ (v ∷ vs)) (IsPermutation-middle (v ∷ []) w vs))
          (IsPermutation-cons v (w ∷ vs) (put_word w vs) (put_moved w vs))
    ]

order_moved : (ws : List PlacedWord) → IsPermutation ws (in_word_order ws)
order_moved [] = IsPermutation-refl {X = PlacedWord} []
order_moved (w ∷ ws) =
    IsPermutation-trans (w ∷ ws) (w ∷ in_word_order ws) (put_word w (in_word_order ws)) (IsPermutation-cons w ws (in_word_order ws) (order_moved ws)) (put_moved w (in_word_order ws))

-- ---- and they rise

-- no word lies below the one in front of it, nor the first one below an address
abbrev UpFrom : ℕ → List PlacedWord → Type 0
UpFrom floor [] = Unit {0}
UpFrom floor (w ∷ ws) = (floor ≤ w.at.address) × UpFrom w.at.address ws

put_up : (floor : ℕ) (w : PlacedWord) (ws : List PlacedWord) → floor ≤ w.at.address → UpFrom floor ws → UpFrom floor (put_word w ws)
put_up floor w [] low up = (low, tt)
put_up floor w (v ∷ vs) low up = elim (cases_lt v.at.address w.at.address) [
  | inl above ↦
      subst (λ (l : List PlacedWord). UpFrom floor l) (sym (cond-false (nat_le w.at.address v.at.address) (w ∷ (v ∷ vs)) (v ∷ put_word w vs) (lt-leb w.at.address v.at.address above)))
      (up.0, put_up v.at.address w vs (omega (arith, above)) up.1)
  | inr from ↦
      subst (λ (l : List PlacedWord). UpFrom floor l) (sym (cond-true (nat_le w.at.address v.at.address) (w ∷ (v ∷ vs)) (v ∷ put_word w vs) (le-leb w.at.address v.at.address from)))
      (low, (from, up.1))
]

order_up : (ws : List PlacedWord) → UpFrom 0 (in_word_order ws)
order_up [] = tt
order_up (w ∷ ws) = put_up 0 w (in_word_order ws) (omega arith) (order_up ws)

first_up : (floor : ℕ) (ws : List PlacedWord) (d : PlacedWord) → UpFrom floor ws → 0 < length ws → floor ≤ (get_or ws 0 d).at.address
first_up floor [] d up some = absurd (omega (arith, some))
first_up floor (w ∷ ws) d up some = up.0

neighbours : (floor : ℕ) (ws : List PlacedWord) → UpFrom floor ws → (i : ℕ) (d : PlacedWord) → i + 1 < length ws → (get_or ws i d).at.address ≤ (get_or ws (i + 1) d).at.address
neighbours floor [] up i d lt = absurd (omega (arith, lt))
neighbours floor (w ∷ ws) up zero d lt = first_up w.at.address ws d up.1 (omega (arith, lt))
neighbours floor (w ∷ ws) up (suc i) d lt =
    let next : suc i + 1 ≡ suc (i + 1) = omega arith in
    let rest : (get_or ws i d).at.address ≤ (get_or ws (i + 1) d).at.address = neighbours w.at.address ws up.1 i d (omega (arith, lt)) in
    subst (λ (n : ℕ). (get_or ws i d).at.address ≤ (get_or (w ∷ ws) n d).at.address) (sym next) rest

in_order : (ws : List PlacedWord) → IsNonDecreasingBy (λ (w : PlacedWord). w.at.address) (in_word_order ws)
in_order ws = IsNonDecreasingBy-from_all_adjacent (λ (w : PlacedWord). w.at.address) (in_word_order ws) (λ k d lt. neighbours 0 (in_word_order ws) (order_up ws) k d lt)

-- ---- of a set

pub ordered_placed : (set : ImageSet) (k : ℕ) (image : Img) (s : StreamLists) → AreStreamsOf image s → slice_get set.streams k ≡ Some s → ArePlaced (pointers_of set k) (ordered_pointers set k)
unfolding pointers_of ordered_pointers
ordered_placed set k image s sound streams =
    let ss : List Seg = segments_at set.images k in
    let t : StreamLists = streams_at set k in
    let all : List PlacedWord = all_pointers set k ss t in
    let same : t ≡ s = ap streams_in streams in
    let own : AreStreamsOf image t = subst (λ (u : StreamLists). AreStreamsOf image u) (sym same) sound in
    record { moved = order_moved all; rises = words_rise set k image ss t (in_word_order all) own (order_moved all) (in_order all) }

-- the pointers of each image, in order
abbrev pub all_ordered : ImageSet → List (List PlacedWord)
all_ordered set = numbered (λ (k : ℕ) (image : Img). ordered_pointers set k) set.images

pub ordered_at : (set : ImageSet) (k : ℕ) (image : Img) → k < length set.images → image ≡ get_or set.images k image → slice_index_or (all_ordered set) k [] ≡ ordered_pointers set k
ordered_at set k image lt at = numbered-get (λ (n : ℕ) (i : Img). ordered_pointers set n) set.images k image [] lt at

pub all_placed : (set : ImageSet) → IsSoundSet set → AreListsPlaced set (all_ordered set)
all_placed set sound = lists_placed set (all_ordered set) (length-numbered (λ (n : ℕ) (i : Img). ordered_pointers set n) set.images) each_placed
  where
    each_placed : (k : ℕ) → k < length set.images → ArePlaced (pointers_of set k) (slice_index_or (all_ordered set) k [])
    each_placed k lt =
        let here = slice_get_cases set.images k in
        let streams = slice_get_cases set.streams k in
        elim here.1 [
          | inr past ↦ absurd (omega (arith, past.0, lt))
          | inl image ↦ elim streams.1 [
            | inr past ↦ absurd (omega (arith, past.0, lt, sound.many))
            | inl s ↦
                subst (λ (ws : List PlacedWord). ArePlaced (pointers_of set k) ws) (sym (ordered_at set k image.0 lt (sym image.3)))
                (ordered_placed set k image.0 s.0 (sound.streams k image.0 s.0 image.2 s.2) s.2)
          ]
        ]
