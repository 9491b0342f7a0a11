-- The places of a sound image's segments, from what is known of each segment by itself.
use Rattle.std.proofs.Common.{◌≡◌, ◌≤◌, ◌<◌, ◌⊎◌, inl, inr, ℕ, ◌+◌, true, false, nat_lt, List, [], length, get_or, sym, ◌∙◌, subst, arith}
use Rattle.std.specs.Prelude.{All}
use Rattle.std.proofs.lemmas.Bool.Decides.{nat_tests}
use Rattle.macho_image.specs.declared.place.Moved.{Moved}
use Rattle.macho_image.specs.Records.{Seg, Img}
use Rattle.macho_image.specs.Rules.{is_linkedit_segment}
use Rattle.macho_image.specs.Breaks.{IsSound}
use Rattle.macho_edit.specs.declared.segment.SegmentPlace.{SegmentPlace}
use Rattle.macho_edit.specs.declared.spots.LinkSpots.{LinkSpots}
use Rattle.macho_edit.specs.Segments.{linkedit_place, own_place}
use Rattle.macho_edit.specs.Placed.{places_of, IsSeated, AreApart}
use Rattle.macho_edit.proofs.BoolLaws.{bool_cases, clash}
use Rattle.macho_edit.proofs.PlaceLaws.{place_other, place_linkedit, length-places_of, places_of-at}
use Rattle.macho_edit.proofs.Grounds.{linkedit_last}
use Rattle.std.proofs.lemmas.Bool.{ltb-false}

-- values for places past the end
abbrev no_move : Moved
no_move = record { address = 0; file = 0 }

abbrev no_segment : Seg
no_segment = record { name = []; vmaddr = 0; vmsize = 0; fileoff = 0; filesize = 0; maxprot = 0; initprot = 0; flags = 0; bytes = [] }

-- the place of segment k is its own one, or `__LINKEDIT`'s
own_at : (spots : LinkSpots) (moves : List Moved) (ss : List Seg) (k : ℕ) (p : SegmentPlace) (m : Moved) (s : Seg) → length moves ≡ length ss → k < length ss → is_linkedit_segment (get_or ss k s) ≡ false
    → get_or (places_of spots moves ss) k p ≡ own_place (get_or moves k m) (get_or ss k s).vmsize
own_at spots moves ss k p m s same lt other =
    places_of-at spots moves ss k p m s (omega arith) lt ∙ place_other spots (get_or moves k m) (get_or ss k s).name (get_or ss k s).vmsize other

linkedit_at : (spots : LinkSpots) (moves : List Moved) (ss : List Seg) (k : ℕ) (p : SegmentPlace) (m : Moved) (s : Seg) → length moves ≡ length ss → k < length ss → is_linkedit_segment (get_or ss k s) ≡ true
    → get_or (places_of spots moves ss) k p ≡ linkedit_place spots
linkedit_at spots moves ss k p m s same lt is =
    places_of-at spots moves ss k p m s (omega arith) lt ∙ place_linkedit spots (get_or moves k m) (get_or ss k s).name (get_or ss k s).vmsize is

-- each segment is seated where each other than `__LINKEDIT` is, and `__LINKEDIT` itself
pub seated_from : (n : ℕ) (spots : LinkSpots) (moves : List Moved) (ss : List Seg) → length moves ≡ length ss
    → ((k : ℕ) (m : Moved) (s : Seg) → k < length ss → is_linkedit_segment (get_or ss k s) ≡ false → IsSeated n (own_place (get_or moves k m) (get_or ss k s).vmsize))
    → IsSeated n (linkedit_place spots) → All (IsSeated n) (places_of spots moves ss)
seated_from n spots moves ss same own linkedit k p lt =
    let within : k < length ss = omega (arith, lt, length-places_of spots moves ss same) in
    elim (bool_cases (is_linkedit_segment (get_or ss k no_segment))) [
      | inl other ↦ subst (IsSeated n) (sym (own_at spots moves ss k p no_move no_segment same within other)) (own k no_move no_segment within other)
      | inr is ↦ subst (IsSeated n) (sym (linkedit_at spots moves ss k p no_move no_segment same within is)) linkedit
    ]

-- no two segments share an address where no two other than `__LINKEDIT` do, and none of these with `__LINKEDIT`
pub apart_from : (image : Img) (moves : List Moved) (spots : LinkSpots) → IsSound image → length moves ≡ length image.segments
    → ((i j : ℕ) (m : Moved) (s : Seg) → i < j → j + 1 < length image.segments → AreApart (own_place (get_or moves i m) (get_or image.segments i s).vmsize) (own_place (get_or moves j m) (get_or image.segments j s).vmsize))
    → ((i : ℕ) (m : Moved) (s : Seg) → i + 1 < length image.segments → AreApart (own_place (get_or moves i m) (get_or image.segments i s).vmsize) (linkedit_place spots))
    → (i j : ℕ) (p : SegmentPlace) → i < j → j < length (places_of spots moves image.segments) → AreApart (get_or (places_of spots moves image.segments) i p) (get_or (places_of spots moves image.segments) j p)
apart_from image moves spots sound same own linkedit i j p lt behind =
    let ss : List Seg = image.segments in
    let within : j < length ss = omega (arith, behind, length-places_of spots moves ss same) in
    let first : i < length ss = omega arith in
    let before : i + 1 < length ss = omega arith in
    let here : get_or (places_of spots moves ss) i p ≡ own_place (get_or moves i no_move) (get_or ss i no_segment).vmsize =
    own_at spots moves ss i p no_move no_segment same first ((linkedit_last image sound i no_segment first).1 before) in
    subst (λ (x : SegmentPlace). AreApart x (get_or (places_of spots moves ss) j p)) (sym here)
    (elim (bool_cases (is_linkedit_segment (get_or ss j no_segment))) [
      | inl other ↦
          subst (λ (x : SegmentPlace). AreApart (own_place (get_or moves i no_move) (get_or ss i no_segment).vmsize) x) (sym (own_at spots moves ss j p no_move no_segment same within other))
          (own i j no_move no_segment lt (not_last image sound j within other))
      | inr is ↦
          subst (λ (x : SegmentPlace). AreApart (own_place (get_or moves i no_move) (get_or ss i no_segment).vmsize) x) (sym (linkedit_at spots moves ss j p no_move no_segment same within is))
          (linkedit i no_move no_segment before)
    ])
  where
    one_or_more : (a b : ℕ) → a ≤ b → (a < b) ⊎ (a ≡ b)
    one_or_more a b le = elim (bool_cases (nat_lt a b)) [ inl not_less ↦ inr (omega (arith, ltb-false a b not_less)) | inr less ↦ inl (grind (arith, nat_tests)) ]

    not_last : (image : Img) → IsSound image → (j : ℕ) → j < length image.segments → is_linkedit_segment (get_or image.segments j no_segment) ≡ false → j + 1 < length image.segments
    not_last image sound j within other = elim (one_or_more (j + 1) (length image.segments) (omega arith)) [
      | inl more ↦ more
      | inr last ↦ absurd (clash (is_linkedit_segment (get_or image.segments j no_segment)) ((linkedit_last image sound j no_segment within).0 last) other)
    ]
