-- Where the segments of an image go, one by one.
use Rattle.std.proofs.Common.{◌≡◌, ◌<◌, ℕ, zero, suc, true, false, List, [], ◌∷◌, length, get_or, refl, ap, arith}
use Rattle.std.proofs.lemmas.Bool.{cond-true, cond-false}
use Rattle.macho_image.specs.declared.place.Moved.{Moved}
use Rattle.macho_image.specs.Records.{Seg}
use Rattle.macho_image.specs.Rules.{is_linkedit_name}
use Rattle.macho_edit.specs.declared.segment.SegmentPlace.{SegmentPlace}
use Rattle.macho_edit.specs.declared.spots.LinkSpots.{LinkSpots}
use Rattle.macho_edit.specs.Segments.{place_for, linkedit_place, own_place}
use Rattle.macho_edit.specs.Placed.{places_of}

-- a segment other than `__LINKEDIT` goes where it is moved, with all of its memory in the file
pub place_other : (spots : LinkSpots) (m : Moved) (name : List ℕ) (size : ℕ) → is_linkedit_name name ≡ false → place_for spots m name size ≡ own_place m size
unfolding place_for
place_other spots m name size other = cond-false (is_linkedit_name name) (linkedit_place spots) (own_place m size) other

-- `__LINKEDIT` goes where the spots say
pub place_linkedit : (spots : LinkSpots) (m : Moved) (name : List ℕ) (size : ℕ) → is_linkedit_name name ≡ true → place_for spots m name size ≡ linkedit_place spots
unfolding place_for
place_linkedit spots m name size is = cond-true (is_linkedit_name name) (linkedit_place spots) (own_place m size) is

-- there is one place for each segment
pub length-places_of : (spots : LinkSpots) (moves : List Moved) (ss : List Seg) → length moves ≡ length ss → length (places_of spots moves ss) ≡ length ss
length-places_of spots [] [] same = refl
length-places_of spots [] (s ∷ ss) same = same
length-places_of spots (m ∷ ms) [] same = refl
length-places_of spots (m ∷ ms) (s ∷ ss) same = ap suc (length-places_of spots ms ss (omega arith))

-- the place of segment k
pub places_of-at : (spots : LinkSpots) (moves : List Moved) (ss : List Seg) (k : ℕ) (p : SegmentPlace) (m : Moved) (s : Seg) → k < length moves → k < length ss
    → get_or (places_of spots moves ss) k p ≡ place_for spots (get_or moves k m) (get_or ss k s).name (get_or ss k s).vmsize
places_of-at spots [] ss k p m s lt within = absurd (omega arith)
places_of-at spots (n ∷ ns) [] k p m s lt within = absurd (omega arith)
places_of-at spots (n ∷ ns) (t ∷ ts) zero p m s lt within = refl
places_of-at spots (n ∷ ns) (t ∷ ts) (suc k) p m s lt within = places_of-at spots ns ts k p m s (omega arith) (omega arith)
