-- The commands that the cache has, one by one beside those of the header.
use Rattle.std.proofs.Common.{◌≡◌, ◌⊎◌, inl, inr, ℕ, ◌+◌, true, false, List, [], ◌∷◌, map, take, drop, length, refl, sym, ap, ap₂, ◌∙◌, subst, arith}
use Rattle.std.specs.Prelude.{filter}
use Rattle.std.specs.List.{AllByRecursion}
use Rattle.std.proofs.lemmas.Bool.{cond-true, cond-false, not-false}
use Rattle.std.proofs.lemmas.Bool.Decides.{nat_tests}
use Rattle.dsc_base.specs.Numbers.{number_at}
use Rattle.macho_image.specs.declared.place.Moved.{Moved}
use Rattle.macho_image.specs.Records.{Load, SegmentLoad}
use Rattle.macho_image.specs.Macho.{number_of, is_segment, loads_from, segment_load, segment_loads}
use Rattle.macho_image.proofs.CommandLaws.{IsWholeCommand}
use Rattle.macho_edit.specs.declared.segment.SegmentPlace.{SegmentPlace}
use Rattle.macho_edit.specs.declared.spots.LinkSpots.{LinkSpots}
use Rattle.macho_edit.specs.Segments.{place_for, placed_segment, moved_segment}
use Rattle.macho_edit.specs.Tables.{spotted}
use Rattle.macho_edit.specs.Cached.{is_dropped, is_kept, moved_command, moves_behind, moved_commands}
use Rattle.macho_edit.proofs.BoolLaws.{bool_cases, clash}
use Rattle.macho_edit.proofs.TableLaws.{spotted_front}
use Rattle.macho_edit.proofs.MovedSegments.{FitsPlace, IsSegmentBytes, SameCommand, segment_same, placed_load, segment_load-placed}

-- a command with all of its structure, and a segment with its sections whole
pub record IsGoodCommand (c : List ℕ) : Type 0 where
  pub whole : IsWholeCommand c
  pub segment : is_segment (number_of c) ≡ true → IsSegmentBytes c

-- a command and what the cache has in its place: a segment at some place, or another command with its streams and tables at their spots
pub record IsSegmentAt (c d : List ℕ) : Type 0 where
  pub place : SegmentPlace
  pub segment : is_segment (number_of c) ≡ true
  pub fits : FitsPlace place
  pub moved : d ≡ placed_segment place c

pub record IsSpotted (spots : LinkSpots) (c d : List ℕ) : Type 0 where
  pub other : is_segment (number_of c) ≡ false
  pub moved : d ≡ spotted spots c

pub record IsMoved (spots : LinkSpots) (c d : List ℕ) : Type 0 where
  pub good : IsGoodCommand c
  pub kept : is_kept c ≡ true
  pub moved : IsSegmentAt c d ⊎ IsSpotted spots c d

abbrev pub AreMoved : LinkSpots → List (List ℕ) → List (List ℕ) → Type 0
AreMoved spots [] [] = Unit {0}
AreMoved spots [] (d ∷ ds) = ⊥
AreMoved spots (c ∷ cs) [] = ⊥
AreMoved spots (c ∷ cs) (d ∷ ds) = IsMoved spots c d × AreMoved spots cs ds

-- where the segments of segment commands go
abbrev pub load_places : LinkSpots → List Moved → List SegmentLoad → List SegmentPlace
load_places spots [] ss = []
load_places spots (m ∷ ms) [] = []
load_places spots (m ∷ ms) (s ∷ ss) = place_for spots m s.name s.vmsize ∷ load_places spots ms ss

-- segments, their places, and the segments at these places
abbrev pub Follow : List SegmentPlace → List SegmentLoad → List SegmentLoad → Type 0
Follow [] [] [] = Unit {0}
Follow [] [] (t ∷ ts) = ⊥
Follow [] (s ∷ ss) ts = ⊥
Follow (p ∷ ps) [] ts = ⊥
Follow (p ∷ ps) (s ∷ ss) [] = ⊥
Follow (p ∷ ps) (s ∷ ss) (t ∷ ts) = (t ≡ placed_load p t.at s) × Follow ps ss ts

pub segments_yes : (l : Load) (ls : List Load) → is_segment (number_of l.bytes) ≡ true → segment_loads (l ∷ ls) ≡ segment_load l ∷ segment_loads ls
segments_yes l ls is = ap (λ (xs : List Load). map segment_load xs) (cond-true (is_segment (number_of l.bytes)) (l ∷ filter (λ (x : Load). is_segment (number_of x.bytes)) ls) (filter (λ (x : Load). is_segment (number_of x.bytes)) ls) is)

pub segments_no : (l : Load) (ls : List Load) → is_segment (number_of l.bytes) ≡ false → segment_loads (l ∷ ls) ≡ segment_loads ls
segments_no l ls is = ap (λ (xs : List Load). map segment_load xs) (cond-false (is_segment (number_of l.bytes)) (l ∷ filter (λ (x : Load). is_segment (number_of x.bytes)) ls) (filter (λ (x : Load). is_segment (number_of x.bytes)) ls) is)

-- a segment isn't left out
pub segment_kept : (n : ℕ) → is_dropped n ≡ true → is_segment n ≡ false
segment_kept n dropped = grind (arith, nat_tests)

-- the kept commands of a header with some segments, and their moved forms from an offset on
pub record AreFollowed (spots : LinkSpots) (moves : List Moved) (ss : List SegmentLoad) (at : ℕ) (ks : List (List ℕ)) : Type 0 where
  pub commands : AreMoved spots ks (moved_commands spots moves ks)
  pub segments : Follow (load_places spots moves ss) ss (segment_loads (loads_from at (moved_commands spots moves ks)))

-- a command that is no segment takes none of the moves
other_command : (spots : LinkSpots) (moves : List Moved) (c : List ℕ) → is_segment (number_of c) ≡ false → (moved_command spots moves c ≡ spotted spots c) × (moves_behind moves c ≡ moves)
other_command spots [] c other = (refl, refl)
other_command spots (m ∷ ms) c other =
    (cond-false (is_segment (number_of c)) (moved_segment spots m c) (spotted spots c) other, cond-false (is_segment (number_of c)) ms (m ∷ ms) other)

moved_other : (spots : LinkSpots) (moves : List Moved) (c : List ℕ) (ks : List (List ℕ)) → is_segment (number_of c) ≡ false → moved_commands spots moves (c ∷ ks) ≡ spotted spots c ∷ moved_commands spots moves ks
unfolding moved_commands
moved_other spots moves c ks other =
    let both = other_command spots moves c other in
    ap₂ (λ (d : List ℕ) (ms : List Moved). d ∷ moved_commands spots ms ks) both.0 both.1

moved_first : (spots : LinkSpots) (m : Moved) (ms : List Moved) (c : List ℕ) (ks : List (List ℕ)) → is_segment (number_of c) ≡ true → moved_commands spots (m ∷ ms) (c ∷ ks) ≡ moved_segment spots m c ∷ moved_commands spots ms ks
unfolding moved_commands
moved_first spots m ms c ks is =
    ap₂ (λ (d : List ℕ) (left : List Moved). d ∷ moved_commands spots left ks)
    (cond-true (is_segment (number_of c)) (moved_segment spots m c) (spotted spots c) is) (cond-true (is_segment (number_of c)) ms (m ∷ ms) is)

-- another command in front
followed_other : (spots : LinkSpots) (moves : List Moved) (ss : List SegmentLoad) (at : ℕ) (c : List ℕ) (ks : List (List ℕ)) → IsGoodCommand c → is_kept c ≡ true → is_segment (number_of c) ≡ false
    → number_of (spotted spots c) ≡ number_of c → AreFollowed spots moves ss (at + length (spotted spots c)) ks → AreFollowed spots moves ss at (c ∷ ks)
followed_other spots moves ss at c ks good kept other number rest =
    let d : List ℕ = spotted spots c in
    let l : Load = record { at = at; bytes = d } in
    let all : moved_commands spots moves (c ∷ ks) ≡ d ∷ moved_commands spots moves ks = moved_other spots moves c ks other in
    record {
      commands = subst (λ (ds : List (List ℕ)). AreMoved spots (c ∷ ks) ds) (sym all)
          (record { good = good; kept = kept; moved = inr (record { other = other; moved = refl }) }, rest.commands);
      segments = subst (λ (ts : List SegmentLoad). Follow (load_places spots moves ss) ss ts)
          (sym (ap (λ (ds : List (List ℕ)). segment_loads (loads_from at ds)) all
          ∙ segments_no l (loads_from (at + length d) (moved_commands spots moves ks)) (ap is_segment number ∙ other)))
          rest.segments;
    }

-- a segment in front
followed_segment : (spots : LinkSpots) (m : Moved) (ms : List Moved) (ss : List SegmentLoad) (at at' : ℕ) (c : List ℕ) (ks : List (List ℕ)) → IsGoodCommand c → is_kept c ≡ true → is_segment (number_of c) ≡ true
    → FitsPlace (place_for spots m (take 16 (drop 8 c)) (number_at 8 c 32)) → AreFollowed spots ms ss (at' + length (moved_segment spots m c)) ks
    → AreFollowed spots (m ∷ ms) (segment_load (record { at = at; bytes = c }) ∷ ss) at' (c ∷ ks)
unfolding segment_load
followed_segment spots m ms ss at at' c ks good kept is fits rest =
    let p : SegmentPlace = place_for spots m (take 16 (drop 8 c)) (number_at 8 c 32) in
    let d : List ℕ = placed_segment p c in
    let l : Load = record { at = at'; bytes = d } in
    let bytes : IsSegmentBytes c = good.segment is in
    let same : SameCommand c d = segment_same p c fits bytes in
    let all : moved_commands spots (m ∷ ms) (c ∷ ks) ≡ d ∷ moved_commands spots ms ks = moved_first spots m ms c ks is in
    record {
      commands = subst (λ (ds : List (List ℕ)). AreMoved spots (c ∷ ks) ds) (sym all)
          (record { good = good; kept = kept; moved = inl (record { place = p; segment = is; fits = fits; moved = refl }) }, rest.commands);
      segments = subst (λ (ts : List SegmentLoad). Follow (load_places spots (m ∷ ms) (segment_load (record { at = at; bytes = c }) ∷ ss)) (segment_load (record { at = at; bytes = c }) ∷ ss) ts)
          (sym (ap (λ (ds : List (List ℕ)). segment_loads (loads_from at' ds)) all
          ∙ segments_yes l (loads_from (at' + length d) (moved_commands spots ms ks)) (ap is_segment same.number ∙ is)))
          (segment_load-placed p at at' c fits bytes, rest.segments);
    }

-- the segments of commands with another one in front
none_more : (at : ℕ) (c : List ℕ) (cs : List (List ℕ)) → is_segment (number_of c) ≡ false → segment_loads (loads_from at (c ∷ cs)) ≡ segment_loads (loads_from (at + length c) cs)
none_more at c cs other = segments_no (record { at = at; bytes = c }) (loads_from (at + length c) cs) other

one_more : (at : ℕ) (c : List ℕ) (cs : List (List ℕ)) → is_segment (number_of c) ≡ true → segment_loads (loads_from at (c ∷ cs)) ≡ segment_load (record { at = at; bytes = c }) ∷ segment_loads (loads_from (at + length c) cs)
one_more at c cs is = segments_yes (record { at = at; bytes = c }) (loads_from (at + length c) cs) is

skip_other : (spots : LinkSpots) (moves : List Moved) (at at' : ℕ) (c : List ℕ) (cs : List (List ℕ)) → IsGoodCommand c → is_segment (number_of c) ≡ false
    → ((n : ℕ) → AreFollowed spots moves (segment_loads (loads_from (at + length c) cs)) n (filter is_kept cs)) → AreFollowed spots moves (segment_loads (loads_from at (c ∷ cs))) at' (filter is_kept (c ∷ cs))
skip_other spots moves at at' c cs good other later =
    let ss : List SegmentLoad = segment_loads (loads_from (at + length c) cs) in
    subst (λ (ts : List SegmentLoad). AreFollowed spots moves ts at' (filter is_kept (c ∷ cs))) (sym (none_more at c cs other))
    (elim (bool_cases (is_kept c)) [
      | inl dropped ↦
          subst (λ (ks : List (List ℕ)). AreFollowed spots moves ss at' ks) (sym (cond-false (is_kept c) (c ∷ filter is_kept cs) (filter is_kept cs) dropped)) (later at')
      | inr kept ↦
          subst (λ (ks : List (List ℕ)). AreFollowed spots moves ss at' ks) (sym (cond-true (is_kept c) (c ∷ filter is_kept cs) (filter is_kept cs) kept))
          (followed_other spots moves ss at' c (filter is_kept cs) good kept other (spotted_front spots c 4 0 good.whole.sized.some (omega arith)) (later (at' + length (spotted spots c))))
    ])

take_segment : (spots : LinkSpots) (m : Moved) (ms : List Moved) (at at' : ℕ) (c : List ℕ) (cs : List (List ℕ)) → IsGoodCommand c → is_segment (number_of c) ≡ true
    → FitsPlace (place_for spots m (take 16 (drop 8 c)) (number_at 8 c 32))
    → ((n : ℕ) → AreFollowed spots ms (segment_loads (loads_from (at + length c) cs)) n (filter is_kept cs)) → AreFollowed spots (m ∷ ms) (segment_loads (loads_from at (c ∷ cs))) at' (filter is_kept (c ∷ cs))
take_segment spots m ms at at' c cs good is fits later =
    let ss : List SegmentLoad = segment_loads (loads_from (at + length c) cs) in
    let kept : is_kept c ≡ true = elim (bool_cases (is_kept c)) [
      | inl dropped ↦ absurd (clash (is_segment (number_of c)) is (segment_kept (number_of c) (not-false (is_dropped (number_of c)) dropped)))
      | inr kept ↦ kept
    ] in
    subst (λ (ts : List SegmentLoad). AreFollowed spots (m ∷ ms) ts at' (filter is_kept (c ∷ cs))) (sym (one_more at c cs is))
    (subst (λ (ks : List (List ℕ)). AreFollowed spots (m ∷ ms) (segment_load (record { at = at; bytes = c }) ∷ ss) at' ks) (sym (cond-true (is_kept c) (c ∷ filter is_kept cs) (filter is_kept cs) kept))
    (followed_segment spots m ms ss at at' c (filter is_kept cs) good kept is fits (later (at' + length (moved_segment spots m c)))))

pub all_followed : (spots : LinkSpots) (moves : List Moved) (at at' : ℕ) (cs : List (List ℕ)) → length moves ≡ length (segment_loads (loads_from at cs)) → AllByRecursion IsGoodCommand cs
    → AllByRecursion FitsPlace (load_places spots moves (segment_loads (loads_from at cs))) → AreFollowed spots moves (segment_loads (loads_from at cs)) at' (filter is_kept cs)
unfolding moved_commands segment_load
all_followed spots [] at at' [] len good fits = record { commands = tt; segments = tt }
all_followed spots (m ∷ ms) at at' [] len good fits = absurd (omega arith)
all_followed spots [] at at' (c ∷ cs) len good fits =
    elim (bool_cases (is_segment (number_of c))) [
      | inl other ↦ skip_other spots [] at at' c cs good.0 other (λ n. all_followed spots [] (at + length c) n cs (len ∙ ap length (none_more at c cs other)) good.1 tt)
      | inr is ↦ absurd (omega (arith, len, ap length (one_more at c cs is)))
    ]
all_followed spots (m ∷ ms) at at' (c ∷ cs) len good fits =
    elim (bool_cases (is_segment (number_of c))) [
      | inl other ↦
          skip_other spots (m ∷ ms) at at' c cs good.0 other
          (λ n. all_followed spots (m ∷ ms) (at + length c) n cs (len ∙ ap length (none_more at c cs other)) good.1
          (subst (λ (ss : List SegmentLoad). AllByRecursion FitsPlace (load_places spots (m ∷ ms) ss)) (none_more at c cs other) fits))
      | inr is ↦
          let both : AllByRecursion FitsPlace (load_places spots (m ∷ ms) (segment_load (record { at = at; bytes = c }) ∷ segment_loads (loads_from (at + length c) cs))) =
          subst (λ (ss : List SegmentLoad). AllByRecursion FitsPlace (load_places spots (m ∷ ms) ss)) (one_more at c cs is) fits in
          let fewer : length ms ≡ length (segment_loads (loads_from (at + length c) cs)) = omega (arith, len, ap length (one_more at c cs is)) in
          take_segment spots m ms at at' c cs good.0 is both.0 (λ n. all_followed spots ms (at + length c) n cs fewer good.1 both.1)
    ]
