-- Each image of a set that can be built is placed in its cache: its segments stand in the file, apart from each other and from the linkedit.
use Rattle.std.proofs.Common.{◌≡◌, ◌≤◌, ◌<◌, ◌⊎◌, inl, inr, ℕ, ◌+◌, ◌%◌, false, None, List, length, map, get_or, sym, subst, arith}
use Rattle.std.proofs.lemmas.List.{get_or_default, get_or-map}
use Rattle.dsc_base.specs.Region.{region_start, paged}
use Rattle.macho_image.specs.Records.{Seg, Img}
use Rattle.macho_image.specs.Rules.{is_linkedit_segment}
use Rattle.macho_image.specs.Breaks.{IsSound}
use Rattle.macho_image.specs.declared.place.Moved.{Moved}
use Rattle.macho_edit.specs.declared.segment.SegmentPlace.{SegmentPlace}
use Rattle.macho_edit.specs.declared.spots.LinkSpots.{LinkSpots}
use Rattle.macho_edit.specs.Segments.{linkedit_place, own_place}
use Rattle.macho_edit.specs.Placed.{IsPlaced, IsSeated, AreApart}
use Rattle.macho_edit.proofs.PlacedLaws.{seated_from, apart_from}
use Rattle.cache_layout.specs.declared.mapping.Mapping.{Mapping}
use Rattle.cache_layout.specs.declared.mapping.Mapping.TheVariants.{Text, Writable, Fixed}
use Rattle.cache_layout.specs.Layouts.{Laid, layout_of, layout_break}
use Rattle.cache_layout.specs.Apart.{IsSegment, IsApart, AreInTurn, move_at, range_in}
use Rattle.cache_layout.proofs.PlaceLaws.{length-moves-of, are_in_turn, are_within, are_apart}
use Rattle.cache_layout.proofs.SoundLaws.{sound_linkedit}
use Rattle.cache_layout.proofs.RoomLaws.{paged-covers, paged-whole}
use Rattle.ref_rewrite.proofs.HomeLaws.{two_segments}
use Rattle.linkedit_merge.specs.Linkedit.{linkedit_start, linkedit_size}
use Rattle.cache_build.proofs.BuildableSets.{IsBuildable, set_slide, set_shares, set_start, set_span}
use Rattle.cache_build.proofs.MovedSpots.{own_moves, own_spots, own_linked, own_spotted, IsSpotted, span_low}

abbrev no_move : Moved
no_move = record { address = 0; file = 0 }

-- ---- segments in the file

-- a move to a page of the file, with so many bytes before what stands behind the segments
pub record IsHeld (l : Laid) (size : ℕ) (m : Moved) : Type 0 where
  pub address : m.address ≡ region_start + m.file
  pub pages : m.file % 4096 ≡ 0
  pub before : m.file + size ≤ l.fixed.at + l.fixed.len

range_before : (is : List Img) → layout_break is ≡ None → (m : Mapping) → (range_in (layout_of is) m).at + (range_in (layout_of is) m).len ≤ (layout_of is).fixed.at + (layout_of is).fixed.len
range_before is none Text = let turn : AreInTurn is (layout_of is) = are_in_turn is none in omega (arith, turn.writable, turn.fixed)
range_before is none Writable = let turn : AreInTurn is (layout_of is) = are_in_turn is none in omega (arith, turn.fixed)
range_before is none Fixed = omega arith

-- with its whole pages, for a segment other than `__LINKEDIT`
pub held_at : (is : List Img) → layout_break is ≡ None → (k g : ℕ) (i : Img) (s : Seg) → IsSegment is k g i s → is_linkedit_segment s ≡ false → IsHeld (layout_of is) (paged s.vmsize) (move_at (layout_of is) k g)
held_at is none k g i s there owned =
    let own = are_within is none k g i s there owned in
    record { address = own.2.address; pages = own.2.pages; before = omega (arith, own.2.end, range_before is none own.0) }

-- segment g of image k, by any value for places past the end
pub there_at : (is : List Img) (k g : ℕ) (i : Img) (s : Seg) → k < length is → i ≡ get_or is k i → g < length i.segments → IsSegment is k g i (get_or i.segments g s)
there_at is k g i s lt at below = record { image_in = lt; image_is = at; segment_in = below; segment_is = get_or_default i.segments g s (get_or i.segments g s) below }

pub move_is : (is : List Img) (k g : ℕ) (i : Img) (m : Moved) → k < length is → i ≡ get_or is k i → g < length i.segments → move_at (layout_of is) k g ≡ get_or (own_moves is k) g m
move_is is k g i m lt at below = get_or_default (own_moves is k) g no_move m (omega (arith, below, length-moves-of is k i lt at))

held_own : (is : List Img) → layout_break is ≡ None → (k g : ℕ) (i : Img) (m : Moved) (s : Seg) → k < length is → i ≡ get_or is k i → g < length i.segments → is_linkedit_segment (get_or i.segments g s) ≡ false
    → IsHeld (layout_of is) (paged (get_or i.segments g s).vmsize) (get_or (own_moves is k) g m)
held_own is none k g i m s lt at below owned =
    subst (IsHeld (layout_of is) (paged (get_or i.segments g s).vmsize)) (move_is is k g i m lt at below) (held_at is none k g i (get_or i.segments g s) (there_at is k g i s lt at below) owned)

-- ---- seats

-- what stands behind the segments: the linkedit on a page, and the end of the file
record HasTail (l : Laid) (n start size : ℕ) : Type 0 where
  behind : l.fixed.at + l.fixed.len ≤ start
  page : start % 4096 ≡ 0
  long : n ≡ start + paged size
  small : n ≤ 0x20000000

pub start_behind : (l : Laid) (slide : ℕ) → (l.fixed.at + l.fixed.len ≤ linkedit_start l slide) × (linkedit_start l slide % 4096 ≡ 0)
unfolding linkedit_start
start_behind l slide = (omega (arith, paged-covers (l.fixed.at + l.fixed.len + slide)), paged-whole (l.fixed.at + l.fixed.len + slide))

tail_in : (bits : ℕ) (is : List Img) → IsBuildable bits is → (n : ℕ) → n ≡ set_span bits is → HasTail (layout_of is) n (set_start bits is) (linkedit_size (set_shares is))
tail_in bits is able n long =
    let start = start_behind (layout_of is) (length (set_slide bits is)) in
    record { behind = start.0; page = start.1; long = long; small = omega (arith, long, span_low bits is able.merged) }

seat_own : (l : Laid) (n start size s : ℕ) (m : Moved) → HasTail l n start size → IsHeld l (paged s) m → IsSeated n (own_place m s)
seat_own l n start size s m tail held = record {
  aligned = omega (arith, held.address, held.pages);
  low = omega (arith, held.address, held.before, paged-covers s, tail.behind, tail.long, tail.small);
  filled = omega arith;
  inside = omega (arith, held.before, paged-covers s, tail.behind, tail.long);
}

seat_linkedit : (l : Laid) (n start size : ℕ) (spots : LinkSpots) → HasTail l n start size → IsSpotted start size spots → IsSeated n (linkedit_place spots)
seat_linkedit l n start size spots tail at = record {
  aligned = omega (arith, at.address, tail.page);
  low = omega (arith, at.address, at.vmsize, tail.long, tail.small);
  filled = omega (arith, at.filesize, at.vmsize, paged-covers size);
  inside = omega (arith, at.file, at.filesize, tail.long, paged-covers size);
}

-- ---- places apart

-- places are apart where their parts of the file are
places_apart : (p q : SegmentPlace) → p.address ≡ region_start + p.file → q.address ≡ region_start + q.file → (p.file + p.vmsize ≤ q.file) ⊎ (q.file + q.vmsize ≤ p.file) → AreApart p q
places_apart p q here there (inl before) = omega (arith, here, there, before)
places_apart p q here there (inr behind) = omega (arith, here, there, behind)

covered : (file : ℕ) (s : Seg) (file' : ℕ) (s' : Seg) → IsApart file s file' s' → (file + s.vmsize ≤ file') ⊎ (file' + s'.vmsize ≤ file)
covered file s file' s' (inl before) = inl (omega (arith, before, paged-covers s.vmsize))
covered file s file' s' (inr behind) = inr (omega (arith, behind, paged-covers s'.vmsize))

apart_own : (is : List Img) → layout_break is ≡ None → (k : ℕ) (i : Img) (a b : ℕ) (m : Moved) (s : Seg) → k < length is → i ≡ get_or is k i → a < b → b < length i.segments
    → is_linkedit_segment (get_or i.segments a s) ≡ false → is_linkedit_segment (get_or i.segments b s) ≡ false
    → AreApart (own_place (get_or (own_moves is k) a m) (get_or i.segments a s).vmsize) (own_place (get_or (own_moves is k) b m) (get_or i.segments b s).vmsize)
apart_own is none k i a b m s lt at less below owned owned' =
    let l : Laid = layout_of is in
    let first : a < length i.segments = omega arith in
    let u : Seg = get_or i.segments a s in
    let v : Seg = get_or i.segments b s in
    let x : IsSegment is k a i u = there_at is k a i s lt at first in
    let y : IsSegment is k b i v = there_at is k b i s lt at below in
    let here : IsHeld l (paged u.vmsize) (move_at l k a) = held_at is none k a i u x owned in
    let there : IsHeld l (paged v.vmsize) (move_at l k b) = held_at is none k b i v y owned' in
    let apart : AreApart (own_place (move_at l k a) u.vmsize) (own_place (move_at l k b) v.vmsize) =
    places_apart (own_place (move_at l k a) u.vmsize) (own_place (move_at l k b) v.vmsize) here.address there.address
    (covered (move_at l k a).file u (move_at l k b).file v (are_apart is k a i u k b i v x y owned owned' (λ e f. omega (arith, less, f)))) in
    subst (λ (n : Moved). AreApart (own_place n u.vmsize) (own_place (get_or (own_moves is k) b m) v.vmsize)) (move_is is k a i m lt at first)
    (subst (λ (n : Moved). AreApart (own_place (move_at l k a) u.vmsize) (own_place n v.vmsize)) (move_is is k b i m lt at below) apart)

apart_linkedit : (l : Laid) (n start size s : ℕ) (m : Moved) (spots : LinkSpots) → HasTail l n start size → IsSpotted start size spots → IsHeld l (paged s) m → AreApart (own_place m s) (linkedit_place spots)
apart_linkedit l n start size s m spots tail at held =
    places_apart (own_place m s) (linkedit_place spots) held.address (omega (arith, at.address, at.file)) (inl (omega (arith, held.before, paged-covers s, tail.behind, at.file)))

-- ---- the whole

first_file : (ms : List Moved) → 0 < length ms → get_or (map (λ (m : Moved). m.file) ms) 0 (get_or ms 0 no_move).file ≡ (get_or ms 0 no_move).file
first_file ms some = get_or-map (λ (m : Moved). m.file) ms 0 no_move (get_or ms 0 no_move).file some

pub image_placed : (bits : ℕ) (is : List Img) → IsBuildable bits is → (k : ℕ) (i : Img) → k < length is → i ≡ get_or is k i → (cache : List ℕ) → length cache ≡ set_span bits is
    → IsPlaced i (own_moves is k) (own_spots bits is k) cache (move_at (layout_of is) k 0).file
image_placed bits is able k i lt at cache long =
    let l : Laid = layout_of is in
    let start : ℕ = set_start bits is in
    let size : ℕ = linkedit_size (set_shares is) in
    let moves : List Moved = own_moves is k in
    let spots : LinkSpots = own_spots bits is k in
    let none = able.accepted.layout in
    let sound : IsSound i = subst IsSound (sym at) (able.accepted.sound k i lt) in
    let some : 2 ≤ length i.segments = two_segments i sound in
    let same : length moves ≡ length i.segments = length-moves-of is k i lt at in
    let tail : HasTail l (length cache) start size = tail_in bits is able (length cache) long in
    let stands : IsSpotted start size spots = own_spotted bits is k i lt at in
    let owned : (g : ℕ) (s : Seg) → g + 1 < length i.segments → is_linkedit_segment (get_or i.segments g s) ≡ false =
    λ g s less. (sound_linkedit i sound g (get_or i.segments g s) (omega (arith, less)) (get_or_default i.segments g s (get_or i.segments g s) (omega (arith, less)))).0 less in
    record {
      first = first_file moves (omega (arith, some, same));
      seated = seated_from (length cache) spots moves i.segments same
          (λ g m s below other. seat_own l (length cache) start size (get_or i.segments g s).vmsize (get_or moves g m) tail (held_own is none k g i m s lt at below other))
          (seat_linkedit l (length cache) start size spots tail stands);
      apart = apart_from i moves spots sound same
          (λ a b m s less below. apart_own is none k i a b m s lt at less (omega (arith, below)) (owned a s (omega (arith, less, below))) (owned b s below))
          (λ g m s below. apart_linkedit l (length cache) start size (get_or i.segments g s).vmsize (get_or moves g m) spots tail stands (held_own is none k g i m s lt at (omega (arith, below)) (owned g s below)));
      linked = own_linked bits is k i lt at;
    }
