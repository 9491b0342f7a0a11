-- The image that a file has is like the cached one: each segment other than `__LINKEDIT` where it was, and all sections.
use Rattle.std.proofs.Common.{◌≡◌, ◌<◌, ℕ, zero, suc, Bool, true, false, not, Option, Some, None, List, [], ◌∷◌, ◌++◌, length, get_or, refl, sym, ap, ◌∙◌, arith, if◌then◌else◌}
use Rattle.std.specs.Prelude.{slice_get}
use Rattle.std.proofs.lemmas.Option.{slice_get_within, get_or_from_slice_get}
use Rattle.macho_image.specs.Records.{Seg, Img}
use Rattle.macho_image.specs.Breaks.{IsSound}
use Rattle.macho_image.specs.Rules.{is_linkedit_segment}
use Rattle.macho_image.specs.declared.place.Location.{Location}
use Rattle.macho_image.specs.declared.place.Moved.{Moved}
use Rattle.macho_edit.specs.declared.segment.SegmentPlace.{SegmentPlace}
use Rattle.macho_edit.specs.declared.spots.LinkSpots.{LinkSpots}
use Rattle.macho_edit.specs.MovedImage.{seated, seated_all, standalone_image}
use Rattle.macho_edit.specs.Placed.{places_of}
use Rattle.macho_edit.specs.Segments.{place_for, own_place}
use Rattle.macho_edit.proofs.PlaceLaws.{place_other}
use Rattle.prebind.specs.Bodies.{body_of}
use Rattle.prebind.proofs.LinkeditLaws.{EndsInLinkedit, ends_in_linkedit}
use Rattle.extractor.specs.ExtractOf.{moves_from, file_of, spots_of}
use Rattle.extractor.proofs.AlikeLaws.{IsLike}
use Rattle.extractor.proofs.BodyLaws.{length-moves}
use Rattle.extractor.proofs.OwnStreams.{own_image}
use Rattle.extractor.proofs.PlacedLaws.{move_at}

abbrev pub no_move : Moved
no_move = record { address = 0; file = 0 }

-- ---- segments

seated_at : (b : List ℕ) (spots : LinkSpots) (moves : List Moved) (ss : List Seg) (g : ℕ) (s : Seg) → length moves ≡ length ss → slice_get ss g ≡ Some s
    → slice_get (seated_all b (places_of spots moves ss) ss) g ≡ Some (seated b (place_for spots (get_or moves g no_move) s.name s.vmsize) s)
seated_at b spots moves [] g s same got = absurd (cc)
seated_at b spots [] (t ∷ ts) g s same got = absurd (omega (arith, same))
seated_at b spots (m ∷ ms) (t ∷ ts) zero s same got =
    let e : t ≡ s = cc in
    ap (λ (u : Seg). let o : Option Seg = Some (seated b (place_for spots m u.name u.vmsize) u) in o) e
seated_at b spots (m ∷ ms) (t ∷ ts) (suc g) s same got = seated_at b spots ms ts g s (omega (arith, same)) got

-- a segment of the file, by that of the cached image
pub record IsOwn (k g : ℕ) (i : Img) (words : List Location) (s : Seg) : Type 0 where
  pub own : Seg
  pub there : slice_get (own_image k i words).segments g ≡ Some own
  pub like : IsLike s own
  pub named : own.name ≡ s.name
  pub place : own ≡ seated (file_of k i words) (own_place (get_or (moves_from 0 i.segments) g no_move) s.vmsize) s

pub own_segment : (k g : ℕ) (i : Img) (words : List Location) (s : Seg) → slice_get i.segments g ≡ Some s → is_linkedit_segment s ≡ false → IsOwn k g i words s
unfolding own_image standalone_image
own_segment k g i words s got other =
    let moves = moves_from 0 i.segments in
    let m = get_or moves g no_move in
    let within : g < length i.segments = slice_get_within i.segments g s got in
    let start : (get_or (moves_from 0 i.segments) g no_move).address ≡ s.vmaddr =
    move_at 0 i.segments g no_move s within ∙ ap (λ (t : Seg). t.vmaddr) (get_or_from_slice_get i.segments g s s got) in
    let goes = place_other (spots_of k i words) m s.name s.vmsize other in
    record {
      own = seated (file_of k i words) (own_place m s.vmsize) s;
      there = seated_at (file_of k i words) (spots_of k i words) moves i.segments g s (length-moves 0 i.segments) got ∙ ap (λ (p : SegmentPlace). let o : Option Seg = Some (seated (file_of k i words) p s) in o) goes;
      like = record { address = start; size = refl; protection = refl };
      named = refl;
      place = refl;
    }

-- ---- a writable segment isn't `__LINKEDIT`

left_others : (ss : List Seg) (g : ℕ) (s : Seg) → slice_get (body_of ss) g ≡ Some s → is_linkedit_segment s ≡ false
left_others [] g s got = absurd (cc)
left_others (t ∷ ts) g s got = by (is_linkedit_segment t) refl (λ n at. left_others ts n s at) g got
  where
    by : (b : Bool) → is_linkedit_segment t ≡ b → ((n : ℕ) → slice_get (body_of ts) n ≡ Some s → is_linkedit_segment s ≡ false) → (n : ℕ) → slice_get (if not b then t ∷ body_of ts else body_of ts) n ≡ Some s → is_linkedit_segment s ≡ false
    by true is rest n at = rest n at
    by false is rest zero at = let e : t ≡ s = cc in ap (λ (u : Seg). is_linkedit_segment u) (sym e) ∙ is
    by false is rest (suc n) at = rest n at

of_two : (bs : List Seg) (l : Seg) (g : ℕ) (s : Seg) → slice_get (bs ++ l ∷ []) g ≡ Some s → (slice_get bs g ≡ None → s ≡ l)
of_two [] l zero s got none = let e : l ≡ s = cc in sym e
of_two [] l (suc g) s got none = absurd (cc)
of_two (b ∷ bs) l zero s got none = absurd (cc)
of_two (b ∷ bs) l (suc g) s got none = of_two bs l g s got none

in_front : (bs : List Seg) (l : Seg) (g : ℕ) (s t : Seg) → slice_get (bs ++ l ∷ []) g ≡ Some s → slice_get bs g ≡ Some t → t ≡ s
in_front [] l g s t got at = absurd (cc)
in_front (b ∷ bs) l zero s t got at = let e : b ≡ s = cc in let f : b ≡ t = cc in sym f ∙ e
in_front (b ∷ bs) l (suc g) s t got at = in_front bs l g s t got at

pub writable_other : (i : Img) (g : ℕ) (s : Seg) → IsSound i → slice_get i.segments g ≡ Some s → s.initprot ≡ 3 → is_linkedit_segment s ≡ false
writable_other i g s sound got writable = go (slice_get (body_of i.segments) g) refl
  where
    ends : EndsInLinkedit i.segments
    ends = ends_in_linkedit i sound

    split : slice_get (body_of i.segments ++ ends.linkedit ∷ []) g ≡ Some s
    split = sym (ap (λ (ss : List Seg). slice_get ss g) ends.split) ∙ got

    go : (o : Option Seg) → slice_get (body_of i.segments) g ≡ o → is_linkedit_segment s ≡ false
    go (Some t) at = ap (λ (u : Seg). is_linkedit_segment u) (sym (in_front (body_of i.segments) ends.linkedit g s t split at)) ∙ left_others i.segments g t at
    go None at =
        let last = of_two (body_of i.segments) ends.linkedit g s split at in
        let three : ends.linkedit.initprot ≡ 3 = sym (ap (λ (u : Seg). u.initprot) last) ∙ writable in
        let one = ends.read_only in
        absurd (omega (arith, three, one))
