-- Wherever bytes with a header that was moved spell an image, it is the moved one.
use Rattle.std.proofs.Common.{◌≡◌, ◌≤◌, ◌<◌, inl, inr, ℕ, ◌+◌, ◌^◌, false, not, nat_lt, Option, Some, None, List, [], ◌∷◌, take, drop, length, refl, sym, ap, ◌∙◌, subst, arith}
use Rattle.std.specs.List.{AllByRecursion}
use Rattle.std.proofs.lemmas.List.Elements.{All-head, All-tail}
use Rattle.dsc_base.specs.Numbers.{number_at}
use Rattle.dsc_base.specs.declared.fault.Site.{Site}
use Rattle.macho_image.specs.declared.form.Form.{Form}
use Rattle.macho_image.specs.declared.form.Form.TheVariants.{Standalone, Cached}
use Rattle.macho_image.specs.declared.place.Moved.{Moved}
use Rattle.macho_image.specs.Records.{Img, SegmentLoad}
use Rattle.macho_image.specs.Macho.{header_size, header_in, loads_of, segment_loads, loads_from, image_from, image_of}
use Rattle.macho_image.specs.Rules.{first_segment, first_crossing, misplaced, is_well_shaped, is_linkedit, breaks_segment_shape}
use Rattle.dsc_base.specs.Refusals.{least}
use Rattle.macho_image.specs.Breaks.{image_break, image_unless, image_at, IsSound}
use Rattle.macho_image.proofs.Unbroken.{least_none_both, image_sound, when_false}
use Rattle.macho_edit.specs.declared.segment.SegmentPlace.{SegmentPlace}
use Rattle.macho_edit.specs.declared.spots.LinkSpots.{LinkSpots}
use Rattle.macho_edit.specs.Segments.{place_for}
use Rattle.macho_edit.specs.Conditions.{CanMove, FitFields, FitPlaces}
use Rattle.macho_edit.specs.Cached.{kept_commands, formed_header, formed_bytes, unrebased, cached_bytes}
use Rattle.macho_edit.specs.Placed.{IsSeated}
use Rattle.macho_edit.specs.MovedImage.{SpellsMoved, SpellsAlone}
use Rattle.macho_edit.proofs.BoolLaws.{bool_cases}
use Rattle.macho_edit.proofs.FrontLaws.{cached_is}
use Rattle.macho_edit.proofs.PlaceLaws.{place_other, place_linkedit}
use Rattle.macho_edit.proofs.MovedSegments.{FitsPlace, placed_load}
use Rattle.macho_edit.proofs.MovedCommands.{load_places, Follow}
use Rattle.macho_edit.proofs.Grounds.{LowLoads, first_text}
use Rattle.macho_edit.proofs.Spelt.{IsSpelt, AreSoundLoads, sound_loads, spelt, seats_are, header_here, image_there, spelled_image}
use Rattle.macho_edit.proofs.Reread.{unrebased_can, cached_there, standalone_there}
use Rattle.macho_image.proofs.HeaderRules.{all_fail, sound_rules, IsShaped, all_shaped}

-- the numbers of each place fit 64 bits, by the types of moves and spots
fit_place : (spots : LinkSpots) (m : Moved) (s : SegmentLoad) → spots.linkedit.file < 2 ^ 64 → spots.linkedit.address < 2 ^ 64 → spots.vmsize < 2 ^ 64 → spots.filesize < 2 ^ 64 → m.address < 2 ^ 64
    → (is_linkedit s ≡ false → m.file + s.vmsize < 2 ^ 32) → FitsPlace (place_for spots m s.name s.vmsize)
fit_place spots m s file address vmsize filesize moved low = elim (bool_cases (is_linkedit s)) [
  | inl other ↦
      let below : m.file + s.vmsize < 2 ^ 32 = low other in
      subst FitsPlace (sym (place_other spots m s.name s.vmsize other)) (record { address = moved; vmsize = omega arith; file = omega arith; filesize = omega arith })
  | inr linkedit ↦
      subst FitsPlace (sym (place_linkedit spots m s.name s.vmsize linkedit)) (record { address = address; vmsize = vmsize; file = file; filesize = filesize })
]

fit_all : (spots : LinkSpots) (moves : List Moved) (ss : List SegmentLoad) → spots.linkedit.file < 2 ^ 64 → FitPlaces moves spots → LowLoads moves ss → AllByRecursion FitsPlace (load_places spots moves ss)
fit_all spots [] ss file fits low = tt
fit_all spots (m ∷ ms) [] file fits low = tt
fit_all spots (m ∷ ms) (s ∷ ss) file fits low = (
  fit_place spots m s file fits.address fits.vmsize fits.filesize (All-head (λ (x : Moved). x.address < 2 ^ 64) m ms fits.moved) low.0,
  fit_all spots ms ss file (record { moved = All-tail (λ (x : Moved). x.address < 2 ^ 64) m ms fits.moved; address = fits.address; vmsize = fits.vmsize; filesize = fits.filesize }) low.1,
)

-- the header is short, since its segment ends low
short_header : (size : ℕ) (spots : LinkSpots) (moves : List Moved) (ss : List SegmentLoad) → length moves ≡ length ss → 2 ≤ length ss → misplaced size ss ≡ None → AllByRecursion IsShaped ss → LowLoads moves ss → size < 2 ^ 32
short_header size spots [] ss few two placed shaped low = absurd (omega arith)
short_header size spots (m ∷ ms) ss few two placed shaped low = (first_text size m.file spots (m ∷ ms) ss few two placed shaped low refl).1

-- a place whose segment is well shaped there, and whose end fits
seat_from : (p : SegmentPlace) (at : ℕ) (s t : SegmentLoad) → t ≡ placed_load p at s → IsShaped t → FitsPlace p → IsSeated (2 ^ 65) p
seat_from p at s t is shaped fits =
    let here : IsShaped (placed_load p at s) = subst IsShaped is shaped in
    let file : p.file < 2 ^ 64 = fits.file in
    let size : p.filesize < 2 ^ 64 = fits.filesize in
    record { aligned = here.aligned; low = here.low; filled = here.filled; inside = omega arith }

seats_from : (ps : List SegmentPlace) (ss ts : List SegmentLoad) → Follow ps ss ts → AllByRecursion IsShaped ts → AllByRecursion FitsPlace ps → AllByRecursion (IsSeated (2 ^ 65)) ps
seats_from [] ss ts follow shaped fits = tt
seats_from (p ∷ ps) [] ts follow shaped fits = absurd follow
seats_from (p ∷ ps) (s ∷ ss) [] follow shaped fits = absurd follow
seats_from (p ∷ ps) (s ∷ ss) (t ∷ ts) follow shaped fits = (seat_from p t.at s t follow.0 shaped.0 fits.0, seats_from ps ss ts follow.1 shaped.1 fits.1)

-- an image that is there breaks no rule
unless : (o : Option Site) (x i : Img) → image_unless o x ≡ Some i → (o ≡ None) × (x ≡ i)
unless None x i is = let same : x ≡ i = cc in (refl, same)
unless (Some s) x i is = absurd (cc)

header_is : (b k : List ℕ) → (image_from b k).header ≡ k
unfolding image_from
header_is b k = refl

-- the segments of a sound image with a header are well shaped
shaped_there : (b k : List ℕ) → IsSound (image_from b k) → AllByRecursion IsShaped (segment_loads (loads_of k))
shaped_there b k sound =
    let ss : List SegmentLoad = segment_loads (loads_of k) in
    let rules = sound_rules (image_from b k) sound in
    let shape : breaks_segment_shape (header_size k) (segment_loads (loads_of k)) ≡ None =
    subst (λ (h : List ℕ). breaks_segment_shape (header_size h) (segment_loads (loads_of h)) ≡ None) (header_is b k) rules.segments in
    let many = when_false (nat_lt (length ss) 2) 0 (least (first_segment (λ s. not (is_well_shaped s)) ss) (least (first_crossing [] ss) (misplaced (header_size k) ss))) shape in
    let parts = least_none_both (first_segment (λ s. not (is_well_shaped s)) ss) (least (first_crossing [] ss) (misplaced (header_size k) ss)) many.1 in
    all_shaped ss (all_fail (λ s. not (is_well_shaped s)) ss parts.0)

only_in : (form : Form) (image : Img) (moves : List Moved) (spots : LinkSpots) (b : List ℕ) (h : ℕ) (i : Img) → IsSound image → CanMove image moves spots → FitFields spots.linkedit.file spots.groups → FitPlaces moves spots
    → number_at 4 image.header 24 < 2 ^ 32 → take (length (formed_bytes form image moves spots)) (drop h b) ≡ formed_bytes form image moves spots → (form ≡ Standalone → h ≡ 0) → image_at form b h ≡ Some i → i ≡ image_there form image moves spots b
only_in form image moves spots b h i sound can fields fits narrow stands front there =
    let k : List ℕ = formed_header form spots moves image.header in
    let ss : List SegmentLoad = segment_loads (loads_of image.header) in
    let ps : List SegmentPlace = load_places spots moves ss in
    let loads : AreSoundLoads image moves = sound_loads image moves spots sound can in
    let short : header_size image.header < 2 ^ 32 = short_header (header_size image.header) spots moves ss loads.few loads.two loads.well_placed loads.shaped loads.low in
    let fit : AllByRecursion FitsPlace ps = fit_all spots moves ss fields.offset fits loads.low in
    let is : IsSpelt form image moves spots = spelt form image moves spots sound can fields narrow loads (omega (arith, sound.whole, short)) fit in
    let here : header_in b h ≡ formed_header form spots moves image.header = header_here form image moves spots b h is stands in
    let both = unless (image_break form b h) (image_of b h) i there in
    let spelled : image_of b h ≡ image_from b (formed_header form spots moves image.header) = ap (image_from b) here in
    let good : IsSound (image_from b (formed_header form spots moves image.header)) = subst IsSound spelled (image_sound form b h front both.0) in
    let shaped : AllByRecursion IsShaped (segment_loads (loads_from 32 (kept_commands spots moves image.header))) =
    subst (λ (ls : List SegmentLoad). AllByRecursion IsShaped ls) (ap segment_loads is.kept.loads) (shaped_there b (formed_header form spots moves image.header) good) in
    let seated : AllByRecursion (IsSeated (2 ^ 65)) ps = seats_from ps ss (segment_loads (loads_from 32 (kept_commands spots moves image.header))) is.follow shaped fit in
    sym both.1 ∙ (spelled ∙ spelled_image form image moves spots b (2 ^ 65) sound is (seats_are (2 ^ 65) image moves spots loads seated))

-- in the cache
pub only_cached : (image inside : Img) (moves : List Moved) (spots : LinkSpots) (out : List ℕ) → inside ≡ image → out ≡ cached_bytes image moves spots → IsSound inside → CanMove image moves spots
    → FitFields spots.linkedit.file spots.groups → FitPlaces moves spots → number_at 4 inside.header 24 < 2 ^ 32 → SpellsMoved image moves spots out
only_cached image inside moves spots out image_is bytes sound can fields fits narrow =
    λ b h i stands there.
    only_in Cached image moves (unrebased spots) b h i (subst IsSound image_is sound) (unrebased_can image moves spots can) fields
    (record { moved = fits.moved; address = fits.address; vmsize = fits.vmsize; filesize = fits.filesize })
    (subst (λ (x : Img). number_at 4 x.header 24 < 2 ^ 32) image_is narrow)
    (subst (λ (l : List ℕ). take (length l) (drop h b) ≡ l) (bytes ∙ sym (cached_is image moves spots)) stands) (λ (e : Cached ≡ Standalone). cc) there
    ∙ cached_there image moves spots b

-- in a file of its own
pub only_alone : (image inside : Img) (moves : List Moved) (spots : LinkSpots) (out : List ℕ) → inside ≡ image → out ≡ formed_bytes Standalone image moves spots → IsSound inside → CanMove image moves spots
    → FitFields spots.linkedit.file spots.groups → FitPlaces moves spots → number_at 4 inside.header 24 < 2 ^ 32 → SpellsAlone image moves spots out
only_alone image inside moves spots out image_is bytes sound can fields fits narrow =
    λ b i stands there.
    only_in Standalone image moves spots b 0 i (subst IsSound image_is sound) can fields fits (subst (λ (x : Img). number_at 4 x.header 24 < 2 ^ 32) image_is narrow)
    (subst (λ (l : List ℕ). take (length l) b ≡ l) bytes stands) (λ e. refl) there
    ∙ standalone_there image moves spots b
