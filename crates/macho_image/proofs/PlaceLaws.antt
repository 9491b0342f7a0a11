-- A record is refused, or has its place.
use Rattle.std.proofs.Common.{◌≡◌, ◌≤◌, ℕ, List, length, sym, ap, ◌∙◌, Option, Some, None}
use Rattle.std.specs.Prelude.{slice_get, Result, Err}
use Rattle.std.proofs.lemmas.Option.{slice_get_past}
use Rattle.macho_image.specs.Records.{Img, Seg}
use Rattle.macho_image.specs.declared.section.Section.{Section}
use Rattle.macho_image.specs.declared.place.Location.{Location}
use Rattle.macho_image.specs.declared.places.record.PlaceFault.{PlaceFault}
use Rattle.macho_image.specs.declared.places.record.PlaceFault.TheVariants.{OutsideSegment}
use Rattle.macho_image.specs.Places.{place_fault, location, fault_in, location_in, unless, placed}

pub placed_nowhere : (image : Img) (g : Option ℕ) (offset before : ℕ) → g ≡ None → Err OutsideSegment ≡ placed image g offset before
unfolding place_fault location
placed_nowhere image g offset before none = ap (λ (o : Option ℕ). placed image o offset before) (sym none)

pub placed_inside : (image : Img) (g : Option ℕ) (n : ℕ) (s : Seg) (offset before : ℕ) (segments : List Seg) (sections : List Section) (r : Result Location PlaceFault) → g ≡ Some n
    → segments ≡ image.segments → sections ≡ image.sections → slice_get segments n ≡ Some s
    → r ≡ unless (fault_in sections n (Some s) offset before) (location_in sections n (Some s) offset) → r ≡ placed image g offset before
unfolding place_fault location
placed_inside image g n s offset before segments sections r set here there found is =
    let at : slice_get image.segments n ≡ Some s = sym (ap (λ (l : List Seg). slice_get l n) here) ∙ found in
    is
    ∙ (ap (λ (l : List Section). unless (fault_in l n (Some s) offset before) (location_in l n (Some s) offset)) there
    ∙ (ap (λ (o : Option Seg). unless (fault_in image.sections n o offset before) (location_in image.sections n o offset)) (sym at)
    ∙ ap (λ (o : Option ℕ). placed image o offset before) (sym set)))

pub placed_past : (image : Img) (g : Option ℕ) (n offset before : ℕ) (segments : List Seg) → g ≡ Some n → segments ≡ image.segments → length segments ≤ n → Err OutsideSegment ≡ placed image g offset before
unfolding place_fault location
placed_past image g n offset before segments set here past =
    let at : slice_get image.segments n ≡ None = sym (ap (λ (l : List Seg). slice_get l n) here) ∙ slice_get_past segments n past in
    ap (λ (o : Option Seg). unless (fault_in image.sections n o offset before) (location_in image.sections n o offset)) (sym at)
    ∙ ap (λ (o : Option ℕ). placed image o offset before) (sym set)
