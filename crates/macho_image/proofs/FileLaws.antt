-- What the tests of one file amount to.
use Rattle.std.proofs.Common.{◌≡◌, ℕ, Option, None, List, sym, ap, ◌∙◌, subst}
use Rattle.std.specs.Prelude.{Result, Ok, Err, IsErrAnd, IfErr}
use Rattle.std.specs.Option.{option_or}
use Rattle.dsc_base.specs.declared.fault.Site.{Site}
use Rattle.dsc_base.specs.declared.fault.Fault.{Fault}
use Rattle.dsc_base.specs.declared.fault.Fault.TheVariants.{Broken, Memory}
use Rattle.macho_image.specs.declared.form.Form.TheVariants.{Standalone}
use Rattle.macho_image.specs.Universal.{slice_break}
use Rattle.macho_image.specs.Breaks.{image_break}
use Rattle.dsc_base.specs.Refusals.{IsRefusal}
use Rattle.macho_image.specs.Files.{dylib_of, shape_break}

-- ---- the rules of a file's slice, and then those of the dylib there

pub shape_slice : (file : List ℕ) (fault : Fault) → IsRefusal (slice_break file) fault → IsRefusal (shape_break file) fault
unfolding shape_break
shape_slice file (Broken site) found = ap (λ (o : Option Site). option_or o (image_break Standalone (dylib_of file) 0)) found
shape_slice file Memory found = tt

shape_is : (file : List ℕ) → slice_break file ≡ None → shape_break file ≡ image_break Standalone (dylib_of file) 0
unfolding shape_break
shape_is file picked = ap (λ (o : Option Site). option_or o (image_break Standalone (dylib_of file) 0)) picked

pub shape_image : (file : List ℕ) (dylib : List ℕ) (fault : Fault) → slice_break file ≡ None → dylib ≡ dylib_of file → IsRefusal (image_break Standalone dylib 0) fault → IsRefusal (shape_break file) fault
shape_image file dylib fault picked is found =
    subst (λ (o : Option Site). IsRefusal o fault) (ap (λ (b : List ℕ). image_break Standalone b 0) is ∙ sym (shape_is file picked)) found

pub shape_none : (file : List ℕ) (dylib : List ℕ) → slice_break file ≡ None → dylib ≡ dylib_of file → image_break Standalone dylib 0 ≡ None → shape_break file ≡ None
shape_none file dylib picked is unbroken = shape_is file picked ∙ (sym (ap (λ (b : List ℕ). image_break Standalone b 0) is) ∙ unbroken)

-- an error that a `?` hands on
pub handed_on : {X : Type 0} (found : Option Site) (r : Result X Fault) (fault : Fault) → IsErrAnd r (λ g. g ≡ fault) → IsRefusal found fault → IfErr r (IsRefusal found)
handed_on found (Ok x) fault is refused = tt
handed_on found (Err g) fault is refused = subst (λ (f : Fault). IsRefusal found f) (sym is) refused
