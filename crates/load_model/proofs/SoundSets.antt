-- The images of files that break no rule of the first phase.
use Rattle.std.proofs.Common.{◌≡◌, ◌<◌, ℕ, zero, suc, ◌+◌, Option, Some, None, List, [], ◌∷◌, length, get_or, refl, ap, ◌∙◌, arith}
use Rattle.std.specs.Option.{option_or, option_map}
use Rattle.dsc_base.specs.declared.fault.Site.{Site}
use Rattle.dsc_base.specs.declared.fault.Break.{Break}
use Rattle.macho_image.specs.declared.form.Form.TheVariants.{Standalone}
use Rattle.macho_image.specs.Records.{Img}
use Rattle.macho_image.specs.Macho.{image_of}
use Rattle.macho_image.specs.Breaks.{image_break, IsSound}
use Rattle.dsc_base.specs.Refusals.{in_image, in_each}
use Rattle.macho_image.proofs.Unbroken.{or_none, image_sound}
use Rattle.load_model.specs.Phases.{dylib_of, shape_break, images_of}

pub unbroken_shape : (file : List ℕ) → shape_break file ≡ None → image_break Standalone (dylib_of file) 0 ≡ None
unfolding shape_break
unbroken_shape file none = (or_none _ _ none).1

pub file_sound : (file : List ℕ) → shape_break file ≡ None → IsSound (image_of (dylib_of file) 0)
file_sound file none = image_sound Standalone (dylib_of file) 0 (λ _. refl) (unbroken_shape file none)

first_none : (k : ℕ) (o : Option Site) (rest : Option Break) → option_or {T = Break} (option_map {T = Site} {U = Break} (in_image k) o) rest ≡ None → (o ≡ None) × (rest ≡ None)
first_none k None rest none = (refl, none)
first_none k (Some s) rest some = absurd (cc)

-- each file of a set that breaks no rule of the first phase breaks none by itself
pub each_none : (n : ℕ) (files : List (List ℕ)) (k : ℕ) (f : List ℕ) → in_each shape_break n files ≡ None → k < length files → f ≡ get_or files k f → shape_break f ≡ None
unfolding in_each
each_none n [] k f none lt at = absurd (omega arith)
each_none n (g ∷ gs) zero f none lt at = ap shape_break at ∙ (first_none n (shape_break g) (in_each shape_break (n + 1) gs) none).0
each_none n (g ∷ gs) (suc k) f none lt at = each_none (n + 1) gs k f (first_none n (shape_break g) (in_each shape_break (n + 1) gs) none).1 (omega arith) at

-- so each image is sound
pub sound_images : (n : ℕ) (files : List (List ℕ)) → in_each shape_break n files ≡ None → (k : ℕ) (d : Img) → k < length (images_of files) → IsSound (get_or (images_of files) k d)
unfolding in_each
sound_images n [] none k d lt = absurd (omega arith)
sound_images n (g ∷ gs) none zero d lt = file_sound g (first_none n (shape_break g) (in_each shape_break (n + 1) gs) none).0
sound_images n (g ∷ gs) none (suc k) d lt = sound_images (n + 1) gs (first_none n (shape_break g) (in_each shape_break (n + 1) gs) none).1 k d (omega arith)
