-- The first break of a set, phase by phase.
use Rattle.std.proofs.Common.{◌≡◌, ◌≤◌, ◌<◌, ℕ, Option, Some, None, List, length, get_or, refl, sym, ap, ap₂, ◌∙◌, subst}
use Rattle.std.specs.Prelude.{Result, Ok, Err, IsErrAnd, IfErr}
use Rattle.std.specs.Option.{option_or}
use Rattle.dsc_base.specs.declared.fault.Break.{Break}
use Rattle.dsc_base.specs.declared.fault.SetFault.{SetFault}
use Rattle.dsc_base.specs.declared.fault.SetFault.TheVariants.{Broken, Memory}
use Rattle.dsc_base.specs.Refusals.{IsSetRefusal}
use Rattle.macho_image.specs.Records.{Img}
use Rattle.prebind.specs.Sets.{ImageSet, image_set}
use Rattle.cache_layout.specs.Layouts.{Laid, layout_of, layout_break}
use Rattle.cache_layout.proofs.SoundLaws.{sound_name}
use Rattle.load_model.specs.Phases.{images_of, files_break}
use Rattle.load_model.proofs.AcceptedFiles.{accepted_files}
use Rattle.load_model.proofs.SoundSets.{sound_images}
use Rattle.cache_build.specs.Breaks.{behind_layout, set_break}
use Rattle.cache_build.proofs.FitsLaws.{AreSound}

pub handed_set : {X : Type 0} (found : Option Break) (r : Result X SetFault) (fault : SetFault) → IsErrAnd r (λ g. g ≡ fault) → IsSetRefusal found fault → IfErr r (IsSetRefusal found)
handed_set found (Ok x) fault is refused = tt
handed_set found (Err g) fault is refused = subst (λ (f : SetFault). IsSetRefusal found f) (sym is) refused

-- and where it is so for any number of bits
pub handed_each : {X : Type 0} (files : List (List ℕ)) (r : Result X SetFault) (fault : SetFault) → IsErrAnd r (λ g. g ≡ fault) → ((bits : ℕ) → IsSetRefusal (set_break bits files) fault) → IfErr r (λ e. (bits : ℕ) → IsSetRefusal (set_break bits files) e)
handed_each files (Ok x) fault is refused = tt
handed_each files (Err g) fault is refused = subst (λ (f : SetFault). (bits : ℕ) → IsSetRefusal (set_break bits files) f) (sym is) refused

abbrev last_break : ℕ → List (List ℕ) → Option Break
last_break bits files = behind_layout bits (layout_of (images_of files)) (image_set (images_of files))

abbrev behind_files : ℕ → List (List ℕ) → Option Break
behind_files bits files = option_or (layout_break (images_of files)) (option_or (last_break bits files) None)

-- what the files break comes first
pub set_files : (bits : ℕ) (files : List (List ℕ)) (fault : SetFault) → IsSetRefusal (files_break files) fault → IsSetRefusal (set_break bits files) fault
unfolding set_break
set_files bits files (Broken b) found = ap (λ (o : Option Break). option_or o (behind_files bits files)) found
set_files bits files Memory found = tt

files_passed : (bits : ℕ) (files : List (List ℕ)) → files_break files ≡ None → set_break bits files ≡ behind_files bits files
unfolding set_break
files_passed bits files none = ap (λ (o : Option Break). option_or o (behind_files bits files)) none

-- then the layout
pub set_layout : (bits : ℕ) (files : List (List ℕ)) (images : List Img) (fault : SetFault) → images ≡ images_of files → files_break files ≡ None → IsSetRefusal (layout_break images) fault → IsSetRefusal (set_break bits files) fault
set_layout bits files images (Broken b) are none found =
    files_passed bits files none ∙ ap (λ (o : Option Break). option_or o (option_or (last_break bits files) None)) (ap layout_break (sym are) ∙ found)
set_layout bits files images Memory are none found = tt

-- and then what comes behind it
pub set_behind : (bits : ℕ) (files : List (List ℕ)) (images : List Img) (l : Laid) (set : ImageSet) → images ≡ images_of files → set ≡ image_set (images_of files) → l ≡ layout_of images → files_break files ≡ None → layout_break images ≡ None
    → set_break bits files ≡ behind_layout bits l set
set_behind bits files images l set are set_is laid none fits =
    files_passed bits files none
    ∙ (ap (λ (o : Option Break). option_or o (option_or (last_break bits files) None)) (ap layout_break (sym are) ∙ fits)
    ∙ (alone (last_break bits files) ∙ sym (ap₂ (λ (m : Laid) (s : ImageSet). behind_layout bits m s) (laid ∙ ap layout_of are) set_is)))
  where
    alone : (o : Option Break) → option_or o None ≡ o
    alone None = refl
    alone (Some b) = refl

-- ---- what files have that break no rule

pub are_sound : (files : List (List ℕ)) → files_break files ≡ None → AreSound (images_of files)
are_sound files none k d lt = sound_images 0 files (accepted_files files none).shapes k d lt

pub set_names : (files : List (List ℕ)) (images : List Img) → images ≡ images_of files → files_break files ≡ None → (k : ℕ) (d : Img) → k < length images → length (get_or images k d).install_name ≤ 1024
set_names files images are none =
    subst (λ (is : List Img). (k : ℕ) (d : Img) → k < length is → length (get_or is k d).install_name ≤ 1024) (sym are) (λ k d lt. sound_name (get_or (images_of files) k d) (are_sound files none k d lt))
