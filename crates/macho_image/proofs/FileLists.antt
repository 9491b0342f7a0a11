-- Files that are accepted one by one.
use Rattle.std.proofs.Common.{◌≡◌, ◌≤◌, ◌<◌, ℕ, ◌+◌, Option, None, List, [], ◌∷◌, ◌++◌, Vec, Global, take, drop, length, get_or, sym, ap, ap₂, ◌∙◌, subst}
use Rattle.std.specs.Option.{option_or, option_map}
use Rattle.std.proofs.lemmas.List.{map-append, take_more, drop_more, drop_all, take_all}
use Rattle.dsc_base.specs.declared.fault.Site.{Site}
use Rattle.dsc_base.specs.declared.fault.Break.{Break}
use Rattle.dsc_base.specs.declared.fault.Fault.{Fault}
use Rattle.dsc_base.specs.declared.fault.Fault.TheVariants.{Broken, Memory}
use Rattle.dsc_base.specs.declared.fault.SetFault.{SetFault}
use Rattle.macho_image.specs.Records.{Img}
use Rattle.macho_image.specs.Macho.{image_of}
use Rattle.dsc_base.specs.Refusals.{in_image, IsRefusal, in_set, IsSetRefusal, in_each}
use Rattle.macho_image.specs.Files.{dylib_of, shape_break, images_of, contents}

-- so many files are accepted, and these are their images
pub record AreAccepted (files : List (Vec ℕ Global)) (images : List Img) (n : ℕ) : Type 0 where
  pub images_are : images ≡ images_of (contents (take n files))
  pub rest : in_each shape_break n (contents (drop n files)) ≡ in_each shape_break 0 (contents files)

-- the next file decides
step : (files : List (Vec ℕ Global)) (images : List Img) (n : ℕ) (f : Vec ℕ Global) → AreAccepted files images n → n < length files → f ≡ get_or files n f
    → option_or {T = Break} (option_map {T = Site} {U = Break} (in_image n) (shape_break f.items)) (in_each shape_break (n + 1) (contents (drop (n + 1) files)))
    ≡ in_each shape_break 0 (contents files)
unfolding in_each
step files images n f kept lt at =
    sym (ap (λ (fs : List (Vec ℕ Global)). in_each shape_break n (contents fs)) (drop_more files n f lt ∙ ap (λ (g : Vec ℕ Global). g ∷ drop (n + 1) files) (sym at))) ∙ kept.rest

pub accepted_more : (files : List (Vec ℕ Global)) (images images' : List Img) (n : ℕ) (f : Vec ℕ Global) (bytes : List ℕ) (image : Img) → AreAccepted files images n → n < length files → f ≡ get_or files n f → bytes ≡ f.items
    → shape_break bytes ≡ None → image ≡ image_of (dylib_of bytes) 0 → images' ≡ images ++ image ∷ [] → AreAccepted files images' (n + 1)
accepted_more files images images' n f bytes image kept lt at same none image_is grown =
    let unbroken : shape_break f.items ≡ None = ap shape_break (sym same) ∙ none in
    let more : take (n + 1) files ≡ take n files ++ f ∷ [] = take_more files n f lt ∙ ap (λ (g : Vec ℕ Global). take n files ++ g ∷ []) (sym at) in
    record {
      images_are =
          grown ∙ (ap₂ (λ (is : List Img) (i : Img). is ++ i ∷ []) kept.images_are (image_is ∙ ap (λ (b : List ℕ). image_of (dylib_of b) 0) same)
          ∙ (sym (map-append (λ (b : List ℕ). image_of (dylib_of b) 0) (contents (take n files)) (f.items ∷ []))
          ∙ (sym (ap images_of (map-append (λ (g : Vec ℕ Global). g.items) (take n files) (f ∷ [])))
          ∙ sym (ap (λ (fs : List (Vec ℕ Global)). images_of (contents fs)) more))));
      rest =
          sym (ap (λ (o : Option Site). option_or {T = Break} (option_map {T = Site} {U = Break} (in_image n) o) (in_each shape_break (n + 1) (contents (drop (n + 1) files)))) unbroken)
          ∙ step files images n f kept lt at;
    }

pub accepted_images : (files : List (Vec ℕ Global)) (images : List Img) (n : ℕ) → AreAccepted files images n → length files ≤ n → images ≡ images_of (contents files)
accepted_images files images n kept all = kept.images_are ∙ ap (λ (fs : List (Vec ℕ Global)). images_of (contents fs)) (take_all n files all)

pub accepted_none : (files : List (Vec ℕ Global)) (images : List Img) (n : ℕ) → AreAccepted files images n → length files ≤ n → in_each shape_break 0 (contents files) ≡ None
unfolding in_each
accepted_none files images n kept all = sym kept.rest ∙ ap (λ (fs : List (Vec ℕ Global)). in_each shape_break n (contents fs)) (drop_all n files all)

pub refused : (files : List (Vec ℕ Global)) (images : List Img) (n : ℕ) (f : Vec ℕ Global) (bytes : List ℕ) (fault : Fault) (answer : SetFault) → AreAccepted files images n → n < length files → f ≡ get_or files n f → bytes ≡ f.items
    → IsRefusal (shape_break bytes) fault → answer ≡ in_set n fault → IsSetRefusal (in_each shape_break 0 (contents files)) answer
refused files images n f bytes (Broken site) answer kept lt at same found is =
    subst (λ (a : SetFault). IsSetRefusal (in_each shape_break 0 (contents files)) a) (sym is)
    (sym (step files images n f kept lt at)
    ∙ ap (λ (o : Option Site). option_or {T = Break} (option_map {T = Site} {U = Break} (in_image n) o) (in_each shape_break (n + 1) (contents (drop (n + 1) files)))) (ap shape_break (sym same) ∙ found))
refused files images n f bytes Memory answer kept lt at same found is = subst (λ (a : SetFault). IsSetRefusal (in_each shape_break 0 (contents files)) a) (sym is) tt
