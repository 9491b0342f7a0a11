-- Files that are read and linked: what makes the set sound, and which of the phases' breaks comes first.
use Rattle.std.proofs.Common.{◌≡◌, ◌≤◌, ℕ, Option, None, List, map, length, Vec, Global, sym, ap, ap₂, ◌∙◌, subst, arith}
use Rattle.std.specs.Option.{option_or}
use Rattle.std.proofs.lemmas.List.{length-map}
use Rattle.dsc_base.specs.declared.fault.Break.{Break}
use Rattle.dsc_base.specs.declared.fault.SetFault.{SetFault}
use Rattle.dsc_base.specs.declared.fault.SetFault.TheVariants.{Broken, Memory}
use Rattle.dsc_base.specs.Refusals.{in_each, IsSetRefusal}
use Rattle.macho_image.specs.Records.{Img}
use Rattle.macho_image.specs.Macho.{image_of}
use Rattle.dep_closure.specs.Linked.{Linked, links_of}
use Rattle.dep_closure.specs.Breaks.{link_break}
use Rattle.prebind.specs.Sets.{StreamLists, ImageSet, lists_of, image_set, IsSoundSet}
use Rattle.prebind.proofs.SetLaws.{sound_set}
use Rattle.load_model.specs.Phases.{contents, dylib_of, images_of, shape_break, linkedits_from, symbols_break, images_break, files_break}
use Rattle.load_model.proofs.LinkeditLaws.{streams_unbroken}

pub few_files : (files : List (Vec ℕ Global)) → length files ≤ 4096 → length (contents files) ≤ 4096
few_files files few = let long : length (contents files) ≡ length files = length-map files (λ (f : Vec ℕ Global). f.items) in omega (arith, few, long)

-- the set as it is held
abbrev pub held : List Img → List StreamLists → Linked → ImageSet
held images streams links = record { images = images; streams = streams; links = links }

pub held_is : (files : List (List ℕ)) (images : List Img) (streams : List StreamLists) (links : Linked) → images ≡ images_of files → streams ≡ map lists_of images → links ≡ links_of images → held images streams links ≡ image_set (images_of files)
unfolding image_set
held_is files images streams links images_are streams_are links_are =
    ap₂ (λ (s : List StreamLists) (l : Linked). held images s l) streams_are links_are
    ∙ ap (λ (is : List Img). held is (map lists_of is) (links_of is)) images_are

pub held_sound : (files : List (List ℕ)) (images : List Img) (streams : List StreamLists) (links : Linked) → length files ≤ 4096 → images ≡ images_of files → streams ≡ map lists_of images → links ≡ links_of images
    → linkedits_from 0 0 0 images ≡ None → link_break images ≡ None → IsSoundSet (held images streams links)
held_sound files images streams links few images_are streams_are links_are read linked =
    let same : image_set (images_of files) ≡ held images streams links = sym (held_is files images streams links images_are streams_are links_are) in
    let here : image_set images ≡ held images streams links = ap image_set images_are ∙ same in
    subst IsSoundSet here
    (sound_set images (let long : length images ≡ length files = ap (λ (l : List Img). length l) images_are ∙ length-map files (λ (f : List ℕ). image_of (dylib_of f) 0) in omega (arith, few, long)) (streams_unbroken 0 0 0 images read) linked)

-- ---- the phases, one after the other

-- those behind the first one, where this one breaks nothing
rest_is : (files : List (List ℕ)) → in_each shape_break 0 files ≡ None → files_break files ≡ images_break (images_of files)
unfolding files_break
rest_is files none = ap (λ (o : Option Break). option_or o (images_break (images_of files))) none

after_linkedits : (images : List Img) → linkedits_from 0 0 0 images ≡ None → images_break images ≡ option_or (link_break images) (option_or (symbols_break (image_set images)) None)
unfolding images_break
after_linkedits images none = ap (λ (o : Option Break). option_or o (option_or (link_break images) (option_or (symbols_break (image_set images)) None))) none

pub shapes_refused : (files : List (List ℕ)) (fault : SetFault) → IsSetRefusal (in_each shape_break 0 files) fault → IsSetRefusal (files_break files) fault
unfolding files_break
shapes_refused files (Broken b) found = ap (λ (o : Option Break). option_or o (images_break (images_of files))) found
shapes_refused files Memory found = tt

pub linkedits_refused_in : (files : List (List ℕ)) (images : List Img) (fault : SetFault) → images ≡ images_of files → in_each shape_break 0 files ≡ None → IsSetRefusal (linkedits_from 0 0 0 images) fault → IsSetRefusal (files_break files) fault
unfolding images_break
linkedits_refused_in files images (Broken b) are none found =
    rest_is files none ∙ (sym (ap images_break are) ∙ ap (λ (o : Option Break). option_or o (option_or (link_break images) (option_or (symbols_break (image_set images)) None))) found)
linkedits_refused_in files images Memory are none found = tt

pub links_refused : (files : List (List ℕ)) (images : List Img) (fault : SetFault) → images ≡ images_of files → in_each shape_break 0 files ≡ None → linkedits_from 0 0 0 images ≡ None → IsSetRefusal (link_break images) fault → IsSetRefusal (files_break files) fault
links_refused files images (Broken b) are none read found =
    rest_is files none ∙ (sym (ap images_break are) ∙ (after_linkedits images read ∙ ap (λ (o : Option Break). option_or o (option_or (symbols_break (image_set images)) None)) found))
links_refused files images Memory are none read found = tt

after_links : (files : List (List ℕ)) (images : List Img) → images ≡ images_of files → in_each shape_break 0 files ≡ None → linkedits_from 0 0 0 images ≡ None → link_break images ≡ None → files_break files ≡ option_or (symbols_break (image_set images)) None
after_links files images are none read linked =
    rest_is files none ∙ (sym (ap images_break are) ∙ (after_linkedits images read ∙ ap (λ (o : Option Break). option_or o (option_or (symbols_break (image_set images)) None)) linked))

pub symbols_refused : (files : List (List ℕ)) (images : List Img) (streams : List StreamLists) (links : Linked) (fault : SetFault) → images ≡ images_of files → streams ≡ map lists_of images → links ≡ links_of images
    → in_each shape_break 0 files ≡ None → linkedits_from 0 0 0 images ≡ None → link_break images ≡ None → IsSetRefusal (symbols_break (held images streams links)) fault → IsSetRefusal (files_break files) fault
symbols_refused files images streams links (Broken b) are streams_are links_are none read linked found =
    let same : image_set images ≡ held images streams links = ap image_set are ∙ sym (held_is files images streams links are streams_are links_are) in
    after_links files images are none read linked ∙ ap (λ (o : Option Break). option_or o None) (ap symbols_break same ∙ found)
symbols_refused files images streams links Memory are streams_are links_are none read linked found = tt

pub files_none : (files : List (List ℕ)) (images : List Img) (streams : List StreamLists) (links : Linked) → images ≡ images_of files → streams ≡ map lists_of images → links ≡ links_of images
    → in_each shape_break 0 files ≡ None → linkedits_from 0 0 0 images ≡ None → link_break images ≡ None → symbols_break (held images streams links) ≡ None → files_break files ≡ None
files_none files images streams links are streams_are links_are none read linked found =
    let same : image_set images ≡ held images streams links = ap image_set are ∙ sym (held_is files images streams links are streams_are links_are) in
    after_links files images are none read linked ∙ ap (λ (o : Option Break). option_or o None) (ap symbols_break same ∙ found)
