-- Files that were read.
use Rattle.std.proofs.Common.{◌≡◌, ◌≤◌, ◌<◌, ℕ, ◌+◌, None, List, [], ◌∷◌, ◌++◌, Vec, Global, All, length, map, take, get_or, sym, ap, ◌∙◌, subst, arith}
use Rattle.std.proofs.lemmas.List.{length-map, map-append, take_more}
use Rattle.std.proofs.lemmas.List.Elements.{All-nil, All-cons, All-append}
use Rattle.macho_image.specs.Records.{Img}
use Rattle.macho_image.specs.Macho.{image_of}
use Rattle.dep_closure.specs.Linked.{links_of}
use Rattle.prebind.specs.Sets.{lists_of, image_set}
use Rattle.load_model.specs.Phases.{contents, dylib_of, images_of, files_break}
use Rattle.load_model.specs.Placed.{AreAllPlaced}
use Rattle.load_model.specs.declared.set.FileSet.{FileSet}
use Rattle.load_model.proofs.FilesLaws.{few_files}
use Rattle.cache_check.specs.Steps.Files.{HaveTries, AreRead}
use Rattle.cache_check.proofs.TrieLaws.{file_tries}

pub are_read : (files : List (Vec ℕ Global)) (f : FileSet) → length files ≤ 4096 → f.images.items ≡ images_of (contents files) → f.streams.items ≡ map lists_of (images_of (contents files)) → f.links ≡ links_of (images_of (contents files))
    → AreAllPlaced (image_set (images_of (contents files))) f.words.items → files_break (contents files) ≡ None → AreRead f
are_read files f few images streams links words none =
    let count : length (images_of (contents files)) ≡ length (contents files) = length-map (contents files) (λ (file : List ℕ). image_of (dylib_of file) 0) in
    let low : length (images_of (contents files)) ≤ 4096 = omega (arith, count, few_files files few) in
    record {
      few = subst (λ (is : List Img). length is ≤ 4096) (sym images) low;
      streams = streams ∙ ap (λ (is : List Img). map lists_of is) (sym images);
      links = links ∙ ap (λ (is : List Img). links_of is) (sym images);
      words = subst (λ (is : List Img). AreAllPlaced (image_set is) f.words.items) (sym images) words;
      tries = subst HaveTries (sym images) (file_tries (contents files) low none);
    }

-- files of which one more is known to be bytes
pub bytes_more : (files : List (Vec ℕ Global)) (n : ℕ) (f : Vec ℕ Global) (bytes : List ℕ) → All (λ g. All (λ b. b < 256) g) (contents (take n files)) → n < length files → f ≡ get_or files n f → bytes ≡ f.items → All (λ b. b < 256) bytes
    → All (λ g. All (λ b. b < 256) g) (contents (take (n + 1) files))
bytes_more files n f bytes before lt at is own =
    let AreBytes : List ℕ → Type 0 = λ g. All (λ (b : ℕ). b < 256) g in
    let items = λ (g : Vec ℕ Global). g.items in
    let grown : contents (take (n + 1) files) ≡ contents (take n files) ++ bytes ∷ [] =
    ap contents (take_more files n f lt ∙ ap (λ (g : Vec ℕ Global). take n files ++ g ∷ []) (sym at))
    ∙ (map-append items (take n files) (f ∷ []) ∙ ap (λ (b : List ℕ). contents (take n files) ++ b ∷ []) (sym is)) in
    subst (λ (fs : List (List ℕ)). All AreBytes fs) (sym grown) (All-append AreBytes (contents (take n files)) (bytes ∷ []) before (All-cons AreBytes bytes [] own (All-nil AreBytes)))
