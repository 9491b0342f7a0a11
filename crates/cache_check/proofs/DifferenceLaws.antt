-- What is compared at one number.
use Rattle.std.proofs.Common.{◌≡◌, ◌<◌, ℕ, Option, Some, List, length, get_or, sym, ap, ap₂, ◌∙◌}
use Rattle.std.specs.Prelude.{slice_get}
use Rattle.std.proofs.lemmas.Option.{slice_get-get_or}
use Rattle.macho_image.specs.Records.{Img}
use Rattle.cache_header.specs.Records.{Entry}
use Rattle.cache_check.specs.declared.verdict.Difference.{Difference}
use Rattle.cache_check.specs.Differences.{path_of, path_difference}

-- what stands at a number
pub there : {X : Type 0} (xs : List X) (n : ℕ) (x : X) → n < length xs → x ≡ get_or xs n x → slice_get xs n ≡ Some x
there {X = X} xs n x lt at = slice_get-get_or xs n x lt ∙ ap (λ (y : X). Some y) (sym at)

pub path_at : (entries : List Entry) (files : List Img) (k : ℕ) (e : Entry) (file : Img) (found : Option Difference) → k < length entries → k < length files → e ≡ get_or entries k e → file ≡ get_or files k file
    → found ≡ path_of k (Some e) (Some file) → found ≡ path_difference entries files k
unfolding path_difference
path_at entries files k e file found in_entries in_files at_entry at_file is =
    is ∙ ap₂ (λ (a : Option Entry) (b : Option Img). path_of k a b) (sym (there entries k e in_entries at_entry)) (sym (there files k file in_files at_file))
