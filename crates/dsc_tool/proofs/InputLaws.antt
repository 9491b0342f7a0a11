-- Reading one more input behind those that were read.
use Rattle.std.proofs.Common.{◌≡◌, ◌<◌, ◌≤◌, ◌+◌, ◌++◌, ℕ, List, [], ◌∷◌, length, take, get_or, Option, Some, None, sym, ap, ◌∙◌, subst, inl, inr, arith}
use Rattle.std.specs.Prelude.{All, Vec}
use Rattle.std.specs.declared.alloc.Global.{Global}
use Rattle.std.proofs.Math.Nat.{eq-or-lt_of_le}
use Rattle.std.proofs.lemmas.List.{get_or_default, get_or-map, length-map, map-append}
use Rattle.std.proofs.lemmas.List.Elements.{all_zip_more, length_all_zip, All-push}
use Rattle.std.proofs.lemmas.List.Sums.{sum_by_push}
use Rattle.dsc_base.specs.Outside.{Files, HasFile, Rose}
use Rattle.dsc_base.specs.declared.fault.Break.{Break}
use Rattle.load_model.specs.Phases.{contents}
use Rattle.dsc_tool.specs.declared.stop.Stop.{Stop}
use Rattle.dsc_tool.specs.declared.stop.Stop.TheVariants.{BadWords, Unread, Refused, Flawed, NoImage, Memory}
use Rattle.dsc_tool.specs.Inputs.{AreRead, IsTooLarge, FileCause, IsReadingStop, FilesCause, total}
use Rattle.dsc_tool.specs.Stops.{file_limit, input_limit}

-- the item at an index, under another name
pub same_item : (names : List (List ℕ)) (i : ℕ) (item name : List ℕ) → name ≡ item → item ≡ get_or names i item → name ≡ get_or names i name
same_item names i item name same is = same ∙ (is ∙ ap (λ (d : List ℕ). get_or names i d) (sym same))

pub total_more : (bytes : List (List ℕ)) (file : List ℕ) → total (bytes ++ (file ∷ [])) ≡ total bytes + length file
total_more bytes file = sum_by_push (λ (f : List ℕ). length f) bytes file

pub read_more : (files : Option Files) (names bytes : List (List ℕ)) (i : ℕ) (name file : List ℕ) → i < length names → name ≡ get_or names i name
    → AreRead files (take i names) bytes → HasFile files name file → length file ≤ file_limit → total bytes + length file ≤ input_limit
    → AreRead files (take (i + 1) names) (bytes ++ (file ∷ []))
read_more files names bytes i name file inside is read here small fits =
    record {
      there = all_zip_more (HasFile files) names bytes i name file inside is read.there here;
      within = All-push (λ (f : List ℕ). length f ≤ file_limit) bytes file read.within small;
      together = subst (λ (n : ℕ). n ≤ input_limit) (sym (total_more bytes file)) fits;
    }

pub contents_more : (files after : List (Vec ℕ Global)) (file : Vec ℕ Global) → after ≡ files ++ (file ∷ []) → contents after ≡ contents files ++ (file.items ∷ [])
contents_more files after file pushed = ap contents pushed ∙ map-append (λ (f : Vec ℕ Global). f.items) files (file ∷ [])

-- a count that rose has risen since any earlier moment
pub rose_since : (old since new : ℕ) → old ≤ since → Rose since new → Rose old new
rose_since old since new le (inl lt) = inl (omega arith)
rose_since old since new le (inr ends) =
    elim (eq-or-lt_of_le le) [ inl same ↦ inr (same ∙ ends.0, ends.1) | inr lt ↦ inl (let e = ends.0 in let f = ends.1 in omega arith) ]

too_large_since : (files : Option Files) (old since new : ℕ) (name : List ℕ) (file : ℕ) (b : Break) → old ≤ since → IsTooLarge files since new name file b → IsTooLarge files old new name file b
too_large_since None old since new name file b le (is, rose) = (is, rose_since old since new le rose)
too_large_since (Some m) old since new name file b le told = told

pub cause_since : (files : Option Files) (old since new first : ℕ) (name : List ℕ) (file before : ℕ) (stop : Stop) → old ≤ since → FileCause files since new first name file before stop
    → FileCause files old new first name file before stop
cause_since files old since new first name file before BadWords le never = never
cause_since files old since new first name file before (Unread i) le (is, inl lacks) = (is, inl lacks)
cause_since files old since new first name file before (Unread i) le (is, inr rose) = (is, inr (rose_since old since new le rose))
cause_since files old since new first name file before (Refused b) le (inl large) = inl (too_large_since files old since new name file b le large)
cause_since files old since new first name file before (Refused b) le (inr large) = inr large
cause_since files old since new first name file before (Flawed f) le never = never
cause_since files old since new first name file before NoImage le never = never
cause_since files old since new first name file before Memory le any = any

-- why one file isn't taken, as why the reading ends
reading_due : (files : Option Files) (old new first : ℕ) (names : List (List ℕ)) (stop : Stop) → IsReadingStop files old new first names stop
    → FilesCause files old new first names stop
reading_due files old new first names BadWords is = is.cause
reading_due files old new first names (Unread input) is = is
reading_due files old new first names (Refused b) is = is
reading_due files old new first names (Flawed f) is = is.cause
reading_due files old new first names NoImage is = is.cause
reading_due files old new first names Memory is = tt

pub stopped_at : (files : Option Files) (old since new first : ℕ) (names : List (List ℕ)) (i : ℕ) (name : List ℕ) (earlier : List (List ℕ)) (before : ℕ) (stop : Stop) → i < length names
    → name ≡ get_or names i name → AreRead files (take i names) earlier → before ≡ total earlier → old ≤ since → FileCause files since new first name i before stop
    → FilesCause files old new first names stop
stopped_at files old since new first names i name earlier before stop inside is read size le cause =
    let here : name ≡ get_or names i [] = is ∙ get_or_default names i name [] inside in
    reading_due files old new first names stop (record {
      file = i;
      inside = inside;
      earlier = earlier;
      read = read;
      cause = subst (λ (n : List ℕ). FileCause files old new first n i (total earlier) stop) here
          (subst (λ (b : ℕ). FileCause files old new first name i b stop) size (cause_since files old since new first name i before stop le cause));
    })

-- as many files as names
pub read_count : (files : Option Files) (names : List (List ℕ)) (inputs : List (Vec ℕ Global)) → AreRead files names (contents inputs) → length inputs ≡ length names
read_count files names inputs read =
    sym (length-map inputs (λ (f : Vec ℕ Global). f.items)) ∙ sym (length_all_zip (HasFile files) names (contents inputs) read.there)
