-- What the reading of told inputs comes to.
use Rattle.std.proofs.Common.{◌≡◌, ◌<◌, ◌≤◌, ◌+◌, ◌++◌, ◌⊎◌, ℕ, suc, List, [], ◌∷◌, length, take, drop, get_or, Option, Some, None, Result, Ok, Err, Bool, true, false, nat_lt, if◌then◌else◌, refl, ap, sym, ◌∙◌, inl, inr, arith, append_assoc, drop-cons}
use Rattle.std.specs.FinMap.{get}
use Rattle.std.specs.List.{AllZip, AllByRecursion}
use Rattle.std.proofs.lemmas.List.{append-nil, take-append-drop, length-take-le}
use Rattle.std.proofs.lemmas.List.Elements.{length_all_zip, recursion_from_All}
use Rattle.std.proofs.lemmas.List.Sums.{sum_by-cons}
use Rattle.dsc_base.specs.Outside.{Files, HasFile, Rose}
use Rattle.dsc_base.specs.declared.fault.Break.{Break}
use Rattle.dsc_tool.specs.declared.stop.Stop.{Stop}
use Rattle.dsc_tool.specs.declared.stop.Stop.TheVariants.{Unread, Refused, Flawed}
use Rattle.dsc_base.specs.declared.fault.Finding.{Finding}
use Rattle.dsc_tool.specs.Inputs.{AreRead, CacheIsRead, Contents, InputsAreRead, IsReadingStop, Names, ReadCause, cache_count, total}
use Rattle.dsc_tool.specs.Output.{behind_cache, cache_end, files_end, found_cache, inputs_end, next_end, read_end}
use Rattle.dsc_tool.specs.Stops.{file_limit, input_limit, cache_limit, too_large, input_too_large, cache_too_large}
use Rattle.dsc_tool.proofs.InputLaws.{total_more}

abbrev Reading : Type 0
Reading = Result (List (List ℕ)) Stop

is_over : (limit n : ℕ) → limit < n → nat_lt limit n ≡ true
is_over limit n lt = grind arith

not_over : (limit n : ℕ) → n ≤ limit → nat_lt limit n ≡ false
not_over limit n le = grind arith

-- a file behind others, by its size
by_size : List (List ℕ) → List ℕ → Bool → Bool → Reading
by_size earlier file large over =
    if large then Err (Refused (too_large (length earlier))) else (if over then Err (Refused (input_too_large (length earlier))) else Ok (earlier ++ (file ∷ [])))

sized : (first : ℕ) (earlier : List (List ℕ)) (found : Option (List ℕ)) (file : List ℕ) (large over : Bool) → found ≡ Some file → nat_lt file_limit (length file) ≡ large
    → nat_lt input_limit (total earlier + length file) ≡ over → next_end first earlier found ≡ by_size earlier file large over
unfolding by_size
sized first earlier found file large over is one two =
    ap (next_end first earlier) is
    ∙ (ap (λ (b : Bool). by_size earlier file b (nat_lt input_limit (total earlier + length file))) one
    ∙ ap (λ (b : Bool). by_size earlier file large b) two)

next_read : (first : ℕ) (earlier : List (List ℕ)) (found : Option (List ℕ)) (file : List ℕ) → found ≡ Some file → length file ≤ file_limit → total earlier + length file ≤ input_limit
    → next_end first earlier found ≡ Ok (earlier ++ (file ∷ []))
unfolding by_size
next_read first earlier found file is small fits =
    sized first earlier found file false false is (not_over file_limit (length file) small) (not_over input_limit (total earlier + length file) fits)

-- reading goes on behind files that are read
read_front : (files : Files) (first : ℕ) (names bytes earlier rest : List (List ℕ)) → AllZip (HasFile (Some files)) names bytes → AllByRecursion (λ (f : List ℕ). length f ≤ file_limit) bytes
    → total earlier + total bytes ≤ input_limit → read_end files first (names ++ rest) (Ok earlier) ≡ read_end files first rest (Ok (earlier ++ bytes))
read_front files first [] [] earlier rest there within fits = ap (λ (b : List (List ℕ)). read_end files first rest (Ok b)) (sym (append-nil earlier))
read_front files first [] (file ∷ bytes) earlier rest there within fits = absurd there
read_front files first (name ∷ names) [] earlier rest there within fits = absurd there
read_front files first (name ∷ names) (file ∷ bytes) earlier rest there within fits =
    let both : total (file ∷ bytes) ≡ length file + total bytes = sum_by-cons (λ (f : List ℕ). length f) file bytes in
    let pushed : total (earlier ++ (file ∷ [])) ≡ total earlier + length file = total_more earlier file in
    ap (λ (r : Reading). read_end files first (names ++ rest) r) (next_read first earlier (get files name) file there.0 within.0 (omega (arith, both, fits)))
    ∙ (read_front files first names bytes (earlier ++ (file ∷ [])) rest there.1 within.1 (omega (arith, both, pushed, fits))
    ∙ ap (λ (b : List (List ℕ)). read_end files first rest (Ok b)) (append_assoc earlier (file ∷ []) bytes))

from_none : (n : ℕ) → n ≤ input_limit → 0 + n ≤ input_limit
from_none n fits = omega arith

-- files that are read are what the reading comes to
pub read_all : (files : Files) (first : ℕ) (names bytes : List (List ℕ)) → AreRead (Some files) names bytes → read_end files first names (Ok []) ≡ Ok bytes
read_all files first names bytes read =
    ap (λ (n : List (List ℕ)). read_end files first n (Ok [])) (sym (append-nil names))
    ∙ read_front files first names bytes [] [] read.there (recursion_from_All (λ (f : List ℕ). length f ≤ file_limit) bytes read.within) (from_none (total bytes) read.together)

halted : (files : Files) (first : ℕ) (names : List (List ℕ)) (stop : Stop) → read_end files first names (Err stop) ≡ Err stop
halted files first [] stop = refl
halted files first (name ∷ names) stop = refl

-- an input that isn't taken is where the reading ends
ends_at : (files : Files) (first : ℕ) (names : List (List ℕ)) (i : ℕ) (earlier : List (List ℕ)) (stop : Stop) → i < length names → AreRead (Some files) (take i names) earlier
    → next_end first earlier (get files (get_or names i [])) ≡ Err stop → read_end files first names (Ok []) ≡ Err stop
ends_at files first names i earlier stop inside read next =
    let split : take i names ++ (get_or names i [] ∷ drop (suc i) names) ≡ names =
    ap (λ (l : List (List ℕ)). take i names ++ l) (sym (drop-cons names i [] inside)) ∙ take-append-drop i names in
    ap (λ (n : List (List ℕ)). read_end files first n (Ok [])) (sym split)
    ∙ (read_front files first (take i names) earlier [] (get_or names i [] ∷ drop (suc i) names) read.there
    (recursion_from_All (λ (f : List ℕ). length f ≤ file_limit) earlier read.within) (from_none (total earlier) read.together)
    ∙ (ap (λ (r : Reading). read_end files first (drop (suc i) names) r) next ∙ halted files first (drop (suc i) names) stop))

-- as many files as there are inputs before it
numbered : (files : Files) (names : List (List ℕ)) (i : ℕ) (earlier : List (List ℕ)) → i < length names → AreRead (Some files) (take i names) earlier → length earlier ≡ i
numbered files names i earlier inside read =
    sym (length_all_zip (HasFile (Some files)) (take i names) earlier read.there) ∙ length-take-le i names (omega (arith, inside))

-- told inputs of which one lacks: either the reading comes to that, or a get failed
unread_end : (files : Files) (old new first : ℕ) (names : List (List ℕ)) (input : ℕ) → IsReadingStop (Some files) old new first names (Unread input)
    → Rose old new ⊎ (read_end files first names (Ok []) ≡ Err (Unread input))
unread_end files old new first names input is =
    elim is.cause.1 [
      | inl lacks ↦ inr (ends_at files first names is.file is.earlier (Unread input) is.inside is.read
          (ap (next_end first is.earlier) lacks ∙ ap (λ (i : ℕ). Err (Unread (first + i))) (numbered files names is.file is.earlier is.inside is.read) ∙ ap (λ (i : ℕ). Err (Unread i)) (sym is.cause.0)))
      | inr rose ↦ inl rose
    ]

refused_end : (files : Files) (old new first : ℕ) (names : List (List ℕ)) (b : Break) → IsReadingStop (Some files) old new first names (Refused b)
    → read_end files first names (Ok []) ≡ Err (Refused b)
unfolding by_size
refused_end files old new first names b is =
    let found : Option (List ℕ) = get files (get_or names is.file []) in
    let count = numbered files names is.file is.earlier is.inside is.read in
    ends_at files first names is.file is.earlier (Refused b) is.inside is.read
    (elim is.cause [
      | inl large ↦ sized first is.earlier found large.1.0 true (nat_lt input_limit (total is.earlier + length large.1.0)) large.1.1 (is_over file_limit (length large.1.0) large.1.2) refl
          ∙ ap (λ (f : Break). Err (Refused f)) (ap too_large count ∙ sym large.0)
      | inr over ↦ sized first is.earlier found over.1.0 false true over.1.1 (not_over file_limit (length over.1.0) over.1.2) (is_over input_limit (total is.earlier + length over.1.0) over.1.3)
          ∙ ap (λ (f : Break). Err (Refused f)) (ap input_too_large count ∙ sym over.0)
    ])

-- ---- the cache, and the files behind it

cache_found : (bytes : List ℕ) (large : Bool) → nat_lt cache_limit (length bytes) ≡ large
    → found_cache (Some bytes) ≡ (if large then Err (Flawed cache_too_large) else Ok (Some bytes))
cache_found bytes large is = ap (λ (b : Bool). if b then Err (Flawed cache_too_large) else Ok (Some bytes)) is

cache_read : (files : Files) (name bytes : Option (List ℕ)) → CacheIsRead (Some files) name bytes → cache_end files name ≡ Ok bytes
cache_read files None None read = refl
cache_read files None (Some bytes) read = absurd read
cache_read files (Some name) None read = absurd read
cache_read files (Some name) (Some bytes) read = ap found_cache read.0 ∙ cache_found bytes false (not_over cache_limit (length bytes) read.1)

behind : (files : Files) (names : Names) (cache : Option (List ℕ)) (read : Result (List (List ℕ)) Stop) → CacheIsRead (Some files) names.cache cache
    → read_end files (cache_count names.cache) names.files (Ok []) ≡ read → inputs_end files names ≡ files_end cache read
behind files names cache read here is = ap (behind_cache files names) (cache_read files names.cache cache here) ∙ ap (files_end cache) is

pub inputs_read : (files : Files) (names : Names) (contents : Contents) → InputsAreRead (Some files) names contents → inputs_end files names ≡ Ok contents
inputs_read files names contents read =
    behind files names contents.cache (Ok contents.files) read.cache (read_all files (cache_count names.cache) names.files contents.files read.rest)

at_cache : (files : Files) (names : Names) (name : List ℕ) (stop : Stop) → names.cache ≡ Some name → found_cache (get files name) ≡ Err stop → inputs_end files names ≡ Err stop
at_cache files names name stop is ends = ap (behind_cache files names) (ap (cache_end files) is ∙ ends)

-- an input isn't read since the files lack it, or since reading failed
pub inputs_unread : (files : Files) (old new : ℕ) (names : Names) (input : ℕ) → ReadCause (Some files) old new names (Unread input)
    → Rose old new ⊎ (inputs_end files names ≡ Err (Unread input))
inputs_unread files old new names input (inl (name, is, (number, inl lacks))) =
    inr (at_cache files names name (Unread input) is (ap found_cache lacks ∙ ap (λ (i : ℕ). Err (Unread i)) (sym number)))
inputs_unread files old new names input (inl (name, is, (number, inr rose))) = inl rose
inputs_unread files old new names input (inr (cache, read, cause)) = elim (unread_end files old new (cache_count names.cache) names.files input cause) [
  | inl rose ↦ inl rose
  | inr ends ↦ inr (behind files names cache (Err (Unread input)) read ends)
]

pub inputs_refused : (files : Files) (old new : ℕ) (names : Names) (b : Break) → ReadCause (Some files) old new names (Refused b) → inputs_end files names ≡ Err (Refused b)
inputs_refused files old new names b (inl (name, is, never)) = absurd never
inputs_refused files old new names b (inr (cache, read, cause)) =
    behind files names cache (Err (Refused b)) read (refused_end files old new (cache_count names.cache) names.files b cause)

pub inputs_flawed : (files : Files) (old new : ℕ) (names : Names) (f : Finding) → ReadCause (Some files) old new names (Flawed f) → inputs_end files names ≡ Err (Flawed f)
inputs_flawed files old new names f (inl (name, is, (large, (bytes, there, over)))) =
    at_cache files names name (Flawed f) is
    (ap found_cache there ∙ (cache_found bytes true (is_over cache_limit (length bytes) over) ∙ ap (λ (g : Finding). Err (Flawed g)) (sym large)))
inputs_flawed files old new names f (inr (cache, read, never)) = absurd never

-- the number of an input that isn't read is below the number of inputs
pub unread_inside : (files : Option Files) (old new : ℕ) (names : Names) (input : ℕ) → ReadCause files old new names (Unread input) → input < cache_count names.cache + length names.files
unread_inside files old new names input (inl (name, is, cause)) =
    let one : cache_count names.cache ≡ 1 = ap cache_count is in
    let number : input ≡ 0 = cause.0 in
    omega (arith, one, number)
unread_inside files old new names input (inr (cache, read, cause)) =
    let inside : cause.file < length names.files = cause.inside in
    let number : input ≡ cache_count names.cache + cause.file = cause.cause.0 in
    omega (arith, inside, number)
