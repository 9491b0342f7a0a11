-- Files that are made one after the other.
use Rattle.std.proofs.Common.{◌≡◌, ◌≤◌, ◌<◌, ◌+◌, ◌-◌, ℕ, zero, suc, List, [], ◌∷◌, ◌++◌, length, map, refl, sym, ap, ap₂, ◌∙◌, arith, Vec, Global}
use Rattle.std.proofs.lemmas.List.{length-map, map-append}
use Rattle.rand_pcg.specs.Lcg.{Lcg}
use Rattle.dsc_gen.specs.declared.shape.Shape.{Shape}
use Rattle.dsc_gen.specs.Draws.{drawn, behind, seeded}
use Rattle.dsc_gen.specs.Files.{file_of, files_from, generated}
use Rattle.dsc_gen.proofs.ListingLaws.{made_more, made_all}

abbrev bytes_of : List (Vec ℕ Global) → List (List ℕ)
bytes_of files = map (λ (file : Vec ℕ Global). file.items) files

pub files_more : (shape : Shape) (n k : ℕ) (g next : Lcg) (files new : List (Vec ℕ Global)) (file : Vec ℕ Global) (whole : List (List ℕ)) → k < n
    → bytes_of files ++ files_from shape k (n - k) g ≡ whole → file.items ≡ file_of shape k (drawn shape g) → next ≡ behind shape g → new ≡ files ++ file ∷ []
    → bytes_of new ++ files_from shape (k + 1) (n - (k + 1)) next ≡ whole
unfolding files_from
files_more shape n k g next files new file whole lt so_far file_is next_is is =
    let left : n - k ≡ suc (n - (k + 1)) = omega arith in
    let one : suc k ≡ k + 1 = omega arith in
    made_more (bytes_of files) (bytes_of new) (file.items ∷ []) (files_from shape k (n - k) g) (files_from shape (k + 1) (n - (k + 1)) next) whole so_far
    (ap (λ (m : ℕ). files_from shape k m g) left
    ∙ (ap (λ (bytes : List ℕ). bytes ∷ files_from shape (suc k) (n - (k + 1)) (behind shape g)) (sym file_is)
    ∙ ap₂ (λ (i : ℕ) (h : Lcg). file.items ∷ files_from shape i (n - (k + 1)) h) one (sym next_is)))
    (ap bytes_of is ∙ map-append (λ (v : Vec ℕ Global). v.items) files (file ∷ []))

pub files_all : (seed : ℕ) (shape : Shape) (n k : ℕ) (g : Lcg) (files : List (Vec ℕ Global)) → n ≤ k → bytes_of files ++ files_from shape k (n - k) g ≡ files_from shape 0 n (seeded seed) → bytes_of files ≡ generated seed n shape
unfolding files_from generated
files_all seed shape n k g files le so_far = let none : n - k ≡ 0 = omega arith in made_all (bytes_of files) (files_from shape k (n - k) g) _ so_far (ap (λ (m : ℕ). files_from shape k m g) none)

-- as many as are wanted
length-files_from : (shape : Shape) (k n : ℕ) (g : Lcg) → length (files_from shape k n g) ≡ n
unfolding files_from
length-files_from shape k zero g = refl
length-files_from shape k (suc n) g = ap suc (length-files_from shape (suc k) n (behind shape g))

pub length-generated : (seed n : ℕ) (shape : Shape) → length (generated seed n shape) ≡ n
unfolding generated
length-generated seed n shape = length-files_from shape 0 n (seeded seed)

pub files_count : (seed : ℕ) (shape : Shape) (n : ℕ) (files : List (Vec ℕ Global)) → bytes_of files ≡ generated seed n shape → length files ≡ n
files_count seed shape n files are =
    sym (length-map files (λ (file : Vec ℕ Global). file.items)) ∙ (ap (λ (fs : List (List ℕ)). length fs) are ∙ length-generated seed n shape)
