-- Where the entries of a table stand, and numbers among the fields that stand at a place.
use Rattle.std.proofs.Common.{◌≡◌, ◌<◌, ℕ, ◌+◌, ◌*◌, ◌^◌, Some, List, [], ◌∷◌, ◌++◌, take, drop, length, get_or, All, refl, sym, ap, ap₂, ◌∙◌, arith, append_assoc}
use Rattle.std.specs.List.{flat_map, enumerate_from, sum_by}
use Rattle.std.proofs.lemmas.List.{take-append-drop, drop_at, at_drop_more, length-take-le}
use Rattle.std.proofs.lemmas.List.Concat.{flat_map-append, length-flat_map}
use Rattle.std.proofs.lemmas.List.Elements.{All-head, All-tail, All-take}
use Rattle.std.proofs.lemmas.List.Sums.{sum_by-cons}
use Rattle.std.proofs.lemmas.List.FromFn.{length-enumerate_from, get_or-enumerate_from}
use Rattle.dsc_base.specs.Numbers.{number_at}
use Rattle.dsc_base.specs.Fields.{spelled, field_at, AreWhole}
use Rattle.dsc_base.specs.declared.fields.Field.{Field}
use Rattle.dsc_base.specs.declared.fields.Field.TheVariants.{U32, U64}
use Rattle.dsc_base.proofs.FieldLaws.{spelled-append, u32_spelled, u64_spelled}
use Rattle.dsc_base.proofs.NumberLaws.{number_at-drop}
use Rattle.cache_header.specs.Records.{Entry}

-- ---- pieces, one after another

-- piece k stands behind the pieces before it
pub piece_at : {X : Type 0} (f : X → List ℕ) (xs : List X) (k : ℕ) (d : X) (rest : List ℕ) → k < length xs
    → drop (sum_by (λ x. length (f x)) (take k xs)) (flat_map f xs ++ rest) ≡ f (get_or xs k d) ++ (flat_map f (drop (k + 1) xs) ++ rest)
piece_at {X} f xs k d rest lt =
    let split : flat_map f xs ≡ flat_map f (take k xs) ++ flat_map f (drop k xs) =
    ap (flat_map f) (sym (take-append-drop k xs)) ∙ flat_map-append f (take k xs) (drop k xs) in
    let whole : flat_map f xs ++ rest ≡ flat_map f (take k xs) ++ (flat_map f (drop k xs) ++ rest) =
    ap (λ (l : List ℕ). l ++ rest) split ∙ append_assoc (flat_map f (take k xs)) (flat_map f (drop k xs)) rest in
    let here : flat_map f (drop k xs) ≡ f (get_or xs k d) ++ flat_map f (drop (k + 1) xs) = at_drop_more (flat_map f) xs k d lt in
    ap (λ (l : List ℕ). drop (sum_by (λ x. length (f x)) (take k xs)) l) whole
    ∙ (drop_at (flat_map f (take k xs)) (flat_map f (drop k xs) ++ rest) (sum_by (λ x. length (f x)) (take k xs)) (length-flat_map f (take k xs))
    ∙ (ap (λ (l : List ℕ). l ++ rest) here ∙ append_assoc (f (get_or xs k d)) (flat_map f (drop (k + 1) xs)) rest))

-- numbers that are 32 each
pub sum_of_entries : {X : Type 0} (f : X → ℕ) (xs : List X) → All (λ x. f x ≡ 32) xs → sum_by f xs ≡ 32 * length xs
sum_of_entries f [] all = refl
sum_of_entries f (x ∷ xs) all =
    let here : f x ≡ 32 = All-head (λ y. f y ≡ 32) x xs all in
    let later : sum_by f xs ≡ 32 * length xs = sum_of_entries f xs (All-tail (λ y. f y ≡ 32) x xs all) in
    omega (arith, sum_by-cons f x xs, here, later)

-- ---- tables of entries of 32 bytes

pub spelled-flat_map : {X : Type 0} (f : X → List Field) (xs : List X) → spelled (flat_map f xs) ≡ flat_map (λ x. spelled (f x)) xs
unfolding spelled
spelled-flat_map f [] = refl
spelled-flat_map f (x ∷ xs) = spelled-append (f x) (flat_map f xs) ∙ ap (λ (l : List ℕ). spelled (f x) ++ l) (spelled-flat_map f xs)

pub length-table : {X : Type 0} (f : X → List Field) (xs : List X) → All (λ x. length (spelled (f x)) ≡ 32) xs → length (spelled (flat_map f xs)) ≡ 32 * length xs
length-table f xs all =
    ap (λ (l : List ℕ). length l) (spelled-flat_map f xs) ∙ (length-flat_map (λ x. spelled (f x)) xs ∙ sum_of_entries (λ x. length (spelled (f x))) xs all)

pub entry_at : {X : Type 0} (f : X → List Field) (xs : List X) (k : ℕ) (d : X) (rest : List ℕ) → All (λ x. length (spelled (f x)) ≡ 32) xs → k < length xs
    → (after : List ℕ) × (drop (32 * k) (spelled (flat_map f xs) ++ rest) ≡ spelled (f (get_or xs k d)) ++ after)
entry_at {X} f xs k d rest all lt =
    let g : X → List ℕ = λ x. spelled (f x) in
    let place : sum_by (λ x. length (spelled (f x))) (take k xs) ≡ 32 * k =
    sum_of_entries (λ x. length (spelled (f x))) (take k xs) (All-take (λ x. length (spelled (f x)) ≡ 32) k xs all)
    ∙ ap (λ (n : ℕ). 32 * n) (length-take-le k xs (omega arith)) in (
      flat_map g (drop (k + 1) xs) ++ rest,
      ap₂ (λ (n : ℕ) (l : List ℕ). drop n (l ++ rest)) (sym place) (spelled-flat_map f xs) ∙ piece_at g xs k d rest lt,
    )

-- ---- tables with an entry for each image, by its number

pub numbered : (images : List Entry) (k : ℕ) (d : Entry) → k < length images → get_or (enumerate_from 0 images) k (0, d) ≡ (k, get_or images k d)
numbered images k d lt =
    let first : 0 + k ≡ k = omega arith in
    get_or-enumerate_from 0 images k (0, d) lt ∙ ap (λ (n : ℕ). let p : ℕ × Entry = (n, get_or images k d) in p) first

pub image_entry : (f : ℕ × Entry → List Field) (images : List Entry) (k : ℕ) (d : Entry) (rest : List ℕ) → All (λ p. length (spelled (f p)) ≡ 32) (enumerate_from 0 images) → k < length images
    → (after : List ℕ) × (drop (32 * k) (spelled (flat_map f (enumerate_from 0 images)) ++ rest) ≡ spelled (f (k, get_or images k d)) ++ after)
image_entry f images k d rest all lt =
    let found : (after : List ℕ) × (drop (32 * k) (spelled (flat_map f (enumerate_from 0 images)) ++ rest) ≡ spelled (f (get_or (enumerate_from 0 images) k (0, d))) ++ after) =
    entry_at f (enumerate_from 0 images) k (0, d) rest all (omega (arith, length-enumerate_from 0 images)) in
    (found.0, found.1 ∙ ap (λ (p : ℕ × Entry). spelled (f p) ++ found.0) (numbered images k d lt))

-- ---- numbers of the fields that stand at a place

pub u32_there : (fs : List Field) (c : List ℕ) (at i v : ℕ) (after : List ℕ) → AreWhole fs → drop at c ≡ spelled fs ++ after → field_at fs i ≡ Some (U32 v) → v < 2 ^ 32
    → number_at 4 c (at + i) ≡ v
u32_there fs c at i v after whole there found fits =
    sym (number_at-drop 4 at c i) ∙ (ap (λ (l : List ℕ). number_at 4 l i) there ∙ u32_spelled fs i v after whole found fits)

pub u64_there : (fs : List Field) (c : List ℕ) (at i v : ℕ) (after : List ℕ) → AreWhole fs → drop at c ≡ spelled fs ++ after → field_at fs i ≡ Some (U64 v) → v < 2 ^ 64
    → number_at 8 c (at + i) ≡ v
u64_there fs c at i v after whole there found fits =
    sym (number_at-drop 8 at c i) ∙ (ap (λ (l : List ℕ). number_at 8 l i) there ∙ u64_spelled fs i v after whole found fits)
