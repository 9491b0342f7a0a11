-- Tables of fields, entry after entry: a loop that writes them, and each entry found at its place.
use Rattle.std.proofs.Common.{◌≡◌, ◌≤◌, ◌<◌, ℕ, ◌+◌, List, [], ◌∷◌, ◌++◌, take, length, get_or, refl, sym, ap, ap₂, ◌∙◌, arith}
use Rattle.std.specs.List.{flat_map, concat, enumerate_from}
use Rattle.std.proofs.lemmas.List.{append-nil, take_more, take_all}
use Rattle.std.proofs.lemmas.List.Concat.{concat_is, flat_map-append}
use Rattle.std.proofs.lemmas.List.FromFn.{length-enumerate_from, get_or-enumerate_from}
use Rattle.dsc_base.specs.Fields.{spelled}
use Rattle.dsc_base.specs.declared.fields.Field.{Field}
use Rattle.dsc_base.proofs.FieldLaws.{spelled-append}
use Rattle.cache_header.specs.Records.{Entry}

-- ---- a loop that writes a table

pub flat_map_take : {X A : Type 0} (f : X → List A) (xs : List X) (i : ℕ) (d : X) → i < length xs
    → flat_map f (take i xs) ++ f (get_or xs i d) ≡ flat_map f (take (i + 1) xs)
flat_map_take {A} f xs i d lt =
    ap (λ (l : List A). flat_map f (take i xs) ++ l) (sym (append-nil (f (get_or xs i d))))
    ∙ (sym (flat_map-append f (take i xs) (get_or xs i d ∷ [])) ∙ ap (flat_map f) (sym (take_more xs i d lt)))

pub concat_take : (xs : List (List ℕ)) (i : ℕ) (d done : List ℕ) → i < length xs → done ≡ concat (take i xs) → done ++ get_or xs i d ≡ concat (take (i + 1) xs)
concat_take xs i d done lt so_far =
    ap (λ (l : List ℕ). l ++ get_or xs i d) (so_far ∙ concat_is (take i xs))
    ∙ (flat_map_take (λ x. x) xs i d lt ∙ sym (concat_is (take (i + 1) xs)))

pub spelled_start : [] ≡ spelled []
unfolding spelled
spelled_start = refl

pub spelled_take : {X : Type 0} (f : X → List Field) (xs : List X) (i : ℕ) (d : X) (done : List ℕ) → i < length xs → done ≡ spelled (flat_map f (take i xs))
    → done ++ spelled (f (get_or xs i d)) ≡ spelled (flat_map f (take (i + 1) xs))
spelled_take f xs i d done lt so_far =
    ap (λ (l : List ℕ). l ++ spelled (f (get_or xs i d))) so_far
    ∙ (sym (spelled-append (flat_map f (take i xs)) (f (get_or xs i d))) ∙ ap spelled (flat_map_take f xs i d lt))

pub spelled_taken : {X : Type 0} (f : X → List Field) (xs : List X) (i : ℕ) (done : List ℕ) → length xs ≤ i → done ≡ spelled (flat_map f (take i xs))
    → done ≡ spelled (flat_map f xs)
spelled_taken {X} f xs i done le so_far = so_far ∙ ap (λ (l : List X). spelled (flat_map f l)) (take_all i xs le)

-- ---- the entries of the images, by number

pub entry_taken : {A : Type 0} (f : ℕ × Entry → List A) (images : List Entry) (i : ℕ) (d : Entry) → i < length images
    → flat_map f (take i (enumerate_from 0 images)) ++ f (i, get_or images i d) ≡ flat_map f (take (i + 1) (enumerate_from 0 images))
entry_taken {A} f images i d lt =
    let pairs : List (ℕ × Entry) = enumerate_from 0 images in
    let here : get_or pairs i (0, d) ≡ (0 + i, get_or images i d) = get_or-enumerate_from 0 images i (0, d) lt in
    let first : 0 + i ≡ i = omega arith in
    let inside : i < length pairs = omega (arith, length-enumerate_from 0 images) in
    ap (λ (p : ℕ × Entry). flat_map f (take i pairs) ++ f p) (sym (here ∙ ap (λ (n : ℕ). let p : ℕ × Entry = (n, get_or images i d) in p) first))
    ∙ flat_map_take f pairs i (0, d) inside

-- a loop that writes an entry for each image
pub entry_more : (f : ℕ × Entry → List Field) (images : List Entry) (i : ℕ) (e : Entry) (fields : List Field) (old new : List ℕ) → i < length images → e ≡ get_or images i e → fields ≡ f (i, e)
    → new ≡ old ++ spelled fields → old ≡ spelled (flat_map f (take i (enumerate_from 0 images))) → new ≡ spelled (flat_map f (take (i + 1) (enumerate_from 0 images)))
entry_more f images i e fields old new lt is same appended so_far =
    let here : fields ≡ f (i, get_or images i e) = same ∙ ap (λ (x : Entry). f (i, x)) is in
    appended
    ∙ (ap₂ (λ (a b : List ℕ). a ++ b) so_far (ap spelled here)
    ∙ (sym (spelled-append (flat_map f (take i (enumerate_from 0 images))) (f (i, get_or images i e))) ∙ ap spelled (entry_taken f images i e lt)))

pub entries_all : (f : ℕ × Entry → List Field) (images : List Entry) (i : ℕ) (done : List ℕ) → length images ≤ i
    → done ≡ spelled (flat_map f (take i (enumerate_from 0 images))) → done ≡ spelled (flat_map f (enumerate_from 0 images))
entries_all f images i done le so_far =
    spelled_taken f (enumerate_from 0 images) i done (omega (arith, length-enumerate_from 0 images)) so_far
