-- Lists that are made item by item.
use Rattle.std.proofs.Common.{◌≡◌, ◌<◌, ℕ, ◌+◌, List, [], ◌∷◌, ◌++◌, length, map, take, get_or, refl, sym, ap, ◌∙◌, arith, append_assoc, ◌*◌, ap₂}
use Rattle.std.specs.List.{flat_map, sum_by}
use Rattle.std.proofs.lemmas.List.Sums.{sum_by-cons, sum_by-append}
use Rattle.std.proofs.lemmas.List.{append-nil}
use Rattle.std.proofs.lemmas.List.Concat.{flat_map-append}
use Rattle.cache_layout.proofs.NumberedLaws.{take-step}

pub flat_next : {X A : Type 0} (f : X → List A) (xs : List X) (n : ℕ) (x : X) → n < length xs → x ≡ get_or xs n x → flat_map f (take (n + 1) xs) ≡ flat_map f (take n xs) ++ f x
flat_next {X} {A} f xs n x within is =
    ap (λ (l : List X). flat_map f l) (take-step xs n x within is)
    ∙ (flat_map-append f (take n xs) (x ∷ []) ∙ ap (λ (l : List A). flat_map f (take n xs) ++ l) (append-nil (f x)))

-- bytes that grew by what the next item gives
pub appended : {X : Type 0} (f : X → List ℕ) (xs : List X) (n : ℕ) (x : X) (start old new : List ℕ) → n < length xs → x ≡ get_or xs n x
    → old ≡ start ++ flat_map f (take n xs) → new ≡ old ++ f x → new ≡ start ++ flat_map f (take (n + 1) xs)
appended f xs n x start old new within is so_far grown =
    grown
    ∙ (ap (λ (l : List ℕ). l ++ f x) so_far
    ∙ (append_assoc start (flat_map f (take n xs)) (f x) ∙ ap (λ (l : List ℕ). start ++ l) (sym (flat_next f xs n x within is))))

pub flat_map-map : {X Y A : Type 0} (f : Y → List A) (g : X → Y) (xs : List X) → flat_map f (map g xs) ≡ flat_map (λ (x : X). f (g x)) xs
flat_map-map f g [] = refl
flat_map-map {X} {Y} {A} f g (x ∷ xs) = ap (λ (l : List A). f (g x) ++ l) (flat_map-map f g xs)

pub appended_mapped : {X Y : Type 0} (f : Y → List ℕ) (g : X → Y) (xs : List X) (n : ℕ) (x : X) (start old new : List ℕ) → n < length xs → x ≡ get_or xs n x
    → old ≡ start ++ flat_map f (map g (take n xs)) → new ≡ old ++ f (g x) → new ≡ start ++ flat_map f (map g (take (n + 1) xs))
appended_mapped {X} f g xs n x start old new within is so_far grown =
    appended (λ (y : X). f (g y)) xs n x start old new within is (so_far ∙ ap (λ (l : List ℕ). start ++ l) (flat_map-map f g (take n xs))) grown
    ∙ ap (λ (l : List ℕ). start ++ l) (sym (flat_map-map f g (take (n + 1) xs)))

-- lists within lists
pub flat_within : {X Y A : Type 0} (f : Y → List A) (g : X → List Y) (xs : List X) → flat_map f (flat_map g xs) ≡ flat_map (λ (x : X). flat_map f (g x)) xs
flat_within f g [] = refl
flat_within {X} {Y} {A} f g (x ∷ xs) = flat_map-append f (g x) (flat_map g xs) ∙ ap (λ (l : List A). flat_map f (g x) ++ l) (flat_within f g xs)

pub sum_within : {X Y : Type 0} (f : Y → ℕ) (g : X → List Y) (xs : List X) → sum_by f (flat_map g xs) ≡ sum_by (λ (x : X). sum_by f (g x)) xs
sum_within f g [] = refl
sum_within {X} f g (x ∷ xs) =
    sum_by-append f (g x) (flat_map g xs)
    ∙ (ap (λ (n : ℕ). sum_by f (g x) + n) (sum_within f g xs) ∙ sym (sum_by-cons (λ (y : X). sum_by f (g y)) x xs))

pub sum_each : {X : Type 0} (f : X → ℕ) (m : ℕ) (xs : List X) → ((x : X) → f x ≡ m) → sum_by f xs ≡ m * length xs
sum_each f m [] each = omega arith
sum_each f m (x ∷ xs) each = omega (arith, sum_by-cons f x xs, each x, sum_each f m xs each)

pub sum_same : {X : Type 0} (f g : X → ℕ) (xs : List X) → ((x : X) → f x ≡ g x) → sum_by f xs ≡ sum_by g xs
sum_same f g [] same = refl
sum_same f g (x ∷ xs) same = sum_by-cons f x xs ∙ (ap₂ (λ (m n : ℕ). m + n) (same x) (sum_same f g xs same) ∙ sym (sum_by-cons g x xs))
