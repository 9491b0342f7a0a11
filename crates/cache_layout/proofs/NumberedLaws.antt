-- Lists that are made of the items of another one with their numbers, and sums over its items, one item further on.
use Rattle.std.proofs.Common.{◌≡◌, ◌≤◌, ◌<◌, ◌%◌, ℕ, ◌+◌, List, [], ◌∷◌, ◌++◌, length, map, take, get_or, refl, sym, ap, ap₂, ◌∙◌, arith, append_assoc}
use Rattle.std.specs.List.{sum_by, flat_map, enumerate_from}
use Rattle.std.proofs.lemmas.List.{append-nil, take_more, take-take, length-take-le, length-map, get_or-map}
use Rattle.std.proofs.lemmas.List.Sums.{sum_by_push, sum_by-cons, sum_by-take-le}
use Rattle.std.proofs.lemmas.List.FromFn.{length-enumerate_from, get_or-enumerate_from}
use Rattle.cache_layout.specs.Places.{numbered}

pub take-step : {X : Type 0} (xs : List X) (n : ℕ) (x : X) → n < length xs → x ≡ get_or xs n x → take (n + 1) xs ≡ take n xs ++ x ∷ []
take-step {X} xs n x lt is = take_more xs n x lt ∙ ap (λ (y : X). take n xs ++ y ∷ []) (sym is)

pub sum-step : {X : Type 0} (f : X → ℕ) (xs : List X) (n : ℕ) (x : X) → n < length xs → x ≡ get_or xs n x → sum_by f (take (n + 1) xs) ≡ sum_by f (take n xs) + f x
sum-step {X} f xs n x lt is = ap (λ (l : List X). sum_by f l) (take-step xs n x lt is) ∙ sum_by_push f (take n xs) x

enumerate_from-push : {X : Type 0} (n : ℕ) (xs : List X) (x : X) → enumerate_from n (xs ++ x ∷ []) ≡ enumerate_from n xs ++ (n + length xs, x) ∷ []
enumerate_from-push {X} n [] x = ap (λ (k : ℕ). let p : ℕ × X = (k, x) in p ∷ []) (omega arith)
enumerate_from-push {X} n (y ∷ ys) x =
    let at : n + 1 + length ys ≡ n + length (y ∷ ys) = omega arith in
    ap (λ (l : List (ℕ × X)). (n, y) ∷ l) (enumerate_from-push (n + 1) ys x ∙ ap (λ (k : ℕ). enumerate_from (n + 1) ys ++ (k, x) ∷ []) at)

pub map-push : {X Y : Type 0} (f : X → Y) (xs : List X) (x : X) → map f (xs ++ x ∷ []) ≡ map f xs ++ f x ∷ []
map-push f [] x = refl
map-push {X} {Y} f (y ∷ ys) x = ap (λ (l : List Y). f y ∷ l) (map-push f ys x)

pub numbered-step : {X Y : Type 0} (f : ℕ → X → Y) (xs : List X) (n : ℕ) (x : X) → n < length xs → x ≡ get_or xs n x
    → numbered f (take (n + 1) xs) ≡ numbered f (take n xs) ++ f n x ∷ []
numbered-step {X} {Y} f xs n x lt is =
    let long : 0 + length (take n xs) ≡ n = omega (arith, length-take-le n xs (omega arith)) in
    ap (λ (l : List X). numbered f l) (take-step xs n x lt is)
    ∙ (ap (λ (l : List (ℕ × X)). map (λ p. f p.0 p.1) l) (enumerate_from-push 0 (take n xs) x ∙ ap (λ (k : ℕ). enumerate_from 0 (take n xs) ++ (k, x) ∷ []) long)
    ∙ map-push (λ (p : ℕ × X). f p.0 p.1) (enumerate_from 0 (take n xs)) (n, x))

-- a list that grew by the item that the next number gives
pub numbered-grown : {X Y : Type 0} (f : ℕ → X → Y) (xs : List X) (n : ℕ) (x : X) (old new : List Y) (y : Y) → n < length xs → x ≡ get_or xs n x
    → old ≡ numbered f (take n xs) → new ≡ old ++ y ∷ [] → y ≡ f n x → new ≡ numbered f (take (n + 1) xs)
numbered-grown {X} {Y} f xs n x old new y lt is so_far pushed item =
    pushed ∙ (ap₂ (λ (l : List Y) (z : Y). l ++ z ∷ []) so_far item ∙ sym (numbered-step f xs n x lt is))

-- the item that a number gives
pub numbered-get : {X Y : Type 0} (f : ℕ → X → Y) (xs : List X) (n : ℕ) (x : X) (d : Y) → n < length xs → x ≡ get_or xs n x → get_or (numbered f xs) n d ≡ f n x
numbered-get {X} {Y} f xs n x d lt is =
    get_or-map (λ (p : ℕ × X). f p.0 p.1) (enumerate_from 0 xs) n (0, x) d (omega (arith, length-enumerate_from 0 xs))
    ∙ (ap (λ (p : ℕ × X). f p.0 p.1) (get_or-enumerate_from 0 xs n (0, x) lt)
    ∙ ap₂ (λ (k : ℕ) (y : X). f k y) (add-zero-left n) (sym is))
  where
    add-zero-left : (n : ℕ) → 0 + n ≡ n
    add-zero-left n = omega arith

pub length-numbered : {X Y : Type 0} (f : ℕ → X → Y) (xs : List X) → length (numbered f xs) ≡ length xs
length-numbered {X} {Y} f xs = length-map (enumerate_from 0 xs) (λ (p : ℕ × X). f p.0 p.1) ∙ length-enumerate_from 0 xs

-- what an item adds is counted in every sum over more items
pub sum-before : {X : Type 0} (f : X → ℕ) (xs : List X) (a b : ℕ) (x : X) → a < b → a < length xs → x ≡ get_or xs a x → sum_by f (take a xs) + f x ≤ sum_by f (take b xs)
sum-before {X} f xs a b x before within is =
    omega (arith, sum-step f xs a x within is, ap (λ (l : List X). sum_by f l) (take-take (a + 1) b xs (omega arith)), sum_by-take-le f (take b xs) (a + 1))

-- sums of whole pages
pub sum-pages : {X : Type 0} (f : X → ℕ) (xs : List X) → ((x : X) → f x % 4096 ≡ 0) → sum_by f xs % 4096 ≡ 0
sum-pages f [] whole = refl
sum-pages f (x ∷ xs) whole = omega (arith, sum_by-cons f x xs, whole x, sum-pages f xs whole)

-- lists joined of what each item and its number give
flat-push : {X : Type 0} (f : X → List ℕ) (xs : List X) (x : X) → flat_map f (xs ++ x ∷ []) ≡ flat_map f xs ++ f x
flat-push f [] x = append-nil (f x)
flat-push {X} f (y ∷ ys) x = ap (λ (l : List ℕ). f y ++ l) (flat-push f ys x) ∙ sym (append_assoc (f y) (flat_map f ys) (f x))
