-- The copies of segments, one more at a time.
use Rattle.std.proofs.Common.{◌≡◌, ◌<◌, ℕ, ◌+◌, Bool, List, [], ◌∷◌, ◌++◌, length, map, filter, take, get_or, sym, ap, ◌∙◌, arith}
use Rattle.std.specs.List.{enumerate_from}
use Rattle.std.proofs.lemmas.List.{map-append, length-take-le}
use Rattle.std.proofs.lemmas.List.Elements.{filter-append}
use Rattle.cache_layout.proofs.NumberedLaws.{take-step}

pub enumerate-push : {X : Type 0} (n : ℕ) (xs : List X) (x : X) → enumerate_from n (xs ++ x ∷ []) ≡ enumerate_from n xs ++ (n + length xs, x) ∷ []
enumerate-push {X} n [] x = ap (λ (k : ℕ). let p : ℕ × X = (k, x) in p ∷ []) (omega arith)
enumerate-push {X} n (y ∷ ys) x =
    let at : n + 1 + length ys ≡ n + length (y ∷ ys) = omega arith in
    ap (λ (l : List (ℕ × X)). (n, y) ∷ l) (enumerate-push (n + 1) ys x ∙ ap (λ (k : ℕ). enumerate_from (n + 1) ys ++ (k, x) ∷ []) at)

pub enumerate-step : {X : Type 0} (xs : List X) (n : ℕ) (x : X) → n < length xs → x ≡ get_or xs n x → enumerate_from 0 (take (n + 1) xs) ≡ enumerate_from 0 (take n xs) ++ (n, x) ∷ []
enumerate-step {X} xs n x lt is =
    let long : 0 + length (take n xs) ≡ n = omega (arith, length-take-le n xs (omega arith)) in
    ap (λ (l : List X). enumerate_from 0 l) (take-step xs n x lt is)
    ∙ (enumerate-push 0 (take n xs) x ∙ ap (λ (k : ℕ). enumerate_from 0 (take n xs) ++ (k, x) ∷ []) long)

-- what is made of the items that pass a test, with their numbers
pub passed-grown : {X Y : Type 0} (f : ℕ × X → Y) (p : ℕ × X → Bool) (xs : List X) (n : ℕ) (x : X) (old new : List Y) → n < length xs → x ≡ get_or xs n x
    → old ≡ map f (filter p (enumerate_from 0 (take n xs))) → new ≡ old ++ map f (filter p ((n, x) ∷ [])) → new ≡ map f (filter p (enumerate_from 0 (take (n + 1) xs)))
passed-grown {X} {Y} f p xs n x old new lt is before pushed =
    let made : List (ℕ × X) → List Y = λ ps. map f (filter p ps) in
    pushed
    ∙ (ap (λ (ys : List Y). ys ++ made ((n, x) ∷ [])) before
    ∙ sym (ap made (enumerate-step xs n x lt is)
    ∙ (ap (λ (ps : List (ℕ × X)). map f ps) (filter-append p (enumerate_from 0 (take n xs)) ((n, x) ∷ []))
    ∙ map-append f (filter p (enumerate_from 0 (take n xs))) (filter p ((n, x) ∷ [])))))
