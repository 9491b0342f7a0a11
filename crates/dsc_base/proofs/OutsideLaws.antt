-- Laws of the stores and sinks in memory, over plain lists.
use Rattle.std.specs.Prelude.{◌≡◌, ◌<◌, ◌++◌, ℕ, zero, suc, List, [], ◌∷◌, map, take, drop, length, refl}
use Rattle.std.proofs.Common.{ap, arith, get_or, set, nat_eq}
use Rattle.std.specs.Ordering.{nat_cmp, eq_by_cmp}
use Rattle.std.specs.Cmp.Lexicographic.{pointwise, slice_cmp, texts_ties}

-- a loop that changes each element in turn, at one more of them
pub map_step : {A : Type 0} (f : A → A) (xs : List A) (i : ℕ) (d : A) → i < length xs → set (map f (take i xs) ++ drop i xs) i (f (get_or (map f (take i xs) ++ drop i xs) i d)) ≡ map f (take (suc i) xs) ++ drop (suc i) xs
map_step f [] i d h = absurd (omega arith)
map_step f (x ∷ xs) zero d h = refl
map_step f (x ∷ xs) (suc i) d h = ap (λ ys. f x ∷ ys) (map_step f xs i d (omega arith))

-- names are equal byte by byte where their order ties
pub same_name : (xs ys : List ℕ) → pointwise nat_eq xs ys ≡ eq_by_cmp (slice_cmp nat_cmp) xs ys
same_name xs ys = texts_ties xs ys
