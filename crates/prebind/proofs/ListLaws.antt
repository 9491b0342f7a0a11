-- Lists that grow by what one element more gives.
use Rattle.std.proofs.Common.{◌≡◌, ◌<◌, ◌+◌, ℕ, List, [], ◌∷◌, ◌++◌, length, map, take, get_or, All, sym, ap, ap₂, subst, ◌∙◌}
use Rattle.std.proofs.lemmas.List.{take_more, map_push}
use Rattle.std.proofs.lemmas.List.Elements.{All-more}

pub mapped_more : {X Y : Type 0} (f : X → Y) (xs : List X) (n : ℕ) (x : X) (ys ys' : List Y) (y : Y) → n < length xs → x ≡ get_or xs n x → ys ≡ map f (take n xs) → y ≡ f x → ys' ≡ ys ++ y ∷ [] → ys' ≡ map f (take (n + 1) xs)
mapped_more {X = X} {Y = Y} f xs n x ys ys' y lt at before is grown =
    grown
    ∙ (ap₂ (λ (l : List Y) (z : Y). l ++ z ∷ []) before (is ∙ ap f at)
    ∙ (sym (map_push f (take n xs) (get_or xs n x)) ∙ sym (ap (λ (l : List X). map f l) (take_more xs n x lt))))

-- what holds of each element so far, and of the next one
pub all_more : {X : Type 0} (P : X → Type 0) (xs : List X) (n : ℕ) (x : X) → n < length xs → x ≡ get_or xs n x → All P (take n xs) → P x → All P (take (n + 1) xs)
all_more P xs n x lt at before holds = All-more P xs n x lt before (subst P at holds)
