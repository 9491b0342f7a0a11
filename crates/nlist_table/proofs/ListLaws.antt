-- Lists: the first element that passes a test, and what a filter keeps of a part.
use Rattle.std.proofs.Common.{◌≡◌, ◌≤◌, ◌<◌, ◌+◌, ℕ, zero, suc, Bool, true, false, not, cond, List, [], ◌∷◌, ◌++◌, map, take, drop, length, get_or, refl, sym, ap, ap₂, ◌∙◌, arith, nat_lt, Some, None}
use Rattle.std.specs.List.{All, position, position_or_len, filter, count_by, slice_get, range_with_len}
use Rattle.std.proofs.lemmas.Bool.Decides.{nat_tests}
use Rattle.std.proofs.lemmas.Grind.{common_steps}
use Rattle.std.proofs.lemmas.List.{length-take}
use Rattle.std.proofs.lemmas.List.FromFn.{map-range_with_len_more}
use Rattle.std.proofs.lemmas.List.Sums.{position_or_len_is, prefix_len_passes, count_by-le-length, sum_by-cons}

pub position_found : {X : Type 0} (p : X → Bool) (xs : List X) (i : ℕ) (d : X) → i < length xs → ((k : ℕ) → k < i → p (get_or xs k d) ≡ false) → p (get_or xs i d) ≡ true → position p xs ≡ Some i
position_found p xs i d inside before here =
    let e : position_or_len p xs ≡ i = position_or_len_is p xs i d (omega arith) before (λ _. here) in grind (arith, common_steps)

pub position_absent : {X : Type 0} (p : X → Bool) (xs : List X) (d : X) → ((k : ℕ) → k < length xs → p (get_or xs k d) ≡ false) → position p xs ≡ None
position_absent p xs d before =
    let e : position_or_len p xs ≡ length xs = position_or_len_is p xs (length xs) d (omega arith) before (λ lt. absurd (omega arith)) in grind (arith, common_steps)

past_end : (b : Bool) (n : ℕ) → cond b (Some n) None ≡ None → b ≡ false
past_end true n e = absurd (cc)
past_end false n e = refl

-- none of them passes
pub none_pass : {X : Type 0} (p : X → Bool) (xs : List X) → position p xs ≡ None → All (λ x. p x ≡ false) xs
none_pass p xs none k d inside =
    let past : nat_lt (position_or_len p xs) (length xs) ≡ false = past_end (nat_lt (position_or_len p xs) (length xs)) (position_or_len p xs) none in
    let far : k < position_or_len p xs = grind (arith, nat_tests) in
    fails (p (get_or xs k d)) (prefix_len_passes (λ x. not (p x)) xs k d far)
  where
    fails : (b : Bool) → not b ≡ true → b ≡ false
    fails true e = absurd (cc)
    fails false e = refl

-- a list by index, with one more
pub made_more : {X : Type 0} (f : ℕ → X) (k : ℕ) (made longer : List X) (x : X) → made ≡ map f (range_with_len 0 k) → x ≡ f k → longer ≡ made ++ x ∷ [] → longer ≡ map f (range_with_len 0 (k + 1))
made_more f k made longer x so_far is pushed =
    pushed ∙ (ap₂ (λ l y. l ++ y ∷ []) so_far is ∙ sym (map-range_with_len_more f 0 k k (omega arith)))

pub count_front : {X : Type 0} (p : X → Bool) (xs : List X) (k : ℕ) → count_by p (take k xs) ≤ k
count_front p xs k = omega (arith, count_by-le-length p (take k xs), length-take k xs)

count_first : {X : Type 0} (p : X → Bool) (x : X) (xs : List X) → count_by p (x ∷ xs) ≡ cond (p x) 1 0 + count_by p xs
count_first p x xs = sum_by-cons (λ y. cond (p y) 1 0) x xs

-- what a filter keeps of the front and of the rest of a list stands in the front and the rest of what it keeps of the whole
drop_step : {X : Type 0} (b : Bool) (n : ℕ) (x : X) (ys : List X) → drop (cond b 1 0 + n) (cond b (x ∷ ys) ys) ≡ drop n ys
drop_step true n x ys = let e : 1 + n ≡ suc n = omega arith in ap (λ (m : ℕ). drop m (x ∷ ys)) e
drop_step false n x ys = let e : 0 + n ≡ n = omega arith in ap (λ (m : ℕ). drop m ys) e

pub filter_drop : {X : Type 0} (p : X → Bool) (i : ℕ) (xs : List X) → drop (count_by p (take i xs)) (filter p xs) ≡ filter p (drop i xs)
filter_drop p zero xs = refl
filter_drop p (suc i) [] = refl
filter_drop p (suc i) (x ∷ xs) =
    ap (λ (n : ℕ). drop n (filter p (x ∷ xs))) (count_first p x (take i xs)) ∙ (drop_step (p x) (count_by p (take i xs)) x (filter p xs) ∙ filter_drop p i xs)

take_step : {X : Type 0} (b : Bool) (n : ℕ) (x : X) (ys : List X) → take (cond b 1 0 + n) (cond b (x ∷ ys) ys) ≡ cond b (x ∷ take n ys) (take n ys)
take_step true n x ys = let e : 1 + n ≡ suc n = omega arith in ap (λ (m : ℕ). take m (x ∷ ys)) e
take_step false n x ys = let e : 0 + n ≡ n = omega arith in ap (λ (m : ℕ). take m ys) e

pub filter_take : {X : Type 0} (p : X → Bool) (n : ℕ) (xs : List X) → take (count_by p (take n xs)) (filter p xs) ≡ filter p (take n xs)
filter_take p zero xs = refl
filter_take p (suc n) [] = refl
filter_take p (suc n) (x ∷ xs) =
    ap (λ (m : ℕ). take m (filter p (x ∷ xs))) (count_first p x (take n xs))
    ∙ (take_step (p x) (count_by p (take n xs)) x (filter p xs) ∙ ap (λ ys. cond (p x) (x ∷ ys) ys) (filter_take p n xs))

-- the place of an element among those that are kept
get_step : {X : Type 0} (b : Bool) (n : ℕ) (x : X) (ys : List X) → slice_get (cond b (x ∷ ys) ys) (cond b 1 0 + n) ≡ slice_get ys n
get_step true n x ys = let e : 1 + n ≡ suc n = omega arith in ap (λ (m : ℕ). slice_get (x ∷ ys) m) e
get_step false n x ys = let e : 0 + n ≡ n = omega arith in ap (λ (m : ℕ). slice_get ys m) e

pub filter_get : {X : Type 0} (p : X → Bool) (xs : List X) (i : ℕ) (x : X) → slice_get xs i ≡ Some x → p x ≡ true → slice_get (filter p xs) (count_by p (take i xs)) ≡ Some x
filter_get p [] i x is passes = absurd (cc)
filter_get p (y ∷ ys) zero x is passes =
    let same : y ≡ x = cc in
    let here : p y ≡ true = ap p same ∙ passes in
    ap (λ (b : Bool). slice_get (cond b (y ∷ filter p ys) (filter p ys)) 0) here ∙ is
filter_get p (y ∷ ys) (suc i) x is passes =
    ap (λ (n : ℕ). slice_get (filter p (y ∷ ys)) n) (count_first p y (take i ys))
    ∙ (get_step (p y) (count_by p (take i ys)) y (filter p ys) ∙ filter_get p ys i x is passes)
