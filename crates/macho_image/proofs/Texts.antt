-- What stands before a byte that is looked for.
use Rattle.std.proofs.Common.{◌≡◌, ◌≤◌, ℕ, Bool, true, false, cond, List, take, length, refl, sym, ap, arith, nat_lt, Some, None}
use Rattle.std.specs.Prelude.{position}
use Rattle.std.specs.List.{before_first, position_or_len}
use Rattle.std.proofs.lemmas.List.{take_all}
use Rattle.std.proofs.lemmas.Bool.Decides.{nat_tests}

some_place : (b : Bool) (n m : ℕ) → cond b (Some n) None ≡ Some m → m ≡ n
some_place true n m e = cc
some_place false n m e = absurd (cc)

none_place : (b : Bool) (n : ℕ) → cond b (Some n) None ≡ None → b ≡ false
none_place true n e = absurd (cc)
none_place false n e = refl

pub before_found : (p : ℕ → Bool) (xs : List ℕ) (n : ℕ) → position p xs ≡ Some n → take n xs ≡ before_first p xs
before_found p xs n found = ap (λ (k : ℕ). take k xs) (some_place (nat_lt (position_or_len p xs) (length xs)) (position_or_len p xs) n found)

pub before_absent : (p : ℕ → Bool) (xs : List ℕ) → position p xs ≡ None → xs ≡ before_first p xs
before_absent p xs absent =
    let past : nat_lt (position_or_len p xs) (length xs) ≡ false = none_place (nat_lt (position_or_len p xs) (length xs)) (position_or_len p xs) absent in
    let long : length xs ≤ position_or_len p xs = grind (arith, nat_tests) in
    sym (take_all (position_or_len p xs) xs long)
