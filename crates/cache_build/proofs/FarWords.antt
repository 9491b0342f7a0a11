-- Words that keep apart, in whatever order.
use Rattle.std.proofs.Common.{◌≡◌, ◌≤◌, ◌<◌, ◌+◌, ℕ, suc, false, List, [], ◌∷◌, length, get_or, refl, sym, ◌∙◌, subst, arith, inl, inr, Some, None}
use Rattle.std.proofs.lemmas.Bool.{cases_Bool, cond-true, cond-false}
use Rattle.std.proofs.lemmas.Bool.Decides.{nat_tests}
use Rattle.std.specs.Prelude.{nat_le, nat_lt}
use Rattle.std.specs.List.{AllPairs}
use Rattle.macho_image.specs.declared.place.Location.{Location}
use Rattle.macho_image.specs.Order.{put_in_order, in_address_order, addresses_of, is_near, first_close}
use Rattle.macho_image.proofs.CloseLaws.{close_pair, close_is}
use Rattle.macho_image.proofs.OrderLaws.{UpFrom, up_in_order}

-- two words that share no byte
abbrev pub AreFar : Location → Location → Type 0
AreFar l m = is_near l.address m.address ≡ false

pub far_sym : (l m : Location) → AreFar l m → AreFar m l
far_sym l m far = grind (arith, nat_tests)

abbrev pub FarFrom : Location → List Location → Type 0
FarFrom l [] = Unit {0}
FarFrom l (m ∷ ms) = AreFar l m × FarFrom l ms

abbrev pub AllFar : List Location → Type 0
AllFar [] = Unit {0}
AllFar (l ∷ ls) = FarFrom l ls × AllFar ls

far_from : (l : Location) (ls : List Location) → ((j : ℕ) (d : Location) → j < length ls → AreFar l (get_or ls j d)) → FarFrom l ls
far_from l [] far = tt
far_from l (m ∷ ms) far = (far 0 m (omega arith), far_from l ms (λ j d lt. far (suc j) d (omega arith)))

pub pairs_far : (ls : List Location) → AllPairs AreFar ls → AllFar ls
pairs_far [] pairs = tt
pairs_far (l ∷ ls) pairs = (
  far_from l ls (λ j d lt. pairs 0 (suc j) d (omega arith) (omega arith)),
  pairs_far ls (λ i j d lt within. pairs (suc i) (suc j) d (omega arith) (omega arith)),
)

-- ---- put in the order of their addresses

put_far_from : (x l : Location) (ls : List Location) → AreFar x l → FarFrom x ls → FarFrom x (put_in_order l ls)
put_far_from x l [] far all = (far, tt)
put_far_from x l (m ∷ ms) far all = elim (cases_Bool (nat_le l.address m.address)) [
  | inl is ↦ subst (λ (ks : List Location). FarFrom x ks) (sym (cond-true (nat_le l.address m.address) (l ∷ (m ∷ ms)) (m ∷ put_in_order l ms) is)) (far, all)
  | inr is_not ↦
      subst (λ (ks : List Location). FarFrom x ks) (sym (cond-false (nat_le l.address m.address) (l ∷ (m ∷ ms)) (m ∷ put_in_order l ms) is_not)) (all.0, put_far_from x l ms far all.1)
]

put_far : (l : Location) (ls : List Location) → FarFrom l ls → AllFar ls → AllFar (put_in_order l ls)
put_far l [] far all = (tt, tt)
put_far l (m ∷ ms) far all = elim (cases_Bool (nat_le l.address m.address)) [
  | inl is ↦ subst (λ (ks : List Location). AllFar ks) (sym (cond-true (nat_le l.address m.address) (l ∷ (m ∷ ms)) (m ∷ put_in_order l ms) is)) (far, all)
  | inr is_not ↦
      subst (λ (ks : List Location). AllFar ks) (sym (cond-false (nat_le l.address m.address) (l ∷ (m ∷ ms)) (m ∷ put_in_order l ms) is_not))
      (put_far_from m l ms (far_sym l m far.0) all.0, put_far l ms far.1 all.1)
]

ordered_from : (x : Location) (ls : List Location) → FarFrom x ls → FarFrom x (in_address_order ls)
ordered_from x [] far = tt
ordered_from x (l ∷ ls) far = put_far_from x l (in_address_order ls) far.0 (ordered_from x ls far.1)

ordered_far : (ls : List Location) → AllFar ls → AllFar (in_address_order ls)
ordered_far [] all = tt
ordered_far (l ∷ ls) all = put_far l (in_address_order ls) (ordered_from l ls all.0) (ordered_far ls all.1)

none_close : (floor : ℕ) (ls : List Location) → UpFrom floor ls → AllFar ls → close_pair ls ≡ None
none_close floor [] up all = refl
none_close floor (l ∷ []) up all = refl
none_close floor (l ∷ m ∷ ms) up all =
    let rises : l.address ≤ m.address = up.1.0 in
    let far : is_near l.address m.address ≡ false = all.0.0 in
    let behind : nat_lt m.address (l.address + 8) ≡ false = grind (arith, nat_tests) in
    cond-false (nat_lt m.address (l.address + 8)) (Some l.address) (close_pair (m ∷ ms)) behind ∙ none_close l.address (m ∷ ms) up.1 all.1

-- none of them is close to another
pub none_near : (ls : List Location) → AllFar ls → first_close (addresses_of (in_address_order ls)) ≡ None
none_near ls all = close_is (in_address_order ls) (up_in_order ls) ∙ none_close 0 (in_address_order ls) (up_in_order ls) (ordered_far ls all)
