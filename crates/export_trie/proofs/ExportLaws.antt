-- A list by names is sorted, and has the exports of an accepted trie.
use Rattle.std.proofs.Common.{◌≡◌, ◌<◌, ◌+◌, ℕ, zero, suc, true, false, List, [], ◌∷◌, length, get_or, refl, sym, ap, subst, ◌∙◌, arith, inl, inr}
use Rattle.std.specs.Prelude.{None}
use Rattle.std.specs.Ordering.{nat_cmp, is_lt, ordering_reverse}
use Rattle.std.specs.declared.cmp.Ordering.{Ordering}
use Rattle.std.specs.declared.cmp.Ordering.TheVariants.{Less, Equal, Greater}
use Rattle.std.specs.Cmp.Lexicographic.{slice_cmp, nat_list_cmp_total}
use Rattle.std.specs.List.Sorted.{IsPermutation, IsSortedBy}
use Rattle.std.proofs.lemmas.Bool.{cond-true, cond-false, cases_Bool}
use Rattle.std.proofs.lemmas.List.Sorted.{IsPermutation-refl, IsPermutation-cons, IsPermutation-trans, IsPermutation-insert}
use Rattle.export_trie.specs.declared.export.Export.{Export}
use Rattle.export_trie.specs.Order.{too_many, trie_break}
use Rattle.export_trie.specs.Exports.{tree_exports, put_by_name, by_name, exports_of}
use Rattle.export_trie.specs.Paths.{Member, AreExports}
use Rattle.export_trie.specs.Writing.{trie_bytes, IsWritable}
use Rattle.export_trie.specs.Planning.{HasNumber}
use Rattle.std.specs.List.{All}
use Rattle.export_trie.proofs.ListLaws.{Member-Contains, comes_before, sorted_exports}
use Rattle.export_trie.proofs.RoundLaws.{one_list, round_trip}
use Rattle.export_trie.proofs.TreeLaws.{accepted_walk, few_exports}

-- names in order
put-before : (e f : Export) (fs : List Export) → comes_before f e ≡ true → put_by_name e (f ∷ fs) ≡ f ∷ put_by_name e fs
put-before e f fs lt = cond-true (comes_before f e) (f ∷ put_by_name e fs) (e ∷ (f ∷ fs)) lt

put-here : (e f : Export) (fs : List Export) → comes_before f e ≡ false → put_by_name e (f ∷ fs) ≡ e ∷ (f ∷ fs)
put-here e f fs ge = cond-false (comes_before f e) (f ∷ put_by_name e fs) (e ∷ (f ∷ fs)) ge

put_moves : (e : Export) (es : List Export) → IsPermutation (e ∷ es) (put_by_name e es)
put_moves e [] = IsPermutation-refl (e ∷ [])
put_moves e (f ∷ fs) = elim (cases_Bool (comes_before f e)) [
  | inl lt ↦
      let swapped : IsPermutation (e ∷ f ∷ fs) (f ∷ e ∷ fs) = IsPermutation-insert (f ∷ fs) 1 e in
      subst (λ (xs : List Export). IsPermutation (e ∷ f ∷ fs) xs) (sym (put-before e f fs lt))
      (IsPermutation-trans (e ∷ f ∷ fs) (f ∷ e ∷ fs) (f ∷ put_by_name e fs) swapped (IsPermutation-cons f (e ∷ fs) (put_by_name e fs) (put_moves e fs)))
  | inr ge ↦ subst (λ (xs : List Export). IsPermutation (e ∷ f ∷ fs) xs) (sym (put-here e f fs ge)) (IsPermutation-refl (e ∷ f ∷ fs))
]

pub order_moves : (es : List Export) → IsPermutation es (by_name es)
order_moves [] = IsPermutation-refl []
order_moves (e ∷ es) =
    IsPermutation-trans (e ∷ es) (e ∷ by_name es) (put_by_name e (by_name es)) (IsPermutation-cons e es (by_name es) (order_moves es)) (put_moves e (by_name es))

abbrev NotBelow : Export → List Export → Type 0
NotBelow e [] = Unit {0}
NotBelow e (f ∷ fs) = comes_before f e ≡ false

abbrev Up : List Export → Type 0
Up [] = Unit {0}
Up (e ∷ es) = NotBelow e es × Up es

one_way : (a b : Export) → comes_before a b ≡ true → comes_before b a ≡ false
one_way a b lt = ap is_lt (nat_list_cmp_total.antisymm b.name a.name) ∙ go (slice_cmp nat_cmp a.name b.name) lt
  where
    go : (order : Ordering) → is_lt order ≡ true → is_lt (ordering_reverse order) ≡ false
    go Less is = refl
    go Equal is = cc
    go Greater is = cc

put_above : (f e : Export) (fs : List Export) → comes_before f e ≡ true → NotBelow f fs → NotBelow f (put_by_name e fs)
put_above f e [] lt low = one_way f e lt
put_above f e (g ∷ gs) lt low = elim (cases_Bool (comes_before g e)) [
  | inl less ↦ subst (λ (xs : List Export). NotBelow f xs) (sym (put-before e g gs less)) low
  | inr ge ↦ subst (λ (xs : List Export). NotBelow f xs) (sym (put-here e g gs ge)) (one_way f e lt)
]

up_put : (e : Export) (es : List Export) → Up es → Up (put_by_name e es)
up_put e [] up = (tt, tt)
up_put e (f ∷ fs) up = elim (cases_Bool (comes_before f e)) [
  | inl lt ↦ subst Up (sym (put-before e f fs lt)) (put_above f e fs lt up.0, up_put e fs up.1)
  | inr ge ↦ subst Up (sym (put-here e f fs ge)) (ge, up)
]

up_in_order : (es : List Export) → Up (by_name es)
up_in_order [] = tt
up_in_order (e ∷ es) = up_put e (by_name es) (up_in_order es)

up_at : (es : List Export) → Up es → (k : ℕ) (d : Export) → suc k < length es → comes_before (get_or es (suc k) d) (get_or es k d) ≡ false
up_at [] up k d lt = absurd (omega arith)
up_at (e ∷ []) up k d lt = absurd (omega arith)
up_at (e ∷ (f ∷ fs)) up zero d lt = up.0
up_at (e ∷ (f ∷ fs)) up (suc k) d lt = up_at (f ∷ fs) up.1 k d (omega arith)

sorted : (es : List Export) → Up es → IsSortedBy comes_before es
sorted es up k d low lt =
    let next : suc k ≡ k + 1 = omega arith in
    subst (λ (n : ℕ). comes_before (get_or es n d) (get_or es k d) ≡ false) next (up_at es up k d (omega arith))

-- the exports of an accepted trie are those that its paths spell
pub exports_are : (trie : List ℕ) → trie_break trie ≡ None → AreExports trie (exports_of trie)
unfolding exports_of
exports_are trie none =
    let walk = accepted_walk trie none in
    let found = tree_exports trie (length trie) [] 0 in
    sorted_exports trie found (by_name found) (record { made = walk.made; reached = walk.reached; listed = walk.listed; few = subst (λ (l : List Export). too_many l ≡ false) (sym walk.listed) (few_exports trie walk.reached) }) (order_moves found) (sorted (by_name found) (up_in_order found))

pub exports_only : (trie : List ℕ) (exports : List Export) → trie_break trie ≡ None → AreExports trie exports → exports ≡ exports_of trie
exports_only trie exports none are = one_list trie exports (exports_of trie) are (exports_are trie none)

-- a trie that was written has the exports that it was written from
member_at : (export : Export) (exports : List Export) → Member export exports → (P : Export → Type 0) → All P exports → P export
member_at export exports member P all =
    let at = Member-Contains export exports member in subst P at.2 (all at.0 export at.1)

pub read_back : (exports : List Export) (bytes : List ℕ) → bytes ≡ trie_bytes exports → IsWritable exports → All (λ (e : Export). HasNumber e.target) exports → (trie_break bytes ≡ None) × (exports_of bytes ≡ exports)
read_back exports bytes is writable numbers =
    let back = round_trip exports bytes is writable (λ export member. member_at export exports member (λ (e : Export). HasNumber e.target) numbers) in
    (back.0, sym (exports_only bytes exports back.0 back.1))
