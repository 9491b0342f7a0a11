-- What stands in lists that are joined or numbered, and edits of a list that share a byte.
use Rattle.std.proofs.Common.{◌≡◌, ◌≤◌, ◌<◌, ◌⊎◌, ℕ, zero, suc, ◌+◌, Bool, true, false, ◌||◌, Some, List, [], ◌∷◌, map, refl, sym, ap, ◌∙◌, subst, arith, inl, inr}
use Rattle.std.specs.Prelude.{slice_get}
use Rattle.std.specs.List.{flat_map, enumerate_from, list_any}
use Rattle.std.proofs.lemmas.Bool.{cases_Bool, or_left, or_right}
use Rattle.dsc_base.specs.declared.edits.Edit.{Edit}
use Rattle.dsc_base.specs.Edits.{AllApart, ApartFrom, IsAmong}
use Rattle.load_model.proofs.WordCases.{IsIn, in_first, in_rest, in_cases, in_none, in_left, in_right, in_either}

-- ---- joined lists

pub record IsOfOne {X Y : Type 0} (f : X → List Y) (xs : List X) (y : Y) : Type 0 where
  pub from : X
  pub there : IsIn xs from
  pub inside : IsIn (f from) y

pub of_flat : {X Y : Type 0} (f : X → List Y) (xs : List X) (y : Y) → IsIn (flat_map f xs) y → IsOfOne f xs y
of_flat f [] y there = absurd (in_none y there)
of_flat f (x ∷ xs) y there = elim (in_either (f x) (flat_map f xs) y there) [
  | inl here ↦ record { from = x; there = in_first x xs; inside = here }
  | inr later ↦
      let rest : IsOfOne f xs y = of_flat f xs y later in
      record { from = rest.from; there = in_rest x xs rest.from rest.there; inside = rest.inside }
]

pub in_flat : {X Y : Type 0} (f : X → List Y) (xs : List X) (x : X) (y : Y) → IsIn xs x → IsIn (f x) y → IsIn (flat_map f xs) y
in_flat f [] x y there inside = absurd (in_none x there)
in_flat {Y = Y} f (z ∷ zs) x y there inside = elim (in_cases z zs x there) [
  | inl is ↦ in_left (f z) (flat_map f zs) y (subst (λ w. IsIn (f w) y) (sym is) inside)
  | inr later ↦ in_right (f z) (flat_map f zs) y (in_flat f zs x y later inside)
]

-- ---- numbered lists

pub record IsNumbered {X : Type 0} (n : ℕ) (xs : List X) (p : ℕ × X) : Type 0 where
  pub index : ℕ
  pub number : p.0 ≡ n + index
  pub found : slice_get xs index ≡ Some p.1

pub of_numbered : {X : Type 0} (n : ℕ) (xs : List X) (p : ℕ × X) → IsIn (enumerate_from n xs) p → IsNumbered n xs p
of_numbered n [] p there = absurd (in_none p there)
of_numbered {X = X} n (x ∷ xs) p there = elim (in_cases (n, x) (enumerate_from (n + 1) xs) p there) [
  | inl is ↦ subst (λ (q : ℕ × X). IsNumbered n (x ∷ xs) q) is (record { index = 0; number = omega arith; found = refl })
  | inr later ↦
      let rest : IsNumbered (n + 1) xs p = of_numbered (n + 1) xs p later in
      record { index = suc rest.index; number = omega (arith, rest.number); found = rest.found }
]

pub in_numbered : {X : Type 0} (n k m : ℕ) (xs : List X) (x : X) → slice_get xs k ≡ Some x → m ≡ n + k → IsIn (enumerate_from n xs) (m, x)
in_numbered n k m [] x got at = absurd (cc)
in_numbered {X = X} n zero m (y ∷ ys) x got at =
    let item : y ≡ x = cc in
    let number : n ≡ m = omega (arith, at) in
    subst (λ (z : X). IsIn ((n, y) ∷ enumerate_from (n + 1) ys) (m, z)) item (subst (λ (j : ℕ). IsIn ((n, y) ∷ enumerate_from (n + 1) ys) (j, y)) number (in_first (n, y) (enumerate_from (n + 1) ys)))
in_numbered n (suc k) m (y ∷ ys) x got at = in_rest (n, y) (enumerate_from (n + 1) ys) (m, x) (in_numbered (n + 1) k m ys x got (omega (arith, at)))

pub in_enumerated : {X : Type 0} (xs : List X) (k : ℕ) (x : X) → slice_get xs k ≡ Some x → IsIn (enumerate_from 0 xs) (k, x)
in_enumerated xs k x got = in_numbered 0 k k xs x got (omega arith)

-- ---- tests

pub of_any : {X : Type 0} (p : X → Bool) (xs : List X) → list_any p xs ≡ true → (x : X) × (IsIn xs x × (p x ≡ true))
of_any p [] is = absurd (cc)
of_any {X = X} p (x ∷ xs) is = elim (cases_Bool (p x)) [
  | inl here ↦ (x, (in_first x xs, here))
  | inr not_here ↦
      let rest = of_any p xs (later (p x) (list_any p xs) not_here is) in
      (rest.0, (in_rest x xs rest.0 rest.1.0, rest.1.1))
]
  where
    later : (a b : Bool) → a ≡ false → a || b ≡ true → b ≡ true
    later true b none some = absurd (cc)
    later false b none some = some

pub in_any : {X : Type 0} (p : X → Bool) (xs : List X) (x : X) → IsIn xs x → p x ≡ true → list_any p xs ≡ true
in_any p [] x there passes = absurd (in_none x there)
in_any p (z ∷ zs) x there passes = elim (in_cases z zs x there) [
  | inl is ↦ or_left (p z) (list_any p zs) (ap p is ∙ passes)
  | inr later ↦ or_right (p z) (list_any p zs) (in_any p zs x later passes)
]

-- ---- edits

pub among_in : (es : List Edit) (e : Edit) → IsAmong e es → IsIn es e
among_in [] e among = absurd among
among_in (d ∷ es) e (inl is) = subst (λ (x : Edit). IsIn (d ∷ es) x) (sym is) (in_first d es)
among_in (d ∷ es) e (inr later) = in_rest d es e (among_in es e later)

pub in_among : (es : List Edit) (e : Edit) → IsIn es e → IsAmong e es
in_among [] e there = absurd (in_none e there)
in_among (d ∷ es) e there = elim (in_cases d es e there) [
  | inl is ↦ inl (sym is)
  | inr later ↦ inr (in_among es e later)
]

apart_in : {X : Type 0} (f : X → Edit) (xs : List X) (x : X) (at width : ℕ) → ApartFrom at width (map f xs) → IsIn xs x → (at + width ≤ (f x).at) ⊎ ((f x).at + (f x).width ≤ at)
apart_in f [] x at width apart there = absurd (in_none x there)
apart_in f (z ∷ zs) x at width apart there = elim (in_cases z zs x there) [
  | inl is ↦ subst (λ y. (at + width ≤ (f y).at) ⊎ ((f y).at + (f y).width ≤ at)) is apart.0
  | inr later ↦ apart_in f zs x at width apart.1 later
]

-- a byte of an edit
abbrev pub IsByteOf : ℕ → Edit → Type 0
IsByteOf b e = (e.at ≤ b) × (b < e.at + e.width)

never_both : (b : ℕ) (d e : Edit) → (d.at + d.width ≤ e.at) ⊎ (e.at + e.width ≤ d.at) → IsByteOf b d → IsByteOf b e → ⊥
never_both b d e (inl before) one other = omega (arith, before, one.1, other.0)
never_both b d e (inr behind) one other = omega (arith, behind, one.0, other.1)

-- of edits that keep apart, one alone has a byte
pub only_one : {X : Type 0} (f : X → Edit) (xs : List X) (x y : X) (b : ℕ) → AllApart (map f xs) → IsIn xs x → IsIn xs y → IsByteOf b (f x) → IsByteOf b (f y) → x ≡ y
only_one f [] x y b apart one other here there = absurd (in_none x one)
only_one {X = X} f (z ∷ zs) x y b apart one other here there = elim (in_cases z zs x one) [
  | inl first ↦ elim (in_cases z zs y other) [
    | inl second ↦ sym first ∙ second
    | inr later ↦ absurd (never_both b (f z) (f y) (apart_in f zs y (f z).at (f z).width apart.0 later) (subst (λ (w : X). IsByteOf b (f w)) (sym first) here) there)
  ]
  | inr behind ↦ elim (in_cases z zs y other) [
    | inl second ↦ absurd (never_both b (f z) (f x) (apart_in f zs x (f z).at (f z).width apart.0 behind) (subst (λ (w : X). IsByteOf b (f w)) (sym second) there) here)
    | inr later ↦ only_one f zs x y b apart.1 behind later here there
  ]
]
