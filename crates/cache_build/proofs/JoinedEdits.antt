-- Edits that keep apart or fit, in lists that are joined of what each item and its number give.
use Rattle.std.proofs.Common.{◌≡◌, ◌≤◌, ◌<◌, ◌⊎◌, ℕ, suc, ◌+◌, ◌^◌, Some, List, [], ◌∷◌, ◌++◌, map, refl, arith, inl, inr}
use Rattle.std.specs.Prelude.{slice_get}
use Rattle.std.specs.List.{flat_map, enumerate_from}
use Rattle.dsc_base.specs.declared.edits.Edit.{Edit}
use Rattle.dsc_base.specs.Edits.{AllFit, ApartFrom, AllApart, IsAmong}
use Rattle.load_model.proofs.WordCases.{IsOf, of_map}
use Rattle.cache_build.proofs.AmongLaws.{IsGiven, given_at}
use Rattle.cache_build.proofs.Memberships.{among_in}

-- what is among edits that are made of items is made of one of them
pub among_of_map : {X : Type 0} (f : X → Edit) (xs : List X) (e : Edit) → IsAmong e (map f xs) → IsOf f xs e
among_of_map f xs e among = of_map f xs e (among_in (map f xs) e among)

-- ---- edits that fit

pub fit_each : (es : List Edit) → ((e : Edit) → IsAmong e es → e.value < 256 ^ e.width) → AllFit es
fit_each [] each = tt
fit_each (e ∷ es) each = (each e (inl refl), fit_each es (λ x among. each x (inr among)))

-- ---- edits that keep apart

-- two edits share no byte
abbrev pub KeepApart : Edit → Edit → Type 0
KeepApart d e = (d.at + d.width ≤ e.at) ⊎ (e.at + e.width ≤ d.at)

pub apart_each : (at width : ℕ) (es : List Edit) → ((e : Edit) → IsAmong e es → (at + width ≤ e.at) ⊎ (e.at + e.width ≤ at)) → ApartFrom at width es
apart_each at width [] each = tt
apart_each at width (e ∷ es) each = (each e (inl refl), apart_each at width es (λ x among. each x (inr among)))

from_both : (at width : ℕ) (xs ys : List Edit) → ApartFrom at width xs → ApartFrom at width ys → ApartFrom at width (xs ++ ys)
from_both at width [] ys first second = second
from_both at width (x ∷ xs) ys first second = (first.0, from_both at width xs ys first.1 second)

pub apart_both : (xs ys : List Edit) → AllApart xs → AllApart ys → ((x y : Edit) → IsAmong x xs → IsAmong y ys → KeepApart x y) → AllApart (xs ++ ys)
apart_both [] ys first second across = second
apart_both (x ∷ xs) ys first second across = (
  from_both x.at x.width xs ys first.0 (apart_each x.at x.width ys (λ y among. across x y (inl refl) among)),
  apart_both xs ys first.1 second (λ a b in_a in_b. across a b (inr in_a) in_b),
)

-- lists that are joined, where each keeps apart, and what one gives keeps apart from what a later one gives
pub apart_joined : {X : Type 0} (h : ℕ → X → List Edit) (n : ℕ) (xs : List X)
    → ((k m : ℕ) (x : X) → m ≡ n + k → slice_get xs k ≡ Some x → AllApart (h m x))
    → ((j k a b : ℕ) (x y : X) → j < k → a ≡ n + j → b ≡ n + k → slice_get xs j ≡ Some x → slice_get xs k ≡ Some y → (d e : Edit) → IsAmong d (h a x) → IsAmong e (h b y) → KeepApart d e)
    → AllApart (flat_map (λ p. h p.0 p.1) (enumerate_from n xs))
apart_joined h n [] own across = tt
apart_joined h n (x ∷ xs) own across =
    apart_both (h n x) (flat_map (λ p. h p.0 p.1) (enumerate_from (n + 1) xs)) (own 0 n x (omega arith) refl)
    (apart_joined h (n + 1) xs (λ k m y at got. own (suc k) m y (omega (arith, at)) got)
    (λ j k a b y z lt at_a at_b got_y got_z. across (suc j) (suc k) a b y z (omega (arith, lt)) (omega (arith, at_a)) (omega (arith, at_b)) got_y got_z))
    (λ d e in_d in_e.
    let g : IsGiven h (n + 1) xs e = given_at h (n + 1) xs e in_e in
    across 0 (suc g.number) n (n + 1 + g.number) x g.item (omega arith) (omega arith) (omega arith) refl g.item_is d e in_d g.among)
