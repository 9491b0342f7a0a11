-- Words that are moved one after the other: those that are left are as they were.
use Rattle.std.proofs.Common.{◌≡◌, ◌≤◌, ℕ, ◌+◌, List, [], ◌∷◌, ◌++◌, map, length, sym, ap, subst, refl, ◌∙◌, arith}
use Rattle.std.proofs.lemmas.List.{append-nil, append_assoc}
use Rattle.dsc_base.specs.Numbers.{number_at, put_number}
use Rattle.dsc_base.specs.Edits.{change_all}
use Rattle.dsc_base.proofs.NumberLaws.{number_at-put_other, length-put_number}
use Rattle.slide_chain.specs.Chains.{moved, moving}
use Rattle.slide_chain.specs.Steps.Apart.{KeepsApart, AreApart}
use Rattle.slide_chain.proofs.MarkLaws.{AllOf, AllOf-map}
use Rattle.slide_chain.proofs.ApartLaws.{apart-right, apart-before, apart-skip}

-- ---- words that are moved

length-moved : (mask value_add slide : ℕ) (done b : List ℕ) → AllOf (λ p. p + 8 ≤ length b) done → length (change_all (map (moving mask value_add slide) done) b) ≡ length b
unfolding change_all
length-moved mask value_add slide [] b inside = refl
length-moved mask value_add slide (p ∷ done) b inside =
    let after : List ℕ = put_number 8 b p (moved mask value_add slide (number_at 8 b p)) in
    let step : length (put_number 8 b p (moved mask value_add slide (number_at 8 b p))) ≡ length b = length-put_number 8 b p (moved mask value_add slide (number_at 8 b p)) inside.0 in
    length-moved mask value_add slide done after (AllOf-map (λ q. q + 8 ≤ length b) (λ q. q + 8 ≤ length after) done (λ q le. omega (arith, le, step)) inside.1) ∙ step

-- a word apart from all that are moved
moved-apart : (mask value_add slide : ℕ) (done b : List ℕ) (a : ℕ) → AllOf (λ p. p + 8 ≤ length b) done → KeepsApart a done → number_at 8 (change_all (map (moving mask value_add slide) done) b) a ≡ number_at 8 b a
unfolding change_all
moved-apart mask value_add slide [] b a inside apart = refl
moved-apart mask value_add slide (p ∷ done) b a inside apart =
    let after : List ℕ = put_number 8 b p (moved mask value_add slide (number_at 8 b p)) in
    let step : length (put_number 8 b p (moved mask value_add slide (number_at 8 b p))) ≡ length b = length-put_number 8 b p (moved mask value_add slide (number_at 8 b p)) inside.0 in
    moved-apart mask value_add slide done after a (AllOf-map (λ q. q + 8 ≤ length b) (λ q. q + 8 ≤ length after) done (λ q le. omega (arith, le, step)) inside.1) apart.1
    ∙ number_at-put_other 8 b p (moved mask value_add slide (number_at 8 b p)) 8 a (omega (arith, inside.0)) apart.0

moved-append : (mask value_add slide : ℕ) (xs ys b : List ℕ) → change_all (map (moving mask value_add slide) (xs ++ ys)) b ≡ change_all (map (moving mask value_add slide) ys) (change_all (map (moving mask value_add slide) xs) b)
unfolding change_all
moved-append mask value_add slide [] ys b = refl
moved-append mask value_add slide (x ∷ xs) ys b = moved-append mask value_add slide xs ys (put_number 8 b x (moved mask value_add slide (number_at 8 b x)))

-- ---- what is done and what is left

-- some of the places were moved, and the others are left
pub record Moving (mask value_add : ℕ) (before now left whole : List ℕ) : Type 0 where
  pub done : List ℕ
  pub parts : done ++ left ≡ whole
  pub is : now ≡ change_all (map (moving mask value_add 0) done) before

change_none : (b : List ℕ) → change_all [] b ≡ b
unfolding change_all
change_none b = refl

pub moving-none : (mask value_add : ℕ) (before whole : List ℕ) → Moving mask value_add before before whole whole
moving-none mask value_add before whole = record { done = []; parts = refl; is = sym (change_none before) }

pub moving-all : (mask value_add : ℕ) (before now left whole : List ℕ) → left ≡ [] → Moving mask value_add before now left whole → now ≡ change_all (map (moving mask value_add 0) whole) before
moving-all mask value_add before now left whole none state =
    state.is ∙ ap (λ (l : List ℕ). change_all (map (moving mask value_add 0) l) before) (sym (append-nil state.done) ∙ (ap (λ (l : List ℕ). state.done ++ l) (sym none) ∙ state.parts))

-- the next ones are moved too
pub moving-more : (mask value_add : ℕ) (before now after own rest left whole : List ℕ) → left ≡ own ++ rest → after ≡ change_all (map (moving mask value_add 0) own) now
    → Moving mask value_add before now left whole → Moving mask value_add before after rest whole
moving-more mask value_add before now after own rest left whole split is state = record {
  done = state.done ++ own;
  parts = append_assoc state.done own rest ∙ (ap (λ (l : List ℕ). state.done ++ l) (sym split) ∙ state.parts);
  is = is ∙ (ap (change_all (map (moving mask value_add 0) own)) state.is ∙ sym (moved-append mask value_add 0 state.done own before));
}

pub AllOf-left : (P : ℕ → Type 0) (xs ys : List ℕ) → AllOf P (xs ++ ys) → AllOf P xs
AllOf-left P [] ys all = tt
AllOf-left P (x ∷ xs) ys all = (all.0, AllOf-left P xs ys all.1)

pub AllOf-right : (P : ℕ → Type 0) (xs ys : List ℕ) → AllOf P (xs ++ ys) → AllOf P ys
AllOf-right P [] ys all = all
AllOf-right P (x ∷ xs) ys all = AllOf-right P xs ys all.1

pub still : (mask value_add : ℕ) (before now done left : List ℕ) → AllOf (λ p. p + 8 ≤ length before) done → AreApart (done ++ left) → now ≡ change_all (map (moving mask value_add 0) done) before
    → AllOf (λ a. number_at 8 now a ≡ number_at 8 before a) left
still mask value_add before now done [] inside apart is = tt
still mask value_add before now done (a ∷ left) inside apart is = (
  ap (λ (b : List ℕ). number_at 8 b a) is ∙ moved-apart mask value_add 0 done before a inside (apart-before done a left apart),
  still mask value_add before now done left inside (apart-skip done a left apart) is,
)

-- those that are left have the numbers they had
pub moving-still : (mask value_add : ℕ) (before now left whole : List ℕ) → AllOf (λ p. p + 8 ≤ length before) whole → AreApart whole → Moving mask value_add before now left whole
    → AllOf (λ a. number_at 8 now a ≡ number_at 8 before a) left
moving-still mask value_add before now left whole inside apart state =
    still mask value_add before now state.done left (AllOf-left (λ p. p + 8 ≤ length before) state.done left (subst (AllOf (λ p. p + 8 ≤ length before)) (sym state.parts) inside))
    (subst AreApart (sym state.parts) apart) state.is

pub moving-apart : (mask value_add : ℕ) (before now left whole : List ℕ) → AreApart whole → Moving mask value_add before now left whole → AreApart left
moving-apart mask value_add before now left whole apart state = apart-right state.done left (subst AreApart (sym state.parts) apart)

pub moving-left : (P : ℕ → Type 0) (mask value_add : ℕ) (before now left whole : List ℕ) → AllOf P whole → Moving mask value_add before now left whole → AllOf P left
moving-left P mask value_add before now left whole all state = AllOf-right P state.done left (subst (AllOf P) (sym state.parts) all)
