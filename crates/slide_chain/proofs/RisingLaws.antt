-- Words that rise: those below a place stand first.
use Rattle.std.proofs.Common.{◌≡◌, ◌<◌, ◌≤◌, ℕ, zero, suc, ◌+◌, List, [], ◌∷◌, length, take, drop, get_or, sym, ap, refl, ◌∙◌, arith}
use Rattle.std.specs.Prelude.{nat_lt, true, false}
use Rattle.std.specs.List.Sorted.{IsPartitionPoint}
use Rattle.std.proofs.lemmas.Bool.{ltb-true, ltb-false}
use Rattle.slide_chain.specs.Making.{front, rest, AreWords}
use Rattle.slide_chain.proofs.MadeLaws.{front-below, front-above, rest-below, rest-above}

words-above : (from : ℕ) (ws : List ℕ) (j d : ℕ) → AreWords from ws → j < length ws → from ≤ get_or ws j d
words-above from [] j d words within = absurd (omega arith)
words-above from (w ∷ ws) zero d words within = words.0
words-above from (w ∷ ws) (suc j) d words within = omega (arith, words.0, words-above (w + 8) ws j d words.3 (omega arith))

pub words-rise : (from : ℕ) (ws : List ℕ) → AreWords from ws → (i j d : ℕ) → i ≤ j → j < length ws → get_or ws i d ≤ get_or ws j d
words-rise from [] words i j d le within = absurd (omega arith)
words-rise from (w ∷ ws) words zero zero d le within = omega arith
words-rise from (w ∷ ws) words zero (suc j) d le within = omega (arith, words-above (w + 8) ws j d words.3 (omega arith))
words-rise from (w ∷ ws) words (suc i) zero d le within = absurd (omega arith)
words-rise from (w ∷ ws) words (suc i) (suc j) d le within = words-rise (w + 8) ws words.3 i j d (omega arith) (omega arith)

-- the index before which the words lie below a place, and from which on they don't
record Parts (end : ℕ) (ws : List ℕ) (i : ℕ) : Type 0 where
  inside : i ≤ length ws
  below : (k : ℕ) → k < i → get_or ws k 0 < end
  above : (k : ℕ) → i ≤ k → k < length ws → end ≤ get_or ws k 0

parts-next : (end w : ℕ) (ws : List ℕ) (i : ℕ) → Parts end (w ∷ ws) (suc i) → Parts end ws i
parts-next end w ws i parts = record {
  inside = omega (arith, parts.inside);
  below = λ k lt. parts.below (suc k) (omega arith);
  above = λ k le lt. parts.above (suc k) (omega arith) (omega arith);
}

parts-front : (end : ℕ) (ws : List ℕ) (i : ℕ) → Parts end ws i → take i ws ≡ front end ws
unfolding front
parts-front end [] zero parts = refl
parts-front end [] (suc i) parts = absurd (omega (arith, parts.inside))
parts-front end (w ∷ ws) zero parts = sym (front-above end w ws (parts.above 0 (omega arith) (omega arith)))
parts-front end (w ∷ ws) (suc i) parts =
    ap (λ (l : List ℕ). w ∷ l) (parts-front end ws i (parts-next end w ws i parts)) ∙ sym (front-below end w ws (parts.below 0 (omega arith)))

parts-rest : (end : ℕ) (ws : List ℕ) (i : ℕ) → Parts end ws i → drop i ws ≡ rest end ws
unfolding rest
parts-rest end [] zero parts = refl
parts-rest end [] (suc i) parts = absurd (omega (arith, parts.inside))
parts-rest end (w ∷ ws) zero parts = sym (rest-above end w ws (parts.above 0 (omega arith) (omega arith)))
parts-rest end (w ∷ ws) (suc i) parts =
    parts-rest end ws i (parts-next end w ws i parts) ∙ sym (rest-below end w ws (parts.below 0 (omega arith)))

-- what halving tells
abbrev pub IsPoint : ℕ → List ℕ → ℕ → Type 0
IsPoint end ws i = IsPartitionPoint (λ w. nat_lt w end ≡ true) (λ w. nat_lt w end ≡ false) ws i

parts-of : (end : ℕ) (ws : List ℕ) (i : ℕ) → i ≤ length ws → IsPoint end ws i → Parts end ws i
parts-of end ws i inside point = record {
  inside = inside;
  below = λ k lt. ltb-true (get_or ws k 0) end (point.0 k 0 (omega arith) lt);
  above = λ k le lt. ltb-false (get_or ws k 0) end (point.1 k 0 le lt);
}

pub point-front : (end : ℕ) (ws : List ℕ) (i : ℕ) → i ≤ length ws → IsPoint end ws i → take i ws ≡ front end ws
point-front end ws i inside point = parts-front end ws i (parts-of end ws i inside point)

pub point-rest : (end : ℕ) (ws : List ℕ) (i : ℕ) → i ≤ length ws → IsPoint end ws i → drop i ws ≡ rest end ws
point-rest end ws i inside point = parts-rest end ws i (parts-of end ws i inside point)
