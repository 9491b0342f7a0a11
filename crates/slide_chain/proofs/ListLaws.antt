-- Rising words from an index on, as loops over them see them.
use Rattle.std.proofs.Common.{◌≡◌, ◌<◌, ◌≤◌, ℕ, zero, suc, ◌+◌, List, [], ◌∷◌, length, take, drop, get_or, ap, subst, ◌∙◌, arith}
use Rattle.std.proofs.Math.Seq.{drop-cons}
use Rattle.std.proofs.lemmas.List.{drop_all}
use Rattle.slide_chain.specs.Making.{step, step_to, AreWords, AllBelow}

-- the element at an index, and those behind it
pub drop-at : (xs : List ℕ) (i : ℕ) → i < length xs → drop i xs ≡ get_or xs i 0 ∷ drop (i + 1) xs
drop-at xs i within =
    let one : suc i ≡ i + 1 = omega arith in
    drop-cons xs i 0 within ∙ ap (λ (n : ℕ). get_or xs i 0 ∷ drop n xs) one

pub words-weaken : (low from : ℕ) (ws : List ℕ) → low ≤ from → AreWords from ws → AreWords low ws
words-weaken low from [] le words = tt
words-weaken low from (w ∷ ws) le words = (omega (arith, words.0), words.1, words.2, words.3)

pub words-drop : (i : ℕ) (ws : List ℕ) → AreWords 0 ws → AreWords 0 (drop i ws)
words-drop zero ws words = words
words-drop (suc i) [] words = tt
words-drop (suc i) (w ∷ ws) words = words-drop i ws (words-weaken 0 (w + 8) ws (omega arith) words.3)

-- what is known of the word at an index
pub words-at : (ws : List ℕ) (i : ℕ) → i < length ws → AreWords 0 ws → AreWords 0 (get_or ws i 0 ∷ drop (i + 1) ws)
words-at ws i within words = subst (AreWords 0) (drop-at ws i within) (words-drop i ws words)

pub below-at : (end : ℕ) (ws : List ℕ) (i : ℕ) → i < length ws → AllBelow end ws → get_or ws i 0 < end
below-at end [] i within below = absurd (omega arith)
below-at end (w ∷ ws) zero within below = below.0
below-at end (w ∷ ws) (suc i) within below = below-at end ws i (omega arith) below.1

-- the next word is eight bytes on or more
pub next-at : (ws : List ℕ) (i : ℕ) → i + 1 < length ws → AreWords 0 ws → get_or ws i 0 + 8 ≤ get_or ws (i + 1) 0
next-at ws i within words =
    let behind : AreWords (get_or ws i 0 + 8) (drop (i + 1) ws) = (words-at ws i (omega arith) words).3 in
    let first : AreWords (get_or ws i 0 + 8) (get_or ws (i + 1) 0 ∷ drop (i + 1 + 1) ws) = subst (AreWords (get_or ws i 0 + 8)) (drop-at ws (i + 1) within) behind in
    first.0

pub step_to-at : (limit a : ℕ) (ws : List ℕ) (i : ℕ) → i < length ws → step_to limit a (drop i ws) ≡ step limit a (get_or ws i 0)
unfolding step_to
step_to-at limit a ws i within = ap (step_to limit a) (drop-at ws i within)

pub step_to-past : (limit a : ℕ) (ws : List ℕ) (i : ℕ) → length ws ≤ i → step_to limit a (drop i ws) ≡ 0
unfolding step_to
step_to-past limit a ws i past = ap (step_to limit a) (drop_all i ws past)

pub words-take : (n from : ℕ) (ws : List ℕ) → AreWords from ws → AreWords from (take n ws)
words-take zero from ws words = tt
words-take (suc n) from [] words = tt
words-take (suc n) from (w ∷ ws) words = (words.0, words.1, words.2, words-take n (w + 8) ws words.3)
