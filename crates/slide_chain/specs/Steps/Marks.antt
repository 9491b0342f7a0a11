-- Counters for the places of one page: the k-th counts how often the word is reached that begins 4 * k bytes on.
use Rattle.std.specs.Prelude.{◌≡◌, ℕ, zero, suc, ◌+◌, ◌*◌, ◌/◌, ◌||◌, List, [], ◌∷◌, slice_index, slice_set, nat_eq, if◌then◌else◌}
use Rattle.dsc_base.specs.Numbers.{number_at}
use Rattle.slide_chain.specs.Chains.{delta_of}

-- the sum of f over places
unfoldable pub weight : (ℕ → ℕ) → List ℕ → ℕ
weight f [] = 0
weight f (p ∷ places) = f p + weight f places

-- the sum of f over n counters from the k-th on, each taken as often as it counts
unfoldable pub counted : (ℕ → ℕ) → List ℕ → ℕ → ℕ → ℕ
counted f marks k zero = 0
counted f marks k (suc n) = slice_index marks k * f k + counted f marks (k + 1) n

-- the counters of the page count these places, each as often as it stands there
abbrev pub AreCounted : List ℕ → ℕ → List ℕ → Type 0
AreCounted marks page places = (f : ℕ → ℕ) → counted (λ k. f (page + k * 4)) marks 0 1023 ≡ weight f places

-- the counters after the step from the k-th place
unfoldable pub followed : ℕ → List ℕ → ℕ → ℕ → List ℕ → List ℕ
followed mask area page k marks =
    if nat_eq (slice_index marks k) 0 || nat_eq (delta_of mask (number_at 8 area (page + k * 4)) / 4) 0 then marks
    else slice_set marks (k + delta_of mask (number_at 8 area (page + k * 4)) / 4) (slice_index marks (k + delta_of mask (number_at 8 area (page + k * 4)) / 4) + slice_index marks k)
