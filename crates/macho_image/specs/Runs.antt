-- Runs of words: offsets a step apart in one segment, as one opcode of a stream records them.
use Rattle.std.specs.Prelude.{ℕ, ◌+◌, ◌*◌, List, [], ◌∷◌, map, Option, None}
use Rattle.std.specs.List.{range_with_len}
use Rattle.std.specs.Option.{option_or}
use Rattle.macho_image.specs.Places.{wrap}

-- n numbers from a on, t apart: a, a + t, .., a + (n - 1) t
abbrev pub progression : ℕ → ℕ → ℕ → List ℕ
progression a t n = map (λ k. wrap (a + k * t)) (range_with_len 0 n)

-- the first fault of records at these offsets, after so many of the stream; the test tells what is wrong at an offset after so many
abbrev pub first_fault : {F : Type 0} → (ℕ → ℕ → Option F) → ℕ → List ℕ → Option F
first_fault refused before [] = None
first_fault refused before (offset ∷ offsets) = option_or (refused offset before) (first_fault refused (before + 1) offsets)
