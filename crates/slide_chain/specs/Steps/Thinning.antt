-- Extras without repetitions.
use Rattle.std.specs.Prelude.{◌≡◌, ℕ, ◌+◌, ◌*◌, ◌%◌, Bool, true, false, List, [], ◌∷◌, length, nat_eq, nat_lt, slice_index, if◌then◌else◌}
use Rattle.std.specs.List.{list_any}
use Rattle.slide_chain.specs.Chains.{is_marked, extra_heads}

-- an extra with a flag doesn't end its run, and its first word is named again behind it in the run
abbrev pub Repeats : List Bool → List ℕ → Type 0
Repeats [] [] = Unit {0}
Repeats [] (e ∷ es) = ⊥
Repeats (f ∷ fs) [] = ⊥
Repeats (f ∷ fs) (e ∷ es) =
    (f ≡ true → (is_marked e ≡ false) × ((page : ℕ) → list_any (nat_eq (page + e % 0x4000 * 4)) (extra_heads page es) ≡ true)) × Repeats fs es

-- the extras without a flag
unfoldable pub kept_extras : List Bool → List ℕ → List ℕ
kept_extras [] es = []
kept_extras (f ∷ fs) [] = []
kept_extras (f ∷ fs) (e ∷ es) = if f then kept_extras fs es else e ∷ kept_extras fs es

-- a start for the extras that were kept: it leads to the place that its first extra got, or nowhere if it led nowhere
unfoldable pub moved_start : ℕ → List ℕ → ℕ
moved_start start places =
    if nat_lt start 0x8000 then start
    else (if nat_lt (start % 0x4000) (length places) then 0x8000 + slice_index places (start % 0x4000) % 0x4000 else 0x4000)
