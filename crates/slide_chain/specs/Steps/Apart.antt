-- Places that keep apart.
use Rattle.std.specs.Prelude.{◌≤◌, ◌⊎◌, ℕ, ◌+◌, List, [], ◌∷◌}

-- each of the places is eight bytes or more from this one
abbrev pub KeepsApart : ℕ → List ℕ → Type 0
KeepsApart a [] = Unit {0}
KeepsApart a (p ∷ places) = ((a + 8 ≤ p) ⊎ (p + 8 ≤ a)) × KeepsApart a places

-- no two of the places are less than eight bytes apart
abbrev pub AreApart : List ℕ → Type 0
AreApart [] = Unit {0}
AreApart (a ∷ places) = KeepsApart a places × AreApart places
