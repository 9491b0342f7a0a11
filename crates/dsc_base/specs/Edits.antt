-- Numbers that are set in bytes: what a list of them leaves, where they lie, and when they keep apart.
use Rattle.std.specs.Prelude.{◌≡◌, ◌≤◌, ◌<◌, ◌⊎◌, ℕ, ◌+◌, ◌^◌, List, [], ◌∷◌}
use Rattle.dsc_base.specs.Numbers.{number_at, put_number}
use Rattle.dsc_base.specs.declared.edits.Edit.{Edit}

-- the bytes after all the edits, in order
unfoldable pub put_all : List Edit → List ℕ → List ℕ
put_all [] bytes = bytes
put_all (e ∷ es) bytes = put_all es (put_number e.width bytes e.at e.value)

-- each edit lies wholly in the first n bytes
abbrev pub AllInside : ℕ → List Edit → Type 0
AllInside n [] = Unit {0}
AllInside n (e ∷ es) = (e.at + e.width ≤ n) × AllInside n es

-- each value fits its width
abbrev pub AllFit : List Edit → Type 0
AllFit [] = Unit {0}
AllFit (e ∷ es) = (e.value < 256 ^ e.width) × AllFit es

-- the bytes from place at, as many as width, share none with an edit
abbrev pub ApartFrom : ℕ → ℕ → List Edit → Type 0
ApartFrom at width [] = Unit {0}
ApartFrom at width (e ∷ es) = ((at + width ≤ e.at) ⊎ (e.at + e.width ≤ at)) × ApartFrom at width es

-- no two edits share a byte
abbrev pub AllApart : List Edit → Type 0
AllApart [] = Unit {0}
AllApart (e ∷ es) = ApartFrom e.at e.width es × AllApart es

-- the edits follow one another, the first not below a place
abbrev pub RisesFrom : ℕ → List Edit → Type 0
RisesFrom place [] = Unit {0}
RisesFrom place (e ∷ es) = (place ≤ e.at) × RisesFrom (e.at + e.width) es

-- the bytes have each edit's number at its place
abbrev pub Holds : List ℕ → List Edit → Type 0
Holds bytes [] = Unit {0}
Holds bytes (e ∷ es) = (number_at e.width bytes e.at ≡ e.value) × Holds bytes es

abbrev pub IsAmong : Edit → List Edit → Type 0
IsAmong x [] = ⊥
IsAmong x (e ∷ es) = (x ≡ e) ⊎ IsAmong x es

-- the same edit n bytes further on
abbrev pub further : ℕ → Edit → Edit
further n e = record { at = n + e.at; width = e.width; value = e.value }

-- a number that becomes another one, by what it was
pub record Change : Type 0 where
  pub at : ℕ
  pub width : ℕ
  pub becomes : ℕ → ℕ

-- the bytes after all the changes, in order
unfoldable pub change_all : List Change → List ℕ → List ℕ
change_all [] bytes = bytes
change_all (c ∷ cs) bytes = change_all cs (put_number c.width bytes c.at (c.becomes (number_at c.width bytes c.at)))

-- the edit that a change is on these bytes
abbrev pub settled : List ℕ → Change → Edit
settled bytes c = record { at = c.at; width = c.width; value = c.becomes (number_at c.width bytes c.at) }
