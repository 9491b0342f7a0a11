-- Tests, taken apart and put together.
use Rattle.std.proofs.Common.{◌≡◌, ◌⊎◌, inl, inr, Bool, true, false, refl, sym, ◌∙◌}
use Rattle.std.proofs.lemmas.Bool.{false≢true}

pub bool_cases : (b : Bool) → (b ≡ false) ⊎ (b ≡ true)
bool_cases true = inr refl
bool_cases false = inl refl

pub clash : (b : Bool) → b ≡ true → b ≡ false → ⊥
clash b t f = false≢true (sym f ∙ t)
