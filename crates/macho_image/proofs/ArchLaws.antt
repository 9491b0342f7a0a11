-- Looking for an entry of a universal file, one entry at a time.
use Rattle.std.proofs.Common.{◌≡◌, ℕ, suc, false, List, ◌∷◌, drop, sym, ap, ap₂, ◌∙◌, Option, Some}
use Rattle.std.specs.Prelude.{find}
use Rattle.std.proofs.lemmas.Bool.{cond-false}
use Rattle.macho_image.specs.declared.universal.Arch.{Arch}
use Rattle.macho_image.specs.Universal.{arch_fields, archs_in, is_x86_64}

pub entry_passed : (found : Option Arch) (left left' : ℕ) (rest rest' : List ℕ) (a : Arch) → found ≡ find is_x86_64 (archs_in left rest) → left ≡ suc left' → a ≡ arch_fields rest → rest' ≡ drop 20 rest → is_x86_64 a ≡ false
    → found ≡ find is_x86_64 (archs_in left' rest')
entry_passed found left left' rest rest' a so_far more is cut other =
    so_far
    ∙ (ap (λ (k : ℕ). find is_x86_64 (archs_in k rest)) more
    ∙ (ap₂ (λ (b : Arch) (r : List ℕ). find is_x86_64 (b ∷ archs_in left' r)) (sym is) (sym cut)
    ∙ cond-false (is_x86_64 a) (Some a) (find is_x86_64 (archs_in left' rest')) other))
