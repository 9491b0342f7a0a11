-- Reading sections from the front and segments in command order, one at a time.
use Rattle.std.proofs.Common.{◌≡◌, ℕ, suc, List, [], ◌∷◌, ◌++◌, drop, sym, ap, ap₂, ◌∙◌, append_assoc}
use Rattle.macho_image.specs.Macho.{section_fields, sections_in}
use Rattle.macho_image.specs.Records.{SectionLoad}

pub sections_step : (done done' all : List SectionLoad) (left left' : ℕ) (rest rest' : List ℕ) (x : SectionLoad) → all ≡ done ++ sections_in left rest → left ≡ suc left' → rest' ≡ drop 80 rest
    → x ≡ section_fields rest → done' ≡ done ++ x ∷ [] → all ≡ done' ++ sections_in left' rest'
sections_step done done' all left left' rest rest' x so_far more cut is pushed =
    let next : sections_in left rest ≡ x ∷ sections_in left' rest' =
    ap (λ (k : ℕ). sections_in k rest) more ∙ ap₂ (λ (y : SectionLoad) (r : List ℕ). y ∷ sections_in left' r) (sym is) (sym cut) in
    so_far ∙ (ap (λ (l : List SectionLoad). done ++ l) next ∙ (sym (append_assoc done (x ∷ []) (sections_in left' rest')) ∙ ap (λ (l : List SectionLoad). l ++ sections_in left' rest') (sym pushed)))
