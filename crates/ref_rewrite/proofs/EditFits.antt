-- Edits that are appended one by one, and whose values fit.
use Rattle.std.proofs.Common.{◌≡◌, ◌<◌, ◌+◌, ◌^◌, ℕ, List, [], ◌∷◌, ◌++◌, map, take, length, get_or, subst, sym, ap, ◌∙◌, append_assoc}
use Rattle.std.proofs.lemmas.List.{map-append, take_more}
use Rattle.dsc_base.specs.declared.edits.Edit.{Edit}
use Rattle.dsc_base.specs.Edits.{AllFit}

pub mapped_more : {X Y Z : Type 0} (f : Y → Z) (g : X → Y) (xs : List X) (i : ℕ) (d : X) (old mid new : List Z) → i < length xs → mid ≡ old ++ map f (map g (take i xs)) → new ≡ mid ++ f (g (get_or xs i d)) ∷ []
    → new ≡ old ++ map f (map g (take (i + 1) xs))
mapped_more {X} {Y} {Z} f g xs i d old mid new lt before pushed =
    let x : X = get_or xs i d in
    pushed
    ∙ (ap (λ (zs : List Z). zs ++ f (g x) ∷ []) before
    ∙ (append_assoc old (map f (map g (take i xs))) (f (g x) ∷ [])
    ∙ ap (λ (zs : List Z). old ++ zs)
    (sym (ap (λ (l : List X). map f (map g l)) (take_more xs i d lt) ∙ (ap (λ (ys : List Y). map f ys) (map-append g (take i xs) (x ∷ [])) ∙ map-append f (map g (take i xs)) (g x ∷ []))))))

fit_push : (es : List Edit) (e : Edit) → AllFit es → e.value < 256 ^ e.width → AllFit (es ++ e ∷ [])
fit_push [] e all fits = (fits, tt)
fit_push (x ∷ xs) e all fits = (all.0, fit_push xs e all.1 fits)

pub fit_pushed : (old new : List Edit) (e : Edit) → new ≡ old ++ e ∷ [] → e.value < 256 ^ e.width → AllFit old → AllFit new
fit_pushed old new e pushed fits all = subst AllFit (sym pushed) (fit_push old e all fits)
