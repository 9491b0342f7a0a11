-- The first break of images that are tried by their numbers.
use Rattle.std.proofs.Common.{◌≡◌, ◌<◌, ℕ, zero, suc, ◌+◌, Option, Some, None, map, refl, sym, ap, ◌∙◌, subst, arith, inl, inr}
use Rattle.std.specs.List.{range_with_len}
use Rattle.std.specs.Option.{option_or}
use Rattle.std.proofs.lemmas.Bool.{cases_lt}
use Rattle.dsc_base.specs.declared.fault.Break.{Break}
use Rattle.dsc_base.specs.declared.fault.SetFault.{SetFault}
use Rattle.dsc_base.specs.declared.fault.SetFault.TheVariants.{Broken, Memory}
use Rattle.dsc_base.specs.Refusals.{first_break, IsSetRefusal}
use Rattle.load_model.specs.Phases.{first_of}
use Rattle.macho_image.proofs.Unbroken.{or_none}

-- the first n images break nothing
abbrev pub AreUnbroken : (ℕ → Option Break) → ℕ → Type 0
AreUnbroken breaks n = (k : ℕ) → k < n → breaks k ≡ None

pub unbroken_more : (breaks : ℕ → Option Break) (n : ℕ) → AreUnbroken breaks n → breaks n ≡ None → AreUnbroken breaks (n + 1)
unbroken_more breaks n none last k lt = elim (cases_lt k n) [
  | inl below ↦ none k below
  | inr over ↦ let same : n ≡ k = omega (arith, over, lt) in subst (λ (j : ℕ). breaks j ≡ None) same last
]

none_from : (breaks : ℕ → Option Break) (a n : ℕ) → ((k : ℕ) → k < n → breaks (a + k) ≡ None) → first_break (map breaks (range_with_len a n)) ≡ None
none_from breaks a zero none = refl
none_from breaks a (suc n) none =
    let here : a ≡ a + 0 = omega arith in
    ap (λ (o : Option Break). option_or o (first_break (map breaks (range_with_len (a + 1) n)))) (ap breaks here ∙ none 0 (omega arith))
    ∙ none_from breaks (a + 1) n (λ k lt. let next : a + 1 + k ≡ a + suc k = omega arith in ap breaks next ∙ none (suc k) (omega (arith, lt)))

some_from : (breaks : ℕ → Option Break) (a n k : ℕ) (b : Break) → k < n → ((j : ℕ) → j < k → breaks (a + j) ≡ None) → breaks (a + k) ≡ Some b → first_break (map breaks (range_with_len a n)) ≡ Some b
some_from breaks a zero k b lt none found = absurd (omega arith)
some_from breaks a (suc n) zero b lt none found =
    let here : a ≡ a + 0 = omega arith in
    ap (λ (o : Option Break). option_or o (first_break (map breaks (range_with_len (a + 1) n)))) (ap breaks here ∙ found)
some_from breaks a (suc n) (suc k) b lt none found =
    let here : a ≡ a + 0 = omega arith in
    let at : a + 1 + k ≡ a + suc k = omega arith in
    ap (λ (o : Option Break). option_or o (first_break (map breaks (range_with_len (a + 1) n)))) (ap breaks here ∙ none 0 (omega arith))
    ∙ some_from breaks (a + 1) n k b (omega (arith, lt)) (λ j lt. let next : a + 1 + j ≡ a + suc j = omega arith in ap breaks next ∙ none (suc j) (omega (arith, lt))) (ap breaks at ∙ found)

pub first_none : (breaks : ℕ → Option Break) (n : ℕ) → AreUnbroken breaks n → first_of breaks n ≡ None
first_none breaks n none = none_from breaks 0 n (λ k lt. let same : 0 + k ≡ k = omega arith in ap breaks same ∙ none k lt)

pub first_refused : (breaks : ℕ → Option Break) (n k : ℕ) (fault : SetFault) → k < n → AreUnbroken breaks k → IsSetRefusal (breaks k) fault → IsSetRefusal (first_of breaks n) fault
first_refused breaks n k (Broken b) lt none found =
    let at : 0 + k ≡ k = omega arith in
    some_from breaks 0 n k b lt (λ j lt. let same : 0 + j ≡ j = omega arith in ap breaks same ∙ none j lt) (ap breaks at ∙ found)
first_refused breaks n k Memory lt none found = tt

-- and the other way: where there is no first break, none of them breaks anything
each_from : (breaks : ℕ → Option Break) (a n k : ℕ) → first_break (map breaks (range_with_len a n)) ≡ None → k < n → breaks (a + k) ≡ None
each_from breaks a zero k none lt = absurd (omega arith)
each_from breaks a (suc n) zero none lt =
    let here : a ≡ a + 0 = omega arith in
    ap breaks (sym here) ∙ (or_none (breaks a) (first_break (map breaks (range_with_len (a + 1) n))) none).0
each_from breaks a (suc n) (suc k) none lt =
    let at : a + 1 + k ≡ a + suc k = omega arith in
    ap breaks (sym at) ∙ each_from breaks (a + 1) n k (or_none (breaks a) (first_break (map breaks (range_with_len (a + 1) n))) none).1 (omega (arith, lt))

pub first_each : (breaks : ℕ → Option Break) (n : ℕ) → first_of breaks n ≡ None → AreUnbroken breaks n
first_each breaks n none k lt = let same : 0 + k ≡ k = omega arith in ap breaks (sym same) ∙ each_from breaks 0 n k none lt
