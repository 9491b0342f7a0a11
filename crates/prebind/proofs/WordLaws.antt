-- Bound words, one bind more at a time.
use Rattle.std.proofs.Common.{◌≡◌, ◌<◌, ◌≤◌, ◌+◌, ℕ, suc, List, drop, length, get_or, sym, ap, ◌∙◌, arith, Option, None}
use Rattle.std.specs.Option.{option_or}
use Rattle.std.proofs.Math.Seq.{drop-cons}
use Rattle.std.proofs.lemmas.List.{drop_all}
use Rattle.dsc_base.specs.declared.fault.Site.{Site}
use Rattle.dsc_base.specs.declared.fault.Fault.{Fault}
use Rattle.dsc_base.specs.Refusals.{IsRefusal}
use Rattle.dsc_base.specs.declared.fault.Fault.TheVariants.{Broken, Memory}
use Rattle.bind_ops.specs.Records.{BoundWord}
use Rattle.prebind.specs.Sets.{ImageSet}
use Rattle.prebind.specs.WordRules.{bind_fault, bind_fault_from}

-- the binds before index i break no rule
abbrev pub AreUnbroken : ImageSet → ℕ → List BoundWord → ℕ → Type 0
AreUnbroken set k binds i = bind_fault_from set k i (drop i binds) ≡ bind_fault_from set k 0 binds

here_fault : (set : ImageSet) (k i : ℕ) (binds : List BoundWord) (b : BoundWord) → i < length binds → b ≡ get_or binds i b → bind_fault_from set k i (drop i binds) ≡ option_or (bind_fault set k i b) (bind_fault_from set k (i + 1) (drop (i + 1) binds))
here_fault set k i binds b lt is =
    let next : suc i ≡ i + 1 = omega arith in
    ap (λ (l : List BoundWord). bind_fault_from set k i l) (drop-cons binds i b lt)
    ∙ (ap (λ (c : BoundWord). option_or (bind_fault set k i c) (bind_fault_from set k (i + 1) (drop (suc i) binds))) (sym is)
    ∙ ap (λ (n : ℕ). option_or (bind_fault set k i b) (bind_fault_from set k (i + 1) (drop n binds))) next)

pub unbroken_more : (set : ImageSet) (k i : ℕ) (binds : List BoundWord) (b : BoundWord) → i < length binds → b ≡ get_or binds i b → bind_fault set k i b ≡ None → AreUnbroken set k binds i → AreUnbroken set k binds (i + 1)
unbroken_more set k i binds b lt is none kept =
    sym (here_fault set k i binds b lt is ∙ ap (λ (o : Option Site). option_or o (bind_fault_from set k (i + 1) (drop (i + 1) binds))) none) ∙ kept

pub unbroken_all : (set : ImageSet) (k i : ℕ) (binds : List BoundWord) → length binds ≤ i → AreUnbroken set k binds i → bind_fault_from set k 0 binds ≡ None
unbroken_all set k i binds past kept = sym kept ∙ ap (λ (l : List BoundWord). bind_fault_from set k i l) (drop_all i binds past)

pub unbroken_refused : (set : ImageSet) (k i : ℕ) (binds : List BoundWord) (b : BoundWord) (fault : Fault) → i < length binds → b ≡ get_or binds i b → IsRefusal (bind_fault set k i b) fault → AreUnbroken set k binds i → IsRefusal (bind_fault_from set k 0 binds) fault
unbroken_refused set k i binds b Memory lt is refused kept = tt
unbroken_refused set k i binds b (Broken site) lt is refused kept =
    sym kept ∙ (here_fault set k i binds b lt is ∙ ap (λ (o : Option Site). option_or o (bind_fault_from set k (i + 1) (drop (i + 1) binds))) refused)
