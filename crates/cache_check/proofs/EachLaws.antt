-- Findings that are looked for in one image after the other.
use Rattle.std.proofs.Common.{◌≡◌, ◌≤◌, ◌<◌, ℕ, ◌+◌, Option, Some, None, List, [], ◌∷◌, ◌++◌, map, take, drop, length, get_or, refl, sym, ap, ap₂, ◌∙◌, subst}
use Rattle.std.specs.Option.{option_or}
use Rattle.std.proofs.lemmas.List.{drop_more, drop_all, take_more, map-append}
use Rattle.dsc_base.specs.declared.fault.Finding.{Finding}
use Rattle.dsc_base.specs.declared.fault.Site.{Site}
use Rattle.dsc_base.specs.declared.fault.Fault.{Fault}
use Rattle.dsc_base.specs.declared.fault.Fault.TheVariants.{Broken, Memory}
use Rattle.dsc_base.specs.declared.fault.ViewFault.{ViewFault}
use Rattle.dsc_base.specs.declared.fault.ViewFault.TheVariants.{Broken as BrokenView, Memory as ViewMemory}
use Rattle.dsc_base.specs.declared.finding_kind.FindingKind.{FindingKind}
use Rattle.dsc_base.specs.Refusals.{IsRefusal, IsViewRefusal}
use Rattle.cache_header.specs.Findings.{finding}
use Rattle.cache_check.specs.Images.{each_of, rule_finding}
use Rattle.cache_check.specs.Steps.Faults.{in_view}

-- nothing is found of the first n
pub record AreClear {X : Type 0} (finds : ℕ → X → Option Finding) (xs : List X) (n : ℕ) : Type 0 where
  pub rest : each_of finds n (drop n xs) ≡ each_of finds 0 xs

pub clear_start : {X : Type 0} (finds : ℕ → X → Option Finding) (xs : List X) → AreClear finds xs 0
clear_start finds xs = record { rest = refl }

-- the next one decides
step : {X : Type 0} (finds : ℕ → X → Option Finding) (xs : List X) (n : ℕ) (x : X) → AreClear finds xs n → n < length xs → x ≡ get_or xs n x
    → option_or (finds n x) (each_of finds (n + 1) (drop (n + 1) xs)) ≡ each_of finds 0 xs
unfolding each_of
step {X = X} finds xs n x clear lt at =
    sym (ap (λ (l : List X). each_of finds n l) (drop_more xs n x lt ∙ ap (λ (y : X). y ∷ drop (n + 1) xs) (sym at))) ∙ clear.rest

pub clear_more : {X : Type 0} (finds : ℕ → X → Option Finding) (xs : List X) (n : ℕ) (x : X) → AreClear finds xs n → n < length xs → x ≡ get_or xs n x → finds n x ≡ None → AreClear finds xs (n + 1)
clear_more {X = X} finds xs n x clear lt at none =
    record { rest = sym (ap (λ (o : Option Finding). option_or o (each_of finds (n + 1) (drop (n + 1) xs))) none) ∙ step finds xs n x clear lt at }

pub clear_refused : {X : Type 0} (finds : ℕ → X → Option Finding) (xs : List X) (n : ℕ) (x : X) (fault : ViewFault) → AreClear finds xs n → n < length xs → x ≡ get_or xs n x → IsViewRefusal (finds n x) fault → IsViewRefusal (each_of finds 0 xs) fault
clear_refused {X = X} finds xs n x (BrokenView f) clear lt at found =
    sym (step finds xs n x clear lt at) ∙ ap (λ (o : Option Finding). option_or o (each_of finds (n + 1) (drop (n + 1) xs))) found
clear_refused {X = X} finds xs n x ViewMemory clear lt at found = tt

pub clear_none : {X : Type 0} (finds : ℕ → X → Option Finding) (xs : List X) (n : ℕ) → AreClear finds xs n → length xs ≤ n → each_of finds 0 xs ≡ None
unfolding each_of
clear_none {X = X} finds xs n clear all = sym clear.rest ∙ ap (λ (l : List X). each_of finds n l) (drop_all n xs all)

-- a rule that an image breaks
pub rule_refused : (kind : FindingKind) (k : ℕ) (found : Option Site) (fault : Fault) (answer : ViewFault) → IsRefusal found fault → answer ≡ in_view kind k fault → IsViewRefusal (rule_finding kind k found) answer
rule_refused kind k found (Broken site) answer is handed =
    subst (λ (a : ViewFault). IsViewRefusal (rule_finding kind k found) a) (sym handed) (ap (λ (o : Option Site). rule_finding kind k o) is)
rule_refused kind k found Memory answer is handed = subst (λ (a : ViewFault). IsViewRefusal (rule_finding kind k found) a) (sym handed) tt

-- what was made of the first n
pub grown : {X Y : Type 0} (f : X → Y) (xs : List X) (n : ℕ) (x : X) (ys ys' : List Y) (y : Y) → n < length xs → x ≡ get_or xs n x → ys ≡ map f (take n xs) → y ≡ f x → ys' ≡ ys ++ y ∷ [] → ys' ≡ map f (take (n + 1) xs)
grown {X = X} {Y = Y} f xs n x ys ys' y lt at old new pushed =
    let more : take (n + 1) xs ≡ take n xs ++ x ∷ [] = take_more xs n x lt ∙ ap (λ (z : X). take n xs ++ z ∷ []) (sym at) in
    pushed ∙ (ap₂ (λ (l : List Y) (z : Y). l ++ z ∷ []) old new ∙ (sym (map-append f (take n xs) (x ∷ [])) ∙ sym (ap (λ (l : List X). map f l) more)))

-- a finding that is there
pub found_at : (there : Option Finding) (kind : FindingKind) (k at place : ℕ) (answer : ViewFault) → there ≡ Some (finding kind k at) → place ≡ at → answer ≡ BrokenView (finding kind k place) → IsViewRefusal there answer
found_at there kind k at place answer is same handed =
    subst (λ (a : ViewFault). IsViewRefusal there a) (sym (handed ∙ ap (λ (p : ℕ). BrokenView (finding kind k p)) same)) is
