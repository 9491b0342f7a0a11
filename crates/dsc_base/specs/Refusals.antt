-- What a refusal is: a broken rule at a place of a file or of an image of a set, or a finding in a cache; which of several comes first; and how an answer stands to what it looks for.
use Rattle.std.specs.Prelude.{◌≡◌, ℕ, ◌+◌, min, List, [], ◌∷◌, Option, Some, None, option_map, Result, Ok, Err}
use Rattle.std.specs.Option.{option_or}
use Rattle.dsc_base.specs.declared.rule.Rule.{Rule}
use Rattle.dsc_base.specs.declared.fault.Site.{Site}
use Rattle.dsc_base.specs.declared.fault.Break.{Break}
use Rattle.dsc_base.specs.declared.fault.Finding.{Finding}
use Rattle.dsc_base.specs.declared.fault.Fault.{Fault}
use Rattle.dsc_base.specs.declared.fault.Fault.TheVariants.{Broken, Memory}
use Rattle.dsc_base.specs.declared.fault.SetFault.{SetFault}
use Rattle.dsc_base.specs.declared.fault.SetFault.TheVariants.{Broken as BrokenSet, Memory as SetMemory}
use Rattle.dsc_base.specs.declared.fault.ViewFault.{ViewFault}
use Rattle.dsc_base.specs.declared.fault.ViewFault.TheVariants.{Broken as BrokenView, Memory as ViewMemory}

-- ---- which comes first

-- the lower of two places
abbrev pub least : Option ℕ → Option ℕ → Option ℕ
least None other = other
least (Some a) None = Some a
least (Some a) (Some b) = Some (min a b)

-- a rule that is broken at a place, if it is
abbrev pub broken : Rule → Option ℕ → Option Site
broken rule place = option_map (λ n. record { rule = rule; at = n }) place

-- the first of several breaks
abbrev pub first_break : {B : Type 0} → List (Option B) → Option B
first_break [] = None
first_break (b ∷ bs) = option_or b (first_break bs)

-- a break of image k as one of the set
abbrev pub in_image : ℕ → Site → Break
in_image k s = record { rule = s.rule; image = k; at = s.at }

-- the first break of the files or images from number k on, where each is tried by itself
unfoldable pub in_each : {X : Type 0} → (X → Option Site) → ℕ → List X → Option Break
in_each breaks k [] = None
in_each breaks k (x ∷ xs) = option_or (option_map (in_image k) (breaks x)) (in_each breaks (k + 1) xs)

-- a fault of image k as one of the set
abbrev pub in_set : ℕ → Fault → SetFault
in_set k (Broken s) = BrokenSet (in_image k s)
in_set k Memory = SetMemory

-- ---- how an answer stands to it: a broken rule or a finding is the one that is there, memory may be wanting at any time, and Ok comes only where there is none

abbrev pub IsRefusal : Option Site → Fault → Type 0
IsRefusal found (Broken site) = found ≡ Some site
IsRefusal found Memory = Unit {0}

abbrev pub Refuses : {X : Type 0} → Option Site → Result X Fault → Type 0
Refuses found (Ok x) = found ≡ None
Refuses found (Err fault) = IsRefusal found fault

abbrev pub IsSetRefusal : Option Break → SetFault → Type 0
IsSetRefusal found (BrokenSet b) = found ≡ Some b
IsSetRefusal found SetMemory = Unit {0}

abbrev pub RefusesSet : {X : Type 0} → Option Break → Result X SetFault → Type 0
RefusesSet found (Ok x) = found ≡ None
RefusesSet found (Err fault) = IsSetRefusal found fault

abbrev pub IsViewRefusal : Option Finding → ViewFault → Type 0
IsViewRefusal found (BrokenView f) = found ≡ Some f
IsViewRefusal found ViewMemory = Unit {0}

abbrev pub RefusesView : {X : Type 0} → Option Finding → Result X ViewFault → Type 0
RefusesView found (Ok x) = found ≡ None
RefusesView found (Err fault) = IsViewRefusal found fault
