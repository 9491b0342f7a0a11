-- The weak bind stream, which is read only to refuse it.
use Rattle.std.specs.Prelude.{ℕ, List, not, position, Option, nat_eq}
use Rattle.dsc_base.specs.declared.fault.Site.{Site}
use Rattle.dsc_base.specs.declared.rule.Rule.TheVariants.{WeakBinding}
use Rattle.dsc_base.specs.Refusals.{broken}

-- rule 81: the first byte that isn't 0
abbrev pub weak_break : List ℕ → Option Site
weak_break bytes = broken WeakBinding (position (λ x. not (nat_eq x 0)) bytes)
