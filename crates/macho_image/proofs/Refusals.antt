-- An answer that names a broken rule, or that gives no memory.
use Rattle.std.proofs.Common.{◌≡◌, Option, Some, sym, subst}
use Rattle.dsc_base.specs.declared.fault.Site.{Site}
use Rattle.dsc_base.specs.declared.fault.Fault.{Fault}
use Rattle.dsc_base.specs.declared.fault.Fault.TheVariants.{Broken}
use Rattle.dsc_base.specs.Refusals.{IsRefusal}

pub refuses_broken : (found : Option Site) (fault : Fault) (site : Site) → fault ≡ Broken site → found ≡ Some site → IsRefusal found fault
refuses_broken found fault site is there = subst (λ (f : Fault). IsRefusal found f) (sym is) there
