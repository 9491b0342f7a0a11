-- How an answer stands to whether bytes spell something.
use Rattle.std.proofs.Common.{◌≡◌, Option, Some, None, refl, sym, ap, subst, ◌∙◌}
use Rattle.dsc_base.specs.declared.fault.Site.{Site}
use Rattle.dsc_base.specs.declared.fault.Fault.{Fault}
use Rattle.dsc_base.specs.declared.fault.Fault.TheVariants.{Broken, Memory}
use Rattle.dsc_base.specs.Refusals.{IsRefusal}
use Rattle.patch_table.specs.Reading.{misshapen, IsBreakOf}

pub found_none : (X : Type 0) (found : Option Site) → IsBreakOf X found → X → found ≡ None
found_none X None is x = refl
found_none X (Some s) is x = absurd (is.1 x)

pub found_some : (X : Type 0) (found : Option Site) → IsBreakOf X found → (X → ⊥) → found ≡ Some misshapen
found_some X None is none = absurd (none is)
found_some X (Some s) is none = ap Some is.0

-- what a part is refused for the whole is refused for, which has the part
pub refused_part : (Whole Part : Type 0) (fault : Fault) → (Whole → Part) → ((found : Option Site) → IsBreakOf Part found → IsRefusal found fault) → (found : Option Site) → IsBreakOf Whole found → IsRefusal found fault
refused_part Whole Part Memory has refused found is = tt
refused_part Whole Part (Broken s) has refused found is =
    let none : Part → ⊥ = λ p. let e : None ≡ Some s = refused None p in absurd (cc) in
    found_some Whole found is (λ w. none (has w)) ∙ refused (Some misshapen) (refl, none)

pub refused_misshapen : (X : Type 0) (fault : Fault) → fault ≡ Broken misshapen → (X → ⊥) → (found : Option Site) → IsBreakOf X found → IsRefusal found fault
refused_misshapen X fault is none found break = subst (IsRefusal found) (sym is) (found_some X found break none)
