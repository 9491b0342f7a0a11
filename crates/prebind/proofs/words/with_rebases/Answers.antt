use Rattle.std.proofs.Common.{◌++◌, List, Option, nat_eq, sym, ap, subst, ◌∙◌}
use Rattle.indexmap.specs.IndexMap.{get}
use Rattle.indexmap.specs.IndexSet.{contains}
use Rattle.dsc_base.specs.declared.fault.Site.{Site}
use Rattle.dsc_base.specs.Refusals.{IsRefusal}
use Rattle.prebind.specs.declared.resolved.PlacedWord.{PlacedWord}
use Rattle.prebind.specs.Words.{AreOrdered}
use Rattle.prebind.proofs.PlaceLaws.{looked_words, looked_fault}
use Rattle.prebind.proofs.words.with_rebases.Goals as goal

pub returns-in-Err-clause-cause : goal.returns-in-Err-clause-cause
returns-in-Err-clause-cause c =
    subst (λ (o : Option Site). IsRefusal o c.in-Err.fault)
    (looked_fault c.args.segments.now (contains nat_eq c.in_ok-bound.bound) (get nat_eq c.in_ok-pointers.pointers) c.args.binds.now c.args.references.now c.args.rebases.now c.in_ok-bound.ensures c.in_ok-pointers.ensures)
    c.in-Err.ensures.cause

pub returns-clause-found : goal.returns-clause-found
returns-clause-found c =
    subst (λ (ws : List PlacedWord). AreOrdered ws c.sort_words.new.words.items)
    (c.in-Ok.ensures.placed
    ∙ ap (λ (ws : List PlacedWord). c.args.placed.items ++ ws)
    (looked_words c.args.image c.args.segments.now (contains nat_eq c.in_ok-bound.bound) (get nat_eq c.in_ok-pointers.pointers) c.args.binds.now c.args.references.now c.args.rebases.now c.in_ok-bound.ensures c.in_ok-pointers.ensures))
    c.in_ok-sort_words.ensures

pub returns-clause-cause : goal.returns-clause-cause
returns-clause-cause c =
    sym (looked_fault c.args.segments.now (contains nat_eq c.in_ok-bound.bound) (get nat_eq c.in_ok-pointers.pointers) c.args.binds.now c.args.references.now c.args.rebases.now c.in_ok-bound.ensures c.in_ok-pointers.ensures)
    ∙ c.in-Ok.ensures.cause
