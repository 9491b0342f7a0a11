use Rattle.std.proofs.Common.{◌≡◌, ◌++◌, Result, Ok, Err, Option, not, nat_eq, OnOk, sym, ap, ◌∙◌, true≢false}
use Rattle.indexmap.specs.IndexMap.{get}
use Rattle.indexmap.specs.IndexSet.{contains}
use Rattle.dsc_base.specs.Refusals.{Refuses}
use Rattle.dsc_base.specs.declared.fault.Fault.{Fault}
use Rattle.dsc_base.specs.declared.fault.Site.{Site}
use Rattle.prebind.specs.Words as spec
use Rattle.prebind.specs.Kept.{any_breaks}
use Rattle.prebind.specs.WordRules.{rebase_fault}
use Rattle.prebind.proofs.KeptLaws.{kept_rules, rules_kept, none_any}
use Rattle.prebind.proofs.rebased.push_rebases.Goals as goal

pub returns-then-branch-clause-cause : goal.returns-then-branch-clause-cause
returns-then-branch-clause-cause c =
    kept_rules c.args.segments.now (contains nat_eq c.args.bound.now) (get nat_eq c.args.pointers.now) c.args.rebases.now
    (none_any (any_breaks c.args.segments.now (contains nat_eq c.args.bound.now) (get nat_eq c.args.pointers.now) c.args.rebases.now) (sym c.in_ok-place_rebases.ensures.kept ∙ c.if-branch.true))

pub returns-clause-placed : goal.returns-clause-placed
returns-clause-placed c = go c.check_rebases.result c.check_rebases.ensures
  where
    Placed : Type 0
    Placed = c.place_rebases.new.words.items ≡ c.args.words.now.items ++ spec.rebased_words c.args.image c.args.segments.now (contains nat_eq c.args.bound.now) (get nat_eq c.args.pointers.now) c.args.rebases.now

    fault : Option Site
    fault = rebase_fault c.args.segments.now (contains nat_eq c.args.bound.now) (get nat_eq c.args.pointers.now) c.args.rebases.now

    go : (r : Result (Unit {0}) Fault) → Refuses fault r → OnOk r Placed
    go (Ok u) none =
        let kept = rules_kept c.args.segments.now (contains nat_eq c.args.bound.now) (get nat_eq c.args.pointers.now) c.args.rebases.now none in
        absurd (true≢false (sym (c.in_ok-place_rebases.ensures.kept ∙ ap not kept) ∙ c.if-branch.false))
    go (Err f) found = tt
