use Rattle.std.proofs.Common.{◌≡◌, take, map}
use Rattle.std.specs.List.{All}
use Rattle.dsc_base.specs.Edits.{AllFit}
use Rattle.macho_image.specs.Breaks.{IsSound}
use Rattle.prebind.specs.Steps.{set_of}
use Rattle.cache_layout.specs.Places.{numbered}
use Rattle.ref_rewrite.specs.Planned.{plan_in}
use Rattle.ref_rewrite.proofs.SetLaws.{AreUnbroken, AreBehind}
use Rattle.ref_rewrite.proofs.planning.plan.Given as goal

abbrev pub invariant-loop-number : goal.invariant-loop-number
invariant-loop-number l = record {
  made : l.plans.items ≡ numbered (plan_in l.layout (set_of l.set) (map (λ v. v.items) l.placed)) (take l.number l.set.images.now);
  fit : All (λ p. AllFit p.edits) l.plans.items;
  sound : All IsSound (take l.number l.set.images.now);
  parts : AreBehind l.parts l.set.images.now l.number;
  unbroken : AreUnbroken l.layout (set_of l.set) l.number;
}
