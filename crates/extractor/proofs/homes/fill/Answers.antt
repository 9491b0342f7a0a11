use Rattle.std.proofs.Common.{List, Option, Some, ap, ◌∙◌}
use Rattle.std.specs.Prelude.{slice_set}
use Rattle.extractor.specs.declared.homes.Home.{Home}
use Rattle.extractor.proofs.HomeLaws.{set_next}
use Rattle.extractor.proofs.homes.fill.Goals as goal

pub loop-k-preserved : goal.loop-k-preserved
loop-k-preserved c =
    ap (λ (hs : List (Option Home)). slice_set hs c.loop-k.k (Some c.args.home)) c.loop-k.invariant ∙ set_next c.loop-k.k (Some c.args.home) c.args.homes.now c.loop-k-test.true
