use Rattle.cache_check.specs.Steps.Sides.{chain_view, pair_view}
use Rattle.cache_check.proofs.StrayLaws.{stray_there, stray_none}
use Rattle.cache_check.proofs.strays.stray_of.Goals as goal

pub returns-then-is_stray : goal.returns-then-is_stray
returns-then-is_stray c =
    stray_there (chain_view c.args.chains.now) c.args.pointers.now c.args.number (pair_view c.args.pair.now) c.args.index (record { offset = 0; value = 0 }) c.requires.inside c.is_stray.result c.stray.result c.is_stray.ensures c.if-is_stray.true c.stray.ensures

pub returns-else-is_stray : goal.returns-else-is_stray
returns-else-is_stray c =
    stray_none (chain_view c.args.chains.now) c.args.pointers.now c.args.number (pair_view c.args.pair.now) c.args.index (record { offset = 0; value = 0 }) c.requires.inside c.is_stray.result c.is_stray.ensures c.if-is_stray.false
