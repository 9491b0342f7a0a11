use Rattle.std.proofs.Common.{length, sym, ◌∙◌, arith}
use Rattle.cache_check.specs.Bytes.{stray_of, stray_in}
use Rattle.cache_check.specs.Steps.Sides.{chain_view, pair_view}
use Rattle.cache_check.proofs.FirstLaws.{none_more, none_all, found_here}
use Rattle.cache_check.proofs.StrayLaws.{none_before, none_behind}
use Rattle.cache_check.proofs.strays.stray_in.Goals as goal

pub loop-index-init : goal.loop-index-init
loop-index-init c =
    none_before (chain_view c.args.chains.now) c.args.pointers.now c.args.number (pair_view c.args.pair.now) c.args.chains.now.rises c.args.chains.now.low c.count_before-index.result c.count_before-index.ensures.bound c.count_before-index.ensures.before

pub returns-then-from-end : goal.returns-then-from-end
returns-then-from-end c =
    none_behind (chain_view c.args.chains.now) c.args.pointers.now c.args.number (pair_view c.args.pair.now) c.args.chains.now.rises c.args.chains.now.low c.loop-index.index c.loop-index-test.true c.loop-index.invariant (omega (arith, c.if-from-end.true, c.end_of-end.ensures, c.from.ensures, c.from-in-loop-index.ensures))

pub returns-in-Some : goal.returns-in-Some
unfolding stray_in
returns-in-Some c =
    found_here (stray_of (chain_view c.args.chains.now) c.args.pointers.now c.args.number (pair_view c.args.pair.now)) c.loop-index.index (length c.args.chains.now.words.now) c.stray_of.result c.in-Some.stray c.loop-index.invariant c.loop-index-test.true c.stray_of.ensures c.in-Some.is

pub loop-index-preserved : goal.loop-index-preserved
loop-index-preserved c =
    none_more (stray_of (chain_view c.args.chains.now) c.args.pointers.now c.args.number (pair_view c.args.pair.now)) c.loop-index.index c.loop-index.invariant (sym c.stray_of.ensures ∙ c.in_default.is)

pub returns : goal.returns
unfolding stray_in
returns c =
    sym (none_all (stray_of (chain_view c.args.chains.now) c.args.pointers.now c.args.number (pair_view c.args.pair.now)) c.loop-index.index (length c.args.chains.now.words.now) c.loop-index.invariant c.loop-index-test.false (c.loop-index.auto.index-end c.count_before-index.ensures.bound))
