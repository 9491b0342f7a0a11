use Rattle.std.proofs.Common.{◌+◌, get_or}
use Rattle.std.specs.Prelude.{nat_lt}
use Rattle.std.specs.List.{flat_map}
use Rattle.slide_chain.specs.Chains.{chain, extra_heads}
use Rattle.slide_chain.proofs.MadeLaws.{marked-large, marked-small}
use Rattle.slide_chain.proofs.MovingLaws.{moving-none}
use Rattle.slide_chain.proofs.ApartLaws.{filter-empty}
use Rattle.slide_chain.proofs.SlideLaws.{words-fit, running-fits, running-head, running-more, running-ends, running-over}
use Rattle.slide_chain.proofs.unsliding.unslide_run.Goals as goal

pub loop-extra-init : goal.loop-extra-init
loop-extra-init c = record {
  heads = filter-empty (nat_lt (c.args.page + 0xFF8)) (extra_heads c.args.page c.args.extras.now) c.requires.heads;
  state = moving-none c.args.mask c.args.value_add c.args.area.now (flat_map (chain c.args.mask c.args.area.now (c.args.page + 0xFF8) 1024) (extra_heads c.args.page c.args.extras.now));
}

pub unslide_chain-requires-clause-head : goal.unslide_chain-requires-clause-head
unslide_chain-requires-clause-head c = running-head c.args.mask c.args.value_add c.args.page c.args.area.now c.loop-extra.area c.args.extras.now c.loop-extra.extra-index c.loop-extra-test.true c.loop-extra.invariant

pub unslide_chain-requires-clause-stays : goal.unslide_chain-requires-clause-stays
unslide_chain-requires-clause-stays c =
    (running-fits c.args.mask c.args.value_add c.args.page c.args.area.now c.loop-extra.area c.args.extras.now c.loop-extra.extra-index c.loop-extra-test.true
    (words-fit c.args.mask c.args.page c.args.area.now (extra_heads c.args.page c.args.extras.now) c.requires.inside c.requires.stays c.requires.apart) c.loop-extra.invariant).stays

pub unslide_chain-requires-clause-apart : goal.unslide_chain-requires-clause-apart
unslide_chain-requires-clause-apart c =
    (running-fits c.args.mask c.args.value_add c.args.page c.args.area.now c.loop-extra.area c.args.extras.now c.loop-extra.extra-index c.loop-extra-test.true
    (words-fit c.args.mask c.args.page c.args.area.now (extra_heads c.args.page c.args.extras.now) c.requires.inside c.requires.stays c.requires.apart) c.loop-extra.invariant).apart

pub loop-extra-preserved : goal.loop-extra-preserved
loop-extra-preserved c =
    running-more c.args.mask c.args.value_add c.args.page c.args.area.now c.loop-extra.area c.unslide_chain.new.area c.args.extras.now c.loop-extra.extra-index c.loop-extra-test.true
    (marked-small (get_or c.args.extras.now c.loop-extra.extra-index 0) c.if-extra-ge-MARKED.false)
    (words-fit c.args.mask c.args.page c.args.area.now (extra_heads c.args.page c.args.extras.now) c.requires.inside c.requires.stays c.requires.apart) c.unslide_chain.ensures c.loop-extra.invariant

pub returns-then-extra-ge-MARKED : goal.returns-then-extra-ge-MARKED
returns-then-extra-ge-MARKED c =
    running-ends c.args.mask c.args.value_add c.args.page c.args.area.now c.loop-extra.area c.unslide_chain.new.area c.args.extras.now c.loop-extra.extra-index c.loop-extra-test.true
    (marked-large (get_or c.args.extras.now c.loop-extra.extra-index 0) c.if-extra-ge-MARKED.true)
    (words-fit c.args.mask c.args.page c.args.area.now (extra_heads c.args.page c.args.extras.now) c.requires.inside c.requires.stays c.requires.apart) c.unslide_chain.ensures c.loop-extra.invariant

pub returns : goal.returns
returns c = running-over c.args.mask c.args.value_add c.args.page c.args.area.now c.loop-extra.area c.args.extras.now c.loop-extra.extra-index c.loop-extra-test.false c.loop-extra.invariant
