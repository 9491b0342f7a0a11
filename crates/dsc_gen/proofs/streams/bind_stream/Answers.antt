-- Each turn appends the opcodes of one link.
use Rattle.std.proofs.Common.{◌+◌}
use Rattle.dsc_gen.proofs.WordLaws.{listed_binds, all_binds}
use Rattle.dsc_gen.proofs.streams.bind_stream.Goals as goal

pub loop-j-preserved : goal.loop-j-preserved
loop-j-preserved c = listed_binds c.args.ordinal c.args.pointers c.args.symbols.now c.loop-j.j _ _ _ c.loop-j-test.true c.loop-j.invariant c.in_ok-put_bind.ensures

pub returns : goal.returns
returns c = all_binds c.args.ordinal c.args.pointers (c.args.pointers + c.loop-j.j) c.args.symbols.now c.loop-j.j _ _ c.loop-j-test.false c.loop-j.invariant c.in_ok-push.ensures.items
