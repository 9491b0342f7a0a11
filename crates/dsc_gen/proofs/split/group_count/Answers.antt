-- Each turn counts one group.
use Rattle.std.proofs.Common.{◌<◌, ap, length, arith, length-drop}
use Rattle.dsc_gen.proofs.SplitLaws.{no_delta, len_some, counted_more, none_counted}
use Rattle.dsc_gen.proofs.split.group_count.Goals as goal

pub loop-rest-smaller : goal.loop-rest-smaller
loop-rest-smaller c =
    let some = len_some c.loop-rest.rest.now no_delta c.in-len1-up.len_at_least in
    let less : length c.split_at.result.1.now < length c.loop-rest.rest.now =
    omega (arith, some, c.same_len.ensures.len, ap length c.split_at.ensures.back, length-drop c.same_len.result c.loop-rest.rest.now, c.in-len1-up.len_at_least) in
    less

pub loop-rest-preserved : goal.loop-rest-preserved
loop-rest-preserved c =
    let some = len_some c.loop-rest.rest.now no_delta c.in-len1-up.len_at_least in
    record {
      counted = counted_more c.loop-rest.rest.now no_delta c.same_len.result c.loop-rest.count _ c.split_at.result.1.now c.in-len1-up.len_at_least c.same_len.ensures.len c.split_at.ensures.back c.loop-rest.invariant.counted;
      within = omega (arith, some, c.same_len.ensures.len, ap length c.split_at.ensures.back, length-drop c.same_len.result c.loop-rest.rest.now, c.in-len1-up.len_at_least, c.loop-rest.invariant.within);
    }

pub returns : goal.returns
returns c = omega (arith, c.loop-rest.invariant.counted, none_counted c.loop-rest.rest.now c.in_default.len_below)
