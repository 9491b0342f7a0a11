-- Each turn appends one group.
use Rattle.std.proofs.Common.{◌<◌, ap, length, arith, length-drop}
use Rattle.dsc_gen.proofs.SplitLaws.{no_delta, len_some, groups_more, groups_all}
use Rattle.dsc_gen.proofs.split.put_groups.Goals as goal

pub loop-rest-smaller : goal.loop-rest-smaller
loop-rest-smaller c =
    let some = len_some c.loop-rest.rest.now no_delta c.in-len1-up.len_at_least in
    let less : length c.split_at.result.1.now < length c.loop-rest.rest.now =
    omega (arith, some, c.same_len.ensures.len, ap length c.split_at.ensures.back, length-drop c.same_len.result c.loop-rest.rest.now, c.in-len1-up.len_at_least) in
    less

pub loop-rest-preserved : goal.loop-rest-preserved
loop-rest-preserved c =
    groups_more c.loop-rest.rest.now no_delta c.same_len.result c.loop-rest.last c.saturating_sub.result c.split_at.result.0.now c.split_at.result.1.now c.loop-rest.out.items c.put_group.new.out.items _
    c.in-len1-up.len_at_least c.same_len.ensures.len c.split_at.ensures.front c.split_at.ensures.back c.saturating_sub.ensures c.loop-rest.invariant c.in_ok-put_group.ensures

pub returns : goal.returns
returns c = groups_all c.loop-rest.rest.now c.loop-rest.last c.loop-rest.out.items _ c.in_default.len_below c.loop-rest.invariant
