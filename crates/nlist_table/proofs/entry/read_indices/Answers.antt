use Rattle.std.proofs.Common.{◌*◌}
use Rattle.dsc_base.specs.Numbers.{number_at}
use Rattle.nlist_table.proofs.ListLaws.{made_more}
use Rattle.nlist_table.proofs.entry.read_indices.Goals as goal

pub loop-k-preserved : goal.loop-k-preserved
loop-k-preserved c =
    made_more (λ k. number_at 4 c.args.bytes.now (4 * k)) c.loop-k.k c.loop-k.indices.items c.push.new.self.items c.get_u32.result c.loop-k.invariant c.get_u32.ensures c.in_ok-push.ensures.items
