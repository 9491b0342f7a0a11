use Rattle.std.proofs.Common.{◌*◌}
use Rattle.macho_image.specs.Nlists.{nlist_at}
use Rattle.nlist_table.proofs.ListLaws.{made_more}
use Rattle.nlist_table.proofs.entry.read_entries.Goals as goal

pub loop-k-preserved : goal.loop-k-preserved
loop-k-preserved c =
    made_more (λ k. nlist_at c.args.bytes.now (16 * k)) c.loop-k.k c.loop-k.entries.items c.push.new.self.items c.entry_at.result c.loop-k.invariant c.entry_at.ensures c.in_ok-push.ensures.items
