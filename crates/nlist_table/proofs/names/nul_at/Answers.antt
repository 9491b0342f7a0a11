use Rattle.nlist_table.proofs.NameLaws.{nul_position}
use Rattle.nlist_table.proofs.names.nul_at.Goals as goal

pub returns : goal.returns
returns c = nul_position c.args.bytes.now c.memchr.result c.memchr.ensures
