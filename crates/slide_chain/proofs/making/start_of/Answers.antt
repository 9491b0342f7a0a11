-- Where a page has extras, those before it are fewer than the limit.
use Rattle.slide_chain.proofs.MakeLaws.{start_many}
use Rattle.slide_chain.proofs.making.start_of.Goals as goal

pub returns-in_default : goal.returns-in_default
returns-in_default c = start_many c.args.count c.args.firsts.now c.in_default.len_at_least
