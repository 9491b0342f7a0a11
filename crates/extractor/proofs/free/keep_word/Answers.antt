use Rattle.std.proofs.Common.{sym, ◌∙◌}
use Rattle.extractor.specs.Free.{lists}
use Rattle.extractor.proofs.FreeLaws.{homeless}
use Rattle.extractor.proofs.free.keep_word.Goals as goal

pub returns-in-None : goal.returns-in-None
returns-in-None c = homeless c.args.start c.args.word c.args.images.now (lists c.args.free.now.items) (sym c.in-None.is ∙ c.requires.home)
