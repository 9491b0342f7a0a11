use Rattle.std.proofs.Common.{rules}
use Rattle.dsc_tool.proofs.ExtractLaws.{plain_utf8}
use Rattle.dsc_tool.proofs.extraction.text_of.Goals as goal

pub unwrap-requires : goal.unwrap-requires
unwrap-requires c = let text = plain_utf8 c.args.path.now c.requires in search rules
