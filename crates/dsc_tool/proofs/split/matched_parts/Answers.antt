use Rattle.std.proofs.Common.{◌∙◌, codes}
use Rattle.clap.specs.Matches.{found_of}
use Rattle.clap.proofs.WalkLemmas.{first_value-rows}
use Rattle.dsc_tool.proofs.split.matched_parts.Goals as goal

pub returns : goal.returns
returns c = record { value = c.get_str.ensures ∙ first_value-rows (found_of c.args.matches.now) (codes "value"); plain = c.in_ok-plain_words.ensures }
