use Rattle.std.proofs.lemmas.Result.{IfOk-weaker}
use Rattle.clap.specs.Matches.{found_of}
use Rattle.dsc_tool.proofs.Clap.Parsing.{found_plain, found_none}
use Rattle.dsc_tool.proofs.split.plain_words.Goals as goal

pub returns-in-Some : goal.returns-in-Some
returns-in-Some c =
    IfOk-weaker c.from_slice.result _ _ (λ v is. found_plain (found_of c.args.matches.now) c.get_strs.result c.in-Some.words v.items c.in-Some.is is c.get_strs.ensures) c.from_slice.ensures.items

pub returns-in-None : goal.returns-in-None
returns-in-None c = found_none (found_of c.args.matches.now) c.get_strs.result c.new.result.items c.in-None.is c.new.ensures.items c.get_strs.ensures
