use Rattle.std.proofs.Common.{option_map, Bor, List, ℕ}
use Rattle.dsc_tool.proofs.Clap.Parsing.{parsed, refused}
use Rattle.dsc_tool.proofs.split.split_words.Goals as goal

pub returns-in_ok-matched_parts-in-Ok-clause-parts : goal.returns-in_ok-matched_parts-in-Ok-clause-parts
returns-in_ok-matched_parts-in-Ok-clause-parts c =
    parsed _ (option_map (λ (l : Bor (List ℕ)). l.now) c.args.long) c.args.words.now c.in-Ok.matches c.in_ok-matched_parts-in-Ok.field-0 c.in_ok-command.ensures c.in-Ok.ensures.kinds
    c.in-Ok.ensures.matches c.in_ok-matched_parts-in-Ok.ensures

pub returns-in-Err-clause-cause : goal.returns-in-Err-clause-cause
returns-in-Err-clause-cause c =
    refused _ (option_map (λ (l : Bor (List ℕ)). l.now) c.args.long) c.args.words.now c.in-Err.error c.parse_fault.result c.in_ok-command.ensures c.in-Err.ensures.kinds c.parse_fault.ensures
