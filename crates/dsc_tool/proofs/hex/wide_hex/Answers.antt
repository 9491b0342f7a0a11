use Rattle.std.proofs.Common.{◌++◌, ◌∙◌, ℕ, List, [], false, ap}
use Rattle.std.specs.Fmt.{digits_onto}
use Rattle.dsc_tool.proofs.HexLaws.{all_digits}
use Rattle.dsc_tool.proofs.hex.wide_hex.Goals as goal

pub returns : goal.returns
returns c = c.in_ok-push_digits.ensures ∙ (ap (λ (l : List ℕ). l ++ digits_onto 64 16 false c.args.number []) c.new-text.ensures.bytes ∙ all_digits c.args.number)
