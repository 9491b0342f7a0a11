use Rattle.std.proofs.Common.{◌≡◌, ◌∙◌, ◌+◌, ◌++◌, ap, drop, get_or, List, ℕ, rules}
use Rattle.dsc_base.specs.Numbers.{little_bytes}
use Rattle.macho_edit.specs.Tables.{words}
use Rattle.macho_edit.proofs.AppendLaws.{words_more, words_end}
use Rattle.macho_edit.proofs.tables.append_words.Goals as goal

pub loop-number-preserved : goal.loop-number-preserved
loop-number-preserved c =
    let i : ℕ = c.loop-number.number-index in
    let bytes : c.to_le_bytes.result ≡ little_bytes 4 (get_or c.args.numbers.now i 0) = search rules in
    ap (λ (l : List ℕ). l ++ words (drop (i + 1) c.args.numbers.now)) (c.in_ok-extend_from_slice.ensures.items ∙ ap (λ (l : List ℕ). c.loop-number.out.items ++ l) bytes)
    ∙ words_more c.args.numbers.now c.loop-number.out.items (c.args.out.now.items ++ words c.args.numbers.now) i c.loop-number-test.true c.loop-number.invariant

pub returns : goal.returns
returns c = words_end c.args.numbers.now c.loop-number.out.items (c.args.out.now.items ++ words c.args.numbers.now) c.loop-number.number-index c.loop-number-test.false c.loop-number.invariant
