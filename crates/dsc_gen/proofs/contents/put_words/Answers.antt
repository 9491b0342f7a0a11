-- Each turn appends one word.
use Rattle.std.proofs.Common.{◌≡◌, ◌∙◌, ◌++◌, ap, get_or, List, ℕ, rules}
use Rattle.dsc_base.specs.Numbers.{little_bytes}
use Rattle.dsc_gen.proofs.WordLaws.{bytes_more, bytes_all}
use Rattle.dsc_gen.proofs.contents.put_words.Goals as goal

pub loop-word-preserved : goal.loop-word-preserved
loop-word-preserved c =
    let i : ℕ = c.loop-word.word-index in
    let bytes : c.to_le_bytes.result ≡ little_bytes 4 (get_or c.args.words.now i 0) = search rules in
    bytes_more c.args.words.now i _ _ _ c.loop-word-test.true c.loop-word.invariant (c.in_ok-extend_from_slice.ensures.items ∙ ap (λ (l : List ℕ). c.loop-word.out.items ++ l) bytes)

pub returns : goal.returns
returns c = bytes_all c.args.words.now c.loop-word.word-index _ _ c.loop-word-test.false c.loop-word.invariant
