-- The value is the word without the mask's bits.
use Rattle.std.proofs.Common.{◌≡◌, ◌∙◌, ◌++◌, ◌∷◌, [], ◌+◌, ◌-◌, ◌%◌, ◌^◌, List, ℕ, sym, ap, arith}
use Rattle.std.specs.Prelude.{bit_and}
use Rattle.std.proofs.lemmas.List.{append-nil}
use Rattle.dsc_base.specs.Numbers.{number_at}
use Rattle.slide_chain.specs.declared.words.ChainWord.{ChainWord}
use Rattle.slide_chain.specs.Chains.{kept}
use Rattle.slide_chain.proofs.WordLaws.{kept-and_not}
use Rattle.slide_chain.proofs.PageLaws.{word-there, word-none}
use Rattle.slide_chain.proofs.gathering.push_word.Goals as goal

pub returns-in_ok-push : goal.returns-in_ok-push
returns-in_ok-push c =
    let is : bit_and c.get_u64.result (18446744073709551615 - c.args.mask) ≡ kept c.args.mask (number_at 8 c.args.area.now c.args.at) =
    kept-and_not c.args.mask c.get_u64.result (omega arith) (omega arith) ∙ ap (kept c.args.mask) c.get_u64.ensures in
    c.in_ok-push.ensures.items
    ∙ ap (λ (l : List ChainWord). c.args.words.now.items ++ l)
    (ap (λ (v : ℕ). let w : ChainWord = record { offset = c.args.at; value = (v + c.args.value_add) % 2 ^ 64 } in w ∷ []) is
    ∙ sym (word-there c.args.mask c.args.value_add c.args.area.now c.args.at (λ none. c.if-value-ne0.true (is ∙ none))))

pub returns-else-value-ne0 : goal.returns-else-value-ne0
returns-else-value-ne0 c =
    let is : bit_and c.get_u64.result (18446744073709551615 - c.args.mask) ≡ kept c.args.mask (number_at 8 c.args.area.now c.args.at) =
    kept-and_not c.args.mask c.get_u64.result (omega arith) (omega arith) ∙ ap (kept c.args.mask) c.get_u64.ensures in
    sym (ap (λ (l : List ChainWord). c.args.words.now.items ++ l) (word-none c.args.mask c.args.value_add c.args.area.now c.args.at (sym is ∙ c.if-value-ne0.false)) ∙ append-nil c.args.words.now.items)
