-- The mask's bits are taken off by their complement.
use Rattle.std.proofs.Common.{◌≡◌, ◌+◌, ◌-◌, ◌%◌, ◌^◌, ◌∙◌, [], sym, ap, arith, ℕ}
use Rattle.std.specs.Prelude.{bit_and}
use Rattle.slide_chain.specs.Chains.{Slide, kept, unslid}
use Rattle.slide_chain.proofs.WordLaws.{kept-and_not, slid_none, slid_some}
use Rattle.slide_chain.proofs.words.slid.Goals as goal

pub returns-then-value-eq0 : goal.returns-then-value-eq0
returns-then-value-eq0 c =
    let s : Slide = record { mask = c.args.mask; value_add = c.args.value_add; starts = []; extras = [] } in
    let none : kept c.args.mask c.args.raw ≡ 0 = sym (kept-and_not c.args.mask c.args.raw (omega arith) (omega arith)) ∙ c.if-value-eq0.true in
    sym (slid_none s c.args.slide c.args.raw none)

pub returns-else-value-eq0 : goal.returns-else-value-eq0
unfolding unslid
returns-else-value-eq0 c =
    let s : Slide = record { mask = c.args.mask; value_add = c.args.value_add; starts = []; extras = [] } in
    let is : bit_and c.args.raw (18446744073709551615 - c.args.mask) ≡ kept c.args.mask c.args.raw = kept-and_not c.args.mask c.args.raw (omega arith) (omega arith) in
    ap (λ (v : ℕ). ((v + c.args.value_add) % 2 ^ 64 + c.args.slide) % 2 ^ 64) is
    ∙ sym (slid_some s c.args.slide c.args.raw (λ none. c.if-value-eq0.false (is ∙ none)))
