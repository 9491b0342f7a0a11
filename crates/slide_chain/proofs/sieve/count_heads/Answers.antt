-- A start leads to no word, to one, or to those of its extras.
use Rattle.std.proofs.Common.{◌≡◌, ◌+◌, ◌-◌, ◌%◌, ◌∙◌, length, drop, take, sym, ap, subst, refl, arith}
use Rattle.std.specs.Prelude.{nat_lt}
use Rattle.std.specs.List.{list_any}
use Rattle.std.proofs.lemmas.Bool.{ltb-true, ltb-false}
use Rattle.std.proofs.lemmas.List.{take_rest}
use Rattle.slide_chain.specs.Steps.Marks.{counted, AreCounted}
use Rattle.slide_chain.proofs.MarkLaws.{no-heads, single-head, single-outside, many-heads, filled-empty, few-push}
use Rattle.slide_chain.proofs.sieve.count_heads.Goals as goal

pub returns-then-start-eq-NO_WORD-clause-counted : goal.returns-then-start-eq-NO_WORD-clause-counted
returns-then-start-eq-NO_WORD-clause-counted c = λ passes.
    no-heads c.fill.new.self c.args.extras.now c.args.start
    (filled-empty c.fill.new.self (length c.args.marks.now) c.fill.ensures.len (λ k d within. c.fill.ensures.clones k d within refl)) c.if-start-eq-NO_WORD.true

pub returns-then-start-lt-MARKED-clause-counted : goal.returns-then-start-lt-MARKED-clause-counted
returns-then-start-lt-MARKED-clause-counted c = λ passes.
    single-head c.fill.new.self c.count_head.new.marks c.args.extras.now c.args.start (c.fill.ensures.len ∙ c.requires.places)
    (filled-empty c.fill.new.self (length c.args.marks.now) c.fill.ensures.len (λ k d within. c.fill.ensures.clones k d within refl)) c.if-start-eq-NO_WORD.false c.if-start-lt-MARKED.true
    (ltb-true c.args.start 1023 (sym c.count_head.ensures.inside ∙ passes)) (c.count_head.ensures.counted passes)

pub returns-then-start-lt-MARKED-clause-outside : goal.returns-then-start-lt-MARKED-clause-outside
returns-then-start-lt-MARKED-clause-outside c = λ fails.
    single-outside c.args.extras.now c.args.start c.if-start-eq-NO_WORD.false c.if-start-lt-MARKED.true (ltb-false c.args.start 1023 (sym c.count_head.ensures.inside ∙ fails))

pub count_run-requires-clause-empty : goal.count_run-requires-clause-empty
count_run-requires-clause-empty c = filled-empty c.fill.new.self (length c.args.marks.now) c.fill.ensures.len (λ k d within. c.fill.ensures.clones k d within refl)

pub returns-clause-counted : goal.returns-clause-counted
returns-clause-counted c = λ passes page.
    let rest : take (length c.args.extras.now - c.skipped.result) (drop c.skipped.result c.args.extras.now) ≡ drop (c.args.start % 0x4000) c.args.extras.now =
    take_rest c.args.extras.now c.skipped.result ∙ c.skipped.ensures.same in
    subst (AreCounted c.count_run.new.marks page)
    (sym (many-heads c.args.extras.now (take (length c.args.extras.now - c.skipped.result) (drop c.skipped.result c.args.extras.now)) page c.args.start c.if-start-lt-MARKED.false rest))
    (c.count_run.ensures.counted passes page)

pub returns-clause-outside : goal.returns-clause-outside
returns-clause-outside c = λ fails page.
    let rest : take (length c.args.extras.now - c.skipped.result) (drop c.skipped.result c.args.extras.now) ≡ drop (c.args.start % 0x4000) c.args.extras.now =
    take_rest c.args.extras.now c.skipped.result ∙ c.skipped.ensures.same in
    ap (list_any (nat_lt (page + 0xFF8)))
    (many-heads c.args.extras.now (take (length c.args.extras.now - c.skipped.result) (drop c.skipped.result c.args.extras.now)) page c.args.start c.if-start-lt-MARKED.false rest)
    ∙ c.count_run.ensures.outside fails page

pub returns-then-start-eq-NO_WORD-clause-few : goal.returns-then-start-eq-NO_WORD-clause-few
returns-then-start-eq-NO_WORD-clause-few c = λ passes.
    omega (arith, filled-empty c.fill.new.self (length c.args.marks.now) c.fill.ensures.len (λ k d within. c.fill.ensures.clones k d within refl) (λ k. 1))

pub returns-then-start-lt-MARKED-clause-few : goal.returns-then-start-lt-MARKED-clause-few
returns-then-start-lt-MARKED-clause-few c = λ passes.
    let none : counted (λ k. 1) c.fill.new.self 0 1023 ≡ 0 = filled-empty c.fill.new.self (length c.args.marks.now) c.fill.ensures.len (λ k d within. c.fill.ensures.clones k d within refl) (λ k. 1) in
    omega (
      arith,
      few-push c.fill.new.self c.count_head.new.marks c.args.start 0 (c.fill.ensures.len ∙ c.requires.places)
          (ltb-true c.args.start 1023 (sym c.count_head.ensures.inside ∙ passes)) (c.count_head.ensures.counted passes) (omega (arith, none)),
    )
