-- A page has no word, one chain, or those of its extras.
use Rattle.std.proofs.Common.{◌≡◌, ◌∙◌, ◌+◌, ◌-◌, ◌%◌, List, [], ℕ, map, length, take, drop, sym, ap, subst}
use Rattle.std.specs.Prelude.{nat_lt, filter}
use Rattle.std.proofs.lemmas.List.{take_rest}
use Rattle.dsc_base.specs.Numbers.{number_at}
use Rattle.dsc_base.specs.Edits.{change_all}
use Rattle.slide_chain.specs.Chains.{delta_of, moving}
use Rattle.slide_chain.specs.Steps.Apart.{AreApart}
use Rattle.slide_chain.proofs.MarkLaws.{many-heads}
use Rattle.slide_chain.proofs.SlideLaws.{PageStays, page-stays, none-reached, single-reached, single-inside, many-reached}
use Rattle.slide_chain.proofs.unsliding.unslide_page.Goals as goal

pub returns-then-start-eq-NO_WORD : goal.returns-then-start-eq-NO_WORD
unfolding change_all
returns-then-start-eq-NO_WORD c =
    sym (ap (λ (l : List ℕ). change_all (map (moving c.args.mask c.args.value_add 0) l) c.args.area.now) (none-reached c.args.mask c.args.extras.now c.args.area.now c.args.page c.args.start c.if-start-eq-NO_WORD.true))

pub unslide_chain-requires-clause-head : goal.unslide_chain-requires-clause-head
unslide_chain-requires-clause-head c =
    single-inside c.args.mask c.args.extras.now c.args.area.now c.args.page c.args.start c.if-start-eq-NO_WORD.false c.if-start-lt-MARKED.true
    (page-stays c.args.mask c.args.extras.now c.args.area.now c.args.page c.args.start c.requires.stays)

pub unslide_chain-requires-clause-stays : goal.unslide_chain-requires-clause-stays
unslide_chain-requires-clause-stays c =
    let stays : PageStays c.args.mask c.args.extras.now c.args.area.now c.args.page c.args.start = page-stays c.args.mask c.args.extras.now c.args.area.now c.args.page c.args.start c.requires.stays in
    subst (λ (l : List ℕ). filter (λ a. nat_lt (c.args.page + 0xFF8) (a + delta_of c.args.mask (number_at 8 c.args.area.now a))) l ≡ [])
    (single-reached c.args.mask c.args.extras.now c.args.area.now c.args.page c.args.start c.if-start-eq-NO_WORD.false c.if-start-lt-MARKED.true) stays.words

pub unslide_chain-requires-clause-apart : goal.unslide_chain-requires-clause-apart
unslide_chain-requires-clause-apart c =
    subst AreApart (single-reached c.args.mask c.args.extras.now c.args.area.now c.args.page c.args.start c.if-start-eq-NO_WORD.false c.if-start-lt-MARKED.true) c.requires.apart

pub returns-then-start-lt-MARKED : goal.returns-then-start-lt-MARKED
returns-then-start-lt-MARKED c =
    c.unslide_chain.ensures
    ∙ ap (λ (l : List ℕ). change_all (map (moving c.args.mask c.args.value_add 0) l) c.args.area.now)
    (sym (single-reached c.args.mask c.args.extras.now c.args.area.now c.args.page c.args.start c.if-start-eq-NO_WORD.false c.if-start-lt-MARKED.true))

pub unslide_run-requires-clause-heads : goal.unslide_run-requires-clause-heads
unslide_run-requires-clause-heads c =
    let rest : take (length c.args.extras.now - c.skipped.result) (drop c.skipped.result c.args.extras.now) ≡ drop (c.args.start % 0x4000) c.args.extras.now = take_rest c.args.extras.now c.skipped.result ∙ c.skipped.ensures.same in
    let stays : PageStays c.args.mask c.args.extras.now c.args.area.now c.args.page c.args.start = page-stays c.args.mask c.args.extras.now c.args.area.now c.args.page c.args.start c.requires.stays in
    subst (λ (l : List ℕ). filter (nat_lt (c.args.page + 0xFF8)) l ≡ [])
    (many-heads c.args.extras.now (take (length c.args.extras.now - c.skipped.result) (drop c.skipped.result c.args.extras.now)) c.args.page c.args.start c.if-start-lt-MARKED.false rest) stays.heads

pub unslide_run-requires-clause-stays : goal.unslide_run-requires-clause-stays
unslide_run-requires-clause-stays c =
    let rest : take (length c.args.extras.now - c.skipped.result) (drop c.skipped.result c.args.extras.now) ≡ drop (c.args.start % 0x4000) c.args.extras.now = take_rest c.args.extras.now c.skipped.result ∙ c.skipped.ensures.same in
    let stays : PageStays c.args.mask c.args.extras.now c.args.area.now c.args.page c.args.start = page-stays c.args.mask c.args.extras.now c.args.area.now c.args.page c.args.start c.requires.stays in
    subst (λ (l : List ℕ). filter (λ a. nat_lt (c.args.page + 0xFF8) (a + delta_of c.args.mask (number_at 8 c.args.area.now a))) l ≡ [])
    (many-reached c.args.mask c.args.extras.now c.args.area.now (take (length c.args.extras.now - c.skipped.result) (drop c.skipped.result c.args.extras.now)) c.args.page c.args.start c.if-start-lt-MARKED.false rest) stays.words

pub unslide_run-requires-clause-apart : goal.unslide_run-requires-clause-apart
unslide_run-requires-clause-apart c =
    let rest : take (length c.args.extras.now - c.skipped.result) (drop c.skipped.result c.args.extras.now) ≡ drop (c.args.start % 0x4000) c.args.extras.now = take_rest c.args.extras.now c.skipped.result ∙ c.skipped.ensures.same in
    subst AreApart (many-reached c.args.mask c.args.extras.now c.args.area.now (take (length c.args.extras.now - c.skipped.result) (drop c.skipped.result c.args.extras.now)) c.args.page c.args.start c.if-start-lt-MARKED.false rest) c.requires.apart

pub returns : goal.returns
returns c =
    let rest : take (length c.args.extras.now - c.skipped.result) (drop c.skipped.result c.args.extras.now) ≡ drop (c.args.start % 0x4000) c.args.extras.now = take_rest c.args.extras.now c.skipped.result ∙ c.skipped.ensures.same in
    c.unslide_run.ensures
    ∙ ap (λ (l : List ℕ). change_all (map (moving c.args.mask c.args.value_add 0) l) c.args.area.now)
    (sym (many-reached c.args.mask c.args.extras.now c.args.area.now (take (length c.args.extras.now - c.skipped.result) (drop c.skipped.result c.args.extras.now)) c.args.page c.args.start c.if-start-lt-MARKED.false rest))
