use Rattle.std.proofs.Common.{◌≡◌, ◌<◌, ◌+◌, ◌-◌, ℕ, Option, length, get_or, subst, ap, ◌∙◌, arith}
use Rattle.slide_chain.specs.declared.words.ChainWord.{ChainWord}
use Rattle.extractor.specs.declared.homes.Home.{Home}
use Rattle.extractor.specs.Chained.{outside_of, outside_at}
use Rattle.extractor.proofs.FirstLaws.{IsFirst, first_start, first_more, first_all}
use Rattle.extractor.proofs.HomeLaws.{home_at, word_at, no_word}
use Rattle.extractor.proofs.chain.first_outside.Goals as goal

pub loop-n-init : goal.loop-n-init
loop-n-init c = first_start (outside_of c.args.images.now c.args.bounds.now c.args.start) c.args.words.now (length c.args.words.now - 0) (omega arith)

pub loop-n-preserved : goal.loop-n-preserved
loop-n-preserved c =
    let words = c.args.words.now in
    let g : ℕ = length c.args.words.now - 1 - c.loop-n.n in
    let lt : length c.args.words.now - 1 - c.loop-n.n < length c.args.words.now = omega (arith, c.loop-n-test.true) in
    let w : ChainWord = get_or c.args.words.now (length c.args.words.now - 1 - c.loop-n.n) no_word in
    let before : length c.args.words.now - c.loop-n.n ≡ length c.args.words.now - 1 - c.loop-n.n + 1 = omega (arith, c.loop-n-test.true) in
    let after : length c.args.words.now - 1 - c.loop-n.n ≡ length c.args.words.now - (c.loop-n.n + 1) = omega arith in
    subst (λ (k : ℕ). IsFirst (outside_of c.args.images.now c.args.bounds.now c.args.start) c.args.words.now c.earlier-first.result k) after
    (first_more (outside_of c.args.images.now c.args.bounds.now c.args.start) c.args.words.now c.loop-n.first c.earlier-first.result c.outside_at-found.result g w
    (subst (λ (k : ℕ). IsFirst (outside_of c.args.images.now c.args.bounds.now c.args.start) c.args.words.now c.loop-n.first k) before c.loop-n.invariant)
    lt (word_at c.args.words.now g no_word w lt)
    (c.outside_at-found.ensures ∙ ap (λ (h : Option Home). outside_at c.args.images.now c.args.bounds.now (get_or c.args.words.now (length c.args.words.now - 1 - c.loop-n.n) no_word).offset (c.args.start + (get_or c.args.words.now (length c.args.words.now - 1 - c.loop-n.n) no_word).offset) h) (home_at c.args.images.now c.args.start c.args.words.now c.args.homes.now g c.requires.homes lt))
    c.earlier-first.ensures)

pub returns : goal.returns
returns c =
    let none : length c.args.words.now - c.loop-n.n ≡ 0 = omega (arith, c.loop-n-test.false) in
    first_all (outside_of c.args.images.now c.args.bounds.now c.args.start) c.args.words.now c.loop-n.first (subst (λ (k : ℕ). IsFirst (outside_of c.args.images.now c.args.bounds.now c.args.start) c.args.words.now c.loop-n.first k) none c.loop-n.invariant)
