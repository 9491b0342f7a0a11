use Rattle.std.proofs.Common.{◌≡◌, ◌*◌, ◌++◌, List, [], ℕ, get_or}
use Rattle.std.specs.Prelude.{Some}
use Rattle.slide_chain.specs.Chains.{leaving, reached, chain_words, lowest, page_reached, overlapping, words_at, in_order}
use Rattle.slide_chain.specs.Steps.Marks.{AreCounted}
use Rattle.slide_chain.proofs.PageLaws.{some-is, none-is}
use Rattle.slide_chain.proofs.ReadLaws.{WalkedAll, walked-none, walked-more, walked-all, leaves-here, overlaps-here}
use Rattle.slide_chain.proofs.reading.read_pages.Goals as goal

pub loop-i-init : goal.loop-i-init
loop-i-init c = walked-none c.args.mask c.args.value_add c.args.extras.now c.args.area.now c.args.starts.now c.args.words.now.items c.requires.empty

pub returns-in-Some : goal.returns-in-Some
unfolding leaving
returns-in-Some c = leaves-here c.args.mask c.args.extras.now c.args.area.now c.args.starts.now c.loop-i.i c.in-Some.at c.loop-i-test.true c.in-Some.ensures.leaves c.loop-i.invariant.stays

pub returns-in-Some-2 : goal.returns-in-Some-2
unfolding reached
returns-in-Some-2 c =
    let here : lowest (overlapping (page_reached c.args.mask c.args.extras.now c.args.area.now (c.loop-i.i * 4096) (get_or c.args.starts.now c.loop-i.i 0))) ≡ Some c.in-Some-2.at =
    some-is c.in_ok-at.field-0 c.in-Some-2.at (λ at. (places : List ℕ) → AreCounted c.sift_page.new.marks (c.loop-i.i * 4096) places → lowest (overlapping places) ≡ Some at)
    c.in-Some-2.is c.in_ok-at.ensures.overlaps (page_reached c.args.mask c.args.extras.now c.args.area.now (c.loop-i.i * 4096) (get_or c.args.starts.now c.loop-i.i 0)) c.in_default.ensures.counted in
    overlaps-here c.args.mask c.args.value_add c.args.extras.now c.args.area.now c.args.starts.now c.loop-i.i c.in-Some-2.at c.loop-i.words.items c.loop-i-test.true here c.loop-i.invariant

pub loop-i-preserved : goal.loop-i-preserved
loop-i-preserved c =
    let apart : overlapping (page_reached c.args.mask c.args.extras.now c.args.area.now (c.loop-i.i * 4096) (get_or c.args.starts.now c.loop-i.i 0)) ≡ [] =
    none-is c.in_ok-at.field-0 ((places : List ℕ) → AreCounted c.sift_page.new.marks (c.loop-i.i * 4096) places → overlapping places ≡ [])
    c.in_default-2.is c.in_ok-at.ensures.apart (page_reached c.args.mask c.args.extras.now c.args.area.now (c.loop-i.i * 4096) (get_or c.args.starts.now c.loop-i.i 0)) c.in_default.ensures.counted in
    let gathered : c.gather.new.words.items ≡ c.loop-i.words.items ++ words_at c.args.mask c.args.value_add c.args.area.now
    (in_order (page_reached c.args.mask c.args.extras.now c.args.area.now (c.loop-i.i * 4096) (get_or c.args.starts.now c.loop-i.i 0)) 1024 (c.loop-i.i * 4096)) =
    none-is c.in_ok-at.field-0
    ((places : List ℕ) → AreCounted c.sift_page.new.marks (c.loop-i.i * 4096) places → c.gather.new.words.items ≡ c.loop-i.words.items ++ words_at c.args.mask c.args.value_add c.args.area.now (in_order places 1024 (c.loop-i.i * 4096)))
    c.in_default-2.is c.in_ok-at.ensures.words (page_reached c.args.mask c.args.extras.now c.args.area.now (c.loop-i.i * 4096) (get_or c.args.starts.now c.loop-i.i 0)) c.in_default.ensures.counted in
    walked-more c.args.mask c.args.value_add c.args.extras.now c.args.area.now c.args.starts.now c.loop-i.i c.loop-i.words.items c.gather.new.words.items c.loop-i-test.true c.in_default.ensures.stays apart gathered c.loop-i.invariant

pub returns : goal.returns
unfolding leaving reached chain_words
returns c =
    let all : WalkedAll c.args.mask c.args.value_add c.args.extras.now c.args.area.now c.args.starts.now c.loop-i.words.items =
    walked-all c.args.mask c.args.value_add c.args.extras.now c.args.area.now c.args.starts.now c.loop-i.i c.loop-i.words.items c.loop-i-test.false c.loop-i.auto.i-end c.requires.suits.pages c.loop-i.invariant in
    (all.stays, all.apart, all.gathered)
