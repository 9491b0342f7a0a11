-- Each turn sets the words of one page.
use Rattle.slide_chain.specs.Chains.{page_reached, each_page, reached, slid_area}
use Rattle.slide_chain.proofs.ApartLaws.{is-sound}
use Rattle.slide_chain.proofs.MovingLaws.{moving-none}
use Rattle.slide_chain.proofs.SlideLaws.{pages-fit, page-fits, pages-more, pages-over}
use Rattle.slide_chain.proofs.unsliding.unslide_pages.Goals as goal

pub loop-i-init : goal.loop-i-init
loop-i-init c = moving-none c.args.mask c.args.value_add c.args.area.now (each_page (page_reached c.args.mask c.args.extras.now c.args.area.now) 0 c.args.starts.now)

pub unslide_page-requires-clause-stays : goal.unslide_page-requires-clause-stays
unslide_page-requires-clause-stays c =
    (page-fits c.args.mask c.args.value_add c.args.extras.now c.args.starts.now c.args.area.now c.loop-i.area c.loop-i.i c.loop-i-test.true
    (pages-fit c.args.mask c.args.extras.now c.args.starts.now c.args.area.now c.requires.suits.pages (is-sound record { mask = c.args.mask; value_add = c.args.value_add; starts = c.args.starts.now; extras = c.args.extras.now } c.args.area.now c.requires.sound).stays (is-sound record { mask = c.args.mask; value_add = c.args.value_add; starts = c.args.starts.now; extras = c.args.extras.now } c.args.area.now c.requires.sound).apart) c.loop-i.invariant).stays

pub unslide_page-requires-clause-apart : goal.unslide_page-requires-clause-apart
unslide_page-requires-clause-apart c =
    (page-fits c.args.mask c.args.value_add c.args.extras.now c.args.starts.now c.args.area.now c.loop-i.area c.loop-i.i c.loop-i-test.true
    (pages-fit c.args.mask c.args.extras.now c.args.starts.now c.args.area.now c.requires.suits.pages (is-sound record { mask = c.args.mask; value_add = c.args.value_add; starts = c.args.starts.now; extras = c.args.extras.now } c.args.area.now c.requires.sound).stays (is-sound record { mask = c.args.mask; value_add = c.args.value_add; starts = c.args.starts.now; extras = c.args.extras.now } c.args.area.now c.requires.sound).apart) c.loop-i.invariant).apart

pub loop-i-preserved : goal.loop-i-preserved
loop-i-preserved c =
    pages-more c.args.mask c.args.value_add c.args.extras.now c.args.starts.now c.args.area.now c.loop-i.area c.unslide_page.new.area c.loop-i.i c.loop-i-test.true
    (pages-fit c.args.mask c.args.extras.now c.args.starts.now c.args.area.now c.requires.suits.pages (is-sound record { mask = c.args.mask; value_add = c.args.value_add; starts = c.args.starts.now; extras = c.args.extras.now } c.args.area.now c.requires.sound).stays (is-sound record { mask = c.args.mask; value_add = c.args.value_add; starts = c.args.starts.now; extras = c.args.extras.now } c.args.area.now c.requires.sound).apart) c.unslide_page.ensures c.loop-i.invariant

pub returns : goal.returns
unfolding slid_area reached
returns c = pages-over c.args.mask c.args.value_add c.args.extras.now c.args.starts.now c.args.area.now c.loop-i.area c.loop-i.i c.loop-i-test.false c.loop-i.invariant
