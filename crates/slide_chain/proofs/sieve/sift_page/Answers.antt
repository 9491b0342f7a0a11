-- A first word outside leaves the page at its beginning; else the sieve tells.
use Rattle.std.proofs.Common.{◌≡◌, ◌∙◌, ◌+◌, ◌*◌, ◌≤◌, ◌<◌, List, [], ℕ, ap, get_or}
use Rattle.std.specs.Prelude.{Some, filter}
use Rattle.std.specs.List.{flat_map}
use Rattle.dsc_base.specs.Numbers.{number_at}
use Rattle.slide_chain.specs.Chains.{delta_of, chain, heads, page_reached, page_leaving, lowest}
use Rattle.slide_chain.specs.Steps.Marks.{AreCounted}
use Rattle.slide_chain.proofs.SieveLaws.{leaves}
use Rattle.slide_chain.proofs.PageLaws.{leaving-heads, leaving-words, leaving-none, some-then, none-then, both-none}
use Rattle.slide_chain.proofs.sieve.sift_page.Goals as goal

pub returns-then-not-count_heads-clause-leaves : goal.returns-then-not-count_heads-clause-leaves
returns-then-not-count_heads-clause-leaves c =
    leaving-heads c.args.mask c.args.extras.now c.args.area.now c.args.page c.args.start (c.count_heads.ensures.outside c.if-not-count_heads.true c.args.page)

pub returns-clause-leaves : goal.returns-clause-leaves
unfolding page_reached
returns-clause-leaves c =
    let counted : AreCounted c.count_heads.new.marks c.args.page (heads c.args.extras.now c.args.page c.args.start) = c.count_heads.ensures.counted c.if-not-count_heads.false c.args.page in
    some-then c.sift.result
    (λ at. (places : List ℕ) → AreCounted c.count_heads.new.marks c.args.page places → lowest (filter (leaves c.args.mask c.args.area.now c.args.page) (flat_map (chain c.args.mask c.args.area.now (c.args.page + 0xFF8) 1024) places)) ≡ Some at)
    (λ at. lowest (page_leaving c.args.mask c.args.extras.now c.args.area.now c.args.page c.args.start) ≡ Some at) c.sift.ensures.leaves
    (λ at tells. ap lowest (leaving-words c.args.mask c.count_heads.new.marks c.args.extras.now c.args.area.now c.args.page c.args.start counted) ∙ tells (heads c.args.extras.now c.args.page c.args.start) counted)

pub returns-clause-counted : goal.returns-clause-counted
unfolding page_reached
returns-clause-counted c =
    none-then c.sift.result _ _ c.sift.ensures.counted (λ tells. tells (heads c.args.extras.now c.args.page c.args.start) (c.count_heads.ensures.counted c.if-not-count_heads.false c.args.page))

pub returns-clause-stays : goal.returns-clause-stays
unfolding page_reached
returns-clause-stays c =
    let counted : AreCounted c.count_heads.new.marks c.args.page (heads c.args.extras.now c.args.page c.args.start) = c.count_heads.ensures.counted c.if-not-count_heads.false c.args.page in
    both-none c.sift.result
    ((places : List ℕ) → AreCounted c.count_heads.new.marks c.args.page places → AreCounted c.sift.new.marks c.args.page (flat_map (chain c.args.mask c.args.area.now (c.args.page + 0xFF8) 1024) places))
    ((k : ℕ) → k < 1023 → 0 < get_or c.sift.new.marks k 0 → c.args.page + k * 4 + delta_of c.args.mask (number_at 8 c.args.area.now (c.args.page + k * 4)) ≤ c.args.page + 0xFF8)
    (page_leaving c.args.mask c.args.extras.now c.args.area.now c.args.page c.args.start ≡ [])
    c.sift.ensures.counted c.sift.ensures.stays
    (λ tells stays. leaving-words c.args.mask c.count_heads.new.marks c.args.extras.now c.args.area.now c.args.page c.args.start counted
    ∙ leaving-none c.args.mask c.sift.new.marks c.args.area.now (page_reached c.args.mask c.args.extras.now c.args.area.now c.args.page c.args.start) c.args.page
    (tells (heads c.args.extras.now c.args.page c.args.start) counted) stays)
