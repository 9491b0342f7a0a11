use Rattle.std.proofs.Common.{rules, ◌≡◌, ◌+◌, List, get_or, sym, ap, ◌∙◌, subst}
use Rattle.std.specs.Prelude.{slice_get, option_copied}
use Rattle.std.specs.List.Sorted.{IsNonDecreasingBy}
use Rattle.std.proofs.lemmas.List.{get_or_default}
use Rattle.std.proofs.lemmas.List.Sorted.{IsNonDecreasingBy-from_sort_by_key}
use Rattle.macho_image.specs.declared.place.Location.{Location}
use Rattle.split_info.specs.declared.reference.Reference.{Reference}
use Rattle.split_info.proofs.OverlapLaws.{no_reference, moved_by, tried_is, clear_more, clear_all, overlap_none, overlap_found}
use Rattle.split_info.proofs.overlap.first_overlap.Goals as goal

pub new-words-requires : goal.new-words-requires
new-words-requires c =
    subst (λ (ls : List Location). IsNonDecreasingBy (λ l. l.address) ls) (sym c.deref.ensures.value)
    (IsNonDecreasingBy-from_sort_by_key (λ (l : Location). l.address) c.sort_unstable_by_key.new.self.items c.sort_unstable_by_key.ensures.sorted (λ a r f h. search rules))

pub returns-then-overlaps-clause-found : goal.returns-then-overlaps-clause-found
returns-then-overlaps-clause-found c =
    let sorted = c.deref-reference-items.result.now in
    let rises : IsNonDecreasingBy (λ (r : Reference). r.from) sorted =
    subst (λ (rs : List Reference). IsNonDecreasingBy (λ (r : Reference). r.from) rs) (sym c.deref-reference-items.ensures.value)
    (IsNonDecreasingBy-from_sort_by_key (λ (r : Reference). r.from) c.sort_unstable_by_key-2.new.self.items c.sort_unstable_by_key-2.ensures.sorted (λ a r f h. search rules)) in
    let moved =
    moved_by c.args.bound.now c.in_ok-places.places.items c.sort_unstable_by_key.new.self.items c.new-words.result c.args.references.now c.in_ok-sorted.sorted.items c.sort_unstable_by_key-2.new.self.items sorted
    c.in_ok-places.ensures.items c.sort_unstable_by_key.ensures.permutation (c.new-words.ensures ∙ c.deref.ensures.value) c.in_ok-sorted.ensures.items c.sort_unstable_by_key-2.ensures.permutation c.deref-reference-items.ensures.value in
    let one = get_or c.deref-reference-items.result.now c.loop-index.index no_reference in
    let is : one ≡ get_or c.deref-reference-items.result.now c.loop-index.index one = get_or_default c.deref-reference-items.result.now c.loop-index.index no_reference one c.loop-index-test.true in
    let next : option_copied c.behind.result ≡ slice_get c.deref-reference-items.result.now (c.loop-index.index + 1) =
    c.behind.ensures ∙ ap (λ (rs : List Reference). slice_get rs (c.loop-index.index + 1)) (c.deref-in-loop-index.ensures.value ∙ sym c.deref-reference-items.ensures.value) in
    let test = tried_is c.args.rebases.now c.new-words.result c.deref-reference-items.result.now c.loop-index.index one (option_copied c.behind.result) c.overlaps.result c.overlaps.ensures next in
    overlap_found c.args.rebases.now c.args.bound.now c.new-words.result c.args.references.now sorted c.loop-index.index one moved rises c.loop-index.invariant c.loop-index-test.true is (test ∙ c.if-overlaps.true)

pub loop-index-preserved : goal.loop-index-preserved
loop-index-preserved c =
    let one = get_or c.deref-reference-items.result.now c.loop-index.index no_reference in
    let is : one ≡ get_or c.deref-reference-items.result.now c.loop-index.index one = get_or_default c.deref-reference-items.result.now c.loop-index.index no_reference one c.loop-index-test.true in
    let next : option_copied c.behind.result ≡ slice_get c.deref-reference-items.result.now (c.loop-index.index + 1) =
    c.behind.ensures ∙ ap (λ (rs : List Reference). slice_get rs (c.loop-index.index + 1)) (c.deref-in-loop-index.ensures.value ∙ sym c.deref-reference-items.ensures.value) in
    let test = tried_is c.args.rebases.now c.new-words.result c.deref-reference-items.result.now c.loop-index.index one (option_copied c.behind.result) c.overlaps.result c.overlaps.ensures next in
    clear_more c.args.rebases.now c.new-words.result c.deref-reference-items.result.now c.loop-index.index one c.loop-index.invariant c.loop-index-test.true is (test ∙ c.if-overlaps.false)

pub returns-clause-found : goal.returns-clause-found
returns-clause-found c =
    let sorted = c.deref-reference-items.result.now in
    let rises : IsNonDecreasingBy (λ (r : Reference). r.from) sorted =
    subst (λ (rs : List Reference). IsNonDecreasingBy (λ (r : Reference). r.from) rs) (sym c.deref-reference-items.ensures.value)
    (IsNonDecreasingBy-from_sort_by_key (λ (r : Reference). r.from) c.sort_unstable_by_key-2.new.self.items c.sort_unstable_by_key-2.ensures.sorted (λ a r f h. search rules)) in
    let moved =
    moved_by c.args.bound.now c.in_ok-places.places.items c.sort_unstable_by_key.new.self.items c.new-words.result c.args.references.now c.in_ok-sorted.sorted.items c.sort_unstable_by_key-2.new.self.items sorted
    c.in_ok-places.ensures.items c.sort_unstable_by_key.ensures.permutation (c.new-words.ensures ∙ c.deref.ensures.value) c.in_ok-sorted.ensures.items c.sort_unstable_by_key-2.ensures.permutation c.deref-reference-items.ensures.value in
    overlap_none c.args.rebases.now c.args.bound.now c.new-words.result c.args.references.now sorted moved rises
    (clear_all c.args.rebases.now c.new-words.result sorted c.loop-index.index c.loop-index.invariant c.loop-index-test.false)
