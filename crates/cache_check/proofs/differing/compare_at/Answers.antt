use Rattle.std.proofs.Common.{◌≡◌, ◌<◌, ℕ, None, Option, List, length, get_or, sym, ap, subst, ◌∙◌, arith}
use Rattle.macho_image.specs.Records.{Img}
use Rattle.export_trie.specs.Order.{trie_break}
use Rattle.prebind.specs.declared.resolved.PlacedWord.{PlacedWord}
use Rattle.prebind.specs.Sets.{StreamLists}
use Rattle.prebind.specs.Steps.{set_of}
use Rattle.prebind.specs.Words.{streams_in, pointers_of}
use Rattle.prebind.proofs.OrderedWords.{placed_pointers}
use Rattle.cache_check.specs.declared.chains.Chains.{Chains}
use Rattle.cache_check.specs.Steps.Sides.{chain_view}
use Rattle.cache_check.proofs.ComparingLaws.{matched_image, all_rise}
use Rattle.cache_check.proofs.DifferenceLaws.{there}
use Rattle.cache_check.proofs.differing.compare_at.Goals as goal

pub compare_image-requires-clause-rises : goal.compare_image-requires-clause-rises
compare_image-requires-clause-rises c =
    let lt : c.args.number < length c.args.words.now = omega (arith, c.requires.inside, c.requires.placed.count) in
    let own = c.requires.placed.placed c.args.number c.index-words-index.result (there c.args.words.now c.args.number c.index-words-index.result lt c.index-words-index.is) in
    subst (λ (l : List PlacedWord). (i j : ℕ) (d : PlacedWord) → i < j → j < length l → (get_or l i d).at.address < (get_or l j d).at.address) (sym c.deref.ensures.value)
    (all_rise (pointers_of (set_of c.args.set.now) c.args.number) c.index-words-index.result.items own)

pub compare_image-requires-clause-wanted : goal.compare_image-requires-clause-wanted
compare_image-requires-clause-wanted c =
    subst (λ (i : Img). trie_break i.streams.exports ≡ None) (sym (c.new-matching.ensures.file ∙ sym c.index-set-index.is))
    (c.requires.wanted c.args.number c.index-set-index.result (there c.args.set.now.images.now c.args.number c.index-set-index.result c.requires.inside c.index-set-index.is))

pub compare_image-requires-clause-found : goal.compare_image-requires-clause-found
compare_image-requires-clause-found c =
    subst (λ (i : Img). trie_break i.streams.exports ≡ None) (sym c.new-matching.ensures.cached)
    (c.requires.found c.args.number c.index-cached-index.result (there c.args.cached.now c.args.number c.index-cached-index.result c.requires.cached c.index-cached-index.is))

pub returns : goal.returns
returns c =
    let lt : c.args.number < length c.args.words.now = omega (arith, c.requires.inside, c.requires.placed.count) in
    let own = c.requires.placed.placed c.args.number c.index-words-index.result (there c.args.words.now c.args.number c.index-words-index.result lt c.index-words-index.is) in
    let within : c.args.number < length c.args.set.now.streams.now = omega (arith, c.requires.inside, c.requires.streams) in
    let spelled = there c.args.set.now.streams.now c.args.number c.index-set-index-2.result within c.index-set-index-2.is in
    c.in_ok-found.ensures
    ∙ matched_image c.new-matching.result (chain_view c.args.chains) c.args.cached.now (set_of c.args.set.now) c.args.number c.index-set-index.result c.index-cached-index.result c.deref.result.now c.deref-2.result.now
    (ap (λ (h : Chains). chain_view h) c.new-matching.ensures.chains) c.new-matching.ensures.all (c.new-matching.ensures.file ∙ sym c.index-set-index.is) c.new-matching.ensures.cached
    (there c.args.set.now.images.now c.args.number c.index-set-index.result c.requires.inside c.index-set-index.is)
    (there c.args.cached.now c.args.number c.index-cached-index.result c.requires.cached c.index-cached-index.is)
    (c.deref.ensures.value ∙ placed_pointers (set_of c.args.set.now) c.args.number c.index-words-index.result.items own)
    (c.deref-2.ensures.value ∙ (ap (λ (s : StreamLists). s.references) c.streams.view_is ∙ (ap (λ (s : StreamLists). s.references) (sym c.index-set-index-2.is) ∙ sym (ap (λ (o : Option StreamLists). (streams_in o).references) spelled))))
