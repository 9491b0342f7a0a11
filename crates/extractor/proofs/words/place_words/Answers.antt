use Rattle.std.proofs.Common.{List, ℕ, map, sym, subst, ◌∙◌, None, Some}
use Rattle.prebind.specs.Sets.{StreamLists}
use Rattle.extractor.specs.Chained.{AreBounds}
use Rattle.extractor.specs.Vetting.{cached_lists}
use Rattle.extractor.proofs.ChainLaws.{chain_is, foreign_is, outside_found, pointer_refused, after_pointers}
use Rattle.extractor.proofs.words.place_words.Goals as goal

pub returns-in-Some-clause-cause : goal.returns-in-Some-clause-cause
returns-in-Some-clause-cause c =
    let streams = c.deref.ensures.value ∙ c.requires.streams in
    let bounds = subst (λ (bs : List (List ℕ)). AreBounds (map cached_lists c.args.images.now) bs) (sym c.deref-2.ensures.value) (subst (λ (ss : List StreamLists). AreBounds ss c.in_ok-bounds.bounds.items) streams c.in_ok-bounds.ensures) in
    outside_found c.args.start c.args.words.now c.args.images.now c.in-Some.finding
    (sym c.in-Some.is ∙ (c.first_outside.ensures ∙ chain_is c.args.start c.args.words.now c.args.images.now c.deref-2.result.now bounds c.requires.read c.requires.addresses))

pub returns-in-Err-clause-cause : goal.returns-in-Err-clause-cause
returns-in-Err-clause-cause c =
    let streams = c.deref.ensures.value ∙ c.requires.streams in
    let bounds = subst (λ (bs : List (List ℕ)). AreBounds (map cached_lists c.args.images.now) bs) (sym c.deref-2.ensures.value) (subst (λ (ss : List StreamLists). AreBounds ss c.in_ok-bounds.bounds.items) streams c.in_ok-bounds.ensures) in
    pointer_refused c.args.start c.args.words.now c.args.images.now c.in-Err.fault
    (sym c.in_default.is ∙ (c.first_outside.ensures ∙ chain_is c.args.start c.args.words.now c.args.images.now c.deref-2.result.now bounds c.requires.read c.requires.addresses)) c.in-Err.ensures

pub returns-in-Some-first_foreign-clause-cause : goal.returns-in-Some-first_foreign-clause-cause
returns-in-Some-first_foreign-clause-cause c =
    let streams = c.deref.ensures.value ∙ c.requires.streams in
    let bounds = subst (λ (bs : List (List ℕ)). AreBounds (map cached_lists c.args.images.now) bs) (sym c.deref-2.ensures.value) (subst (λ (ss : List StreamLists). AreBounds ss c.in_ok-bounds.bounds.items) streams c.in_ok-bounds.ensures) in
    let again = subst (λ (bs : List (List ℕ)). AreBounds (map cached_lists c.args.images.now) bs) (sym c.deref-5.ensures.value) (subst (λ (ss : List StreamLists). AreBounds ss c.in_ok-bounds.bounds.items) streams c.in_ok-bounds.ensures) in
    after_pointers c.args.start c.args.words.now c.args.images.now (Some c.in-Some-first_foreign.finding)
    (sym c.in_default.is ∙ (c.first_outside.ensures ∙ chain_is c.args.start c.args.words.now c.args.images.now c.deref-2.result.now bounds c.requires.read c.requires.addresses)) c.in-Ok.ensures
    (sym c.in-Some-first_foreign.is ∙ (c.first_foreign.ensures ∙ foreign_is c.args.start c.args.words.now c.args.images.now c.deref-5.result.now again c.requires.read))

pub returns-clause-cause : goal.returns-clause-cause
returns-clause-cause c =
    let streams = c.deref.ensures.value ∙ c.requires.streams in
    let bounds = subst (λ (bs : List (List ℕ)). AreBounds (map cached_lists c.args.images.now) bs) (sym c.deref-2.ensures.value) (subst (λ (ss : List StreamLists). AreBounds ss c.in_ok-bounds.bounds.items) streams c.in_ok-bounds.ensures) in
    let again = subst (λ (bs : List (List ℕ)). AreBounds (map cached_lists c.args.images.now) bs) (sym c.deref-5.ensures.value) (subst (λ (ss : List StreamLists). AreBounds ss c.in_ok-bounds.bounds.items) streams c.in_ok-bounds.ensures) in
    after_pointers c.args.start c.args.words.now c.args.images.now None
    (sym c.in_default.is ∙ (c.first_outside.ensures ∙ chain_is c.args.start c.args.words.now c.args.images.now c.deref-2.result.now bounds c.requires.read c.requires.addresses)) c.in-Ok.ensures
    (sym c.in_default-first_foreign.is ∙ (c.first_foreign.ensures ∙ foreign_is c.args.start c.args.words.now c.args.images.now c.deref-5.result.now again c.requires.read))
