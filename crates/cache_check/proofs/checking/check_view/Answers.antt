use Rattle.std.proofs.Common.{List, Vec, Global, sym, ap, subst, ◌∙◌}
use Rattle.prebind.specs.declared.resolved.PlacedWord.{PlacedWord}
use Rattle.prebind.specs.Sets.{ImageSet, image_set}
use Rattle.prebind.specs.Steps.{set_of}
use Rattle.load_model.specs.Placed.{AreAllPlaced}
use Rattle.cache_check.specs.declared.view.CacheView.TheInside.{Inside}
use Rattle.cache_check.specs.Images.{images_finding}
use Rattle.cache_check.specs.Steps.Files.{HaveTries}
use Rattle.cache_check.specs.Steps.Sides.{chain_view}
use Rattle.cache_check.specs.Verdict.{difference_of}
use Rattle.cache_check.specs.Views.{View}
use Rattle.cache_check.proofs.TrieLaws.{view_tries}
use Rattle.cache_check.proofs.VerdictLaws.{set_is, difference_is, differs_by, agrees_by}
use Rattle.cache_check.proofs.checking.check_view.Goals as goal

pub compare-requires-clause-found : goal.compare-requires-clause-found
compare-requires-clause-found c = subst HaveTries (sym (c.deref.ensures.value ∙ c.in-Ok.ensures.images)) (view_tries c.args.view.now c.in-Ok.ensures.cause)

pub compare-requires-clause-placed : goal.compare-requires-clause-placed
compare-requires-clause-placed c =
    subst (λ (ws : List (Vec PlacedWord Global)). AreAllPlaced (set_of c.set_of-set.result) ws) (sym c.deref-2.ensures.value)
    (subst (λ (s : ImageSet). AreAllPlaced s c.args.files.now.words.items) (sym (c.set_of-set.ensures ∙ set_is c.args.files.now c.requires.read)) c.requires.read.words)

pub returns-in-Some : goal.returns-in-Some
returns-in-Some c =
    differs_by (images_finding c.args.view.now) (difference_of c.args.view.now (image_set c.args.files.now.images.items)) c.in_ok-difference.field-0 c.in-Some.difference c.in-Ok.ensures.cause
    (difference_is c.args.view.now c.as_slice-entries.result.now (chain_view c.chains_of.result) c.deref.result.now (set_of c.set_of-set.result) (image_set c.args.files.now.images.items) c.in_ok-difference.field-0
    (c.as_slice-entries.ensures.value ∙ (ap (λ (n : Inside). n.head.images) c.view-inside.view_is ∙ ap (λ (v : View). v.head.images) c.view.view_is))
    c.chains_of.ensures (c.deref.ensures.value ∙ c.in-Ok.ensures.images) (c.set_of-set.ensures ∙ set_is c.args.files.now c.requires.read) c.in_ok-difference.ensures)
    c.in-Some.is

pub returns : goal.returns
returns c =
    agrees_by (images_finding c.args.view.now) (difference_of c.args.view.now (image_set c.args.files.now.images.items)) c.in_ok-difference.field-0 c.in-Ok.ensures.cause
    (difference_is c.args.view.now c.as_slice-entries.result.now (chain_view c.chains_of.result) c.deref.result.now (set_of c.set_of-set.result) (image_set c.args.files.now.images.items) c.in_ok-difference.field-0
    (c.as_slice-entries.ensures.value ∙ (ap (λ (n : Inside). n.head.images) c.view-inside.view_is ∙ ap (λ (v : View). v.head.images) c.view.view_is))
    c.chains_of.ensures (c.deref.ensures.value ∙ c.in-Ok.ensures.images) (c.set_of-set.ensures ∙ set_is c.args.files.now c.requires.read) c.in_ok-difference.ensures)
    c.in-None.is
