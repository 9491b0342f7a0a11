use Rattle.std.proofs.Common.{sym, subst, ◌∙◌}
use Rattle.prebind.specs.Sets.{ImageSet}
use Rattle.extractor.specs.Bound.{AreAllBound}
use Rattle.extractor.proofs.SetLaws.{cached_sound, cached_is, sums_refused, links_refused, symbols_refused, set_none}
use Rattle.extractor.proofs.set.link_images.Goals as goal

pub returns-in-Err-clause-cause : goal.returns-in-Err-clause-cause
returns-in-Err-clause-cause c = sums_refused c.args.images.now c.in-Err.fault c.in-Err.ensures.cause

pub returns-in-Err-link_set-clause-cause : goal.returns-in-Err-link_set-clause-cause
returns-in-Err-link_set-clause-cause c = links_refused c.args.images.now c.in-Err-link_set.fault c.in-Ok.ensures.cause c.in-Err-link_set.ensures.cause

pub place_set-requires : goal.place_set-requires
place_set-requires c = record {
  sound = cached_sound c.args.images.now c.deref.result.now c.in-Ok-link_set.links c.requires.few c.requires.read (c.deref.ensures.value ∙ c.in-Ok.ensures.streams) c.in-Ok-link_set.ensures.links c.in-Ok-link_set.ensures.cause;
}

pub returns-in-Err-place_set-clause-cause : goal.returns-in-Err-place_set-clause-cause
returns-in-Err-place_set-clause-cause c =
    symbols_refused c.args.images.now c.deref.result.now c.in-Ok-link_set.links c.in-Err-place_set.fault (c.deref.ensures.value ∙ c.in-Ok.ensures.streams) c.in-Ok-link_set.ensures.links
    c.in-Ok.ensures.cause c.in-Ok-link_set.ensures.cause c.in-Err-place_set.ensures.cause

pub returns-clause-words : goal.returns-clause-words
returns-clause-words c =
    subst (λ (s : ImageSet). AreAllBound s c.in-Ok-place_set.words.items)
    (sym (cached_is c.args.images.now c.deref.result.now c.in-Ok-link_set.links (c.deref.ensures.value ∙ c.in-Ok.ensures.streams) c.in-Ok-link_set.ensures.links)) c.in-Ok-place_set.ensures.placed

pub returns-clause-cause : goal.returns-clause-cause
returns-clause-cause c =
    set_none c.args.images.now c.deref.result.now c.in-Ok-link_set.links (c.deref.ensures.value ∙ c.in-Ok.ensures.streams) c.in-Ok-link_set.ensures.links
    c.in-Ok.ensures.cause c.in-Ok-link_set.ensures.cause c.in-Ok-place_set.ensures.cause
