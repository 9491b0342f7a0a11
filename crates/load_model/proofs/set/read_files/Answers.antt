use Rattle.std.proofs.Common.{◌≡◌, List, map, ap, sym, subst, ◌∙◌}
use Rattle.macho_image.specs.Records.{Img}
use Rattle.dep_closure.specs.Linked.{links_of}
use Rattle.dep_closure.specs.Breaks.{link_break}
use Rattle.prebind.specs.Sets.{ImageSet, lists_of}
use Rattle.load_model.specs.Phases.{contents, linkedits_from}
use Rattle.load_model.specs.Placed.{AreAllPlaced}
use Rattle.load_model.proofs.FilesLaws.{held_is, held_sound, few_files, shapes_refused, linkedits_refused_in, links_refused, symbols_refused, files_none}
use Rattle.load_model.proofs.set.read_files.Goals as goal

pub returns-in-Err-clause-cause : goal.returns-in-Err-clause-cause
returns-in-Err-clause-cause c = shapes_refused (contents c.args.files.now) c.in-Err.fault c.in-Err.ensures.cause

pub returns-in-Err-read_linkedits-clause-cause : goal.returns-in-Err-read_linkedits-clause-cause
returns-in-Err-read_linkedits-clause-cause c =
    linkedits_refused_in (contents c.args.files.now) c.deref.result.now c.in-Err-read_linkedits.fault (c.deref.ensures.value ∙ c.in-Ok.ensures.images) c.in-Ok.ensures.unbroken c.in-Err-read_linkedits.ensures.cause

pub returns-in-Err-link_set-clause-cause : goal.returns-in-Err-link_set-clause-cause
returns-in-Err-link_set-clause-cause c =
    let same : c.deref.result.now ≡ c.deref-2.result.now = c.deref.ensures.value ∙ sym c.deref-2.ensures.value in
    links_refused (contents c.args.files.now) c.deref-2.result.now c.in-Err-link_set.fault (c.deref-2.ensures.value ∙ c.in-Ok.ensures.images) c.in-Ok.ensures.unbroken
    (ap (λ (is : List Img). linkedits_from 0 0 0 is) (sym same) ∙ c.in-Ok-read_linkedits.ensures.cause) c.in-Err-link_set.ensures.cause

pub place_set-requires : goal.place_set-requires
place_set-requires c =
    let first : c.deref.result.now ≡ c.deref-3.result.now = c.deref.ensures.value ∙ sym c.deref-3.ensures.value in
    let second : c.deref-2.result.now ≡ c.deref-3.result.now = c.deref-2.ensures.value ∙ sym c.deref-3.ensures.value in
    record {
      sound = held_sound (contents c.args.files.now) c.deref-3.result.now c.deref-4.result.now c.in-Ok-link_set.links (few_files c.args.files.now c.requires.few) (c.deref-3.ensures.value ∙ c.in-Ok.ensures.images)
          (c.deref-4.ensures.value ∙ (c.in-Ok-read_linkedits.ensures.streams ∙ ap (λ (is : List Img). map lists_of is) first)) (c.in-Ok-link_set.ensures.links ∙ ap links_of second)
          (ap (λ (is : List Img). linkedits_from 0 0 0 is) (sym first) ∙ c.in-Ok-read_linkedits.ensures.cause) (ap link_break (sym second) ∙ c.in-Ok-link_set.ensures.cause);
    }

pub returns-in-Err-place_set-clause-cause : goal.returns-in-Err-place_set-clause-cause
returns-in-Err-place_set-clause-cause c =
    let first : c.deref.result.now ≡ c.deref-3.result.now = c.deref.ensures.value ∙ sym c.deref-3.ensures.value in
    let second : c.deref-2.result.now ≡ c.deref-3.result.now = c.deref-2.ensures.value ∙ sym c.deref-3.ensures.value in
    symbols_refused (contents c.args.files.now) c.deref-3.result.now c.deref-4.result.now c.in-Ok-link_set.links c.in-Err-place_set.fault (c.deref-3.ensures.value ∙ c.in-Ok.ensures.images)
    (c.deref-4.ensures.value ∙ (c.in-Ok-read_linkedits.ensures.streams ∙ ap (λ (is : List Img). map lists_of is) first)) (c.in-Ok-link_set.ensures.links ∙ ap links_of second) c.in-Ok.ensures.unbroken
    (ap (λ (is : List Img). linkedits_from 0 0 0 is) (sym first) ∙ c.in-Ok-read_linkedits.ensures.cause) (ap link_break (sym second) ∙ c.in-Ok-link_set.ensures.cause) c.in-Err-place_set.ensures.cause

pub returns-clause-words : goal.returns-clause-words
returns-clause-words c =
    let first : c.deref.result.now ≡ c.deref-3.result.now = c.deref.ensures.value ∙ sym c.deref-3.ensures.value in
    let second : c.deref-2.result.now ≡ c.deref-3.result.now = c.deref-2.ensures.value ∙ sym c.deref-3.ensures.value in
    subst (λ (s : ImageSet). AreAllPlaced s c.in-Ok-place_set.words.items)
    (held_is (contents c.args.files.now) c.deref-3.result.now c.deref-4.result.now c.in-Ok-link_set.links (c.deref-3.ensures.value ∙ c.in-Ok.ensures.images)
    (c.deref-4.ensures.value ∙ (c.in-Ok-read_linkedits.ensures.streams ∙ ap (λ (is : List Img). map lists_of is) first)) (c.in-Ok-link_set.ensures.links ∙ ap links_of second)) c.in-Ok-place_set.ensures.placed

pub returns-clause-cause : goal.returns-clause-cause
returns-clause-cause c =
    let first : c.deref.result.now ≡ c.deref-3.result.now = c.deref.ensures.value ∙ sym c.deref-3.ensures.value in
    let second : c.deref-2.result.now ≡ c.deref-3.result.now = c.deref-2.ensures.value ∙ sym c.deref-3.ensures.value in
    files_none (contents c.args.files.now) c.deref-3.result.now c.deref-4.result.now c.in-Ok-link_set.links (c.deref-3.ensures.value ∙ c.in-Ok.ensures.images)
    (c.deref-4.ensures.value ∙ (c.in-Ok-read_linkedits.ensures.streams ∙ ap (λ (is : List Img). map lists_of is) first)) (c.in-Ok-link_set.ensures.links ∙ ap links_of second) c.in-Ok.ensures.unbroken
    (ap (λ (is : List Img). linkedits_from 0 0 0 is) (sym first) ∙ c.in-Ok-read_linkedits.ensures.cause) (ap link_break (sym second) ∙ c.in-Ok-link_set.ensures.cause) c.in-Ok-place_set.ensures.cause
