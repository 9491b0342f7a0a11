use Rattle.std.proofs.Common.{◌≡◌, ◌<◌, Option, Some, List, length, get_or, refl, sym, ap, subst, ◌∙◌, arith}
use Rattle.std.specs.Prelude.{slice_get, option_map}
use Rattle.std.proofs.lemmas.Option.{slice_get_read, slice_get_within}
use Rattle.dsc_base.specs.declared.fault.Site.{Site}
use Rattle.dsc_base.specs.declared.fault.SetFault.{SetFault}
use Rattle.dsc_base.specs.Refusals.{in_image, IsSetRefusal, IsRefusal}
use Rattle.macho_image.specs.Records.{Seg, Img}
use Rattle.prebind.specs.Sets.{StreamLists, AreStreamsOf}
use Rattle.prebind.specs.Steps.{set_of}
use Rattle.prebind.specs.Words.{streams_in}
use Rattle.prebind.proofs.PlaceLaws.{refused_in}
use Rattle.ref_rewrite.specs.Breaks.{image_break}
use Rattle.ref_rewrite.specs.Planned.{plan_of}
use Rattle.ref_rewrite.specs.Steps.{Belong, plan_with, break_with}
use Rattle.ref_rewrite.proofs.PlanLaws.{plan_is, break_is}
use Rattle.ref_rewrite.proofs.PlacedLaws.{placed_words, words_belong}
use Rattle.ref_rewrite.proofs.BoundLaws.{rise_in_order}
use Rattle.ref_rewrite.proofs.planning.plan_at.Goals as goal

pub plan_image-requires-clause-order : goal.plan_image-requires-clause-order
plan_image-requires-clause-order c = rise_in_order c.args.words.now c.requires.placed.rises

pub plan_image-requires-clause-belong : goal.plan_image-requires-clause-belong
plan_image-requires-clause-belong c =
    let set = set_of c.args.set.now in
    let k = c.args.number in
    let s = get_or c.args.set.now.streams.now c.args.number c.index-set-number.result in
    let image = c.args.image.now in
    let segments = c.new-moving.ensures.segments ∙ (c.deref.ensures.value ∙ ap (λ (i : Img). i.segments) c.image.view_is) in
    let lt : k < length set.streams = omega (arith, slice_get_within set.images k image c.requires.image, c.requires.sound.many) in
    let streams : slice_get set.streams k ≡ Some s = slice_get_read set.streams (length set.streams) k s refl lt (ap (λ (t : StreamLists). get_or set.streams k t) c.index-set-number.is) in
    let sound : AreStreamsOf image s = c.requires.sound.streams k image s c.requires.image streams in
    subst (λ (ss : List Seg). Belong c.args.words.now ss) (sym segments)
    (words_belong image c.args.words.now c.facts.ensures (placed_words set k image s c.args.words.now sound streams c.requires.placed))

pub returns-in-Ok-clause-plan : goal.returns-in-Ok-clause-plan
returns-in-Ok-clause-plan c =
    let set = set_of c.args.set.now in
    let k = c.args.number in
    let s = get_or c.args.set.now.streams.now c.args.number c.index-set-number.result in
    let image = c.args.image.now in
    let words = c.args.words.now in
    let segments = c.new-moving.ensures.segments ∙ (c.deref.ensures.value ∙ ap (λ (i : Img). i.segments) c.image.view_is) in
    let lt : k < length set.streams = omega (arith, slice_get_within set.images k image c.requires.image, c.requires.sound.many) in
    let streams : slice_get set.streams k ≡ Some s = slice_get_read set.streams (length set.streams) k s refl lt (ap (λ (t : StreamLists). get_or set.streams k t) c.index-set-number.is) in
    let moved : plan_with c.new-moving.result.layout.now c.new-moving.result.number c.new-moving.result.segments.now s.references words c.args.parts.now ≡ plan_with c.args.layout.now k image.segments s.references words c.args.parts.now =
    λ j. plan_with (c.new-moving.ensures.layout j) (c.new-moving.ensures.number j) (segments j) s.references words c.args.parts.now in
    c.in-Ok.ensures.plan
    ∙ (moved
    ∙ (plan_is c.args.layout.now set.images k image s words c.args.parts.now c.requires.parts
    ∙ ap (λ (t : StreamLists). plan_of c.args.layout.now set.images k image t words) (sym (ap streams_in streams))))

pub returns-in-Ok-clause-cause : goal.returns-in-Ok-clause-cause
returns-in-Ok-clause-cause c =
    let set = set_of c.args.set.now in
    let k = c.args.number in
    let s = get_or c.args.set.now.streams.now c.args.number c.index-set-number.result in
    let image = c.args.image.now in
    let words = c.args.words.now in
    let segments = c.new-moving.ensures.segments ∙ (c.deref.ensures.value ∙ ap (λ (i : Img). i.segments) c.image.view_is) in
    let lt : k < length set.streams = omega (arith, slice_get_within set.images k image c.requires.image, c.requires.sound.many) in
    let streams : slice_get set.streams k ≡ Some s = slice_get_read set.streams (length set.streams) k s refl lt (ap (λ (t : StreamLists). get_or set.streams k t) c.index-set-number.is) in
    let moved : break_with c.new-moving.result.layout.now c.new-moving.result.number c.new-moving.result.segments.now s words ≡ break_with c.args.layout.now k image.segments s words =
    λ j. break_with (c.new-moving.ensures.layout j) (c.new-moving.ensures.number j) (segments j) s words in
    ap (λ (o : Option Site). option_map (in_image k) o)
    (sym (break_is c.args.layout.now set k image s words c.requires.image streams c.requires.placed)
    ∙ (sym moved ∙ c.in-Ok.ensures.cause))

pub returns-in-Err-clause-cause : goal.returns-in-Err-clause-cause
returns-in-Err-clause-cause c =
    let set = set_of c.args.set.now in
    let k = c.args.number in
    let s = get_or c.args.set.now.streams.now c.args.number c.index-set-number.result in
    let image = c.args.image.now in
    let words = c.args.words.now in
    let segments = c.new-moving.ensures.segments ∙ (c.deref.ensures.value ∙ ap (λ (i : Img). i.segments) c.image.view_is) in
    let lt : k < length set.streams = omega (arith, slice_get_within set.images k image c.requires.image, c.requires.sound.many) in
    let streams : slice_get set.streams k ≡ Some s = slice_get_read set.streams (length set.streams) k s refl lt (ap (λ (t : StreamLists). get_or set.streams k t) c.index-set-number.is) in
    let moved : break_with c.new-moving.result.layout.now c.new-moving.result.number c.new-moving.result.segments.now s words ≡ break_with c.args.layout.now k image.segments s words =
    λ j. break_with (c.new-moving.ensures.layout j) (c.new-moving.ensures.number j) (segments j) s words in
    let refused : IsRefusal (image_break c.args.layout.now set k) c.in-Err.fault =
    subst (λ (o : Option Site). IsRefusal o c.in-Err.fault) (moved ∙ break_is c.args.layout.now set k image s words c.requires.image streams c.requires.placed) c.in-Err.ensures.cause in
    subst (λ (f : SetFault). IsSetRefusal (option_map (in_image k) (image_break c.args.layout.now set k)) f) (sym c.in_image.ensures) (refused_in k (image_break c.args.layout.now set k) c.in-Err.fault refused)
