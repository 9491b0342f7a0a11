use Rattle.std.proofs.Common.{Option, length, get_or, sym, ap, subst, ◌∙◌, arith}
use Rattle.dsc_base.specs.declared.fault.Site.{Site}
use Rattle.dsc_base.specs.Refusals.{IsRefusal}
use Rattle.prebind.specs.Indexed.{FrameOf, IndexOf}
use Rattle.prebind.proofs.IndexLaws.{within_each}
use Rattle.prebind.proofs.ImageLaws.{own_image, frame_long, body_few, body_others, body_apart, ordered_words, words_fault}
use Rattle.prebind.proofs.place_indexed.image_words.Goals as goal

pub index-linkedit-requires : goal.index-linkedit-requires
index-linkedit-requires g c =
    let at = c.index-frame.ensures ∙ ap (λ (i : IndexOf). get_or i.frames c.args.image c.index-frame.result.now) c.indexed.view_is in
    let own =
    own_image c.requires.set c.args.links.now c.args.indexed.now c.args.image c.args.segments.now c.args.rebases.now c.args.binds.now c.args.references.now c.index-frame.result.now c.requires.are c.requires.own c.requires.within at in
    omega (arith, frame_long c.requires.set c.args.image c.args.segments.now c.index-frame.result.now own, ap (λ (f : FrameOf). length f.segments) c.frame.view_is)

pub over-requires-clause-apart : goal.over-requires-clause-apart
over-requires-clause-apart g c =
    let at = c.index-frame.ensures ∙ ap (λ (i : IndexOf). get_or i.frames c.args.image c.index-frame.result.now) c.indexed.view_is in
    body_apart c.requires.set c.args.image c.args.segments.now c.index-frame.result.now
    (own_image c.requires.set c.args.links.now c.args.indexed.now c.args.image c.args.segments.now c.args.rebases.now c.args.binds.now c.args.references.now c.index-frame.result.now c.requires.are c.requires.own c.requires.within at)

pub over-requires-clause-few : goal.over-requires-clause-few
over-requires-clause-few g c =
    let at = c.index-frame.ensures ∙ ap (λ (i : IndexOf). get_or i.frames c.args.image c.index-frame.result.now) c.indexed.view_is in
    body_few c.requires.set c.args.image c.args.segments.now c.index-frame.result.now
    (own_image c.requires.set c.args.links.now c.args.indexed.now c.args.image c.args.segments.now c.args.rebases.now c.args.binds.now c.args.references.now c.index-frame.result.now c.requires.are c.requires.own c.requires.within at)

pub new-body-requires : goal.new-body-requires
new-body-requires g c =
    let at = c.index-frame.ensures ∙ ap (λ (i : IndexOf). get_or i.frames c.args.image c.index-frame.result.now) c.indexed.view_is in
    record {
      few = body_few c.requires.set c.args.image c.args.segments.now c.index-frame.result.now
          (own_image c.requires.set c.args.links.now c.args.indexed.now c.args.image c.args.segments.now c.args.rebases.now c.args.binds.now c.args.references.now c.index-frame.result.now c.requires.are c.requires.own c.requires.within at);
      others = body_others c.requires.set c.args.image c.args.segments.now c.args.rebases.now c.args.binds.now c.args.references.now c.requires.own;
      indexed = c.in_ok-index.ensures;
    }

pub returns-in-Ok-clause-found : goal.returns-in-Ok-clause-found
returns-in-Ok-clause-found g c = λ set are own.
    let within = within_each set c.requires.set c.args.links.now c.args.indexed.now c.args.image are c.requires.are c.requires.within in
    let at = c.index-frame.ensures ∙ ap (λ (i : IndexOf). get_or i.frames c.args.image c.index-frame.result.now) c.indexed.view_is in
    let span = c.index-linkedit.ensures ∙ ap (λ (f : FrameOf). get_or f.segments (length c.args.segments.now) c.index-linkedit.result.now) c.frame.view_is in
    ordered_words set c.args.links.now c.args.indexed.now c.args.image c.args.segments.now c.args.rebases.now c.args.binds.now c.args.references.now c.index-frame.result.now c.index-linkedit.result.now c.new-body.result c.in_ok-placed.placed.items
    c.in-Ok.words.items are own within at span c.new-body.ensures (c.in_ok-placed.ensures.found set are) c.in-Ok.ensures.found

pub returns-in-Ok-clause-cause : goal.returns-in-Ok-clause-cause
returns-in-Ok-clause-cause g c = λ set are own.
    let within = within_each set c.requires.set c.args.links.now c.args.indexed.now c.args.image are c.requires.are c.requires.within in
    let at = c.index-frame.ensures ∙ ap (λ (i : IndexOf). get_or i.frames c.args.image c.index-frame.result.now) c.indexed.view_is in
    let span = c.index-linkedit.ensures ∙ ap (λ (f : FrameOf). get_or f.segments (length c.args.segments.now) c.index-linkedit.result.now) c.frame.view_is in
    sym (words_fault set c.args.links.now c.args.indexed.now c.args.image c.args.segments.now c.args.rebases.now c.args.binds.now c.args.references.now c.index-frame.result.now c.index-linkedit.result.now c.new-body.result are own within at span
    c.new-body.ensures (c.in_ok-placed.ensures.cause set are))
    ∙ c.in-Ok.ensures.cause

pub returns-clause-cause : goal.returns-clause-cause
returns-clause-cause g c = λ set are own.
    let within = within_each set c.requires.set c.args.links.now c.args.indexed.now c.args.image are c.requires.are c.requires.within in
    let at = c.index-frame.ensures ∙ ap (λ (i : IndexOf). get_or i.frames c.args.image c.index-frame.result.now) c.indexed.view_is in
    let span = c.index-linkedit.ensures ∙ ap (λ (f : FrameOf). get_or f.segments (length c.args.segments.now) c.index-linkedit.result.now) c.frame.view_is in
    subst (λ (o : Option Site). IsRefusal o c.in-Err.fault)
    (words_fault set c.args.links.now c.args.indexed.now c.args.image c.args.segments.now c.args.rebases.now c.args.binds.now c.args.references.now c.index-frame.result.now c.index-linkedit.result.now c.new-body.result are own within at span
    c.new-body.ensures (c.in_ok-placed.ensures.cause set are)) c.in-Err.ensures.cause
