use Rattle.std.proofs.Common.{List, Some, None, sym, ◌∙◌, subst}
use Rattle.std.specs.Prelude.{option_copied}
use Rattle.macho_image.specs.declared.place.Location.{Location}
use Rattle.dsc_base.specs.Refusals.{IsRefusal}
use Rattle.split_info.specs.declared.reference.Reference.{Reference}
use Rattle.split_info.specs.Split.{spelled_of, reading_break, split_break, AreReferences}
use Rattle.split_info.proofs.ReadLaws.{reading_refused, overlap_is, overlap_read, reading_kept}
use Rattle.split_info.proofs.AcceptLaws.{accepted}
use Rattle.split_info.proofs.read.read_split.Goals as goal
use Rattle.macho_image.proofs.StreamLaws.{refuses_on}

pub returns-in_err-references-clause-cause : goal.returns-in_err-references-clause-cause
returns-in_err-references-clause-cause c =
    let stream = option_copied c.args.stream in
    refuses_on (split_break stream c.args.image.now c.args.rebases.now c.args.bound.now) c.from_residual.result c.in_err-references.field-0.0 c.from_residual.ensures.1
    (reading_refused stream c.args.image.now c.args.rebases.now c.args.bound.now c.in_err-references.field-0.0
    (subst (λ (ls : List Location). IsRefusal (reading_break ls 0 (spelled_of stream c.args.image.now)) c.in_err-references.field-0.0) c.new-rebases.ensures c.in_err-references.ensures.cause))

pub returns-in-Some-clause-cause : goal.returns-in-Some-clause-cause
returns-in-Some-clause-cause c =
    let stream = option_copied c.args.stream in
    let tried =
    overlap_read stream c.args.image.now c.args.rebases.now c.args.bound.now c.new-rebases.result c.in_ok-references.references.items c.deref.result.now c.in_ok-at.field-0
    c.new-rebases.ensures c.in_ok-references.ensures.found c.deref.ensures.value c.in_ok-at.ensures.found in
    let kept = reading_kept stream c.args.image.now c.args.rebases.now c.new-rebases.result c.new-rebases.ensures c.in_ok-references.ensures.cause in
    overlap_is stream c.args.image.now c.args.rebases.now c.args.bound.now (Some c.in-Some.at) kept (tried ∙ c.in-Some.is)

pub returns-in-None-clause-sound : goal.returns-in-None-clause-sound
returns-in-None-clause-sound c =
    let stream = option_copied c.args.stream in
    let tried =
    overlap_read stream c.args.image.now c.args.rebases.now c.args.bound.now c.new-rebases.result c.in_ok-references.references.items c.deref.result.now c.in_ok-at.field-0
    c.new-rebases.ensures c.in_ok-references.ensures.found c.deref.ensures.value c.in_ok-at.ensures.found in
    let kept = reading_kept stream c.args.image.now c.args.rebases.now c.new-rebases.result c.new-rebases.ensures c.in_ok-references.ensures.cause in
    subst (λ (rs : List Reference). AreReferences c.args.image.now c.args.rebases.now c.args.bound.now rs) (sym c.in_ok-references.ensures.found)
    (accepted c.args.image.now stream c.args.rebases.now c.args.bound.now c.facts.ensures kept (tried ∙ c.in-None.is))

pub returns-in-None-clause-cause : goal.returns-in-None-clause-cause
returns-in-None-clause-cause c =
    let stream = option_copied c.args.stream in
    let tried =
    overlap_read stream c.args.image.now c.args.rebases.now c.args.bound.now c.new-rebases.result c.in_ok-references.references.items c.deref.result.now c.in_ok-at.field-0
    c.new-rebases.ensures c.in_ok-references.ensures.found c.deref.ensures.value c.in_ok-at.ensures.found in
    let kept = reading_kept stream c.args.image.now c.args.rebases.now c.new-rebases.result c.new-rebases.ensures c.in_ok-references.ensures.cause in
    overlap_is stream c.args.image.now c.args.rebases.now c.args.bound.now None kept (tried ∙ c.in-None.is)
