use Rattle.std.proofs.Common.{ℕ, List, Option, sym, subst, ◌∙◌}
use Rattle.dsc_base.specs.declared.fault.Break.{Break}
use Rattle.dsc_base.specs.Refusals.{IsSetRefusal}
use Rattle.load_model.specs.Phases.{contents}
use Rattle.cache_build.specs.Breaks.{set_break}
use Rattle.cache_build.specs.Filling.{ArePartsOf}
use Rattle.cache_build.proofs.BuiltSets.{ready_handed}
use Rattle.cache_build.proofs.GatherLaws.{refused_by}
use Rattle.cache_build.proofs.builder.make_parts.Goals as goal

pub returns-in_err-read-clause-cause : goal.returns-in_err-read-clause-cause
returns-in_err-read-clause-cause c =
    refused_by (set_break c.args.bits (contents c.args.files.now)) c.from_residual.result c.in_err-read.field-0.0 c.from_residual.ensures.1 (c.in_err-read.ensures.cause c.args.bits)

pub gather-requires-clause-prepared : goal.gather-requires-clause-prepared
gather-requires-clause-prepared c =
    let files = contents c.args.files.now in
    let read = c.in_ok-read.read in
    let ready =
    ready_handed c.args.bits files read.images.items c.deref.result.now read.streams.items c.deref-2.result.now read.tables.items c.deref-3.result.now read.links read.words.items c.deref-4.result.now c.in_ok-read.layout
    (c.in_ok-read.ensures.ready c.args.bits c.requires.bits) c.deref.ensures.value c.deref-2.ensures.value c.deref-3.ensures.value c.deref-4.ensures.value in
    ready.prepared

pub gather-requires-clause-can : goal.gather-requires-clause-can
gather-requires-clause-can c =
    let files = contents c.args.files.now in
    let read = c.in_ok-read.read in
    let ready =
    ready_handed c.args.bits files read.images.items c.deref.result.now read.streams.items c.deref-2.result.now read.tables.items c.deref-3.result.now read.links read.words.items c.deref-4.result.now c.in_ok-read.layout
    (c.in_ok-read.ensures.ready c.args.bits c.requires.bits) c.deref.ensures.value c.deref-2.ensures.value c.deref-3.ensures.value c.deref-4.ensures.value in
    ready.can

pub returns-in_err-parts-clause-cause : goal.returns-in_err-parts-clause-cause
returns-in_err-parts-clause-cause c =
    let files = contents c.args.files.now in
    let read = c.in_ok-read.read in
    let ready =
    ready_handed c.args.bits files read.images.items c.deref.result.now read.streams.items c.deref-2.result.now read.tables.items c.deref-3.result.now read.links read.words.items c.deref-4.result.now c.in_ok-read.layout
    (c.in_ok-read.ensures.ready c.args.bits c.requires.bits) c.deref.ensures.value c.deref-2.ensures.value c.deref-3.ensures.value c.deref-4.ensures.value in
    refused_by (set_break c.args.bits files) c.from_residual-in_err-parts.result c.in_err-parts.field-0.0 c.from_residual-in_err-parts.ensures.1
    (subst (λ (o : Option Break). IsSetRefusal o c.in_err-parts.field-0.0) (sym ready.breaks) c.in_err-parts.ensures.cause)

pub returns-clause-parts : goal.returns-clause-parts
returns-clause-parts c =
    let files = contents c.args.files.now in
    let read = c.in_ok-read.read in
    let ready =
    ready_handed c.args.bits files read.images.items c.deref.result.now read.streams.items c.deref-2.result.now read.tables.items c.deref-3.result.now read.links read.words.items c.deref-4.result.now c.in_ok-read.layout
    (c.in_ok-read.ensures.ready c.args.bits c.requires.bits) c.deref.ensures.value c.deref-2.ensures.value c.deref-3.ensures.value c.deref-4.ensures.value in
    subst (λ (cache : List ℕ). ArePartsOf cache c.in_ok-read.layout c.in_ok-parts.frame c.in_ok-parts.parts) ready.cache c.in_ok-parts.ensures.parts

pub returns-clause-cause : goal.returns-clause-cause
returns-clause-cause c =
    let files = contents c.args.files.now in
    let read = c.in_ok-read.read in
    let ready =
    ready_handed c.args.bits files read.images.items c.deref.result.now read.streams.items c.deref-2.result.now read.tables.items c.deref-3.result.now read.links read.words.items c.deref-4.result.now c.in_ok-read.layout
    (c.in_ok-read.ensures.ready c.args.bits c.requires.bits) c.deref.ensures.value c.deref-2.ensures.value c.deref-3.ensures.value c.deref-4.ensures.value in
    ready.breaks ∙ c.in_ok-parts.ensures.cause
