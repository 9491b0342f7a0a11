use Rattle.std.proofs.Common.{◌<◌, ◌+◌, ◌^◌, ◌∙◌, length, ap, sym, subst, ℕ, List, Option, Some, arith}
use Rattle.std.proofs.lemmas.Result.{err_from_is_err_and}
use Rattle.dsc_base.specs.declared.fault.Site.{Site}
use Rattle.macho_image.specs.Records.{SegmentLoad, Img}
use Rattle.macho_image.specs.Macho.{segment_loads, image_from, image_of}
use Rattle.macho_image.specs.Breaks.{image_unless, command_break, IsSound}
use Rattle.macho_image.proofs.Unbroken.{refused_kind, refused_commands, refused_loads, none_broken, few_loads, image_sound}
use Rattle.macho_image.proofs.read.read_image.Goals as goal

pub returns-in_err-commands-clause-cause : goal.returns-in_err-commands-clause-cause
returns-in_err-commands-clause-cause c =
    let p = err_from_is_err_and c.from_residual.result c.from_residual.ensures.1 in
    rw (p.1, p.2) (refused_kind c.args.form c.args.bytes.now c.args.header_at _ _ c.header_in-header.ensures c.in_err-commands.ensures.cause)

pub returns-in_err-check_kinds-clause-cause : goal.returns-in_err-check_kinds-clause-cause
returns-in_err-check_kinds-clause-cause c =
    let p = err_from_is_err_and c.from_residual-in_err-check_kinds.result c.from_residual-in_err-check_kinds.ensures.1 in
    rw (p.1, p.2) (refused_commands c.args.form c.args.bytes.now c.args.header_at _ _ _ c.header_in-header.ensures
    (c.deref.ensures.value ∙ c.in_ok-commands.ensures.found) c.in_ok-commands.ensures.cause c.in_err-check_kinds.ensures)

pub returns-in_err-check_loads-clause-cause : goal.returns-in_err-check_loads-clause-cause
returns-in_err-check_loads-clause-cause c =
    let p = err_from_is_err_and c.from_residual-in_err-check_loads.result c.from_residual-in_err-check_loads.ensures.1 in
    let loads = c.deref-3.ensures.value ∙ c.in_ok-commands.ensures.found in
    let segments = c.deref-4.ensures.value ∙ (c.in_ok-loads.ensures.found ∙ ap segment_loads (c.deref-2.ensures.value ∙ sym c.deref-3.ensures.value)) in
    let sized = ap (λ (n : ℕ). 32 + n) (c.from.ensures ∙ c.number32.ensures) in
    let kinds = ap command_break (c.deref-3.ensures.value ∙ sym c.deref.ensures.value) ∙ c.in_ok-check_kinds.ensures in
    rw (p.1, p.2) (refused_loads c.args.form c.args.bytes.now c.args.header_at _ _ _ _ _ c.header_in-header.ensures loads segments sized c.in_ok-commands.ensures.cause kinds c.in_err-check_loads.ensures)

pub make_image-requires-clause-few : goal.make_image-requires-clause-few
make_image-requires-clause-few c =
    let all = c.deref-6.ensures.value ∙ (c.in_ok-loads.ensures.found ∙ ap segment_loads (c.deref-2.ensures.value ∙ c.in_ok-commands.ensures.found)) in
    subst (λ (ss : List SegmentLoad). length ss < 2 ^ 32) (sym all) (few_loads c.header_in-header.result.now (λ k. let fits = c.type_inv.header k in omega (arith, fits)))

pub make_image-requires-clause-sound : goal.make_image-requires-clause-sound
make_image-requires-clause-sound c =
    let loads = c.deref-3.ensures.value ∙ c.in_ok-commands.ensures.found in
    let segments = c.deref-4.ensures.value ∙ (c.in_ok-loads.ensures.found ∙ ap segment_loads (c.deref-2.ensures.value ∙ sym c.deref-3.ensures.value)) in
    let sized = ap (λ (n : ℕ). 32 + n) (c.from.ensures ∙ c.number32.ensures) in
    let kinds = ap command_break (c.deref-3.ensures.value ∙ sym c.deref.ensures.value) ∙ c.in_ok-check_kinds.ensures in
    let none = none_broken c.args.form c.args.bytes.now c.args.header_at _ _ _ _ c.header_in-header.ensures loads segments sized c.in_ok-commands.ensures.cause kinds c.in_ok-check_loads.ensures in
    subst (λ (l : List ℕ). IsSound (image_from c.args.bytes.now l)) (sym c.header_in-header.ensures) (image_sound c.args.form c.args.bytes.now c.args.header_at c.requires none)

pub returns-clause-image : goal.returns-clause-image
returns-clause-image c =
    let loads = c.deref-3.ensures.value ∙ c.in_ok-commands.ensures.found in
    let segments = c.deref-4.ensures.value ∙ (c.in_ok-loads.ensures.found ∙ ap segment_loads (c.deref-2.ensures.value ∙ sym c.deref-3.ensures.value)) in
    let sized = ap (λ (n : ℕ). 32 + n) (c.from.ensures ∙ c.number32.ensures) in
    let kinds = ap command_break (c.deref-3.ensures.value ∙ sym c.deref.ensures.value) ∙ c.in_ok-check_kinds.ensures in
    let none = none_broken c.args.form c.args.bytes.now c.args.header_at _ _ _ _ c.header_in-header.ensures loads segments sized c.in_ok-commands.ensures.cause kinds c.in_ok-check_loads.ensures in
    let image = c.in_ok-image.ensures.found ∙ ap (λ (l : List ℕ). image_from c.args.bytes.now l) c.header_in-header.ensures in
    ap (λ (found : Option Site). image_unless found (image_of c.args.bytes.now c.args.header_at)) none ∙ ap (λ (i : Img). Some i) (sym image)

pub returns-clause-cause : goal.returns-clause-cause
returns-clause-cause c =
    let loads = c.deref-3.ensures.value ∙ c.in_ok-commands.ensures.found in
    let segments = c.deref-4.ensures.value ∙ (c.in_ok-loads.ensures.found ∙ ap segment_loads (c.deref-2.ensures.value ∙ sym c.deref-3.ensures.value)) in
    let sized = ap (λ (n : ℕ). 32 + n) (c.from.ensures ∙ c.number32.ensures) in
    let kinds = ap command_break (c.deref-3.ensures.value ∙ sym c.deref.ensures.value) ∙ c.in_ok-check_kinds.ensures in
    none_broken c.args.form c.args.bytes.now c.args.header_at _ _ _ _ c.header_in-header.ensures loads segments sized c.in_ok-commands.ensures.cause kinds c.in_ok-check_loads.ensures
