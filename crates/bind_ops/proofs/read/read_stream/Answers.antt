-- What was kept of each opcode is what the opcode means, so the loop reads the opcodes one by one.
use Rattle.std.proofs.Common.{◌≡◌, ◌∙◌, ◌++◌, ℕ, List, map, length, sym, ap, subst, None}
use Rattle.std.specs.Prelude.{option_map, Result}
use Rattle.dsc_base.specs.Refusals.{IsRefusal}
use Rattle.macho_image.specs.Runs.{first_fault}
use Rattle.macho_image.specs.Streams.{opcodes_of, site_in, reading_break}
use Rattle.macho_image.proofs.StreamLaws.{reading_start, reading_step, reading_fault, reading_refused, reading_done, reading_end, refuses_on}
use Rattle.bind_ops.specs.declared.fault.BindFault.{BindFault}
use Rattle.bind_ops.specs.declared.opcode.Effect.{Effect}
use Rattle.bind_ops.specs.Binds.{start, bound_at, record_fault, meaning}
use Rattle.bind_ops.specs.Faults.{rule_in}
use Rattle.bind_ops.specs.Opcodes.{opcode_at, spelling}
use Rattle.bind_ops.specs.Steps.Effects.{reason_of, because, settings_of}
use Rattle.bind_ops.proofs.BindLaws.{refused_as}
use Rattle.bind_ops.proofs.EffectLaws.{opcode_read, refused_read, offsets_done, state_done, ends_done}
use Rattle.bind_ops.proofs.read.read_stream.Goals as goal

pub loop-at-init : goal.loop-at-init
loop-at-init c =
    reading_start (spelling c.args.kind) (meaning c.args.kind c.args.image.now) start c.args.stream.now c.new-out.result.items (settings_of c.start-state.result) c.new-out.ensures.items c.start-state.ensures

pub returns-in-Err-clause-cause : goal.returns-in-Err-clause-cause
returns-in-Err-clause-cause c =
    refused_as (reading_break (meaning c.args.kind c.args.image.now) start 0 (opcodes_of (spelling c.args.kind) c.args.stream.now)) c.broken.result
    (site_in (rule_in c.args.kind) c.loop-at.at (reason_of c.in-Err.fault)) c.broken.ensures
    (reading_refused (spelling c.args.kind) (meaning c.args.kind c.args.image.now) start c.args.stream.now c.loop-at.at (settings_of c.loop-at.state) c.loop-at.out.items (reason_of c.in-Err.fault)
    c.loop-at.invariant c.loop-at-test.true (refused_read (opcode_at c.args.stream.now c.loop-at.at) (reason_of c.in-Err.fault) (ap (λ (r : Result (Effect × ℕ) BindFault). because r) (sym c.in-Err.is) ∙ c.read_opcode.ensures.value)))

pub returns-then-ends-clause-found : goal.returns-then-ends-clause-found
returns-then-ends-clause-found c =
    let has = opcode_read (opcode_at c.args.stream.now c.loop-at.at) c.in-Ok.read.0 c.in-Ok.read.1 (ap (λ (r : Result (Effect × ℕ) BindFault). because r) (sym c.in-Ok.is) ∙ c.read_opcode.ensures.value) in
    (reading_done (spelling c.args.kind) (meaning c.args.kind c.args.image.now) start c.args.stream.now c.loop-at.at (settings_of c.loop-at.state) c.loop-at.out.items (has.opcode, c.in-Ok.read.1)
    c.loop-at.invariant c.loop-at-test.true has.read (ends_done c.args.kind has.opcode c.in-Ok.read.0 has.is ∙ sym c.if-ends.ensures)).added

pub returns-then-ends-clause-cause : goal.returns-then-ends-clause-cause
returns-then-ends-clause-cause c =
    let has = opcode_read (opcode_at c.args.stream.now c.loop-at.at) c.in-Ok.read.0 c.in-Ok.read.1 (ap (λ (r : Result (Effect × ℕ) BindFault). because r) (sym c.in-Ok.is) ∙ c.read_opcode.ensures.value) in
    (reading_done (spelling c.args.kind) (meaning c.args.kind c.args.image.now) start c.args.stream.now c.loop-at.at (settings_of c.loop-at.state) c.loop-at.out.items (has.opcode, c.in-Ok.read.1)
    c.loop-at.invariant c.loop-at-test.true has.read (ends_done c.args.kind has.opcode c.in-Ok.read.0 has.is ∙ sym c.if-ends.ensures)).sound

pub returns-in_err-apply-clause-cause : goal.returns-in_err-apply-clause-cause
returns-in_err-apply-clause-cause c =
    let has = opcode_read (opcode_at c.args.stream.now c.loop-at.at) c.in-Ok.read.0 c.in-Ok.read.1 (ap (λ (r : Result (Effect × ℕ) BindFault). because r) (sym c.in-Ok.is) ∙ c.read_opcode.ensures.value) in
    let offsets = offsets_done c.loop-at.state has.opcode c.in-Ok.read.0 has.is in
    refuses_on (reading_break (meaning c.args.kind c.args.image.now) start 0 (opcodes_of (spelling c.args.kind) c.args.stream.now)) c.from_residual.result c.in_err-apply.field-0.0 c.from_residual.ensures.1
    (reading_fault (spelling c.args.kind) (meaning c.args.kind c.args.image.now) start c.args.stream.now c.loop-at.at (settings_of c.loop-at.state) c.loop-at.out.items has.opcode c.in-Ok.read.1 c.in_err-apply.field-0.0
    c.loop-at.invariant c.loop-at-test.true has.read (ends_done c.args.kind has.opcode c.in-Ok.read.0 has.is ∙ sym c.if-ends.ensures)
    (subst (λ (os : List ℕ). IsRefusal (option_map (site_in (rule_in c.args.kind) c.loop-at.at) (first_fault (record_fault c.args.image.now (settings_of c.loop-at.state)) (length c.loop-at.out.items) os)) c.in_err-apply.field-0.0) offsets
    c.in_err-apply.ensures.cause))

pub loop-at-preserved : goal.loop-at-preserved
loop-at-preserved c =
    let has = opcode_read (opcode_at c.args.stream.now c.loop-at.at) c.in-Ok.read.0 c.in-Ok.read.1 (ap (λ (r : Result (Effect × ℕ) BindFault). because r) (sym c.in-Ok.is) ∙ c.read_opcode.ensures.value) in
    let offsets = offsets_done c.loop-at.state has.opcode c.in-Ok.read.0 has.is in
    reading_step (spelling c.args.kind) (meaning c.args.kind c.args.image.now) start c.args.stream.now c.loop-at.at (settings_of c.loop-at.state) c.loop-at.out.items has.opcode c.in-Ok.read.1 (settings_of c.apply.new.state) c.apply.new.out.items
    c.loop-at.invariant c.loop-at-test.true c.in-Ok.ensures.within.0 has.read (ends_done c.args.kind has.opcode c.in-Ok.read.0 has.is ∙ sym c.if-ends.ensures)
    (ap settings_of c.in_ok-apply.ensures.moved ∙ state_done c.loop-at.state has.opcode c.in-Ok.read.0 has.is)
    (c.in_ok-apply.ensures.added ∙ ap (λ (os : List ℕ). c.loop-at.out.items ++ map (bound_at c.args.image.now (settings_of c.loop-at.state)) os) offsets)
    (subst (λ (os : List ℕ). option_map (site_in (rule_in c.args.kind) c.loop-at.at) (first_fault (record_fault c.args.image.now (settings_of c.loop-at.state)) (length c.loop-at.out.items) os) ≡ None) offsets c.in_ok-apply.ensures.cause)

pub returns-clause-found : goal.returns-clause-found
returns-clause-found c =
    (reading_end (spelling c.args.kind) (meaning c.args.kind c.args.image.now) start c.args.stream.now c.loop-at.at (settings_of c.loop-at.state) c.loop-at.out.items c.loop-at.invariant c.loop-at-test.false).added

pub returns-clause-cause : goal.returns-clause-cause
returns-clause-cause c =
    (reading_end (spelling c.args.kind) (meaning c.args.kind c.args.image.now) start c.args.stream.now c.loop-at.at (settings_of c.loop-at.state) c.loop-at.out.items c.loop-at.invariant c.loop-at-test.false).sound
