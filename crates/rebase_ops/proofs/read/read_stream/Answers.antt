-- What was kept of each opcode is what the opcode means, so the loop reads the opcodes one by one.
use Rattle.std.proofs.Common.{◌≡◌, ◌∙◌, ◌++◌, ℕ, List, map, length, refl, sym, ap, subst, None}
use Rattle.std.specs.Prelude.{option_map}
use Rattle.dsc_base.specs.Refusals.{IsRefusal}
use Rattle.macho_image.specs.Places.{location}
use Rattle.macho_image.specs.Runs.{first_fault}
use Rattle.macho_image.specs.Streams.{opcodes_of, reading_break}
use Rattle.macho_image.proofs.StreamLaws.{reading_start, reading_step, reading_fault, reading_refused, reading_done, reading_end, refuses_on}
use Rattle.rebase_ops.specs.Opcodes.{opcode_at, spelling}
use Rattle.rebase_ops.specs.Rebases.{start, record_fault, site_of, meaning}
use Rattle.rebase_ops.specs.Steps.Effects.{state_of}
use Rattle.rebase_ops.proofs.EffectLaws.{opcode_read, refused_read, offsets_done, cursor_done, goes_on, ended}
use Rattle.rebase_ops.proofs.read.read_stream.Goals as goal

pub loop-at-init : goal.loop-at-init
loop-at-init c = reading_start spelling (meaning c.args.image.now) start c.args.stream.now c.new-out.result.items _ c.new-out.ensures.items refl

pub returns-in-Err-clause-cause : goal.returns-in-Err-clause-cause
returns-in-Err-clause-cause c =
    reading_refused spelling (meaning c.args.image.now) start c.args.stream.now c.loop-at.at (state_of c.loop-at.cursor) c.loop-at.out.items c.in-Err.rule c.loop-at.invariant c.loop-at-test.true
    (refused_read (opcode_at c.args.stream.now c.loop-at.at) c.in-Err.rule c.in-Err.ensures.value)

pub returns-in-Ends-clause-found : goal.returns-in-Ends-clause-found
returns-in-Ends-clause-found c =
    let has = opcode_read (opcode_at c.args.stream.now c.loop-at.at) c.in-Ok.read.0 c.in-Ok.read.1 c.in-Ok.ensures.value in
    (reading_done spelling (meaning c.args.image.now) start c.args.stream.now c.loop-at.at (state_of c.loop-at.cursor) c.loop-at.out.items (has.opcode, c.in-Ok.read.1) c.loop-at.invariant c.loop-at-test.true has.read
    (ended has.opcode (has.is ∙ c.in-Ends.is))).added

pub returns-in-Ends-clause-cause : goal.returns-in-Ends-clause-cause
returns-in-Ends-clause-cause c =
    let has = opcode_read (opcode_at c.args.stream.now c.loop-at.at) c.in-Ok.read.0 c.in-Ok.read.1 c.in-Ok.ensures.value in
    (reading_done spelling (meaning c.args.image.now) start c.args.stream.now c.loop-at.at (state_of c.loop-at.cursor) c.loop-at.out.items (has.opcode, c.in-Ok.read.1) c.loop-at.invariant c.loop-at-test.true has.read
    (ended has.opcode (has.is ∙ c.in-Ends.is))).sound

pub returns-in_err-cursor-clause-cause : goal.returns-in_err-cursor-clause-cause
returns-in_err-cursor-clause-cause c =
    let has = opcode_read (opcode_at c.args.stream.now c.loop-at.at) c.in-Ok.read.0 c.in-Ok.read.1 c.in-Ok.ensures.value in
    let offsets = offsets_done c.loop-at.cursor has.opcode c.in-Ok.read.0 has.is in
    refuses_on (reading_break (meaning c.args.image.now) start 0 (opcodes_of spelling c.args.stream.now)) c.from_residual.result c.in_err-cursor.field-0.0 c.from_residual.ensures.1
    (reading_fault spelling (meaning c.args.image.now) start c.args.stream.now c.loop-at.at (state_of c.loop-at.cursor) c.loop-at.out.items has.opcode c.in-Ok.read.1 c.in_err-cursor.field-0.0
    c.loop-at.invariant c.loop-at-test.true has.read (goes_on has.opcode (λ e. c.in_default.not-Ends (sym has.is ∙ e)))
    (subst (λ (os : List ℕ). IsRefusal (option_map (site_of c.loop-at.at) (first_fault (record_fault c.args.image.now c.loop-at.cursor.segment) (length c.loop-at.out.items) os)) c.in_err-cursor.field-0.0) offsets
    c.in_err-cursor.ensures.cause))

pub loop-at-preserved : goal.loop-at-preserved
loop-at-preserved c =
    let has = opcode_read (opcode_at c.args.stream.now c.loop-at.at) c.in-Ok.read.0 c.in-Ok.read.1 c.in-Ok.ensures.value in
    let offsets = offsets_done c.loop-at.cursor has.opcode c.in-Ok.read.0 has.is in
    reading_step spelling (meaning c.args.image.now) start c.args.stream.now c.loop-at.at (state_of c.loop-at.cursor) c.loop-at.out.items has.opcode c.in-Ok.read.1 (state_of c.in_ok-cursor.cursor) c.apply.new.out.items
    c.loop-at.invariant c.loop-at-test.true c.in-Ok.ensures.within.0 has.read (goes_on has.opcode (λ e. c.in_default.not-Ends (sym has.is ∙ e)))
    (ap state_of c.in_ok-cursor.ensures.moved ∙ cursor_done c.loop-at.cursor has.opcode c.in-Ok.read.0 has.is)
    (c.in_ok-cursor.ensures.added ∙ ap (λ (os : List ℕ). c.loop-at.out.items ++ map (location c.args.image.now c.loop-at.cursor.segment) os) offsets)
    (subst (λ (os : List ℕ). option_map (site_of c.loop-at.at) (first_fault (record_fault c.args.image.now c.loop-at.cursor.segment) (length c.loop-at.out.items) os) ≡ None) offsets c.in_ok-cursor.ensures.cause)

pub returns-clause-found : goal.returns-clause-found
returns-clause-found c =
    (reading_end spelling (meaning c.args.image.now) start c.args.stream.now c.loop-at.at (state_of c.loop-at.cursor) c.loop-at.out.items c.loop-at.invariant c.loop-at-test.false).added

pub returns-clause-cause : goal.returns-clause-cause
returns-clause-cause c =
    (reading_end spelling (meaning c.args.image.now) start c.args.stream.now c.loop-at.at (state_of c.loop-at.cursor) c.loop-at.out.items c.loop-at.invariant c.loop-at-test.false).sound
