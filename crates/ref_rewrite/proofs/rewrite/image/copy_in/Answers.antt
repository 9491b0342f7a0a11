-- A piece that lies in the span is copied, and another one changes nothing.
use Rattle.std.proofs.Common.{◌+◌, ◌-◌, ◌∙◌, length, ℕ, sym, arith}
use Rattle.ref_rewrite.proofs.SpanLaws.{part_within, part_without, put_mid-put_bytes}
use Rattle.ref_rewrite.proofs.rewrite.image.copy_in.Goals as goal

pub returns-then-lies_in : goal.returns-then-lies_in
returns-then-lies_in c =
    let at : ℕ = c.args.at - c.args.span.at in
    put_mid-put_bytes (c.args.at - c.args.span.at) (c.args.at - c.args.span.at + length c.args.bytes.now - (c.args.at - c.args.span.at)) c.args.area.now c.copy_from_slice.new.self c.args.bytes.now c.copy_from_slice.ensures.after (omega arith)
    ∙ sym (part_within c.args.span record { at = c.args.at; bytes = c.args.bytes.now } c.args.area.now (sym c.lies_in.ensures ∙ c.if-lies_in.true))

pub returns-else-lies_in : goal.returns-else-lies_in
returns-else-lies_in c = sym (part_without c.args.span record { at = c.args.at; bytes = c.args.bytes.now } c.args.area.now (sym c.lies_in.ensures ∙ c.if-lies_in.false))
