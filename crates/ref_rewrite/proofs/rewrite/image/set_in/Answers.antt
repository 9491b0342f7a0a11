-- An edit that lies in the span is set, and another one changes nothing.
use Rattle.std.proofs.Common.{◌≡◌, ◌-◌, ◌∙◌, ℕ, inl, inr, true, false, sym, ap}
use Rattle.dsc_base.specs.Numbers.{put_number}
use Rattle.ref_rewrite.specs.Rewritten.{lies_in}
use Rattle.ref_rewrite.proofs.SpanLaws.{edit_within, edit_without}
use Rattle.ref_rewrite.proofs.rewrite.image.set_in.Goals as goal

pub returns-then-edit-eq4 : goal.returns-then-edit-eq4
returns-then-edit-eq4 c =
    let within : lies_in c.args.span c.args.edit.at c.args.edit.width ≡ true =
    ap (λ (n : ℕ). lies_in c.args.span c.args.edit.at n) (sym c.from.ensures) ∙ (sym c.lies_in.ensures ∙ c.if-lies_in.true) in
    let four : c.args.edit.width ≡ 4 = c.if-edit-eq4.true in
    c.put_u32.ensures.put
    ∙ (ap (λ (w : ℕ). put_number w c.args.area.now (c.args.edit.at - c.args.span.at) c.args.edit.value) (sym four)
    ∙ sym (edit_within c.args.span c.args.edit c.args.area.now within))

pub returns-else-edit-eq4 : goal.returns-else-edit-eq4
returns-else-edit-eq4 c =
    let within : lies_in c.args.span c.args.edit.at c.args.edit.width ≡ true =
    ap (λ (n : ℕ). lies_in c.args.span c.args.edit.at n) (sym c.from.ensures) ∙ (sym c.lies_in.ensures ∙ c.if-lies_in.true) in
    let eight : c.args.edit.width ≡ 8 = elim c.requires.width [ inl four ↦ absurd (c.if-edit-eq4.false four) | inr is ↦ is ] in
    c.put_u64.ensures.put
    ∙ (ap (λ (w : ℕ). put_number w c.args.area.now (c.args.edit.at - c.args.span.at) c.args.edit.value) (sym eight)
    ∙ sym (edit_within c.args.span c.args.edit c.args.area.now within))

pub returns-else-lies_in : goal.returns-else-lies_in
returns-else-lies_in c =
    let without : lies_in c.args.span c.args.edit.at c.args.edit.width ≡ false =
    ap (λ (n : ℕ). lies_in c.args.span c.args.edit.at n) (sym c.from.ensures) ∙ (sym c.lies_in.ensures ∙ c.if-lies_in.false) in
    sym (edit_without c.args.span c.args.edit c.args.area.now without)
