-- No image, one image, and two halves.
use Rattle.std.proofs.Common.{◌≤◌, ◌/◌, ◌∙◌, List, ◌++◌, ℕ, length, sym, ap, ap₂, subst}
use Rattle.std.proofs.lemmas.Bool.{eqb-true}
use Rattle.ref_rewrite.specs.Plans.{Plan}
use Rattle.ref_rewrite.specs.Rewritten.{joined}
use Rattle.ref_rewrite.specs.Runs.{IsBlankRun}
use Rattle.ref_rewrite.proofs.RunLaws.{joined_none, joined_one, joined_halves, blank_front, blank_back, cut_within}
use Rattle.ref_rewrite.proofs.rewrite.+run.Goals as goal

pub rewrite_run-returns-then-is_empty-clause-text : goal.rewrite_run-returns-then-is_empty-clause-text
rewrite_run-returns-then-is_empty-clause-text g t c =
    joined_none (λ (p : Plan). p.text) c.args.text.now c.args.plans.now (eqb-true (length c.args.plans.now) 0 (sym c.is_empty.ensures ∙ c.if-is_empty.true)) c.requires.text

pub rewrite_run-returns-then-plans-eq1-clause-text : goal.rewrite_run-returns-then-plans-eq1-clause-text
rewrite_run-returns-then-plans-eq1-clause-text g t c =
    joined_one (λ (p : Plan). p.text) c.rewrite_image.new.text c.args.plans.now c.index-plans-0.result c.if-plans-eq1.true c.index-plans-0.is c.rewrite_image.ensures.text

pub rewrite_run-split_at_mut-text_left-requires : goal.rewrite_run-split_at_mut-text_left-requires
rewrite_run-split_at_mut-text_left-requires g t c =
    let within : _ = cut_within (λ (p : Plan). p.text) c.args.text.now c.args.plans.now (length c.args.plans.now / 2) c.requires.text in
    subst (λ (n : ℕ). n ≤ length c.args.text.now) (sym c.lens-text_len.ensures.text) within

pub rewrite_run-rewrite_halves-requires-clause-text_left : goal.rewrite_run-rewrite_halves-requires-clause-text_left
rewrite_run-rewrite_halves-requires-clause-text_left g t c κs within =
    let cut = c.split_at_mut-text_left in
    subst (IsBlankRun (λ (p : Plan). p.text) cut.result.0.now) (sym c.split_at.ensures.front)
    (blank_front (λ (p : Plan). p.text) c.args.text.now cut.result.0.now cut.result.1.now c.args.plans.now (length c.args.plans.now / 2) c.requires.text cut.ensures.value (cut.ensures.front_len ∙ c.lens-text_len.ensures.text))

pub rewrite_run-rewrite_halves-requires-clause-text_right : goal.rewrite_run-rewrite_halves-requires-clause-text_right
rewrite_run-rewrite_halves-requires-clause-text_right g t c κs within =
    let cut = c.split_at_mut-text_left in
    subst (IsBlankRun (λ (p : Plan). p.text) cut.result.1.now) (sym c.split_at.ensures.back)
    (blank_back (λ (p : Plan). p.text) c.args.text.now cut.result.0.now cut.result.1.now c.args.plans.now (length c.args.plans.now / 2) c.requires.text cut.ensures.value (cut.ensures.front_len ∙ c.lens-text_len.ensures.text))

pub rewrite_run-returns-clause-text : goal.rewrite_run-returns-clause-text
rewrite_run-returns-clause-text g t c =
    ap₂ (λ (front back : List ℕ). front ++ back)
    (c.rewrite_halves.ensures.text_left ∙ ap (joined (λ (p : Plan). p.text)) c.split_at.ensures.front)
    (c.rewrite_halves.ensures.text_right ∙ ap (joined (λ (p : Plan). p.text)) c.split_at.ensures.back)
    ∙ joined_halves (λ (p : Plan). p.text) c.args.plans.now (length c.args.plans.now / 2)

pub rewrite_run-returns-then-is_empty-clause-writable : goal.rewrite_run-returns-then-is_empty-clause-writable
rewrite_run-returns-then-is_empty-clause-writable g t c =
    joined_none (λ (p : Plan). p.writable) c.args.writable.now c.args.plans.now (eqb-true (length c.args.plans.now) 0 (sym c.is_empty.ensures ∙ c.if-is_empty.true)) c.requires.writable

pub rewrite_run-returns-then-plans-eq1-clause-writable : goal.rewrite_run-returns-then-plans-eq1-clause-writable
rewrite_run-returns-then-plans-eq1-clause-writable g t c =
    joined_one (λ (p : Plan). p.writable) c.rewrite_image.new.writable c.args.plans.now c.index-plans-0.result c.if-plans-eq1.true c.index-plans-0.is c.rewrite_image.ensures.writable

pub rewrite_run-split_at_mut-writable_left-requires : goal.rewrite_run-split_at_mut-writable_left-requires
rewrite_run-split_at_mut-writable_left-requires g t c =
    let within : _ = cut_within (λ (p : Plan). p.writable) c.args.writable.now c.args.plans.now (length c.args.plans.now / 2) c.requires.writable in
    subst (λ (n : ℕ). n ≤ length c.args.writable.now) (sym c.lens-text_len.ensures.writable) within

pub rewrite_run-rewrite_halves-requires-clause-writable_left : goal.rewrite_run-rewrite_halves-requires-clause-writable_left
rewrite_run-rewrite_halves-requires-clause-writable_left g t c κs within =
    let cut = c.split_at_mut-writable_left in
    subst (IsBlankRun (λ (p : Plan). p.writable) cut.result.0.now) (sym c.split_at.ensures.front)
    (blank_front (λ (p : Plan). p.writable) c.args.writable.now cut.result.0.now cut.result.1.now c.args.plans.now (length c.args.plans.now / 2) c.requires.writable cut.ensures.value (cut.ensures.front_len ∙ c.lens-text_len.ensures.writable))

pub rewrite_run-rewrite_halves-requires-clause-writable_right : goal.rewrite_run-rewrite_halves-requires-clause-writable_right
rewrite_run-rewrite_halves-requires-clause-writable_right g t c κs within =
    let cut = c.split_at_mut-writable_left in
    subst (IsBlankRun (λ (p : Plan). p.writable) cut.result.1.now) (sym c.split_at.ensures.back)
    (blank_back (λ (p : Plan). p.writable) c.args.writable.now cut.result.0.now cut.result.1.now c.args.plans.now (length c.args.plans.now / 2) c.requires.writable cut.ensures.value (cut.ensures.front_len ∙ c.lens-text_len.ensures.writable))

pub rewrite_run-returns-clause-writable : goal.rewrite_run-returns-clause-writable
rewrite_run-returns-clause-writable g t c =
    ap₂ (λ (front back : List ℕ). front ++ back)
    (c.rewrite_halves.ensures.writable_left ∙ ap (joined (λ (p : Plan). p.writable)) c.split_at.ensures.front)
    (c.rewrite_halves.ensures.writable_right ∙ ap (joined (λ (p : Plan). p.writable)) c.split_at.ensures.back)
    ∙ joined_halves (λ (p : Plan). p.writable) c.args.plans.now (length c.args.plans.now / 2)

pub rewrite_run-returns-then-is_empty-clause-fixed : goal.rewrite_run-returns-then-is_empty-clause-fixed
rewrite_run-returns-then-is_empty-clause-fixed g t c =
    joined_none (λ (p : Plan). p.fixed) c.args.fixed.now c.args.plans.now (eqb-true (length c.args.plans.now) 0 (sym c.is_empty.ensures ∙ c.if-is_empty.true)) c.requires.fixed

pub rewrite_run-returns-then-plans-eq1-clause-fixed : goal.rewrite_run-returns-then-plans-eq1-clause-fixed
rewrite_run-returns-then-plans-eq1-clause-fixed g t c =
    joined_one (λ (p : Plan). p.fixed) c.rewrite_image.new.fixed c.args.plans.now c.index-plans-0.result c.if-plans-eq1.true c.index-plans-0.is c.rewrite_image.ensures.fixed

pub rewrite_run-split_at_mut-fixed_left-requires : goal.rewrite_run-split_at_mut-fixed_left-requires
rewrite_run-split_at_mut-fixed_left-requires g t c =
    let within : _ = cut_within (λ (p : Plan). p.fixed) c.args.fixed.now c.args.plans.now (length c.args.plans.now / 2) c.requires.fixed in
    subst (λ (n : ℕ). n ≤ length c.args.fixed.now) (sym c.lens-text_len.ensures.fixed) within

pub rewrite_run-rewrite_halves-requires-clause-fixed_left : goal.rewrite_run-rewrite_halves-requires-clause-fixed_left
rewrite_run-rewrite_halves-requires-clause-fixed_left g t c κs within =
    let cut = c.split_at_mut-fixed_left in
    subst (IsBlankRun (λ (p : Plan). p.fixed) cut.result.0.now) (sym c.split_at.ensures.front)
    (blank_front (λ (p : Plan). p.fixed) c.args.fixed.now cut.result.0.now cut.result.1.now c.args.plans.now (length c.args.plans.now / 2) c.requires.fixed cut.ensures.value (cut.ensures.front_len ∙ c.lens-text_len.ensures.fixed))

pub rewrite_run-rewrite_halves-requires-clause-fixed_right : goal.rewrite_run-rewrite_halves-requires-clause-fixed_right
rewrite_run-rewrite_halves-requires-clause-fixed_right g t c κs within =
    let cut = c.split_at_mut-fixed_left in
    subst (IsBlankRun (λ (p : Plan). p.fixed) cut.result.1.now) (sym c.split_at.ensures.back)
    (blank_back (λ (p : Plan). p.fixed) c.args.fixed.now cut.result.0.now cut.result.1.now c.args.plans.now (length c.args.plans.now / 2) c.requires.fixed cut.ensures.value (cut.ensures.front_len ∙ c.lens-text_len.ensures.fixed))

pub rewrite_run-returns-clause-fixed : goal.rewrite_run-returns-clause-fixed
rewrite_run-returns-clause-fixed g t c =
    ap₂ (λ (front back : List ℕ). front ++ back)
    (c.rewrite_halves.ensures.fixed_left ∙ ap (joined (λ (p : Plan). p.fixed)) c.split_at.ensures.front)
    (c.rewrite_halves.ensures.fixed_right ∙ ap (joined (λ (p : Plan). p.fixed)) c.split_at.ensures.back)
    ∙ joined_halves (λ (p : Plan). p.fixed) c.args.plans.now (length c.args.plans.now / 2)
