use Rattle.std.proofs.Common.{◌≡◌, ◌∙◌, List, ℕ, length, sym, ap, ap₂, subst, arith, true, false}
use Rattle.std.proofs.lemmas.Bool.{false≢true}
use Rattle.dsc_base.specs.Numbers.{number_at}
use Rattle.slide_chain.specs.Chains.{Slide}
use Rattle.dsc_base.specs.Refusals.{IsViewRefusal}
use Rattle.slide_chain.specs.Info.{is_shaped, is_run, info_finding, info_read, halves_at}
use Rattle.slide_chain.specs.Steps.Shape.{HasShape}
use Rattle.slide_chain.proofs.InfoLaws.{finding-shape, finding-mask, finding-none, length-halves_at, is_run-from}
use Rattle.slide_chain.proofs.info_read.read_slide_info.Goals as goal

pub returns-then-not-is_shaped-clause-cause : goal.returns-then-not-is_shaped-clause-cause
returns-then-not-is_shaped-clause-cause c =
    subst (IsViewRefusal (info_finding c.args.data_size c.args.bytes.now)) (sym c.found.ensures) (finding-shape c.args.data_size c.args.bytes.now (sym c.is_shaped.ensures.test ∙ c.if-not-is_shaped.true))

pub returns-then-not-is_run-clause-cause : goal.returns-then-not-is_run-clause-cause
returns-then-not-is_run-clause-cause c =
    let shaped : is_shaped c.args.data_size c.args.bytes.now ≡ true = sym c.is_shaped.ensures.test ∙ c.if-not-is_shaped.false in
    let fails : is_run (number_at 8 c.args.bytes.now 24) ≡ false = ap is_run (sym c.get_u64-mask.ensures) ∙ (sym c.is_run.ensures.test ∙ c.if-not-is_run.true) in
    subst (IsViewRefusal (info_finding c.args.data_size c.args.bytes.now)) (sym c.found-then-not-is_run.ensures) (finding-mask c.args.data_size c.args.bytes.now shaped fails)

pub returns-then-not-is_run-clause-no_run : goal.returns-then-not-is_run-clause-no_run
returns-then-not-is_run-clause-no_run c = λ _ run.
    let fails : is_run (number_at 8 c.args.bytes.now 24) ≡ false = ap is_run (sym c.get_u64-mask.ensures) ∙ (sym c.is_run.ensures.test ∙ c.if-not-is_run.true) in
    false≢true (sym fails ∙ is_run-from (number_at 8 c.args.bytes.now 24) run)

pub returns-clause-info : goal.returns-clause-info
unfolding info_read
returns-clause-info c =
    let starts : c.in_ok-read_halves.field-0.items ≡ halves_at (number_at 4 c.args.bytes.now 12) c.args.bytes.now (number_at 4 c.args.bytes.now 8) =
    c.in_ok-read_halves.ensures {u = tt} ∙ ap₂ (λ (n at : ℕ). halves_at n c.args.bytes.now at) c.get_u32-2.ensures c.get_u32.ensures in
    let extras : c.in_ok-read_halves-2.field-0.items ≡ halves_at (number_at 4 c.args.bytes.now 20) c.args.bytes.now (number_at 4 c.args.bytes.now 16) =
    c.in_ok-read_halves-2.ensures {u = tt} ∙ ap₂ (λ (n at : ℕ). halves_at n c.args.bytes.now at) c.get_u32-4.ensures c.get_u32-3.ensures in
    ap₂ (λ (m v : ℕ). let s : Slide = record { mask = m; value_add = v; starts = c.in_ok-read_halves.field-0.items; extras = c.in_ok-read_halves-2.field-0.items } in s) c.get_u64-mask.ensures c.get_u64.ensures
    ∙ ap₂ (λ (a b : List ℕ). let s : Slide = record { mask = number_at 8 c.args.bytes.now 24; value_add = number_at 8 c.args.bytes.now 32; starts = a; extras = b } in s) starts extras

pub returns-clause-sound : goal.returns-clause-sound
returns-clause-sound c =
    let shaped : is_shaped c.args.data_size c.args.bytes.now ≡ true = sym c.is_shaped.ensures.test ∙ c.if-not-is_shaped.false in
    let run : is_run (number_at 8 c.args.bytes.now 24) ≡ true = ap is_run (sym c.get_u64-mask.ensures) ∙ (sym c.is_run.ensures.test ∙ c.if-not-is_run.false) in
    finding-none c.args.data_size c.args.bytes.now shaped run

pub returns-clause-pages : goal.returns-clause-pages
returns-clause-pages c =
    let starts : c.in_ok-read_halves.field-0.items ≡ halves_at c.get_u32-2.result c.args.bytes.now c.get_u32.result = c.in_ok-read_halves.ensures {u = tt} in
    let count : length c.in_ok-read_halves.field-0.items ≡ c.get_u32-2.result =
    ap (λ (l : List ℕ). length l) starts ∙ length-halves_at c.get_u32-2.result c.args.bytes.now c.get_u32.result in
    let shape : HasShape c.args.data_size c.args.bytes.now = c.is_shaped.ensures.facts c.if-not-is_shaped.false in
    omega (arith, count, c.get_u32-2.ensures, shape.pages)
