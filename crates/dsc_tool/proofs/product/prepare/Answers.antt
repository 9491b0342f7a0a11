-- An order is a build, a check, an extraction, a text on the head of a cache, or a trial.
use Rattle.std.proofs.Common.{◌≡◌, ◌∙◌, ℕ, List, Some, refl, ap, ap₂, sym, map, string_bytes, Global}
use Rattle.std.proofs.lemmas.Result.{IfErr-weaker, IfOk-weaker}
use Rattle.dsc_tool.specs.declared.command.Command.{Command}
use Rattle.dsc_tool.specs.Steps.{made_of}
use Rattle.dsc_tool.specs.Texts.{list_text, info_text}
use Rattle.dsc_tool.specs.Words.{build, check, extract, list, info, trial, command_of, order_of}
use Rattle.dsc_tool.proofs.CheckLaws.{check_product, check_due}
use Rattle.dsc_tool.proofs.ExtractLaws.{extract_product, extract_due}
use Rattle.dsc_tool.proofs.ProductLaws.{build_product, build_due, text_product, head_due, trial_product, trial_due}
use Rattle.dsc_tool.proofs.product.prepare.Goals as goal

pub returns-in-Build-clause-product : goal.returns-in-Build-clause-product
returns-in-Build-clause-product g c =
    let spelled : command_of (map (string_bytes {Z = Global}) c.args.words.now) ≡ Some (build c.in-Build.options c.in-Build.out c.deref.result.now) =
    c.in_ok-options.ensures.spelled ∙ (ap (λ (x : Command). Some (order_of x)) c.in-Build.is ∙ ap (λ (l : List (List ℕ)). Some (build c.in-Build.options c.in-Build.out l)) (sym c.deref.ensures.value)) in
    IfOk-weaker c.prepare_build.result _ _ (λ p works. build_product _ _ _ _ c.in-Build.options c.in-Build.out c.deref.result.now (made_of p) spelled works) c.prepare_build.ensures.product

pub returns-in-Build-clause-stop : goal.returns-in-Build-clause-stop
returns-in-Build-clause-stop g c =
    let spelled : command_of (map (string_bytes {Z = Global}) c.args.words.now) ≡ Some (build c.in-Build.options c.in-Build.out c.deref.result.now) =
    c.in_ok-options.ensures.spelled ∙ (ap (λ (x : Command). Some (order_of x)) c.in-Build.is ∙ ap (λ (l : List (List ℕ)). Some (build c.in-Build.options c.in-Build.out l)) (sym c.deref.ensures.value)) in
    IfErr-weaker c.prepare_build.result _ _ (λ stop cause. build_due _ _ _ _ c.in-Build.options c.in-Build.out c.deref.result.now stop spelled cause) c.prepare_build.ensures.stop

pub returns-in-Check-clause-product : goal.returns-in-Check-clause-product
returns-in-Check-clause-product g c =
    let spelled : command_of (map (string_bytes {Z = Global}) c.args.words.now) ≡ Some (check c.as_str.result.now c.deref-in-Check.result.now) =
    c.in_ok-options.ensures.spelled ∙ (ap (λ (x : Command). Some (order_of x)) c.in-Check.is
    ∙ ap₂ (λ (n : List ℕ) (l : List (List ℕ)). Some (check n l)) (sym c.as_str.ensures) (sym c.deref-in-Check.ensures.value)) in
    IfOk-weaker c.prepare_check.result _ _ (λ p works. check_product _ _ _ _ c.as_str.result.now c.deref-in-Check.result.now (made_of p) spelled works) c.prepare_check.ensures.product

pub returns-in-Check-clause-stop : goal.returns-in-Check-clause-stop
returns-in-Check-clause-stop g c =
    let spelled : command_of (map (string_bytes {Z = Global}) c.args.words.now) ≡ Some (check c.as_str.result.now c.deref-in-Check.result.now) =
    c.in_ok-options.ensures.spelled ∙ (ap (λ (x : Command). Some (order_of x)) c.in-Check.is
    ∙ ap₂ (λ (n : List ℕ) (l : List (List ℕ)). Some (check n l)) (sym c.as_str.ensures) (sym c.deref-in-Check.ensures.value)) in
    IfErr-weaker c.prepare_check.result _ _ (λ stop cause. check_due (map (string_bytes {Z = Global}) c.args.words.now) (g.S.Store.files c.args.store.now) (g.S.Store.get_faults c.args.store.now)
    (g.S.Store.get_faults c.prepare_check.new.store) c.as_str.result.now c.deref-in-Check.result.now stop spelled cause) c.prepare_check.ensures.stop

pub returns-in-Extract-clause-product : goal.returns-in-Extract-clause-product
returns-in-Extract-clause-product g c =
    let spelled : command_of (map (string_bytes {Z = Global}) c.args.words.now) ≡ Some (extract c.as_str-in-Extract.result.now c.as_str-in-Extract-2.result.now c.in-Extract.image) =
    c.in_ok-options.ensures.spelled ∙ (ap (λ (x : Command). Some (order_of x)) c.in-Extract.is
    ∙ ap₂ (λ (n p : List ℕ). Some (extract n p c.in-Extract.image)) (sym c.as_str-in-Extract.ensures) (sym c.as_str-in-Extract-2.ensures)) in
    IfOk-weaker c.prepare_extract.result _ _ (λ p works. extract_product _ _ _ _ c.as_str-in-Extract.result.now c.as_str-in-Extract-2.result.now c.in-Extract.image (made_of p) spelled works)
    c.prepare_extract.ensures.product

pub returns-in-Extract-clause-stop : goal.returns-in-Extract-clause-stop
returns-in-Extract-clause-stop g c =
    let spelled : command_of (map (string_bytes {Z = Global}) c.args.words.now) ≡ Some (extract c.as_str-in-Extract.result.now c.as_str-in-Extract-2.result.now c.in-Extract.image) =
    c.in_ok-options.ensures.spelled ∙ (ap (λ (x : Command). Some (order_of x)) c.in-Extract.is
    ∙ ap₂ (λ (n p : List ℕ). Some (extract n p c.in-Extract.image)) (sym c.as_str-in-Extract.ensures) (sym c.as_str-in-Extract-2.ensures)) in
    IfErr-weaker c.prepare_extract.result _ _ (λ stop cause. extract_due (map (string_bytes {Z = Global}) c.args.words.now) (g.S.Store.files c.args.store.now) (g.S.Store.get_faults c.args.store.now)
    (g.S.Store.get_faults c.prepare_extract.new.store) c.as_str-in-Extract.result.now c.as_str-in-Extract-2.result.now c.in-Extract.image stop spelled cause) c.prepare_extract.ensures.stop

pub returns-in-List-clause-product : goal.returns-in-List-clause-product
returns-in-List-clause-product g c =
    let spelled : command_of (map (string_bytes {Z = Global}) c.args.words.now) ≡ Some (list c.as_str-in-List.result.now) =
    c.in_ok-options.ensures.spelled ∙ (ap (λ (x : Command). Some (order_of x)) c.in-List.is ∙ ap (λ (n : List ℕ). Some (list n)) (sym c.as_str-in-List.ensures)) in
    IfOk-weaker c.prepare_list.result _ _ (λ p works. text_product (list c.as_str-in-List.result.now) list_text c.as_str-in-List.result.now refl (λ bytes. refl) _ _ spelled (λ s. refl) _ _ (made_of p) (λ bytes. tt) works)
    c.prepare_list.ensures.product

pub returns-in-List-clause-stop : goal.returns-in-List-clause-stop
returns-in-List-clause-stop g c =
    let spelled : command_of (map (string_bytes {Z = Global}) c.args.words.now) ≡ Some (list c.as_str-in-List.result.now) =
    c.in_ok-options.ensures.spelled ∙ (ap (λ (x : Command). Some (order_of x)) c.in-List.is ∙ ap (λ (n : List ℕ). Some (list n)) (sym c.as_str-in-List.ensures)) in
    IfErr-weaker c.prepare_list.result _ _ (λ stop cause. head_due (list c.as_str-in-List.result.now) list_text c.as_str-in-List.result.now refl (λ bytes. refl) _ _ spelled (λ s. refl) _ _ stop cause) c.prepare_list.ensures.stop

pub returns-in-Info-clause-product : goal.returns-in-Info-clause-product
returns-in-Info-clause-product g c =
    let spelled : command_of (map (string_bytes {Z = Global}) c.args.words.now) ≡ Some (info c.as_str-in-Info.result.now) =
    c.in_ok-options.ensures.spelled ∙ (ap (λ (x : Command). Some (order_of x)) c.in-Info.is ∙ ap (λ (n : List ℕ). Some (info n)) (sym c.as_str-in-Info.ensures)) in
    IfOk-weaker c.prepare_info.result _ _ (λ p works. text_product (info c.as_str-in-Info.result.now) info_text c.as_str-in-Info.result.now refl (λ bytes. refl) _ _ spelled (λ s. refl) _ _ (made_of p) (λ bytes. tt) works)
    c.prepare_info.ensures.product

pub returns-in-Info-clause-stop : goal.returns-in-Info-clause-stop
returns-in-Info-clause-stop g c =
    let spelled : command_of (map (string_bytes {Z = Global}) c.args.words.now) ≡ Some (info c.as_str-in-Info.result.now) =
    c.in_ok-options.ensures.spelled ∙ (ap (λ (x : Command). Some (order_of x)) c.in-Info.is ∙ ap (λ (n : List ℕ). Some (info n)) (sym c.as_str-in-Info.ensures)) in
    IfErr-weaker c.prepare_info.result _ _ (λ stop cause. head_due (info c.as_str-in-Info.result.now) info_text c.as_str-in-Info.result.now refl (λ bytes. refl) _ _ spelled (λ s. refl) _ _ stop cause) c.prepare_info.ensures.stop

pub returns-in-Trial-clause-product : goal.returns-in-Trial-clause-product
returns-in-Trial-clause-product g c =
    let spelled : command_of (map (string_bytes {Z = Global}) c.args.words.now) ≡ Some (trial c.in-Trial.options c.in-Trial.seed c.in-Trial.count) =
    c.in_ok-options.ensures.spelled ∙ ap (λ (x : Command). Some (order_of x)) c.in-Trial.is in
    IfOk-weaker c.prepare_trial.result _ _ (λ p works. trial_product _ _ _ _ c.in-Trial.options c.in-Trial.seed c.in-Trial.count (made_of p) spelled works) c.prepare_trial.ensures.product

pub returns-in-Trial-clause-stop : goal.returns-in-Trial-clause-stop
returns-in-Trial-clause-stop g c =
    let spelled : command_of (map (string_bytes {Z = Global}) c.args.words.now) ≡ Some (trial c.in-Trial.options c.in-Trial.seed c.in-Trial.count) =
    c.in_ok-options.ensures.spelled ∙ ap (λ (x : Command). Some (order_of x)) c.in-Trial.is in
    IfErr-weaker c.prepare_trial.result _ _ (λ stop cause. trial_due _ _ _ _ c.in-Trial.options c.in-Trial.seed c.in-Trial.count stop spelled cause) c.prepare_trial.ensures.stop
