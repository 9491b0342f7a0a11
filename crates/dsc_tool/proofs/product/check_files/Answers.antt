use Rattle.std.proofs.Common.{◌≡◌, ◌∙◌, ℕ, List, [], length, ap, sym, subst, Vec, Global, arith}
use Rattle.load_model.specs.Phases.{contents}
use Rattle.dsc_tool.specs.declared.status.Ending.{Ending}
use Rattle.dsc_tool.specs.Inputs.{AreRead}
use Rattle.dsc_tool.specs.Steps.{made_of}
use Rattle.dsc_tool.proofs.CheckLaws.{verdict_told}
use Rattle.dsc_tool.proofs.product.check_files.Goals as goal

pub returns-clause-product : goal.returns-clause-product
returns-clause-product g c =
    let size : c.len.result ≡ length c.in_ok-files.files.items = omega (arith, c.len.ensures, c.in_ok-files.files.ok) in
    verdict_told (g.S.Store.files c.args.store.now) c.args.inputs.now c.args.cache.now c.deref.result.now c.len.result c.in_ok-verdict.verdict c.into_bytes.result.items (made_of c.only_text.result)
    (subst (λ (l : List (Vec ℕ Global)). AreRead (g.S.Store.files c.args.store.now) c.args.inputs.now (contents l)) (sym c.deref.ensures.value) c.in_ok-files.ensures.read)
    c.in_ok-verdict.ensures.cause c.in_ok-verdict.ensures.verdict
    (size ∙ ap (λ (l : List (Vec ℕ Global)). length l) (sym c.deref.ensures.value))
    (ap (λ (v : Vec ℕ Global). v.items) c.into_bytes.ensures.value ∙ c.in_ok-line.ensures)
    (c.only_text.ensures ∙ ap (λ (e : Ending). record { ending = e; files = []; text = c.into_bytes.result.items }) c.ending_of.ensures)
    c.in_ok-verdict.ensures.agrees
