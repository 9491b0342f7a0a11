use Rattle.std.proofs.Common.{◌∙◌, ap, ℕ, Vec, Global}
use Rattle.dsc_tool.proofs.TrialLaws.{trial_told}
use Rattle.dsc_tool.proofs.product.prepare_trial.Goals as goal

pub returns-clause-product : goal.returns-clause-product
returns-clause-product g c =
    trial_told c.args.seed c.args.count c.in_ok-cache.cache.items c.deref.result.now c.into_bytes.result.items _ c.in_ok-cache.ensures.cache c.deref.ensures.value
    (ap (λ (v : Vec ℕ Global). v.items) c.into_bytes.ensures.value ∙ c.in_ok-line.ensures.line) c.only_text.ensures
