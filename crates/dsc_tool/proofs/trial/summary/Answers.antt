use Rattle.std.proofs.lemmas.Result.{err_from_is_err_and}
use Rattle.dsc_tool.proofs.TrialLaws.{only_memory}
use Rattle.dsc_tool.proofs.trial.summary.Goals as goal

pub returns-in_err-read_cache-clause-stop : goal.returns-in_err-read_cache-clause-stop
returns-in_err-read_cache-clause-stop c =
    let p = err_from_is_err_and c.from_residual.result c.from_residual.ensures.1 in
    rw (p.1, p.2) (only_memory c.args.cache.now c.requires c.in_err-read_cache.field-0.0 c.in_err-read_cache.ensures.cause)
