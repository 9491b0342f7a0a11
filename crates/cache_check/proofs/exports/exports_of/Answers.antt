use Rattle.cache_check.proofs.ExportLaws.{few_exports}
use Rattle.cache_check.proofs.exports.exports_of.Goals as goal

pub returns-in-Ok-clause-few : goal.returns-in-Ok-clause-few
returns-in-Ok-clause-few c = few_exports c.in-Ok.exports.items c.in-Ok.ensures.writable.few
