use Rattle.std.proofs.Common.{◌≡◌, ◌∙◌, ap}
use Rattle.load_model.specs.Phases.{contents}
use Rattle.dsc_tool.specs.Made.{trial_files}
use Rattle.dsc_tool.proofs.TrialLaws.{trial_cache_is}
use Rattle.dsc_tool.proofs.trial.trial_cache.Goals as goal

pub returns-clause-cache : goal.returns-clause-cache
returns-clause-cache g c =
    let built = c.in_ok-build.ensures in
    let files : contents c.deref.result.now ≡ trial_files c.args.seed c.args.count = ◌∙◌ {c = trial_files c.args.seed c.args.count} (ap contents c.deref.ensures.value) c.in_ok-files.ensures.files in
    trial_cache_is c.args.seed c.args.count c.args.options.now.delta_bits (contents c.deref.result.now) c.in_ok-build.field-0.items c.requires.bits files
    built.cache built.unbroken (built.corresponds built.unbroken) (built.span built.unbroken) (built.sound built.unbroken)
