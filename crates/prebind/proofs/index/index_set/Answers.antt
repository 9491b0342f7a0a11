use Rattle.prebind.specs.Steps.{set_of}
use Rattle.prebind.proofs.SoundLaws.{sound_tries}
use Rattle.prebind.proofs.index.index_set.Goals as goal

pub all_names-requires-clause-tries : goal.all_names-requires-clause-tries
all_names-requires-clause-tries c = sound_tries (set_of c.args.set.now) c.requires
