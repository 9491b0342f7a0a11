use Rattle.std.proofs.Common.{◌<◌, length, arith}
use Rattle.prebind.specs.Steps.{set_of}
use Rattle.prebind.proofs.SoundLaws.{sound_links}
use Rattle.prebind.proofs.tests.steps.counted_words.Goals as goal

pub is_searched_in_depth-requires-clause-dependencies : goal.is_searched_in_depth-requires-clause-dependencies
is_searched_in_depth-requires-clause-dependencies g c = omega (arith, (sound_links (set_of c.args.set.now) c.requires).dependencies, c.if-set-lt2.false)

pub is_searched_in_depth-requires-clause-orders : goal.is_searched_in_depth-requires-clause-orders
is_searched_in_depth-requires-clause-orders g c = omega (arith, (sound_links (set_of c.args.set.now) c.requires).orders, c.if-set-lt2.false)
