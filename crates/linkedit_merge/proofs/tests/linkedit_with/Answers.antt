use Rattle.std.proofs.Common.{arith}
use Rattle.prebind.proofs.SetLaws.{have_streams, sound_read}
use Rattle.linkedit_merge.proofs.tests.linkedit_with.Goals as goal

pub merged_of-requires-clause-sound : goal.merged_of-requires-clause-sound
merged_of-requires-clause-sound c =
    let images = c.args.images.now in
    sound_read images c.args.streams.now c.in-Ok.links c.requires.lists c.in-Ok.ensures.links (omega (arith, c.requires.few)) (have_streams images c.requires.unbroken) c.in-Ok.ensures.cause
