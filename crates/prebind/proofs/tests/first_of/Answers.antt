use Rattle.prebind.proofs.SetLaws.{have_streams, sound_read}
use Rattle.prebind.proofs.tests.first_of.Goals as goal

pub first_words-requires-clause-sound : goal.first_words-requires-clause-sound
first_words-requires-clause-sound g c =
    let images = c.args.images.now in
    sound_read images c.args.streams.now c.in-Ok.links c.requires.lists c.in-Ok.ensures.links c.requires.few (have_streams images c.requires.unbroken) c.in-Ok.ensures.cause
