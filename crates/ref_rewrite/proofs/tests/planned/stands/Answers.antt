use Rattle.std.proofs.Common.{subst}
use Rattle.prebind.proofs.SetLaws.{have_streams, set_made, sound_read}
use Rattle.ref_rewrite.specs.Planned.{AreSplitRead}
use Rattle.ref_rewrite.proofs.ReadLaws.{set_read}
use Rattle.ref_rewrite.proofs.tests.planned.stands.Goals as goal

pub planned-requires-clause-sound : goal.planned-requires-clause-sound
planned-requires-clause-sound g c =
    let images = c.args.images.now in
    sound_read images c.args.streams.now c.in-Ok.links c.requires.lists c.in-Ok.ensures.links c.requires.few (have_streams images c.requires.unbroken) c.in-Ok.ensures.cause

pub planned-requires-clause-read : goal.planned-requires-clause-read
planned-requires-clause-read g c =
    let images = c.args.images.now in
    subst AreSplitRead (set_made images c.args.streams.now c.in-Ok.links c.requires.lists c.in-Ok.ensures.links) (set_read images (have_streams images c.requires.unbroken))
