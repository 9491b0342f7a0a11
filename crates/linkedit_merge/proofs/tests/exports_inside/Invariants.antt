-- The exports of the images so far.
use Rattle.std.proofs.Common.{◌≡◌, ◌<◌, ℕ, None}
use Rattle.prebind.specs.Places.{export_break}
use Rattle.linkedit_merge.proofs.tests.exports_inside.Given as goal

abbrev pub invariant-loop-image : goal.invariant-loop-image
invariant-loop-image l = (k : ℕ) → k < l.image → export_break (record { images = l.set.images.now; streams = l.set.streams.now; links = l.set.links.now }) k ≡ None
