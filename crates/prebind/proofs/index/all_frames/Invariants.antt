use Rattle.std.proofs.Common.{◌≡◌, take, map}
use Rattle.std.specs.Prelude.{All}
use Rattle.prebind.specs.Indexed.{frame_of, WasRead}
use Rattle.prebind.proofs.index.all_frames.Given as goal

abbrev pub invariant-loop-image : goal.invariant-loop-image
invariant-loop-image l = record {
  frames : l.frames.items ≡ map frame_of (take l.image-index l.images);
  read : All WasRead (take l.image-index l.images);
}
