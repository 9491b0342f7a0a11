use Rattle.std.proofs.Common.{◌≡◌, map, take}
use Rattle.cache_check.specs.Images.{broken_finding, image_in}
use Rattle.cache_check.proofs.EachLaws.{AreClear}
use Rattle.cache_check.proofs.images.read_images.Given as goal

abbrev pub invariant-loop-number : goal.invariant-loop-number
invariant-loop-number l = record {
  clear : AreClear (broken_finding l.flat) l.entries l.number;
  images : l.images.items ≡ map (image_in l.flat) (take l.number l.entries);
}
