-- The tables of the images so far.
use Rattle.std.proofs.Common.{◌≡◌, ◌<◌, ℕ, length, get_or}
use Rattle.macho_image.specs.Records.{Img}
use Rattle.nlist_table.specs.Symbols.{Tabs}
use Rattle.nlist_table.specs.Kept.{AreTables}
use Rattle.linkedit_merge.proofs.tests.tables_of.Given as goal

abbrev pub invariant-loop-image : goal.invariant-loop-image
invariant-loop-image l = record {
  many : length l.tables.items ≡ l.image-index;
  each : (k : ℕ) → k < l.image-index → (i : Img) (t : Tabs) → AreTables (length (get_or l.images k i).sections) (get_or l.tables.items k t);
}
