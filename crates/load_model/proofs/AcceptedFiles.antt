-- What files have that break no rule of the first four phases.
use Rattle.std.proofs.Common.{◌≡◌, ℕ, Some, None, List, length}
use Rattle.std.specs.Prelude.{slice_get}
use Rattle.dsc_base.specs.Refusals.{in_each}
use Rattle.macho_image.specs.Records.{Img}
use Rattle.macho_image.specs.TableRules.{table_break}
use Rattle.dep_closure.specs.Breaks.{link_break}
use Rattle.prebind.specs.Sets.{image_set}
use Rattle.prebind.specs.Places.{export_break}
use Rattle.prebind.specs.WordRules.{place_break}
use Rattle.prebind.proofs.SetLaws.{HaveStreams}
use Rattle.load_model.specs.Phases.{images_of, shape_break, linkedits_from, symbols_break, images_break, files_break}
use Rattle.load_model.proofs.FirstLaws.{AreUnbroken, first_each}
use Rattle.load_model.proofs.LinkeditLaws.{streams_unbroken, tables_unbroken}
use Rattle.macho_image.proofs.Unbroken.{or_none}

pub record AreAccepted (files : List (List ℕ)) : Type 0 where
  pub shapes : in_each shape_break 0 files ≡ None
  pub streams : HaveStreams (images_of files)
  pub tables : (k : ℕ) (image : Img) → slice_get (images_of files) k ≡ Some image → table_break image ≡ None
  pub linked : link_break (images_of files) ≡ None
  pub exports : AreUnbroken (export_break (image_set (images_of files))) (length (images_of files))
  pub words : AreUnbroken (place_break (image_set (images_of files))) (length (images_of files))

pub accepted_files : (files : List (List ℕ)) → files_break files ≡ None → AreAccepted files
unfolding files_break images_break symbols_break image_set
accepted_files files none =
    let is : List Img = images_of files in
    let one = or_none (in_each shape_break 0 files) (images_break (images_of files)) none in
    let two = or_none (linkedits_from 0 0 0 is) _ one.1 in
    let three = or_none (link_break is) _ two.1 in
    let four = or_none (symbols_break (image_set is)) None three.1 in
    let five = or_none _ _ four.0 in
    record {
      shapes = one.0;
      streams = streams_unbroken 0 0 0 is two.0;
      tables = tables_unbroken 0 0 0 is two.0;
      linked = three.0;
      exports = first_each (export_break (image_set is)) (length is) five.0;
      words = first_each (place_break (image_set is)) (length is) five.1;
    }
