use Rattle.std.proofs.Common.{◌≡◌, ◌<◌, ◌∙◌, ◌+◌, ◌^◌, ap, ap₂, arith}
use Rattle.cache_header.specs.Records.{Entry}
use Rattle.cache_header.specs.Spelling.{image_info, image_fields, path_place}
use Rattle.cache_header.proofs.PathLaws.{path_place-fits, place_more}
use Rattle.cache_header.proofs.TableLaws.{spelled_start, entry_more, entries_all}
use Rattle.cache_header.proofs.tables.image_table.Goals as goal
use Rattle.cache_header.proofs.tables.image_table.Goals.{After-path_room-path_at}

next : (c : After-path_room-path_at) → c.loop-image.path_at + c.path_room-path_at.result ≡ path_place c.args.images.now (c.loop-image.image-index + 1)
next c =
    place_more c.args.images.now c.loop-image.image-index c.image-item.result c.loop-image.path_at c.path_room-path_at.result
    c.loop-image-test.true c.image-item.is c.loop-image.invariant.0 c.path_room-path_at.ensures

pub loop-image-init : goal.loop-image-init
loop-image-init c = (c.first_path-path_at.ensures, c.in_ok-table.ensures.items ∙ spelled_start)

pub overflow_add-path_at : goal.overflow_add-path_at
overflow_add-path_at c =
    let fits : path_place c.args.images.now (c.loop-image.image-index + 1) < 2 ^ 32 = path_place-fits c.args.images.now (c.loop-image.image-index + 1) c.requires.few c.requires.plain in
    omega (arith, fits, next c)

pub loop-image-preserved : goal.loop-image-preserved
loop-image-preserved c = (
  next c,
  entry_more (image_fields c.args.images.now) c.args.images.now c.loop-image.image-index c.image-item.result (image_info c.image.inside.address c.loop-image.path_at) c.loop-image.table.items _
      c.loop-image-test.true c.image-item.is
      (ap₂ image_info (ap (λ (e : Entry). e.address) c.image.view_is) c.loop-image.invariant.0)
      c.in_ok-append_image.ensures c.loop-image.invariant.1,
)

pub returns : goal.returns
returns c = entries_all (image_fields c.args.images.now) c.args.images.now c.loop-image.image-index c.loop-image.table.items c.loop-image-test.false c.loop-image.invariant.1
