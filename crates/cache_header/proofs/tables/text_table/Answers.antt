use Rattle.std.proofs.Common.{◌≡◌, ◌<◌, ◌∙◌, ◌+◌, ◌^◌, ap₂, sym, subst, ℕ, arith}
use Rattle.std.proofs.lemmas.List.Elements.{All-nil, All-more, All-same}
use Rattle.std.proofs.lemmas.List.{take_all}
use Rattle.cache_header.specs.Records.{Entry}
use Rattle.cache_header.specs.Spelling.{text_info, text_fields, path_place}
use Rattle.cache_header.specs.Widths.{FitsEntry}
use Rattle.cache_header.proofs.PathLaws.{path_place-fits, place_more}
use Rattle.cache_header.proofs.TableLaws.{spelled_start, entry_more, entries_all}
use Rattle.cache_header.proofs.tables.text_table.Goals as goal
use Rattle.cache_header.proofs.tables.text_table.Goals.{After-path_room-path_at}

next : (c : After-path_room-path_at) → c.loop-image.path_at + c.path_room-path_at.result ≡ path_place c.args.images.now (c.loop-image.image-index + 1)
next c =
    place_more c.args.images.now c.loop-image.image-index c.image-item.result c.loop-image.path_at c.path_room-path_at.result
    c.loop-image-test.true c.image-item.is c.loop-image.invariant.0 c.path_room-path_at.ensures

fits : (c : After-path_room-path_at) → FitsEntry c.image-item.result
fits c =
    subst FitsEntry c.image.view_is record {
      address = c.append_text.ensures.address_fits;
      uuid = c.append_text.ensures.uuid_fits;
      text_size = c.append_text.ensures.size_fits;
    }

pub loop-image-init : goal.loop-image-init
loop-image-init c = (c.first_path-path_at.ensures, c.in_ok-table.ensures.items ∙ spelled_start, All-nil FitsEntry)

pub overflow_add-path_at : goal.overflow_add-path_at
overflow_add-path_at c =
    let fits_field : path_place c.args.images.now (c.loop-image.image-index + 1) < 2 ^ 32 = path_place-fits c.args.images.now (c.loop-image.image-index + 1) c.requires.few c.requires.plain in
    omega (arith, fits_field, next c)

pub loop-image-preserved : goal.loop-image-preserved
loop-image-preserved c = (
  next c,
  entry_more (text_fields c.args.images.now) c.args.images.now c.loop-image.image-index c.image-item.result
      (text_info c.image.inside.uuid c.image.inside.address c.image.inside.text_size c.loop-image.path_at) c.loop-image.table.items _
      c.loop-image-test.true c.image-item.is
      (ap₂ (λ (e : Entry) (at : ℕ). text_info e.uuid e.address e.text_size at) c.image.view_is c.loop-image.invariant.0)
      c.in_ok-append_text.ensures.bytes c.loop-image.invariant.1,
  All-more FitsEntry c.args.images.now c.loop-image.image-index c.image-item.result c.loop-image-test.true c.loop-image.invariant.2 (subst FitsEntry c.image-item.is (fits c)),
)

pub returns-clause-bytes : goal.returns-clause-bytes
returns-clause-bytes c = entries_all (text_fields c.args.images.now) c.args.images.now c.loop-image.image-index c.loop-image.table.items c.loop-image-test.false c.loop-image.invariant.1

pub returns-clause-fits : goal.returns-clause-fits
returns-clause-fits c =
    All-same FitsEntry c.args.images.now _ (sym (take_all c.loop-image.image-index c.args.images.now c.loop-image-test.false)) c.loop-image.invariant.2
