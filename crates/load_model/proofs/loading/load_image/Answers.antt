use Rattle.std.proofs.Common.{◌∙◌, Option, map, sym, ap, subst, arith, get_or}
use Rattle.std.specs.Prelude.{option_map}
use Rattle.std.proofs.lemmas.Option.{slice_get-get_or}
use Rattle.dsc_base.specs.declared.fault.Site.{Site}
use Rattle.dsc_base.specs.declared.fault.Break.{Break}
use Rattle.dsc_base.specs.declared.fault.SetFault.{SetFault}
use Rattle.dsc_base.specs.Refusals.{in_image, in_set, IsSetRefusal}
use Rattle.prebind.specs.Steps.{set_of}
use Rattle.prebind.specs.WordRules.{bind_fault_from, symbol_break}
use Rattle.prebind.proofs.PlaceLaws.{refused_in}
use Rattle.load_model.specs.Areas.{slide_at}
use Rattle.load_model.specs.Handed.{piece_of}
use Rattle.load_model.proofs.PieceLaws.{file_loaded, file_break}
use Rattle.load_model.proofs.loading.load_image.Goals as goal

pub load_file-requires-clause-streams : goal.load_file-requires-clause-streams
load_file-requires-clause-streams c =
    c.requires.sound.streams c.args.image (get_or c.args.set.now.images.now c.args.image c.index-set-image.result) (get_or c.args.set.now.streams.now c.args.image c.index-set-image-2.result)
    (slice_get-get_or c.args.set.now.images.now c.args.image c.index-set-image.result c.requires.image)
    (slice_get-get_or c.args.set.now.streams.now c.args.image c.index-set-image-2.result (omega (arith, c.requires.image, c.requires.sound.many)))

pub returns-in-Ok-clause-loaded : goal.returns-in-Ok-clause-loaded
returns-in-Ok-clause-loaded c =
    file_loaded (set_of c.args.set.now) (slide_at c.args.slides.now) c.args.image (get_or c.args.set.now.images.now c.args.image c.index-set-image.result) (get_or c.args.set.now.streams.now c.args.image c.index-set-image-2.result)
    (map piece_of c.in-Ok.segments.items)
    (record {
      image_is = slice_get-get_or c.args.set.now.images.now c.args.image c.index-set-image.result c.requires.image;
      streams_are = slice_get-get_or c.args.set.now.streams.now c.args.image c.index-set-image-2.result (omega (arith, c.requires.image, c.requires.sound.many));
    })
    c.in-Ok.ensures.loaded

pub returns-in-Ok-clause-cause : goal.returns-in-Ok-clause-cause
returns-in-Ok-clause-cause c =
    ap (λ (o : Option Site). option_map {T = Site} {U = Break} (in_image c.args.image) o)
    (file_break (set_of c.args.set.now) c.args.image (get_or c.args.set.now.images.now c.args.image c.index-set-image.result) (get_or c.args.set.now.streams.now c.args.image c.index-set-image-2.result)
    (record {
      image_is = slice_get-get_or c.args.set.now.images.now c.args.image c.index-set-image.result c.requires.image;
      streams_are = slice_get-get_or c.args.set.now.streams.now c.args.image c.index-set-image-2.result (omega (arith, c.requires.image, c.requires.sound.many));
    })
    ∙ c.in-Ok.ensures.cause)

pub returns-in-Err-clause-cause : goal.returns-in-Err-clause-cause
returns-in-Err-clause-cause c =
    let lists = get_or c.args.set.now.streams.now c.args.image c.index-set-image-2.result in
    subst (λ (f : SetFault). IsSetRefusal (option_map {T = Site} {U = Break} (in_image c.args.image) (symbol_break (set_of c.args.set.now) c.args.image)) f) (sym c.in_image.ensures)
    (subst (λ (o : Option Site). IsSetRefusal (option_map {T = Site} {U = Break} (in_image c.args.image) o) (in_set c.args.image c.in-Err.fault))
    (sym (file_break (set_of c.args.set.now) c.args.image (get_or c.args.set.now.images.now c.args.image c.index-set-image.result) (get_or c.args.set.now.streams.now c.args.image c.index-set-image-2.result)
    (record {
      image_is = slice_get-get_or c.args.set.now.images.now c.args.image c.index-set-image.result c.requires.image;
      streams_are = slice_get-get_or c.args.set.now.streams.now c.args.image c.index-set-image-2.result (omega (arith, c.requires.image, c.requires.sound.many));
    })))
    (refused_in c.args.image (bind_fault_from (set_of c.args.set.now) c.args.image 0 lists.binds) c.in-Err.fault c.in-Err.ensures.cause))
