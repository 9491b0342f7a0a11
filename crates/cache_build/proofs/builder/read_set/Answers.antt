use Rattle.std.proofs.Common.{◌∙◌}
use Rattle.load_model.specs.Phases.{contents}
use Rattle.load_model.proofs.FilesLaws.{few_files}
use Rattle.cache_build.proofs.BuildLaws.{handed_each, set_files, set_layout, set_names}
use Rattle.cache_build.proofs.BuiltSets.{IsRead, read_ready}
use Rattle.cache_build.proofs.builder.read_set.Goals as goal

pub returns-in_err-read-clause-cause : goal.returns-in_err-read-clause-cause
returns-in_err-read-clause-cause c =
    let files = contents c.args.files.now in
    handed_each files c.from_residual.result c.in_err-read.field-0.0 c.from_residual.ensures.1 (λ bits. set_files bits files c.in_err-read.field-0.0 c.in_err-read.ensures.cause)

pub lay_out-requires-clause-names : goal.lay_out-requires-clause-names
lay_out-requires-clause-names c = set_names (contents c.args.files.now) c.deref.result.now (c.deref.ensures.value ∙ c.in_ok-read.ensures.images) c.in_ok-read.ensures.cause

pub returns-in_err-layout-clause-cause : goal.returns-in_err-layout-clause-cause
returns-in_err-layout-clause-cause c =
    let files = contents c.args.files.now in
    handed_each files c.from_residual-in_err-layout.result c.in_err-layout.field-0.0 c.from_residual-in_err-layout.ensures.1
    (λ bits. set_layout bits files c.deref.result.now c.in_err-layout.field-0.0 (c.deref.ensures.value ∙ c.in_ok-read.ensures.images) c.in_ok-read.ensures.cause c.in_err-layout.ensures.cause)

pub returns-clause-ready : goal.returns-clause-ready
returns-clause-ready c =
    let files = contents c.args.files.now in
    let read = c.in_ok-read.read in
    let laid_images = c.deref.result.now in
    let l = c.in_ok-layout.layout in
    let is : IsRead files read.images.items laid_images read.streams.items read.tables.items read.links read.words.items l = record {
      few = few_files c.args.files.now c.requires.few;
      bytes = c.requires.bytes;
      images_are = c.in_ok-read.ensures.images;
      streams_are = c.in_ok-read.ensures.streams;
      tables_are = c.in_ok-read.ensures.tables;
      links_are = c.in_ok-read.ensures.links;
      words_placed = c.in_ok-read.ensures.words;
      unbroken = c.in_ok-read.ensures.cause;
      laid_of = c.deref.ensures.value ∙ c.in_ok-read.ensures.images;
      laid = c.in_ok-layout.ensures.layout;
      fits = c.in_ok-layout.ensures.fits;
    } in
    read_ready files read.images.items laid_images read.streams.items read.tables.items read.links read.words.items l is
