use Rattle.std.proofs.Common.{◌≡◌, ◌≤◌, ℕ, None, List, length, map, sym, subst, arith, ◌∙◌}
use Rattle.std.proofs.lemmas.List.{length-map}
use Rattle.macho_image.specs.Records.{Img}
use Rattle.macho_image.specs.Macho.{image_of}
use Rattle.dep_closure.specs.Linked.{Linked, links_of}
use Rattle.prebind.specs.Sets.{StreamLists, lists_of, IsSoundSet}
use Rattle.prebind.proofs.SetLaws.{sound_read}
use Rattle.load_model.specs.Phases.{contents, dylib_of, images_of, files_break}
use Rattle.load_model.proofs.AcceptedFiles.{AreAccepted, accepted_files}
use Rattle.load_model.proofs.FilesLaws.{few_files}
use Rattle.load_model.proofs.tests.segments_of.Goals as goal

-- the set that is read of accepted files is sound
accepted_sound : (files : List (List ℕ)) (images : List Img) (streams : List StreamLists) (links : Linked) → length files ≤ 4096 → images ≡ images_of files → streams ≡ map lists_of (images_of files) → links ≡ links_of (images_of files)
    → files_break files ≡ None → IsSoundSet (record { images = images; streams = streams; links = links })
accepted_sound files images streams links few images_are streams_are links_are none =
    let accepted : AreAccepted files = accepted_files files none in
    let long : length (images_of files) ≡ length files = length-map files (λ (f : List ℕ). image_of (dylib_of f) 0) in
    subst (λ (is : List Img). IsSoundSet (record { images = is; streams = streams; links = links })) (sym images_are)
    (sound_read (images_of files) streams links streams_are links_are (omega (arith, few, long)) accepted.streams accepted.linked)

pub loaded_of-requires : goal.loaded_of-requires
loaded_of-requires c =
    accepted_sound (contents c.args.files.now) c.deref.result.now c.deref-in-Ok.result.now c.in-Ok.set.links (few_files c.args.files.now c.if-files-gt4096.false) (c.deref.ensures.value ∙ c.in-Ok.ensures.images)
    (c.deref-in-Ok.ensures.value ∙ c.in-Ok.ensures.streams) c.in-Ok.ensures.links c.in-Ok.ensures.cause
