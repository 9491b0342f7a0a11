use Rattle.std.proofs.Common.{◌∙◌, ℕ, ap, Option, arith, get_or}
use Rattle.std.specs.Prelude.{option_map}
use Rattle.dsc_base.specs.declared.rule.Rule.TheVariants.{ExportOutside}
use Rattle.dsc_base.specs.Refusals.{in_image, broken}
use Rattle.macho_image.specs.Records.{Img}
use Rattle.prebind.specs.Sets.{StreamLists}
use Rattle.prebind.specs.Steps.{set_of}
use Rattle.prebind.proofs.SoundLaws.{sound_tries, break_at}
use Rattle.prebind.proofs.exports.check_exports.Goals as goal

pub image_stray-requires : goal.image_stray-requires
image_stray-requires c = sound_tries (set_of c.args.set.now) c.requires.sound c.args.image c.index-set-image-2.result (omega (arith, c.requires.image, c.requires.sound.many))

pub returns-in-Some : goal.returns-in-Some
returns-in-Some c =
    let images = c.args.set.now.images.now in
    let streams = c.args.set.now.streams.now in
    break_at (set_of c.args.set.now) c.args.image (get_or images c.args.image c.index-set-image.result) (get_or streams c.args.image c.index-set-image-2.result) c.in_ok-found.found c.requires.sound.many c.requires.image
    (ap (λ (i : Img). get_or images c.args.image i) c.index-set-image.is) (ap (λ (s : StreamLists). get_or streams c.args.image s) c.index-set-image-2.is) c.in_ok-found.ensures
    ∙ ap (λ (o : Option ℕ). option_map (in_image c.args.image) (broken ExportOutside o)) c.in-Some.is

pub returns-in-None : goal.returns-in-None
returns-in-None c =
    let images = c.args.set.now.images.now in
    let streams = c.args.set.now.streams.now in
    break_at (set_of c.args.set.now) c.args.image (get_or images c.args.image c.index-set-image.result) (get_or streams c.args.image c.index-set-image-2.result) c.in_ok-found.found c.requires.sound.many c.requires.image
    (ap (λ (i : Img). get_or images c.args.image i) c.index-set-image.is) (ap (λ (s : StreamLists). get_or streams c.args.image s) c.index-set-image-2.is) c.in_ok-found.ensures
    ∙ ap (λ (o : Option ℕ). option_map (in_image c.args.image) (broken ExportOutside o)) c.in-None.is
