use Rattle.std.proofs.Common.{◌∙◌}
use Rattle.load_model.specs.Phases.{contents}
use Rattle.cache_build.specs.Breaks.{set_break}
use Rattle.cache_build.proofs.BuildLaws.{handed_set}
use Rattle.cache_build.proofs.BuiltFiles.{files_correspond, files_images, files_sound, files_span}
use Rattle.cache_build.proofs.builder.build.Goals as goal

pub returns-in_err-layout-clause-cause : goal.returns-in_err-layout-clause-cause
returns-in_err-layout-clause-cause g c =
    handed_set (set_break c.args.options.now.delta_bits (contents c.args.files.now)) c.from_residual.result c.in_err-layout.field-0.0 c.from_residual.ensures.1 c.in_err-layout.ensures.cause

pub returns-clause-cache : goal.returns-clause-cache
returns-clause-cache g c = c.in_ok-cache.ensures ∙ c.in_ok-layout.ensures.parts.is

pub returns-in_err-layout-clause-corresponds : goal.returns-in_err-layout-clause-corresponds
returns-in_err-layout-clause-corresponds g c = files_correspond c.args.options.now.delta_bits c.args.files.now c.requires.bits c.requires.few c.files_are_bytes.ensures

pub returns-in_err-cache-clause-corresponds : goal.returns-in_err-cache-clause-corresponds
returns-in_err-cache-clause-corresponds g c = files_correspond c.args.options.now.delta_bits c.args.files.now c.requires.bits c.requires.few c.files_are_bytes.ensures

pub returns-clause-corresponds : goal.returns-clause-corresponds
returns-clause-corresponds g c = files_correspond c.args.options.now.delta_bits c.args.files.now c.requires.bits c.requires.few c.files_are_bytes.ensures

pub returns-in_err-layout-clause-span : goal.returns-in_err-layout-clause-span
returns-in_err-layout-clause-span g c = files_span c.args.options.now.delta_bits c.args.files.now c.requires.bits c.requires.few c.files_are_bytes.ensures

pub returns-in_err-cache-clause-span : goal.returns-in_err-cache-clause-span
returns-in_err-cache-clause-span g c = files_span c.args.options.now.delta_bits c.args.files.now c.requires.bits c.requires.few c.files_are_bytes.ensures

pub returns-clause-span : goal.returns-clause-span
returns-clause-span g c = files_span c.args.options.now.delta_bits c.args.files.now c.requires.bits c.requires.few c.files_are_bytes.ensures

pub returns-in_err-layout-clause-sound : goal.returns-in_err-layout-clause-sound
returns-in_err-layout-clause-sound g c = files_sound c.args.options.now.delta_bits c.args.files.now c.requires.bits c.requires.few c.files_are_bytes.ensures

pub returns-in_err-cache-clause-sound : goal.returns-in_err-cache-clause-sound
returns-in_err-cache-clause-sound g c = files_sound c.args.options.now.delta_bits c.args.files.now c.requires.bits c.requires.few c.files_are_bytes.ensures

pub returns-clause-sound : goal.returns-clause-sound
returns-clause-sound g c = files_sound c.args.options.now.delta_bits c.args.files.now c.requires.bits c.requires.few c.files_are_bytes.ensures

pub returns-in_err-layout-clause-images : goal.returns-in_err-layout-clause-images
returns-in_err-layout-clause-images g c = files_images c.args.options.now.delta_bits c.args.files.now c.requires.bits c.requires.few c.files_are_bytes.ensures

pub returns-in_err-cache-clause-images : goal.returns-in_err-cache-clause-images
returns-in_err-cache-clause-images g c = files_images c.args.options.now.delta_bits c.args.files.now c.requires.bits c.requires.few c.files_are_bytes.ensures

pub returns-clause-images : goal.returns-clause-images
returns-clause-images g c = files_images c.args.options.now.delta_bits c.args.files.now c.requires.bits c.requires.few c.files_are_bytes.ensures
