use Rattle.std.proofs.Common.{◌∙◌, refl, sym, ap, subst}
use Rattle.std.specs.Prelude.{is_some}
use Rattle.macho_image.specs.Macho.{install_name_of, groups_of, uuid_of}
use Rattle.macho_image.specs.Breaks.{IsSound}
use Rattle.macho_image.specs.Views.{image_view}
use Rattle.macho_image.proofs.Images.{IsMade, made_image, is_some-copied}
use Rattle.macho_image.proofs.read.make_image.Goals.{After-is_some}
use Rattle.macho_image.proofs.read.make_image.Goals as goal

made : (c : After-is_some) → IsMade c.args.bytes.now c.args.header.now c.args.commands.now c.args.loads.now
    (image_view (record { install_name = c.install_name.result; segments = c.in_ok-segments.segments; sections = c.in_ok-sections.sections; dependencies = c.in_ok-dependencies.dependencies; streams = c.streams.result; groups = c.groups.result; uuid = c.uuid.result; has_dyld_info = c.is_some.result; header = c.args.header }))
made c = record {
  install_name = c.install_name.ensures ∙ ap install_name_of c.command_of.ensures.found;
  segments = c.in_ok-segments.ensures.found;
  sections = c.in_ok-sections.ensures.found;
  dependencies = c.in_ok-dependencies.ensures.found;
  streams = c.streams.ensures;
  groups = c.groups.ensures ∙ ap groups_of c.command_of-2.ensures.found;
  uuid = c.uuid.ensures ∙ ap uuid_of c.command_of-3.ensures.found;
  has_dyld_info = c.is_some.ensures ∙ (is_some-copied c.dyld_info_of.result ∙ ap is_some c.dyld_info_of.ensures.found);
  header = refl;
}

pub invariant_of-result : goal.invariant_of-result
invariant_of-result c = subst IsSound (sym (made_image _ _ _ _ _ c.requires.commands c.requires.segments (made c))) c.requires.sound

pub returns-clause-found : goal.returns-clause-found
returns-clause-found c = made_image _ _ _ _ _ c.requires.commands c.requires.segments (made c)
