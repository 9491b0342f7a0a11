use Rattle.std.proofs.Common.{◌<◌, ◌^◌, ◌∙◌, subst, All}
use Rattle.macho_image.specs.declared.form.Form.TheVariants.{Standalone}
use Rattle.macho_image.specs.Views.{image_view}
use Rattle.macho_edit.proofs.FrontLaws.{formed_from, standalone_is}
use Rattle.macho_image.specs.declared.place.Moved.{Moved}
use Rattle.macho_edit.proofs.OnlyMoved.{only_alone}
use Rattle.macho_edit.proofs.Reread.{reread_alone}
use Rattle.macho_edit.proofs.header.standalone_header.Goals as goal
use Rattle.macho_image.proofs.HeaderRules.{sound_rules}

pub write_header-requires-clause-shape : goal.write_header-requires-clause-shape
write_header-requires-clause-shape c = let kept = sound_rules (image_view c.image.inside) c.image.invariant in kept.shape

pub returns-clause-bytes : goal.returns-clause-bytes
returns-clause-bytes c =
    formed_from Standalone c.args.image.now (image_view c.image.inside) c.args.moves.now c.deref-2.result.now c.args.spots.now c.in_ok-header.header.items
    c.image.view_is (c.deref-2.ensures.value ∙ c.moves.view_is) c.in_ok-header.ensures.bytes
    ∙ standalone_is c.args.image.now c.args.moves.now c.args.spots.now

pub returns-clause-rereads : goal.returns-clause-rereads
returns-clause-rereads c =
    reread_alone c.args.image.now (image_view c.image.inside) c.args.moves.now c.args.spots.now c.in_ok-header.header.items c.image.view_is
    (formed_from Standalone c.args.image.now (image_view c.image.inside) c.args.moves.now c.deref-2.result.now c.args.spots.now c.in_ok-header.header.items
    c.image.view_is (c.deref-2.ensures.value ∙ c.moves.view_is) c.in_ok-header.ensures.bytes)
    c.image.invariant c.requires c.fit_fields.ensures.fields c.fit_fields.ensures.flags

pub returns-clause-only : goal.returns-clause-only
returns-clause-only c =
    only_alone c.args.image.now (image_view c.image.inside) c.args.moves.now c.args.spots.now c.in_ok-header.header.items c.image.view_is
    (formed_from Standalone c.args.image.now (image_view c.image.inside) c.args.moves.now c.deref-2.result.now c.args.spots.now c.in_ok-header.header.items
    c.image.view_is (c.deref-2.ensures.value ∙ c.moves.view_is) c.in_ok-header.ensures.bytes)
    c.image.invariant c.requires c.fit_fields.ensures.fields
    (record {
      moved = subst (All (λ (m : Moved). m.address < 2 ^ 64)) (c.deref.ensures.value ∙ c.moves.view_is) c.fit_moves.ensures;
      address = c.fit_sizes.ensures.address;
      vmsize = c.fit_sizes.ensures.vmsize;
      filesize = c.fit_sizes.ensures.filesize;
    })
    c.fit_fields.ensures.flags
