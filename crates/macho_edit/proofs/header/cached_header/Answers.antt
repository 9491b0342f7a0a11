use Rattle.std.proofs.Common.{◌<◌, ◌^◌, ◌∙◌, ap, sym, subst, length, All}
use Rattle.macho_image.specs.declared.form.Form.TheVariants.{Cached}
use Rattle.macho_image.specs.Views.{image_view}
use Rattle.dsc_base.specs.Region.{padded}
use Rattle.macho_edit.specs.declared.spots.LinkSpots.{LinkSpots}
use Rattle.macho_edit.specs.Cached.{formed_header, unrebased}
use Rattle.macho_edit.proofs.FrontLaws.{formed_from, cached_is}
use Rattle.macho_image.specs.declared.place.Moved.{Moved}
use Rattle.macho_edit.proofs.OnlyMoved.{only_cached}
use Rattle.macho_edit.proofs.Reread.{unrebased_can, reread_from}
use Rattle.macho_edit.specs.Conditions.{AreLow}
use Rattle.macho_edit.proofs.header.cached_header.Goals as goal
use Rattle.macho_image.proofs.HeaderRules.{sound_rules}

pub write_header-requires-clause-shape : goal.write_header-requires-clause-shape
write_header-requires-clause-shape c = let kept = sound_rules (image_view c.image.inside) c.image.invariant in kept.shape

pub write_header-requires-clause-low : goal.write_header-requires-clause-low
write_header-requires-clause-low c =
    subst AreLow (sym c.unrebased-named.ensures) (unrebased_can c.args.image.now c.args.moves.now c.args.spots.now c.requires).spans

pub returns-clause-bytes : goal.returns-clause-bytes
returns-clause-bytes c =
    formed_from Cached c.args.image.now (image_view c.image.inside) c.args.moves.now c.deref-2.result.now (unrebased c.args.spots.now) c.in_ok-header.header.items
    c.image.view_is (c.deref-2.ensures.value ∙ c.moves.view_is)
    (c.in_ok-header.ensures.bytes ∙ ap (λ (s : LinkSpots). padded (length c.image.inside.header.now) (formed_header Cached s c.deref-2.result.now c.image.inside.header.now)) c.unrebased-named.ensures)
    ∙ cached_is c.args.image.now c.args.moves.now c.args.spots.now

pub returns-clause-rereads : goal.returns-clause-rereads
returns-clause-rereads c =
    reread_from c.args.image.now (image_view c.image.inside) c.args.moves.now c.deref-2.result.now c.args.spots.now c.in_ok-header.header.items
    c.image.view_is (c.deref-2.ensures.value ∙ c.moves.view_is) (returns-clause-bytes c) c.image.invariant c.requires c.fit_fields.ensures.fields c.fit_fields.ensures.flags

pub returns-clause-only : goal.returns-clause-only
returns-clause-only c =
    only_cached c.args.image.now (image_view c.image.inside) c.args.moves.now c.args.spots.now c.in_ok-header.header.items c.image.view_is
    (returns-clause-bytes c)
    c.image.invariant c.requires c.fit_fields.ensures.fields
    (record {
      moved = subst (All (λ (m : Moved). m.address < 2 ^ 64)) (c.deref.ensures.value ∙ c.moves.view_is) c.fit_moves.ensures;
      address = c.fit_sizes.ensures.address;
      vmsize = c.fit_sizes.ensures.vmsize;
      filesize = c.fit_sizes.ensures.filesize;
    })
    c.fit_fields.ensures.flags
