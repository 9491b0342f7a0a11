use Rattle.std.proofs.Common.{List, Option, Some, None, subst, sym, ap, ◌∙◌}
use Rattle.std.specs.List.Sorted.{IsPermutation}
use Rattle.dsc_base.specs.declared.fault.Site.{Site}
use Rattle.dsc_base.specs.declared.rule.Rule.{Rule}
use Rattle.macho_image.specs.declared.place.Location.{Location}
use Rattle.macho_image.specs.Order.{addresses_of, first_close}
use Rattle.macho_image.proofs.StreamLaws.{refuses_on}
use Rattle.bind_ops.specs.Binds.{places_of, bind_break}
use Rattle.bind_ops.specs.Records.{BoundWord}
use Rattle.bind_ops.proofs.BindLaws.{last_break, read_found, read_sound, read_fault}
use Rattle.bind_ops.proofs.read.read_binds.Goals as goal

pub returns-in_err-binds-clause-cause : goal.returns-in_err-binds-clause-cause
returns-in_err-binds-clause-cause c =
    refuses_on (bind_break c.args.kind c.args.stream.now c.args.image.now) c.from_residual.result c.in_err-binds.field-0.0 c.from_residual.ensures.1
    (read_fault c.args.kind c.args.image.now c.args.stream.now c.in_err-binds.field-0.0 c.in_err-binds.ensures.cause)

pub returns-in-Some-clause-cause : goal.returns-in-Some-clause-cause
returns-in-Some-clause-cause c =
    let out = c.in_ok-binds.binds.items in
    let sorted = c.in_ok-places.places.items in
    let moved = subst (λ (bs : List BoundWord). IsPermutation (places_of bs) sorted) c.deref.ensures.value c.in_ok-places.ensures.moved in
    last_break c.args.kind c.args.image.now c.args.stream.now out sorted (Some c.in-Some.at) (record { added = c.in_ok-binds.ensures.found; sound = c.in_ok-binds.ensures.cause }) moved c.in_ok-places.ensures.rises
    (c.in-Some.ensures ∙ ap (λ (ls : List Location). first_close (addresses_of ls)) c.deref-2.ensures.value)
    ∙ ap (λ (r : Rule). let o : Option Site = Some (record { rule = r; at = c.in-Some.at }) in o) (sym c.rule_in.ensures)

pub returns-clause-found : goal.returns-clause-found
returns-clause-found c =
    read_found c.args.kind c.args.image.now c.args.stream.now c.in_ok-binds.binds.items (record { added = c.in_ok-binds.ensures.found; sound = c.in_ok-binds.ensures.cause })

pub returns-clause-sound : goal.returns-clause-sound
returns-clause-sound c =
    let out = c.in_ok-binds.binds.items in
    let sorted = c.in_ok-places.places.items in
    let moved = subst (λ (bs : List BoundWord). IsPermutation (places_of bs) sorted) c.deref.ensures.value c.in_ok-places.ensures.moved in
    let unbroken = last_break c.args.kind c.args.image.now c.args.stream.now out sorted None (record { added = c.in_ok-binds.ensures.found; sound = c.in_ok-binds.ensures.cause }) moved c.in_ok-places.ensures.rises
    (c.in-None.ensures ∙ ap (λ (ls : List Location). first_close (addresses_of ls)) c.deref-2.ensures.value) in
    read_sound c.args.kind c.args.image.now c.args.stream.now out (record { added = c.in_ok-binds.ensures.found; sound = c.in_ok-binds.ensures.cause }) unbroken

pub returns-clause-cause : goal.returns-clause-cause
returns-clause-cause c =
    let out = c.in_ok-binds.binds.items in
    let sorted = c.in_ok-places.places.items in
    let moved = subst (λ (bs : List BoundWord). IsPermutation (places_of bs) sorted) c.deref.ensures.value c.in_ok-places.ensures.moved in
    last_break c.args.kind c.args.image.now c.args.stream.now out sorted None (record { added = c.in_ok-binds.ensures.found; sound = c.in_ok-binds.ensures.cause }) moved c.in_ok-places.ensures.rises
    (c.in-None.ensures ∙ ap (λ (ls : List Location). first_close (addresses_of ls)) c.deref-2.ensures.value)
