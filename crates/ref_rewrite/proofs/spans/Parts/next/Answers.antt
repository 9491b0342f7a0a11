use Rattle.std.proofs.Common.{◌≤◌, ◌^◌, List, sym, ap, subst, ◌∙◌}
use Rattle.macho_image.specs.Records.{Seg, Img}
use Rattle.cache_layout.specs.declared.mapping.Mapping.TheVariants.{Text, Writable, Fixed}
use Rattle.cache_layout.specs.Places.{segments_room}
use Rattle.cache_layout.proofs.SpaceLaws.{sound_room}
use Rattle.ref_rewrite.proofs.spans.Parts.next.Goals as goal

pub behind-requires-clause-room : goal.behind-requires-clause-room
behind-requires-clause-room c =
    subst (λ (ss : List Seg). segments_room Text ss ≤ 2 ^ 47) (sym (c.as_slice-segments.ensures.value ∙ ap (λ (i : Img). i.segments) c.image.view_is)) (sound_room c.args.image.now c.facts.ensures Text)

pub behind-requires-clause-end : goal.behind-requires-clause-end
behind-requires-clause-end c = c.requires Text

pub behind-requires-2-clause-room : goal.behind-requires-2-clause-room
behind-requires-2-clause-room c =
    subst (λ (ss : List Seg). segments_room Writable ss ≤ 2 ^ 47) (sym (c.as_slice-segments.ensures.value ∙ ap (λ (i : Img). i.segments) c.image.view_is)) (sound_room c.args.image.now c.facts.ensures Writable)

pub behind-requires-2-clause-end : goal.behind-requires-2-clause-end
behind-requires-2-clause-end c = c.requires Writable

pub behind-requires-3-clause-room : goal.behind-requires-3-clause-room
behind-requires-3-clause-room c =
    subst (λ (ss : List Seg). segments_room Fixed ss ≤ 2 ^ 47) (sym (c.as_slice-segments.ensures.value ∙ ap (λ (i : Img). i.segments) c.image.view_is)) (sound_room c.args.image.now c.facts.ensures Fixed)

pub behind-requires-3-clause-end : goal.behind-requires-3-clause-end
behind-requires-3-clause-end c = c.requires Fixed
