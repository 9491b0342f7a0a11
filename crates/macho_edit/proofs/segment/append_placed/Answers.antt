use Rattle.macho_edit.proofs.AppendLaws.{segment_joined}
use Rattle.macho_edit.proofs.segment.append_placed.Goals as goal

pub returns : goal.returns
returns c =
    cc (
      segment_joined c.args.place.now c.args.command.now c.args.out.now.items,
      c.in_ok-append_sections.ensures,
      c.in_ok-append_fields.ensures,
      c.split_at.ensures.front,
      c.split_at.ensures.back,
      c.get_u64.ensures,
    )
