-- A part made ready, and then its bytes.
use Rattle.std.proofs.Common.{length, refl}
use Rattle.linkedit_merge.proofs.ShareLaws.{opened_part}
use Rattle.extractor.proofs.parts.put_part.Goals as goal

pub returns-clause-bytes : goal.returns-clause-bytes
returns-clause-bytes c =
    opened_part c.args.out.now.items c.args.part.now c.open_part.new.out.items c.extend_from_slice.new.self.items (length c.args.part.now) refl c.in_ok-span.ensures.bytes c.in_ok-extend_from_slice.ensures.items
