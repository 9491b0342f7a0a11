-- A part made ready, and then its bytes.
use Rattle.linkedit_merge.specs.Pool.{pool_bytes}
use Rattle.linkedit_merge.proofs.ShareLaws.{opened_part}
use Rattle.linkedit_merge.specs.Indices.{names_of}
use Rattle.extractor.proofs.parts.put_pool.Goals as goal

pub returns-clause-bytes : goal.returns-clause-bytes
returns-clause-bytes c =
    opened_part c.args.out.now.items (pool_bytes (names_of c.args.pool.now)) c.open_part.new.out.items c.append_pool.new.out.items c.args.pool.now.len c.requires.long c.in_ok-span.ensures.bytes c.in_ok-append_pool.ensures
