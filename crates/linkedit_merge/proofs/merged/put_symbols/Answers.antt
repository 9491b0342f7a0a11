-- A part made ready, and then its bytes.
use Rattle.std.proofs.Common.{◌∙◌, sym}
use Rattle.std.specs.List.{flat_map}
use Rattle.linkedit_merge.specs.Indices.{names_of}
use Rattle.linkedit_merge.specs.Linkedit.{all_symbols, symbol_bytes}
use Rattle.linkedit_merge.specs.Shares.{shares_of}
use Rattle.linkedit_merge.proofs.ShareLaws.{opened_part, long_symbols}
use Rattle.linkedit_merge.proofs.merged.put_symbols.Goals as goal

pub returns-clause-bytes : goal.returns-clause-bytes
returns-clause-bytes c =
    let pool = names_of c.args.pool.now in
    opened_part c.args.out.now.items (flat_map (symbol_bytes pool) (all_symbols (shares_of c.args.images.now c.args.tables.now c.args.layout.now.moves))) c.open_part.new.out.items
    c.append_all_symbols.new.out.items c.args.size
    (c.requires.size ∙ sym (long_symbols pool c.args.images.now c.args.tables.now c.args.layout.now.moves c.requires.tables.many)) c.in_ok-span.ensures.bytes c.in_ok-append_all_symbols.ensures
