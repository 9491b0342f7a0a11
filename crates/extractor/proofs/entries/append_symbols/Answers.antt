-- One entry more.
use Rattle.linkedit_merge.specs.Linkedit.{symbol_bytes}
use Rattle.linkedit_merge.proofs.ListLaws.{appended}
use Rattle.linkedit_merge.specs.Indices.{names_of}
use Rattle.extractor.proofs.entries.append_symbols.Goals as goal

pub loop-symbol-preserved : goal.loop-symbol-preserved
loop-symbol-preserved c =
    appended (symbol_bytes (names_of c.args.pool.now)) c.args.symbols.now c.loop-symbol.symbol-index c.symbol-item.result c.args.out.now.items c.loop-symbol.out.items c.append_symbol.new.out.items
    c.loop-symbol-test.true c.symbol-item.is c.loop-symbol.invariant c.in_ok-append_symbol.ensures
