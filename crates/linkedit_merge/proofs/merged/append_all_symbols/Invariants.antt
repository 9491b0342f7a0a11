-- The entries of the images so far.
use Rattle.std.proofs.Common.{◌≡◌, ◌++◌, take}
use Rattle.std.specs.List.{flat_map}
use Rattle.linkedit_merge.specs.Indices.{names_of}
use Rattle.linkedit_merge.specs.Linkedit.{symbol_bytes}
use Rattle.linkedit_merge.specs.Shares.{shares_of}
use Rattle.linkedit_merge.proofs.merged.append_all_symbols.Given as goal

abbrev pub invariant-loop-number : goal.invariant-loop-number
invariant-loop-number l =
    l.out.items ≡ l.initial.out.items ++ flat_map (λ share. flat_map (symbol_bytes (names_of l.pool)) share.tables.symbols) (take l.number (shares_of l.images l.tables l.layout.moves))
