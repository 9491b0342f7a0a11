-- The symbols of one image more.
use Rattle.std.proofs.Common.{◌<◌, ◌∙◌, ◌++◌, ℕ, List, All, length, refl, sym, ap, subst, arith}
use Rattle.std.specs.List.{flat_map}
use Rattle.std.proofs.lemmas.List.{take_all}
use Rattle.std.proofs.lemmas.Option.{slice_get_read}
use Rattle.nlist_table.specs.Symbols.{Sym, Tabs}
use Rattle.nlist_table.specs.Kept.{IsSymbol, AreTables}
use Rattle.macho_image.specs.declared.place.Moved.{Moved}
use Rattle.linkedit_merge.specs.Indices.{names_of}
use Rattle.linkedit_merge.specs.Linkedit.{symbol_bytes}
use Rattle.linkedit_merge.specs.Shares.{Share, shares_of}
use Rattle.linkedit_merge.proofs.ListLaws.{flat_within}
use Rattle.linkedit_merge.proofs.ShareLaws.{many_shares, symbols_next}
use Rattle.linkedit_merge.proofs.merged.append_all_symbols.Goals as goal

pub loop-number-preserved : goal.loop-number-preserved
loop-number-preserved c =
    symbols_next (names_of c.args.pool.now) c.args.images.now c.args.tables.now c.args.layout.now.moves c.loop-number.number c.index-images-number.result c.index-tables-number.result c.moves.result.now
    c.deref.result.now c.args.out.now.items c.loop-number.out.items c.append_symbols.new.out.items
    (record {
      within = c.loop-number-test.true;
      image_is = c.index-images-number.is;
      tables_within = omega (arith, c.requires.tables.many, c.loop-number-test.true);
      tables_is = c.index-tables-number.is;
      moves_is = c.moves.ensures;
    })
    (c.deref.ensures.value ∙ ap (λ (t : Tabs). t.symbols) c.table.view_is) c.loop-number.invariant c.in_ok-append_symbols.ensures

pub append_symbols-requires-clause-symbols : goal.append_symbols-requires-clause-symbols
append_symbols-requires-clause-symbols c =
    let images = c.args.images.now in
    let tables = c.args.tables.now in
    let n = c.loop-number.number in
    let within : n < length tables = omega (arith, c.requires.tables.many, c.loop-number-test.true) in
    let sound : AreTables (length c.index-images-number.result.sections) c.index-tables-number.result =
    c.requires.tables.each n c.index-images-number.result c.index-tables-number.result
    (slice_get_read images (length images) n c.index-images-number.result refl c.loop-number-test.true c.index-images-number.is)
    (slice_get_read tables (length tables) n c.index-tables-number.result refl within c.index-tables-number.is) in
    subst (λ (ss : List Sym). All (IsSymbol (length c.index-images-number.result.sections)) ss) (sym (c.deref.ensures.value ∙ ap (λ (t : Tabs). t.symbols) c.table.view_is)) sound.symbols

pub append_symbols-requires-clause-moves : goal.append_symbols-requires-clause-moves
append_symbols-requires-clause-moves c =
    let images = c.args.images.now in
    ap (λ (m : List Moved). length m) c.moves.ensures
    ∙ c.requires.moves.each c.loop-number.number c.index-images-number.result
    (slice_get_read images (length images) c.loop-number.number c.index-images-number.result refl c.loop-number-test.true c.index-images-number.is)

pub returns : goal.returns
returns c =
    let shares = shares_of c.args.images.now c.args.tables.now c.args.layout.now.moves in
    let f = symbol_bytes (names_of c.args.pool.now) in
    let past = c.loop-number-test.false in
    c.loop-number.invariant
    ∙ (ap (λ (l : List Share). c.args.out.now.items ++ flat_map (λ (share : Share). flat_map f share.tables.symbols) l)
    (take_all c.loop-number.number shares (omega (arith, many_shares c.args.images.now c.args.tables.now c.args.layout.now.moves)))
    ∙ ap (λ (l : List ℕ). c.args.out.now.items ++ l) (sym (flat_within f (λ (share : Share). share.tables.symbols) shares)))
