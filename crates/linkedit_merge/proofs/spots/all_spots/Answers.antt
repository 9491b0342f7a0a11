-- The spots of one image more.
use Rattle.std.proofs.Common.{◌≡◌, ◌<◌, ◌∙◌, ◌*◌, ℕ, length, take, ap, ap₂, arith, get_or}
use Rattle.std.proofs.lemmas.List.{get_or_read, get_or_default}
use Rattle.nlist_table.specs.Symbols.{Tabs}
use Rattle.cache_layout.proofs.NumberedLaws.{numbered-grown, sum-step}
use Rattle.linkedit_merge.specs.Shares.{no_tables}
use Rattle.linkedit_merge.specs.declared.streams.StreamSpots.{StreamSpots}
use Rattle.linkedit_merge.specs.Sizes.{symbols_size, indirect_size}
use Rattle.linkedit_merge.specs.Spots.{image_spots, spots_from}
use Rattle.linkedit_merge.proofs.spots.all_spots.Goals as goal

pub loop-number-preserved : goal.loop-number-preserved
loop-number-preserved c =
    let n = c.loop-number.number in
    let tables = c.args.tables.now in
    let t = c.index-tables-number.result in
    let within : n < length tables = omega (arith, c.requires.one_each, c.loop-number-test.true) in
    let symbols : c.len.result ≡ length t.symbols = omega (arith, c.len.ensures, c.table.inside.symbols.ok.0, ap (λ (x : Tabs). length x.symbols) c.table.view_is) in
    let indirect : c.len-in-loop-number.result ≡ length t.indirect = omega (arith, c.len-in-loop-number.ensures, c.table.inside.indirect.ok.0, ap (λ (x : Tabs). length x.indirect) c.table.view_is) in
    let nowhere : StreamSpots = record { bind = record { at = 0; len = 0 }; lazy = record { at = 0; len = 0 }; exports = record { at = 0; len = 0 }; function_starts = record { at = 0; len = 0 }; data_in_code = record { at = 0; len = 0 } } in
    let own = get_or c.args.streams.now n nowhere in
    record {
      spots =
          numbered-grown (spots_from c.args.frame tables) c.args.streams.now n own c.loop-number.spots.items c.push.new.self.items c.image_spots.result
          c.loop-number-test.true (get_or_default c.args.streams.now n nowhere own c.loop-number-test.true) c.loop-number.invariant.spots c.in_ok-push.ensures.items
          (c.image_spots.ensures
          ∙ (ap₂ (λ (a b : ℕ). image_spots c.args.frame own a b t) c.loop-number.invariant.symbols c.loop-number.invariant.indirect
          ∙ ap (λ (x : Tabs). image_spots c.args.frame own (symbols_size (take n tables)) (indirect_size (take n tables)) x) (get_or_read tables n t within c.index-tables-number.is no_tables)));
      symbols = omega (arith, symbols, c.loop-number.invariant.symbols, sum-step (λ (x : Tabs). 16 * length x.symbols) tables n t within c.index-tables-number.is);
      indirect = omega (arith, indirect, c.loop-number.invariant.indirect, sum-step (λ (x : Tabs). 4 * length x.indirect) tables n t within c.index-tables-number.is);
    }
