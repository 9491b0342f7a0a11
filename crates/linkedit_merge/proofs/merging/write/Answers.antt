-- The parts that all images share stand behind those of the images.
use Rattle.std.proofs.Common.{◌≡◌, ◌∙◌, ℕ, List, Vec, Global, map, length, refl, sym, ap, arith}
use Rattle.std.specs.List.{flat_map}
use Rattle.dsc_base.specs.Numbers.{little_bytes}
use Rattle.export_trie.specs.declared.export.Export.{Export}
use Rattle.nlist_table.specs.Symbols.{Tabs}
use Rattle.linkedit_merge.specs.Indices.{names_of}
use Rattle.linkedit_merge.specs.Linkedit.{all_symbols, all_indirect, symbol_bytes}
use Rattle.linkedit_merge.specs.Parts.{with_part, joined_behind, lens_of, span_behind, spans_behind}
use Rattle.linkedit_merge.specs.Pool.{pool_bytes}
use Rattle.linkedit_merge.specs.Shares.{shares_of}
use Rattle.linkedit_merge.specs.Sizes.{all_streams, spans_of}
use Rattle.linkedit_merge.proofs.ShareLaws.{long_symbols, long_indirect, indirect_all}
use Rattle.linkedit_merge.proofs.StreamLaws.{ArePut, shared_bytes, shared_spans}
use Rattle.linkedit_merge.proofs.merging.write.Goals as goal

pub returns-clause-low : goal.returns-clause-low
returns-clause-low c = record { start = omega arith; size = omega arith; symbols = c.in_ok-symbols.ensures.low; indirect = c.in_ok-indirect.ensures.low }

pub returns-clause-written : goal.returns-clause-written
returns-clause-written c =
    let start = c.args.start in
    let images = c.args.images.now in
    let tables = c.args.tables.now in
    let moves = c.args.layout.now.moves in
    let shares = shares_of images tables moves in
    let own = all_streams (map (λ (e : Vec Export Global). e.items) c.args.exports.now) images in
    let names = names_of c.args.pool.now in
    let a = flat_map (symbol_bytes names) (all_symbols shares) in
    let b = flat_map (little_bytes 4) (all_indirect shares) in
    let z = pool_bytes names in
    let whole : flat_map (little_bytes 4) (flat_map (λ (t : Tabs). t.indirect) tables) ≡ b = ap (λ (l : List ℕ). flat_map (little_bytes 4) l) (sym (indirect_all images tables moves c.requires.tables.many)) in
    let first = c.put_all_streams.new.out.items in
    let second = c.put_symbols.new.out.items in
    let third = c.put_indices.new.out.items in
    let long_a = c.requires.symbols.0 ∙ sym (long_symbols names images tables moves c.requires.tables.many) in
    let long_b = c.requires.indirect.0 ∙ (sym (long_indirect tables) ∙ ap (λ (l : List ℕ). length l) whole) in
    let h : ArePut start own a b z first second third c.put_pool.new.out.items (flat_map spans_of c.in_ok-streams.streams.items) c.in_ok-symbols.symbols c.in_ok-indirect.indirect c.in_ok-strings.strings = record {
      own_bytes = c.in_ok-streams.ensures.bytes ∙ ap (λ (l : List ℕ). joined_behind l own) c.in_ok-bytes.ensures.items;
      own_spans = c.in_ok-streams.ensures.spots ∙ ap (λ (l : List ℕ). spans_behind start (length l) (lens_of own)) c.in_ok-bytes.ensures.items;
      first = record { bytes = c.in_ok-symbols.ensures.bytes; span = c.in_ok-symbols.ensures.span ∙ ap (λ (k : ℕ). span_behind start (length first) k) long_a };
      second = record {
        bytes = c.in_ok-indirect.ensures.bytes ∙ ap (λ (l : List ℕ). with_part second l) whole;
        span = c.in_ok-indirect.ensures.span ∙ ap (λ (k : ℕ). span_behind start (length second) k) long_b;
      };
      third = record { bytes = c.in_ok-strings.ensures.bytes; span = c.in_ok-strings.ensures.span };
    } in
    record {
      bytes = shared_bytes start own a b z first second third c.put_pool.new.out.items (flat_map spans_of c.in_ok-streams.streams.items) c.in_ok-symbols.symbols c.in_ok-indirect.indirect c.in_ok-strings.strings h;
      spans = shared_spans start own a b z first second third c.put_pool.new.out.items (flat_map spans_of c.in_ok-streams.streams.items) c.in_ok-symbols.symbols c.in_ok-indirect.indirect c.in_ok-strings.strings h;
      many = c.in_ok-streams.ensures.many;
      start_is = refl;
      size_is = refl;
    }
