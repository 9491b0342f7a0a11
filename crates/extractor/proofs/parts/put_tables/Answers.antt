-- Each table is put behind the one before it.
use Rattle.std.proofs.Common.{◌∙◌, ℕ, List, [], ◌∷◌, length, ap}
use Rattle.std.specs.List.{flat_map}
use Rattle.dsc_base.specs.Numbers.{little_bytes}
use Rattle.linkedit_merge.specs.Linkedit.{symbol_bytes}
use Rattle.linkedit_merge.specs.Parts.{with_part, span_behind}
use Rattle.nlist_table.specs.Symbols.{Sym, Tabs}
use Rattle.extractor.specs.Files.{table_parts}
use Rattle.linkedit_merge.specs.Indices.{names_of}
use Rattle.extractor.proofs.JoinedLaws.{put_bytes, put_spans}
use Rattle.extractor.proofs.parts.put_tables.Goals as goal

pub returns-clause-bytes : goal.returns-clause-bytes
returns-clause-bytes c =
    let names = names_of c.args.pool.now in
    let symbols = c.deref.ensures.value ∙ ap (λ (t : Tabs). t.symbols) c.tables.view_is in
    let indirect = c.deref-2.ensures.value ∙ ap (λ (t : Tabs). t.indirect) c.tables.view_is in
    put_bytes c.args.out.now.items (table_parts names c.args.tables.now)
    (c.put_symbols.new.out.items ∷ c.put_indices.new.out.items ∷ c.put_pool.new.out.items ∷ [])
    (c.in_ok-put_symbols.field-0 ∷ c.in_ok-put_indices.field-0 ∷ c.in_ok-put_pool.field-0 ∷ []) (
      record {
        bytes = c.in_ok-put_symbols.ensures.bytes ∙ ap (λ (ss : List Sym). with_part c.args.out.now.items (flat_map (symbol_bytes names) ss)) symbols;
        span = c.in_ok-put_symbols.ensures.span ∙ ap (λ (ss : List Sym). span_behind 0 (length c.args.out.now.items) (length (flat_map (symbol_bytes names) ss))) symbols;
      },
      (
        record {
          bytes = c.in_ok-put_indices.ensures.bytes ∙ ap (λ (ns : List ℕ). with_part c.put_symbols.new.out.items (flat_map (little_bytes 4) ns)) indirect;
          span = c.in_ok-put_indices.ensures.span ∙ ap (λ (ns : List ℕ). span_behind 0 (length c.put_symbols.new.out.items) (length (flat_map (little_bytes 4) ns))) indirect;
        },
        (record { bytes = c.in_ok-put_pool.ensures.bytes; span = c.in_ok-put_pool.ensures.span }, tt),
      ),
    )

pub returns-clause-spans : goal.returns-clause-spans
returns-clause-spans c =
    let names = names_of c.args.pool.now in
    let symbols = c.deref.ensures.value ∙ ap (λ (t : Tabs). t.symbols) c.tables.view_is in
    let indirect = c.deref-2.ensures.value ∙ ap (λ (t : Tabs). t.indirect) c.tables.view_is in
    put_spans c.args.out.now.items (table_parts names c.args.tables.now)
    (c.put_symbols.new.out.items ∷ c.put_indices.new.out.items ∷ c.put_pool.new.out.items ∷ [])
    (c.in_ok-put_symbols.field-0 ∷ c.in_ok-put_indices.field-0 ∷ c.in_ok-put_pool.field-0 ∷ []) (
      record {
        bytes = c.in_ok-put_symbols.ensures.bytes ∙ ap (λ (ss : List Sym). with_part c.args.out.now.items (flat_map (symbol_bytes names) ss)) symbols;
        span = c.in_ok-put_symbols.ensures.span ∙ ap (λ (ss : List Sym). span_behind 0 (length c.args.out.now.items) (length (flat_map (symbol_bytes names) ss))) symbols;
      },
      (
        record {
          bytes = c.in_ok-put_indices.ensures.bytes ∙ ap (λ (ns : List ℕ). with_part c.put_symbols.new.out.items (flat_map (little_bytes 4) ns)) indirect;
          span = c.in_ok-put_indices.ensures.span ∙ ap (λ (ns : List ℕ). span_behind 0 (length c.put_symbols.new.out.items) (length (flat_map (little_bytes 4) ns))) indirect;
        },
        (record { bytes = c.in_ok-put_pool.ensures.bytes; span = c.in_ok-put_pool.ensures.span }, tt),
      ),
    )
