-- A part made ready, and then its bytes.
use Rattle.std.proofs.Common.{◌*◌, ◌∙◌, ℕ, length, ap, refl, sym}
use Rattle.std.specs.List.{flat_map}
use Rattle.linkedit_merge.specs.Linkedit.{symbol_bytes}
use Rattle.linkedit_merge.specs.Parts.{span_behind}
use Rattle.linkedit_merge.proofs.ShareLaws.{opened_part}
use Rattle.linkedit_merge.specs.Indices.{names_of}
use Rattle.extractor.proofs.PreparedLaws.{long_each}
use Rattle.extractor.proofs.parts.put_symbols.Goals as goal

pub returns-clause-bytes : goal.returns-clause-bytes
returns-clause-bytes c =
    let f = symbol_bytes (names_of c.args.pool.now) in
    opened_part c.args.out.now.items (flat_map f c.args.symbols.now) c.open_part.new.out.items c.append_symbols.new.out.items (16 * length c.args.symbols.now)
    (sym (long_each f 16 c.args.symbols.now (λ s. refl))) c.in_ok-span.ensures.bytes c.in_ok-append_symbols.ensures

pub returns-clause-span : goal.returns-clause-span
returns-clause-span c =
    let f = symbol_bytes (names_of c.args.pool.now) in
    c.in_ok-span.ensures.span ∙ ap (λ (n : ℕ). span_behind 0 (length c.args.out.now.items) n) (sym (long_each f 16 c.args.symbols.now (λ s. refl)))
