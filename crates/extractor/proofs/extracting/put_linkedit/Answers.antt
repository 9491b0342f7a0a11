-- The streams and then the tables.
use Rattle.std.proofs.Common.{◌∙◌, ℕ, List, length, ap, ap₂}
use Rattle.macho_image.specs.Records.{StreamBytes, Img}
use Rattle.linkedit_merge.specs.Parts.{joined_behind, spans_behind, lens_of}
use Rattle.extractor.specs.Files.{stream_parts, table_parts, stream_spans, table_spans}
use Rattle.linkedit_merge.specs.Indices.{names_of}
use Rattle.extractor.proofs.JoinedLaws.{both_bytes, both_spans}
use Rattle.extractor.proofs.extracting.put_linkedit.Goals as goal

pub returns-clause-bytes : goal.returns-clause-bytes
returns-clause-bytes c =
    let streams = ap (λ (i : Img). i.streams) c.image.view_is in
    both_bytes c.args.out.now.items c.put_streams.new.out.items c.put_tables.new.out.items
    (stream_parts c.args.parts.now.rebase.items c.args.image.now.streams) (table_parts (names_of c.args.parts.now.pool) c.args.parts.now.tables)
    (c.in_ok-streams.ensures.bytes ∙ ap₂ (λ (r : List ℕ) (s : StreamBytes). joined_behind c.args.out.now.items (stream_parts r s)) c.deref.ensures.value streams) c.in_ok-tables.ensures.bytes

pub returns-clause-spans : goal.returns-clause-spans
returns-clause-spans c =
    let streams = ap (λ (i : Img). i.streams) c.image.view_is in
    both_spans c.args.out.now.items c.put_streams.new.out.items
    (stream_parts c.args.parts.now.rebase.items c.args.image.now.streams) (table_parts (names_of c.args.parts.now.pool) c.args.parts.now.tables)
    (stream_spans c.in_ok-streams.streams) (table_spans c.in_ok-tables.tables)
    (c.in_ok-streams.ensures.bytes ∙ ap₂ (λ (r : List ℕ) (s : StreamBytes). joined_behind c.args.out.now.items (stream_parts r s)) c.deref.ensures.value streams)
    (c.in_ok-streams.ensures.spans ∙ ap₂ (λ (r : List ℕ) (s : StreamBytes). spans_behind 0 (length c.args.out.now.items) (lens_of (stream_parts r s))) c.deref.ensures.value streams)
    c.in_ok-tables.ensures.spans
