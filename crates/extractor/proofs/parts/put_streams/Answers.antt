-- Each stream is put behind the one before it.
use Rattle.std.proofs.Common.{◌≡◌, List, [], ◌∷◌, length, subst}
use Rattle.dsc_base.specs.declared.fault.Span.{Span}
use Rattle.macho_image.specs.Records.{StreamBytes}
use Rattle.linkedit_merge.specs.Parts.{joined_behind, spans_behind, lens_of}
use Rattle.extractor.specs.Files.{stream_parts}
use Rattle.extractor.proofs.JoinedLaws.{put_bytes, put_spans}
use Rattle.extractor.proofs.parts.put_streams.Goals as goal

pub returns-clause-bytes : goal.returns-clause-bytes
returns-clause-bytes c =
    let i = c.streams.inside in
    let out = c.args.out.now.items in
    subst (λ (s : StreamBytes). c.put_part-6.new.out.items ≡ joined_behind c.args.out.now.items (stream_parts c.args.rebase.now s)) c.streams.view_is
    (put_bytes out (c.args.rebase.now ∷ i.bind.now ∷ i.lazy.now ∷ i.exports.now ∷ i.function_starts.now ∷ i.data_in_code.now ∷ [])
    (c.put_part.new.out.items ∷ c.put_part-2.new.out.items ∷ c.put_part-3.new.out.items ∷ c.put_part-4.new.out.items ∷ c.put_part-5.new.out.items ∷ c.put_part-6.new.out.items ∷ [])
    (c.in_ok-put_part.field-0 ∷ c.in_ok-put_part-2.field-0 ∷ c.in_ok-put_part-3.field-0 ∷ c.in_ok-put_part-4.field-0 ∷ c.in_ok-put_part-5.field-0 ∷ c.in_ok-put_part-6.field-0 ∷ []) (
      record { bytes = c.in_ok-put_part.ensures.bytes; span = c.in_ok-put_part.ensures.span },
      (
        record { bytes = c.in_ok-put_part-2.ensures.bytes; span = c.in_ok-put_part-2.ensures.span },
        (
          record { bytes = c.in_ok-put_part-3.ensures.bytes; span = c.in_ok-put_part-3.ensures.span },
          (
            record { bytes = c.in_ok-put_part-4.ensures.bytes; span = c.in_ok-put_part-4.ensures.span },
            (
              record { bytes = c.in_ok-put_part-5.ensures.bytes; span = c.in_ok-put_part-5.ensures.span },
              (record { bytes = c.in_ok-put_part-6.ensures.bytes; span = c.in_ok-put_part-6.ensures.span }, tt),
            ),
          ),
        ),
      ),
    ))

pub returns-clause-spans : goal.returns-clause-spans
returns-clause-spans c =
    let i = c.streams.inside in
    let out = c.args.out.now.items in
    let spans : List Span = c.in_ok-put_part.field-0 ∷ c.in_ok-put_part-2.field-0 ∷ c.in_ok-put_part-3.field-0 ∷ c.in_ok-put_part-4.field-0 ∷ c.in_ok-put_part-5.field-0 ∷ c.in_ok-put_part-6.field-0 ∷ [] in
    subst (λ (s : StreamBytes). spans ≡ spans_behind 0 (length c.args.out.now.items) (lens_of (stream_parts c.args.rebase.now s))) c.streams.view_is
    (put_spans out (c.args.rebase.now ∷ i.bind.now ∷ i.lazy.now ∷ i.exports.now ∷ i.function_starts.now ∷ i.data_in_code.now ∷ [])
    (c.put_part.new.out.items ∷ c.put_part-2.new.out.items ∷ c.put_part-3.new.out.items ∷ c.put_part-4.new.out.items ∷ c.put_part-5.new.out.items ∷ c.put_part-6.new.out.items ∷ [])
    spans (
      record { bytes = c.in_ok-put_part.ensures.bytes; span = c.in_ok-put_part.ensures.span },
      (
        record { bytes = c.in_ok-put_part-2.ensures.bytes; span = c.in_ok-put_part-2.ensures.span },
        (
          record { bytes = c.in_ok-put_part-3.ensures.bytes; span = c.in_ok-put_part-3.ensures.span },
          (
            record { bytes = c.in_ok-put_part-4.ensures.bytes; span = c.in_ok-put_part-4.ensures.span },
            (
              record { bytes = c.in_ok-put_part-5.ensures.bytes; span = c.in_ok-put_part-5.ensures.span },
              (record { bytes = c.in_ok-put_part-6.ensures.bytes; span = c.in_ok-put_part-6.ensures.span }, tt),
            ),
          ),
        ),
      ),
    ))
