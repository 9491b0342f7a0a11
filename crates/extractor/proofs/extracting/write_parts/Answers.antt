-- The pages of the segments, and the linkedit behind them.
use Rattle.std.proofs.Common.{◌∙◌, ℕ, ap, sym}
use Rattle.linkedit_merge.specs.Parts.{spans_behind, lens_of}
use Rattle.macho_image.specs.Records.{Img}
use Rattle.nlist_table.specs.Symbols.{Tabs}
use Rattle.extractor.specs.ExtractOf.{linkedit_parts}
use Rattle.extractor.specs.Files.{part_spans}
use Rattle.linkedit_merge.specs.Indices.{names_of}
use Rattle.extractor.specs.Prepared.{own_parts}
use Rattle.extractor.proofs.FileLaws.{ready_parts, ready_few, behind_bodies, spans_there, bodies_put}
use Rattle.extractor.proofs.SpotLaws.{spots_are}
use Rattle.extractor.proofs.extracting.write_parts.Goals as goal

pub put_linkedit-requires-clause-few : goal.put_linkedit-requires-clause-few
put_linkedit-requires-clause-few c = ready_few c.args.image.now c.args.words.now c.in-Ok.parts c.in-Ok.ensures.parts c.requires.ready.linkedit

pub returns-clause-bytes : goal.returns-clause-bytes
returns-clause-bytes c =
    let i = c.args.image.now in
    let p = c.in-Ok.parts in
    let out = bodies_put i c.in_ok-out.out.items c.append_bodies.new.out.items c.deref.result.now c.in_ok-out.ensures.items (c.deref.ensures.value ∙ ap (λ (j : Img). j.segments) c.image.view_is) c.in_ok-append_bodies.ensures in
    behind_bodies i c.args.words.now (own_parts i p.rebase.items p.tables (names_of p.pool)) c.append_bodies.new.out.items c.put_linkedit.new.out.items (ready_parts i c.args.words.now p c.in-Ok.ensures.parts) out c.in_ok-spans.ensures.bytes

pub returns-clause-spots : goal.returns-clause-spots
returns-clause-spots c =
    let i = c.args.image.now in
    let p = c.in-Ok.parts in
    let out = bodies_put i c.in_ok-out.out.items c.append_bodies.new.out.items c.deref.result.now c.in_ok-out.ensures.items (c.deref.ensures.value ∙ ap (λ (j : Img). j.segments) c.image.view_is) c.in_ok-append_bodies.ensures in
    let there = spans_there i c.args.words.now (own_parts i p.rebase.items p.tables (names_of p.pool)) c.append_bodies.new.out.items (part_spans c.in_ok-spans.spans) (ready_parts i c.args.words.now p c.in-Ok.ensures.parts) out c.in_ok-spans.ensures.spans in
    c.spots_at-spots.ensures
    ∙ spots_are c.args.number c.args.start p.size c.in_ok-spans.spans p.tables.groups i c.args.words.now (there ∙ ap (λ (n : ℕ). spans_behind n 0 (lens_of (linkedit_parts i c.args.words.now))) (sym c.requires.start)) c.requires.start c.in-Ok.ensures.parts.size
    (ap (λ (t : Tabs). t.groups) c.in-Ok.ensures.parts.tables)
