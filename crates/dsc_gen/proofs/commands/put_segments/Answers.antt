-- One command behind the other.
use Rattle.std.proofs.Common.{◌≡◌, ◌∙◌, ◌++◌, ℕ, List, ap}
use Rattle.dsc_base.specs.Fields.{spelled}
use Rattle.dsc_gen.specs.declared.commands.Segment.{Segment}
use Rattle.dsc_gen.specs.declared.commands.Section.{Section}
use Rattle.dsc_gen.specs.Commands.{segment_fields, section_fields, text_segment, text_section, data_segment, data_section, linkedit_segment}
use Rattle.dsc_gen.proofs.ListingLaws.{and_then}
use Rattle.dsc_gen.proofs.commands.put_segments.Goals as goal

segment_is : (old new : List ℕ) (s t : Segment) → new ≡ old ++ spelled (segment_fields s) → s ≡ t → new ≡ old ++ spelled (segment_fields t)
segment_is old new s t put is = put ∙ ap (λ (x : Segment). old ++ spelled (segment_fields x)) is

section_is : (old new : List ℕ) (s t : Section) → new ≡ old ++ spelled (section_fields s) → s ≡ t → new ≡ old ++ spelled (section_fields t)
section_is old new s t put is = put ∙ ap (λ (x : Section). old ++ spelled (section_fields x)) is

five : (old one two three four new a b c d e : List ℕ) → one ≡ old ++ a → two ≡ one ++ b → three ≡ two ++ c → four ≡ three ++ d → new ≡ four ++ e → new ≡ old ++ (a ++ (b ++ (c ++ (d ++ e))))
five old one two three four new a b c d e p q r s t =
    and_then old one new a (b ++ (c ++ (d ++ e))) p (and_then one two new b (c ++ (d ++ e)) q (and_then two three new c (d ++ e) r (and_then three four new d e s t)))

pub returns : goal.returns
returns c =
    let size : ℕ = c.args.size in
    five c.args.out.now.items c.put_segment.new.out.items c.put_section.new.out.items c.put_segment-2.new.out.items c.put_section-2.new.out.items c.put_segment-3.new.out.items
    (spelled (segment_fields (text_segment size))) (spelled (section_fields (text_section size))) (spelled (segment_fields (data_segment size))) (spelled (section_fields (data_section size)))
    (spelled (segment_fields (linkedit_segment size c.args.linkedit)))
    (segment_is _ _ _ (text_segment size) c.in_ok-put_segment.ensures c.text_segment.ensures)
    (section_is _ _ _ (text_section size) c.in_ok-put_section.ensures c.text_section.ensures)
    (segment_is _ _ _ (data_segment size) c.in_ok-put_segment-2.ensures c.data_segment.ensures)
    (section_is _ _ _ (data_section size) c.in_ok-put_section-2.ensures c.data_section.ensures)
    (segment_is _ _ _ (linkedit_segment size c.args.linkedit) c.in_ok-put_segment-3.ensures c.linkedit_segment.ensures)
