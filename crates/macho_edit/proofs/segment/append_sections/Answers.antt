use Rattle.std.proofs.Common.{◌≡◌, ◌+◌, ◌-◌, ◌*◌, ◌/◌, ◌++◌, ◌∙◌, ap, take, drop, length, List, ℕ, arith}
use Rattle.macho_edit.specs.Segments.{moved_section, moved_sections}
use Rattle.macho_edit.proofs.AppendLaws.{moved_sections_more, moved_sections_end}
use Rattle.macho_edit.proofs.segment.append_sections.Goals as goal

pub loop-k-preserved : goal.loop-k-preserved
loop-k-preserved c =
    let sections : List ℕ = c.args.sections.now in
    let k : ℕ = c.loop-k.k in
    let rest : List ℕ = moved_sections c.args.place.now c.args.start (length sections / 80 - (k + 1)) (drop (80 * (k + 1)) sections) in
    let width : 80 * k + 80 - 80 * k ≡ 80 = omega arith in
    ap (λ (l : List ℕ). l ++ rest) (c.in_ok-append_section.ensures)
    ∙ (ap (λ (m : ℕ). (c.loop-k.out.items ++ moved_section c.args.place.now c.args.start (take m (drop (80 * k) sections))) ++ rest) width
    ∙ moved_sections_more c.args.place.now c.args.start (length sections / 80) k sections c.loop-k.out.items
    (c.args.out.now.items ++ moved_sections c.args.place.now c.args.start (length sections / 80) sections) c.loop-k-test.true c.loop-k.invariant)

pub returns : goal.returns
returns c =
    moved_sections_end c.args.place.now c.args.start (length c.args.sections.now / 80) c.loop-k.k c.args.sections.now c.loop-k.out.items
    (c.args.out.now.items ++ moved_sections c.args.place.now c.args.start (length c.args.sections.now / 80) c.args.sections.now)
    c.loop-k-test.false c.loop-k.invariant
