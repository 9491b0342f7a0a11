use Rattle.std.proofs.Common.{◌≡◌, ◌+◌, ◌∙◌, ap, sym, subst, arith, ℕ, [], take, false, Some}
use Rattle.std.specs.Prelude.{is_none}
use Rattle.macho_image.specs.Records.{SegmentLoad}
use Rattle.macho_image.specs.Rules.{first_crossing}
use Rattle.macho_image.proofs.Sharing.{crossing_at}
use Rattle.macho_image.proofs.shared.first_crossing.Goals as goal

pub returns-clause-found : goal.returns-clause-found
returns-clause-found c =
    let next : c.loop-crossing.crossing ≡ c.loop-crossing.apart + 1 = omega arith in
    let cross = subst (λ (k : ℕ). is_none (first_crossing [] (take k c.args.segments.now)) ≡ false) next c.loop-crossing.invariant.3 in
    ap (λ (s : SegmentLoad). Some s.at) (c.segment.view_is ∙ c.index-segments-apart.is)
    ∙ sym (crossing_at c.args.segments.now c.loop-crossing.apart c.index-segments-apart.result (omega arith) c.loop-crossing.invariant.2 cross)
