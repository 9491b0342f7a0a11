use Rattle.std.proofs.Common.{◌≡◌, ◌+◌, ◌-◌, ℕ, length, refl, subst, arith}
use Rattle.extractor.proofs.HomeLaws.{AreFilled, filled_more}
use Rattle.extractor.proofs.homes.fill_segments.Goals as goal

pub loop-n-preserved : goal.loop-n-preserved
loop-n-preserved c =
    let segments = c.args.segments.now in
    let g : ℕ = length c.args.segments.now - 1 - c.loop-n.n in
    let before : length c.args.segments.now - c.loop-n.n ≡ length c.args.segments.now - 1 - c.loop-n.n + 1 = omega (arith, c.loop-n-test.true) in
    let after : length c.args.segments.now - 1 - c.loop-n.n ≡ length c.args.segments.now - (c.loop-n.n + 1) = omega arith in
    subst (λ (k : ℕ). AreFilled c.args.start c.args.words.now c.args.homes.now c.fill_segment.new.homes c.args.image k c.args.segments.now) after
    (filled_more c.args.start c.args.words.now c.args.homes.now c.loop-n.homes c.fill_segment.new.homes c.args.image g c.args.segments.now c.index-segments-number.result
    (record { image = c.args.image; segment = length c.args.segments.now - 1 - c.loop-n.n })
    (subst (λ (k : ℕ). AreFilled c.args.start c.args.words.now c.args.homes.now c.loop-n.homes c.args.image k c.args.segments.now) before c.loop-n.invariant)
    (omega (arith, c.loop-n-test.true)) c.index-segments-number.is refl c.fill_segment.ensures.homes c.fill_segment.ensures.many)
