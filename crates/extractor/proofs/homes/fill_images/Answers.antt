use Rattle.std.proofs.Common.{◌≡◌, ◌+◌, ◌-◌, ℕ, length, subst, arith}
use Rattle.extractor.proofs.HomeLaws.{AreHomes, homes_start, homes_more, homes_long, homes_all}
use Rattle.extractor.proofs.homes.fill_images.Goals as goal

pub loop-n-init : goal.loop-n-init
loop-n-init c = homes_start c.args.start c.args.words.now c.args.homes.now (length c.args.images.now - 0) c.args.images.now (omega arith) c.requires.none

pub fill_image-requires : goal.fill_image-requires
fill_image-requires c = record { rise = c.requires.rise; many = homes_long c.args.start c.args.words.now c.loop-n.homes (length c.args.images.now - c.loop-n.n) c.args.images.now c.loop-n.invariant }

pub loop-n-preserved : goal.loop-n-preserved
loop-n-preserved c =
    let g : ℕ = length c.args.images.now - 1 - c.loop-n.n in
    let before : length c.args.images.now - c.loop-n.n ≡ length c.args.images.now - 1 - c.loop-n.n + 1 = omega (arith, c.loop-n-test.true) in
    let after : length c.args.images.now - 1 - c.loop-n.n ≡ length c.args.images.now - (c.loop-n.n + 1) = omega arith in
    subst (λ (k : ℕ). AreHomes c.args.start c.args.words.now c.fill_image.new.homes k c.args.images.now) after
    (homes_more c.args.start c.args.words.now c.loop-n.homes c.fill_image.new.homes g c.args.images.now c.index-images-number.result
    (subst (λ (k : ℕ). AreHomes c.args.start c.args.words.now c.loop-n.homes k c.args.images.now) before c.loop-n.invariant)
    (omega (arith, c.loop-n-test.true)) c.index-images-number.is c.fill_image.ensures.homes)

pub returns : goal.returns
returns c =
    let none : length c.args.images.now - c.loop-n.n ≡ 0 = omega (arith, c.loop-n-test.false) in
    homes_all c.args.start c.args.words.now c.loop-n.homes c.args.images.now (subst (λ (k : ℕ). AreHomes c.args.start c.args.words.now c.loop-n.homes k c.args.images.now) none c.loop-n.invariant)
