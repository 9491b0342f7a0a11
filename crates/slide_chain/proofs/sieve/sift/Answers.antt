-- The places are followed one by one.
use Rattle.std.proofs.Common.{◌≡◌, ◌≤◌, ◌⊎◌, ◌+◌, ◌*◌, ◌∙◌, false, inl, inr, get_or, sym, arith}
use Rattle.std.specs.Prelude.{nat_eq, nat_le}
use Rattle.std.proofs.lemmas.Bool.{or_cases, or_parts, eqb-true, eqb-false, leb-true, leb-false}
use Rattle.dsc_base.specs.Numbers.{number_at}
use Rattle.slide_chain.specs.Chains.{delta_of}
use Rattle.slide_chain.proofs.SieveLaws.{sifted-none, sifted-more, sifted-all, sifted-leaves}
use Rattle.slide_chain.proofs.sieve.sift.Goals as goal

pub loop-k-init : goal.loop-k-init
loop-k-init c = sifted-none c.args.mask c.args.area.now c.args.page c.args.marks.now

pub follow-requires-clause-room : goal.follow-requires-clause-room
follow-requires-clause-room c = omega (arith, c.loop-k.invariant.room, c.requires.room)

pub loop-k-preserved : goal.loop-k-preserved
loop-k-preserved c =
    let stays : (get_or c.loop-k.marks c.loop-k.k 0 ≡ 0) ⊎ (c.args.page + c.loop-k.k * 4 + delta_of c.args.mask (number_at 8 c.args.area.now (c.args.page + c.loop-k.k * 4)) ≤ c.args.page + 0xFF8) =
    elim (or_cases (nat_eq (get_or c.loop-k.marks c.loop-k.k 0) 0) (nat_le (c.args.page + c.loop-k.k * 4 + delta_of c.args.mask (number_at 8 c.args.area.now (c.args.page + c.loop-k.k * 4))) (c.args.page + 0xFF8))
    (sym c.follow.ensures.stays ∙ c.if-not-follow.false)) [
      | inl none ↦ inl (eqb-true (get_or c.loop-k.marks c.loop-k.k 0) 0 none)
      | inr inside ↦ inr (leb-true (c.args.page + c.loop-k.k * 4 + delta_of c.args.mask (number_at 8 c.args.area.now (c.args.page + c.loop-k.k * 4))) (c.args.page + 0xFF8) inside)
    ] in
    sifted-more c.args.mask c.requires.run c.args.area.now c.args.page c.args.marks.now c.loop-k.marks c.follow.new.marks c.loop-k.k c.loop-k-test.true (c.loop-k.auto.marks ∙ c.requires.places)
    stays (c.follow.ensures.counts c.if-not-follow.false) c.loop-k.invariant

pub returns-then-not-follow-clause-leaves : goal.returns-then-not-follow-clause-leaves
returns-then-not-follow-clause-leaves c = λ places is.
    let both : (nat_eq (get_or c.loop-k.marks c.loop-k.k 0) 0 ≡ false) × (nat_le (c.args.page + c.loop-k.k * 4 + delta_of c.args.mask (number_at 8 c.args.area.now (c.args.page + c.loop-k.k * 4))) (c.args.page + 0xFF8) ≡ false) =
    or_parts (nat_eq (get_or c.loop-k.marks c.loop-k.k 0) 0) (nat_le (c.args.page + c.loop-k.k * 4 + delta_of c.args.mask (number_at 8 c.args.area.now (c.args.page + c.loop-k.k * 4))) (c.args.page + 0xFF8))
    (sym c.follow.ensures.stays ∙ c.if-not-follow.true) in
    let some : get_or c.loop-k.marks c.loop-k.k 0 ≡ 0 → ⊥ = eqb-false (get_or c.loop-k.marks c.loop-k.k 0) 0 both.0 in
    sifted-leaves c.args.mask c.args.area.now c.args.page c.args.marks.now c.loop-k.marks places c.loop-k.k c.loop-k-test.true (omega (arith, some))
    (leb-false (c.args.page + c.loop-k.k * 4 + delta_of c.args.mask (number_at 8 c.args.area.now (c.args.page + c.loop-k.k * 4))) (c.args.page + 0xFF8) both.1) is c.loop-k.invariant

pub returns-clause-counted : goal.returns-clause-counted
returns-clause-counted c = λ places is. sifted-all c.args.mask c.args.area.now c.args.page c.args.marks.now c.loop-k.marks places c.loop-k.k (omega arith) is c.loop-k.invariant
