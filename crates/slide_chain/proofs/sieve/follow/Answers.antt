-- A place that isn't counted leads nowhere, one without a delta ends its chain, any other leads to a later place.
use Rattle.std.proofs.Common.{◌≡◌, ◌+◌, ◌-◌, ◌*◌, ◌/◌, ◌∙◌, ℕ, sym, ap, get_or, set, arith}
use Rattle.std.specs.Prelude.{nat_eq, nat_le}
use Rattle.std.proofs.lemmas.Bool.{or_right, le-leb}
use Rattle.dsc_base.specs.Numbers.{number_at}
use Rattle.slide_chain.specs.Chains.{delta_of}
use Rattle.slide_chain.proofs.SieveLaws.{units_at, delta-units, followed-none, followed-ends, followed-goes, two-le}
use Rattle.slide_chain.proofs.sieve.follow.Goals as goal

pub returns-then-count-eq0-clause-counts : goal.returns-then-count-eq0-clause-counts
returns-then-count-eq0-clause-counts c = λ stays. sym (followed-none c.args.mask c.args.area.now c.args.page c.args.k c.args.marks.now c.if-count-eq0.true)

pub returns-then-units-eq0-clause-stays : goal.returns-then-units-eq0-clause-stays
returns-then-units-eq0-clause-stays c =
    let read : c.delta-units.result ≡ delta_of c.args.mask (number_at 8 c.args.area.now (c.args.page + c.args.k * 4)) = c.delta-units.ensures ∙ ap (delta_of c.args.mask) c.get_u64.ensures in
    let whole : delta_of c.args.mask (number_at 8 c.args.area.now (c.args.page + c.args.k * 4)) ≡ units_at c.args.mask c.args.area.now c.args.page c.args.k * 4 = delta-units c.args.mask c.requires.run c.args.area.now c.args.page c.args.k in
    sym (or_right (nat_eq (get_or c.args.marks.now c.args.k 0) 0) (nat_le (c.args.page + c.args.k * 4 + delta_of c.args.mask (number_at 8 c.args.area.now (c.args.page + c.args.k * 4))) (c.args.page + 0xFF8))
    (le-leb (c.args.page + c.args.k * 4 + delta_of c.args.mask (number_at 8 c.args.area.now (c.args.page + c.args.k * 4))) (c.args.page + 0xFF8) (omega (arith, read, whole, c.if-units-eq0.true))))

pub returns-then-units-eq0-clause-counts : goal.returns-then-units-eq0-clause-counts
returns-then-units-eq0-clause-counts c = λ stays.
    let read : c.delta-units.result ≡ delta_of c.args.mask (number_at 8 c.args.area.now (c.args.page + c.args.k * 4)) = c.delta-units.ensures ∙ ap (delta_of c.args.mask) c.get_u64.ensures in
    sym (followed-ends c.args.mask c.args.area.now c.args.page c.args.k c.args.marks.now (ap (λ (d : ℕ). d / 4) (sym read) ∙ c.if-units-eq0.true))

pub overflow_add-marks-2 : goal.overflow_add-marks-2
overflow_add-marks-2 c =
    omega (arith, two-le c.args.marks.now c.args.k (1023 - c.args.k) (c.args.k + c.delta-units.result / 4) (omega arith) (omega arith), c.requires.room)

pub returns-clause-stays : goal.returns-clause-stays
returns-clause-stays c =
    let read : c.delta-units.result ≡ delta_of c.args.mask (number_at 8 c.args.area.now (c.args.page + c.args.k * 4)) = c.delta-units.ensures ∙ ap (delta_of c.args.mask) c.get_u64.ensures in
    let whole : delta_of c.args.mask (number_at 8 c.args.area.now (c.args.page + c.args.k * 4)) ≡ units_at c.args.mask c.args.area.now c.args.page c.args.k * 4 = delta-units c.args.mask c.requires.run c.args.area.now c.args.page c.args.k in
    sym (or_right (nat_eq (get_or c.args.marks.now c.args.k 0) 0) (nat_le (c.args.page + c.args.k * 4 + delta_of c.args.mask (number_at 8 c.args.area.now (c.args.page + c.args.k * 4))) (c.args.page + 0xFF8))
    (le-leb (c.args.page + c.args.k * 4 + delta_of c.args.mask (number_at 8 c.args.area.now (c.args.page + c.args.k * 4))) (c.args.page + 0xFF8) (omega (arith, read, whole))))

pub returns-clause-counts : goal.returns-clause-counts
returns-clause-counts c = λ stays.
    let read : c.delta-units.result / 4 ≡ units_at c.args.mask c.args.area.now c.args.page c.args.k = ap (λ (d : ℕ). d / 4) (c.delta-units.ensures ∙ ap (delta_of c.args.mask) c.get_u64.ensures) in
    ap (λ (u : ℕ). set c.args.marks.now (c.args.k + u) (get_or c.args.marks.now (c.args.k + u) 0 + get_or c.args.marks.now c.args.k 0)) read
    ∙ sym (followed-goes c.args.mask c.args.area.now c.args.page c.args.k c.args.marks.now c.if-count-eq0.false (λ none. c.if-units-eq0.false (read ∙ none)))
