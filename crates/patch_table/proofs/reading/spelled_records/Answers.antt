use Rattle.std.proofs.Common.{◌≡◌, sym, ap, arith, ℕ, ◌+◌, ◌-◌, ◌*◌, take, drop}
use Rattle.patch_table.proofs.RecordLaws.{spellt_start, spellt_more, spellt_all, no_records}
use Rattle.patch_table.proofs.BreakLaws.{refused_misshapen, found_none}
use Rattle.patch_table.proofs.reading.spelled_records.Goals as goal

pub loop-k-init : goal.loop-k-init
loop-k-init c = spellt_start c.args.bytes.now c.in_ok-records.records.items c.in_ok-records.ensures.items

pub returns-in_default-clause-refuses : goal.returns-in_default-clause-refuses
returns-in_default-clause-refuses c =
    refused_misshapen _ c.misshapen.result c.misshapen.ensures
    (no_records c.args.bytes.now _ c.loop-k.k (omega (arith, c.loop-k-test.true))
    (ap (λ (n : ℕ). take n (drop (24 * c.loop-k.k) c.args.bytes.now)) (let room : 24 * c.loop-k.k + 24 - 24 * c.loop-k.k ≡ 24 = omega arith in room))
    (sym c.in_default.ensures))

pub loop-k-preserved : goal.loop-k-preserved
loop-k-preserved c =
    spellt_more c.args.bytes.now _ c.loop-k.records.items c.push.new.self.items c.in-Some.record c.loop-k.k
    (λ j. omega (arith, c.type_inv.bytes j)) (omega (arith, c.loop-k-test.true))
    (ap (λ (n : ℕ). take n (drop (24 * c.loop-k.k) c.args.bytes.now)) (let room : 24 * c.loop-k.k + 24 - 24 * c.loop-k.k ≡ 24 = omega arith in room))
    (sym c.in-Some.ensures) c.in_ok-push.ensures.items c.loop-k.invariant

pub returns-clause-records : goal.returns-clause-records
returns-clause-records c =
    spellt_all c.args.bytes.now c.loop-k.records.items c.loop-k.k (omega (arith, c.loop-k-test.false, c.requires)) c.loop-k.invariant

pub returns-clause-refuses : goal.returns-clause-refuses
returns-clause-refuses c = λ found is.
    found_none _ found is (
      c.loop-k.records.items,
      spellt_all c.args.bytes.now c.loop-k.records.items c.loop-k.k (omega (arith, c.loop-k-test.false, c.requires)) c.loop-k.invariant,
    )
