-- The loop's steps, and that its bytes are the spelling at its end.
use Rattle.std.proofs.Common.{◌++◌, ◌∙◌, List, ℕ, refl, ap, length-set, arith}
use Rattle.dsc_base.proofs.UlebLaws.{spelt_none, spelt_more, spelt_all, uleb_bytes-appended}
use Rattle.dsc_base.proofs.uleb.put_uleb.Goals as goal

pub loop-rest-init : goal.loop-rest-init
loop-rest-init c = (spelt_none _ c.args.value c.ranges.value.fits, refl)

pub loop-rest-preserved : goal.loop-rest-preserved
loop-rest-preserved c =
    let so = c.loop-rest.invariant in
    (spelt_more c.loop-rest.spelling c.loop-rest.len c.loop-rest.rest c.args.value (omega arith) so.1 so.0, simp length-set so.1)

appended : goal.returns-clause-appended
appended c =
    let so = c.loop-rest.invariant in
    c.in_ok-extend_from_slice.ensures.items
    ∙ ap (λ (l : List ℕ). c.args.out.now.items ++ l) (spelt_all c.loop-rest.spelling c.loop-rest.len c.loop-rest.rest c.args.value (omega arith) so.1 so.0)

pub returns-clause-appended : goal.returns-clause-appended
returns-clause-appended c = appended c

pub returns-clause-reads_back : goal.returns-clause-reads_back
returns-clause-reads_back c =
    uleb_bytes-appended c.args.out.now.items c.extend_from_slice.new.self.items c.args.value c.ranges.value.fits (appended c)
