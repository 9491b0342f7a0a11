use Rattle.std.proofs.Common.{[], ap, sym, ◌∙◌, arith}
use Rattle.cache_layout.proofs.NumberedLaws.{numbered-get}
use Rattle.ref_rewrite.specs.Plans.{Plan}
use Rattle.cache_build.specs.Cache.{header_of, headers_of}
use Rattle.cache_build.proofs.PlanHeaders.{header_set, sized_more, all_sized}
use Rattle.cache_build.proofs.planned.put_headers.Goals as goal

pub loop-number-preserved : goal.loop-number-preserved
loop-number-preserved c =
    let n = c.loop-number.number in
    let i = c.index-images-number.result in
    let l = c.args.layout.now in (
      header_set c.args.plans.now c.loop-number.plans (headers_of l c.args.spots.now c.args.images.now) n c.index-plans-number.result _ c.in_ok-header.header.items
          (omega (arith, c.requires.one_each, c.loop-number-test.true)) c.loop-number.invariant.0 c.index-plans-number.is
          (c.in_ok-header.ensures.header ∙ sym (numbered-get (header_of l c.args.spots.now) c.args.images.now n i [] c.loop-number-test.true c.index-images-number.is))
          (ap (λ (p : Plan). let q : Plan = record p { header = c.in_ok-header.header.items } in q) (c.plan.view_is ∙ sym c.index-plans-number.is)),
      sized_more l c.args.spots.now c.args.images.now n i c.in_ok-header.header.items c.loop-number-test.true c.index-images-number.is c.in_ok-header.ensures.header c.in_ok-header.ensures.size c.loop-number.invariant.1,
    )

pub returns-clause-sized : goal.returns-clause-sized
returns-clause-sized c = all_sized c.args.layout.now c.args.spots.now c.args.images.now c.loop-number.number (omega arith) c.loop-number.invariant.1
