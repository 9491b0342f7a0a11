-- The spans before a place are as long as the next one begins behind the first.
use Rattle.std.proofs.Common.{◌≡◌, ◌+◌, ◌-◌, take, ap, arith}
use Rattle.ref_rewrite.specs.Plans.{Plan}
use Rattle.ref_rewrite.proofs.RunLaws.{span_start}
use Rattle.ref_rewrite.proofs.FollowsLaws.{span_lens}
use Rattle.ref_rewrite.proofs.rewrite.lens.Goals as goal

pub overflow_sub-text : goal.overflow_sub-text
overflow_sub-text c =
    let start : c.start.inside.text.at ≡ c.index-plans-0.result.text.at = ap (λ (p : Plan). p.text.at) c.start.view_is in
    let next : c.next.inside.text.at ≡ c.index-plans-low.result.text.at = ap (λ (p : Plan). p.text.at) c.next.view_is in
    let behind : c.index-plans-low.result.text.at ≡ c.index-plans-0.result.text.at + span_lens (λ (p : Plan). p.text) (take c.args.low c.args.plans.now) =
    span_start (λ (p : Plan). p.text) c.args.plans.now c.args.low c.index-plans-0.result c.index-plans-low.result c.requires.text c.requires.low c.index-plans-0.is c.index-plans-low.is in
    omega (arith, start, next, behind)

pub returns-clause-text : goal.returns-clause-text
returns-clause-text c =
    let start : c.start.inside.text.at ≡ c.index-plans-0.result.text.at = ap (λ (p : Plan). p.text.at) c.start.view_is in
    let next : c.next.inside.text.at ≡ c.index-plans-low.result.text.at = ap (λ (p : Plan). p.text.at) c.next.view_is in
    let behind : c.index-plans-low.result.text.at ≡ c.index-plans-0.result.text.at + span_lens (λ (p : Plan). p.text) (take c.args.low c.args.plans.now) =
    span_start (λ (p : Plan). p.text) c.args.plans.now c.args.low c.index-plans-0.result c.index-plans-low.result c.requires.text c.requires.low c.index-plans-0.is c.index-plans-low.is in
    let less : c.next.inside.text.at - c.start.inside.text.at ≡ span_lens (λ (p : Plan). p.text) (take c.args.low c.args.plans.now) = omega (arith, start, next, behind) in
    less

pub overflow_sub-writable : goal.overflow_sub-writable
overflow_sub-writable c =
    let start : c.start.inside.writable.at ≡ c.index-plans-0.result.writable.at = ap (λ (p : Plan). p.writable.at) c.start.view_is in
    let next : c.next.inside.writable.at ≡ c.index-plans-low.result.writable.at = ap (λ (p : Plan). p.writable.at) c.next.view_is in
    let behind : c.index-plans-low.result.writable.at ≡ c.index-plans-0.result.writable.at + span_lens (λ (p : Plan). p.writable) (take c.args.low c.args.plans.now) =
    span_start (λ (p : Plan). p.writable) c.args.plans.now c.args.low c.index-plans-0.result c.index-plans-low.result c.requires.writable c.requires.low c.index-plans-0.is c.index-plans-low.is in
    omega (arith, start, next, behind)

pub returns-clause-writable : goal.returns-clause-writable
returns-clause-writable c =
    let start : c.start.inside.writable.at ≡ c.index-plans-0.result.writable.at = ap (λ (p : Plan). p.writable.at) c.start.view_is in
    let next : c.next.inside.writable.at ≡ c.index-plans-low.result.writable.at = ap (λ (p : Plan). p.writable.at) c.next.view_is in
    let behind : c.index-plans-low.result.writable.at ≡ c.index-plans-0.result.writable.at + span_lens (λ (p : Plan). p.writable) (take c.args.low c.args.plans.now) =
    span_start (λ (p : Plan). p.writable) c.args.plans.now c.args.low c.index-plans-0.result c.index-plans-low.result c.requires.writable c.requires.low c.index-plans-0.is c.index-plans-low.is in
    let less : c.next.inside.writable.at - c.start.inside.writable.at ≡ span_lens (λ (p : Plan). p.writable) (take c.args.low c.args.plans.now) = omega (arith, start, next, behind) in
    less

pub overflow_sub-fixed : goal.overflow_sub-fixed
overflow_sub-fixed c =
    let start : c.start.inside.fixed.at ≡ c.index-plans-0.result.fixed.at = ap (λ (p : Plan). p.fixed.at) c.start.view_is in
    let next : c.next.inside.fixed.at ≡ c.index-plans-low.result.fixed.at = ap (λ (p : Plan). p.fixed.at) c.next.view_is in
    let behind : c.index-plans-low.result.fixed.at ≡ c.index-plans-0.result.fixed.at + span_lens (λ (p : Plan). p.fixed) (take c.args.low c.args.plans.now) =
    span_start (λ (p : Plan). p.fixed) c.args.plans.now c.args.low c.index-plans-0.result c.index-plans-low.result c.requires.fixed c.requires.low c.index-plans-0.is c.index-plans-low.is in
    omega (arith, start, next, behind)

pub returns-clause-fixed : goal.returns-clause-fixed
returns-clause-fixed c =
    let start : c.start.inside.fixed.at ≡ c.index-plans-0.result.fixed.at = ap (λ (p : Plan). p.fixed.at) c.start.view_is in
    let next : c.next.inside.fixed.at ≡ c.index-plans-low.result.fixed.at = ap (λ (p : Plan). p.fixed.at) c.next.view_is in
    let behind : c.index-plans-low.result.fixed.at ≡ c.index-plans-0.result.fixed.at + span_lens (λ (p : Plan). p.fixed) (take c.args.low c.args.plans.now) =
    span_start (λ (p : Plan). p.fixed) c.args.plans.now c.args.low c.index-plans-0.result c.index-plans-low.result c.requires.fixed c.requires.low c.index-plans-0.is c.index-plans-low.is in
    let less : c.next.inside.fixed.at - c.start.inside.fixed.at ≡ span_lens (λ (p : Plan). p.fixed) (take c.args.low c.args.plans.now) = omega (arith, start, next, behind) in
    less
