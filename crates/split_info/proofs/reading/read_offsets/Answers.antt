use Rattle.std.proofs.Common.{◌≡◌, ◌+◌, ◌-◌, suc, sym, ◌∙◌, arith}
use Rattle.split_info.specs.Reading.{offsets}
use Rattle.split_info.proofs.PartLaws.{read_then, read_end, refused_behind, refused_is, part_on, offsets_cut, offsets_end, offset_read, offset_outside, offset_refused, none_is}
use Rattle.split_info.proofs.reading.read_offsets.Goals as goal

pub returns-in_err-delta-clause-cause : goal.returns-in_err-delta-clause-cause
returns-in_err-delta-clause-cause c =
    let cause = c.in_err-delta.ensures.cause in
    part_on c.args.source.now.rebases.now c.args.found.now.items (offsets c.args.source.now.stream.now c.args.kind c.args.from c.args.target c.args.count 0 c.args.start) c.from_residual.result c.in_err-delta.field-0.0 c.from_residual.ensures.1
    (λ rest. refused_behind _ _ _ _ _ _ (c.loop.invariant.left rest) (refused_is _ _ _ _ _ (offsets_cut c.args.source.now.stream.now c.args.kind c.args.from c.args.target (c.args.count - c.loop.counter) c.loop.distance c.loop.at rest _ (omega arith) cause.1) cause.0))

pub returns-in_default-clause-cause : goal.returns-in_default-clause-cause
returns-in_default-clause-cause c =
    let one : c.args.count - c.loop.counter ≡ suc (c.args.count - (c.loop.counter + 1)) = omega arith in
    λ rest. refused_behind _ _ _ _ _ _ (c.loop.invariant.left rest)
    (refused_is _ _ _ _ _
    (offset_outside c.args.source.now.stream.now c.args.kind c.args.from c.args.target (c.args.count - c.loop.counter) _ c.loop.distance c.loop.at c.in_ok-delta.delta c.in_ok-delta.next rest one c.in_ok-delta.ensures.found (none_is _ _ c.reference_in.ensures c.in_default.not-Some))
    c.refused.ensures)

pub returns-in-Some-reference_fault-clause-cause : goal.returns-in-Some-reference_fault-clause-cause
returns-in-Some-reference_fault-clause-cause c =
    let one : c.args.count - c.loop.counter ≡ suc (c.args.count - (c.loop.counter + 1)) = omega arith in
    λ rest. refused_behind _ _ _ _ _ _ (c.loop.invariant.left rest)
    (offset_refused c.args.source.now.rebases.now c.args.source.now.stream.now c.args.kind c.args.from c.args.target c.loop.found.items (c.args.count - c.loop.counter) _ c.loop.distance c.loop.at c.in_ok-delta.delta c.in_ok-delta.next c.len.result c.in-Some.reference c.in-Some-reference_fault.rule c.refused-in-Some-reference_fault.result rest
    one c.in_ok-delta.ensures.found c.in-Some.ensures (c.len.ensures ∙ c.loop.found.ok.0) c.in-Some-reference_fault.ensures c.refused-in-Some-reference_fault.ensures)

pub loop-preserved : goal.loop-preserved
loop-preserved c =
    let one : c.args.count - c.loop.counter ≡ suc (c.args.count - (c.loop.counter + 1)) = omega arith in
    let keeps = none_is _ _ c.reference_fault.ensures c.in_default-reference_fault.not-Some in
    record {
      within = c.in_ok-delta.ensures.within;
      left = λ rest. read_then _ _ _ _ _ _ _ (c.loop.invariant.left rest)
          (offset_read c.args.source.now.rebases.now c.args.source.now.stream.now c.args.kind c.args.from c.args.target c.loop.found.items c.push.new.self.items (c.args.count - c.loop.counter) _ c.loop.distance c.loop.at c.in_ok-delta.delta c.in_ok-delta.next c.len.result c.in-Some.reference rest
          one c.in_ok-delta.ensures.found c.in-Some.ensures (c.len.ensures ∙ c.loop.found.ok.0) (sym keeps) c.in_ok-push.ensures.items);
    }

pub returns-clause-read : goal.returns-clause-read
returns-clause-read c = λ rest. read_end _ _ _ _ _ _ (c.loop.invariant.left rest) (offsets_end c.args.source.now.stream.now c.args.kind c.args.from c.args.target (c.args.count - c.loop.counter) c.loop.distance c.loop.at rest (omega arith))
