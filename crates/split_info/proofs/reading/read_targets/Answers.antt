use Rattle.std.proofs.Common.{◌≡◌, ◌+◌, ◌-◌, suc, ◌∙◌, arith}
use Rattle.split_info.specs.Reading.{targets}
use Rattle.split_info.proofs.PartLaws.{read_then, read_end, read_from, refused_behind, refused_is, refused_from, part_on, targets_cut, targets_end, targets_outside, targets_inside, none_is}
use Rattle.split_info.proofs.reading.read_targets.Goals as goal

pub returns-in_err-delta-clause-cause : goal.returns-in_err-delta-clause-cause
returns-in_err-delta-clause-cause c =
    let cause = c.in_err-delta.ensures.cause in
    part_on c.args.source.now.rebases.now c.args.found.now.items (targets c.args.source.now.stream.now c.args.from c.args.to c.args.count 0 c.args.start) c.from_residual.result c.in_err-delta.field-0.0 c.from_residual.ensures.1
    (λ rest. refused_behind _ _ _ _ _ _ (c.loop.invariant.left rest) (refused_is _ _ _ _ _ (targets_cut c.args.source.now.stream.now c.args.from c.args.to (c.args.count - c.loop.counter) c.loop.offset c.loop.at rest _ (omega arith) cause.1) cause.0))

pub returns-in_default-clause-cause : goal.returns-in_default-clause-cause
returns-in_default-clause-cause c =
    let one : c.args.count - c.loop.counter ≡ suc (c.args.count - (c.loop.counter + 1)) = omega arith in
    λ rest. refused_behind _ _ _ _ _ _ (c.loop.invariant.left rest)
    (refused_is _ _ _ _ _
    (targets_outside c.args.source.now.stream.now c.args.from c.args.to (c.args.count - c.loop.counter) _ c.loop.offset c.loop.at c.in_ok-delta.delta c.in_ok-delta.counted rest one c.in_ok-delta.ensures.found (none_is _ _ c.target_in.ensures c.in_default.not-Some)) c.refused.ensures)

pub returns-in_err-groups-clause-cause : goal.returns-in_err-groups-clause-cause
returns-in_err-groups-clause-cause c =
    let one : c.args.count - c.loop.counter ≡ suc (c.args.count - (c.loop.counter + 1)) = omega arith in
    let cause = c.in_err-groups.ensures.cause in
    part_on c.args.source.now.rebases.now c.args.found.now.items (targets c.args.source.now.stream.now c.args.from c.args.to c.args.count 0 c.args.start) c.from_residual-in_err-groups.result c.in_err-groups.field-0.0 c.from_residual-in_err-groups.ensures.1
    (λ rest. refused_behind _ _ _ _ _ _ (c.loop.invariant.left rest)
    (refused_is _ _ _ _ _ (targets_inside c.args.source.now.stream.now c.args.from c.args.to (c.args.count - c.loop.counter) _ c.loop.offset c.loop.at c.in_ok-delta.delta c.in_ok-delta.counted c.in-Some.target rest one c.in_ok-delta.ensures.found c.in-Some.ensures ∙ cause.1 _) cause.0))

pub returns-in_err-at-clause-cause : goal.returns-in_err-at-clause-cause
returns-in_err-at-clause-cause c =
    let one : c.args.count - c.loop.counter ≡ suc (c.args.count - (c.loop.counter + 1)) = omega arith in
    part_on c.args.source.now.rebases.now c.args.found.now.items (targets c.args.source.now.stream.now c.args.from c.args.to c.args.count 0 c.args.start) c.from_residual-in_err-at.result c.in_err-at.field-0.0 c.from_residual-in_err-at.ensures.1
    (λ rest. refused_behind _ _ _ _ _ _ (c.loop.invariant.left rest)
    (refused_from _ _ _ _ _
    (targets_inside c.args.source.now.stream.now c.args.from c.args.to (c.args.count - c.loop.counter) _ c.loop.offset c.loop.at c.in_ok-delta.delta c.in_ok-delta.counted c.in-Some.target rest one c.in_ok-delta.ensures.found c.in-Some.ensures ∙ c.in_ok-groups.ensures.found _)
    (c.in_err-at.ensures.cause (λ next. targets c.args.source.now.stream.now c.args.from c.args.to (c.args.count - (c.loop.counter + 1)) (c.loop.offset + c.in_ok-delta.delta) next rest))))

pub loop-preserved : goal.loop-preserved
loop-preserved c =
    let one : c.args.count - c.loop.counter ≡ suc (c.args.count - (c.loop.counter + 1)) = omega arith in
    record {
      within = c.in_ok-at.ensures.within;
      left = λ rest. read_then _ _ _ _ _ _ _ (c.loop.invariant.left rest)
          (read_from _ _ _ _ _ _
          (targets_inside c.args.source.now.stream.now c.args.from c.args.to (c.args.count - c.loop.counter) _ c.loop.offset c.loop.at c.in_ok-delta.delta c.in_ok-delta.counted c.in-Some.target rest one c.in_ok-delta.ensures.found c.in-Some.ensures ∙ c.in_ok-groups.ensures.found _)
          (c.in_ok-at.ensures.read (λ next. targets c.args.source.now.stream.now c.args.from c.args.to (c.args.count - (c.loop.counter + 1)) (c.loop.offset + c.in_ok-delta.delta) next rest)));
    }

pub returns-clause-read : goal.returns-clause-read
returns-clause-read c = λ rest. read_end _ _ _ _ _ _ (c.loop.invariant.left rest) (targets_end c.args.source.now.stream.now c.args.from c.args.to (c.args.count - c.loop.counter) c.loop.offset c.loop.at rest (omega arith))
