use Rattle.std.proofs.Common.{◌≡◌, ◌+◌, ◌-◌, suc, ◌∙◌, arith}
use Rattle.split_info.specs.Reading.{groups}
use Rattle.split_info.proofs.PartLaws.{read_then, read_end, read_from, refused_behind, refused_is, refused_from, part_on, groups_cut, groups_end, groups_unknown, groups_known, none_is}
use Rattle.split_info.proofs.reading.read_groups.Goals as goal

pub returns-in_err-code-clause-cause : goal.returns-in_err-code-clause-cause
returns-in_err-code-clause-cause c =
    let cause = c.in_err-code.ensures.cause in
    part_on c.args.source.now.rebases.now c.args.found.now.items (groups c.args.source.now.stream.now c.args.from c.args.target c.args.count c.args.start) c.from_residual.result c.in_err-code.field-0.0 c.from_residual.ensures.1
    (λ rest. refused_behind _ _ _ _ _ _ (c.loop.invariant.left rest) (refused_is _ _ _ _ _ (groups_cut c.args.source.now.stream.now c.args.from c.args.target (c.args.count - c.loop.counter) c.loop.at rest _ (omega arith) cause.1) cause.0))

pub returns-in_default-clause-cause : goal.returns-in_default-clause-cause
returns-in_default-clause-cause c =
    let one : c.args.count - c.loop.counter ≡ suc (c.args.count - (c.loop.counter + 1)) = omega arith in
    λ rest. refused_behind _ _ _ _ _ _ (c.loop.invariant.left rest)
    (refused_is _ _ _ _ _ (groups_unknown c.args.source.now.stream.now c.args.from c.args.target (c.args.count - c.loop.counter) _ c.loop.at c.in_ok-code.code c.in_ok-code.counted rest one c.in_ok-code.ensures.found (none_is _ _ c.of.ensures c.in_default.not-Some)) c.refused.ensures)

pub returns-in_err-offsets-clause-cause : goal.returns-in_err-offsets-clause-cause
returns-in_err-offsets-clause-cause c =
    let one : c.args.count - c.loop.counter ≡ suc (c.args.count - (c.loop.counter + 1)) = omega arith in
    let cause = c.in_err-offsets.ensures.cause in
    part_on c.args.source.now.rebases.now c.args.found.now.items (groups c.args.source.now.stream.now c.args.from c.args.target c.args.count c.args.start) c.from_residual-in_err-offsets.result c.in_err-offsets.field-0.0 c.from_residual-in_err-offsets.ensures.1
    (λ rest. refused_behind _ _ _ _ _ _ (c.loop.invariant.left rest)
    (refused_is _ _ _ _ _ (groups_known c.args.source.now.stream.now c.args.from c.args.target (c.args.count - c.loop.counter) _ c.loop.at c.in_ok-code.code c.in_ok-code.counted c.in-Some.kind rest one c.in_ok-code.ensures.found c.in-Some.ensures ∙ cause.1 _) cause.0))

pub returns-in_err-at-clause-cause : goal.returns-in_err-at-clause-cause
returns-in_err-at-clause-cause c =
    let one : c.args.count - c.loop.counter ≡ suc (c.args.count - (c.loop.counter + 1)) = omega arith in
    part_on c.args.source.now.rebases.now c.args.found.now.items (groups c.args.source.now.stream.now c.args.from c.args.target c.args.count c.args.start) c.from_residual-in_err-at.result c.in_err-at.field-0.0 c.from_residual-in_err-at.ensures.1
    (λ rest. refused_behind _ _ _ _ _ _ (c.loop.invariant.left rest)
    (refused_from _ _ _ _ _
    (groups_known c.args.source.now.stream.now c.args.from c.args.target (c.args.count - c.loop.counter) _ c.loop.at c.in_ok-code.code c.in_ok-code.counted c.in-Some.kind rest one c.in_ok-code.ensures.found c.in-Some.ensures ∙ c.in_ok-offsets.ensures.found _)
    (c.in_err-at.ensures.cause (λ next. groups c.args.source.now.stream.now c.args.from c.args.target (c.args.count - (c.loop.counter + 1)) next rest))))

pub loop-preserved : goal.loop-preserved
loop-preserved c =
    let one : c.args.count - c.loop.counter ≡ suc (c.args.count - (c.loop.counter + 1)) = omega arith in
    record {
      within = c.in_ok-at.ensures.within;
      left = λ rest. read_then _ _ _ _ _ _ _ (c.loop.invariant.left rest)
          (read_from _ _ _ _ _ _
          (groups_known c.args.source.now.stream.now c.args.from c.args.target (c.args.count - c.loop.counter) _ c.loop.at c.in_ok-code.code c.in_ok-code.counted c.in-Some.kind rest one c.in_ok-code.ensures.found c.in-Some.ensures ∙ c.in_ok-offsets.ensures.found _)
          (c.in_ok-at.ensures.read (λ next. groups c.args.source.now.stream.now c.args.from c.args.target (c.args.count - (c.loop.counter + 1)) next rest)));
    }

pub returns-clause-read : goal.returns-clause-read
returns-clause-read c = λ rest. read_end _ _ _ _ _ _ (c.loop.invariant.left rest) (groups_end c.args.source.now.stream.now c.args.from c.args.target (c.args.count - c.loop.counter) c.loop.at rest (omega arith))
