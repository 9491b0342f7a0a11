use Rattle.std.proofs.Common.{◌≡◌, ◌+◌, ◌-◌, suc, sym, ◌∙◌, arith, Some, None}
use Rattle.split_info.specs.Reading.{pairs}
use Rattle.split_info.proofs.PartLaws.{read_then, read_end, read_from, refused_behind, refused_is, refused_from, part_on, pairs_cut, pairs_end, pairs_nowhere, pairs_from, pairs_with, none_is}
use Rattle.split_info.proofs.reading.read_pairs.Goals as goal

pub returns-in_err-one-clause-cause : goal.returns-in_err-one-clause-cause
returns-in_err-one-clause-cause c =
    let cause = c.in_err-one.ensures.cause in
    part_on c.args.source.now.rebases.now c.args.found.now.items (pairs c.args.source.now.stream.now c.args.image.now c.args.count c.args.start) c.from_residual.result c.in_err-one.field-0.0 c.from_residual.ensures.1
    (λ rest. refused_behind _ _ _ _ _ _ (c.loop.invariant.left rest) (refused_is _ _ _ _ _ (pairs_cut c.args.source.now.stream.now c.args.image.now (c.args.count - c.loop.counter) c.loop.at rest _ (omega arith) cause.1) cause.0))

pub returns-in_default-clause-cause : goal.returns-in_default-clause-cause
returns-in_default-clause-cause c =
    let one : c.args.count - c.loop.counter ≡ suc (c.args.count - (c.loop.counter + 1)) = omega arith in
    λ rest. refused_behind _ _ _ _ _ _ (c.loop.invariant.left rest)
    (refused_is _ _ _ _ _ (pairs_nowhere c.args.source.now.stream.now c.args.image.now (c.args.count - c.loop.counter) _ c.loop.at c.in_ok-one.one c.in_ok-one.second rest one c.in_ok-one.ensures.found (none_is _ _ c.from_section.ensures c.in_default.not-Some)) c.refused.ensures)

pub returns-in_err-other-clause-cause : goal.returns-in_err-other-clause-cause
returns-in_err-other-clause-cause c =
    let one : c.args.count - c.loop.counter ≡ suc (c.args.count - (c.loop.counter + 1)) = omega arith in
    let cause = c.in_err-other.ensures.cause in
    part_on c.args.source.now.rebases.now c.args.found.now.items (pairs c.args.source.now.stream.now c.args.image.now c.args.count c.args.start) c.from_residual-in_err-other.result c.in_err-other.field-0.0 c.from_residual-in_err-other.ensures.1
    (λ rest. refused_behind _ _ _ _ _ _ (c.loop.invariant.left rest)
    (refused_is _ _ _ _ _ (pairs_from c.args.source.now.stream.now c.args.image.now (c.args.count - c.loop.counter) _ c.loop.at c.in_ok-one.one c.in_ok-one.second c.in-Some.from rest one c.in_ok-one.ensures.found c.in-Some.ensures ∙ cause.1 _) cause.0))

pub returns-in_default-to_section-clause-cause : goal.returns-in_default-to_section-clause-cause
returns-in_default-to_section-clause-cause c =
    let one : c.args.count - c.loop.counter ≡ suc (c.args.count - (c.loop.counter + 1)) = omega arith in
    let none = none_is _ _ c.to_section.ensures c.in_default-to_section.not-Some in
    λ rest. refused_behind _ _ _ _ _ _ (c.loop.invariant.left rest)
    (refused_is _ _ _ _ _ (pairs_with c.args.source.now.stream.now c.args.image.now (c.args.count - c.loop.counter) _ c.loop.at c.in_ok-one.one c.in_ok-one.second c.in_ok-other.other c.in_ok-other.counted c.in-Some.from rest one c.in_ok-one.ensures.found c.in-Some.ensures c.in_ok-other.ensures.found None (sym none)) c.refused-in_default-to_section.ensures)

pub returns-in_err-targets-clause-cause : goal.returns-in_err-targets-clause-cause
returns-in_err-targets-clause-cause c =
    let one : c.args.count - c.loop.counter ≡ suc (c.args.count - (c.loop.counter + 1)) = omega arith in
    let cause = c.in_err-targets.ensures.cause in
    part_on c.args.source.now.rebases.now c.args.found.now.items (pairs c.args.source.now.stream.now c.args.image.now c.args.count c.args.start) c.from_residual-in_err-targets.result c.in_err-targets.field-0.0 c.from_residual-in_err-targets.ensures.1
    (λ rest. refused_behind _ _ _ _ _ _ (c.loop.invariant.left rest)
    (refused_is _ _ _ _ _ (pairs_with c.args.source.now.stream.now c.args.image.now (c.args.count - c.loop.counter) _ c.loop.at c.in_ok-one.one c.in_ok-one.second c.in_ok-other.other c.in_ok-other.counted c.in-Some.from rest one c.in_ok-one.ensures.found c.in-Some.ensures c.in_ok-other.ensures.found (Some c.in-Some-to_section.to) c.in-Some-to_section.ensures ∙ cause.1 _) cause.0))

pub returns-in_err-at-clause-cause : goal.returns-in_err-at-clause-cause
returns-in_err-at-clause-cause c =
    let one : c.args.count - c.loop.counter ≡ suc (c.args.count - (c.loop.counter + 1)) = omega arith in
    part_on c.args.source.now.rebases.now c.args.found.now.items (pairs c.args.source.now.stream.now c.args.image.now c.args.count c.args.start) c.from_residual-in_err-at.result c.in_err-at.field-0.0 c.from_residual-in_err-at.ensures.1
    (λ rest. refused_behind _ _ _ _ _ _ (c.loop.invariant.left rest)
    (refused_from _ _ _ _ _
    (pairs_with c.args.source.now.stream.now c.args.image.now (c.args.count - c.loop.counter) _ c.loop.at c.in_ok-one.one c.in_ok-one.second c.in_ok-other.other c.in_ok-other.counted c.in-Some.from rest one c.in_ok-one.ensures.found c.in-Some.ensures c.in_ok-other.ensures.found (Some c.in-Some-to_section.to) c.in-Some-to_section.ensures ∙ c.in_ok-targets.ensures.found _)
    (c.in_err-at.ensures.cause (λ next. pairs c.args.source.now.stream.now c.args.image.now (c.args.count - (c.loop.counter + 1)) next rest))))

pub loop-preserved : goal.loop-preserved
loop-preserved c =
    let one : c.args.count - c.loop.counter ≡ suc (c.args.count - (c.loop.counter + 1)) = omega arith in
    record {
      within = c.in_ok-at.ensures.within;
      left = λ rest. read_then _ _ _ _ _ _ _ (c.loop.invariant.left rest)
          (read_from _ _ _ _ _ _
          (pairs_with c.args.source.now.stream.now c.args.image.now (c.args.count - c.loop.counter) _ c.loop.at c.in_ok-one.one c.in_ok-one.second c.in_ok-other.other c.in_ok-other.counted c.in-Some.from rest one c.in_ok-one.ensures.found c.in-Some.ensures c.in_ok-other.ensures.found (Some c.in-Some-to_section.to) c.in-Some-to_section.ensures ∙ c.in_ok-targets.ensures.found _)
          (c.in_ok-at.ensures.read (λ next. pairs c.args.source.now.stream.now c.args.image.now (c.args.count - (c.loop.counter + 1)) next rest)));
    }

pub returns-clause-read : goal.returns-clause-read
returns-clause-read c = λ rest. read_end _ _ _ _ _ _ (c.loop.invariant.left rest) (pairs_end c.args.source.now.stream.now c.args.image.now (c.args.count - c.loop.counter) c.loop.at rest (omega arith))
