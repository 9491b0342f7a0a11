use Rattle.std.proofs.Common.{sym, ◌∙◌}
use Rattle.split_info.specs.Stream.{End, spelled}
use Rattle.split_info.specs.Split.{reading_break}
use Rattle.split_info.proofs.ReadLaws.{other_format, own_format, all_read, part_refused, whole_refused}
use Rattle.split_info.proofs.read.read_stream.Goals as goal
use Rattle.macho_image.proofs.StreamLaws.{refuses_on}

pub returns-then-not-is_version_two-clause-cause : goal.returns-then-not-is_version_two-clause-cause
returns-then-not-is_version_two-clause-cause c =
    whole_refused c.args.rebases.now (spelled c.args.stream.now c.args.image.now) _ c.refused.result
    (other_format c.args.stream.now c.args.image.now (sym c.is_version_two.ensures.format ∙ c.if-not-is_version_two.true)) c.refused.ensures

pub returns-in_err-count-clause-cause : goal.returns-in_err-count-clause-cause
returns-in_err-count-clause-cause c =
    let cause = c.in_err-count.ensures.cause in
    refuses_on (reading_break c.args.rebases.now 0 (spelled c.args.stream.now c.args.image.now)) c.from_residual.result c.in_err-count.field-0.0 c.from_residual.ensures.1
    (whole_refused c.args.rebases.now (spelled c.args.stream.now c.args.image.now) _ c.in_err-count.field-0.0
    (own_format c.args.stream.now c.args.image.now (sym c.is_version_two.ensures.format ∙ c.if-not-is_version_two.false) ∙ cause.1 _) cause.0)

pub returns-in_err-read_pairs-clause-cause : goal.returns-in_err-read_pairs-clause-cause
returns-in_err-read_pairs-clause-cause c =
    refuses_on (reading_break c.args.rebases.now 0 (spelled c.args.stream.now c.args.image.now)) c.from_residual-in_err-read_pairs.result c.in_err-read_pairs.field-0.0 c.from_residual-in_err-read_pairs.ensures.1
    (part_refused c.args.rebases.now c.new-found.result.items (spelled c.args.stream.now c.args.image.now) _ c.in_err-read_pairs.field-0.0 c.new-found.ensures.items
    (own_format c.args.stream.now c.args.image.now (sym c.is_version_two.ensures.format ∙ c.if-not-is_version_two.false) ∙ c.in_ok-count.ensures.found _)
    (c.in_err-read_pairs.ensures.cause (λ next. End)))

pub returns-clause-found : goal.returns-clause-found
returns-clause-found c =
    (all_read c.args.rebases.now c.new-found.result.items c.read_pairs.new.found.items (spelled c.args.stream.now c.args.image.now) _ c.new-found.ensures.items
    (own_format c.args.stream.now c.args.image.now (sym c.is_version_two.ensures.format ∙ c.if-not-is_version_two.false) ∙ c.in_ok-count.ensures.found _)
    (c.in_ok-read_pairs.ensures.read (λ next. End))).found

pub returns-clause-cause : goal.returns-clause-cause
returns-clause-cause c =
    (all_read c.args.rebases.now c.new-found.result.items c.read_pairs.new.found.items (spelled c.args.stream.now c.args.image.now) _ c.new-found.ensures.items
    (own_format c.args.stream.now c.args.image.now (sym c.is_version_two.ensures.format ∙ c.if-not-is_version_two.false) ∙ c.in_ok-count.ensures.found _)
    (c.in_ok-read_pairs.ensures.read (λ next. End))).sound
