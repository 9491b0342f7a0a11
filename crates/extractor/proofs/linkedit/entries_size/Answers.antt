-- Entries behind no others.
use Rattle.std.proofs.Common.{◌≡◌, ◌+◌, ◌*◌, ℕ, subst, arith}
use Rattle.std.specs.Prelude.{IfOk, IfErr}
use Rattle.linkedit_merge.specs.Sizes.{IsSize, Exceeds}
use Rattle.extractor.specs.ExtractOf.{linkedit_limit}
use Rattle.extractor.proofs.linkedit.entries_size.Goals as goal

pub returns-clause-size : goal.returns-clause-size
returns-clause-size c =
    let same : 0 + c.args.width * c.args.count ≡ c.args.width * c.args.count = omega arith in
    subst (λ (n : ℕ). IfOk c.with_entries.result (IsSize linkedit_limit n)) same c.with_entries.ensures.size

pub returns-clause-cause : goal.returns-clause-cause
returns-clause-cause c =
    let same : 0 + c.args.width * c.args.count ≡ c.args.width * c.args.count = omega arith in
    subst (λ (n : ℕ). IfErr c.with_entries.result (Exceeds linkedit_limit n)) same c.with_entries.ensures.cause
