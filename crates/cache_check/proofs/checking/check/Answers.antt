use Rattle.std.proofs.Common.{rules}
use Rattle.cache_check.specs.Verdict.{finding_of, verdict_of}
use Rattle.cache_check.proofs.AgreeLaws.{agrees_everywhere}
use Rattle.cache_check.proofs.ReadLaws.{are_read}
use Rattle.cache_check.proofs.checking.check.Goals as goal

pub check_view-requires : goal.check_view-requires
check_view-requires c = record {
  read = are_read c.args.files.now c.in-Ok.set c.requires.few c.in-Ok.ensures.images c.in-Ok.ensures.streams c.in-Ok.ensures.links c.in-Ok.ensures.words c.in-Ok.ensures.cause;
}

pub returns-in-Ok-check_view-clause-agrees : goal.returns-in-Ok-check_view-clause-agrees
unfolding verdict_of finding_of
returns-in-Ok-check_view-clause-agrees c =
    agrees_everywhere c.args.cache.now c.args.files.now c.in-Ok-check_view.verdict c.requires.few c.are_bytes.ensures.all c.files_are_bytes.ensures c.in-Ok.ensures.cause (search rules)
