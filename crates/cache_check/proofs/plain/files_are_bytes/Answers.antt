use Rattle.cache_check.proofs.ReadLaws.{bytes_more}
use Rattle.cache_check.proofs.plain.files_are_bytes.Goals as goal

pub loop-file-preserved : goal.loop-file-preserved
loop-file-preserved c = bytes_more c.args.files.now c.loop-file.file-index c.file-item.result c.deref.result.now c.loop-file.invariant c.loop-file-test.true c.file-item.is c.deref.ensures.value c.are_bytes.ensures.all
