use Rattle.std.proofs.Common.{◌∙◌, arith}
use Rattle.std.proofs.lemmas.Result.{err_from_is_err_and}
use Rattle.dsc_tool.proofs.ListLaws.{files_step, short_at}
use Rattle.dsc_tool.proofs.run.put_files.Goals as goal

pub loop-file-preserved : goal.loop-file-preserved
loop-file-preserved g c = record {
  files = files_step (g.S.Store.files c.args.store.now) (g.S.Store.files c.loop-file.store) (g.S.Store.files c.put.new.self) c.args.files.now c.loop-file.file-index c.file-item.result
      c.as_str.result.now c.deref.result.now (omega arith) c.file-item.is c.as_str.ensures c.deref.ensures.value c.loop-file.invariant.files c.in_ok-put.ensures.put;
  puts = omega (arith, c.loop-file.invariant.puts, c.put.ensures.put_count);
  gets = c.put.ensures.get_count ∙ c.loop-file.invariant.gets;
}

pub returns-in_err-put-clause-short : goal.returns-in_err-put-clause-short
returns-in_err-put-clause-short g c =
    let p = err_from_is_err_and c.from_residual.result c.from_residual.ensures.1 in
    rw (p.1, p.2)
    (short_at (g.S.Store.files c.args.store.now) (g.S.Store.files c.loop-file.store) (g.S.Store.files c.put.new.self) (g.S.Store.put_faults c.args.store.now) (g.S.Store.put_faults c.loop-file.store)
    (g.S.Store.put_faults c.put.new.self) c.args.files.now c.loop-file.file-index c.file-item.result c.as_str.result.now c.deref.result.now c.in_err-put.field-0.0 (omega arith) c.file-item.is
    c.as_str.ensures c.deref.ensures.value c.loop-file.invariant.files c.loop-file.invariant.puts c.in_err-put.ensures.cause)
