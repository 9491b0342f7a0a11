-- The files up to this one are put.
use Rattle.std.proofs.Common.{◌≡◌, ◌≤◌, take}
use Rattle.dsc_tool.specs.Steps.{new_files}
use Rattle.dsc_tool.specs.Streams.{with_files}
use Rattle.dsc_tool.proofs.run.put_files.Given as goal

abbrev pub invariant-loop-file : goal.invariant-loop-file
invariant-loop-file g l = record {
  files : g.S.Store.files l.store ≡ with_files (g.S.Store.files l.fn.store) (take l.file-index (new_files l.files));
  puts : g.S.Store.put_faults l.fn.store ≤ g.S.Store.put_faults l.store;
  gets : g.S.Store.get_faults l.store ≡ g.S.Store.get_faults l.fn.store;
}
