-- The files up to this one are read, and the store is as before but for its count of failed gets.
use Rattle.std.proofs.Common.{◌≡◌, ◌≤◌, take}
use Rattle.load_model.specs.Phases.{contents}
use Rattle.dsc_tool.specs.Inputs.{AreRead, total}
use Rattle.dsc_tool.proofs.inputs.read_files.Given as goal

abbrev pub invariant-loop-number : goal.invariant-loop-number
invariant-loop-number g l = record {
  read : AreRead (g.S.Store.files l.fn.store) (take l.number l.names) (contents l.inputs.items);
  size : l.total ≡ total (contents l.inputs.items);
  files : g.S.Store.files l.store ≡ g.S.Store.files l.fn.store;
  gets : g.S.Store.get_faults l.fn.store ≤ g.S.Store.get_faults l.store;
  puts : g.S.Store.put_faults l.store ≡ g.S.Store.put_faults l.fn.store;
}
