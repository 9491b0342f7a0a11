use Rattle.std.proofs.Common.{◌≡◌, map, take}
use Rattle.dsc_tool.proofs.command.copy_names.Given as goal

abbrev pub invariant-loop-name : goal.invariant-loop-name
invariant-loop-name l = l.copies.items ≡ take l.name-index (map (λ name. name.now) l.names)
