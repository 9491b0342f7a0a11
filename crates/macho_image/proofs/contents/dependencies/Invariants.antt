use Rattle.std.proofs.Common.{◌≡◌, ◌++◌, drop}
use Rattle.std.specs.List.{filter_map}
use Rattle.macho_image.specs.Macho.{dependency_of, pieces_of}
use Rattle.macho_image.proofs.contents.dependencies.Given as goal

abbrev pub invariant-loop-command : goal.invariant-loop-command
invariant-loop-command l = filter_map dependency_of (pieces_of l.commands) ≡ l.dependencies.items ++ filter_map dependency_of (pieces_of (drop l.command-index l.commands))
