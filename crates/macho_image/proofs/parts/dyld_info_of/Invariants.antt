use Rattle.std.proofs.Common.{◌≡◌, drop}
use Rattle.macho_image.specs.Macho.{command_where, pieces_of, is_dyld_info}
use Rattle.macho_image.proofs.parts.dyld_info_of.Given as goal

abbrev pub invariant-loop-command : goal.invariant-loop-command
invariant-loop-command l =
    command_where is_dyld_info (pieces_of l.commands) ≡ command_where is_dyld_info (pieces_of (drop l.command-index l.commands))
