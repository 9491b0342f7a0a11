use Rattle.std.proofs.Common.{◌≡◌, drop, nat_eq}
use Rattle.macho_image.specs.Macho.{command_where, pieces_of}
use Rattle.macho_image.proofs.parts.command_of.Given as goal

abbrev pub invariant-loop-command : goal.invariant-loop-command
invariant-loop-command l =
    command_where (λ n. nat_eq n l.number) (pieces_of l.commands) ≡ command_where (λ n. nat_eq n l.number) (pieces_of (drop l.command-index l.commands))
