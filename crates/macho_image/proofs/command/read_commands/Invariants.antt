use Rattle.std.proofs.Common.{◌≡◌, ◌+◌, ◌-◌, drop, length}
use Rattle.macho_image.proofs.Splitting.{IsSplit}
use Rattle.macho_image.proofs.command.read_commands.Given as goal

abbrev pub invariant-loop : goal.invariant-loop
invariant-loop l = (l.at + length l.rest ≡ length l.header) × IsSplit l.count (drop 32 l.header) l.commands.items (l.count - l.counter) l.at l.rest
