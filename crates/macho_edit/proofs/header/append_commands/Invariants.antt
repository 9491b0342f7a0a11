use Rattle.macho_edit.proofs.CopyLaws.{IsCopied}
use Rattle.macho_edit.proofs.header.append_commands.Given as goal

abbrev pub invariant-loop-command : goal.invariant-loop-command
invariant-loop-command l = IsCopied l.spots l.header l.moves l.fn.out.items l.out.items l.left l.count l.command-iterator
