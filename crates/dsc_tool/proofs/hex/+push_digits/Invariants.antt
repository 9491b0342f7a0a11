-- Each call has room for one digit less.
use Rattle.dsc_tool.proofs.hex.+push_digits.Given as goal

abbrev pub decreases-push_digits : goal.decreases-push_digits
decreases-push_digits l = l.room
