-- How a run ends, and with which exit status of the process.
use Rattle.std.specs.Prelude.{ℕ}
use Rattle.dsc_tool.specs.declared.status.Status.{Status}
use Rattle.dsc_tool.specs.declared.status.Status.TheVariants.{Done, Refused, BadWords, ReadFault, WriteFault, Memory, Differs}
use Rattle.dsc_tool.specs.declared.status.Ending.{Ending}
use Rattle.dsc_tool.specs.declared.status.Ending.TheVariants.{Done as AllDone, Differs as NotAlike}
use Rattle.dsc_tool.specs.declared.stop.Stop.{Stop}
use Rattle.dsc_tool.specs.declared.stop.Stop.TheVariants.{BadWords as NoCommand, Unread, Refused as Broken, Flawed, NoImage, Memory as NoMemory}

abbrev pub code_of : Status → ℕ
code_of Done = 0
code_of Refused = 1
code_of BadWords = 2
code_of ReadFault = 3
code_of WriteFault = 4
code_of Memory = 5
code_of Differs = 6

-- the status where all was put
abbrev pub status_at : Ending → Status
status_at AllDone = Done
status_at NotAlike = Differs

-- the status where a run stopped
abbrev pub status_of : Stop → Status
status_of NoCommand = BadWords
status_of (Unread input) = ReadFault
status_of (Broken b) = Refused
status_of (Flawed f) = Refused
status_of NoImage = Refused
status_of NoMemory = Memory
