-- Which stop each fault of a part comes to.
use Rattle.std.specs.Prelude.{ℕ}
use Rattle.dsc_base.specs.declared.fault.Break.{Break}
use Rattle.dsc_base.specs.declared.fault.Finding.{Finding}
use Rattle.dsc_base.specs.declared.fault.SetFault.{SetFault}
use Rattle.dsc_base.specs.declared.fault.SetFault.TheVariants.{Broken, Memory as SetMemory}
use Rattle.dsc_base.specs.declared.fault.ViewFault.{ViewFault}
use Rattle.dsc_base.specs.declared.fault.ViewFault.TheVariants.{Broken as BrokenView, Memory as ViewMemory}
use Rattle.dsc_base.specs.declared.finding_kind.FindingKind.TheVariants.{CacheTooLarge}
use Rattle.dsc_base.specs.declared.outside.store.GetFault.{GetFault}
use Rattle.dsc_base.specs.declared.outside.store.GetFault.TheVariants.{Absent, TooLarge, Failed, Memory as GetMemory}
use Rattle.dsc_base.specs.declared.rule.Rule.TheVariants.{FileTooLarge, InputTooLarge}
use Rattle.dsc_tool.specs.declared.command.WordsFault.{WordsFault}
use Rattle.dsc_tool.specs.declared.command.WordsFault.TheVariants.{BadWords as WrongWords, Memory as WordsMemory}
use Rattle.dsc_tool.specs.declared.stop.Stop.{Stop}
use Rattle.dsc_tool.specs.declared.stop.Stop.TheVariants.{BadWords, Unread, Refused, Flawed, Memory}

abbrev pub words_stop : WordsFault → Stop
words_stop WrongWords = BadWords
words_stop WordsMemory = Memory

abbrev pub set_stop : SetFault → Stop
set_stop (Broken b) = Refused b
set_stop SetMemory = Memory

abbrev pub view_stop : ViewFault → Stop
view_stop (BrokenView f) = Flawed f
view_stop ViewMemory = Memory

-- the most bytes that a file may have
abbrev pub file_limit : ℕ
file_limit = 0x4000000

-- the most bytes that the files may have together
abbrev pub input_limit : ℕ
input_limit = 0x20000000

-- the most bytes that a cache may have that is read
abbrev pub cache_limit : ℕ
cache_limit = 0x80000000

-- rule 1: the file with this number has more bytes than a file may have
abbrev pub too_large : ℕ → Break
too_large file = record { rule = FileTooLarge; image = file; at = file_limit }

-- rule 2: the files up to the one with this number have more bytes together than they may
abbrev pub input_too_large : ℕ → Break
input_too_large file = record { rule = InputTooLarge; image = file; at = input_limit }

-- finding 201: the cache has more bytes than one may have that is read
abbrev pub cache_too_large : Finding
cache_too_large = record { kind = CacheTooLarge; image = 0; at = cache_limit }

-- what a file that isn't given comes to, by its numbers among the inputs and among the files
abbrev pub get_stop : ℕ → ℕ → GetFault → Stop
get_stop input file Absent = Unread input
get_stop input file TooLarge = Refused (too_large file)
get_stop input file Failed = Unread input
get_stop input file GetMemory = Memory

-- what a cache that isn't given comes to; it is input 0
abbrev pub get_cache_stop : GetFault → Stop
get_cache_stop Absent = Unread 0
get_cache_stop TooLarge = Flawed cache_too_large
get_cache_stop Failed = Unread 0
get_cache_stop GetMemory = Memory
