-- What is so after a run, by the status that it answered.
use Rattle.std.specs.Prelude.{◌≡◌, ◌<◌, ◌⊎◌, ℕ, List, length, Option, Some, None, Ok, Err}
use Rattle.std.specs.FinMap.{get, insert}
use Rattle.dsc_base.specs.Outside.{Files, Rose, AppendsPrefix}
use Rattle.dsc_base.specs.declared.fault.Break.{Break}
use Rattle.dsc_base.specs.declared.fault.Finding.{Finding}
use Rattle.cache_build.specs.Always.{CorrespondsAlways}
use Rattle.cache_build.specs.Breaks.{set_break}
use Rattle.cache_build.specs.Built.{built}
use Rattle.cache_check.specs.Agreeing.{CorrespondsEverywhere}
use Rattle.cache_check.specs.declared.verdict.Verdict.{Verdict}
use Rattle.cache_check.specs.declared.verdict.Verdict.TheVariants.{Agrees}
use Rattle.cache_check.specs.Verdict.{verdict_of}
use Rattle.cache_check.specs.Views.{view_of}
use Rattle.extractor.specs.Loads.{IsExtraction}
use Rattle.load_model.specs.Phases.{files_break}
use Rattle.dsc_tool.specs.Options.{delta_bits}
use Rattle.dsc_tool.specs.declared.status.Status.{Status}
use Rattle.dsc_tool.specs.declared.status.Status.TheVariants.{Done, Refused, BadWords, ReadFault, WriteFault, Memory, Differs}
use Rattle.dsc_tool.specs.declared.stop.Stop.{Stop}
use Rattle.dsc_tool.specs.declared.stop.Stop.TheVariants.{BadWords as NoCommand, Unread, Refused as Broken, Flawed, NoImage, Memory as NoMemory}
use Rattle.dsc_tool.specs.Causes.{IsMade, RefusalCause, WorkCause, IsDue}
use Rattle.dsc_tool.specs.Extraction.{asked_files, cache_finding}
use Rattle.dsc_tool.specs.Inputs.{AreRead, CacheIsRead, Contents, inputs_of, input_count}
use Rattle.dsc_tool.specs.Made.{Made}
use Rattle.dsc_tool.specs.Output.{Outcome, outcome_of, output}
use Rattle.dsc_tool.specs.Statuses.{status_of}
use Rattle.dsc_tool.specs.Steps.{IsDelivered, IsUndelivered, IsUnput}
use Rattle.dsc_tool.specs.Streams.{World, AnyRose, appended, put_files}
use Rattle.dsc_tool.specs.Stops.{cache_limit}
use Rattle.dsc_tool.specs.Texts.{text_of, cannot_read_line, cannot_write_line, no_memory_line}
use Rattle.dsc_tool.specs.Words.{Order, command_of}

-- The words spell an order that came to this.
pub record IsWorked (words : List (List ℕ)) (before after : World) : Type 0 where
  pub order : Order
  pub made : Made
  pub cause : WorkCause words before.files before.get_faults after.get_faults order made

-- What was made is put, the files at their names and then the text, and the status is what comes of it.
pub record IsDone (words : List (List ℕ)) (before after : World) (status : Status) : Type 0 where
  pub worked : IsWorked words before after
  pub all : IsDelivered worked.made before after status

-- The run stopped for this cause before anything was put, and standard error tells of it.
pub record IsStopped (words : List (List ℕ)) (before after : World) (stop : Stop) : Type 0 where
  pub cause : IsDue words before.files before.get_faults after.get_faults stop
  pub files : after.files ≡ before.files
  pub out : after.out ≡ before.out
  pub err : after.err ≡ appended before.err (text_of stop)

-- The run stopped before anything was put, and standard error failed to take all of the text.
pub record IsUntold (words : List (List ℕ)) (before after : World) : Type 0 where
  pub stop : Stop
  pub cause : IsDue words before.files before.get_faults after.get_faults stop
  pub fault : Rose before.err_faults after.err_faults
  pub files : after.files ≡ before.files
  pub out : after.out ≡ before.out
  pub err : AppendsPrefix before.err (text_of stop) after.err

-- The store failed to take all of a file that was made, or standard output the text, and standard error tells of it, unless it failed too.
pub record IsCutShort (words : List (List ℕ)) (before after : World) : Type 0 where
  pub worked : IsWorked words before after
  pub some : IsUndelivered worked.made before after

-- Memory was wanting for the put of a file that was made, of which those before it are put.
pub record IsLeftOff (words : List (List ℕ)) (before after : World) (status : Status) : Type 0 where
  pub worked : IsWorked words before after
  pub few : IsUnput worked.made before after status

-- what is so after each status, over every store and sink
abbrev pub Ends : List (List ℕ) → World → World → Status → Type 0
Ends words before after Done = IsDone words before after Done
Ends words before after Differs = IsDone words before after Differs
Ends words before after Refused =
    (((b : Break) × IsStopped words before after (Broken b)) ⊎ ((f : Finding) × IsStopped words before after (Flawed f))) ⊎ IsStopped words before after NoImage
Ends words before after BadWords = IsStopped words before after NoCommand
Ends words before after ReadFault = (input : ℕ) × IsStopped words before after (Unread input)
Ends words before after WriteFault = (IsUntold words before after ⊎ IsCutShort words before after) ⊎ IsLeftOff words before after WriteFault
Ends words before after Memory = IsStopped words before after NoMemory ⊎ IsLeftOff words before after Memory

-- the run ended as this outcome says: the status, the files, and all that was printed
pub record IsOutcome (o : Outcome) (before after : World) (status : Status) : Type 0 where
  pub status_is : status ≡ o.status
  pub files : after.files ≡ Some o.files
  pub out : after.out ≡ appended before.out o.out
  pub err : after.err ≡ appended before.err o.err

-- neither a fault of the outside nor want of memory
abbrev pub IsSettled : Status → Type 0
IsSettled Done = Unit {0}
IsSettled Refused = Unit {0}
IsSettled BadWords = Unit {0}
IsSettled Differs = Unit {0}
IsSettled ReadFault = ⊥
IsSettled WriteFault = ⊥
IsSettled Memory = ⊥

-- the words spell an order with an input of this number, and the text says that it wasn't read
abbrev pub IsUnreadText : List (List ℕ) → List ℕ → Type 0
IsUnreadText words text =
    (order : Order) × (input : ℕ) × (command_of words ≡ Some order) × (input < input_count (inputs_of order)) × (text ≡ cannot_read_line input)

-- the text of a fault of the outside, or of want of memory
abbrev pub IsFaultText : List (List ℕ) → List ℕ → Type 0
IsFaultText words text = IsUnreadText words text ⊎ ((text ≡ cannot_write_line) ⊎ (text ≡ no_memory_line))

-- How a run over told files stands to its output, which is what it does where nothing fails and memory suffices.
pub record IsByOutput (words : List (List ℕ)) (files : Files) (before after : World) (status : Status) : Type 0 where
  -- a settled status comes only where the output has it, whatever has failed
  pub settled : IsSettled status → IsOutcome (output words files) before after status
  -- where nothing has failed, the run is the output, or memory was wanting
  pub quiet : (AnyRose before after → ⊥) → (status ≡ Memory) ⊎ IsOutcome (output words files) before after status
  -- so what the words come to is put, where nothing has failed
  pub complete : (order : Order) (contents : Contents) (made : Made) → IsMade words (Some files) order contents made → (AnyRose before after → ⊥)
      → (status ≡ Memory) ⊎ IsOutcome (outcome_of files (Ok made)) before after status
  -- and files that break a rule, a cache with a finding, and inputs that pass a limit while they are read, are refused by the first of these, where nothing has failed
  pub refuses : (order : Order) (stop : Stop) → command_of words ≡ Some order → status_of stop ≡ Refused → RefusalCause words (Some files) before.get_faults after.get_faults order stop
      → (AnyRose before after → ⊥) → (status ≡ Memory) ⊎ IsOutcome (outcome_of files (Err stop)) before after status
  -- standard output has a prefix of the output's text, and all of it where the status is the output's
  pub printed : AppendsPrefix before.out (output words files).out after.out
  pub printed_all : status ≡ (output words files).status → after.out ≡ appended before.out (output words files).out
  -- standard error has a prefix of the output's text, or of the text of a fault
  pub told : (text : List ℕ) × ((text ≡ (output words files).err) ⊎ IsFaultText words text) × AppendsPrefix before.err text after.err

-- A run of these words, from the one state of the outside to the other.
pub record Ran (words : List (List ℕ)) (before after : World) (status : Status) : Type 0 where
  pub ends : Ends words before after status
  pub by_output : (files : Files) → before.files ≡ Some files → IsByOutput words files before after status

-- The inputs of these names are there and within the limits and break no rule, and a cache that corresponds to them is at a name; nothing else has changed.
pub record IsBuilt (out : List ℕ) (names : List (List ℕ)) (files : Files) (after : Option Files) : Type 0 where
  pub bytes : List (List ℕ)
  pub inputs : AreRead (Some files) names bytes
  pub unbroken : set_break delta_bits bytes ≡ None
  pub cache : List ℕ
  pub is : cache ≡ built delta_bits bytes
  pub corresponds : CorrespondsAlways bytes cache
  pub placed : after ≡ Some (insert files out cache)

-- The inputs of these names are there and within the limits, the files among them break no rule before they are laid out, and this is the verdict on the cache and them; where they agree, the cache corresponds to them.
pub record HasVerdict (name : List ℕ) (names : List (List ℕ)) (files : Files) (v : Verdict) : Type 0 where
  pub cache : List ℕ
  pub bytes : List (List ℕ)
  pub there : CacheIsRead (Some files) (Some name) (Some cache)
  pub inputs : AreRead (Some files) names bytes
  pub unbroken : files_break bytes ≡ None
  pub is : v ≡ verdict_of cache bytes
  pub corresponds : v ≡ Agrees → CorrespondsEverywhere bytes cache

-- the cache of this name has more bytes than one may have that is read
abbrev pub IsOversized : List ℕ → Files → Type 0
IsOversized name files = (cache : List ℕ) × (get files name ≡ Some cache) × (cache_limit < length cache)

-- what a check says of the told inputs of these names, by its status: they agree, or the verdict is another, or the cache is too large
abbrev pub Says : List ℕ → List (List ℕ) → Files → Status → Type 0
Says name names files Done = HasVerdict name names files Agrees
Says name names files Differs = IsOversized name files ⊎ ((v : Verdict) × (v ≡ Agrees → ⊥) × HasVerdict name names files v)
Says name names files Refused = Unit {0}
Says name names files BadWords = Unit {0}
Says name names files ReadFault = Unit {0}
Says name names files WriteFault = Unit {0}
Says name names files Memory = Unit {0}

-- The cache of this name is there and within its limit, has no finding and has the images that are asked for. Their files, in which all is as in the cache, are at the prefix followed by their paths; nothing else has changed.
pub record AreTaken (name prefix : List ℕ) (image : Option (List ℕ)) (files : Files) (after : Option Files) : Type 0 where
  pub cache : List ℕ
  pub there : CacheIsRead (Some files) (Some name) (Some cache)
  pub unflawed : cache_finding cache ≡ None
  pub taken : List (List ℕ × List ℕ)
  pub are : asked_files prefix image (view_of cache) ≡ Some taken
  pub extracted : IsExtraction cache
  pub placed : after ≡ Some (put_files files taken)
