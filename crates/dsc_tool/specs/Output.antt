-- What a run does where nothing fails and memory suffices: its status, what it prints, and the files after it.
use Rattle.std.specs.Prelude.{ℕ, ◌+◌, ◌++◌, nat_lt, if◌then◌else◌, List, [], ◌∷◌, length, Option, Some, None, Result, Ok, Err}
use Rattle.std.specs.FinMap.{get}
use Rattle.dsc_base.specs.Outside.{Files}
use Rattle.dsc_tool.specs.declared.status.Status.{Status}
use Rattle.dsc_tool.specs.declared.stop.Stop.{Stop}
use Rattle.dsc_tool.specs.declared.stop.Stop.TheVariants.{BadWords, Unread, Refused, Flawed}
use Rattle.dsc_tool.specs.Inputs.{Contents, Names, inputs_of, cache_count, total}
use Rattle.dsc_tool.specs.Made.{Made, made, halted}
use Rattle.dsc_tool.specs.Statuses.{status_at, status_of}
use Rattle.dsc_tool.specs.Stops.{file_limit, input_limit, cache_limit, too_large, input_too_large, cache_too_large}
use Rattle.dsc_tool.specs.Streams.{put_files}
use Rattle.dsc_tool.specs.Texts.{text_of}
use Rattle.dsc_tool.specs.Words.{Order, command_of}

-- ---- what reading comes to

-- of the cache of an order, where it has one
abbrev pub found_cache : Option (List ℕ) → Result (Option (List ℕ)) Stop
found_cache None = Err (Unread 0)
found_cache (Some bytes) = if nat_lt cache_limit (length bytes) then Err (Flawed cache_too_large) else Ok (Some bytes)

abbrev pub cache_end : Files → Option (List ℕ) → Result (Option (List ℕ)) Stop
cache_end files None = Ok None
cache_end files (Some name) = found_cache (get files name)

-- of one file's bytes behind those of earlier ones, where the files have it and so many inputs go before the first
abbrev pub next_end : ℕ → List (List ℕ) → Option (List ℕ) → Result (List (List ℕ)) Stop
next_end first earlier None = Err (Unread (first + length earlier))
next_end first earlier (Some file) =
    if nat_lt file_limit (length file) then Err (Refused (too_large (length earlier)))
    else (if nat_lt input_limit (total earlier + length file) then Err (Refused (input_too_large (length earlier))) else Ok (earlier ++ (file ∷ [])))

-- of the files of these names, in their order, behind what was read
abbrev pub read_end : Files → ℕ → List (List ℕ) → Result (List (List ℕ)) Stop → Result (List (List ℕ)) Stop
read_end files first [] read = read
read_end files first (name ∷ names) (Ok earlier) = read_end files first names (next_end first earlier (get files name))
read_end files first (name ∷ names) (Err stop) = Err stop

-- of all inputs
abbrev pub files_end : Option (List ℕ) → Result (List (List ℕ)) Stop → Result Contents Stop
files_end cache (Ok bytes) = Ok record { cache = cache; files = bytes }
files_end cache (Err stop) = Err stop

abbrev pub behind_cache : Files → Names → Result (Option (List ℕ)) Stop → Result Contents Stop
behind_cache files names (Ok cache) = files_end cache (read_end files (cache_count names.cache) names.files (Ok []))
behind_cache files names (Err stop) = Err stop

abbrev pub inputs_end : Files → Names → Result Contents Stop
inputs_end files names = behind_cache files names (cache_end files names.cache)

-- ---- what a run comes to

abbrev pub order_end : Order → Result Contents Stop → Result Made Stop
order_end order (Ok contents) = made order contents
order_end order (Err stop) = halted order stop

-- of the order, where the words spell one
abbrev pub command_end : Files → Option Order → Result Made Stop
command_end files None = Err BadWords
command_end files (Some order) = order_end order (inputs_end files (inputs_of order))

-- the status, the bytes on standard output and standard error, and the files after the run
pub record Outcome : Type 0 where
  pub status : Status
  pub out : List ℕ
  pub err : List ℕ
  pub files : Files

-- what is made is put, files first; a stop is told of on standard error
abbrev pub outcome_of : Files → Result Made Stop → Outcome
outcome_of files (Ok m) = record { status = status_at m.ending; out = m.text; err = []; files = put_files files m.files }
outcome_of files (Err stop) = record { status = status_of stop; out = []; err = text_of stop; files = files }

unfoldable pub output : List (List ℕ) → Files → Outcome
output words files = outcome_of files (command_end files (command_of words))
