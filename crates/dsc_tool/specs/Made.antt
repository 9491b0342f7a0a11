-- What an order comes to, by the bytes of its inputs.
use Rattle.std.specs.Prelude.{◌≡◌, ℕ, List, [], ◌∷◌, length, Option, Some, None, unwrap_or, Result, Ok, Err}
use Rattle.std.specs.List.{sum}
use Rattle.dsc_base.specs.declared.fault.Break.{Break}
use Rattle.dsc_base.specs.declared.fault.Finding.{Finding}
use Rattle.cache_header.specs.Findings.{head_finding}
use Rattle.cache_header.specs.Reading.{span, head_read}
use Rattle.cache_header.specs.Records.{Head}
use Rattle.cache_build.specs.Always.{CorrespondsAlways}
use Rattle.cache_build.specs.Breaks.{set_break}
use Rattle.cache_build.specs.Built.{built}
use Rattle.cache_check.specs.Agreeing.{CorrespondsEverywhere}
use Rattle.cache_check.specs.declared.verdict.Verdict.{Verdict}
use Rattle.cache_check.specs.declared.verdict.Verdict.TheVariants.{Agrees, Differs as Unlike, Broken}
use Rattle.cache_check.specs.Verdict.{verdict_of}
use Rattle.cache_check.specs.Views.{View, view_of}
use Rattle.dsc_gen.specs.Files.{generated}
use Rattle.extractor.specs.Loads.{IsExtraction}
use Rattle.load_model.specs.Phases.{files_break}
use Rattle.dsc_tool.specs.Options.{delta_bits}
use Rattle.dsc_tool.specs.Extraction.{asked_files, cache_finding}
use Rattle.dsc_tool.specs.Inputs.{Contents}
use Rattle.dsc_tool.specs.Texts.{built_line, extracted_line, list_text, info_text, trial_line}
use Rattle.dsc_tool.specs.VerdictTexts.{verdict_line}
use Rattle.dsc_tool.specs.Words.{Order, build, check, extract, list, info, trial}
use Rattle.dsc_tool.specs.declared.status.Ending.{Ending}
use Rattle.dsc_tool.specs.declared.status.Ending.TheVariants.{Done, Differs}
use Rattle.dsc_tool.specs.declared.stop.Stop.{Stop}
use Rattle.dsc_tool.specs.declared.stop.Stop.TheVariants.{BadWords, Unread, Refused, Flawed, NoImage, Memory}

-- files to put, each by its name and its bytes, in their order, and then a text for standard output; and how the run ends where all of it is put
pub record Made : Type 0 where
  pub ending : Ending
  pub files : List (List ℕ × List ℕ)
  pub text : List ℕ

-- a text alone
abbrev pub text_made : List ℕ → Made
text_made text = record { ending = Done; files = []; text = text }

-- the cache of files that are accepted, and a line that tells of it
abbrev pub cache_made : List ℕ → List (List ℕ) → Made
cache_made out files = record {
  ending = Done;
  files = (out, built delta_bits files) ∷ [];
  text = built_line (length files) (span (built delta_bits files));
}

-- of files, by the first rule that they break
abbrev pub build_made : List ℕ → List (List ℕ) → Option Break → Result Made Stop
build_made out files (Some b) = Err (Refused b)
build_made out files None = Ok (cache_made out files)

-- a verdict, told: a run is done where a cache agrees with its files
abbrev pub ending_of : Verdict → Ending
ending_of Agrees = Done
ending_of (Unlike difference) = Differs
ending_of (Broken finding) = Differs

abbrev pub verdict_made : ℕ → Verdict → Made
verdict_made images v = record { ending = ending_of v; files = []; text = verdict_line images v }

-- on a cache and files, by the first rule that these break before they are laid out
abbrev pub check_made : List ℕ → List (List ℕ) → Option Break → Result Made Stop
check_made cache files (Some b) = Err (Refused b)
check_made cache files None = Ok (verdict_made (length files) (verdict_of cache files))

-- files that are extracted, and a line that tells how many they are
abbrev pub files_made : List (List ℕ × List ℕ) → Made
files_made files = record { ending = Done; files = files; text = extracted_line (length files) }

-- those of the images that are asked for, where the cache has them
abbrev pub images_made : Option (List (List ℕ × List ℕ)) → Result Made Stop
images_made None = Err NoImage
images_made (Some files) = Ok (files_made files)

-- out of a cache, by the first finding in it
abbrev pub vetted_made : List ℕ → Option (List ℕ) → View → Option Finding → Result Made Stop
vetted_made prefix image v (Some f) = Err (Flawed f)
vetted_made prefix image v None = images_made (asked_files prefix image v)

abbrev pub extract_made : List ℕ → Option (List ℕ) → List ℕ → Result Made Stop
extract_made prefix image cache = vetted_made prefix image (view_of cache) (cache_finding cache)

-- a text on a cache, by the first finding in its head
abbrev pub told_of : (Head → List ℕ) → List ℕ → Option Finding → Result Made Stop
told_of text cache (Some f) = Err (Flawed f)
told_of text cache None = Ok (text_made (text (head_read cache)))

abbrev pub head_made : (Head → List ℕ) → List ℕ → Result Made Stop
head_made text cache = told_of text cache (head_finding cache)

-- trial dylibs: text and data of four pages each, with 100 pointers and deltas and with 20 links
abbrev pub trial_files : ℕ → ℕ → List (List ℕ)
trial_files seed count = generated seed count (record { pages = 4; pointers = 100; links = 20 })

-- what is told of files and their cache: how many they are, how many words slide in it, how long it is, and what its bytes are together
abbrev pub trial_text : List (List ℕ) → List ℕ → List ℕ
trial_text files cache = trial_line (length files) (length (view_of cache).words) (span cache) (sum cache)

-- of trial dylibs, by the first rule that they break
abbrev pub trial_made : List (List ℕ) → Option Break → Result Made Stop
trial_made files (Some b) = Err (Refused b)
trial_made files None = Ok (text_made (trial_text files (built delta_bits files)))

abbrev pub made : Order → Contents → Result Made Stop
made (build options out names) c = build_made out c.files (set_break delta_bits c.files)
made (check name names) c = check_made (unwrap_or c.cache []) c.files (files_break c.files)
made (extract name prefix image) c = extract_made prefix image (unwrap_or c.cache [])
made (list name) c = head_made list_text (unwrap_or c.cache [])
made (info name) c = head_made info_text (unwrap_or c.cache [])
made (trial options seed count) c = trial_made (trial_files seed count) (set_break delta_bits (trial_files seed count))

-- a check of so many files whose inputs aren't all read: that the cache is too large is what it finds
abbrev pub check_halted : ℕ → Stop → Result Made Stop
check_halted images BadWords = Err BadWords
check_halted images (Unread input) = Err (Unread input)
check_halted images (Refused b) = Err (Refused b)
check_halted images (Flawed f) = Ok (verdict_made images (Broken f))
check_halted images NoImage = Err NoImage
check_halted images Memory = Err Memory

-- what an order comes to whose inputs aren't all read
abbrev pub halted : Order → Stop → Result Made Stop
halted (build options out names) stop = Err stop
halted (check name names) stop = check_halted (length names) stop
halted (extract name prefix image) stop = Err stop
halted (list name) stop = Err stop
halted (info name) stop = Err stop
halted (trial options seed count) stop = Err stop

-- what is true of it: a cache that is built, or that agrees with its files, corresponds to them; and the files that are made of the images of a cache have what these have
abbrev pub Promised : Order → Contents → Type 0
Promised (build options out names) c = CorrespondsAlways c.files (built delta_bits c.files)
Promised (check name names) c = verdict_of (unwrap_or c.cache []) c.files ≡ Agrees → CorrespondsEverywhere c.files (unwrap_or c.cache [])
Promised (extract name prefix image) c = IsExtraction (unwrap_or c.cache [])
Promised (list name) c = Unit {0}
Promised (info name) c = Unit {0}
Promised (trial options seed count) c = CorrespondsAlways (trial_files seed count) (built delta_bits (trial_files seed count))
