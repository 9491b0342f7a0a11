-- What the parts of a run leave to one another.
use Rattle.std.specs.Prelude.{◌≡◌, ◌<◌, ◌≤◌, ◌⊎◌, ℕ, List, [], map, take, length, get_or, All, Option, Some, None, Result, Ok, Err}
use Rattle.dsc_base.specs.Outside.{Files, HasFile, Rose, AppendsPrefix, LeavesPrefix}
use Rattle.dsc_base.specs.declared.fault.Break.{Break}
use Rattle.dsc_base.specs.declared.fault.Finding.{Finding}
use Rattle.cache_header.specs.Findings.{head_finding}
use Rattle.cache_header.specs.Reading.{span, head_read}
use Rattle.cache_header.specs.Records.{Head}
use Rattle.cache_build.specs.Always.{CorrespondsAlways}
use Rattle.cache_build.specs.Breaks.{set_break}
use Rattle.cache_build.specs.Built.{built}
use Rattle.cache_build.specs.Sound.{IsSoundCache}
use Rattle.cache_check.specs.Agreeing.{CorrespondsEverywhere}
use Rattle.cache_check.specs.Views.{View, view_finding, view_of}
use Rattle.extractor.specs.Loads.{IsExtraction}
use Rattle.dsc_tool.specs.Options.{delta_bits}
use Rattle.dsc_base.specs.declared.outside.store.PutFault.{PutFault}
use Rattle.dsc_base.specs.declared.outside.store.PutFault.TheVariants.{Failed, Memory as PutMemory}
use Rattle.dsc_tool.specs.declared.product.Product.{Product}
use Rattle.dsc_tool.specs.declared.product.NewFile.{NewFile}
use Rattle.dsc_tool.specs.declared.status.Status.{Status}
use Rattle.dsc_tool.specs.declared.status.Status.TheVariants.{Done, Refused, BadWords, ReadFault, WriteFault, Memory, Differs}
use Rattle.dsc_tool.specs.declared.stop.Stop.{Stop}
use Rattle.dsc_tool.specs.declared.stop.Stop.TheVariants.{BadWords as NoCommand, Unread, Refused as Broken, Flawed, NoImage, Memory as NoMemory}
use Rattle.dsc_tool.specs.Causes.{WorkCause}
use Rattle.dsc_tool.specs.Inputs.{AreRead, CacheCause, FilesCause}
use Rattle.dsc_tool.specs.Made.{Made, build_made, check_made, check_halted, extract_made, verdict_made, cache_made, text_made, trial_files, trial_text}
use Rattle.dsc_tool.specs.Statuses.{status_at, status_of}
use Rattle.dsc_tool.specs.Stops.{cache_limit}
use Rattle.dsc_tool.specs.Streams.{World, appended, with_files}
use Rattle.dsc_tool.specs.Texts.{text_of, no_memory_line, cannot_write_line}
use Rattle.dsc_tool.specs.Words.{Order}
use Rattle.cache_check.specs.declared.verdict.Verdict.TheVariants.{Agrees, Broken as IsBroken}
use Rattle.cache_check.specs.Verdict.{verdict_of}
use Rattle.load_model.specs.Phases.{files_break}

-- ---- what is made

-- a product of the code
abbrev pub new_files : List NewFile → List (List ℕ × List ℕ)
new_files files = map (λ f. (f.name, f.bytes.items)) files

abbrev pub made_of : Product → Made
made_of p = record { ending = p.ending; files = new_files p.files.items; text = p.text.items }

-- the product is what the words come to, by the files
abbrev pub IsProduct : List (List ℕ) → Option Files → ℕ → ℕ → Product → Type 0
IsProduct words files old new p = (order : Order) × WorkCause words files old new order (made_of p)

-- files of these names were read, and break no rule; their cache, which corresponds to them, is made
pub record BuildWorks (files : Option Files) (out : List ℕ) (names : List (List ℕ)) (m : Made) : Type 0 where
  pub bytes : List (List ℕ)
  pub read : AreRead files names bytes
  pub unbroken : set_break delta_bits bytes ≡ None
  pub is : m ≡ cache_made out bytes
  pub corresponds : CorrespondsAlways bytes (built delta_bits bytes)

-- files of these names weren't read, or break a rule
abbrev pub BuildStop : Option Files → ℕ → ℕ → List ℕ → List (List ℕ) → Stop → Type 0
BuildStop files old new out names stop =
    FilesCause files old new 0 names stop ⊎ ((bytes : List (List ℕ)) × AreRead files names bytes × (build_made out bytes (set_break delta_bits bytes) ≡ Err stop))

-- files of these names were read, and break no rule before they are laid out; the verdict on a cache of these bytes and them is told, and where they agree the cache corresponds to them
pub record IsChecked (files : Option Files) (names : List (List ℕ)) (cache : List ℕ) (m : Made) : Type 0 where
  pub bytes : List (List ℕ)
  pub read : AreRead files names bytes
  pub unbroken : files_break bytes ≡ None
  pub is : m ≡ verdict_made (length bytes) (verdict_of cache bytes)
  pub corresponds : verdict_of cache bytes ≡ Agrees → CorrespondsEverywhere bytes cache

-- files of these names weren't read behind the cache, or break a rule
abbrev pub FilesStop : Option Files → ℕ → ℕ → List (List ℕ) → List ℕ → Stop → Type 0
FilesStop files old new names cache stop =
    FilesCause files old new 1 names stop ⊎ ((bytes : List (List ℕ)) × AreRead files names bytes × (check_made cache bytes (files_break bytes) ≡ Err stop))

-- a cache of this name was read and checked, or it is too large, which is told
abbrev pub CheckWorks : Option Files → ℕ → ℕ → List ℕ → List (List ℕ) → Made → Type 0
CheckWorks files old new name names m =
    ((cache : List ℕ) × HasFile files name cache × (length cache ≤ cache_limit) × IsChecked files names cache m)
    ⊎ ((f : Finding) × CacheCause files old new name (Flawed f) × (m ≡ verdict_made (length names) (IsBroken f)))

-- the finding that is what a check finds, where its inputs aren't all read; any other stop ends it
abbrev pub found_in : Stop → Result Finding Stop
found_in NoCommand = Err NoCommand
found_in (Unread input) = Err (Unread input)
found_in (Broken b) = Err (Broken b)
found_in (Flawed f) = Ok f
found_in NoImage = Err NoImage
found_in NoMemory = Err NoMemory

-- a cache of this name wasn't read, or it was and the files behind it weren't or break a rule
abbrev pub CheckStop : Option Files → ℕ → ℕ → List ℕ → List (List ℕ) → Stop → Type 0
CheckStop files old new name names stop =
    (CacheCause files old new name stop × (check_halted (length names) stop ≡ Err stop))
    ⊎ ((cache : List ℕ) × HasFile files name cache × (length cache ≤ cache_limit) × FilesStop files old new names cache stop)

-- a cache of this name was read, has no finding in its head, and this is what its head says
pub record HasHead (files : Option Files) (name : List ℕ) (h : Head) : Type 0 where
  pub bytes : List ℕ
  pub there : HasFile files name bytes
  pub within : length bytes ≤ cache_limit
  pub sound : head_finding bytes ≡ None
  pub is : h ≡ head_read bytes

-- and a text on it is made
abbrev pub TextWorks : (Head → List ℕ) → Option Files → List ℕ → Made → Type 0
TextWorks text files name m = (h : Head) × HasHead files name h × (m ≡ text_made (text h))

-- a cache of this name wasn't read, or this finds something in it
abbrev pub FlawStop : (List ℕ → Option Finding) → Option Files → ℕ → ℕ → List ℕ → Stop → Type 0
FlawStop finding_of files old new name stop =
    CacheCause files old new name stop
    ⊎ ((bytes : List ℕ) × HasFile files name bytes × (length bytes ≤ cache_limit) × ((f : Finding) × (stop ≡ Flawed f) × (finding_of bytes ≡ Some f)))

abbrev pub HeadStop : Option Files → ℕ → ℕ → List ℕ → Stop → Type 0
HeadStop files old new name stop = FlawStop head_finding files old new name stop

-- a cache of this name was read whole, and nothing is wrong with it but for what its images may have
pub record HasView (files : Option Files) (name : List ℕ) (v : View) : Type 0 where
  pub bytes : List ℕ
  pub there : HasFile files name bytes
  pub within : length bytes ≤ cache_limit
  pub small : All (λ (b : ℕ). b < 256) bytes
  pub sound : view_finding bytes ≡ None
  pub is : v ≡ view_of bytes

-- what is promised of the files of the images of each cache that a view is of
abbrev pub PromisesOf : View → Type 0
PromisesOf v = (cache : List ℕ) → All (λ (b : ℕ). b < 256) cache → view_finding cache ≡ None → view_of cache ≡ v → IsExtraction cache

-- a cache of this name was read, and files of its images are made, in which all is as in the cache
pub record ExtractWorks (files : Option Files) (name prefix : List ℕ) (image : Option (List ℕ)) (m : Made) : Type 0 where
  pub cache : List ℕ
  pub there : HasFile files name cache
  pub within : length cache ≤ cache_limit
  pub is : extract_made prefix image cache ≡ Ok m
  pub extracted : IsExtraction cache

-- a cache of this name wasn't read, or has a finding, or not the image that is asked for
abbrev pub ExtractStop : Option Files → ℕ → ℕ → List ℕ → List ℕ → Option (List ℕ) → Stop → Type 0
ExtractStop files old new name prefix image stop =
    CacheCause files old new name stop ⊎ ((cache : List ℕ) × HasFile files name cache × (length cache ≤ cache_limit) × (extract_made prefix image cache ≡ Err stop))

-- the cache of trial dylibs, which break no rule
pub record IsTrialCache (seed count : ℕ) (cache : List ℕ) : Type 0 where
  pub unbroken : set_break delta_bits (trial_files seed count) ≡ None
  pub is : cache ≡ built delta_bits (trial_files seed count)
  pub sound : IsSoundCache cache
  pub span_is : span cache ≡ length cache
  pub corresponds : CorrespondsAlways (trial_files seed count) cache

-- and a text on it is made
abbrev pub TrialWorks : ℕ → ℕ → Made → Type 0
TrialWorks seed count m =
    (cache : List ℕ) × IsTrialCache seed count cache × (m ≡ text_made (trial_text (trial_files seed count) cache))

-- memory was wanting, or trial dylibs break a rule
abbrev pub TrialStop : ℕ → ℕ → Stop → Type 0
TrialStop seed count stop = (stop ≡ NoMemory) ⊎ ((b : Break) × (stop ≡ Broken b) × (set_break delta_bits (trial_files seed count) ≡ Some b))

-- ---- what is told on standard error

-- the text was put and the status stands, or putting it failed
abbrev pub Tells : List ℕ → Status → Option (List ℕ) → ℕ → Option (List ℕ) → ℕ → Status → Type 0
Tells text wanted before old after new status =
    ((status ≡ wanted) × (after ≡ appended before text)) ⊎ ((status ≡ WriteFault) × Rose old new × AppendsPrefix before text after)

-- the stop was told so, or memory was wanting for its text and this was told
abbrev pub TellsStop : Stop → Option (List ℕ) → ℕ → Option (List ℕ) → ℕ → Status → Type 0
TellsStop stop before old after new status =
    Tells (text_of stop) (status_of stop) before old after new status ⊎ Tells no_memory_line Memory before old after new status

-- ---- what is put

abbrev pub file_at : List (List ℕ × List ℕ) → ℕ → List ℕ × List ℕ
file_at files k = get_or files k ([], [])

-- So many of these files were put, the next one wasn't, and of it a prefix is there or nothing is changed.
pub record PutsSome (before after : Option Files) (files : List (List ℕ × List ℕ)) : Type 0 where
  pub count : ℕ
  pub inside : count < length files
  pub left : LeavesPrefix (with_files before (take count files)) after (file_at files count).0 (file_at files count).1

-- So many of these files were put, and nothing else is changed.
pub record PutsFew (before after : Option Files) (files : List (List ℕ × List ℕ)) : Type 0 where
  pub count : ℕ
  pub inside : count < length files
  pub left : after ≡ with_files before (take count files)

-- why not all of these files were put, by the store's count of faults before and after
abbrev pub PutsShort : Option Files → Option Files → ℕ → ℕ → List (List ℕ × List ℕ) → PutFault → Type 0
PutsShort before after old new files Failed = Rose old new × PutsSome before after files
PutsShort before after old new files PutMemory = PutsFew before after files

-- ---- how a product is delivered

-- all was put, and the run ends with this status
pub record IsDelivered (m : Made) (before after : World) (status : Status) : Type 0 where
  pub ended : status ≡ status_at m.ending
  pub files : after.files ≡ with_files before.files m.files
  pub out : after.out ≡ appended before.out m.text
  pub err : after.err ≡ before.err

-- the store failed to take all of a file, and nothing was printed on standard output
pub record IsFilePart (m : Made) (before after : World) : Type 0 where
  pub fault : Rose before.put_faults after.put_faults
  pub files : PutsSome before.files after.files m.files
  pub out : after.out ≡ before.out

-- the store took all files, and standard output failed to take all of the text
pub record IsTextPart (m : Made) (before after : World) : Type 0 where
  pub fault : Rose before.out_faults after.out_faults
  pub files : after.files ≡ with_files before.files m.files
  pub out : AppendsPrefix before.out m.text after.out

-- a file or the text was not put, and this was told if it could be
pub record IsUndelivered (m : Made) (before after : World) : Type 0 where
  pub part : IsFilePart m before after ⊎ IsTextPart m before after
  pub err : Tells cannot_write_line WriteFault before.err before.err_faults after.err after.err_faults WriteFault

-- memory was wanting for the put of a file, and this was told if it could be
pub record IsUnput (m : Made) (before after : World) (status : Status) : Type 0 where
  pub files : PutsFew before.files after.files m.files
  pub out : after.out ≡ before.out
  pub err : Tells no_memory_line Memory before.err before.err_faults after.err after.err_faults status

abbrev pub Delivers : Made → World → World → Status → Type 0
Delivers m before after Done = IsDelivered m before after Done
Delivers m before after Differs = IsDelivered m before after Differs
Delivers m before after WriteFault = IsUndelivered m before after ⊎ IsUnput m before after WriteFault
Delivers m before after Memory = IsUnput m before after Memory
Delivers m before after Refused = ⊥
Delivers m before after BadWords = ⊥
Delivers m before after ReadFault = ⊥
