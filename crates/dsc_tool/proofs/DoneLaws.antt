-- What a run of told files says by its status, for the words of a command.
use Rattle.std.proofs.Common.{◌≡◌, ◌<◌, ◌⊎◌, ℕ, List, [], length, Option, Some, None, Result, Ok, Err, refl, ap, sym, ◌∙◌, subst, inl, inr}
use Rattle.std.specs.Prelude.{unwrap_or}
use Rattle.std.specs.FinMap.{get}
use Rattle.dsc_base.specs.Outside.{Files}
use Rattle.dsc_base.specs.declared.fault.Break.{Break}
use Rattle.dsc_base.specs.declared.fault.Finding.{Finding}
use Rattle.cache_build.specs.Breaks.{set_break}
use Rattle.cache_build.specs.Built.{built}
use Rattle.cache_build.specs.declared.builder.Options.{Options}
use Rattle.cache_check.specs.Agreeing.{CorrespondsEverywhere}
use Rattle.cache_check.specs.declared.verdict.Verdict.{Verdict}
use Rattle.cache_check.specs.declared.verdict.Verdict.TheVariants.{Agrees, Differs as Unlike, Broken}
use Rattle.cache_check.specs.Verdict.{verdict_of}
use Rattle.cache_check.specs.Views.{View, view_of}
use Rattle.extractor.specs.Loads.{IsExtraction}
use Rattle.load_model.specs.Phases.{files_break}
use Rattle.dsc_tool.specs.Options.{delta_bits}
use Rattle.dsc_tool.specs.declared.status.Status.{Status}
use Rattle.dsc_tool.specs.declared.status.Status.TheVariants.{Done, Refused, BadWords, ReadFault, WriteFault, Memory, Differs}
use Rattle.dsc_tool.specs.declared.status.Ending.{Ending}
use Rattle.dsc_tool.specs.declared.status.Ending.TheVariants.{Done as AllDone, Differs as NotAlike}
use Rattle.dsc_tool.specs.declared.stop.Stop.{Stop}
use Rattle.dsc_tool.specs.declared.stop.Stop.TheVariants.{Flawed}
use Rattle.dsc_tool.specs.Causes.{IsHalted, WorkCause}
use Rattle.dsc_tool.specs.Extraction.{asked_files, cache_finding}
use Rattle.dsc_tool.specs.Inputs.{CacheIsRead, Contents, InputsAreRead, ReadCause, inputs_of}
use Rattle.dsc_tool.specs.Made.{Made, Promised, build_made, cache_made, check_made, ending_of, extract_made, files_made, images_made, made, verdict_made, vetted_made}
use Rattle.dsc_tool.specs.Ran.{AreTaken, IsDone, Ends, IsBuilt, HasVerdict, IsOversized, Says}
use Rattle.dsc_tool.specs.Statuses.{status_at}
use Rattle.dsc_tool.specs.Stops.{cache_limit}
use Rattle.dsc_tool.specs.Streams.{World, put_files, with_files}
use Rattle.dsc_tool.specs.Words.{Order, build, check, extract, command_of}
use Rattle.dsc_tool.proofs.ToldLaws.{put_told, worked_told}

abbrev order_or : Order → Option Order → Order
order_or d None = d
order_or d (Some order) = order

-- the order that was worked is the one that the words spell
of_order : (words : List (List ℕ)) (files : Option Files) (old new : ℕ) (order other : Order) (m : Made) → command_of words ≡ Some other → WorkCause words files old new order m
    → WorkCause words files old new other m
of_order words files old new order other m spelled (inl (contents, is, promised)) =
    let same : order ≡ other = ap (order_or order) (sym is.read.spelled ∙ spelled) in subst (λ (o : Order). WorkCause words files old new o m) same (inl (contents, is, promised))
of_order words files old new order other m spelled (inr is) =
    let same : order ≡ other = ap (order_or order) (sym is.spelled ∙ spelled) in subst (λ (o : Order). WorkCause words files old new o m) same (inr is)

abbrev made_or : Made → Result Made Stop → Made
made_or d (Ok m) = m
made_or d (Err stop) = d

never_made : (stop : Stop) (m : Made) → Err stop ≡ Ok m → ⊥
never_made stop m is = absurd cc

-- ---- a build

build_made_is : (out : List ℕ) (bytes : List (List ℕ)) (found : Option Break) (m : Made) → build_made out bytes found ≡ Ok m → (found ≡ None) × (m ≡ cache_made out bytes)
build_made_is out bytes None m is = (refl, sym (ap (made_or m) is))
build_made_is out bytes (Some b) m is = absurd cc

build_done : (words : List (List ℕ)) (files : Files) (before after : World) (options : Options) (out : List ℕ) (names : List (List ℕ)) (contents : Contents) (m : Made)
    → before.files ≡ Some files → InputsAreRead (Some files) (inputs_of (build options out names)) contents → made (build options out names) contents ≡ Ok m
    → Promised (build options out names) contents → after.files ≡ with_files before.files m.files → IsBuilt out names files after.files
build_done words files before after options out names contents m told read is promised put =
    let parts = build_made_is out contents.files (set_break delta_bits contents.files) m is in
    record {
      bytes = contents.files;
      inputs = read.rest;
      unbroken = parts.0;
      cache = built delta_bits contents.files;
      is = refl;
      corresponds = promised;
      placed = put ∙ (ap (λ (f : Option Files). with_files f m.files) told ∙ ap (λ (n : Made). with_files (Some files) n.files) parts.1);
    }

build_worked : (words : List (List ℕ)) (files : Files) (before after : World) (options : Options) (out : List ℕ) (names : List (List ℕ)) (old new : ℕ) (m : Made)
    → before.files ≡ Some files → WorkCause words (Some files) old new (build options out names) m → after.files ≡ with_files before.files m.files → IsBuilt out names files after.files
build_worked words files before after options out names old new m told (inl (contents, is, promised)) put =
    build_done words files before after options out names contents m told is.read.inputs is.made promised put
build_worked words files before after options out names old new m told (inr is) put = absurd (never_made (Flawed is.finding) m is.made)

-- after Done the cache of the told inputs is at its name
built_told : (words : List (List ℕ)) (files : Files) (before after : World) (options : Options) (out : List ℕ) (names : List (List ℕ)) → before.files ≡ Some files
    → command_of words ≡ Some (build options out names) → IsDone words before after Done → IsBuilt out names files after.files
built_told words files before after options out names told spelled is =
    let w = is.worked in
    build_worked words files before after options out names before.get_faults after.get_faults w.made told
    (of_order words (Some files) before.get_faults after.get_faults w.order (build options out names) w.made spelled (worked_told words files before after told w)) is.all.files

pub done-built : (words : List (List ℕ)) (files : Files) (before after : World) (options : Options) (out : List ℕ) (names : List (List ℕ)) (status : Status) → before.files ≡ Some files
    → command_of words ≡ Some (build options out names) → status ≡ Done → Ends words before after status → IsBuilt out names files after.files
done-built words files before after options out names status told spelled done is =
    built_told words files before after options out names told spelled (subst (λ (s : Status). Ends words before after s) done is)

-- ---- a check

cache_there : (files : Files) (name : List ℕ) (cache : Option (List ℕ)) → CacheIsRead (Some files) (Some name) cache
    → (bytes : List ℕ) × (cache ≡ Some bytes) × CacheIsRead (Some files) (Some name) (Some bytes)
cache_there files name None never = absurd never
cache_there files name (Some bytes) read = (bytes, refl, read)

check_made_is : (cache : List ℕ) (bytes : List (List ℕ)) (found : Option Break) (m : Made) → check_made cache bytes found ≡ Ok m
    → (found ≡ None) × (m ≡ verdict_made (length bytes) (verdict_of cache bytes))
check_made_is cache bytes None m is = (refl, sym (ap (made_or m) is))
check_made_is cache bytes (Some b) m is = absurd cc

check_read : (files : Files) (name : List ℕ) (names : List (List ℕ)) (contents : Contents) (m : Made) → InputsAreRead (Some files) (inputs_of (check name names)) contents
    → made (check name names) contents ≡ Ok m → Promised (check name names) contents → (v : Verdict) × HasVerdict name names files v × (m.ending ≡ ending_of v)
check_read files name names contents m read is promised =
    let there = cache_there files name contents.cache read.cache in
    let found = check_made_is there.0 contents.files (files_break contents.files) m
    (ap (λ (c : Option (List ℕ)). check_made (unwrap_or c []) contents.files (files_break contents.files)) (sym there.1) ∙ is) in (
      verdict_of there.0 contents.files,
      record {
        cache = there.0;
        bytes = contents.files;
        there = there.2;
        inputs = read.rest;
        unbroken = found.0;
        is = refl;
        corresponds = subst (λ (c : Option (List ℕ)). verdict_of (unwrap_or c []) contents.files ≡ Agrees → CorrespondsEverywhere contents.files (unwrap_or c [])) there.1 promised;
      },
      ap (λ (n : Made). n.ending) found.1,
    )

oversized : (files : Files) (old new : ℕ) (name : List ℕ) (names : List (List ℕ)) (f : Finding) → ReadCause (Some files) old new (inputs_of (check name names)) (Flawed f) → IsOversized name files
oversized files old new name names f (inl (other, same, (large, (bytes, there, over)))) =
    (bytes, ap (λ (o : Option (List ℕ)). get files (unwrap_or o [])) same ∙ there, over)
oversized files old new name names f (inr (cache, read, never)) = absurd never

-- the verdict that was told, or that the cache is too large
check_worked : (words : List (List ℕ)) (files : Files) (name : List ℕ) (names : List (List ℕ)) (old new : ℕ) (m : Made) → WorkCause words (Some files) old new (check name names) m
    → (IsOversized name files × (m.ending ≡ NotAlike)) ⊎ ((v : Verdict) × HasVerdict name names files v × (m.ending ≡ ending_of v))
check_worked words files name names old new m (inl (contents, is, promised)) = inr (check_read files name names contents m is.read.inputs is.made promised)
check_worked words files name names old new m (inr is) =
    inl (oversized files old new name names is.finding is.cause, sym (ap (λ (n : Made). n.ending) (ap (made_or m) is.made)))

agrees_alone : (v : Verdict) → Done ≡ status_at (ending_of v) → v ≡ Agrees
agrees_alone Agrees is = refl
agrees_alone (Unlike d) is = absurd cc
agrees_alone (Broken f) is = absurd cc

never_agrees : (v : Verdict) → Differs ≡ status_at (ending_of v) → v ≡ Agrees → ⊥
never_agrees v is agrees = absurd (let never : Differs ≡ Done = is ∙ ap (λ (w : Verdict). status_at (ending_of w)) agrees in cc)

check_told : (words : List (List ℕ)) (files : Files) (before after : World) (name : List ℕ) (names : List (List ℕ)) (status : Status) → before.files ≡ Some files
    → command_of words ≡ Some (check name names) → (is : IsDone words before after status)
    → (IsOversized name files × (status ≡ Differs)) ⊎ ((v : Verdict) × HasVerdict name names files v × (status ≡ status_at (ending_of v)))
check_told words files before after name names status told spelled is =
    let w = is.worked in
    elim (check_worked words files name names before.get_faults after.get_faults w.made
    (of_order words (Some files) before.get_faults after.get_faults w.order (check name names) w.made spelled (worked_told words files before after told w))) [
      | inl over ↦ inl (over.0, is.all.ended ∙ ap status_at over.1)
      | inr found ↦ inr (found.0, found.1, is.all.ended ∙ ap status_at found.2)
    ]

says_done : (name : List ℕ) (names : List (List ℕ)) (files : Files) → (IsOversized name files × (Done ≡ Differs)) ⊎ ((v : Verdict) × HasVerdict name names files v × (Done ≡ status_at (ending_of v)))
    → HasVerdict name names files Agrees
says_done name names files (inl (over, never)) = absurd cc
says_done name names files (inr (v, has, is)) = subst (λ (w : Verdict). HasVerdict name names files w) (agrees_alone v is) has

says_differs : (name : List ℕ) (names : List (List ℕ)) (files : Files) → (IsOversized name files × (Differs ≡ Differs)) ⊎ ((v : Verdict) × HasVerdict name names files v × (Differs ≡ status_at (ending_of v)))
    → IsOversized name files ⊎ ((v : Verdict) × (v ≡ Agrees → ⊥) × HasVerdict name names files v)
says_differs name names files (inl (over, same)) = inl over
says_differs name names files (inr (v, has, is)) = inr (v, never_agrees v is, has)

pub check-says : (words : List (List ℕ)) (files : Files) (before after : World) (name : List ℕ) (names : List (List ℕ)) (status : Status) → before.files ≡ Some files
    → command_of words ≡ Some (check name names) → Ends words before after status → Says name names files status
check-says words files before after name names Done told spelled is = says_done name names files (check_told words files before after name names Done told spelled is)
check-says words files before after name names Differs told spelled is = says_differs name names files (check_told words files before after name names Differs told spelled is)
check-says words files before after name names Refused told spelled is = tt
check-says words files before after name names BadWords told spelled is = tt
check-says words files before after name names ReadFault told spelled is = tt
check-says words files before after name names WriteFault told spelled is = tt
check-says words files before after name names Memory told spelled is = tt

-- ---- an extraction

images_are : (found : Option (List (List ℕ × List ℕ))) (m : Made) → images_made found ≡ Ok m → (taken : List (List ℕ × List ℕ)) × (found ≡ Some taken) × (m ≡ files_made taken)
images_are None m is = absurd cc
images_are (Some taken) m is = (taken, refl, sym (ap (made_or m) is))

files_are : (prefix : List ℕ) (image : Option (List ℕ)) (v : View) (found : Option Finding) (m : Made) → vetted_made prefix image v found ≡ Ok m
    → (found ≡ None) × ((taken : List (List ℕ × List ℕ)) × (asked_files prefix image v ≡ Some taken) × (m ≡ files_made taken))
files_are prefix image v (Some f) m is = absurd cc
files_are prefix image v None m is = (refl, images_are (asked_files prefix image v) m is)

extract_done : (files : Files) (before after : World) (name prefix : List ℕ) (image : Option (List ℕ)) (contents : Contents) (m : Made) → before.files ≡ Some files
    → InputsAreRead (Some files) (inputs_of (extract name prefix image)) contents → made (extract name prefix image) contents ≡ Ok m → Promised (extract name prefix image) contents
    → after.files ≡ with_files before.files m.files → AreTaken name prefix image files after.files
extract_done files before after name prefix image contents m told read is promised put =
    let there = cache_there files name contents.cache read.cache in
    let taken = files_are prefix image (view_of there.0) (cache_finding there.0) m
    (ap (λ (c : Option (List ℕ)). extract_made prefix image (unwrap_or c [])) (sym there.1) ∙ is) in
    record {
      cache = there.0;
      there = there.2;
      unflawed = taken.0;
      taken = taken.1.0;
      are = taken.1.1;
      extracted = subst (λ (c : Option (List ℕ)). IsExtraction (unwrap_or c [])) there.1 promised;
      placed = put
          ∙ (ap (λ (f : Option Files). with_files f m.files) told
          ∙ (ap (λ (n : Made). with_files (Some files) n.files) taken.1.2 ∙ put_told files taken.1.0));
    }

extract_worked : (words : List (List ℕ)) (files : Files) (before after : World) (name prefix : List ℕ) (image : Option (List ℕ)) (old new : ℕ) (m : Made)
    → before.files ≡ Some files → WorkCause words (Some files) old new (extract name prefix image) m → after.files ≡ with_files before.files m.files
    → AreTaken name prefix image files after.files
extract_worked words files before after name prefix image old new m told (inl (contents, is, promised)) put =
    extract_done files before after name prefix image contents m told is.read.inputs is.made promised put
extract_worked words files before after name prefix image old new m told (inr is) put = absurd (never_made (Flawed is.finding) m is.made)

extract_told : (words : List (List ℕ)) (files : Files) (before after : World) (name prefix : List ℕ) (image : Option (List ℕ)) → before.files ≡ Some files
    → command_of words ≡ Some (extract name prefix image) → IsDone words before after Done → AreTaken name prefix image files after.files
extract_told words files before after name prefix image told spelled is =
    let w = is.worked in
    extract_worked words files before after name prefix image before.get_faults after.get_faults w.made told
    (of_order words (Some files) before.get_faults after.get_faults w.order (extract name prefix image) w.made spelled (worked_told words files before after told w)) is.all.files

-- after Done the files that are asked for of the told cache are at their names
pub done-taken : (words : List (List ℕ)) (files : Files) (before after : World) (name prefix : List ℕ) (image : Option (List ℕ)) (status : Status) → before.files ≡ Some files
    → command_of words ≡ Some (extract name prefix image) → status ≡ Done → Ends words before after status → AreTaken name prefix image files after.files
done-taken words files before after name prefix image status told spelled done is =
    extract_told words files before after name prefix image told spelled (subst (λ (s : Status). Ends words before after s) done is)
