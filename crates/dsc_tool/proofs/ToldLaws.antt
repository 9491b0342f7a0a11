-- How a run over told files stands to its output.
use Rattle.std.proofs.Common.{◌≡◌, ◌⊎◌, ℕ, List, [], ◌∷◌, Option, Some, None, Result, Ok, Err, refl, ap, sym, ◌∙◌, subst, inl, inr}
use Rattle.std.specs.FinMap.{insert}
use Rattle.dsc_base.specs.Outside.{Files, AppendsPrefix}
use Rattle.dsc_tool.specs.declared.status.Status.{Status}
use Rattle.dsc_tool.specs.declared.status.Status.TheVariants.{Done, Refused, BadWords, ReadFault, WriteFault, Memory, Differs}
use Rattle.dsc_tool.specs.declared.status.Ending.{Ending}
use Rattle.dsc_tool.specs.declared.status.Ending.TheVariants.{Done as AllDone, Differs as NotAlike}
use Rattle.dsc_tool.specs.declared.stop.Stop.{Stop}
use Rattle.dsc_tool.specs.declared.stop.Stop.TheVariants.{BadWords as NoCommand, Unread, Refused as Broken, Flawed, NoImage, Memory as NoMemory}
use Rattle.dsc_tool.specs.Causes.{WorkCause, IsDue}
use Rattle.dsc_tool.specs.Inputs.{inputs_of}
use Rattle.dsc_tool.specs.Made.{Made}
use Rattle.dsc_tool.specs.Output.{Outcome, command_end, outcome_of, output}
use Rattle.dsc_tool.specs.Ran.{IsWorked, IsDone, IsStopped, IsCutShort, IsLeftOff, Ends, IsOutcome, IsSettled, IsFaultText, IsByOutput, Ran}
use Rattle.dsc_tool.specs.Statuses.{status_at, status_of}
use Rattle.dsc_tool.specs.Streams.{World, AnyRose, appended, put_files, with_files}
use Rattle.dsc_tool.specs.Texts.{text_of, cannot_write_line, no_memory_line}
use Rattle.dsc_tool.specs.Words.{command_of}
use Rattle.dsc_tool.proofs.OutputLaws.{output-made, output-worked, output-bad_words, output-refused, output-flawed, output-no_image, output-refusal, output-unread}
use Rattle.dsc_tool.proofs.PrefixLaws.{appended-none, prefix-none, prefix-whole}
use Rattle.dsc_tool.proofs.ReadingLaws.{unread_inside}

-- the cause of a stop, over told files
due_told : (words : List (List ℕ)) (files : Files) (before after : World) (stop : Stop) → before.files ≡ Some files
    → IsDue words before.files before.get_faults after.get_faults stop → IsDue words (Some files) before.get_faults after.get_faults stop
due_told words files before after stop told due =
    subst (λ (f : Option Files). IsDue words f before.get_faults after.get_faults stop) told due

-- and what came of the words
pub worked_told : (words : List (List ℕ)) (files : Files) (before after : World) → before.files ≡ Some files → (is : IsWorked words before after)
    → WorkCause words (Some files) before.get_faults after.get_faults is.order is.made
worked_told words files before after told is = subst (λ (f : Option Files). WorkCause words f before.get_faults after.get_faults is.order is.made) told is.cause

worked_ends : (words : List (List ℕ)) (files : Files) (before after : World) → before.files ≡ Some files → (is : IsWorked words before after)
    → output words files ≡ outcome_of files (Ok is.made)
worked_ends words files before after told is = output-worked words files before.get_faults after.get_faults is.order is.made (worked_told words files before after told is)

pub put_told : (files : Files) (fs : List (List ℕ × List ℕ)) → with_files (Some files) fs ≡ Some (put_files files fs)
put_told files [] = refl
put_told files (f ∷ fs) = put_told (insert files f.0 f.1) fs

-- a run that ended as its output
exact : (words : List (List ℕ)) (files : Files) (before after : World) (status : Status) → IsOutcome (output words files) before after status
    → IsByOutput words files before after status
exact words files before after status o =
    record {
      settled = λ _. o;
      quiet = λ _. inr o;
      complete = λ order contents m is _. inr (subst (λ (e : Outcome). IsOutcome e before after status) (output-made words files order contents m is) o);
      refuses = λ order stop spelled refused cause _.
          inr (subst (λ (e : Outcome). IsOutcome e before after status) (output-refusal words files before.get_faults after.get_faults order stop spelled refused cause) o);
      printed = prefix-whole before.out after.out (output words files).out o.out;
      printed_all = λ _. o.out;
      told = ((output words files).err, inl refl, prefix-whole before.err after.err (output words files).err o.err);
    }

-- where all is put the status is settled
ending_settled : (e : Ending) → IsSettled (status_at e)
ending_settled AllDone = tt
ending_settled NotAlike = tt

unended : (m : Made) (status : Status) → (IsSettled status → ⊥) → status ≡ status_at m.ending → ⊥
unended m status never is = never (subst IsSettled (sym is) (ending_settled m.ending))

-- so the output prints nothing on standard output where its status isn't
silent_end : (files : Files) (end : Result Made Stop) (status : Status) → status ≡ (outcome_of files end).status → (IsSettled status → ⊥) → (outcome_of files end).out ≡ []
silent_end files (Ok m) status is never = absurd (unended m status never is)
silent_end files (Err stop) status is never = refl

silent : (words : List (List ℕ)) (files : Files) (status : Status) → status ≡ (output words files).status → (IsSettled status → ⊥) → (output words files).out ≡ []
unfolding output
silent words files status is never = silent_end files (command_end files (command_of words)) status is never

printed_none : (words : List (List ℕ)) (files : Files) (before after : World) (status : Status) → (IsSettled status → ⊥) → after.out ≡ before.out
    → status ≡ (output words files).status → after.out ≡ appended before.out (output words files).out
printed_none words files before after status never same is =
    appended-none before.out after.out same ∙ ap (λ (l : List ℕ). appended before.out l) (sym (silent words files status is never))

-- the text of a stop is the output's, or that of a fault
stop_text : (words : List (List ℕ)) (files : Files) (old new : ℕ) (stop : Stop) → IsDue words (Some files) old new stop
    → (text_of stop ≡ (output words files).err) ⊎ IsFaultText words (text_of stop)
stop_text words files old new NoCommand due = inl (sym (ap (λ (o : Outcome). o.err) (output-bad_words words files due)))
stop_text words files old new (Unread input) (order, spelled, reading) =
    inr (inl (order, input, spelled, unread_inside (Some files) old new (inputs_of order) input reading, refl))
stop_text words files old new (Broken b) due = inl (sym (ap (λ (o : Outcome). o.err) (output-refused words files old new b due)))
stop_text words files old new (Flawed f) due = inl (sym (ap (λ (o : Outcome). o.err) (output-flawed words files old new f due)))
stop_text words files old new NoImage due = inl (sym (ap (λ (o : Outcome). o.err) (output-no_image words files old new due)))
stop_text words files old new NoMemory due = inr (inr (inr refl))

-- where memory was wanting, or something failed, nothing more is asked of the run
excused : (P : Type 0) (before after : World) (status : Status) → (status ≡ Memory) ⊎ AnyRose before after → (AnyRose before after → ⊥) → (status ≡ Memory) ⊎ P
excused P before after status (inl memory) still = inl memory
excused P before after status (inr rose) still = absurd (still rose)

abbrev IsTold : List (List ℕ) → Files → World → World → Type 0
IsTold words files before after = (text : List ℕ) × ((text ≡ (output words files).err) ⊎ IsFaultText words text) × AppendsPrefix before.err text after.err

-- a run that stopped with a status that isn't settled
unsettled : (words : List (List ℕ)) (files : Files) (before after : World) (status : Status) → (IsSettled status → ⊥) → (status ≡ Memory) ⊎ AnyRose before after → after.out ≡ before.out → IsTold words files before after → IsByOutput words files before after status
unsettled words files before after status never why same told =
    record {
      settled = λ is. absurd (never is);
      quiet = λ still. excused _ before after status why still;
      complete = λ _ _ _ _ still. excused _ before after status why still;
      refuses = λ _ _ _ _ _ still. excused _ before after status why still;
      printed = prefix-none before.out after.out (output words files).out same;
      printed_all = printed_none words files before after status never same;
      told = told;
    }

stopped_told : (words : List (List ℕ)) (files : Files) (before after : World) (stop : Stop) → before.files ≡ Some files → IsStopped words before after stop
    → output words files ≡ outcome_of files (Err stop) → IsOutcome (output words files) before after (status_of stop)
stopped_told words files before after stop told is ended =
    subst (λ (o : Outcome). IsOutcome o before after (status_of stop)) (sym ended)
    (record { status_is = refl; files = is.files ∙ told; out = appended-none before.out after.out is.out; err = is.err })

done_told : (words : List (List ℕ)) (files : Files) (before after : World) (status : Status) → before.files ≡ Some files → IsDone words before after status
    → IsOutcome (output words files) before after status
done_told words files before after status told is =
    let m = is.worked.made in
    subst (λ (o : Outcome). IsOutcome o before after status)
    (sym (worked_ends words files before after told is.worked))
    (record {
      status_is = is.all.ended;
      files = is.all.files ∙ (ap (λ (f : Option Files). with_files f m.files) told ∙ put_told files m.files);
      out = is.all.out;
      err = appended-none before.err after.err is.all.err;
    })

-- what a stop tells of, whole
stop_told : (words : List (List ℕ)) (files : Files) (before after : World) (stop : Stop) → before.files ≡ Some files → IsStopped words before after stop → IsTold words files before after
stop_told words files before after stop told is = (
  text_of stop,
  stop_text words files before.get_faults after.get_faults stop (due_told words files before after stop told is.cause),
  prefix-whole before.err after.err (text_of stop) is.err,
)

cut_told : (words : List (List ℕ)) (files : Files) (before after : World) → before.files ≡ Some files → IsCutShort words before after
    → IsByOutput words files before after WriteFault
cut_told words files before after told cut =
    let m = cut.worked.made in
    let done = worked_ends words files before after told cut.worked in
    let rose : (WriteFault ≡ Memory) ⊎ AnyRose before after = elim cut.some.part [ inl file ↦ inr (inl (inr file.fault)) | inr text ↦ inr (inr (inl text.fault)) ] in
    record {
      settled = λ never. absurd never;
      quiet = λ still. excused _ before after WriteFault rose still;
      complete = λ _ _ _ _ still. excused _ before after WriteFault rose still;
      refuses = λ _ _ _ _ _ still. excused _ before after WriteFault rose still;
      printed = subst (λ (o : Outcome). AppendsPrefix before.out o.out after.out) (sym done)
          (elim cut.some.part [ inl file ↦ prefix-none before.out after.out _ file.out | inr text ↦ text.out ]);
      printed_all = λ is. absurd (unended m WriteFault (λ never. never) (is ∙ ap (λ (o : Outcome). o.status) done));
      told = (cannot_write_line, inr (inr (inl refl)), elim cut.some.err [ inl all ↦ prefix-whole before.err after.err cannot_write_line all.1 | inr part ↦ part.2 ]);
    }

memory_told : (words : List (List ℕ)) (files : Files) (before after : World) (status : Status) → IsLeftOff words before after status → IsTold words files before after
memory_told words files before after status left =
    (no_memory_line, inr (inr (inr refl)), elim left.few.err [ inl all ↦ prefix-whole before.err after.err no_memory_line all.1 | inr part ↦ part.2 ])

left_rose : (words : List (List ℕ)) (before after : World) → IsLeftOff words before after WriteFault → AnyRose before after
left_rose words before after left = elim left.few.err [
  | inl told ↦ absurd (let never : WriteFault ≡ Memory = told.0 in cc)
  | inr failed ↦ inr (inr failed.1)
]

read_told : (words : List (List ℕ)) (files : Files) (before after : World) (input : ℕ) → before.files ≡ Some files → IsStopped words before after (Unread input)
    → IsByOutput words files before after ReadFault
read_told words files before after input told is =
    elim (output-unread words files before.get_faults after.get_faults input (due_told words files before after (Unread input) told is.cause)) [
      | inl rose ↦ unsettled words files before after ReadFault (λ never. never) (inr (inl (inl rose))) is.out (stop_told words files before after (Unread input) told is)
      | inr ended ↦ exact words files before after ReadFault (stopped_told words files before after (Unread input) told is ended)
    ]

pub by_output : (words : List (List ℕ)) (files : Files) (before after : World) (status : Status) → before.files ≡ Some files → Ends words before after status
    → IsByOutput words files before after status
by_output words files before after Done told is = exact words files before after Done (done_told words files before after Done told is)
by_output words files before after Differs told is = exact words files before after Differs (done_told words files before after Differs told is)
by_output words files before after Refused told (inl (inl (b, is))) =
    exact words files before after Refused
    (stopped_told words files before after (Broken b) told is
    (output-refused words files before.get_faults after.get_faults b (due_told words files before after (Broken b) told is.cause)))
by_output words files before after Refused told (inl (inr (f, is))) =
    exact words files before after Refused
    (stopped_told words files before after (Flawed f) told is
    (output-flawed words files before.get_faults after.get_faults f (due_told words files before after (Flawed f) told is.cause)))
by_output words files before after Refused told (inr is) =
    exact words files before after Refused
    (stopped_told words files before after NoImage told is
    (output-no_image words files before.get_faults after.get_faults (due_told words files before after NoImage told is.cause)))
by_output words files before after BadWords told is =
    exact words files before after BadWords (stopped_told words files before after NoCommand told is (output-bad_words words files is.cause))
by_output words files before after ReadFault told (input, is) = read_told words files before after input told is
by_output words files before after WriteFault told (inl (inl un)) =
    unsettled words files before after WriteFault (λ never. never) (inr (inr (inr un.fault))) un.out
    (text_of un.stop, stop_text words files before.get_faults after.get_faults un.stop (due_told words files before after un.stop told un.cause), un.err)
by_output words files before after WriteFault told (inl (inr cut)) = cut_told words files before after told cut
by_output words files before after WriteFault told (inr left) =
    unsettled words files before after WriteFault (λ never. never) (inr (left_rose words before after left)) left.few.out
    (memory_told words files before after WriteFault left)
by_output words files before after Memory told (inl is) =
    unsettled words files before after Memory (λ never. never) (inl refl) is.out (stop_told words files before after NoMemory told is)
by_output words files before after Memory told (inr left) =
    unsettled words files before after Memory (λ never. never) (inl refl) left.few.out (memory_told words files before after Memory left)

pub ran : (words : List (List ℕ)) (before after : World) (status : Status) → Ends words before after status → Ran words before after status
ran words before after status is = record { ends = is; by_output = λ files told. by_output words files before after status told is }
