-- What the parts of a check leave, as what the words come to.
use Rattle.std.proofs.Common.{◌≡◌, ◌≤◌, ◌⊎◌, ℕ, List, [], length, Option, Some, None, Result, Ok, Err, refl, ap, ap₂, sym, ◌∙◌, subst, inl, inr}
use Rattle.std.specs.Prelude.{Vec}
use Rattle.std.specs.declared.alloc.Global.{Global}
use Rattle.std.proofs.lemmas.List.{length-map}
use Rattle.dsc_base.specs.Outside.{Files, HasFile}
use Rattle.dsc_base.specs.Refusals.{IsSetRefusal}
use Rattle.dsc_base.specs.declared.fault.Break.{Break}
use Rattle.dsc_base.specs.declared.fault.Finding.{Finding}
use Rattle.dsc_base.specs.declared.fault.SetFault.{SetFault}
use Rattle.dsc_base.specs.declared.fault.SetFault.TheVariants.{Broken as BrokenSet, Memory as SetMemory}
use Rattle.cache_check.specs.Agreeing.{CorrespondsEverywhere}
use Rattle.cache_check.specs.declared.verdict.Verdict.{Verdict}
use Rattle.cache_check.specs.declared.verdict.Verdict.TheVariants.{Agrees, Broken}
use Rattle.cache_check.specs.Verdict.{verdict_of}
use Rattle.load_model.specs.Phases.{contents, files_break}
use Rattle.dsc_tool.specs.declared.status.Ending.TheVariants.{Differs}
use Rattle.dsc_tool.specs.declared.stop.Stop.{Stop}
use Rattle.dsc_tool.specs.declared.stop.Stop.TheVariants.{BadWords, Unread, Refused, Flawed, NoImage, Memory}
use Rattle.dsc_tool.specs.Causes.{IsRead, WorkCause, IsDue}
use Rattle.dsc_tool.specs.Inputs.{AreRead, CacheCause, Contents, FilesCause, IsReadingStop}
use Rattle.dsc_tool.specs.Made.{Made, check_halted, check_made, ending_of, verdict_made}
use Rattle.dsc_tool.specs.Steps.{CheckStop, CheckWorks, FilesStop, IsChecked, found_in}
use Rattle.dsc_tool.specs.Stops.{cache_limit, set_stop}
use Rattle.dsc_tool.specs.VerdictTexts.{broken_line, verdict_line}
use Rattle.dsc_tool.specs.Words.{Order, check, command_of}
use Rattle.dsc_tool.proofs.InputLaws.{cause_since}

-- ---- the files behind the cache

-- a verdict that is told of files that were read, to which a cache that agrees corresponds
pub verdict_told : (files : Option Files) (names : List (List ℕ)) (cache : List ℕ) (inputs : List (Vec ℕ Global)) (images : ℕ) (v : Verdict) (line : List ℕ) (m : Made)
    → AreRead files names (contents inputs) → files_break (contents inputs) ≡ None → v ≡ verdict_of cache (contents inputs) → images ≡ length inputs → line ≡ verdict_line images v
    → m ≡ record { ending = ending_of v; files = []; text = line } → (v ≡ Agrees → CorrespondsEverywhere (contents inputs) cache) → IsChecked files names cache m
verdict_told files names cache inputs images v line m read unbroken is count told made agrees =
    let many : images ≡ length (contents inputs) = count ∙ sym (length-map inputs (λ (f : Vec ℕ Global). f.items)) in
    record {
      bytes = contents inputs;
      read = read;
      unbroken = unbroken;
      is = made ∙ (ap (λ (t : List ℕ). record { ending = ending_of v; files = []; text = t }) told ∙ ap₂ (λ (n : ℕ) (w : Verdict). verdict_made n w) many is);
      corresponds = λ same. agrees (is ∙ same);
    }

-- files that break a rule stop it
pub refused_files : (files : Option Files) (old new : ℕ) (names : List (List ℕ)) (cache : List ℕ) (bytes : List (List ℕ)) (fault : SetFault) → AreRead files names bytes
    → IsSetRefusal (files_break bytes) fault → FilesStop files old new names cache (set_stop fault)
refused_files files old new names cache bytes (BrokenSet b) read found = inr (bytes, read, ap (check_made cache bytes) found)
refused_files files old new names cache bytes SetMemory read found = inl tt

-- why not all files are read, since any earlier moment
reading_since : (files : Option Files) (old since new first : ℕ) (names : List (List ℕ)) (stop : Stop) → old ≤ since → IsReadingStop files since new first names stop
    → IsReadingStop files old new first names stop
reading_since files old since new first names stop le is = record {
  file = is.file;
  inside = is.inside;
  earlier = is.earlier;
  read = is.read;
  cause = cause_since files old since new first _ is.file _ stop le is.cause;
}

files_since : (files : Option Files) (old since new first : ℕ) (names : List (List ℕ)) (stop : Stop) → old ≤ since → FilesCause files since new first names stop → FilesCause files old new first names stop
files_since files old since new first names BadWords le never = never
files_since files old since new first names (Unread input) le is = reading_since files old since new first names (Unread input) le is
files_since files old since new first names (Refused b) le is = reading_since files old since new first names (Refused b) le is
files_since files old since new first names (Flawed f) le never = never
files_since files old since new first names NoImage le never = never
files_since files old since new first names Memory le any = tt

-- ---- the cache, and then the files

pub checked_behind : (files since : Option Files) (old new : ℕ) (name : List ℕ) (names : List (List ℕ)) (bytes cache : List ℕ) (m : Made) → since ≡ files → bytes ≡ cache → HasFile files name bytes
    → length bytes ≤ cache_limit → IsChecked since names cache m → CheckWorks files old new name names m
checked_behind files since old new name names bytes cache m same is there within checked =
    inl (bytes, there, within, subst (λ (f : Option Files). IsChecked f names bytes m) same (subst (λ (c : List ℕ). IsChecked since names c m) (sym is) checked))

stop_since : (files : Option Files) (old since new : ℕ) (names : List (List ℕ)) (cache : List ℕ) (stop : Stop) → old ≤ since → FilesStop files since new names cache stop → FilesStop files old new names cache stop
stop_since files old since new names cache stop le (inl cause) = inl (files_since files old since new 1 names stop le cause)
stop_since files old since new names cache stop le (inr broken) = inr broken

pub stopped_behind : (files told : Option Files) (old since new : ℕ) (name : List ℕ) (names : List (List ℕ)) (bytes cache : List ℕ) (stop : Stop) → told ≡ files → bytes ≡ cache → HasFile files name bytes
    → length bytes ≤ cache_limit → old ≤ since → FilesStop told since new names cache stop → CheckStop files old new name names stop
stopped_behind files told old since new name names bytes cache stop same is there within le stops =
    inr (
      bytes,
      there,
      within,
      stop_since files old since new names bytes stop le
          (subst (λ (f : Option Files). FilesStop f since new names bytes stop) same (subst (λ (c : List ℕ). FilesStop told since new names c stop) (sym is) stops)),
    )

-- ---- a cache that isn't read

abbrev finding_or : Finding → Result Finding Stop → Finding
finding_or d (Ok f) = f
finding_or d (Err stop) = d

-- that it is too large is told
pub halt_told : (stop : Stop) (f : Finding) (line : List ℕ) (m : Made) → Ok f ≡ found_in stop → line ≡ broken_line f → m ≡ record { ending = Differs; files = []; text = line }
    → (images : ℕ) → check_halted images stop ≡ Ok m
halt_told BadWords f line m found told made images = absurd cc
halt_told (Unread input) f line m found told made images = absurd cc
halt_told (Refused b) f line m found told made images = absurd cc
halt_told (Flawed g) f line m found told made images =
    let same : g ≡ f = sym (ap (finding_or f) found) in
    ap (λ (h : Finding). Ok (verdict_made images (Broken h))) same
    ∙ (ap (λ (t : List ℕ). Ok record { ending = Differs; files = []; text = t }) (sym told) ∙ ap (λ (n : Made). Ok n) (sym made))
halt_told NoImage f line m found told made images = absurd cc
halt_told Memory f line m found told made images = absurd cc

abbrev stop_or : {X : Type 0} → Stop → Result X Stop → Stop
stop_or d (Ok x) = d
stop_or d (Err stop) = stop

-- any other stop stays
pub halt_stays : (stop s : Stop) → Err s ≡ found_in stop → (images : ℕ) → (s ≡ stop) × (check_halted images stop ≡ Err stop)
halt_stays BadWords s is images = (ap (stop_or s) is, refl)
halt_stays (Unread input) s is images = (ap (stop_or s) is, refl)
halt_stays (Refused b) s is images = (ap (stop_or s) is, refl)
halt_stays (Flawed f) s is images = absurd cc
halt_stays NoImage s is images = (ap (stop_or s) is, refl)
halt_stays Memory s is images = (ap (stop_or s) is, refl)

abbrev made_or : Made → Result Made Stop → Made
made_or d (Ok m) = m
made_or d (Err stop) = d

-- what comes of it is what a check comes to
pub halted_works : (files : Option Files) (old new : ℕ) (name : List ℕ) (names : List (List ℕ)) (stop : Stop) (m : Made) → CacheCause files old new name stop
    → ((images : ℕ) → check_halted images stop ≡ Ok m) → CheckWorks files old new name names m
halted_works files old new name names BadWords m never is = absurd never
halted_works files old new name names (Unread input) m cause is = absurd (let none = is 0 in cc)
halted_works files old new name names (Refused b) m never is = absurd never
halted_works files old new name names (Flawed f) m cause is = inr (f, cause, sym (ap (made_or m) (is (length names))))
halted_works files old new name names NoImage m never is = absurd never
halted_works files old new name names Memory m cause is = absurd (let none = is 0 in cc)

pub halted_stops : (files : Option Files) (old new : ℕ) (name : List ℕ) (names : List (List ℕ)) (stop s : Stop) → CacheCause files old new name stop
    → (s ≡ Memory) ⊎ ((images : ℕ) → (s ≡ stop) × (check_halted images stop ≡ Err stop)) → CheckStop files old new name names s
halted_stops files old new name names stop s cause (inl memory) = subst (λ (t : Stop). CheckStop files old new name names t) (sym memory) (inl (tt, refl))
halted_stops files old new name names stop s cause (inr stays) =
    let both = stays (length names) in subst (λ (t : Stop). CheckStop files old new name names t) (sym both.0) (inl (cause, both.1))

-- ---- the whole

abbrev check_contents : List ℕ → List (List ℕ) → Contents
check_contents cache bytes = record { cache = Some cache; files = bytes }

check_inputs : (words : List (List ℕ)) (files : Option Files) (name : List ℕ) (names : List (List ℕ)) (cache : List ℕ) (bytes : List (List ℕ)) → command_of words ≡ Some (check name names)
    → HasFile files name cache → length cache ≤ cache_limit → AreRead files names bytes → IsRead words files (check name names) (check_contents cache bytes)
check_inputs words files name names cache bytes spelled there within read = record { spelled = spelled; inputs = record { cache = (there, within); rest = read } }

pub check_product : (words : List (List ℕ)) (files : Option Files) (old new : ℕ) (name : List ℕ) (names : List (List ℕ)) (m : Made) → command_of words ≡ Some (check name names)
    → CheckWorks files old new name names m → (order : Order) × WorkCause words files old new order m
check_product words files old new name names m spelled (inl (cache, there, within, checked)) = (
  check name names,
  inl (
    check_contents cache checked.bytes,
    record {
      read = check_inputs words files name names cache checked.bytes spelled there within checked.read;
      made = ap (check_made cache checked.bytes) checked.unbroken ∙ ap (λ (n : Made). Ok n) (sym checked.is);
    },
    checked.corresponds,
  ),
)
check_product words files old new name names m spelled (inr (f, cause, is)) =
    (check name names, inr (record { finding = f; spelled = spelled; cause = inl (name, refl, cause); made = ap (λ (n : Made). Ok n) (sym is) }))

-- files are refused by a rule alone
by_rule : (cache : List ℕ) (bytes : List (List ℕ)) (found : Option Break) (stop : Stop) → check_made cache bytes found ≡ Err stop → (b : Break) × (stop ≡ Refused b)
by_rule cache bytes None stop is = absurd cc
by_rule cache bytes (Some b) stop is = (b, sym (ap (stop_or stop) is))

pub check_due : (words : List (List ℕ)) (files : Option Files) (old new : ℕ) (name : List ℕ) (names : List (List ℕ)) (stop : Stop) → command_of words ≡ Some (check name names)
    → CheckStop files old new name names stop → IsDue words files old new stop
check_due words files old new name names BadWords spelled (inl (never, stays)) = absurd never
check_due words files old new name names BadWords spelled (inr (cache, there, within, inl never)) = absurd never
check_due words files old new name names BadWords spelled (inr (cache, there, within, inr (bytes, read, is))) =
    absurd (let rule = (by_rule cache bytes (files_break bytes) BadWords is).1 in cc)
check_due words files old new name names (Unread input) spelled (inl (cause, stays)) = (check name names, spelled, inl (name, refl, cause))
check_due words files old new name names (Unread input) spelled (inr (cache, there, within, inl cause)) = (check name names, spelled, inr (Some cache, (there, within), cause))
check_due words files old new name names (Unread input) spelled (inr (cache, there, within, inr (bytes, read, is))) =
    absurd (let rule = (by_rule cache bytes (files_break bytes) (Unread input) is).1 in cc)
check_due words files old new name names (Refused b) spelled (inl (never, stays)) = absurd never
check_due words files old new name names (Refused b) spelled (inr (cache, there, within, inl cause)) = (check name names, spelled, inl (inr (Some cache, (there, within), cause), refl))
check_due words files old new name names (Refused b) spelled (inr (cache, there, within, inr (bytes, read, is))) =
    (check name names, spelled, inr (check_contents cache bytes, check_inputs words files name names cache bytes spelled there within read, is))
check_due words files old new name names (Flawed f) spelled (inl (cause, stays)) = absurd cc
check_due words files old new name names (Flawed f) spelled (inr (cache, there, within, inl never)) = absurd never
check_due words files old new name names (Flawed f) spelled (inr (cache, there, within, inr (bytes, read, is))) =
    absurd (let rule = (by_rule cache bytes (files_break bytes) (Flawed f) is).1 in cc)
check_due words files old new name names NoImage spelled (inl (never, stays)) = absurd never
check_due words files old new name names NoImage spelled (inr (cache, there, within, inl never)) = absurd never
check_due words files old new name names NoImage spelled (inr (cache, there, within, inr (bytes, read, is))) =
    absurd (let rule = (by_rule cache bytes (files_break bytes) NoImage is).1 in cc)
check_due words files old new name names Memory spelled cause = tt
