-- How a run ends, by what its parts left.
use Rattle.std.proofs.Common.{◌≡◌, ◌⊎◌, ℕ, List, Option, sym, ap, subst, inl, inr}
use Rattle.dsc_base.specs.Outside.{Files}
use Rattle.dsc_tool.specs.declared.product.Product.{Product}
use Rattle.dsc_tool.specs.declared.status.Status.{Status}
use Rattle.dsc_tool.specs.declared.status.Status.TheVariants.{Done, Refused, BadWords, ReadFault, WriteFault, Memory, Differs}
use Rattle.dsc_tool.specs.declared.status.Ending.{Ending}
use Rattle.dsc_tool.specs.declared.status.Ending.TheVariants.{Done as AllDone, Differs as NotAlike}
use Rattle.dsc_tool.specs.declared.stop.Stop.{Stop}
use Rattle.dsc_tool.specs.declared.stop.Stop.TheVariants.{BadWords as NoCommand, Unread, Refused as Broken, Flawed, NoImage, Memory as NoMemory}
use Rattle.dsc_tool.specs.Causes.{IsDue}
use Rattle.dsc_tool.specs.Made.{Made}
use Rattle.dsc_tool.specs.Ran.{IsWorked, IsStopped, Ends}
use Rattle.dsc_tool.specs.Statuses.{status_at, status_of}
use Rattle.dsc_tool.specs.Steps.{IsProduct, made_of, Tells, TellsStop, IsDelivered, IsFilePart, IsTextPart, IsUndelivered, IsUnput, Delivers}
use Rattle.dsc_tool.specs.Streams.{World, appended, with_files}
use Rattle.dsc_tool.specs.Texts.{text_of}

abbrev worked : (words : List (List ℕ)) (before after : World) (p : Product) → IsProduct words before.files before.get_faults after.get_faults p → IsWorked words before after
worked words before after p (order, cause) = record { order = order; made = made_of p; cause = cause }

-- ---- the count of failed gets has no part in what is delivered

delivered_since : (before after : World) (gets : ℕ) (m : Made) (status : Status) → IsDelivered m (record before { get_faults = gets }) after status → IsDelivered m before after status
delivered_since before after gets m status all = record { ended = all.ended; files = all.files; out = all.out; err = all.err }

part_since : (before after : World) (gets : ℕ) (m : Made) → IsFilePart m (record before { get_faults = gets }) after ⊎ IsTextPart m (record before { get_faults = gets }) after
    → IsFilePart m before after ⊎ IsTextPart m before after
part_since before after gets m (inl part) = inl (record { fault = part.fault; files = part.files; out = part.out })
part_since before after gets m (inr part) = inr (record { fault = part.fault; files = part.files; out = part.out })

undelivered_since : (before after : World) (gets : ℕ) (m : Made) → IsUndelivered m (record before { get_faults = gets }) after → IsUndelivered m before after
undelivered_since before after gets m some = record { part = part_since before after gets m some.part; err = some.err }

unput_since : (before after : World) (gets : ℕ) (m : Made) (status : Status) → IsUnput m (record before { get_faults = gets }) after status → IsUnput m before after status
unput_since before after gets m status few = record { files = few.files; out = few.out; err = few.err }

-- ---- what is delivered

pub all-delivered : (m : Made) (before after : World) (ending : Ending) (status : Status) → ending ≡ m.ending → status ≡ status_at ending → after.files ≡ with_files before.files m.files
    → after.out ≡ appended before.out m.text → after.err ≡ before.err → Delivers m before after status
all-delivered m before after AllDone status same is files out err =
    subst (λ (s : Status). Delivers m before after s) (sym is) (record { ended = ap status_at same; files = files; out = out; err = err })
all-delivered m before after NotAlike status same is files out err =
    subst (λ (s : Status). Delivers m before after s) (sym is) (record { ended = ap status_at same; files = files; out = out; err = err })

delivered : (words : List (List ℕ)) (before after : World) (gets : ℕ) (p : Product) (status : Status)
    → IsProduct words before.files before.get_faults after.get_faults p → Delivers (made_of p) (record before { get_faults = gets }) after status → Ends words before after status
delivered words before after gets p Done is all = record { worked = worked words before after p is; all = delivered_since before after gets (made_of p) Done all }
delivered words before after gets p Differs is all = record { worked = worked words before after p is; all = delivered_since before after gets (made_of p) Differs all }
delivered words before after gets p WriteFault is (inl some) = inl (inr (record { worked = worked words before after p is; some = undelivered_since before after gets (made_of p) some }))
delivered words before after gets p WriteFault is (inr few) = inr (record { worked = worked words before after p is; few = unput_since before after gets (made_of p) WriteFault few })
delivered words before after gets p Memory is few = inr (record { worked = worked words before after p is; few = unput_since before after gets (made_of p) Memory few })
delivered words before after gets p Refused is never = absurd never
delivered words before after gets p BadWords is never = absurd never
delivered words before after gets p ReadFault is never = absurd never

-- where the store is as before the inputs were read, but for its count of failed gets
pub ends-delivered : (words : List (List ℕ)) (before after : World) (files : Option Files) (gets puts : ℕ) (p : Product) (status : Status) → files ≡ before.files
    → puts ≡ before.put_faults → after.get_faults ≡ gets → IsProduct words before.files before.get_faults gets p → Delivers (made_of p) (record before { files = files; get_faults = gets; put_faults = puts }) after status
    → Ends words before after status
ends-delivered words before after files gets puts p status same kept count is went =
    delivered words before after gets p status (subst (λ (n : ℕ). IsProduct words before.files before.get_faults n p) (sym count) is)
    (subst (λ (f : Option Files). Delivers (made_of p) (record before { files = f; get_faults = gets }) after status) same
    (subst (λ (n : ℕ). Delivers (made_of p) (record before { files = files; get_faults = gets; put_faults = n }) after status) kept went))

-- ---- what is stopped

-- a stop that was told of has its own status
stopped : (words : List (List ℕ)) (before after : World) (stop : Stop) → IsStopped words before after stop → Ends words before after (status_of stop)
stopped words before after NoCommand is = is
stopped words before after (Unread input) is = (input, is)
stopped words before after (Broken b) is = inl (inl (b, is))
stopped words before after (Flawed f) is = inl (inr (f, is))
stopped words before after NoImage is = inr is
stopped words before after NoMemory is = inl is

ends_told : (words : List (List ℕ)) (before after : World) (stop : Stop) (status : Status) → IsDue words before.files before.get_faults after.get_faults stop
    → after.files ≡ before.files → after.out ≡ before.out → Tells (text_of stop) (status_of stop) before.err before.err_faults after.err after.err_faults status
    → Ends words before after status
ends_told words before after stop status due files out (inl told) =
    subst (λ (s : Status). Ends words before after s) (sym told.0)
    (stopped words before after stop (record { cause = due; files = files; out = out; err = told.1 }))
ends_told words before after stop status due files out (inr failed) =
    subst (λ (s : Status). Ends words before after s) (sym failed.0)
    (inl (inl (record { stop = stop; cause = due; fault = failed.1; files = files; out = out; err = failed.2 })))

pub ends-stopped : (words : List (List ℕ)) (before after : World) (stop : Stop) (status : Status) → IsDue words before.files before.get_faults after.get_faults stop
    → after.files ≡ before.files → after.out ≡ before.out → TellsStop stop before.err before.err_faults after.err after.err_faults status
    → Ends words before after status
ends-stopped words before after stop status due files out (inl told) = ends_told words before after stop status due files out told
ends-stopped words before after stop status due files out (inr told) = ends_told words before after NoMemory status tt files out told
