-- What is known of stores and sinks over the system, which don't tell what they hold: their counts of faults.
use Rattle.std.specs.Prelude.{◌≡◌, ℕ, List, Option, Result, Ok, Err, Vec}
use Rattle.std.specs.declared.alloc.Global.{Global}
use Rattle.dsc_base.specs.Outside.{Rose}
use Rattle.dsc_base.specs.declared.outside.store.GetFault.{GetFault}
use Rattle.dsc_base.specs.declared.outside.store.GetFault.TheVariants.{Absent, TooLarge, Failed, Memory}
use Rattle.dsc_base.specs.declared.outside.store.PutFault.{PutFault}
use Rattle.dsc_base.specs.declared.outside.store.PutFault.TheVariants.{Failed as PutFailed, Memory as PutMemory}

-- the counts of a store
pub record Counts : Type 0 where
  pub get_faults : ℕ
  pub put_faults : ℕ

-- a get counts a fault at every answer that is neither Ok nor want of memory
abbrev pub CountsGet : Counts → Result (Vec ℕ Global) GetFault → Counts → Type 0
CountsGet old (Ok bytes) new = new ≡ old
CountsGet old (Err Memory) new = new ≡ old
CountsGet old (Err Absent) new = Rose old.get_faults new.get_faults × (new.put_faults ≡ old.put_faults)
CountsGet old (Err TooLarge) new = Rose old.get_faults new.get_faults × (new.put_faults ≡ old.put_faults)
CountsGet old (Err Failed) new = Rose old.get_faults new.get_faults × (new.put_faults ≡ old.put_faults)

-- and so does a put
abbrev pub CountsPut : Counts → Result (Unit {0}) PutFault → Counts → Type 0
CountsPut old (Ok u) new = new ≡ old
CountsPut old (Err PutMemory) new = new ≡ old
CountsPut old (Err PutFailed) new = Rose old.put_faults new.put_faults × (new.get_faults ≡ old.get_faults)

-- a sink over a writer: the bytes that the writer tells, if it does, and the sink's count
pub record Passed : Type 0 where
  pub told : Option (List ℕ)
  pub faults : ℕ
