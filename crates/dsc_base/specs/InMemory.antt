-- Stores and sinks that are kept in memory: what they hold, and the failures that are planned for a store.
use Rattle.std.specs.Prelude.{◌≡◌, ◌<◌, ◌≤◌, ◌-◌, ℕ, List, map, take, length, Option, Some, None, Result, Ok, Err, Vec, nat_eq, find, IsSome, refl}
use Rattle.std.specs.Option.{option_map}
use Rattle.std.specs.Coded.{Coded, code_by, coded×, coded_list, coded_ℕ}
use Rattle.std.specs.FinMap.{get, insert}
use Rattle.std.specs.declared.alloc.Global.{Global}
use Rattle.dsc_base.specs.Outside.{Files, files_code, Rose}
use Rattle.dsc_base.specs.declared.outside.store.GetFault.{GetFault}
use Rattle.dsc_base.specs.declared.outside.store.GetFault.TheVariants.{Absent, TooLarge, Failed, Memory}
use Rattle.dsc_base.specs.declared.outside.store.PutFault.{PutFault}
use Rattle.dsc_base.specs.declared.outside.store.PutFault.TheVariants.{Failed as PutFailed, Memory as PutMemory}
use Rattle.dsc_base.specs.declared.outside.planned.Planned.{Planned}

-- how many bytes the next call takes, if it is planned to fail: the plan that was made last stands first, and counts
abbrev pub due : List Planned → Option ℕ
due ps = option_map (λ (p : Planned). p.taken) (find (λ (p : Planned). nat_eq p.turn 1) ps)

-- a plan, and the plans, after one more call
abbrev pub one_call_later : Planned → Planned
one_call_later p = record p { turn = p.turn - 1 }

abbrev pub after_call : List Planned → List Planned
after_call ps = map one_call_later ps

abbrev pub planned_code : Coded Planned
planned_code = code_by (ℕ × ℕ) (coded× coded_ℕ coded_ℕ) (λ p. (p.turn, p.taken)) (λ p. record { turn = p.0; taken = p.1 }) (λ _. refl)

-- a store in memory: its files, the planned failures with the latest first, and its counts
pub record StoreState : Type 0 where
  pub files : Files
  pub planned : List Planned
  pub get_faults : ℕ
  pub put_faults : ℕ

abbrev pub store_code : Coded StoreState
store_code =
    code_by (Files × (List Planned × (ℕ × ℕ))) (coded× files_code (coded× (coded_list planned_code) (coded× coded_ℕ coded_ℕ)))
    (λ s. (s.files, (s.planned, (s.get_faults, s.put_faults))))
    (λ p. record { files = p.0; planned = p.1.0; get_faults = p.1.1.0; put_faults = p.1.1.1 }) (λ _. refl)

-- the store after a call that didn't fail
abbrev pub called : StoreState → StoreState
called s = record s { planned = after_call s.planned }

-- What a read of these files answers. It never fails.
abbrev pub Finds : Files → List ℕ → ℕ → Result (Vec ℕ Global) GetFault → Type 0
Finds files name limit (Ok bytes) = (get files name ≡ Some bytes.items) × (length bytes.items ≤ limit)
Finds files name limit (Err Absent) = get files name ≡ None
Finds files name limit (Err TooLarge) = (bytes : List ℕ) × (get files name ≡ Some bytes) × (limit < length bytes)
Finds files name limit (Err Failed) = ⊥
Finds files name limit (Err Memory) = Unit {0}

-- What a read answers where failures are planned, and the store after it. It fails where a failure is due, and nowhere else.
abbrev pub Reads : StoreState → List ℕ → ℕ → Result (Vec ℕ Global) GetFault → StoreState → Type 0
Reads old name limit (Ok bytes) new = (due old.planned ≡ None) × Finds old.files name limit (Ok bytes) × (new ≡ called old)
Reads old name limit (Err Absent) new = (due old.planned ≡ None) × Finds old.files name limit (Err Absent) × (new ≡ called old)
Reads old name limit (Err TooLarge) new = (due old.planned ≡ None) × Finds old.files name limit (Err TooLarge) × (new ≡ called old)
Reads old name limit (Err Failed) new = IsSome (due old.planned) × Rose old.get_faults new.get_faults × (new ≡ record (called old) { get_faults = new.get_faults })
Reads old name limit (Err Memory) new = (due old.planned ≡ None) × (new ≡ old)

-- What a write answers, and the store after it. It fails where its failure is due, and nowhere else.
abbrev pub Writes : StoreState → List ℕ → List ℕ → Result (Unit {0}) PutFault → StoreState → Type 0
Writes old name bytes (Ok u) new = (due old.planned ≡ None) × (new ≡ record (called old) { files = insert old.files name bytes })
Writes old name bytes (Err PutFailed) new = (n : ℕ) × (due old.planned ≡ Some n) × Rose old.put_faults new.put_faults × (new ≡ record (called old) { files = insert old.files name (take n bytes); put_faults = new.put_faults })
Writes old name bytes (Err PutMemory) new = new ≡ old

-- a sink in memory: what it has taken, how much that may be in all, and its count
pub record SinkState : Type 0 where
  pub written : List ℕ
  pub room : ℕ
  pub faults : ℕ
