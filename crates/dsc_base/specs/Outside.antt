-- What the outside of the program means: the files of a store, counts of faults, and what each answer says.
use Rattle.std.specs.Prelude.{◌≡◌, ◌<◌, ◌-◌, ◌^◌, ◌⊎◌, ◌++◌, ℕ, List, take, length, Option, Some, None, MatchOption}
use Rattle.std.specs.Ordering.{nat_cmp}
use Rattle.std.specs.Cmp.Lexicographic.{slice_cmp}
use Rattle.std.specs.Option.{option_map}
use Rattle.std.specs.FinMap.{FinMap, get, insert, code}
use Rattle.std.specs.Coded.{Coded, coded_list, coded_ℕ}
use Rattle.dsc_base.specs.declared.outside.store.GetFault.{GetFault}
use Rattle.dsc_base.specs.declared.outside.store.GetFault.TheVariants.{Absent, TooLarge, Failed, Memory}
use Rattle.dsc_base.specs.declared.outside.store.PutFault.{PutFault}
use Rattle.dsc_base.specs.declared.outside.store.PutFault.TheVariants.{Failed as PutFailed, Memory as PutMemory}

-- a finite map from names to bytes
abbrev pub Files : Type 0
Files = FinMap {K = List ℕ} (slice_cmp nat_cmp) (List ℕ)

abbrev pub files_code : Coded Files
files_code = code (coded_list coded_ℕ) (coded_list coded_ℕ)

-- a count rose: it grew, or it stands at the last value of its type, at which it stays
abbrev pub Rose : ℕ → ℕ → Type 0
Rose old new = (old < new) ⊎ ((old ≡ 2 ^ 64 - 1) × (new ≡ 2 ^ 64 - 1))

-- a store that tells its files has these bytes at the name
abbrev pub HasFile : Option Files → List ℕ → List ℕ → Type 0
HasFile files name bytes = MatchOption files (Unit {0}) (λ m. get m name ≡ Some bytes)

-- the told files, where the bytes are put at the name and nothing else is changed
abbrev pub with_file : Option Files → List ℕ → List ℕ → Option Files
with_file files name bytes = option_map (λ m. insert m name bytes) files

-- When a read gives no bytes. A store that tells its files says what is so of them; of another its count rose.
abbrev pub GetCause : Option Files → ℕ → ℕ → List ℕ → ℕ → GetFault → Type 0
GetCause files old new name limit Absent = MatchOption files (Rose old new) (λ m. get m name ≡ None)
GetCause files old new name limit TooLarge = MatchOption files (Rose old new) (λ m. (bytes : List ℕ) × (get m name ≡ Some bytes) × (limit < length bytes))
GetCause files old new name limit Failed = Rose old new
GetCause files old new name limit Memory = new ≡ old

-- the name holds a prefix of the bytes, or is as before; all other names are as before
abbrev pub LeavesPrefix : Option Files → Option Files → List ℕ → List ℕ → Type 0
LeavesPrefix before after name bytes = (after ≡ before) ⊎ ((n : ℕ) × (after ≡ with_file before name (take n bytes)))

-- When a write doesn't put the bytes, and what it leaves.
abbrev pub PutCause : Option Files → Option Files → ℕ → ℕ → List ℕ → List ℕ → PutFault → Type 0
PutCause before after old new name bytes PutFailed = Rose old new × LeavesPrefix before after name bytes
PutCause before after old new name bytes PutMemory = (after ≡ before) × (new ≡ old)

-- a prefix of the bytes stands behind what was told before
abbrev pub AppendsPrefix : Option (List ℕ) → List ℕ → Option (List ℕ) → Type 0
AppendsPrefix before bytes after = (n : ℕ) × (after ≡ option_map (λ old. old ++ take n bytes) before)
