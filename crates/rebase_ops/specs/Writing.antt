-- The rebase stream that is written for locations: one run after the other.
use Rattle.std.specs.Prelude.{◌≤◌, ◌<◌, ℕ, ◌+◌, ◌-◌, Bool, ◌&&◌, List, [], ◌∷◌, ◌++◌, length, Option, Some, None, nat_eq, nat_le, slice_get, slice_index_or, if◌then◌else◌}
use Rattle.std.specs.List.{All}
use Rattle.dsc_base.specs.Uleb.{uleb_bytes}
use Rattle.macho_image.specs.Records.{Img, Seg}
use Rattle.macho_image.specs.declared.place.Location.{Location}
use Rattle.macho_image.specs.Places.{IsWord}

-- locations of one segment that are 8 apart, by the first one's address and how many they are
pub record Run : Type 0 where
  pub segment : ℕ
  pub address : ℕ
  pub count : ℕ

-- the run of so many that begins with a location
abbrev pub run_from : Location → ℕ → Run
run_from l count = record { segment = l.segment; address = l.address; count = count }

-- whether a place is 8 behind a location, in its segment
abbrev pub is_next : Location → ℕ → ℕ → Bool
is_next l segment address = nat_eq segment l.segment && nat_eq address (l.address + 8)

-- a location in front of runs: where the first of them begins right behind it, that one becomes longer
abbrev pub in_front : Location → List Run → List Run
in_front l [] = run_from l 1 ∷ []
in_front l (r ∷ rs) = if is_next l r.segment r.address then run_from l (r.count + 1) ∷ rs else run_from l 1 ∷ (r ∷ rs)

-- the runs of locations, each as long as it can be
abbrev pub runs_of : List Location → List Run
runs_of [] = []
runs_of (l ∷ ls) = in_front l (runs_of ls)

-- how far an address lies above the start of its segment
abbrev pub offset_from : Option Seg → ℕ → ℕ
offset_from None address = 0
offset_from (Some segment) address = address - segment.vmaddr

unfoldable pub offset_in : Img → ℕ → ℕ → ℕ
offset_in image g address = offset_from (slice_get image.segments g) address

-- DO_REBASE_IMM_TIMES for up to 15, else DO_REBASE_ULEB_TIMES
abbrev pub times_bytes : ℕ → List ℕ
times_bytes count = if nat_le count 15 then (0x50 + count) ∷ [] else 0x60 ∷ uleb_bytes count

-- SET_SEGMENT_AND_OFFSET_ULEB, then so many records
abbrev pub run_bytes : Img → Run → List ℕ
run_bytes image r = (0x20 + r.segment) ∷ (uleb_bytes (offset_in image r.segment r.address) ++ times_bytes r.count)

unfoldable pub runs_bytes : Img → List Run → List ℕ
runs_bytes image [] = []
runs_bytes image (r ∷ rs) = run_bytes image r ++ runs_bytes image rs

-- SET_TYPE_IMM with the pointer type, the runs, and DONE
unfoldable pub rebase_bytes : Img → List Location → List ℕ
rebase_bytes image ls = 0x11 ∷ (runs_bytes image (runs_of ls) ++ 0 ∷ [])

-- locations that a stream may record, in address order, none over another one; the opcode has four bits for a segment's number
pub record CanBeWritten (image : Img) (ls : List Location) : Type 0 where
  pub all : All (IsWord image) ls
  pub apart : (k : ℕ) (d : Location) → k + 1 < length ls → (slice_index_or ls k d).address + 8 ≤ (slice_index_or ls (k + 1) d).address
  pub low : All (λ (l : Location). l.segment < 16) ls
