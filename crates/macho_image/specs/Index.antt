-- An index of segments: those that have addresses, one behind the other.
use Rattle.std.specs.Prelude.{◌≡◌, ◌≤◌, ℕ, ◌+◌, ◌-◌, Bool, ◌&&◌, true, false, List, [], ◌∷◌, find, Option, option_map, nat_le, nat_lt, if◌then◌else◌}
use Rattle.std.specs.List.{AllByRecursion}
use Rattle.macho_image.specs.Records.{Seg}
use Rattle.macho_image.specs.declared.places.segment_index.Inside.{Inside}
use Rattle.macho_image.specs.declared.places.segment_index.Entry.{Entry}
use Rattle.macho_image.specs.Segments.{contains, inside}

-- no address of one segment is an address of the other
abbrev pub IsApart : Seg → Seg → Type 0
IsApart s t = (x : ℕ) → contains s x ≡ true → contains t x ≡ false

abbrev pub AreApart : List Seg → Type 0
AreApart [] = Unit {0}
AreApart (s ∷ ss) = AllByRecursion (IsApart s) ss × AreApart ss

-- the addresses from the start of an entry on, as many as its size
abbrev pub covers : ℕ → Entry → Bool
covers x e = nat_le e.start x && nat_lt x (e.start + e.size)

-- where an address lies in an entry
abbrev pub place_in : ℕ → Entry → Inside
place_in x e = record { segment = e.segment; distance = x - e.start }

-- the entry that covers an address
abbrev pub found_in : List Entry → ℕ → Option Inside
found_in es x = option_map (place_in x) (find (covers x) es)

-- looking up in the index gives what the segments give
abbrev pub Indexes : List Seg → List Entry → Type 0
Indexes segments es = (x : ℕ) → found_in es x ≡ inside segments x

-- the segments that have addresses, the first of all with number g
abbrev pub entries_from : ℕ → List Seg → List Entry
entries_from g [] = []
entries_from g (s ∷ ss) =
    if nat_lt 0 s.vmsize then record { segment = g; start = s.vmaddr; size = s.vmsize } ∷ entries_from (g + 1) ss
    else entries_from (g + 1) ss

-- an entry ends at or before an address
abbrev pub ends_by : ℕ → Entry → Bool
ends_by x e = nat_le (e.start + e.size) x

-- an entry ends at or before the start of a later one
abbrev pub IsBefore : Entry → Entry → Type 0
IsBefore e f = e.start + e.size ≤ f.start
