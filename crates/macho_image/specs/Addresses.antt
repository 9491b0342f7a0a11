-- Segments as ranges of addresses, each its first address and the one behind its last.
use Rattle.std.specs.Prelude.{ℕ, ◌+◌, Bool, true, ◌&&◌, nat_le, nat_lt, List, [], ◌∷◌, map, filter}
use Rattle.macho_image.specs.Records.{SegmentLoad}

abbrev pub range_of : SegmentLoad → ℕ × ℕ
range_of s = (s.vmaddr, s.vmaddr + s.vmsize)

abbrev pub has_addresses : SegmentLoad → Bool
has_addresses s = nat_lt 0 s.vmsize

-- the ranges of the segments that have addresses
abbrev pub ranges_of : List SegmentLoad → List (ℕ × ℕ)
ranges_of ss = map range_of (filter has_addresses ss)

-- each range begins at or behind the end of the one before it, and the first at or behind the floor
abbrev pub are_in_turn : ℕ → List (ℕ × ℕ) → Bool
are_in_turn floor [] = true
are_in_turn floor (r ∷ rs) = nat_le floor r.0 && are_in_turn r.1 rs
