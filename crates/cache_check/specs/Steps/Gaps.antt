-- Bytes that are in no word, by the bytes that words have.
use Rattle.std.specs.Prelude.{◌≡◌, ◌≤◌, ◌<◌, ℕ, ◌+◌, List, Option, Some, None, if◌then◌else◌}
use Rattle.std.specs.List.{list_any}
use Rattle.cache_check.specs.declared.extents.Extent.{Extent}
use Rattle.cache_check.specs.declared.mismatch.Mismatch.{Mismatch}
use Rattle.cache_check.specs.declared.verdict.Seen.TheVariants.{Number}
use Rattle.cache_check.specs.Bytes.{Pair, byte_in, unlike}
use Rattle.cache_check.specs.Firsts.{first_below}
use Rattle.cache_check.specs.Steps.Extents.{holds}

unfoldable pub found_byte : Pair → ℕ → ℕ
found_byte p offset = byte_in p.cached (p.there.addr + offset)

unfoldable pub wanted_byte : Pair → ℕ → ℕ
wanted_byte p offset = byte_in p.own (p.here.addr + offset)

-- the bytes of a range are the same up to the first offset that differs
abbrev pub AreSame : Pair → ℕ → ℕ → Type 0
AreSame p from to = (o : ℕ) → from ≤ o → o < to → found_byte p o ≡ wanted_byte p o

abbrev pub IsFirstOther : Pair → ℕ → ℕ → Option ℕ → Type 0
IsFirstOther p from to None = AreSame p from to
IsFirstOther p from to (Some offset) = (from ≤ offset) × (offset < to) × AreSame p from offset × (found_byte p offset ≡ wanted_byte p offset → ⊥)

abbrev pub other_byte : ℕ → Pair → ℕ → Mismatch
other_byte number p offset = record { section = number; offset = offset; found = Number (found_byte p offset); wanted = Number (wanted_byte p offset) }

-- a byte in no word that isn't the file's
unfoldable pub held_byte : List Extent → ℕ → Pair → ℕ → Option Mismatch
held_byte extents number p offset =
    if list_any (holds (p.here.addr + offset)) extents then None else unlike number offset (Number (found_byte p offset)) (Number (wanted_byte p offset))

unfoldable pub held_mismatch : List Extent → ℕ → Pair → Option Mismatch
held_mismatch extents number p = first_below (held_byte extents number p) p.here.size
