-- The bytes of slide information of version 2: a head of 40 bytes, and two arrays of 16-bit numbers.
use Rattle.std.specs.Prelude.{ℕ, zero, suc, ◌+◌, ◌*◌, ◌/◌, ◌^◌, Bool, ◌&&◌, not, List, [], ◌∷◌, ◌++◌, length, nat_eq, nat_lt, nat_le, Option, Some, None, if◌then◌else◌}
use Rattle.std.specs.Int.{trailing_zeros, trailing_ones, w64}
use Rattle.dsc_base.specs.Numbers.{number_at, little_bytes}
use Rattle.dsc_base.specs.declared.fault.Finding.{Finding}
use Rattle.dsc_base.specs.declared.finding_kind.FindingKind.TheVariants.{SlideInfoShape, MaskShape}
use Rattle.slide_chain.specs.Chains.{Slide}

-- numbers of two bytes, one after the other
unfoldable pub halves : List ℕ → List ℕ
halves [] = []
halves (x ∷ xs) = little_bytes 2 x ++ halves xs

-- version, page size, the offset and count of the starts and of the extras, the mask and value_add, then both arrays
unfoldable pub info_bytes : Slide → List ℕ
info_bytes s =
    little_bytes 4 2 ++ (little_bytes 4 4096
    ++ (little_bytes 4 40 ++ (little_bytes 4 (length s.starts)
    ++ (little_bytes 4 (40 + 2 * length s.starts) ++ (little_bytes 4 (length s.extras)
    ++ (little_bytes 8 s.mask ++ (little_bytes 8 s.value_add
    ++ (halves s.starts ++ halves s.extras))))))))

-- how many bytes they are
abbrev pub info_size : Slide → ℕ
info_size s = length (info_bytes s)

-- so many numbers of two bytes from a place on
unfoldable pub halves_at : ℕ → List ℕ → ℕ → List ℕ
halves_at zero bytes at = []
halves_at (suc n) bytes at = number_at 2 bytes at ∷ halves_at n bytes (at + 2)

-- what the bytes say
unfoldable pub info_read : List ℕ → Slide
info_read bytes = record {
  mask = number_at 8 bytes 24;
  value_add = number_at 8 bytes 32;
  starts = halves_at (number_at 4 bytes 12) bytes (number_at 4 bytes 8);
  extras = halves_at (number_at 4 bytes 20) bytes (number_at 4 bytes 16);
}

-- a head of version 2 with pages of 4096 bytes, of which there are as many as the data have, and both arrays inside
unfoldable pub is_shaped : ℕ → List ℕ → Bool
is_shaped size bytes =
    nat_le 40 (length bytes)
    && (nat_eq (number_at 4 bytes 0) 2
    && (nat_eq (number_at 4 bytes 4) 4096
    && (nat_eq (number_at 4 bytes 12) (size / 4096)
    && (nat_le (number_at 4 bytes 8 + 2 * number_at 4 bytes 12) (length bytes)
    && nat_le (number_at 4 bytes 16 + 2 * number_at 4 bytes 20) (length bytes)))))

-- whether the mask is one run of ones whose lowest bit is 2 or more: above the ones that begin at its lowest there is none
unfoldable pub is_run : ℕ → Bool
is_run mask =
    nat_le 2 (trailing_zeros w64 mask)
    && (nat_lt (trailing_zeros w64 mask) 64 && nat_eq (mask / 2 ^ trailing_zeros w64 mask / 2 ^ trailing_ones w64 (mask / 2 ^ trailing_zeros w64 mask)) 0)

-- what is wrong with slide information of data of so many bytes: shown at the place in the cache's header that tells its offset
unfoldable pub info_finding : ℕ → List ℕ → Option Finding
info_finding size bytes =
    if not (is_shaped size bytes) then Some record { kind = SlideInfoShape; image = 0; at = 0x38 }
    else (if not (is_run (number_at 8 bytes 24)) then Some record { kind = MaskShape; image = 0; at = 0x38 } else None)
