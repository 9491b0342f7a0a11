-- Memory as a map from addresses to bytes. An address is a number below 2 ^ 64, and sums of addresses wrap.
use Rattle.std.specs.Prelude.{◌≡◌, ◌<◌, ℕ, zero, suc, ◌+◌, nat_lt, if◌then◌else◌, Option, Some, None, unwrap_or, List, [], ◌∷◌, length, slice_index}
use Rattle.dsc_base.specs.Numbers.{little_number, little_bytes}
use Rattle.macho_image.specs.Places.{wrap, above}

abbrev pub Cells : Type 0
Cells = ℕ → Option ℕ

abbrev pub nowhere : Cells
nowhere x = None

-- the bytes from an address on, over what else is there
unfoldable pub with_bytes : ℕ → List ℕ → Cells → Cells
with_bytes start bytes cells x =
    if nat_lt (above start x) (length bytes) then Some (slice_index bytes (above start x)) else cells x

-- a number of w bytes written at an address
abbrev pub with_number : ℕ → ℕ → ℕ → Cells → Cells
with_number w at v cells = with_bytes at (little_bytes w v) cells

-- the w bytes from an address on, with 0 where there is none
abbrev pub bytes_from : ℕ → Cells → ℕ → List ℕ
bytes_from zero cells x = []
bytes_from (suc w) cells x = unwrap_or (cells x) 0 ∷ bytes_from w cells (wrap (x + 1))

abbrev pub number_from : ℕ → Cells → ℕ → ℕ
number_from w cells x = little_number w (bytes_from w cells x)

-- the w bytes from an address on are there and spell the number n
abbrev pub HasNumber : ℕ → Cells → ℕ → ℕ → Type 0
HasNumber w cells x n = (k : ℕ) → k < w → cells (wrap (x + k)) ≡ Some (slice_index (little_bytes w n) k)
