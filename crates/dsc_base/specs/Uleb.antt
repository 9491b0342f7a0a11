-- Variable-length numbers (LEB128): seven bits in each byte, the lowest first, and bit 7 in every byte but the last.
-- No number has more than 64 bits, so none has more than ten bytes.
use Rattle.std.specs.Prelude.{◌≢◌, ◌≤◌, ◌<◌, ℕ, zero, suc, ◌+◌, ◌-◌, ◌*◌, ◌/◌, ◌%◌, ◌^◌, ℤ, pos, negsuc, ◌-ℤ◌, Bool, List, [], ◌∷◌, take, drop, slice_index, length, Option, Some, None, option_map, Result, Ok, Err, nat_lt, if◌then◌else◌}
use Rattle.dsc_base.specs.declared.fault.UlebFault.{UlebFault}
use Rattle.dsc_base.specs.declared.fault.UlebFault.TheVariants.{Ended, TooWide}

-- the groups of seven bits of a number, the lowest first: up to the first byte without bit 7
abbrev pub groups : List ℕ → Option (List ℕ)
groups [] = None
groups (byte ∷ bytes) = if nat_lt byte 128 then Some (byte ∷ []) else option_map (λ higher. byte % 128 ∷ higher) (groups bytes)

-- the sum of groups, the k-th times 128 to the k; the first of these is the k-th
abbrev pub weighed : ℕ → List ℕ → ℕ
weighed k [] = 0
weighed k (group ∷ higher) = group * 128 ^ k + weighed (suc k) higher

-- the number that groups spell
abbrev pub value_of : List ℕ → ℕ
value_of gs = weighed 0 gs

-- in two's complement: bit 6 of the last group is the sign, and stands for all bits above it
abbrev pub signed_value_of : List ℕ → ℤ
signed_value_of gs = if nat_lt (slice_index gs (length gs - 1)) 64 then pos (value_of gs) else pos (value_of gs) -ℤ pos (128 ^ length gs)

-- from 0 to 2^64 - 1
abbrev pub has_64_bits : ℕ → Bool
has_64_bits n = nat_lt n (2 ^ 64)

-- from -limit to limit - 1
abbrev pub is_within : ℕ → ℤ → Bool
is_within limit (pos n) = nat_lt n limit
is_within limit (negsuc n) = nat_lt n limit

-- what is wrong where none of so many bytes is a number's last one
abbrev pub missing : ℕ → List ℕ → UlebFault
missing most bytes = if nat_lt (length bytes) most then Ended else TooWide

-- the number that groups spell and how many these are
abbrev pub spelled : {N : Type 0} → (List ℕ → N) → (N → Bool) → UlebFault → Option (List ℕ) → Result (N × ℕ) UlebFault
spelled value narrow fault None = Err fault
spelled value narrow fault (Some gs) = if narrow (value gs) then Ok (value gs, length gs) else Err TooWide

-- the number at the front of the bytes and its length, of so many bytes at most
abbrev pub number_in : {N : Type 0} → (List ℕ → N) → (N → Bool) → ℕ → List ℕ → Result (N × ℕ) UlebFault
number_in value narrow most bytes = spelled value narrow (missing most bytes) (groups (take most bytes))

abbrev pub uleb : List ℕ → Result (ℕ × ℕ) UlebFault
uleb bytes = number_in value_of has_64_bits 10 bytes

abbrev pub sleb : List ℕ → Result (ℤ × ℕ) UlebFault
sleb bytes = number_in signed_value_of (is_within (2 ^ 63)) 10 bytes

-- with the place after the number for its length
abbrev pub placed : {N : Type 0} → ℕ → Result (N × ℕ) UlebFault → Result (N × ℕ) UlebFault
placed at (Err fault) = Err fault
placed at (Ok (value, len)) = Ok (value, at + len)

-- the number at a place and the place after it, or why there is none
unfoldable pub uleb_at : List ℕ → ℕ → Result (ℕ × ℕ) UlebFault
uleb_at bytes at = placed at (uleb (drop at bytes))

unfoldable pub sleb_at : List ℕ → ℕ → Result (ℤ × ℕ) UlebFault
sleb_at bytes at = placed at (sleb (drop at bytes))

-- what is no number: ten bytes with more than 64 bits
pub record IsTooWide (bytes : List ℕ) : Type 0 where
  pub nine : (k : ℕ) → k < 9 → 128 ≤ slice_index bytes k
  pub tenth : 1 < slice_index bytes 9

-- or fewer than ten bytes, and none of them the last one of a number
pub record IsCut (bytes : List ℕ) : Type 0 where
  pub few : length bytes < 10
  pub all : (k : ℕ) → k < length bytes → 128 ≤ slice_index bytes k

-- the spelling of a number in a last byte and at most so many before it, with as few as it takes
abbrev pub shortest : ℕ → ℕ → List ℕ
shortest zero value = value ∷ []
shortest (suc more) value = if nat_lt value 128 then value ∷ [] else (128 + value % 128) ∷ shortest more (value / 128)

unfoldable pub uleb_bytes : ℕ → List ℕ
uleb_bytes value = shortest 9 value

-- the same with exactly so many before the last one, so that places are known before numbers are
abbrev pub padded : ℕ → ℕ → List ℕ
padded zero value = value ∷ []
padded (suc more) value = (128 + value % 128) ∷ padded more (value / 128)

unfoldable pub uleb4_bytes : ℕ → List ℕ
uleb4_bytes value = padded 3 value

-- what is no number with a sign: ten bytes of which the last one is more than a sign
pub record IsSignedTooWide (bytes : List ℕ) : Type 0 where
  pub nine : (k : ℕ) → k < 9 → 128 ≤ slice_index bytes k
  pub some : 0 < slice_index bytes 9
  pub not_all : slice_index bytes 9 ≢ 127
