-- Little-endian numbers in bytes, and sums of addresses. A list of bytes is a list of numbers below 256.
use Rattle.std.specs.Prelude.{◌≡◌, ◌≤◌, ◌<◌, ◌⊎◌, ℕ, ◌+◌, ◌*◌, ◌^◌, List, ◌++◌, take, drop, length}
use Rattle.byteorder.specs.Endian.{little_number, little_bytes}
pub use Rattle.byteorder.specs.Endian.{big_number, little_number, little_bytes}

-- the number in the w bytes from place at, the lowest first
unfoldable pub number_at : ℕ → List ℕ → ℕ → ℕ
number_at w bytes at = little_number w (drop at bytes)

-- the bytes with the number v written over the w bytes from place at
unfoldable pub put_number : ℕ → List ℕ → ℕ → ℕ → List ℕ
put_number w bytes at v = take at bytes ++ (little_bytes w v ++ drop (at + w) bytes)

-- a number of w bytes that was put is read at its place
abbrev pub PutsReadBack : ℕ → Type 0
PutsReadBack w = (bytes : List ℕ) (at v : ℕ) → at + w ≤ length bytes → v < 256 ^ w → number_at w (put_number w bytes at v) at ≡ v

-- and one that shares no byte with it reads as before
abbrev pub PutsKeepOthers : ℕ → Type 0
PutsKeepOthers w = (bytes : List ℕ) (at v u other : ℕ) → at + w ≤ length bytes → (other + u ≤ at) ⊎ (at + w ≤ other) → number_at u (put_number w bytes at v) other ≡ number_at u bytes other

-- m is the least multiple of unit that is not below n
pub record IsRoundedUp (n unit m : ℕ) : Type 0 where
  pub covers : n ≤ m
  pub multiple : (k : ℕ) × (m ≡ k * unit)
  pub least : (k : ℕ) → n ≤ k * unit → m ≤ k * unit
