-- The steps by which a variable-length number is read, which the contracts of the reader's private functions cite: Uleb.antt says what is meant.
use Rattle.std.specs.Prelude.{ℕ, zero, suc, ◌+◌, ◌*◌, ◌%◌, ℤ, pos, ◌+ℤ◌, ◌-ℤ◌, ◌*ℤ◌, List, [], ◌∷◌, ◌&&◌, Result, Ok, Err, nat_lt, if◌then◌else◌}
use Rattle.dsc_base.specs.declared.fault.UlebFault.{UlebFault}
use Rattle.dsc_base.specs.declared.fault.UlebFault.TheVariants.{Ended, TooWide}

-- a number and its length, behind a byte with these seven bits
abbrev pub continued : ℕ → Result (ℕ × ℕ) UlebFault → Result (ℕ × ℕ) UlebFault
continued low (Err fault) = Err fault
continued low (Ok (value, len)) = Ok (low + 128 * value, len + 1)

-- the last byte: where it is the tenth, one bit is left for it
abbrev pub ended_by : ℕ → ℕ → Result (ℕ × ℕ) UlebFault
ended_by zero byte = if nat_lt 1 byte then Err TooWide else Ok (byte, 1)
ended_by (suc left) byte = Ok (byte, 1)

-- the number at the front of the bytes and its length, where so many bytes are allowed
abbrev pub uleb_within : ℕ → List ℕ → Result (ℕ × ℕ) UlebFault
uleb_within zero bytes = Err TooWide
uleb_within (suc left) [] = Err Ended
uleb_within (suc left) (byte ∷ bytes) = if nat_lt byte 128 then ended_by left byte else continued (byte % 128) (uleb_within left bytes)

-- the same of a number with a sign, in two's complement: bit 6 of the last byte stands for all bits above it
abbrev pub signed_continued : ℕ → Result (ℤ × ℕ) UlebFault → Result (ℤ × ℕ) UlebFault
signed_continued low (Err fault) = Err fault
signed_continued low (Ok (value, len)) = Ok (pos low +ℤ pos 128 *ℤ value, len + 1)

abbrev pub signed_bits : ℕ → ℤ
signed_bits byte = if nat_lt byte 64 then pos byte else pos byte -ℤ pos 128

-- a tenth byte has the sign alone
abbrev pub signed_ended_by : ℕ → ℕ → Result (ℤ × ℕ) UlebFault
signed_ended_by zero byte = if nat_lt 0 byte && nat_lt byte 127 then Err TooWide else Ok (signed_bits byte, 1)
signed_ended_by (suc left) byte = Ok (signed_bits byte, 1)

abbrev pub sleb_within : ℕ → List ℕ → Result (ℤ × ℕ) UlebFault
sleb_within zero bytes = Err TooWide
sleb_within (suc left) [] = Err Ended
sleb_within (suc left) (byte ∷ bytes) = if nat_lt byte 128 then signed_ended_by left byte else signed_continued (byte % 128) (sleb_within left bytes)

-- how many numbers so many bytes of seven bits spell
abbrev pub room : ℕ → ℕ
room zero = 1
room (suc bytes) = 128 * room bytes
