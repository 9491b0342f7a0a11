-- Rebase opcodes, by the REBASE_OPCODE_ names and numbers of mach-o/loader.h. The high four bits of a byte are an opcode's number and the low four its immediate; an operand is a variable-length number behind it.
use Rattle.std.specs.Prelude.{ℕ, ◌+◌, ◌/◌, ◌%◌, Bool, true, false, List, slice_index, Result, Ok, Err, nat_eq, if◌then◌else◌}
use Rattle.dsc_base.specs.declared.fault.UlebFault.{UlebFault}
use Rattle.dsc_base.specs.declared.rule.Rule.{Rule}
use Rattle.dsc_base.specs.declared.rule.Rule.TheVariants.{RebaseBadUleb, RebaseBadOpcode, RebaseBadType}
use Rattle.dsc_base.specs.Uleb.{uleb_at}
use Rattle.macho_image.specs.Streams.{Spelling}

-- an opcode with its immediate and its operands, in this order
pub data Opcode : Type 0 where
  Done : Opcode
  SetTypeImm : ℕ → Opcode
  SetSegmentAndOffsetUleb : ℕ → ℕ → Opcode
  AddAddrUleb : ℕ → Opcode
  AddAddrImmScaled : ℕ → Opcode
  DoRebaseImmTimes : ℕ → Opcode
  DoRebaseUlebTimes : ℕ → Opcode
  DoRebaseAddAddrUleb : ℕ → Opcode
  DoRebaseUlebTimesSkippingUleb : ℕ → ℕ → Opcode

infixl 10 ◌>>=◌
abbrev pub ◌>>=◌ : {A B : Type 0} → Result A Rule → (A → Result B Rule) → Result B Rule
(Ok x) >>= f = f x
(Err rule) >>= f = Err rule

-- an operand and the place behind it
abbrev pub operand_in : Result (ℕ × ℕ) UlebFault → Result (ℕ × ℕ) Rule
operand_in (Err fault) = Err RebaseBadUleb
operand_in (Ok operand) = Ok operand

unfoldable pub operand_at : List ℕ → ℕ → Result (ℕ × ℕ) Rule
operand_at bytes at = operand_in (uleb_at bytes at)

-- the opcode with a number and an immediate, whose operands begin at a place, and the place behind them
unfoldable pub opcode_with : ℕ → ℕ → List ℕ → ℕ → Result (Opcode × ℕ) Rule
opcode_with number immediate bytes at =
    if nat_eq number 0 then Ok (Done, at) else
    -- the type has to be REBASE_TYPE_POINTER, which is 1
    (if nat_eq number 1 then (if nat_eq immediate 1 then Ok (SetTypeImm immediate, at) else Err RebaseBadType) else
    (if nat_eq number 2 then (do
      offset ← operand_at bytes at
      Ok (SetSegmentAndOffsetUleb immediate offset.0, offset.1)) else
    (if nat_eq number 3 then (do
      distance ← operand_at bytes at
      Ok (AddAddrUleb distance.0, distance.1)) else
    (if nat_eq number 4 then Ok (AddAddrImmScaled immediate, at) else
    (if nat_eq number 5 then Ok (DoRebaseImmTimes immediate, at) else
    (if nat_eq number 6 then (do
      count ← operand_at bytes at
      Ok (DoRebaseUlebTimes count.0, count.1)) else
    (if nat_eq number 7 then (do
      skip ← operand_at bytes at
      Ok (DoRebaseAddAddrUleb skip.0, skip.1)) else
    (if nat_eq number 8 then (do
      count ← operand_at bytes at
      skip ← operand_at bytes count.1
      Ok (DoRebaseUlebTimesSkippingUleb count.0 skip.0, skip.1)) else
    Err RebaseBadOpcode))))))))

-- the opcode at a place and the place behind it, or the rule that it breaks
unfoldable pub opcode_at : List ℕ → ℕ → Result (Opcode × ℕ) Rule
opcode_at bytes at = opcode_with (slice_index bytes at / 16) (slice_index bytes at % 16) bytes (at + 1)

-- DONE ends a stream
abbrev pub ends : Opcode → Bool
ends Done = true
ends _ = false

abbrev pub spelling : Spelling Opcode Rule
spelling = record { read = opcode_at; ends = ends }
