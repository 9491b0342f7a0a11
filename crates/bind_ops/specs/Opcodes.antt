-- Bind opcodes, by the BIND_OPCODE_ names and numbers of mach-o/loader.h. The high four bits of a byte are an opcode's number and the low four its immediate; an operand is a variable-length number behind it.
use Rattle.std.specs.Prelude.{ℕ, ℤ, ◌+◌, ◌/◌, ◌%◌, Bool, true, false, List, take, drop, slice_index, position, Option, Some, None, Result, Ok, Err, nat_eq, nat_le, if◌then◌else◌}
use Rattle.dsc_base.specs.declared.fault.UlebFault.{UlebFault}
use Rattle.dsc_base.specs.Uleb.{uleb_at, sleb_at}
use Rattle.macho_image.specs.Streams.{Spelling}
use Rattle.bind_ops.specs.Faults.{Reason, BadUleb, BadOpcode, BadType, MainLookup, FlatLookup, WeakLookup, Threaded, BadName}
use Rattle.bind_ops.specs.declared.kind.StreamKind.{StreamKind}
use Rattle.bind_ops.specs.declared.kind.StreamKind.TheVariants.{Bind}
use Rattle.bind_ops.specs.Records.{SymbolName}
use Rattle.dsc_base.specs.Limits.{name_limit}

-- an opcode with its immediate and its operands, in this order; the flags of a symbol are part of it, and a special ordinal is the ordinal that it stands for
pub data Opcode : Type 0 where
  Done : Opcode
  SetDylibOrdinalImm : ℕ → Opcode
  SetDylibOrdinalUleb : ℕ → Opcode
  SetDylibSpecialImm : ℕ → Opcode
  SetSymbolTrailingFlagsImm : SymbolName → Opcode
  SetTypeImm : ℕ → Opcode
  SetAddendSleb : ℤ → Opcode
  SetSegmentAndOffsetUleb : ℕ → ℕ → Opcode
  AddAddrUleb : ℕ → Opcode
  DoBind : Opcode
  DoBindAddAddrUleb : ℕ → Opcode
  DoBindAddAddrImmScaled : ℕ → Opcode
  DoBindUlebTimesSkippingUleb : ℕ → ℕ → Opcode

infixl 10 ◌>>=◌
abbrev pub ◌>>=◌ : {A B : Type 0} → Result A Reason → (A → Result B Reason) → Result B Reason
(Ok x) >>= f = f x
(Err fault) >>= f = Err fault

-- an operand and the place behind it
abbrev pub operand_in : {N : Type 0} → Result (N × ℕ) UlebFault → Result (N × ℕ) Reason
operand_in (Err fault) = Err BadUleb
operand_in (Ok operand) = Ok operand

unfoldable pub operand_at : List ℕ → ℕ → Result (ℕ × ℕ) Reason
operand_at bytes at = operand_in (uleb_at bytes at)

unfoldable pub signed_operand_at : List ℕ → ℕ → Result (ℤ × ℕ) Reason
signed_operand_at bytes at = operand_in (sleb_at bytes at)

-- a symbol whose name is the bytes up to the first NUL, and the place behind that
abbrev pub symbol_in : Bool → List ℕ → ℕ → Option ℕ → Result (SymbolName × ℕ) Reason
symbol_in weak rest at None = Err BadName
symbol_in weak rest at (Some n) = if nat_le n name_limit then Ok (record { name = take n rest; weak = weak }, at + n + 1) else Err BadName

unfoldable pub symbol_at : Bool → List ℕ → ℕ → Result (SymbolName × ℕ) Reason
symbol_at weak bytes at = symbol_in weak (drop at bytes) at (position (λ x. nat_eq x 0) (drop at bytes))

-- BIND_SPECIAL_DYLIB_SELF is 0, _MAIN_EXECUTABLE -1, _FLAT_LOOKUP -2 and _WEAK_LOOKUP -3, of which four bits stand in the immediate
abbrev pub special_ordinal : ℕ → Result ℕ Reason
special_ordinal immediate =
    if nat_eq immediate 0 then Ok 0 else
    (if nat_eq immediate 0xF then Err MainLookup else
    (if nat_eq immediate 0xE then Err FlatLookup else
    (if nat_eq immediate 0xD then Err WeakLookup else Err BadOpcode)))

-- the opcodes 1 to 6, which set what words are bound to, and the place behind their operands
unfoldable pub target_with : ℕ → ℕ → List ℕ → ℕ → Result (Opcode × ℕ) Reason
target_with number immediate bytes at =
    if nat_eq number 1 then Ok (SetDylibOrdinalImm immediate, at) else
    (if nat_eq number 2 then (do
      ordinal ← operand_at bytes at
      Ok (SetDylibOrdinalUleb ordinal.0, ordinal.1)) else
    (if nat_eq number 3 then (do
      ordinal ← special_ordinal immediate
      Ok (SetDylibSpecialImm ordinal, at)) else
    -- BIND_SYMBOL_FLAGS_WEAK_IMPORT is bit 0
    (if nat_eq number 4 then (do
      symbol ← symbol_at (nat_eq (immediate % 2) 1) bytes at
      Ok (SetSymbolTrailingFlagsImm symbol.0, symbol.1)) else
    -- the type has to be BIND_TYPE_POINTER, which is 1
    (if nat_eq number 5 then (if nat_eq immediate 1 then Ok (SetTypeImm immediate, at) else Err BadType) else
    (do
      addend ← signed_operand_at bytes at
      Ok (SetAddendSleb addend.0, addend.1))))))

-- the opcodes from 7 on, which move to the next word or record words
unfoldable pub place_with : ℕ → ℕ → List ℕ → ℕ → Result (Opcode × ℕ) Reason
place_with number immediate bytes at =
    if nat_eq number 7 then (do
      offset ← operand_at bytes at
      Ok (SetSegmentAndOffsetUleb immediate offset.0, offset.1)) else
    (if nat_eq number 8 then (do
      distance ← operand_at bytes at
      Ok (AddAddrUleb distance.0, distance.1)) else
    (if nat_eq number 9 then Ok (DoBind, at) else
    (if nat_eq number 10 then (do
      skip ← operand_at bytes at
      Ok (DoBindAddAddrUleb skip.0, skip.1)) else
    (if nat_eq number 11 then Ok (DoBindAddAddrImmScaled immediate, at) else
    (if nat_eq number 12 then (do
      count ← operand_at bytes at
      skip ← operand_at bytes count.1
      Ok (DoBindUlebTimesSkippingUleb count.0 skip.0, skip.1)) else
    -- BIND_OPCODE_THREADED
    (if nat_eq number 13 then Err Threaded else
    Err BadOpcode))))))

-- the opcode with a number and an immediate, whose operands begin at a place, and the place behind them
unfoldable pub opcode_with : ℕ → ℕ → List ℕ → ℕ → Result (Opcode × ℕ) Reason
opcode_with number immediate bytes at =
    if nat_eq number 0 then Ok (Done, at) else
    (if nat_le number 6 then target_with number immediate bytes at else place_with number immediate bytes at)

-- the opcode at a place and the place behind it, or why it is refused
unfoldable pub opcode_at : List ℕ → ℕ → Result (Opcode × ℕ) Reason
opcode_at bytes at = opcode_with (slice_index bytes at / 16) (slice_index bytes at % 16) bytes (at + 1)

-- DONE ends the bind stream; in the lazy stream it does nothing
abbrev pub ends : StreamKind → Opcode → Bool
ends Bind Done = true
ends _ _ = false

abbrev pub spelling : StreamKind → Spelling Opcode Reason
spelling stream = record { read = opcode_at; ends = ends stream }
