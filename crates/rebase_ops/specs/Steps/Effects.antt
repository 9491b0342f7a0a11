-- What the reader keeps of an opcode, which the contracts of its private functions cite: Opcodes.antt and Rebases.antt say what opcodes mean.
use Rattle.std.specs.Prelude.{ℕ, ◌+◌, ◌*◌, List, [], Some, Result, Ok, Err}
use Rattle.dsc_base.specs.declared.rule.Rule.{Rule}
use Rattle.macho_image.specs.Places.{wrap}
use Rattle.macho_image.specs.Runs.{progression}
use Rattle.rebase_ops.specs.declared.opcode.Effect.{Effect}
use Rattle.rebase_ops.specs.declared.opcode.Effect.TheVariants.{Ends, SetsPointerType, SetsPlace, Advances, Records}
use Rattle.rebase_ops.specs.declared.run.Cursor.{Cursor}
use Rattle.rebase_ops.specs.Opcodes.{Opcode, Done, SetTypeImm, SetSegmentAndOffsetUleb, AddAddrUleb, AddAddrImmScaled, DoRebaseImmTimes, DoRebaseUlebTimes, DoRebaseAddAddrUleb, DoRebaseUlebTimesSkippingUleb}
use Rattle.rebase_ops.specs.Rebases.{State}

-- what an opcode does
abbrev pub effect : Opcode → Effect
effect Done = Ends
effect (SetTypeImm type) = SetsPointerType
effect (SetSegmentAndOffsetUleb g offset) = SetsPlace g offset
effect (AddAddrUleb distance) = Advances distance
effect (AddAddrImmScaled immediate) = Advances (8 * immediate)
effect (DoRebaseImmTimes count) = Records count 8
effect (DoRebaseUlebTimes count) = Records count 8
effect (DoRebaseAddAddrUleb skip) = Records 1 (wrap (8 + skip))
effect (DoRebaseUlebTimesSkippingUleb count skip) = Records count (wrap (8 + skip))

abbrev pub effect_read : Result (Opcode × ℕ) Rule → Result (Effect × ℕ) Rule
effect_read (Err rule) = Err rule
effect_read (Ok (opcode, next)) = Ok (effect opcode, next)

-- a cursor as the state that it is
abbrev pub state_of : Cursor → State
state_of c = record { segment = c.segment; offset = c.offset }

-- the offsets at which it records
abbrev pub offsets_of : Cursor → Effect → List ℕ
offsets_of c (Records n t) = progression c.offset t n
offsets_of c _ = []

-- and the cursor behind it
abbrev pub cursor_after : Cursor → Effect → Cursor
cursor_after c (SetsPlace g offset) = record { segment = Some g; offset = offset }
cursor_after c (Advances distance) = record { segment = c.segment; offset = wrap (c.offset + distance) }
cursor_after c (Records n t) = record { segment = c.segment; offset = wrap (c.offset + n * t) }
cursor_after c _ = c
