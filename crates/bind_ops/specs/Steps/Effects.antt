-- What the reader keeps of an opcode, which the contracts of its private functions cite: Opcodes.antt and Binds.antt say what opcodes mean.
use Rattle.std.specs.Prelude.{ℕ, ◌+◌, ◌*◌, Bool, true, false, List, [], Some, Result, Ok, Err}
use Rattle.macho_image.specs.Places.{wrap}
use Rattle.macho_image.specs.Runs.{progression}
use Rattle.bind_ops.specs.declared.fault.BindFault.{BindFault}
use Rattle.bind_ops.specs.declared.fault.BindFault.TheVariants as fault
use Rattle.bind_ops.specs.declared.kind.StreamKind.{StreamKind}
use Rattle.bind_ops.specs.declared.kind.StreamKind.TheVariants.{Bind}
use Rattle.bind_ops.specs.declared.opcode.Effect.{Effect}
use Rattle.bind_ops.specs.declared.opcode.Effect.TheVariants.{Ends, SetsOrdinal, SetsSymbol, SetsPointerType, SetsAddend, SetsPlace, Advances, Records}
use Rattle.bind_ops.specs.declared.run.State.{State}
use Rattle.bind_ops.specs.Faults.{Reason, BadUleb, BadOpcode, BadType, Place, BeforeSet, MainLookup, FlatLookup, WeakLookup, Threaded, BadName, Twice}
use Rattle.bind_ops.specs.Opcodes.{Opcode, Done, SetDylibOrdinalImm, SetDylibOrdinalUleb, SetDylibSpecialImm, SetSymbolTrailingFlagsImm, SetTypeImm, SetAddendSleb, SetSegmentAndOffsetUleb, AddAddrUleb, DoBind, DoBindAddAddrUleb, DoBindAddAddrImmScaled, DoBindUlebTimesSkippingUleb}
use Rattle.bind_ops.specs.Binds.{Settings}

-- the reader's faults as the reasons that they are
abbrev pub reason_of : BindFault → Reason
reason_of fault.BadUleb = BadUleb
reason_of fault.BadOpcode = BadOpcode
reason_of fault.BadType = BadType
reason_of fault.BeforeSet = BeforeSet
reason_of fault.MainLookup = MainLookup
reason_of fault.FlatLookup = FlatLookup
reason_of fault.WeakLookup = WeakLookup
reason_of fault.Threaded = Threaded
reason_of fault.BadName = BadName
reason_of fault.Twice = Twice
reason_of (fault.Place place) = Place place

abbrev pub because : {X : Type 0} → Result X BindFault → Result X Reason
because (Ok x) = Ok x
because (Err fault) = Err (reason_of fault)

-- what an opcode does
abbrev pub effect : Opcode → Effect
effect Done = Ends
effect (SetDylibOrdinalImm ordinal) = SetsOrdinal ordinal
effect (SetDylibOrdinalUleb ordinal) = SetsOrdinal ordinal
effect (SetDylibSpecialImm ordinal) = SetsOrdinal ordinal
effect (SetSymbolTrailingFlagsImm symbol) = SetsSymbol symbol
effect (SetTypeImm type) = SetsPointerType
effect (SetAddendSleb addend) = SetsAddend addend
effect (SetSegmentAndOffsetUleb g offset) = SetsPlace g offset
effect (AddAddrUleb distance) = Advances distance
effect DoBind = Records 1 8
effect (DoBindAddAddrUleb skip) = Records 1 (wrap (8 + skip))
effect (DoBindAddAddrImmScaled immediate) = Records 1 (8 + 8 * immediate)
effect (DoBindUlebTimesSkippingUleb count skip) = Records count (wrap (8 + skip))

abbrev pub effect_read : Result (Opcode × ℕ) Reason → Result (Effect × ℕ) Reason
effect_read (Err reason) = Err reason
effect_read (Ok (opcode, next)) = Ok (effect opcode, next)

-- whether it ends a stream
abbrev pub effect_ends : StreamKind → Effect → Bool
effect_ends Bind Ends = true
effect_ends _ _ = false

-- the reader's state as what is set
abbrev pub settings_of : State → Settings
settings_of s = record { segment = s.segment; offset = s.offset; ordinal = s.ordinal; symbol = s.symbol; addend = s.addend }

-- the offsets at which an effect records
abbrev pub offsets_of : State → Effect → List ℕ
offsets_of s (Records n t) = progression s.offset t n
offsets_of s _ = []

-- and the state behind it
abbrev pub state_after : State → Effect → State
state_after s (SetsOrdinal n) = record s { ordinal = Some n }
state_after s (SetsSymbol symbol) = record s { symbol = Some symbol }
state_after s (SetsAddend n) = record s { addend = n }
state_after s (SetsPlace g offset) = record s { segment = Some g; offset = offset }
state_after s (Advances distance) = record s { offset = wrap (s.offset + distance) }
state_after s (Records n t) = record s { offset = wrap (s.offset + n * t) }
state_after s _ = s
