-- The binds that a stream records, and the first rule that it breaks.
use Rattle.std.specs.Prelude.{◌≡◌, ◌≤◌, ℕ, ℤ, ◌+◌, ◌*◌, pos, Bool, false, ◌&&◌, List, [], length, map, Option, Some, None, option_map, is_some, if◌then◌else◌}
use Rattle.std.specs.List.{All, AllPairs}
use Rattle.std.specs.Option.{option_or, unwrap_or}
use Rattle.dsc_base.specs.declared.fault.Site.{Site}
use Rattle.macho_image.specs.Records.{Img}
use Rattle.dsc_base.specs.Refusals.{broken}
use Rattle.macho_image.specs.declared.place.Location.{Location}
use Rattle.macho_image.specs.Order.{in_address_order, addresses_of, is_near, first_close}
use Rattle.macho_image.specs.Places.{wrap, place_fault, location, IsWord}
use Rattle.dsc_base.specs.Limits.{record_limit}
use Rattle.macho_image.specs.Runs.{progression}
use Rattle.macho_image.specs.Streams.{opcodes_of, Meaning, records, reading_break}
use Rattle.bind_ops.specs.declared.kind.StreamKind.{StreamKind}
use Rattle.bind_ops.specs.Faults.{Reason, Place, BeforeSet, Twice, rule_in}
use Rattle.bind_ops.specs.Opcodes.{Opcode, SetDylibOrdinalImm, SetDylibOrdinalUleb, SetDylibSpecialImm, SetSymbolTrailingFlagsImm, SetAddendSleb, SetSegmentAndOffsetUleb, AddAddrUleb, DoBind, DoBindAddAddrUleb, DoBindAddAddrImmScaled, DoBindUlebTimesSkippingUleb, spelling}
use Rattle.bind_ops.specs.Records.{SymbolName, BoundWord}

-- what is set: the segment, the offset of the next record from its start, and what words are bound to
pub record Settings : Type 0 where
  pub segment : Option ℕ
  pub offset : ℕ
  pub ordinal : Option ℕ
  pub symbol : Option SymbolName
  pub addend : ℤ

-- before the first opcode nothing is set, and the addend is 0
abbrev pub start : Settings
start = record { segment = None; offset = 0; ordinal = None; symbol = None; addend = pos 0 }

-- the offsets at which an opcode records
abbrev pub recorded : Settings → Opcode → List ℕ
recorded s DoBind = progression s.offset 8 1
recorded s (DoBindAddAddrUleb skip) = progression s.offset (8 + skip) 1
recorded s (DoBindAddAddrImmScaled immediate) = progression s.offset (8 + 8 * immediate) 1
recorded s (DoBindUlebTimesSkippingUleb count skip) = progression s.offset (8 + skip) count
recorded s _ = []

-- so many bytes further on
abbrev pub further : Settings → ℕ → Settings
further s distance = record s { offset = wrap (s.offset + distance) }

-- what is set after an opcode
abbrev pub moved : Settings → Opcode → Settings
moved s (SetDylibOrdinalImm ordinal) = record s { ordinal = Some ordinal }
moved s (SetDylibOrdinalUleb ordinal) = record s { ordinal = Some ordinal }
moved s (SetDylibSpecialImm ordinal) = record s { ordinal = Some ordinal }
moved s (SetSymbolTrailingFlagsImm symbol) = record s { symbol = Some symbol }
moved s (SetAddendSleb addend) = record s { addend = addend }
moved s (SetSegmentAndOffsetUleb g offset) = record s { segment = Some g; offset = offset }
moved s (AddAddrUleb distance) = further s distance
moved s DoBind = further s 8
moved s (DoBindAddAddrUleb skip) = further s (8 + skip)
moved s (DoBindAddAddrImmScaled immediate) = further s (8 + 8 * immediate)
moved s (DoBindUlebTimesSkippingUleb count skip) = further s (count * (8 + skip))
moved s _ = s

-- the symbol that is set; one without a name where none is
abbrev pub symbol_of : Option SymbolName → SymbolName
symbol_of o = unwrap_or o (record { name = []; weak = false })

-- the bind at an offset, as things are set
abbrev pub bound_at : Img → Settings → ℕ → BoundWord
bound_at image s offset = record { at = location image s.segment offset; ordinal = unwrap_or s.ordinal 0; name = (symbol_of s.symbol).name; weak = (symbol_of s.symbol).weak; addend = s.addend }

-- what a record needs is set
abbrev pub is_set : Settings → Bool
is_set s = is_some s.ordinal && (is_some s.symbol && is_some s.segment)

-- what is wrong with a record at an offset, after so many of its stream: rule 51 goes before those on its place
unfoldable pub record_fault : Img → Settings → ℕ → ℕ → Option Reason
record_fault image s offset before = if is_set s then option_map Place (place_fault image s.segment offset before) else Some BeforeSet

-- bind opcodes record binds of an image
abbrev pub meaning : StreamKind → Img → Meaning Settings Opcode BoundWord Reason
meaning stream image = record { moved = moved; recorded = recorded; made = bound_at image; refused = record_fault image; rule = rule_in stream }

-- the binds that a stream spells for an image, in reading order
unfoldable pub binds_of : StreamKind → List ℕ → Img → List BoundWord
binds_of stream bytes image = records (meaning stream image) start (opcodes_of (spelling stream) bytes)

abbrev pub places_of : List BoundWord → List Location
places_of bs = map (λ b. b.at) bs

-- the first of rules 41 to 56, or of 61 to 76, that a stream breaks
unfoldable pub bind_break : StreamKind → List ℕ → Img → Option Site
bind_break stream bytes image =
    option_or (reading_break (meaning stream image) start 0 (opcodes_of (spelling stream) bytes))
    (broken (rule_in stream Twice) (first_close (addresses_of (in_address_order (places_of (binds_of stream bytes image))))))

-- what is true of the binds of a stream that was accepted: no two share a byte
pub record AreBinds (image : Img) (bs : List BoundWord) : Type 0 where
  pub few : length bs ≤ record_limit
  pub apart : AllPairs (λ a b. is_near a.at.address b.at.address ≡ false) bs
  pub all : All (λ b. IsWord image b.at) bs
