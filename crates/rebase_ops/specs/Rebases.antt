-- The locations that a rebase stream records, and the first rule that it breaks.
use Rattle.std.specs.Prelude.{◌≤◌, ◌<◌, ℕ, ◌+◌, ◌*◌, List, [], length, Option, Some, None, option_map, slice_index_or}
use Rattle.std.specs.List.{All}
use Rattle.std.specs.Option.{option_or}
use Rattle.dsc_base.specs.declared.fault.Site.{Site}
use Rattle.dsc_base.specs.declared.rule.Rule.{Rule}
use Rattle.dsc_base.specs.declared.rule.Rule.TheVariants.{RebaseOutsideSegment, RebaseNotWritable, RebaseOutsideSection, RebaseMisaligned, RebaseCrossesPage, RebaseTooMany, RebasedTwice}
use Rattle.macho_image.specs.Records.{Img}
use Rattle.dsc_base.specs.Refusals.{broken}
use Rattle.macho_image.specs.declared.place.Location.{Location}
use Rattle.macho_image.specs.declared.places.record.PlaceFault.{PlaceFault}
use Rattle.macho_image.specs.declared.places.record.PlaceFault.TheVariants.{OutsideSegment, NotWritable, OutsideSection, Misaligned, CrossesPage, TooMany}
use Rattle.rebase_ops.specs.Opcodes.{Opcode, SetSegmentAndOffsetUleb, AddAddrUleb, AddAddrImmScaled, DoRebaseImmTimes, DoRebaseUlebTimes, DoRebaseAddAddrUleb, DoRebaseUlebTimesSkippingUleb, spelling}
use Rattle.macho_image.specs.Order.{in_address_order, addresses_of, first_close}
use Rattle.macho_image.specs.Places.{wrap, place_fault, location, IsWord}
use Rattle.dsc_base.specs.Limits.{record_limit}
use Rattle.macho_image.specs.Runs.{progression}
use Rattle.macho_image.specs.Streams.{opcodes_of, Meaning, records, site_in, reading_break}

-- the segment that is set, and the offset of the next record from its start
pub record State : Type 0 where
  pub segment : Option ℕ
  pub offset : ℕ

-- before the first opcode no segment is set
abbrev pub start : State
start = record { segment = None; offset = 0 }

-- the offsets at which an opcode records: pointers side by side, or so many bytes more apart
abbrev pub recorded : State → Opcode → List ℕ
recorded s (DoRebaseImmTimes count) = progression s.offset 8 count
recorded s (DoRebaseUlebTimes count) = progression s.offset 8 count
recorded s (DoRebaseAddAddrUleb skip) = progression s.offset (8 + skip) 1
recorded s (DoRebaseUlebTimesSkippingUleb count skip) = progression s.offset (8 + skip) count
recorded s _ = []

-- so many bytes further on
abbrev pub further : State → ℕ → State
further s distance = record { segment = s.segment; offset = wrap (s.offset + distance) }

-- the state behind an opcode
abbrev pub moved : State → Opcode → State
moved s (SetSegmentAndOffsetUleb g offset) = record { segment = Some g; offset = offset }
moved s (AddAddrUleb distance) = further s distance
moved s (AddAddrImmScaled immediate) = further s (8 * immediate)
moved s (DoRebaseImmTimes count) = further s (count * 8)
moved s (DoRebaseUlebTimes count) = further s (count * 8)
moved s (DoRebaseAddAddrUleb skip) = further s (8 + skip)
moved s (DoRebaseUlebTimesSkippingUleb count skip) = further s (count * (8 + skip))
moved s _ = s

abbrev pub rule_of : PlaceFault → Rule
rule_of OutsideSegment = RebaseOutsideSegment
rule_of NotWritable = RebaseNotWritable
rule_of OutsideSection = RebaseOutsideSection
rule_of Misaligned = RebaseMisaligned
rule_of CrossesPage = RebaseCrossesPage
rule_of TooMany = RebaseTooMany

-- the rule that a record at an offset in a segment breaks, after so many of its stream
abbrev pub record_fault : Img → Option ℕ → ℕ → ℕ → Option Rule
record_fault image g offset before = option_map rule_of (place_fault image g offset before)

-- a rule that is broken at the offset of an opcode
abbrev pub site_of : ℕ → Rule → Site
site_of at rule = site_in (λ r. r) at rule

-- rebase opcodes record words of an image
abbrev pub meaning : Img → Meaning State Opcode Location Rule
meaning image = record { moved = moved; recorded = recorded; made = λ s offset. location image s.segment offset; refused = λ s. record_fault image s.segment; rule = λ r. r }

-- the rebases that a stream spells for an image
unfoldable pub rebases_of : List ℕ → Img → List Location
rebases_of bytes image = in_address_order (records (meaning image) start (opcodes_of spelling bytes))

-- the first of rules 21 to 30 that a stream breaks
unfoldable pub rebase_break : List ℕ → Img → Option Site
rebase_break bytes image =
    option_or (reading_break (meaning image) start 0 (opcodes_of spelling bytes)) (broken RebasedTwice (first_close (addresses_of (rebases_of bytes image))))

-- what is true of the locations of a stream that was accepted: each is at least 8 above the one before it
pub record AreRebases (image : Img) (ls : List Location) : Type 0 where
  pub few : length ls ≤ record_limit
  pub apart : (k : ℕ) (d : Location) → k + 1 < length ls → (slice_index_or ls k d).address + 8 ≤ (slice_index_or ls (k + 1) d).address
  pub all : All (IsWord image) ls
