-- Where words lead. A bound word is set by dyld to a symbol's address and an addend; another rebase has an address of its own image, and a difference or an offset of the split-segment information leads there from where it stands.
use Rattle.std.specs.Prelude.{ℕ, ◌+◌, ◌&&◌, nat_eq, if◌then◌else◌, List, [], ◌∷◌, Option, Some, None, slice_get, ℤ}
use Rattle.std.specs.Int.{cast_unsigned, w64}
use Rattle.macho_image.specs.Records.{Seg}
use Rattle.macho_image.specs.Places.{wrap, above}
use Rattle.macho_image.specs.Segments.{start_of, header_address, number_within, inside}
use Rattle.macho_image.specs.declared.places.segment_index.Inside.{Inside}
use Rattle.bind_ops.specs.Records.{BoundWord}
use Rattle.split_info.specs.declared.reference.Reference.{Reference}
use Rattle.split_info.specs.References.{width_of}
use Rattle.split_info.specs.Overlap.{is_pointer}
use Rattle.prebind.specs.declared.resolved.Resolved.{Resolved}
use Rattle.prebind.specs.declared.resolved.Resolved.TheVariants as outcomes
use Rattle.prebind.specs.declared.resolved.WordTarget.{WordTarget}
use Rattle.prebind.specs.declared.resolved.WordTarget.TheVariants.{Place, Constant}
use Rattle.prebind.specs.Sets.{ImageSet}
use Rattle.prebind.specs.Places.{is_linkedit_at}
use Rattle.prebind.specs.Resolves.{resolves}
use Rattle.prebind.specs.Numbers.{led_to}

-- a number and an addend in two's complement, modulo 2^64
abbrev pub added : ℕ → ℤ → ℕ
added n addend = wrap (n + cast_unsigned w64 addend)

-- a bound word leads where its symbol does, as far behind as its addend says; where a weak symbol is absent, to the addend itself
abbrev pub bound_target : ℤ → Resolved → WordTarget
bound_target addend (outcomes.Place k g distance) = Place k g (added distance addend)
bound_target addend (outcomes.Constant n) = Constant (added n addend)
bound_target addend _ = Constant (added 0 addend)

abbrev pub outcome_of : ImageSet → ℕ → BoundWord → Resolved
outcome_of set k b = resolves set k b.ordinal b.name

-- the segment into which a pointer leads that the split-segment information records at an address
abbrev pub pointer_at : List Reference → ℕ → Option ℕ
pointer_at [] address = None
pointer_at (r ∷ rs) address = if is_pointer r.kind && nat_eq r.from address then Some r.to_segment else pointer_at rs address

-- a place of image k is in the segment around an address, unless that is `__LINKEDIT`
abbrev pub value_place : ℕ → List Seg → ℕ → Option Inside → WordTarget
value_place k segments value None = Constant value
value_place k segments value (Some p) = if is_linkedit_at (slice_get segments p.segment) then Constant value else Place k p.segment p.distance

-- a rebase leads to its value: seen from the segment that is recorded for it, else in the segment that contains it
abbrev pub rebase_target : ℕ → List Seg → ℕ → Option ℕ → WordTarget
rebase_target k segments value None = value_place k segments value (inside segments value)
rebase_target k segments value (Some g) = Place k g (above (start_of (slice_get segments g)) value)

-- a difference or an offset leads to an address, which is seen from the segment that is recorded for it
abbrev pub reference_number : List Seg → Reference → ℕ
reference_number segments r = number_within (width_of r.kind) (slice_get segments r.from_segment) r.from

abbrev pub reference_target : ℕ → List Seg → Reference → WordTarget
reference_target k segments r =
    Place k r.to_segment (above (start_of (slice_get segments r.to_segment)) (led_to r.kind r.from (header_address segments) (reference_number segments r)))
