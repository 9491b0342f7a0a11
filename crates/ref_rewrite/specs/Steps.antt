-- What the parts of a plan promise each other.
use Rattle.std.specs.Prelude.{◌≡◌, ℕ, ◌+◌, Bool, not, List, [], ◌∷◌, ◌++◌, length, map, filter, position, false, nat_eq, if◌then◌else◌, Option, Some, None, slice_get, All}
use Rattle.dsc_base.specs.declared.edits.Edit.{Edit}
use Rattle.dsc_base.specs.declared.fault.Site.{Site}
use Rattle.dsc_base.specs.declared.rule.Rule.TheVariants.{DeltaOutOfRange, OffsetOutOfRange, BoundOutOfRange}
use Rattle.dsc_base.specs.Refusals.{broken, first_break}
use Rattle.macho_image.specs.Records.{Seg}
use Rattle.macho_image.specs.declared.section.Section.{Section}
use Rattle.macho_image.specs.Places.{wrap}
use Rattle.macho_image.specs.Segments.{header_address, contains}
use Rattle.split_info.specs.declared.reference.Reference.{Reference}
use Rattle.bind_ops.specs.Records.{BoundWord}
use Rattle.prebind.specs.declared.resolved.WordTarget.{WordTarget}
use Rattle.prebind.specs.declared.resolved.PlacedWord.{PlacedWord}
use Rattle.prebind.specs.Numbers.{led_to, counted_to, fits}
use Rattle.prebind.specs.Targets.{reference_number}
use Rattle.prebind.specs.Sets.{StreamLists}
use Rattle.prebind.specs.Words.{pointer_word, reference_word, is_no_pointer}
use Rattle.cache_layout.specs.Layouts.{Laid}
use Rattle.ref_rewrite.specs.declared.moving.Moving.{Moving}
use Rattle.ref_rewrite.specs.declared.spans.Parts.{Parts}
use Rattle.ref_rewrite.specs.Breaks.{is_delta, is_offset, is_out_of_range, leads_beyond}
use Rattle.ref_rewrite.specs.Plans.{Part, Plan}
use Rattle.ref_rewrite.specs.Planned.{is_copied, copy_of, copies_of, chained_words}
use Rattle.ref_rewrite.specs.Moving.{edit_of, new_starts, header_move, distance_in, new_address}

-- an image of a layout with its segments, the address of its header in its own file, and the header's place in the cache
pub record IsMoving (m : Moving) : Type 0 where
  pub images : m.images ≡ length m.layout.now.moves
  pub header : m.header ≡ header_address m.segments.now
  pub new_header : m.new_header ≡ header_move m.layout.now m.number m.segments.now

-- what a reference of image k counts to its target in the cache
abbrev pub led_address : List Seg → Reference → ℕ
led_address ss r = led_to r.kind r.from (header_address ss) (reference_number ss r)

abbrev pub new_count : Laid → ℕ → List Seg → Reference → ℕ
new_count l k ss r =
    counted_to r.kind (new_address l k ss r.from_segment r.from) (header_move l k ss).address (wrap (new_starts l k r.to_segment + distance_in ss r.to_segment (led_address ss r)))

-- it has no bytes for that
abbrev pub misfits : Laid → ℕ → List Seg → Reference → Bool
misfits l k ss r = not (fits r.kind (new_count l k ss r))

-- the first of rules 151 and 152 that the references of image k break
abbrev pub references_break : Laid → ℕ → List Section → List Seg → List Reference → Option Site
references_break l k sections ss rs =
    first_break (broken DeltaOutOfRange (position (is_out_of_range is_delta l k sections ss) rs)
    ∷ broken OffsetOutOfRange (position (is_out_of_range is_offset l k sections ss) rs) ∷ [])

-- the edits of those that are no pointers; where a reference stands doesn't hang on its section
abbrev pub edits_of : Laid → ℕ → List Seg → List Reference → List Edit
edits_of l k ss rs = map (edit_of l k ss) (map (reference_word k [] ss) (filter is_no_pointer rs))

-- where the first word at an address leads, of some
abbrev pub target_at : List PlacedWord → ℕ → Option WordTarget
target_at [] address = None
target_at (w ∷ ws) address = if nat_eq w.at.address address then Some w.target else target_at ws address

-- whether the word of a bind leads beyond the segments
abbrev pub beyond : Laid → Option WordTarget → Bool
beyond l None = false
beyond l (Some target) = leads_beyond l target

abbrev pub target_beyond : Laid → List PlacedWord → BoundWord → Bool
target_beyond l words b = beyond l (target_at words b.at.address)

-- the copies of numbered segments of image k
abbrev pub copied : Laid → ℕ → List (ℕ × Seg) → List Part
copied l k ps = map (copy_of l k) (filter is_copied ps)

-- the pointers of segment g are those whose addresses it contains
abbrev pub Belong : List PlacedWord → List Seg → Type 0
Belong ws ss = (g : ℕ) (s : Seg) → slice_get ss g ≡ Some s → All (λ w. nat_eq w.at.segment g ≡ contains s w.at.address) ws

-- the plan of image k by its parts of the mappings, and the first rule that it breaks
abbrev pub plan_with : Laid → ℕ → List Seg → List Reference → List PlacedWord → Parts → Plan
plan_with l k ss rs words parts = record {
  copies = copies_of l k ss;
  edits = map (edit_of l k ss) (map pointer_word words) ++ edits_of l k ss rs;
  header = [];
  header_at = (header_move l k ss).file;
  text = parts.text;
  writable = parts.writable;
  fixed = parts.fixed;
  words = chained_words l k ss words;
}

abbrev pub binds_break : Laid → List PlacedWord → List BoundWord → Option Site
binds_break l words bs = broken BoundOutOfRange (position (target_beyond l words) bs)

abbrev pub break_with : Laid → ℕ → List Seg → StreamLists → List PlacedWord → Option Site
break_with l k ss s words =
    first_break (broken DeltaOutOfRange (position (is_out_of_range is_delta l k [] ss) s.references)
    ∷ broken OffsetOutOfRange (position (is_out_of_range is_offset l k [] ss) s.references)
    ∷ binds_break l words s.binds ∷ [])
