-- The numbers of words lead to their targets wherever the cache is mapped: a pointer's is raised by the slide, and both ends of a difference move alike.
use Rattle.std.proofs.Common.{◌≡◌, ℕ, ◌+◌, Bool, true, false, not, ◌&&◌, Option, Some, None, List, refl, sym, ap, ap₂, ◌∙◌, arith}
use Rattle.std.specs.Prelude.{slice_get, position}
use Rattle.std.specs.List.{enumerate_from}
use Rattle.dsc_base.specs.declared.rule.Rule.TheVariants.{DeltaOutOfRange, OffsetOutOfRange}
use Rattle.macho_image.specs.Records.{Seg, Img}
use Rattle.macho_image.specs.Places.{wrap}
use Rattle.macho_image.specs.Segments.{segments_in}
use Rattle.macho_image.proofs.Unbroken.{or_none, broken_none}
use Rattle.split_info.specs.declared.reference.Reference.{Reference}
use Rattle.split_info.specs.declared.reference.RefKind.{RefKind}
use Rattle.split_info.specs.declared.reference.RefKind.TheVariants.{Pointer64, Delta32, Delta64, ImageOff32}
use Rattle.split_info.specs.Overlap.{is_pointer}
use Rattle.prebind.specs.declared.resolved.WordTarget.{WordTarget}
use Rattle.prebind.specs.declared.resolved.WordTarget.TheVariants.{Place, Constant}
use Rattle.prebind.specs.Sets.{ImageSet}
use Rattle.prebind.specs.Numbers.{Starts, led_to, LeadsTo, fits}
use Rattle.prebind.specs.Words.{Word, streams_at, sections_in}
use Rattle.cache_layout.specs.Layouts.{Laid}
use Rattle.load_model.proofs.WordCases.{IsIn, other_word}
use Rattle.load_model.proofs.RuledWords.{position_none, unbroken_each}
use Rattle.load_model.proofs.LoadedReferences.{kind_leads}
use Rattle.ref_rewrite.specs.Moving.{new_starts, new_address, header_move, has_bytes, can_lead}
use Rattle.ref_rewrite.specs.Breaks.{is_delta, is_offset, is_out_of_range, out_of_range, delta_break, offset_break, image_break, rewrite_break}
use Rattle.cache_build.proofs.Memberships.{in_enumerated}

-- ---- raised by a slide

pointer_raised : (value start distance slide : ℕ) → value ≡ wrap (start + distance) → wrap (value + slide) ≡ wrap (wrap (start + slide) + distance)
pointer_raised value start distance slide is = omega (arith, is)

-- a pointer to a place, whose number is raised
pub pointer_slid : (starts slid : Starts) (location header slide value k g distance : ℕ) → LeadsTo starts location header Pointer64 value (Place k g distance) → slid k g ≡ wrap (starts k g + slide)
    → LeadsTo slid (wrap (location + slide)) (wrap (header + slide)) Pointer64 (wrap (value + slide)) (Place k g distance)
unfolding led_to
pointer_slid starts slid location header slide value k g distance leads moved =
    pointer_raised value (starts k g) distance slide leads ∙ ap (λ (n : ℕ). wrap (n + distance)) (sym moved)

-- a reference to a place, whose number stays
pub reference_slid : (starts slid : Starts) (location header slide value k g distance : ℕ) (kind : RefKind) → is_pointer kind ≡ false → LeadsTo starts location header kind value (Place k g distance) → slid k g ≡ wrap (starts k g + slide)
    → LeadsTo slid (wrap (location + slide)) (wrap (header + slide)) kind value (Place k g distance)
reference_slid starts slid location header slide value k g distance kind other leads moved =
    kind_leads kind location header value slide other
    ∙ (pointer_raised (led_to kind location header value) (starts k g) distance slide leads ∙ ap (λ (n : ℕ). wrap (n + distance)) (sym moved))

-- ---- what rules 151 and 152 say

abbrev ranged : (RefKind → Bool) → Laid → ImageSet → ℕ → Option Img → Option ℕ
ranged kinds l set k o = position (is_out_of_range kinds l k (sections_in o) (segments_in o)) (streams_at set k).references

record InRange (l : Laid) (set : ImageSet) (k : ℕ) (i : Img) : Type 0 where
  deltas : position (is_out_of_range is_delta l k i.sections i.segments) (streams_at set k).references ≡ None
  offsets : position (is_out_of_range is_offset l k i.sections i.segments) (streams_at set k).references ≡ None

in_range : (l : Laid) (set : ImageSet) (k : ℕ) (i : Img) → rewrite_break l set ≡ None → slice_get set.images k ≡ Some i → InRange l set k i
unfolding rewrite_break image_break delta_break offset_break
in_range l set k i none image =
    let own = unbroken_each (λ (p : ℕ × Img). image_break l set p.0) 0 (enumerate_from 0 set.images) (k, i) none (in_enumerated set.images k i image) in
    let one = or_none (delta_break l set k) _ own in
    let two = or_none (offset_break l set k) _ one.1 in
    record {
      deltas = sym (ap (ranged is_delta l set k) image) ∙ broken_none DeltaOutOfRange (out_of_range is_delta l set k) one.0;
      offsets = sym (ap (ranged is_offset l set k) image) ∙ broken_none OffsetOutOfRange (out_of_range is_offset l set k) two.0;
    }

not_both : (a b : Bool) → a ≡ true → a && not b ≡ false → b ≡ true
not_both true true is none = refl
not_both true false is none = absurd (cc)
not_both false b is none = absurd (cc)

wide : (kind : RefKind) (n : ℕ) → kind ≡ Delta64 → fits kind n ≡ true
unfolding fits
wide kind n same = ap (λ (c : RefKind). fits c n) same

pub reference_can : (l : Laid) (set : ImageSet) (k : ℕ) (i : Img) (r : Reference) → rewrite_break l set ≡ None → slice_get set.images k ≡ Some i → IsIn (streams_at set k).references r → is_pointer r.kind ≡ false
    → can_lead l k i.segments (other_word k i r) ≡ true
unfolding can_lead fits
reference_can l set k i r none image there other =
    let range : InRange l set k i = in_range l set k i none image in
    by_kind r.kind refl other
    (position_none (is_out_of_range is_delta l k i.sections i.segments) (streams_at set k).references r range.deltas there)
    (position_none (is_out_of_range is_offset l k i.sections i.segments) (streams_at set k).references r range.offsets there)
  where
    by_kind : (kind : RefKind) → r.kind ≡ kind → is_pointer kind ≡ false → is_out_of_range is_delta l k i.sections i.segments r ≡ false → is_out_of_range is_offset l k i.sections i.segments r ≡ false → can_lead l k i.segments (other_word k i r) ≡ true
    by_kind Pointer64 is free delta offset = absurd (cc)
    by_kind Delta32 is free delta offset = not_both (is_delta r.kind) (can_lead l k i.segments (other_word k i r)) (ap is_delta is) delta
    by_kind Delta64 is free delta offset = wide r.kind _ is
    by_kind ImageOff32 is free delta offset = not_both (is_offset r.kind) (can_lead l k i.segments (other_word k i r)) (ap is_offset is) offset

-- a pointer has bytes for any number
pub pointer_can : (l : Laid) (k : ℕ) (ss : List Seg) (w : Word) → w.kind ≡ Pointer64 → can_lead l k ss w ≡ true
unfolding can_lead fits
pointer_can l k ss w pointer = by_target w.target refl
  where
    by_target : (t : WordTarget) → w.target ≡ t → can_lead l k ss w ≡ true
    by_target (Place j g distance) is = ap₂ (λ (c : RefKind) (t : WordTarget). has_bytes (new_starts l) (new_address l k ss w.at.segment w.at.address) (header_move l k ss).address c t) pointer is
    by_target (Constant c) is = ap (λ (t : WordTarget). has_bytes (new_starts l) (new_address l k ss w.at.segment w.at.address) (header_move l k ss).address w.kind t) is
