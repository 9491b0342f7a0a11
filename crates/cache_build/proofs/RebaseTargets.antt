-- Where a rebase that isn't bound leads: into a segment of its image other than `__LINKEDIT`, or to its end.
use Rattle.std.proofs.Common.{◌≡◌, ◌≤◌, ◌<◌, ℕ, ◌+◌, ◌-◌, false, ◌&&◌, nat_eq, nat_lt, Option, Some, None, List, [], ◌∷◌, length, refl, sym, ap, ◌∙◌, arith, inl, inr}
use Rattle.std.specs.Prelude.{slice_get, option_map}
use Rattle.std.specs.Option.{option_and_then}
use Rattle.std.proofs.lemmas.Bool.{cases_Bool, cond-true, cond-false, or_parts, ltb-false}
use Rattle.std.proofs.lemmas.Option.{same_Some, slice_get_within, get_or_from_slice_get}
use Rattle.macho_image.specs.Records.{Seg, Img}
use Rattle.macho_image.specs.Rules.{is_linkedit_segment}
use Rattle.macho_image.specs.Breaks.{IsSound}
use Rattle.macho_image.specs.declared.place.Location.{Location}
use Rattle.macho_image.specs.declared.places.segment_index.Inside.{Inside}
use Rattle.macho_image.specs.Places.{above, numbered_section}
use Rattle.macho_image.specs.Segments.{start_of, value_of, inside}
use Rattle.macho_image.proofs.AboveLaws.{above_plain}
use Rattle.macho_image.proofs.HeaderLaws.{text_position}
use Rattle.macho_image.proofs.SegmentLaws.{inside_some}
use Rattle.split_info.specs.declared.reference.Reference.{Reference}
use Rattle.split_info.specs.References.{section_numbered, segment_section, header_section}
use Rattle.split_info.specs.Overlap.{is_pointer}
use Rattle.split_info.specs.Split.{IsReference}
use Rattle.prebind.specs.declared.resolved.WordTarget.{WordTarget}
use Rattle.prebind.specs.declared.resolved.WordTarget.TheVariants.{Place, Constant}
use Rattle.prebind.specs.Sets.{StreamLists, ImageSet}
use Rattle.prebind.specs.Places.{is_linkedit_at}
use Rattle.prebind.specs.Targets.{pointer_at, value_place, rebase_target}
use Rattle.prebind.specs.WordRules.{breaks_135, breaks_136, breaks_137, leads_into_linkedit, leads_nowhere, is_out_of, place_break}
use Rattle.prebind.specs.Words.{is_bound}
use Rattle.cache_layout.proofs.SoundLaws.{sound_linkedit}
use Rattle.cache_layout.proofs.SpaceLaws.{sound_space}
use Rattle.ref_rewrite.proofs.FitLaws.{references_accepted}
use Rattle.ref_rewrite.proofs.HomeLaws.{section_owned, two_segments}
use Rattle.load_model.proofs.RuledWords.{kept, KeepsRules, keeps_rules}
use Rattle.load_model.proofs.WordCases.{IsIn, in_first, in_rest, all_in}
use Rattle.cache_build.proofs.ImageWords.{IsOne}

pub record LeadsInto (k : ℕ) (i : Img) (target : WordTarget) : Type 0 where
  pub number : ℕ
  pub segment : Seg
  pub segment_is : slice_get i.segments number ≡ Some segment
  pub owned : is_linkedit_segment segment ≡ false
  pub distance : ℕ
  pub fits : distance ≤ segment.vmsize
  pub is : target ≡ Place k number distance

-- where no segment is recorded for it
value_leads : (k value : ℕ) (i : Img) (o : Option Inside) → inside i.segments value ≡ o → leads_into_linkedit i.segments o ≡ false → leads_nowhere o ≡ false → LeadsInto k i (value_place k i.segments value o)
value_leads k value i None is linkedit nowhere = absurd (cc)
value_leads k value i (Some p) is linkedit nowhere =
    let at = inside_some i.segments value p is in
    record {
      number = p.segment;
      segment = at.0;
      segment_is = at.1;
      owned = sym (ap is_linkedit_at at.1) ∙ linkedit;
      distance = p.distance;
      fits = omega (arith, at.4);
      is = cond-false (is_linkedit_at (slice_get i.segments p.segment)) (Constant value) (Place k p.segment p.distance) linkedit;
    }

-- where one is recorded: the reference that records it
pub record IsRecorded (rs : List Reference) (g : ℕ) : Type 0 where
  pub reference : Reference
  pub there : IsIn rs reference
  pub to : reference.to_segment ≡ g

pub recorded : (rs : List Reference) (address g : ℕ) → pointer_at rs address ≡ Some g → IsRecorded rs g
recorded [] address g is = absurd (cc)
recorded (r ∷ rs) address g is = elim (cases_Bool (is_pointer r.kind && nat_eq r.from address)) [
  | inl here ↦
      let own : Option ℕ = Some r.to_segment in
      record { reference = r; there = in_first r rs; to = same_Some r.to_segment g (sym (cond-true (is_pointer r.kind && nat_eq r.from address) own (pointer_at rs address) here) ∙ is) }
  | inr other ↦
      let own : Option ℕ = Some r.to_segment in
      let rest : IsRecorded rs g = recorded rs address g (sym (cond-false (is_pointer r.kind && nat_eq r.from address) own (pointer_at rs address) other) ∙ is) in
      record { reference = rest.reference; there = in_rest r rs rest.reference rest.there; to = rest.to }
]

-- what an option is made of, seen by a number of what is made
made_of : {X Y : Type 0} (o : Option X) (y : Y) (g : Y → ℕ) (f : X → Y) → option_map f o ≡ Some y → (x : X) × (o ≡ Some x) × (g (f x) ≡ g y)
made_of None y g f is = absurd (cc)
made_of (Some x) y g f is = (x, refl, ap g (same_Some (f x) y is))

-- a section to which a reference leads is in a segment other than `__LINKEDIT`
target_owned : (i : Img) (rebases : List Location) (r : Reference) (t : Seg) → IsSound i → (own : IsReference i rebases r) → slice_get i.segments own.target.segment ≡ Some t → is_linkedit_segment t ≡ false
target_owned i rebases r t sound own got = elim (cases_Bool (nat_eq r.to_section 0)) [
  | inl header ↦
      let first : header_section i.segments ≡ Some own.target = sym (cond-true (nat_eq r.to_section 0) (header_section i.segments) (section_numbered i.sections r.to_section) header) ∙ own.target_is in
      let one : segment_section i.segments 0 ≡ Some own.target = sym (ap (λ (o : Option ℕ). option_and_then (segment_section i.segments) o) (text_position i sound)) ∙ first in
      let found = made_of (slice_get i.segments 0) own.target (λ e. e.segment) _ one in
      let zero_is : 0 ≡ own.target.segment = found.2 in
      let two = two_segments i sound in
      let lt : own.target.segment < length i.segments = slice_get_within i.segments own.target.segment t got in
      (sound_linkedit i sound own.target.segment t lt (sym (get_or_from_slice_get i.segments own.target.segment t t got))).0 (omega (arith, two, zero_is))
  | inr other ↦
      let one : section_numbered i.sections r.to_section ≡ Some own.target = sym (cond-false (nat_eq r.to_section 0) (header_section i.segments) (section_numbered i.sections r.to_section) other) ∙ own.target_is in
      let found = made_of (numbered_section i.sections r.to_section) own.target (λ e. e.segment) _ one in
      let segment : found.0.segment ≡ own.target.segment = found.2 in
      let there : slice_get i.sections (r.to_section - 1) ≡ Some found.0 = sym (cond-false (nat_eq r.to_section 0) None (slice_get i.sections (r.to_section - 1)) other) ∙ found.1 in
      section_owned i sound (r.to_section - 1) found.0 t there (ap (λ (g : ℕ). slice_get i.segments g) segment ∙ got)
]

recorded_leads : (set : ImageSet) (k g value : ℕ) (i : Img) (s : StreamLists) (o : Option Seg) → IsOne set k i s → IsRecorded s.references g → slice_get i.segments g ≡ o → is_out_of o value ≡ false → LeadsInto k i (Place k g (above (start_of (slice_get i.segments g)) value))
recorded_leads set k g value i s None one by is out = absurd (cc)
recorded_leads set k g value i s (Some t) one by is out =
    let two = or_parts (nat_lt value t.vmaddr) (nat_lt (t.vmaddr + t.vmsize) value) out in
    let low : t.vmaddr ≤ value = ltb-false value t.vmaddr two.0 in
    let high : value ≤ t.vmaddr + t.vmsize = ltb-false (t.vmaddr + t.vmsize) value two.1 in
    let own : IsReference i s.rebases by.reference = all_in (IsReference i s.rebases) s.references by.reference (references_accepted i s one.at.sound one.split).all by.there in
    let to : own.target.segment ≡ g = own.to_segment ∙ by.to in
    let there : slice_get i.segments own.target.segment ≡ Some t = ap (λ (n : ℕ). slice_get i.segments n) to ∙ is in
    let space = sound_space i one.at.sound g t (slice_get_within i.segments g t is) (sym (get_or_from_slice_get i.segments g t t is)) in
    record {
      number = g;
      segment = t;
      segment_is = is;
      owned = target_owned i s.rebases by.reference t one.at.sound own there;
      distance = value - t.vmaddr;
      fits = omega (arith, high);
      is = ap (λ (x : Option Seg). Place k g (above (start_of x) value)) is ∙ ap (λ (d : ℕ). Place k g d) (above_plain t.vmaddr value low (omega (arith, high, space.1)));
    }

pub rebase_leads : (set : ImageSet) (k : ℕ) (i : Img) (s : StreamLists) (l : Location) → IsOne set k i s → place_break set k ≡ None → IsIn s.rebases l → is_bound s.binds l.address ≡ false
    → LeadsInto k i (rebase_target k i.segments (value_of i.segments l) (pointer_at s.references l.address))
rebase_leads set k i s l one none there free =
    let rules : KeepsRules i s = keeps_rules set k i s one.read.of none in
    let first = kept breaks_135 i.segments s l rules.linkedit there free in
    let second = kept breaks_136 i.segments s l rules.nowhere there free in
    let third = kept breaks_137 i.segments s l rules.out there free in
    by (pointer_at s.references l.address) refl first second third
  where
    value : ℕ
    value = value_of i.segments l

    by : (o : Option ℕ) → pointer_at s.references l.address ≡ o → breaks_135 i.segments value o ≡ false → breaks_136 i.segments value o ≡ false → breaks_137 i.segments value o ≡ false → LeadsInto k i (rebase_target k i.segments value o)
    by None is first second third = value_leads k value i (inside i.segments value) refl first second
    by (Some g) is first second third = recorded_leads set k g value i s (slice_get i.segments g) one (recorded s.references l.address g is) refl third
