-- What is true of the references that are accepted.
use Rattle.std.proofs.Common.{◌≡◌, ◌≤◌, ◌<◌, ◌+◌, ◌-◌, ℕ, zero, suc, Bool, true, false, not, ◌&&◌, cond, List, [], ◌∷◌, map, filter, length, get_or, refl, sym, ap, ◌∙◌, subst, arith, nat_eq, nat_le, nat_lt, if◌then◌else◌, inl, inr, Option, Some, None, true≢false}
use Rattle.std.specs.Prelude.{option_map, slice_get, count_by, All, Result, Ok, Err}
use Rattle.std.specs.List.{AllPairs, position}
use Rattle.std.specs.Option.{option_and_then}
use Rattle.std.proofs.lemmas.Bool.{cases_Bool, or_parts}
use Rattle.std.proofs.lemmas.Bool.Decides.{nat_tests}
use Rattle.std.proofs.lemmas.List.Elements.{All-nil, All-cons}
use Rattle.dsc_base.specs.declared.fault.UlebFault.{UlebFault}
use Rattle.dsc_base.specs.declared.rule.Rule.{Rule}
use Rattle.dsc_base.specs.declared.rule.Rule.TheVariants.{SplitPointerNotRebased, SplitTooMany, SplitBadKind, SplitBadSection, SplitOutsideSection}
use Rattle.dsc_base.specs.Uleb.{uleb_at}
use Rattle.macho_image.specs.Records.{Img, Seg}
use Rattle.macho_image.specs.Breaks.{IsSound}
use Rattle.dsc_base.specs.Refusals.{least}
use Rattle.macho_image.specs.declared.section.Section.{Section}
use Rattle.macho_image.specs.declared.place.Location.{Location}
use Rattle.macho_image.specs.Places.{wrap, numbered_section}
use Rattle.macho_image.specs.Segments.{is_text_segment}
use Rattle.split_info.specs.declared.reference.RefKind.{RefKind}
use Rattle.split_info.specs.declared.reference.Reference.{Reference}
use Rattle.split_info.specs.declared.extent.Extent.{Extent}
use Rattle.split_info.specs.declared.extent.Target.{Target}
use Rattle.split_info.specs.References.{kind_of, width_of, section_numbered, from_section, segment_section, header_section, to_section, target_in, reference_in}
use Rattle.split_info.specs.Stream.{times, Spelled, End, Refused, Next, read, number, known, spelled}
use Rattle.split_info.specs.Reading.{offsets, groups, targets, pairs}
use Rattle.split_info.specs.Split.{is_unsplit, spelled_of, references, references_of, is_rebased, reference_fault, site_at, reading_break, IsReference, AreReferences}
use Rattle.dsc_base.specs.Limits.{record_limit}
use Rattle.split_info.specs.Overlap.{is_pointer, meets, strays, overlaps, overlap_at, lowest}
use Rattle.split_info.proofs.CountLaws.{two_counted}
use Rattle.split_info.proofs.OverlapLaws.{from_of, lowest_of, meets_itself}
use Rattle.split_info.proofs.SoundSections.{section_inside}
use Rattle.macho_image.proofs.Unbroken.{or_none}

-- ---- Where one reference stands and leads

pub record IsKnown (image : Img) (e : Extent) : Type 0 where
  pub section : Section
  pub index : ℕ
  pub section_is : slice_get image.sections index ≡ Some section
  pub segment : e.segment ≡ section.segment
  pub address : e.address ≡ section.addr
  pub size : e.size ≡ section.size

abbrev extent_of : ℕ → Section → Extent
extent_of n x = record { number = n; segment = x.segment; address = x.addr; size = x.size }

from_known : (image : Img) (n : ℕ) (e : Extent) → from_section image n ≡ Some e → IsKnown image e
from_known image n e is = found (nat_eq n 0) (slice_get image.sections (n - 1)) refl is
  where
    found : (b : Bool) (o : Option Section) → slice_get image.sections (n - 1) ≡ o → option_map (extent_of n) (if b then None else o) ≡ Some e → IsKnown image e
    found true o there same = absurd (cc)
    found false None there same = absurd (cc)
    found false (Some x) there same =
        let back : e ≡ extent_of n x = cc in
        record { section = x; index = n - 1; section_is = there; segment = ap (λ (f : Extent). f.segment) back; address = ap (λ (f : Extent). f.address) back; size = ap (λ (f : Extent). f.size) back }

-- a section is known by its own number
to_number : (image : Img) (n : ℕ) (e : Extent) → to_section image n ≡ Some e → to_section image e.number ≡ Some e
to_number image n e is = elim (cases_Bool (nat_eq n 0)) [
  | inl none ↦ header (position is_text_segment image.segments) refl (sym (turned true none) ∙ is)
  | inr some ↦ numbered (numbered_section image.sections n) (sym (turned false some) ∙ is)
]
  where
    turned : (b : Bool) → nat_eq n 0 ≡ b → to_section image n ≡ (if b then header_section image.segments else section_numbered image.sections n)
    turned b e = ap (λ (c : Bool). if c then header_section image.segments else section_numbered image.sections n) e

    header : (o : Option ℕ) → position is_text_segment image.segments ≡ o → option_and_then (segment_section image.segments) o ≡ Some e → to_section image e.number ≡ Some e
    header None there same = absurd (cc)
    header (Some g) there same = segment g (slice_get image.segments g) refl (ap (option_and_then (segment_section image.segments)) there ∙ same) same
      where
        segment : (g : ℕ) (o : Option Seg) → slice_get image.segments g ≡ o → header_section image.segments ≡ Some e
            → option_map (λ (s : Seg). record { number = 0; segment = g; address = s.vmaddr; size = s.vmsize }) o ≡ Some e → to_section image e.number ≡ Some e
        segment g None at own same = absurd (cc)
        segment g (Some s) at own same =
            let one : Extent = record { number = 0; segment = g; address = s.vmaddr; size = s.vmsize } in
            let back : e ≡ one = cc in
            ap (λ (k : ℕ). to_section image k) (ap (λ (f : Extent). f.number) back) ∙ own

    numbered : (o : Option Section) → option_map (extent_of n) o ≡ Some e → to_section image e.number ≡ Some e
    numbered None same = absurd (cc)
    numbered (Some x) same =
        let back : e ≡ extent_of n x = cc in
        ap (λ (k : ℕ). to_section image k) (ap (λ (f : Extent). f.number) back) ∙ is

-- what is true of one of them by its place in the stream
pub record IsPlaced (image : Img) (r : Reference) : Type 0 where
  pub segment : Seg
  pub segment_is : slice_get image.segments r.from_segment ≡ Some segment
  pub from : segment.vmaddr ≤ r.from
  pub to : r.from + width_of r.kind ≤ segment.vmaddr + segment.vmsize
  pub section : Section
  pub index : ℕ
  pub section_is : slice_get image.sections index ≡ Some section
  pub in_segment : section.segment ≡ r.from_segment
  pub section_from : section.addr ≤ r.from
  pub section_to : r.from + width_of r.kind ≤ section.addr + section.size
  pub target : Extent
  pub target_is : to_section image r.to_section ≡ Some target
  pub to_segment : target.segment ≡ r.to_segment
  pub offset : r.to_offset ≤ target.size

-- an offset that was found in a section
pub record IsTarget (image : Img) (t : Target) : Type 0 where
  pub section_is : to_section image t.section.number ≡ Some t.section
  pub offset : t.offset ≤ t.section.size

target_known : (image : Img) (n offset : ℕ) (to : Extent) (t : Target) → to_section image n ≡ Some to → target_in to offset ≡ Some t → IsTarget image t
target_known image n offset to t known is = elim (cases_Bool (nat_le offset to.size)) [
  | inl inside ↦
      let one : Target = record { section = to; offset = offset } in
      let there : Some one ≡ Some t = sym (ap (λ (b : Bool). if b then Some one else None) inside) ∙ is in
      let e : one ≡ t = cc in
      let low : offset ≤ to.size = grind (arith, nat_tests) in
      subst (λ (u : Target). IsTarget image u) e (record { section_is = to_number image n to known; offset = low })
  | inr outside ↦
      let one : Target = record { section = to; offset = offset } in
      let there : None ≡ Some t = sym (ap (λ (b : Bool). if b then Some one else None) outside) ∙ is in
      absurd (cc)
]

abbrev one_in : RefKind → Extent → Target → ℕ → Reference
one_in kind from t distance = record { kind = kind; from = wrap (from.address + distance); from_segment = from.segment; to_section = t.section.number; to_segment = t.section.segment; to_offset = t.offset }

one_placed : (image : Img) (kind : RefKind) (from : Extent) (t : Target) (distance : ℕ) → IsSound image → IsKnown image from → IsTarget image t → distance + width_of kind ≤ from.size → IsPlaced image (one_in kind from t distance)
one_placed image kind from t distance sound known target fits =
    let x = known.section in
    let inside = section_inside image known.index x sound known.section_is in
    let low = inside.low in
    let bottom = inside.from in
    let top = inside.to in
    let plain : wrap (from.address + distance) ≡ from.address + distance = omega (arith, fits, known.address, known.size, low, top) in
    record {
      segment = inside.segment;
      segment_is = ap (λ (g : ℕ). slice_get image.segments g) known.segment ∙ inside.segment_is;
      from = omega (arith, plain, known.address, bottom);
      to = omega (arith, plain, known.address, known.size, fits, top);
      section = x;
      index = known.index;
      section_is = known.section_is;
      in_segment = sym known.segment;
      section_from = omega (arith, plain, known.address);
      section_to = omega (arith, plain, known.address, known.size, fits);
      target = t.section;
      target_is = target.section_is;
      to_segment = refl;
      offset = target.offset;
    }

reference_placed : (image : Img) (kind : RefKind) (from : Extent) (t : Target) (distance : ℕ) (r : Reference) → IsSound image → IsKnown image from → IsTarget image t → reference_in kind from t distance ≡ Some r → IsPlaced image r
reference_placed image kind from t distance r sound known target is = elim (cases_Bool (nat_le (distance + width_of kind) from.size)) [
  | inl inside ↦
      let there : Some (one_in kind from t distance) ≡ Some r = sym (ap (λ (b : Bool). if b then Some (one_in kind from t distance) else None) inside) ∙ is in
      let e : one_in kind from t distance ≡ r = cc in
      let fits : distance + width_of kind ≤ from.size = grind (arith, nat_tests) in
      subst (λ (s : Reference). IsPlaced image s) e (one_placed image kind from t distance sound known target fits)
  | inr outside ↦
      let there : None ≡ Some r = sym (ap (λ (b : Bool). if b then Some (one_in kind from t distance) else None) outside) ∙ is in
      absurd (cc)
]

-- ---- All that a stream spells

all_read : (P : Reference → Type 0) (at : ℕ) (r : Result (ℕ × ℕ) UlebFault) (more : ℕ → ℕ → Spelled) → ((value next : ℕ) → All P (references (more value next))) → All P (references (read at r more))
all_read P at (Err fault) more all = All-nil P
all_read P at (Ok (value, next)) more all = all value next

all_known : {X : Type 0} (P : Reference → Type 0) (rule : Rule) (at : ℕ) (o : Option X) (more : X → Spelled) → ((x : X) → o ≡ Some x → All P (references (more x))) → All P (references (known rule at o more))
all_known P rule at None more all = All-nil P
all_known P rule at (Some x) more all = all x refl

all_offsets : (image : Img) (bytes : List ℕ) (kind : RefKind) (from : Extent) (t : Target) (n sum at : ℕ) (rest : ℕ → Spelled) → IsSound image → IsKnown image from → IsTarget image t
    → ((k : ℕ) → All (IsPlaced image) (references (rest k))) → All (IsPlaced image) (references (offsets bytes kind from t n sum at rest))
unfolding times
all_offsets image bytes kind from t zero sum at rest sound one two all = all at
all_offsets image bytes kind from t (suc n) sum at rest sound one two all =
    all_read (IsPlaced image) at (uleb_at bytes at) (λ delta next. known SplitOutsideSection at (reference_in kind from t (sum + delta)) (λ r. Next at r (offsets bytes kind from t n (sum + delta) next rest)))
    (λ delta next. all_known (IsPlaced image) SplitOutsideSection at (reference_in kind from t (sum + delta)) (λ r. Next at r (offsets bytes kind from t n (sum + delta) next rest))
    (λ r is. All-cons (IsPlaced image) r (references (offsets bytes kind from t n (sum + delta) next rest)) (reference_placed image kind from t (sum + delta) r sound one two is)
    (all_offsets image bytes kind from t n (sum + delta) next rest sound one two all)))

all_groups : (image : Img) (bytes : List ℕ) (from : Extent) (t : Target) (n at : ℕ) (rest : ℕ → Spelled) → IsSound image → IsKnown image from → IsTarget image t
    → ((k : ℕ) → All (IsPlaced image) (references (rest k))) → All (IsPlaced image) (references (groups bytes from t n at rest))
unfolding times
all_groups image bytes from t zero at rest sound one two all = all at
all_groups image bytes from t (suc n) at rest sound one two all =
    all_read (IsPlaced image) at (uleb_at bytes at) (λ code counted. known SplitBadKind at (kind_of code) (λ kind. number bytes counted (λ count first. offsets bytes kind from t count 0 first (λ next. groups bytes from t n next rest))))
    (λ code counted. all_known (IsPlaced image) SplitBadKind at (kind_of code) (λ kind. number bytes counted (λ count first. offsets bytes kind from t count 0 first (λ next. groups bytes from t n next rest)))
    (λ kind is. all_read (IsPlaced image) counted (uleb_at bytes counted) (λ count first. offsets bytes kind from t count 0 first (λ next. groups bytes from t n next rest))
    (λ count first. all_offsets image bytes kind from t count 0 first (λ next. groups bytes from t n next rest) sound one two (λ next. all_groups image bytes from t n next rest sound one two all))))

all_targets : (image : Img) (bytes : List ℕ) (from to : Extent) (m n sum at : ℕ) (rest : ℕ → Spelled) → IsSound image → IsKnown image from → to_section image m ≡ Some to
    → ((k : ℕ) → All (IsPlaced image) (references (rest k))) → All (IsPlaced image) (references (targets bytes from to n sum at rest))
unfolding times
all_targets image bytes from to m zero sum at rest sound one two all = all at
all_targets image bytes from to m (suc n) sum at rest sound one two all =
    all_read (IsPlaced image) at (uleb_at bytes at) (λ delta counted. known SplitOutsideSection at (target_in to (sum + delta)) (λ t. number bytes counted (λ count first. groups bytes from t count first (λ next. targets bytes from to n (sum + delta) next rest))))
    (λ delta counted. all_known (IsPlaced image) SplitOutsideSection at (target_in to (sum + delta)) (λ t. number bytes counted (λ count first. groups bytes from t count first (λ next. targets bytes from to n (sum + delta) next rest)))
    (λ t is. all_read (IsPlaced image) counted (uleb_at bytes counted) (λ count first. groups bytes from t count first (λ next. targets bytes from to n (sum + delta) next rest))
    (λ count first. all_groups image bytes from t count first (λ next. targets bytes from to n (sum + delta) next rest) sound one (target_known image m (sum + delta) to t two is)
    (λ next. all_targets image bytes from to m n (sum + delta) next rest sound one two all))))

all_pairs : (image : Img) (bytes : List ℕ) (n at : ℕ) (rest : ℕ → Spelled) → IsSound image → ((k : ℕ) → All (IsPlaced image) (references (rest k))) → All (IsPlaced image) (references (pairs bytes image n at rest))
unfolding times
all_pairs image bytes zero at rest sound all = all at
all_pairs image bytes (suc n) at rest sound all =
    all_read (IsPlaced image) at (uleb_at bytes at)
    (λ one second. known SplitBadSection at (from_section image one) (λ from. number bytes second (λ other counted. known SplitBadSection second (to_section image other) (λ to. number bytes counted (λ count first. targets bytes from to count 0 first (λ next. pairs bytes image n next rest))))))
    (λ one second. all_known (IsPlaced image) SplitBadSection at (from_section image one)
    (λ from. number bytes second (λ other counted. known SplitBadSection second (to_section image other) (λ to. number bytes counted (λ count first. targets bytes from to count 0 first (λ next. pairs bytes image n next rest)))))
    (λ from is. all_read (IsPlaced image) second (uleb_at bytes second) (λ other counted. known SplitBadSection second (to_section image other) (λ to. number bytes counted (λ count first. targets bytes from to count 0 first (λ next. pairs bytes image n next rest))))
    (λ other counted. all_known (IsPlaced image) SplitBadSection second (to_section image other) (λ to. number bytes counted (λ count first. targets bytes from to count 0 first (λ next. pairs bytes image n next rest)))
    (λ to there. all_read (IsPlaced image) counted (uleb_at bytes counted) (λ count first. targets bytes from to count 0 first (λ next. pairs bytes image n next rest))
    (λ count first. all_targets image bytes from to other count 0 first (λ next. pairs bytes image n next rest) sound (from_known image one from is) there (λ next. all_pairs image bytes n next rest sound all))))))

all_chosen : (P : Reference → Type 0) (b : Bool) (s t : Spelled) → All P (references s) → All P (references t) → All P (references (if b then s else t))
all_chosen P true s t first second = first
all_chosen P false s t first second = second

all_spelled : (image : Img) (stream : Option (List ℕ)) → IsSound image → All (IsPlaced image) (references (spelled_of stream image))
unfolding spelled_of spelled
all_spelled image None sound = all_chosen (IsPlaced image) (is_unsplit image) (Refused _) End (All-nil (IsPlaced image)) (All-nil (IsPlaced image))
all_spelled image (Some bytes) sound =
    all_chosen (IsPlaced image) _ (number bytes 1 (λ count first. pairs bytes image count first (λ next. End))) (Refused _)
    (all_read (IsPlaced image) 1 (uleb_at bytes 1) (λ count first. pairs bytes image count first (λ next. End)) (λ count first. all_pairs image bytes count first (λ next. End) sound (λ next. All-nil (IsPlaced image))))
    (All-nil (IsPlaced image))

-- ---- What the rules say of them

unmapped : (at : ℕ) (o : Option Rule) → option_map (site_at at) o ≡ None → o ≡ None
unmapped at None none = refl
unmapped at (Some rule) none = absurd (cc)

pub record IsUnbroken (rebases : List Location) (before : ℕ) (r : Reference) : Type 0 where
  pub rebased : is_pointer r.kind ≡ true → is_rebased rebases r ≡ true
  pub few : before < record_limit

unbroken_one : (rebases : List Location) (before : ℕ) (r : Reference) → reference_fault rebases before r ≡ None → IsUnbroken rebases before r
unbroken_one rebases before r none = go (is_pointer r.kind) (is_rebased rebases r) (nat_le record_limit before) refl refl refl none
  where
    go : (a b c : Bool) → is_pointer r.kind ≡ a → is_rebased rebases r ≡ b → nat_le record_limit before ≡ c → (if a && not b then Some SplitPointerNotRebased else (if c then Some SplitTooMany else None)) ≡ None → IsUnbroken rebases before r
    go true false c p q l none = absurd (cc)
    go a true true p q l none = absurd (too_many a none)
      where
        too_many : (a : Bool) → (if a && not true then Some SplitPointerNotRebased else Some SplitTooMany) ≡ None → ⊥
        too_many true none = cc
        too_many false none = cc
    go a true false p q l none = record { rebased = λ e. q; few = grind (arith, nat_tests) }
    go false false true p q l none = absurd (cc)
    go false false false p q l none = record { rebased = λ e. absurd (true≢false (sym e ∙ p)); few = grind (arith, nat_tests) }

abbrev IsRebased : List Location → Reference → Type 0
IsRebased rebases r = is_pointer r.kind ≡ true → is_rebased rebases r ≡ true

all_unbroken : (rebases : List Location) (before : ℕ) (s : Spelled) → reading_break rebases before s ≡ None → before ≤ record_limit → All (IsRebased rebases) (references s) × (before + length (references s) ≤ record_limit)
all_unbroken rebases before End none le = (All-nil (IsRebased rebases), omega (arith, le))
all_unbroken rebases before (Refused site) none le = absurd (cc)
all_unbroken rebases before (Next at r more) none le =
    let two = or_none (option_map (site_at at) (reference_fault rebases before r)) (reading_break rebases (before + 1) more) none in
    let one = unbroken_one rebases before r (unmapped at (reference_fault rebases before r) two.0) in
    let few = one.few in
    let rest = all_unbroken rebases (before + 1) more two.1 (omega (arith, few)) in
    (All-cons (IsRebased rebases) r (references more) one.rebased rest.0, omega (arith, rest.1))

-- no reference overlaps
least_some : (a : ℕ) (o : Option ℕ) → least (Some a) o ≡ None → ⊥
least_some a None none = cc
least_some a (Some b) none = cc

none_overlaps : (p : Reference → Bool) (rs : List Reference) → lowest_of p rs ≡ None → All (λ (r : Reference). p r ≡ false) rs
none_overlaps p [] none = All-nil (λ (r : Reference). p r ≡ false)
none_overlaps p (r ∷ rs) none = elim (cases_Bool (p r)) [
  | inl holds ↦ absurd (least_some r.from (lowest_of p rs) (sym (ap (λ (b : Bool). lowest (map from_of (cond b (r ∷ filter p rs) (filter p rs)))) holds) ∙ none))
  | inr other ↦
      All-cons (λ (s : Reference). p s ≡ false) r rs other (none_overlaps p rs (sym (ap (λ (b : Bool). lowest (map from_of (cond b (r ∷ filter p rs) (filter p rs)))) other) ∙ none))
]

all_apart : (rebases bound : List Location) (rs : List Reference) → All (λ (r : Reference). overlaps rebases bound rs r ≡ false) rs → AllPairs (λ r s. meets r s ≡ false) rs
all_apart rebases bound rs none i j d lt inside =
    let r = get_or rs i d in
    elim (cases_Bool (meets r (get_or rs j d))) [
      | inl met ↦
          let two : 2 ≤ count_by (meets r) rs = two_counted (meets r) rs i j d lt inside (meets_itself r) met in
          let few : nat_lt 1 (count_by (meets r) rs) ≡ false = (or_parts (nat_lt 1 (count_by (meets r) rs)) (strays rebases bound r) (none i d (omega arith))).0 in
          let many : nat_lt 1 (count_by (meets r) rs) ≡ true = grind (arith, nat_tests) in
          absurd (true≢false (sym many ∙ few))
      | inr apart ↦ apart
    ]

-- what is true of the references of a stream that breaks no rule
pub accepted : (image : Img) (stream : Option (List ℕ)) (rebases bound : List Location) → IsSound image → reading_break rebases 0 (spelled_of stream image) ≡ None → overlap_at rebases bound (references_of stream image) ≡ None
    → AreReferences image rebases bound (references_of stream image)
unfolding references_of overlap_at
accepted image stream rebases bound sound unbroken none =
    let s = spelled_of stream image in
    let placed = all_spelled image stream sound in
    let kept = all_unbroken rebases 0 s unbroken (omega arith) in
    let clear = none_overlaps (overlaps rebases bound (references s)) (references s) none in
    record {
      few = omega (arith, kept.1);
      all = λ k d lt. one (get_or (references s) k d) (placed k d lt) (kept.0 k d lt);
      apart = all_apart rebases bound (references s) clear;
      off_words = λ k d lt. (or_parts (nat_lt 1 (count_by (meets (get_or (references s) k d)) (references s))) (strays rebases bound (get_or (references s) k d)) (clear k d lt)).1;
    }
  where
    one : (r : Reference) → IsPlaced image r → IsRebased rebases r → IsReference image rebases r
    one r p rebased = record {
      segment = p.segment;
      segment_is = p.segment_is;
      from = p.from;
      to = p.to;
      section = p.section;
      index = p.index;
      section_is = p.section_is;
      in_segment = p.in_segment;
      section_from = p.section_from;
      section_to = p.section_to;
      target = p.target;
      target_is = p.target_is;
      to_segment = p.to_segment;
      offset = p.offset;
      rebased = rebased;
    }
