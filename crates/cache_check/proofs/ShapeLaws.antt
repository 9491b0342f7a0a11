-- What the head of a cache tells in whose shape nothing is found.
use Rattle.std.proofs.Common.{◌≡◌, ◌≤◌, ℕ, ◌+◌, ◌-◌, ◌%◌, Bool, true, false, ◌&&◌, cond, nat_eq, nat_le, Option, Some, None, List, [], ◌∷◌, length, refl, ap, ap₂, subst, arith}
use Rattle.std.proofs.lemmas.Bool.{eqb-true, leb-true, false≢true}
use Rattle.dsc_base.specs.Region.{region_start, region_size}
use Rattle.dsc_base.specs.Refusals.{first_break}
use Rattle.dsc_base.specs.declared.finding_kind.FindingKind.TheVariants.{MappingShape, SlideInfoShape}
use Rattle.cache_header.specs.declared.head.Mapping.{Mapping}
use Rattle.cache_header.specs.Findings.{finding}
use Rattle.cache_header.specs.Records.{Head}
use Rattle.load_model.specs.Mapped.{three_mappings}
use Rattle.cache_check.specs.Shape.{is_mapping, are_three, is_mapped_whole, mapping_finding, data_mapping, linkedit_mapping, is_in_mapping, place_finding, shape_finding}

-- ---- tests that are passed

pub both : (a b : Bool) → a && b ≡ true → (a ≡ true) × (b ≡ true)
both true b is = (refl, is)
both false b is = absurd (cc)

pub passed : {X : Type 0} (b : Bool) (x : X) → cond b None (Some x) ≡ None → b ≡ true
passed true x none = refl
passed false x none = absurd (cc)

pub first_none : {X : Type 0} (a b : Option X) → first_break (a ∷ b ∷ []) ≡ None → (a ≡ None) × (b ≡ None)
first_none None None none = (refl, refl)
first_none None (Some y) none = absurd (cc)
first_none (Some x) b none = absurd (cc)

-- ---- the mappings

abbrev whole_pages : ℕ → ℕ → ℕ → Mapping
whole_pages place protection size = record { address = region_start + place; size = size; file = place; max_prot = protection; init_prot = protection }

mapping_is : (place protection : ℕ) (m : Mapping) → is_mapping place protection m ≡ true → (m ≡ whole_pages place protection m.size) × (m.size % 4096 ≡ 0)
unfolding is_mapping
mapping_is place protection m is =
    let one = both (nat_eq m.address (region_start + place)) (nat_eq m.file place && (nat_eq m.max_prot protection && (nat_eq m.init_prot protection && nat_eq (m.size % 4096) 0))) is in
    let two = both (nat_eq m.file place) (nat_eq m.max_prot protection && (nat_eq m.init_prot protection && nat_eq (m.size % 4096) 0)) one.1 in
    let three = both (nat_eq m.max_prot protection) (nat_eq m.init_prot protection && nat_eq (m.size % 4096) 0) two.1 in
    let four = both (nat_eq m.init_prot protection) (nat_eq (m.size % 4096) 0) three.1 in
    let address : m.address ≡ region_start + place = eqb-true m.address (region_start + place) one.0 in
    let file : m.file ≡ place = eqb-true m.file place two.0 in
    let max_prot : m.max_prot ≡ protection = eqb-true m.max_prot protection three.0 in
    let init_prot : m.init_prot ≡ protection = eqb-true m.init_prot protection four.0 in
    (λ i. record { address = address i; size = m.size; file = file i; max_prot = max_prot i; init_prot = init_prot i }, eqb-true (m.size % 4096) 0 four.1)

-- three mappings by their sizes, which are whole pages
pub record AreThree (size : ℕ) (ms : List Mapping) : Type 0 where
  pub text : ℕ
  pub writable : ℕ
  pub linkedit : ℕ
  pub are : ms ≡ three_mappings text writable linkedit
  pub long : text + (writable + linkedit) ≡ size
  pub text_pages : text % 4096 ≡ 0
  pub pages : writable % 4096 ≡ 0
  pub linkedit_pages : linkedit % 4096 ≡ 0

pub three_are : (size : ℕ) (ms : List Mapping) → are_three size ms ≡ true → AreThree size ms
unfolding are_three
three_are size [] is = absurd (false≢true is)
three_are size (t ∷ []) is = absurd (false≢true is)
three_are size (t ∷ (w ∷ [])) is = absurd (false≢true is)
three_are size (t ∷ (w ∷ (l ∷ (x ∷ rest)))) is = absurd (false≢true is)
three_are size (t ∷ (w ∷ (l ∷ []))) is =
    let sum = both (nat_eq (t.size + w.size + l.size) size) (is_mapping 0 5 t && (is_mapping t.size 3 w && is_mapping (t.size + w.size) 1 l)) is in
    let first = both (is_mapping 0 5 t) (is_mapping t.size 3 w && is_mapping (t.size + w.size) 1 l) sum.1 in
    let second = both (is_mapping t.size 3 w) (is_mapping (t.size + w.size) 1 l) first.1 in
    let long : t.size + w.size + l.size ≡ size = eqb-true (t.size + w.size + l.size) size sum.0 in
    let one = mapping_is 0 5 t first.0 in
    let two = mapping_is t.size 3 w second.0 in
    let three = mapping_is (t.size + w.size) 1 l second.1 in
    record {
      text = t.size;
      writable = w.size;
      linkedit = l.size;
      are = λ i. one.0 i ∷ (two.0 i ∷ (three.0 i ∷ []));
      long = omega (arith, long);
      text_pages = one.1;
      pages = two.1;
      linkedit_pages = three.1;
    }

-- ---- the head

pub record IsShaped (size : ℕ) (head : Head) : Type 0 where
  pub three : AreThree size head.mappings
  pub low : size ≤ 0x20000000
  pub slide : head.max_slide ≤ region_size - size
  pub behind : three.text + three.writable ≤ head.slide_info.at
  pub within : head.slide_info.at + head.slide_info.len ≤ size

pub whole_is : (size : ℕ) (head : Head) → is_mapped_whole size head ≡ true → (AreThree size head.mappings) × (size ≤ 0x20000000) × (head.max_slide ≤ region_size - size)
unfolding is_mapped_whole
whole_is size head is =
    let one = both (nat_le size 0x20000000) (are_three size head.mappings && nat_le head.max_slide (region_size - size)) is in
    let two = both (are_three size head.mappings) (nat_le head.max_slide (region_size - size)) one.1 in
    (three_are size head.mappings two.0, leb-true size 0x20000000 one.0, leb-true head.max_slide (region_size - size) two.1)

pub shaped : (size : ℕ) (head : Head) → shape_finding size head ≡ None → IsShaped size head
unfolding shape_finding mapping_finding place_finding
shaped size head none =
    let parts = first_none (mapping_finding size head) (place_finding head) none in
    let whole = whole_is size head (passed (is_mapped_whole size head) (finding MappingShape 0 0x10) parts.0) in
    let three : AreThree size head.mappings = whole.0 in
    let placed : is_in_mapping (linkedit_mapping head.mappings) head.slide_info ≡ true = passed (is_in_mapping (linkedit_mapping head.mappings) head.slide_info) (finding SlideInfoShape 0 0x38) parts.1 in
    let there : is_in_mapping (linkedit_mapping (three_mappings three.text three.writable three.linkedit)) head.slide_info ≡ true = subst (λ (ms : List Mapping). is_in_mapping (linkedit_mapping ms) head.slide_info ≡ true) three.are placed in
    let ends = both (nat_le (three.text + three.writable) head.slide_info.at) (nat_le (head.slide_info.at + head.slide_info.len) (three.text + three.writable + three.linkedit)) there in
    let behind : three.text + three.writable ≤ head.slide_info.at = leb-true (three.text + three.writable) head.slide_info.at ends.0 in
    let within : head.slide_info.at + head.slide_info.len ≤ three.text + three.writable + three.linkedit = leb-true (head.slide_info.at + head.slide_info.len) (three.text + three.writable + three.linkedit) ends.1 in
    record { three = three; low = whole.1; slide = whole.2; behind = behind; within = omega (arith, three.long, within) }

pub count_three : (size : ℕ) (ms : List Mapping) → AreThree size ms → length ms ≡ 3
count_three size ms three = ap (λ (l : List Mapping). length l) three.are

pub data_is : (size : ℕ) (ms : List Mapping) (three : AreThree size ms) → data_mapping ms ≡ whole_pages three.text 3 three.writable
data_is size ms three = ap data_mapping three.are

-- ---- what is found

pub found_mappings : (size : ℕ) (head : Head) → is_mapped_whole size head ≡ false → shape_finding size head ≡ Some (finding MappingShape 0 0x10)
unfolding shape_finding mapping_finding
found_mappings size head is = ap (λ (b : Bool). first_break (cond b None (Some (finding MappingShape 0 0x10)) ∷ place_finding head ∷ [])) is

pub found_place : (size : ℕ) (head : Head) → is_mapped_whole size head ≡ true → is_in_mapping (linkedit_mapping head.mappings) head.slide_info ≡ false → shape_finding size head ≡ Some (finding SlideInfoShape 0 0x38)
unfolding shape_finding mapping_finding place_finding
found_place size head is outside =
    ap₂ (λ (a b : Bool). first_break (cond a None (Some (finding MappingShape 0 0x10)) ∷ cond b None (Some (finding SlideInfoShape 0 0x38)) ∷ [])) is outside

pub found_none : (size : ℕ) (head : Head) → is_mapped_whole size head ≡ true → is_in_mapping (linkedit_mapping head.mappings) head.slide_info ≡ true → shape_finding size head ≡ None
unfolding shape_finding mapping_finding place_finding
found_none size head is inside =
    ap₂ (λ (a b : Bool). first_break (cond a None (Some (finding MappingShape 0 0x10)) ∷ cond b None (Some (finding SlideInfoShape 0 0x38)) ∷ [])) is inside

-- mappings that nothing is wrong with
pub whole_tests : (size : ℕ) (head : Head) → mapping_finding size head ≡ None → (size ≤ 0x20000000) × (are_three size head.mappings ≡ true)
unfolding mapping_finding is_mapped_whole
whole_tests size head none =
    let is = passed (nat_le size 0x20000000 && (are_three size head.mappings && nat_le head.max_slide (region_size - size))) (finding MappingShape 0 0x10) none in
    let one = both (nat_le size 0x20000000) (are_three size head.mappings && nat_le head.max_slide (region_size - size)) is in
    (leb-true size 0x20000000 one.0, (both (are_three size head.mappings) (nat_le head.max_slide (region_size - size)) one.1).0)
