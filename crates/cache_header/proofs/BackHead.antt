-- What a head that was written says at its header and in its mapping table, whatever follows it.
use Rattle.std.proofs.Common.{◌≡◌, ◌≤◌, ◌<◌, ℕ, ◌+◌, ◌*◌, ◌^◌, true, nat_le, Some, List, [], ◌∷◌, ◌++◌, take, drop, length, get_or, All, refl, sym, ap, ap₂, ◌∙◌, arith, rules, append_assoc}
use Rattle.std.specs.List.{flat_map}
use Rattle.std.proofs.lemmas.Bool.{cond-true}
use Rattle.std.proofs.lemmas.Bool.Decides.{nat_tests}
use Rattle.std.proofs.lemmas.List.{drop_at, drop-drop}
use Rattle.std.proofs.lemmas.List.Elements.{All-head, All-tail}
use Rattle.dsc_base.specs.Numbers.{number_at}
use Rattle.dsc_base.specs.declared.fault.Span.{Span}
use Rattle.dsc_base.specs.Fields.{spelled, field_at, AreWhole}
use Rattle.dsc_base.specs.declared.fields.Field.TheVariants.{U32, U64, Identifier}
use Rattle.dsc_base.proofs.FieldLaws.{spelled-append, length-spelled, u32_spelled, u64_spelled, identifier_spelled}
use Rattle.cache_header.specs.declared.head.Mapping.{Mapping}
use Rattle.cache_header.specs.Records.{Head}
use Rattle.cache_header.specs.Spelling.{mapping_fields, image_table, text_table, path_bytes, head_bytes, IsWritable}
use Rattle.cache_header.specs.Reading.{header_number, header_identifier, mapping_at, mappings_from, mappings_of, image_count, max_slide, slide_info_bytes, slide_place}
use Rattle.cache_header.specs.Widths.{FitsMapping, FitsHead}
use Rattle.cache_header.proofs.HeadLaws.{told, head_parts}
use Rattle.cache_header.proofs.PlaceLaws.{length-table, u32_there, u64_there}

-- ---- the header

-- what follows the header
abbrev pub behind : Head → List ℕ → List ℕ
behind h rest =
    spelled (flat_map mapping_fields h.mappings) ++ (spelled (image_table h.images) ++ (spelled (text_table h.images) ++ (flat_map path_bytes h.images ++ rest)))

pub told_whole : (h : Head) → FitsHead h → AreWhole (told h)
told_whole h fits = let sixteen : length h.uuid ≡ 16 = fits.uuid in search (rules, sixteen)

pub told_length : (h : Head) → FitsHead h → length (spelled (told h)) ≡ 0xF8
told_length h fits = length-spelled (told h) (told_whole h fits)

pub u32_told : (h : Head) (rest : List ℕ) (at v : ℕ) → FitsHead h → field_at (told h) at ≡ Some (U32 v) → v < 2 ^ 32 → number_at 4 (head_bytes h ++ rest) at ≡ v
u32_told h rest at v fits found small =
    ap (λ (c : List ℕ). number_at 4 c at) (head_parts h rest) ∙ u32_spelled (told h) at v (behind h rest) (told_whole h fits) found small

pub u64_told : (h : Head) (rest : List ℕ) (at v : ℕ) → FitsHead h → field_at (told h) at ≡ Some (U64 v) → v < 2 ^ 64 → number_at 8 (head_bytes h ++ rest) at ≡ v
u64_told h rest at v fits found small =
    ap (λ (c : List ℕ). number_at 8 c at) (head_parts h rest) ∙ u64_spelled (told h) at v (behind h rest) (told_whole h fits) found small

pub identifier_told : (h : Head) (rest : List ℕ) (at : ℕ) (bytes : List ℕ) → FitsHead h → field_at (told h) at ≡ Some (Identifier bytes) → length bytes ≡ 16
    → take 16 (drop at (head_bytes h ++ rest)) ≡ bytes
identifier_told h rest at bytes fits found sixteen =
    ap (λ (c : List ℕ). take 16 (drop at c)) (head_parts h rest) ∙ identifier_spelled (told h) at bytes (behind h rest) (told_whole h fits) found sixteen

pub mapping_offset_is : (h : Head) (rest : List ℕ) → FitsHead h → number_at 4 (head_bytes h ++ rest) 0x10 ≡ 0xF8
mapping_offset_is h rest fits = u32_told h rest 0x10 0xF8 fits refl (omega arith)

-- a field that lies wholly below mappingOffset counts
pub header_number-below : (w : ℕ) (c : List ℕ) (at end : ℕ) → number_at 4 c 0x10 ≡ end → at + w ≤ end → header_number w c at ≡ number_at w c at
unfolding header_number
header_number-below w c at end is below =
    let inside : nat_le (at + w) (number_at 4 c 0x10) ≡ true = grind (arith, nat_tests) in
    cond-true (nat_le (at + w) (number_at 4 c 0x10)) (number_at w c at) 0 inside

pub header_identifier-below : (c : List ℕ) (at end : ℕ) → number_at 4 c 0x10 ≡ end → at + 16 ≤ end → header_identifier c at ≡ take 16 (drop at c)
unfolding header_identifier
header_identifier-below c at end is below =
    let inside : nat_le (at + 16) (number_at 4 c 0x10) ≡ true = grind (arith, nat_tests) in
    cond-true (nat_le (at + 16) (number_at 4 c 0x10)) (take 16 (drop at c)) _ inside

pub header_u32 : (h : Head) (rest : List ℕ) (at v : ℕ) → FitsHead h → at + 4 ≤ 0xF8 → field_at (told h) at ≡ Some (U32 v) → v < 2 ^ 32 → header_number 4 (head_bytes h ++ rest) at ≡ v
header_u32 h rest at v fits below found small =
    header_number-below 4 (head_bytes h ++ rest) at 0xF8 (mapping_offset_is h rest fits) below ∙ u32_told h rest at v fits found small

pub header_u64 : (h : Head) (rest : List ℕ) (at v : ℕ) → FitsHead h → at + 8 ≤ 0xF8 → field_at (told h) at ≡ Some (U64 v) → v < 2 ^ 64 → header_number 8 (head_bytes h ++ rest) at ≡ v
header_u64 h rest at v fits below found small =
    header_number-below 8 (head_bytes h ++ rest) at 0xF8 (mapping_offset_is h rest fits) below ∙ u64_told h rest at v fits found small

pub image_count_is : (h : Head) (rest : List ℕ) → IsWritable h → FitsHead h → image_count (head_bytes h ++ rest) ≡ length h.images
image_count_is h rest writable fits = let few : length h.images ≤ 4096 = writable.few in header_u32 h rest 0x1C (length h.images) fits (omega arith) refl (omega arith)

pub image_table_is : (h : Head) (rest : List ℕ) → FitsHead h → header_number 4 (head_bytes h ++ rest) 0x18 ≡ 0x158
image_table_is h rest fits = header_u32 h rest 0x18 0x158 fits (omega arith) refl (omega arith)

pub text_table_is : (h : Head) (rest : List ℕ) → IsWritable h → FitsHead h → header_number 8 (head_bytes h ++ rest) 0x88 ≡ 0x158 + 32 * length h.images
text_table_is h rest writable fits =
    let few : length h.images ≤ 4096 = writable.few in header_u64 h rest 0x88 (0x158 + 32 * length h.images) fits (omega arith) refl (omega arith)

pub text_count_is : (h : Head) (rest : List ℕ) → IsWritable h → FitsHead h → header_number 8 (head_bytes h ++ rest) 0x90 ≡ length h.images
text_count_is h rest writable fits = let few : length h.images ≤ 4096 = writable.few in header_u64 h rest 0x90 (length h.images) fits (omega arith) refl (omega arith)

pub max_slide_is : (h : Head) (rest : List ℕ) → FitsHead h → max_slide (head_bytes h ++ rest) ≡ h.max_slide
max_slide_is h rest fits = header_u64 h rest 0xF0 h.max_slide fits (omega arith) refl fits.max_slide

pub slide_place_is : (h : Head) (rest : List ℕ) → FitsHead h → slide_place (head_bytes h ++ rest) ≡ h.slide_info
slide_place_is h rest fits =
    let at_is = header_u64 h rest 0x38 h.slide_info.at fits (omega arith) refl fits.slide_at in
    let len_is = header_u64 h rest 0x40 h.slide_info.len fits (omega arith) refl fits.slide_len in
    λ i. record { at = (at_is i); len = (len_is i) }

pub slide_info_bytes_is : (h : Head) (rest : List ℕ) → FitsHead h
    → slide_info_bytes (head_bytes h ++ rest) ≡ take h.slide_info.len (drop h.slide_info.at (head_bytes h ++ rest))
slide_info_bytes_is h rest fits = ap (λ (s : Span). take s.len (drop s.at (head_bytes h ++ rest))) (slide_place_is h rest fits)

pub uuid_is : (h : Head) (rest : List ℕ) → FitsHead h → header_identifier (head_bytes h ++ rest) 0x58 ≡ h.uuid
uuid_is h rest fits =
    header_identifier-below (head_bytes h ++ rest) 0x58 0xF8 (mapping_offset_is h rest fits) (omega arith) ∙ identifier_told h rest 0x58 h.uuid fits refl fits.uuid

-- ---- the mapping table

mapping_whole : (m : Mapping) → AreWhole (mapping_fields m)
mapping_whole m = search rules

mapping_there : (m : Mapping) (c : List ℕ) (at : ℕ) (after : List ℕ) → FitsMapping m → drop at c ≡ spelled (mapping_fields m) ++ after → mapping_at c at ≡ m
mapping_there m c at after fits there =
    let whole : AreWhole (mapping_fields m) = mapping_whole m in
    let first : number_at 8 c at ≡ m.address =
    ap (λ (n : ℕ). number_at 8 c n) (omega arith) ∙ u64_there (mapping_fields m) c at 0 m.address after whole there refl fits.address in
    let second : number_at 8 c (at + 8) ≡ m.size = u64_there (mapping_fields m) c at 8 m.size after whole there refl fits.size in
    let third : number_at 8 c (at + 16) ≡ m.file = u64_there (mapping_fields m) c at 16 m.file after whole there refl fits.file in
    let fourth : number_at 4 c (at + 24) ≡ m.max_prot = u32_there (mapping_fields m) c at 24 m.max_prot after whole there refl fits.max_prot in
    let fifth : number_at 4 c (at + 28) ≡ m.init_prot = u32_there (mapping_fields m) c at 28 m.init_prot after whole there refl fits.init_prot in
    λ i. record { address = (first i); size = (second i); file = (third i); max_prot = (fourth i); init_prot = (fifth i) }

mapping_length : (m : Mapping) → length (spelled (mapping_fields m)) ≡ 32
mapping_length m = length-spelled (mapping_fields m) (mapping_whole m)

mappings_there : (ms : List Mapping) (c : List ℕ) (at : ℕ) (rest : List ℕ) → All FitsMapping ms → drop at c ≡ spelled (flat_map mapping_fields ms) ++ rest → mappings_from (length ms) c at ≡ ms
mappings_there [] c at rest fits there = refl
mappings_there (m ∷ ms) c at rest fits there =
    let table : List ℕ = spelled (flat_map mapping_fields ms) in
    let split : drop at c ≡ spelled (mapping_fields m) ++ (table ++ rest) =
    there ∙ (ap (λ (l : List ℕ). l ++ rest) (spelled-append (mapping_fields m) (flat_map mapping_fields ms)) ∙ append_assoc (spelled (mapping_fields m)) table rest) in
    let first = mapping_there m c at (table ++ rest) (All-head FitsMapping m ms fits) split in
    let later : drop (at + 32) c ≡ table ++ rest =
    sym (drop-drop 32 at c) ∙ (ap (λ (l : List ℕ). drop 32 l) split ∙ drop_at (spelled (mapping_fields m)) (table ++ rest) 32 (mapping_length m)) in
    let others = mappings_there ms c (at + 32) rest (All-tail FitsMapping m ms fits) later in
    λ i. (first i) ∷ (others i)

pub behind_header : (h : Head) (rest : List ℕ) → FitsHead h → drop 0xF8 (head_bytes h ++ rest) ≡ behind h rest
behind_header h rest fits = ap (λ (c : List ℕ). drop 0xF8 c) (head_parts h rest) ∙ drop_at (spelled (told h)) (behind h rest) 0xF8 (told_length h fits)

-- the mappings are read back
pub mappings_are : (h : Head) (rest : List ℕ) → IsWritable h → FitsHead h → mappings_of (head_bytes h ++ rest) ≡ h.mappings
unfolding mappings_of
mappings_are h rest writable fits =
    let c : List ℕ = head_bytes h ++ rest in
    let count : number_at 4 c 0x14 ≡ length h.mappings = u32_told h rest 0x14 3 fits refl (omega arith) ∙ sym writable.three in
    ap₂ (λ (n at : ℕ). mappings_from n c at) count (mapping_offset_is h rest fits)
    ∙ mappings_there h.mappings c 0xF8 (spelled (image_table h.images) ++ (spelled (text_table h.images) ++ (flat_map path_bytes h.images ++ rest))) fits.mappings (behind_header h rest fits)

-- ---- where the tables of the images end

pub mapping_table-length : (h : Head) → IsWritable h → length (spelled (flat_map mapping_fields h.mappings)) ≡ 96
mapping_table-length h writable =
    length-table mapping_fields h.mappings (λ k d lt. mapping_length (get_or h.mappings k d))
    ∙ ap (λ (n : ℕ). 32 * n) writable.three
