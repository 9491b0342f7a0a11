-- A head that was written is read back whole, whatever follows it, and nothing is found wrong with it.
use Rattle.std.proofs.Common.{◌≡◌, ◌≤◌, ◌<◌, ℕ, ◌+◌, ◌*◌, true, false, Bool, not, ◌&&◌, ◌||◌, nat_eq, Option, None, List, [], ◌∷◌, ◌++◌, length, get_or, refl, ap, ap₂, ◌∙◌, arith, length-append, append_assoc, replicate, ◌-◌}
use Rattle.std.specs.Prelude.{is_some, option_map}
use Rattle.std.specs.List.{flat_map, sum_by, list_any}
use Rattle.std.specs.Cmp.Lexicographic.{pointwise}
use Rattle.std.proofs.lemmas.Bool.{cond-false}
use Rattle.std.proofs.lemmas.Bool.Decides.{nat_tests}
use Rattle.std.proofs.lemmas.List.Concat.{length-flat_map}
use Rattle.std.proofs.lemmas.List.{append-nil}
use Rattle.dsc_base.specs.Numbers.{number_at}
use Rattle.dsc_base.specs.Region.{padded}
use Rattle.dsc_base.specs.Fields.{spelled}
use Rattle.dsc_base.specs.declared.finding_kind.FindingKind.TheVariants.{NameNotPlain}
use Rattle.cache_header.specs.Records.{Entry, Head}
use Rattle.dsc_base.specs.Texts.{is_plain_text}
use Rattle.cache_header.specs.Paths.{is_nul}
use Rattle.cache_header.specs.Spelling.{magic, mapping_fields, image_table, text_table, path_bytes, path_room, head_bytes, IsWritable}
use Rattle.cache_header.specs.Reading.{header_number, image_count, path_offset, head_read}
use Rattle.cache_header.specs.Findings.{is_cache, has_header, has_table, has_text_table, table_outside, begins_plain, has_plain_path, ill_named, finding, head_finding}
use Rattle.cache_header.specs.Widths.{FitsHead}
use Rattle.cache_header.proofs.PathLaws.{length-paths}
use Rattle.cache_header.proofs.NameLaws.{all_named}
use Rattle.cache_header.proofs.HeadLaws.{told, head_parts}
use Rattle.cache_header.proofs.BackHead.{told_length, mapping_table-length, mapping_offset_is, u32_told, identifier_told, image_count_is, image_table_is, text_table_is, text_count_is, max_slide_is, slide_place_is, uuid_is, mappings_are}
use Rattle.cache_header.proofs.BackImages.{nothing, image_table-length, text_table-length, images_are, image_path_is, path_there}

pub head_read_back : (h : Head) (rest : List ℕ) → IsWritable h → FitsHead h → head_read (head_bytes h ++ rest) ≡ h
unfolding head_read
head_read_back h rest writable fits =
    let mappings = mappings_are h rest writable fits in
    let images = images_are h rest writable fits in
    let slide = slide_place_is h rest fits in
    let uuid = uuid_is h rest fits in
    let max = max_slide_is h rest fits in
    λ i. record { mappings = (mappings i); images = (images i); slide_info = (slide i); uuid = (uuid i); max_slide = (max i) }

-- ---- its length

pub length-head_bytes : (h : Head) (rest : List ℕ) → IsWritable h → FitsHead h
    → length (head_bytes h ++ rest) ≡ 0x158 + 64 * length h.images + sum_by path_room h.images + length rest
length-head_bytes h rest writable fits =
    let a : List ℕ = spelled (told h) in
    let b : List ℕ = spelled (flat_map mapping_fields h.mappings) in
    let c : List ℕ = spelled (image_table h.images) in
    let d : List ℕ = spelled (text_table h.images) in
    let e : List ℕ = flat_map path_bytes h.images in
    omega (
      arith,
      ap (λ (l : List ℕ). length l) (head_parts h rest),
      length-append a (b ++ (c ++ (d ++ (e ++ rest)))),
      length-append b (c ++ (d ++ (e ++ rest))),
      length-append c (d ++ (e ++ rest)),
      length-append d (e ++ rest),
      length-append e rest,
      told_length h fits,
      mapping_table-length h writable,
      image_table-length h.images,
      text_table-length h.images fits.images,
      length-flat_map path_bytes h.images,
      length-paths h.images,
    )

pub length-head : (h : Head) → IsWritable h → FitsHead h → length (head_bytes h) ≡ 0xF8 + 96 + 64 * length h.images + sum_by path_room h.images
length-head h writable fits =
    omega (arith, length-head_bytes h [] writable fits, ap (λ (l : List ℕ). length l) (append-nil (head_bytes h)))

long_enough : (h : Head) (rest : List ℕ) → IsWritable h → FitsHead h → 0x158 + 64 * length h.images ≤ length (head_bytes h ++ rest)
long_enough h rest writable fits = omega (arith, length-head_bytes h rest writable fits)

-- a head with zeros behind it begins with the head
pub padded_head : (size : ℕ) (h : Head) (tail : List ℕ) → padded size (head_bytes h) ++ tail ≡ head_bytes h ++ (replicate (size - length (head_bytes h)) 0 ++ tail)
padded_head size h tail = append_assoc (head_bytes h) (replicate (size - length (head_bytes h)) 0) tail

-- ---- nothing is found

or_true : (b : Bool) → b || true ≡ true
or_true true = refl
or_true false = refl

magic_there : (h : Head) (rest : List ℕ) → FitsHead h → is_cache (head_bytes h ++ rest) ≡ true
magic_there h rest fits =
    ap (λ (l : List ℕ). pointwise nat_eq magic l) (identifier_told h rest 0 magic fits refl refl)

header_there : (h : Head) (rest : List ℕ) → IsWritable h → FitsHead h → has_header (head_bytes h ++ rest) ≡ true
unfolding has_header
header_there h rest writable fits =
    let long = long_enough h rest writable fits in
    let offset = mapping_offset_is h rest fits in
    grind (arith, nat_tests)

table_there : (c : List ℕ) (at count : ℕ) → count ≤ 4096 → at + 32 * count ≤ length c → has_table c at count ≡ true
table_there c at count few inside = grind (arith, nat_tests)

tables_there : (h : Head) (rest : List ℕ) → IsWritable h → FitsHead h → table_outside (head_bytes h ++ rest) ≡ None
unfolding table_outside
tables_there h rest writable fits =
    let c : List ℕ = head_bytes h ++ rest in
    let long = long_enough h rest writable fits in
    let few : length h.images ≤ 4096 = writable.few in
    let mapping_count : number_at 4 c 0x14 ≡ 3 = u32_told h rest 0x14 3 fits refl (omega arith) in
    let mappings : has_table c (number_at 4 c 0x10) (number_at 4 c 0x14) ≡ true =
    table_there c (number_at 4 c 0x10) (number_at 4 c 0x14) (omega (arith, mapping_count)) (omega (arith, mapping_count, mapping_offset_is h rest fits, long)) in
    let images : has_table c (header_number 4 c 0x18) (image_count c) ≡ true =
    table_there c (header_number 4 c 0x18) (image_count c) (omega (arith, image_count_is h rest writable fits)) (omega (arith, image_count_is h rest writable fits, image_table_is h rest fits, long)) in
    let texts : has_table c (header_number 8 c 0x88) (header_number 8 c 0x90) ≡ true =
    table_there c (header_number 8 c 0x88) (header_number 8 c 0x90) (omega (arith, text_count_is h rest writable fits)) (omega (arith, text_count_is h rest writable fits, text_table_is h rest writable fits, long)) in
    let texts_or_none : has_text_table c (header_number 8 c 0x88) (header_number 8 c 0x90) ≡ true = ap (λ (b : Bool). nat_eq (header_number 8 c 0x90) 0 || b) texts ∙ or_true (nat_eq (header_number 8 c 0x90) 0) in
    cond-false (not (has_table c (number_at 4 c 0x10) (number_at 4 c 0x14))) _ _ (ap not mappings)
    ∙ (cond-false (not (has_table c (header_number 4 c 0x18) (image_count c))) _ _ (ap not images)
    ∙ cond-false (not (has_text_table c (header_number 8 c 0x88) (header_number 8 c 0x90))) _ _ (ap not texts_or_none))

nul_there : (text rest : List ℕ) → list_any is_nul (text ++ 0 ∷ rest) ≡ true
nul_there [] rest = refl
nul_there (x ∷ xs) rest = ap (λ (b : Bool). is_nul x || b) (nul_there xs rest) ∙ or_true (is_nul x)

path_there_plain : (h : Head) (rest : List ℕ) (k : ℕ) (d : Entry) → IsWritable h → FitsHead h → k < length h.images → has_plain_path (head_bytes h ++ rest) k ≡ true
unfolding begins_plain
path_there_plain h rest k d writable fits lt =
    let there = path_there h rest k d writable fits lt in
    ap₂ (λ (a b : Bool). a && b)
    (ap (list_any is_nul) there.1 ∙ nul_there (get_or h.images k d).path there.0)
    (ap is_plain_text (image_path_is h rest k d writable fits lt) ∙ writable.plain k d lt)

names_there : (h : Head) (rest : List ℕ) → IsWritable h → FitsHead h → ill_named (head_bytes h ++ rest) ≡ None
names_there h rest writable fits =
    let count : image_count (head_bytes h ++ rest) ≡ length h.images = image_count_is h rest writable fits in
    all_named (head_bytes h ++ rest) (length h.images) (omega (arith, count)) (λ k lt. path_there_plain h rest k nothing writable fits lt)

pub head_sound : (h : Head) (rest : List ℕ) → IsWritable h → FitsHead h → head_finding (head_bytes h ++ rest) ≡ None
unfolding head_finding
head_sound h rest writable fits =
    let c : List ℕ = head_bytes h ++ rest in
    cond-false (not (is_cache c)) _ _ (ap not (magic_there h rest fits))
    ∙ (cond-false (not (has_header c)) _ _ (ap not (header_there h rest writable fits))
    ∙ (cond-false (is_some (table_outside c)) _ _ (ap is_some (tables_there h rest writable fits))
    ∙ ap (λ (o : Option ℕ). option_map (λ k. finding NameNotPlain k (path_offset c k)) o) (names_there h rest writable fits)))
