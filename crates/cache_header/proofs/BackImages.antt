-- What a head that was written says of its images, whatever follows it.
use Rattle.std.proofs.Common.{◌≡◌, ◌<◌, ℕ, ◌+◌, ◌*◌, true, false, Bool, not, ◌&&◌, nat_eq, nat_le, List, [], ◌∷◌, ◌++◌, take, drop, length, get_or, All, replicate, refl, sym, ap, ap₂, ◌∙◌, arith, rules, append_assoc}
use Rattle.std.specs.List.{flat_map, enumerate_from, sum_by, list_all, before_first, position_or_len}
use Rattle.std.proofs.lemmas.Bool.{cond-true}
use Rattle.std.proofs.lemmas.Bool.Decides.{nat_tests}
use Rattle.std.proofs.lemmas.List.{drop_at, take_at, drop-drop}
use Rattle.std.proofs.lemmas.List.Elements.{All-from_get_or}
use Rattle.std.proofs.lemmas.List.FromFn.{length-enumerate_from, fill_by_all}
use Rattle.dsc_base.specs.Numbers.{number_at}
use Rattle.dsc_base.specs.Fields.{spelled, AreWhole}
use Rattle.dsc_base.proofs.FieldLaws.{length-spelled, identifier_spelled}
use Rattle.cache_header.specs.Records.{Entry, Head}
use Rattle.dsc_base.specs.Texts.{is_printable}
use Rattle.cache_header.specs.Paths.{is_nul}
use Rattle.cache_header.specs.Spelling.{mapping_fields, image_fields, text_fields, image_table, text_table, path_bytes, path_room, path_place, head_bytes, IsWritable}
use Rattle.cache_header.specs.Reading.{header_number, image_count, image_address, path_offset, image_path, has_texts, image_uuid, image_text_size, image_at, images_of}
use Rattle.cache_header.specs.Widths.{FitsEntry, FitsHead}
use Rattle.dsc_base.proofs.TextLaws.{IsPlain, plain_is}
use Rattle.cache_header.proofs.PathLaws.{length-paths, path_place-fits}
use Rattle.cache_header.proofs.PlaceLaws.{piece_at, length-table, numbered, image_entry, u32_there, u64_there}
use Rattle.cache_header.proofs.BackHead.{behind_header, mapping_table-length, image_table_is, text_table_is, image_count_is, text_count_is}

-- ---- the tables

image_whole : (images : List Entry) (p : ℕ × Entry) → AreWhole (image_fields images p)
image_whole images p = search rules

text_whole : (images : List Entry) (p : ℕ × Entry) → FitsEntry p.1 → AreWhole (text_fields images p)
text_whole images p fits = let sixteen : length p.1.uuid ≡ 16 = fits.uuid in search (rules, sixteen)

image_lengths : (images : List Entry) → All (λ p. length (spelled (image_fields images p)) ≡ 32) (enumerate_from 0 images)
image_lengths images k d lt = length-spelled (image_fields images (get_or (enumerate_from 0 images) k d)) (image_whole images (get_or (enumerate_from 0 images) k d))

-- an image of no name
abbrev pub nothing : Entry
nothing = record { address = 0; path = []; uuid = []; text_size = 0 }

text_lengths : (images : List Entry) → All FitsEntry images → All (λ p. length (spelled (text_fields images p)) ≡ 32) (enumerate_from 0 images)
text_lengths images fits =
    All-from_get_or (λ (p : ℕ × Entry). length (spelled (text_fields images p)) ≡ 32) (enumerate_from 0 images) (0, nothing) (λ k lt.
    let inside : k < length images = omega (arith, length-enumerate_from 0 images) in
    let e : Entry = get_or images k nothing in
    ap (λ (p : ℕ × Entry). length (spelled (text_fields images p))) (numbered images k nothing inside)
    ∙ length-spelled (text_fields images (k, e)) (text_whole images (k, e) (fits k nothing inside)))

pub image_table-length : (images : List Entry) → length (spelled (image_table images)) ≡ 32 * length images
image_table-length images =
    length-table (image_fields images) (enumerate_from 0 images) (image_lengths images) ∙ ap (λ (n : ℕ). 32 * n) (length-enumerate_from 0 images)

pub text_table-length : (images : List Entry) → All FitsEntry images → length (spelled (text_table images)) ≡ 32 * length images
text_table-length images fits =
    length-table (text_fields images) (enumerate_from 0 images) (text_lengths images fits) ∙ ap (λ (n : ℕ). 32 * n) (length-enumerate_from 0 images)

-- behind a part of n bytes
past : (c a b : List ℕ) (at n : ℕ) → drop at c ≡ a ++ b → length a ≡ n → drop (at + n) c ≡ b
past c a b at n there len = sym (drop-drop n at c) ∙ (ap (λ (l : List ℕ). drop n l) there ∙ drop_at a b n len)

pub behind_mappings : (h : Head) (rest : List ℕ) → IsWritable h → FitsHead h
    → drop 0x158 (head_bytes h ++ rest) ≡ spelled (image_table h.images) ++ (spelled (text_table h.images) ++ (flat_map path_bytes h.images ++ rest))
behind_mappings h rest writable fits =
    past (head_bytes h ++ rest) (spelled (flat_map mapping_fields h.mappings)) (spelled (image_table h.images) ++ (spelled (text_table h.images) ++ (flat_map path_bytes h.images ++ rest)))
    0xF8 96 (behind_header h rest fits) (mapping_table-length h writable)

pub behind_images : (h : Head) (rest : List ℕ) → IsWritable h → FitsHead h
    → drop (0x158 + 32 * length h.images) (head_bytes h ++ rest) ≡ spelled (text_table h.images) ++ (flat_map path_bytes h.images ++ rest)
behind_images h rest writable fits =
    past (head_bytes h ++ rest) (spelled (image_table h.images)) (spelled (text_table h.images) ++ (flat_map path_bytes h.images ++ rest))
    0x158 (32 * length h.images) (behind_mappings h rest writable fits) (image_table-length h.images)

pub behind_texts : (h : Head) (rest : List ℕ) → IsWritable h → FitsHead h → drop (0x158 + 64 * length h.images) (head_bytes h ++ rest) ≡ flat_map path_bytes h.images ++ rest
behind_texts h rest writable fits =
    let n : ℕ = length h.images in
    let place : 0x158 + 64 * n ≡ (0x158 + 32 * n) + 32 * n = omega arith in
    ap (λ (at : ℕ). drop at (head_bytes h ++ rest)) place
    ∙ past (head_bytes h ++ rest) (spelled (text_table h.images)) (flat_map path_bytes h.images ++ rest)
    (0x158 + 32 * n) (32 * n) (behind_images h rest writable fits) (text_table-length h.images fits.images)

-- ---- one image

image_there : (h : Head) (rest : List ℕ) (k : ℕ) (d : Entry) → IsWritable h → FitsHead h → k < length h.images
    → (after : List ℕ) × (drop (0x158 + 32 * k) (head_bytes h ++ rest) ≡ spelled (image_fields h.images (k, get_or h.images k d)) ++ after)
image_there h rest k d writable fits lt =
    let c : List ℕ = head_bytes h ++ rest in
    let found = image_entry (image_fields h.images) h.images k d (spelled (text_table h.images) ++ (flat_map path_bytes h.images ++ rest)) (image_lengths h.images) lt in
    (found.0, sym (drop-drop (32 * k) 0x158 c) ∙ (ap (λ (l : List ℕ). drop (32 * k) l) (behind_mappings h rest writable fits) ∙ found.1))

text_there : (h : Head) (rest : List ℕ) (k : ℕ) (d : Entry) → IsWritable h → FitsHead h → k < length h.images
    → (after : List ℕ) × (drop (0x158 + 32 * length h.images + 32 * k) (head_bytes h ++ rest) ≡ spelled (text_fields h.images (k, get_or h.images k d)) ++ after)
text_there h rest k d writable fits lt =
    let c : List ℕ = head_bytes h ++ rest in
    let found = image_entry (text_fields h.images) h.images k d (flat_map path_bytes h.images ++ rest) (text_lengths h.images fits.images) lt in
    (found.0, sym (drop-drop (32 * k) (0x158 + 32 * length h.images) c) ∙ (ap (λ (l : List ℕ). drop (32 * k) l) (behind_images h rest writable fits) ∙ found.1))

-- the address of image k
pub image_address_is : (h : Head) (rest : List ℕ) (k : ℕ) (d : Entry) → IsWritable h → FitsHead h → k < length h.images
    → image_address (head_bytes h ++ rest) k ≡ (get_or h.images k d).address
image_address_is h rest k d writable fits lt =
    let c : List ℕ = head_bytes h ++ rest in
    let e : Entry = get_or h.images k d in
    let there = image_there h rest k d writable fits lt in
    let small : FitsEntry e = fits.images k d lt in
    let place : header_number 4 c 0x18 + 32 * k ≡ 0x158 + 32 * k + 0 = omega (arith, image_table_is h rest fits) in
    ap (λ (n : ℕ). number_at 8 c n) place
    ∙ u64_there (image_fields h.images (k, e)) c (0x158 + 32 * k) 0 e.address there.0 (image_whole h.images (k, e)) there.1 refl small.address

-- the place of its path
pub path_offset_is : (h : Head) (rest : List ℕ) (k : ℕ) → IsWritable h → FitsHead h → k < length h.images
    → path_offset (head_bytes h ++ rest) k ≡ path_place h.images k
path_offset_is h rest k writable fits lt =
    let c : List ℕ = head_bytes h ++ rest in
    let e : Entry = get_or h.images k nothing in
    let there = image_there h rest k nothing writable fits lt in
    let place : header_number 4 c 0x18 + 32 * k + 24 ≡ 0x158 + 32 * k + 24 = omega (arith, image_table_is h rest fits) in
    ap (λ (n : ℕ). number_at 4 c n) place
    ∙ u32_there (image_fields h.images (k, e)) c (0x158 + 32 * k) 24 (path_place h.images k) there.0 (image_whole h.images (k, e)) there.1 refl
    (path_place-fits h.images k writable.few writable.plain)

-- what stands there: the path, a NUL, and more
pub path_there : (h : Head) (rest : List ℕ) (k : ℕ) (d : Entry) → IsWritable h → FitsHead h → k < length h.images
    → (after : List ℕ) × (drop (path_offset (head_bytes h ++ rest) k) (head_bytes h ++ rest) ≡ (get_or h.images k d).path ++ 0 ∷ after)
unfolding path_place
path_there h rest k d writable fits lt =
    let c : List ℕ = head_bytes h ++ rest in
    let e : Entry = get_or h.images k d in
    let before : ℕ = sum_by path_room (take k h.images) in
    let after : List ℕ = flat_map path_bytes (drop (k + 1) h.images) ++ rest in (
      after,
      ap (λ (n : ℕ). drop n c) (path_offset_is h rest k writable fits lt)
          ∙ (sym (drop-drop before (0x158 + 64 * length h.images) c)
          ∙ (ap₂ (λ (n : ℕ) (l : List ℕ). drop n l) (sym (length-paths (take k h.images))) (behind_texts h rest writable fits)
          ∙ (piece_at path_bytes h.images k d rest lt ∙ append_assoc e.path (0 ∷ []) after))),
    )

-- a printable byte isn't a NUL
printable_first : (x : ℕ) (others : Bool) → (nat_le 0x20 x && nat_le x 0x7E) && others ≡ true → (not (nat_eq x 0) ≡ true) × (others ≡ true)
printable_first x true plain =
    let first : not (nat_eq x 0) ≡ true = grind (arith, nat_tests) in
    (first, refl)
printable_first x false plain = absurd (grind (arith, nat_tests))

printable_length : (text rest : List ℕ) → list_all is_printable text ≡ true → position_or_len is_nul (text ++ 0 ∷ rest) ≡ length text
printable_length [] rest plain = refl
printable_length (x ∷ xs) rest plain =
    let first : (not (nat_eq x 0) ≡ true) × (list_all is_printable xs ≡ true) = printable_first x (list_all is_printable xs) plain in
    let later : position_or_len is_nul (xs ++ 0 ∷ rest) ≡ length xs = printable_length xs rest first.1 in
    cond-true (not (nat_eq x 0)) (1 + position_or_len is_nul (xs ++ 0 ∷ rest)) 0 first.0 ∙ omega (arith, later)

-- what stands before the first NUL of printable text and a NUL is the text
pub before_nul : (text rest : List ℕ) → list_all is_printable text ≡ true → before_first is_nul (text ++ 0 ∷ rest) ≡ text
before_nul text rest plain = take_at text (0 ∷ rest) (position_or_len is_nul (text ++ 0 ∷ rest)) (sym (printable_length text rest plain))

-- the path of image k
pub image_path_is : (h : Head) (rest : List ℕ) (k : ℕ) (d : Entry) → IsWritable h → FitsHead h → k < length h.images
    → image_path (head_bytes h ++ rest) k ≡ (get_or h.images k d).path
image_path_is h rest k d writable fits lt =
    let e : Entry = get_or h.images k d in
    let there = path_there h rest k d writable fits lt in
    let plain : IsPlain e.path = plain_is e.path (writable.plain k d lt) in
    ap (before_first is_nul) there.1 ∙ before_nul e.path there.0 plain.printable

-- the image text table has an entry for each image
pub has_texts_is : (h : Head) (rest : List ℕ) → IsWritable h → FitsHead h → has_texts (head_bytes h ++ rest) ≡ true
has_texts_is h rest writable fits =
    let count : header_number 8 (head_bytes h ++ rest) 0x90 ≡ image_count (head_bytes h ++ rest) = text_count_is h rest writable fits ∙ sym (image_count_is h rest writable fits) in
    grind (arith, nat_tests)

pub image_uuid_is : (h : Head) (rest : List ℕ) (k : ℕ) (d : Entry) → IsWritable h → FitsHead h → k < length h.images
    → image_uuid (head_bytes h ++ rest) k ≡ (get_or h.images k d).uuid
image_uuid_is h rest k d writable fits lt =
    let c : List ℕ = head_bytes h ++ rest in
    let e : Entry = get_or h.images k d in
    let there = text_there h rest k d writable fits lt in
    let small : FitsEntry e = fits.images k d lt in
    cond-true (has_texts c) (take 16 (drop (header_number 8 c 0x88 + 32 * k) c)) (replicate 16 0) (has_texts_is h rest writable fits)
    ∙ (ap (λ (n : ℕ). take 16 (drop (n + 32 * k) c)) (text_table_is h rest writable fits)
    ∙ (ap (λ (l : List ℕ). take 16 l) there.1
    ∙ identifier_spelled (text_fields h.images (k, e)) 0 e.uuid there.0 (text_whole h.images (k, e) small) refl small.uuid))

pub image_text_size_is : (h : Head) (rest : List ℕ) (k : ℕ) (d : Entry) → IsWritable h → FitsHead h → k < length h.images
    → image_text_size (head_bytes h ++ rest) k ≡ (get_or h.images k d).text_size
image_text_size_is h rest k d writable fits lt =
    let c : List ℕ = head_bytes h ++ rest in
    let e : Entry = get_or h.images k d in
    let there = text_there h rest k d writable fits lt in
    let small : FitsEntry e = fits.images k d lt in
    cond-true (has_texts c) (number_at 4 c (header_number 8 c 0x88 + 32 * k + 24)) 0 (has_texts_is h rest writable fits)
    ∙ (ap (λ (n : ℕ). number_at 4 c (n + 32 * k + 24)) (text_table_is h rest writable fits)
    ∙ u32_there (text_fields h.images (k, e)) c (0x158 + 32 * length h.images + 32 * k) 24 e.text_size there.0 (text_whole h.images (k, e) small) there.1 refl small.text_size)

pub image_is : (h : Head) (rest : List ℕ) (k : ℕ) (d : Entry) → IsWritable h → FitsHead h → k < length h.images → image_at (head_bytes h ++ rest) k ≡ get_or h.images k d
unfolding image_at
image_is h rest k d writable fits lt =
    let address_is = image_address_is h rest k d writable fits lt in
    let path_is = image_path_is h rest k d writable fits lt in
    let uuid_is = image_uuid_is h rest k d writable fits lt in
    let text_size_is = image_text_size_is h rest k d writable fits lt in
    λ i. record { address = (address_is i); path = (path_is i); uuid = (uuid_is i); text_size = (text_size_is i) }

-- the images are read back
pub images_are : (h : Head) (rest : List ℕ) → IsWritable h → FitsHead h → images_of (head_bytes h ++ rest) ≡ h.images
unfolding images_of
images_are h rest writable fits =
    let c : List ℕ = head_bytes h ++ rest in
    let count : image_count c ≡ length h.images = image_count_is h rest writable fits in
    sym (fill_by_all (image_at c) h.images (image_count c) nothing (sym count) (λ k lt. sym (image_is h rest k nothing writable fits (omega arith))))
