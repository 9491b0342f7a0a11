-- Commands that are moved are as long as before.
use Rattle.std.proofs.Common.{◌≡◌, ◌≤◌, ◌⊎◌, inl, inr, ℕ, zero, suc, ◌+◌, ◌-◌, ◌*◌, ◌/◌, true, false, nat_eq, if◌then◌else◌, List, [], ◌∷◌, ◌++◌, take, drop, length, refl, ap, ◌∙◌, subst, arith, length-append, length-drop}
use Rattle.std.specs.Prelude.{filter}
use Rattle.std.specs.List.{concat, AllByRecursion}
use Rattle.std.proofs.lemmas.Bool.{cond-true, cond-false, eqb-true, or_cases}
use Rattle.std.proofs.lemmas.List.{length-take-le}
use Rattle.dsc_base.specs.Numbers.{number_at, put_number}
use Rattle.dsc_base.proofs.NumberLaws.{length-put_number}
use Rattle.macho_image.specs.declared.place.Moved.{Moved}
use Rattle.macho_image.specs.Macho.{number_of, is_segment, is_dyld_info, is_symtab, is_dysymtab, is_function_starts, is_data_in_code}
use Rattle.macho_image.specs.Rules.{least_size}
use Rattle.macho_image.proofs.CommandLaws.{IsWholeCommand}
use Rattle.macho_edit.specs.declared.segment.SegmentPlace.{SegmentPlace}
use Rattle.macho_edit.specs.declared.spots.LinkSpots.{LinkSpots}
use Rattle.macho_edit.specs.Segments.{place_for, section_address, section_offset, moved_section, moved_sections, moved_fields, placed_segment}
use Rattle.macho_edit.specs.Tables.{words, with_words, words_for, spotted}
use Rattle.macho_edit.specs.Cached.{is_kept, moved_command, moves_behind, moved_commands}
use Rattle.macho_edit.proofs.BoolLaws.{bool_cases}
use Rattle.macho_edit.proofs.AppendLaws.{length-words}

-- the commands that name streams and tables, and the others
pub data TableKind (n : ℕ) : Type 0 where
  Info : (n ≡ 0x22) ⊎ (n ≡ 0x8000_0022) → TableKind n
  Symtab : n ≡ 2 → TableKind n
  Dysymtab : n ≡ 0xB → TableKind n
  Starts : n ≡ 0x26 → TableKind n
  InCode : n ≡ 0x29 → TableKind n
  Other : is_dyld_info n ≡ false → is_symtab n ≡ false → is_dysymtab n ≡ false → is_function_starts n ≡ false → is_data_in_code n ≡ false → TableKind n

pub info_number : (n : ℕ) → is_dyld_info n ≡ true → (n ≡ 0x22) ⊎ (n ≡ 0x8000_0022)
info_number n is = elim (or_cases (nat_eq n 0x22) (nat_eq n 0x8000_0022) is) [ inl a ↦ inl (eqb-true n 0x22 a) | inr b ↦ inr (eqb-true n 0x8000_0022 b) ]

pub table_kind : (n : ℕ) → TableKind n
table_kind n = elim (bool_cases (is_dyld_info n)) [
  | inr info ↦ Info (info_number n info)
  | inl a ↦ elim (bool_cases (is_symtab n)) [
    | inr symtab ↦ Symtab (eqb-true n 2 symtab)
    | inl b ↦ elim (bool_cases (is_dysymtab n)) [
      | inr dysymtab ↦ Dysymtab (eqb-true n 0xB dysymtab)
      | inl c ↦ elim (bool_cases (is_function_starts n)) [
        | inr starts ↦ Starts (eqb-true n 0x26 starts)
        | inl d ↦ elim (bool_cases (is_data_in_code n)) [
          | inr code ↦ InCode (eqb-true n 0x29 code)
          | inl e ↦ Other a b c d e
        ]
      ]
    ]
  ]
]

-- a command that names no stream or table gets no numbers
pub words_none : (spots : LinkSpots) (n : ℕ) → is_dyld_info n ≡ false → is_symtab n ≡ false → is_dysymtab n ≡ false → is_function_starts n ≡ false → is_data_in_code n ≡ false → words_for spots n ≡ []
words_none spots n a b c d e =
    cond-false (is_dyld_info n) _ _ a ∙ (cond-false (is_symtab n) _ _ b ∙ (cond-false (is_dysymtab n) _ _ c ∙ (cond-false (is_function_starts n) _ _ d ∙ cond-false (is_data_in_code n) _ _ e)))

-- a command has room for the numbers that it gets
pub words_fit : (spots : LinkSpots) (n size : ℕ) → length spots.groups ≡ 6 → 8 ≤ size → least_size n ≤ size → 8 + 4 * length (words_for spots n) ≤ size
words_fit spots n size six some least = elim (table_kind n) [
  | Info (inl is) ↦ fits 0x22 48 10 is refl refl (omega arith)
  | Info (inr is) ↦ fits 0x8000_0022 48 10 is refl refl (omega arith)
  | Symtab is ↦ fits 2 24 4 is refl refl (omega arith)
  | Dysymtab is ↦ fits 0xB 80 18 is refl (length-append spots.groups _ ∙ omega arith) (omega arith)
  | Starts is ↦ fits 0x26 16 2 is refl refl (omega arith)
  | InCode is ↦ fits 0x29 16 2 is refl refl (omega arith)
  | Other a b c d e ↦ omega (arith, ap length (words_none spots n a b c d e))
]
  where
    fits : (k l m : ℕ) → n ≡ k → least_size k ≡ l → length (words_for spots k) ≡ m → 8 + 4 * m ≤ l → 8 + 4 * length (words_for spots n) ≤ size
    fits k l m is least_is len room =
        let a : length (words_for spots n) ≡ m = ap (λ (j : ℕ). length (words_for spots j)) is ∙ len in
        let b : least_size n ≡ l = ap least_size is ∙ least_is in
        omega arith

pub length-with_words : (ns c : List ℕ) → 8 + 4 * length ns ≤ length c → length (with_words ns c) ≡ length c
unfolding with_words
length-with_words ns c room =
    omega (arith, length-append (take 8 c) (words ns ++ drop (8 + 4 * length ns) c), length-append (words ns) (drop (8 + 4 * length ns) c), length-words ns, length-take-le 8 c (omega arith), length-drop (8 + 4 * length ns) c)

pub length-spotted : (spots : LinkSpots) (c : List ℕ) → length spots.groups ≡ 6 → 8 ≤ length c → least_size (number_of c) ≤ length c → length (spotted spots c) ≡ length c
unfolding spotted
length-spotted spots c six some least = length-with_words (words_for spots (number_of c)) c (words_fit spots (number_of c) (length c) six some least)

pub length-moved_section : (p : SegmentPlace) (start : ℕ) (x : List ℕ) → length x ≡ 80 → length (moved_section p start x) ≡ 80
unfolding moved_section
length-moved_section p start x eighty =
    let addr : ℕ = section_address p (number_at 8 x 32 - start) in
    let first : length (put_number 8 x 32 addr) ≡ length x = length-put_number 8 x 32 addr (omega arith) in
    length-put_number 4 (put_number 8 x 32 addr) 48 (section_offset p (number_at 4 x 64) (number_at 8 x 32 - start)) (omega arith) ∙ (first ∙ eighty)

pub length-moved_sections : (p : SegmentPlace) (start n : ℕ) (bytes : List ℕ) → 80 * n ≤ length bytes → length (moved_sections p start n bytes) ≡ 80 * n
unfolding moved_sections
length-moved_sections p start zero bytes within = refl
length-moved_sections p start (suc n) bytes within =
    length-append (moved_section p start (take 80 bytes)) (moved_sections p start n (drop 80 bytes))
    ∙ omega (arith, length-moved_section p start (take 80 bytes) (length-take-le 80 bytes (omega arith)), length-moved_sections p start n (drop 80 bytes) (omega (arith, length-drop 80 bytes)))

pub length-moved_fields : (p : SegmentPlace) (front : List ℕ) → 72 ≤ length front → length (moved_fields p front) ≡ length front
unfolding moved_fields
length-moved_fields p front len =
    let a : List ℕ = put_number 8 front 24 p.address in
    let b : List ℕ = put_number 8 a 32 p.vmsize in
    let c : List ℕ = put_number 8 b 40 p.file in
    let la : length a ≡ length front = length-put_number 8 front 24 p.address (omega arith) in
    let lb : length b ≡ length front = length-put_number 8 a 32 p.vmsize (omega arith) ∙ la in
    let lc : length c ≡ length front = length-put_number 8 b 40 p.file (omega arith) ∙ lb in
    length-put_number 8 c 48 p.filesize (omega arith) ∙ lc

pub length-placed_segment : (p : SegmentPlace) (c : List ℕ) → 72 ≤ length c → length (placed_segment p c) ≡ 72 + 80 * ((length c - 72) / 80)
unfolding placed_segment
length-placed_segment p c front =
    let n : ℕ = (length c - 72) / 80 in
    let len : length (take 72 c) ≡ 72 = length-take-le 72 c front in
    let tail : length (moved_sections p (number_at 8 c 24) n (drop 72 c)) ≡ 80 * n = length-moved_sections p (number_at 8 c 24) n (drop 72 c) (omega (arith, length-drop 72 c)) in
    length-append (moved_fields p (take 72 c)) (moved_sections p (number_at 8 c 24) n (drop 72 c)) ∙ omega (arith, length-moved_fields p (take 72 c) (omega arith), tail)

-- a segment's number asks for 72 bytes
segment_front : (c : List ℕ) → is_segment (number_of c) ≡ true → least_size (number_of c) ≤ length c → 72 ≤ length c
segment_front c is least = subst (λ (n : ℕ). n ≤ length c) (cond-true (is_segment (number_of c)) 72 _ is) least

pub moved_command_fits : (spots : LinkSpots) (moves : List Moved) (c : List ℕ) → length spots.groups ≡ 6 → IsWholeCommand c → length (moved_command spots moves c) ≤ length c
moved_command_fits spots [] c six whole = let same : length (spotted spots c) ≡ length c = length-spotted spots c six whole.sized.some whole.least in omega arith
moved_command_fits spots (m ∷ ms) c six whole =
    let same : length (spotted spots c) ≡ length c = length-spotted spots c six whole.sized.some whole.least in
    let p : SegmentPlace = place_for spots m (take 16 (drop 8 c)) (number_at 8 c 32) in
    elim (is_segment (number_of c)) as (λ b. is_segment (number_of c) ≡ b → length (if◌then◌else◌ {A = List ℕ} b (placed_segment p c) (spotted spots c)) ≤ length c) [
      | true ↦ λ is. let front : 72 ≤ length c = segment_front c is whole.least in omega (arith, length-placed_segment p c front)
      | false ↦ λ other. omega arith
    ] refl

pub moved_commands_fit : (spots : LinkSpots) (moves : List Moved) (cs : List (List ℕ)) → length spots.groups ≡ 6 → AllByRecursion IsWholeCommand cs → length (concat (moved_commands spots moves cs)) ≤ length (concat cs)
unfolding moved_commands
moved_commands_fit spots moves [] six whole = omega arith
moved_commands_fit spots moves (c ∷ cs) six whole =
    omega (arith, length-append (moved_command spots moves c) (concat (moved_commands spots (moves_behind moves c) cs)), length-append c (concat cs), moved_command_fits spots moves c six whole.0, moved_commands_fit spots (moves_behind moves c) cs six whole.1)

-- commands that are left out leave the others whole, and no more bytes
pub kept_whole : (cs : List (List ℕ)) → AllByRecursion IsWholeCommand cs → AllByRecursion IsWholeCommand (filter is_kept cs)
kept_whole [] whole = tt
kept_whole (c ∷ cs) whole = elim (is_kept c) as (λ b. AllByRecursion IsWholeCommand (if◌then◌else◌ {A = List (List ℕ)} b (c ∷ filter is_kept cs) (filter is_kept cs))) [
  | true ↦ (whole.0, kept_whole cs whole.1)
  | false ↦ kept_whole cs whole.1
]

pub kept_fit : (cs : List (List ℕ)) → length (concat (filter is_kept cs)) ≤ length (concat cs)
kept_fit [] = omega arith
kept_fit (c ∷ cs) = elim (is_kept c) as (λ b. length (concat (if◌then◌else◌ {A = List (List ℕ)} b (c ∷ filter is_kept cs) (filter is_kept cs))) ≤ length (concat (c ∷ cs))) [
  | true ↦ omega (arith, length-append c (concat (filter is_kept cs)), length-append c (concat cs), kept_fit cs)
  | false ↦ omega (arith, length-append c (concat cs), kept_fit cs)
]
