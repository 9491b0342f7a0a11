-- Rules 14 and 17: no command that is moved names relocations, or a range outside the linkedit.
use Rattle.std.proofs.Common.{◌≡◌, ◌≤◌, ◌<◌, inl, inr, ℕ, ◌+◌, ◌*◌, ◌/◌, Bool, true, false, not, ◌&&◌, ◌||◌, nat_eq, nat_le, nat_lt, if◌then◌else◌, None, List, [], ◌∷◌, refl, ap, ap₂, ◌∙◌, arith}
use Rattle.std.proofs.lemmas.Bool.{cond-false, eqb-true, le-leb, and_from}
use Rattle.std.proofs.lemmas.Bool.Decides.{nat_tests}
use Rattle.dsc_base.specs.Numbers.{number_at}
use Rattle.dsc_base.specs.declared.fault.Span.{Span}
use Rattle.macho_image.specs.Macho.{number_of, is_segment, is_dyld_info, is_symtab, is_dysymtab, is_function_starts, is_data_in_code, is_split_info, loads_from}
use Rattle.macho_image.specs.Rules.{first_load, leaves_range, leaves, info_leaves, is_data_stream, names_outside, names_relocations}
use Rattle.macho_edit.specs.declared.spots.LinkSpots.{LinkSpots}
use Rattle.macho_edit.specs.Placed.{IsLinked}
use Rattle.macho_edit.specs.Tables.{words_for, start_of}
use Rattle.macho_edit.specs.Cached.{is_dropped}
use Rattle.macho_edit.proofs.BoolLaws.{bool_cases}
use Rattle.macho_edit.proofs.LengthLaws.{Info, Symtab, Dysymtab, Starts, InCode, Other, table_kind}
use Rattle.macho_edit.proofs.MovedSegments.{SameCommand}
use Rattle.macho_edit.proofs.MovedCommands.{IsMoved, AreMoved}
use Rattle.macho_edit.proofs.KeptHeader.{moved_same}
use Rattle.macho_edit.proofs.KeptRules.{NonePass, none_first}
use Rattle.macho_edit.proofs.KeptTables.{AreSpots, AllLinked, InfoIs, info_is, SymtabIs, symtab_is, DysymtabIs, dysymtab_is, DataIs, data_is}

-- a test that each moved command fails
pub none_passes : (spots : LinkSpots) (p : List ℕ → Bool) (cs ds : List (List ℕ)) → ((c d : List ℕ) → IsMoved spots c d → p d ≡ false) → AreMoved spots cs ds → NonePass p ds
none_passes spots p [] [] fails are = tt
none_passes spots p [] (d ∷ ds) fails are = absurd are
none_passes spots p (c ∷ cs) [] fails are = absurd are
none_passes spots p (c ∷ cs) (d ∷ ds) fails are = (fails c d are.0, none_passes spots p cs ds fails are.1)

-- relocations
names_none : (spots : LinkSpots) (c d : List ℕ) → AreSpots spots → IsMoved spots c d → (is_dysymtab (number_of d) && not (nat_eq (number_at 4 d 68) 0 && nat_eq (number_at 4 d 76) 0)) ≡ false
names_none spots c d are is =
    let same : SameCommand c d = moved_same spots c d are.six is in
    elim (bool_cases (is_dysymtab (number_of c))) [
      | inl other ↦ ap (λ (b : Bool). b && not (nat_eq (number_at 4 d 68) 0 && nat_eq (number_at 4 d 76) 0)) (ap is_dysymtab same.number ∙ other)
      | inr this ↦
          let n : number_of c ≡ 0xB = eqb-true (number_of c) 0xB this in
          let fields : DysymtabIs spots d = dysymtab_is spots c d are is (ap is_segment n) (ap (λ (k : ℕ). words_for spots k) n) in
          ap₂ (λ (a b : ℕ). is_dysymtab (number_of d) && not (nat_eq a 0 && nat_eq b 0)) fields.external fields.local ∙ last (is_dysymtab (number_of d))
    ]
  where
    last : (b : Bool) → (b && false) ≡ false
    last true = refl
    last false = refl

pub relocations_none : (spots : LinkSpots) (at : ℕ) (cs ds : List (List ℕ)) → AreSpots spots → AreMoved spots cs ds → first_load names_relocations (loads_from at ds) ≡ None
relocations_none spots at cs ds are moved =
    none_first (λ d. is_dysymtab (number_of d) && not (nat_eq (number_at 4 d 68) 0 && nat_eq (number_at 4 d 76) 0)) at ds
    (none_passes spots (λ d. is_dysymtab (number_of d) && not (nat_eq (number_at 4 d 68) 0 && nat_eq (number_at 4 d 76) 0)) cs ds (λ c d is. names_none spots c d are is) moved)

-- a range that is empty or lies inside
inside_range : (low high offset size : ℕ) → (0 < size → (low ≤ offset) × (offset + size ≤ high)) → leaves_range low high offset size ≡ false
inside_range low high offset size inside = elim (bool_cases (nat_lt 0 size)) [
  | inl none ↦ ap (λ (b : Bool). b && not (nat_le low offset && nat_le (offset + size) high)) none
  | inr some ↦
      let more : 0 < size = grind (arith, nat_tests) in
      let both = inside more in
      ap (λ (b : Bool). nat_lt 0 size && not b) (and_from (nat_le low offset) (nat_le (offset + size) high) (le-leb low offset both.0) (le-leb (offset + size) high both.1)) ∙ last (nat_lt 0 size)
]
  where
    last : (b : Bool) → (b && false) ≡ false
    last true = refl
    last false = refl

-- the range that a command names is a span
span_leaves : (spots : LinkSpots) (s : Span) (d : List ℕ) (entry offset size n : ℕ) → IsLinked spots s → number_at 4 d offset ≡ start_of s → number_at 4 d size ≡ n → entry * n ≡ s.len
    → leaves spots.linkedit.file (spots.linkedit.file + spots.filesize) d entry offset size ≡ false
span_leaves spots s d entry offset size n linked start count whole =
    let low : ℕ = spots.linkedit.file in
    let high : ℕ = spots.linkedit.file + spots.filesize in
    ap₂ (λ (a b : ℕ). leaves_range low high a b) start (ap (λ (k : ℕ). entry * k) count ∙ whole)
    ∙ inside_range low high (start_of s) s.len (λ some.
    let not_none : nat_eq s.len 0 ≡ false = grind (arith, nat_tests) in
    let begins : start_of s ≡ s.at = cond-false (nat_eq s.len 0) 0 s.at not_none in
    let both = linked some in
    (omega arith, omega arith))

empty_leaves : (low high : ℕ) (d : List ℕ) (offset size : ℕ) → number_at 4 d size ≡ 0 → leaves low high d 1 offset size ≡ false
empty_leaves low high d offset size none =
    let nothing : 1 * number_at 4 d size ≡ 0 = omega arith in
    inside_range low high (number_at 4 d offset) (1 * number_at 4 d size) (λ some. absurd (omega arith))

pub one_times : (n : ℕ) → 1 * n ≡ n
one_times n = omega arith

five : (a b c d e : Bool) → a ≡ false → b ≡ false → c ≡ false → d ≡ false → e ≡ false → (a || (b || (c || (d || e)))) ≡ false
five a b c d e p q r s t = ap (λ (x : Bool). x || (b || (c || (d || e)))) p ∙ (ap (λ (x : Bool). x || (c || (d || e))) q ∙ (ap (λ (x : Bool). x || (d || e)) r ∙ (ap (λ (x : Bool). x || e) s ∙ t)))

info_inside : (spots : LinkSpots) (d : List ℕ) → AllLinked spots → InfoIs spots d → info_leaves spots.linkedit.file (spots.linkedit.file + spots.filesize) d ≡ false
info_inside spots d linked is =
    let low : ℕ = spots.linkedit.file in
    let high : ℕ = spots.linkedit.file + spots.filesize in
    five (leaves low high d 1 8 12) (leaves low high d 1 16 20) (leaves low high d 1 24 28) (leaves low high d 1 32 36) (leaves low high d 1 40 44)
    (span_leaves spots spots.rebase d 1 8 12 spots.rebase.len linked.rebase is.rebase is.rebase_size (one_times spots.rebase.len))
    (span_leaves spots spots.bind d 1 16 20 spots.bind.len linked.others.bind is.bind is.bind_size (one_times spots.bind.len))
    (empty_leaves low high d 24 28 is.weak_size)
    (span_leaves spots spots.lazy d 1 32 36 spots.lazy.len linked.others.lazy is.lazy is.lazy_size (one_times spots.lazy.len))
    (span_leaves spots spots.exports d 1 40 44 spots.exports.len linked.others.exports is.exports is.exports_size (one_times spots.exports.len))

symtab_inside : (spots : LinkSpots) (d : List ℕ) → AreSpots spots → AllLinked spots → SymtabIs spots d
    → (leaves spots.linkedit.file (spots.linkedit.file + spots.filesize) d 16 8 12 || leaves spots.linkedit.file (spots.linkedit.file + spots.filesize) d 1 16 20) ≡ false
symtab_inside spots d are linked is =
    let low : ℕ = spots.linkedit.file in
    let high : ℕ = spots.linkedit.file + spots.filesize in
    let entries : 16 * (spots.symbols.len / 16) ≡ spots.symbols.len = omega (arith, are.whole_symbols) in
    ap (λ (b : Bool). b || leaves low high d 1 16 20) (span_leaves spots spots.symbols d 16 8 12 (spots.symbols.len / 16) linked.others.symbols is.symbols is.count entries)
    ∙ span_leaves spots spots.strings d 1 16 20 spots.strings.len linked.others.strings is.strings is.strings_size (one_times spots.strings.len)

-- whether a command of a number names a range outside, by the tests of the four kinds that name ranges
abbrev outside_at : ℕ → Bool → Bool → Bool → Bool → Bool
outside_at n info symtab dysymtab part =
    if is_dyld_info n then info else (if is_symtab n then symtab else (if is_dysymtab n then dysymtab else (if is_data_stream n then part else false)))

outside_is : (low high k : ℕ) (d : List ℕ) → number_of d ≡ k → names_outside low high d
    ≡ outside_at k (info_leaves low high d) (leaves low high d 16 8 12 || leaves low high d 1 16 20) (leaves low high d 4 56 60) (leaves low high d 1 8 12)
outside_is low high k d is =
    ap (λ (n : ℕ). outside_at n (info_leaves low high d) (leaves low high d 16 8 12 || leaves low high d 1 16 20) (leaves low high d 4 56 60) (leaves low high d 1 8 12)) is

-- a command that is kept is no split information
pub kept_other : (n : ℕ) → not (is_dropped n) ≡ true → is_split_info n ≡ false
kept_other n kept = grind (arith, nat_tests)

no_stream : (a b c : Bool) → a ≡ false → b ≡ false → c ≡ false → (a || (b || c)) ≡ false
no_stream a b c p q r = ap (λ (x : Bool). x || (b || c)) p ∙ (ap (λ (x : Bool). x || c) q ∙ r)

inside_moved : (spots : LinkSpots) (c d : List ℕ) → AreSpots spots → AllLinked spots → IsMoved spots c d → names_outside spots.linkedit.file (spots.linkedit.file + spots.filesize) d ≡ false
inside_moved spots c d are linked is =
    let low : ℕ = spots.linkedit.file in
    let high : ℕ = spots.linkedit.file + spots.filesize in
    let same : SameCommand c d = moved_same spots c d are.six is in
    let number : (k : ℕ) → number_of c ≡ k → number_of d ≡ k = λ k eq. same.number ∙ eq in
    elim (table_kind (number_of c)) [
      | Info (inl k) ↦ outside_is low high 0x22 d (number 0x22 k) ∙ info_inside spots d linked (info_is spots c d are is (ap is_segment k) (ap (λ (n : ℕ). words_for spots n) k))
      | Info (inr k) ↦ outside_is low high 0x8000_0022 d (number 0x8000_0022 k) ∙ info_inside spots d linked (info_is spots c d are is (ap is_segment k) (ap (λ (n : ℕ). words_for spots n) k))
      | Symtab k ↦ outside_is low high 2 d (number 2 k) ∙ symtab_inside spots d are linked (symtab_is spots c d are is (ap is_segment k) (ap (λ (n : ℕ). words_for spots n) k))
      | Dysymtab k ↦
          let fields : DysymtabIs spots d = dysymtab_is spots c d are is (ap is_segment k) (ap (λ (n : ℕ). words_for spots n) k) in
          let entries : 4 * (spots.indirect.len / 4) ≡ spots.indirect.len = omega (arith, are.whole_indirect) in
          outside_is low high 0xB d (number 0xB k) ∙ span_leaves spots spots.indirect d 4 56 60 (spots.indirect.len / 4) linked.others.indirect fields.indirect fields.count entries
      | Starts k ↦
          let fields : DataIs spots.function_starts d = data_is spots spots.function_starts c d are are.low.function_starts is (ap is_segment k) (ap (λ (n : ℕ). words_for spots n) k) in
          outside_is low high 0x26 d (number 0x26 k) ∙ span_leaves spots spots.function_starts d 1 8 12 spots.function_starts.len linked.others.function_starts fields.start fields.size (one_times spots.function_starts.len)
      | InCode k ↦
          let fields : DataIs spots.data_in_code d = data_is spots spots.data_in_code c d are are.low.data_in_code is (ap is_segment k) (ap (λ (n : ℕ). words_for spots n) k) in
          outside_is low high 0x29 d (number 0x29 k) ∙ span_leaves spots spots.data_in_code d 1 8 12 spots.data_in_code.len linked.others.data_in_code fields.start fields.size (one_times spots.data_in_code.len)
      | Other a b e f g ↦
          let split : is_split_info (number_of c) ≡ false = kept_other (number_of c) is.kept in
          let n : ℕ = number_of c in
          outside_is low high n d (number n refl)
          ∙ (cond-false (is_dyld_info n) _ _ a ∙ (cond-false (is_symtab n) _ _ b ∙ (cond-false (is_dysymtab n) _ _ e
          ∙ cond-false (is_data_stream n) _ _ (no_stream (is_split_info n) (is_function_starts n) (is_data_in_code n) split f g))))
    ]

pub ranges_none : (spots : LinkSpots) (at : ℕ) (cs ds : List (List ℕ)) → AreSpots spots → AllLinked spots → AreMoved spots cs ds
    → first_load (λ l. names_outside spots.linkedit.file (spots.linkedit.file + spots.filesize) l.bytes) (loads_from at ds) ≡ None
ranges_none spots at cs ds are linked moved =
    none_first (λ d. names_outside spots.linkedit.file (spots.linkedit.file + spots.filesize) d) at ds
    (none_passes spots (λ d. names_outside spots.linkedit.file (spots.linkedit.file + spots.filesize) d) cs ds (λ c d is. inside_moved spots c d are linked is) moved)
