-- What the cache's commands name: the install name, the dependencies, the identifier, the streams and tables, and the groups.
use Rattle.std.proofs.Common.{◌≡◌, inl, inr, ℕ, ◌*◌, ◌/◌, Bool, true, false, ◌||◌, nat_eq, if◌then◌else◌, Option, Some, None, List, [], ◌∷◌, take, drop, length, get_or, refl, sym, ap, ap₂, ◌∙◌, subst, arith}
use Rattle.std.specs.Prelude.{filter, is_some}
use Rattle.std.specs.List.{filter_map, cons_option}
use Rattle.std.specs.Option.{option_map}
use Rattle.std.proofs.lemmas.Bool.{cond-true, cond-false, eqb-true, or_cases, not-false}
use Rattle.dsc_base.specs.Numbers.{number_at}
use Rattle.dsc_base.specs.declared.fault.Span.{Span}
use Rattle.macho_image.specs.Records.{Dep}
use Rattle.macho_image.specs.declared.form.LinkKind.{LinkKind}
use Rattle.macho_image.specs.Macho.{number_of, is_segment, is_uuid, is_install_name, is_dyld_info, is_symtab, is_dysymtab, is_function_starts, is_data_in_code, is_split_info, command_where, part_in, groups_of, streams_of, dependency_of, link_kind, dylib_name}
use Rattle.macho_edit.specs.declared.spots.LinkSpots.{LinkSpots}
use Rattle.macho_edit.specs.Tables.{words_for, start_of}
use Rattle.macho_edit.specs.Cached.{is_dropped, is_kept}
use Rattle.macho_edit.specs.MovedImage.{named_by, spotted_streams, spotted_groups}
use Rattle.macho_edit.proofs.BoolLaws.{bool_cases}
use Rattle.macho_edit.proofs.LengthLaws.{info_number}
use Rattle.macho_edit.proofs.MovedCommands.{IsMoved, AreMoved}
use Rattle.macho_edit.proofs.KeptRules.{IsForOthers, unchanged, keeps_number, name_others}
use Rattle.macho_edit.proofs.KeptRanges.{kept_other, one_times}
use Rattle.macho_edit.proofs.KeptTables.{AreSpots, InfoIs, info_is, SymtabIs, symtab_is, DysymtabIs, dysymtab_is, DataIs, data_is}

-- both commands are there, and the second is as a fact says, or neither is
abbrev pub BothFound : (List ℕ → List ℕ → Type 0) → Option (List ℕ) → Option (List ℕ) → Type 0
BothFound P None None = Unit {0}
BothFound P None (Some d) = ⊥
BothFound P (Some c) None = ⊥
BothFound P (Some c) (Some d) = P c d

abbrev Found : LinkSpots → (ℕ → Bool) → List ℕ → List ℕ → Type 0
Found spots q c d = IsMoved spots c d × (q (number_of c) ≡ true)

found_moved : (spots : LinkSpots) (q : ℕ → Bool) (cs ds : List (List ℕ)) → length spots.groups ≡ 6 → AreMoved spots cs ds → BothFound (Found spots q) (command_where q cs) (command_where q ds)
found_moved spots q [] [] six are = tt
found_moved spots q [] (d ∷ ds) six are = absurd are
found_moved spots q (c ∷ cs) [] six are = absurd are
found_moved spots q (c ∷ cs) (d ∷ ds) six are =
    let same : q (number_of d) ≡ q (number_of c) = keeps_number spots q six c d are.0 in
    elim (bool_cases (q (number_of c))) [
      | inl failed ↦
          both (cond-false (q (number_of c)) (Some c) (command_where q cs) failed) (cond-false (q (number_of d)) (Some d) (command_where q ds) (same ∙ failed))
          (found_moved spots q cs ds six are.1)
      | inr passed ↦
          both (cond-true (q (number_of c)) (Some c) (command_where q cs) passed) (cond-true (q (number_of d)) (Some d) (command_where q ds) (same ∙ passed)) (are.0, passed)
    ]
  where
    both : {o o' a a' : Option (List ℕ)} → o ≡ a → o' ≡ a' → BothFound (Found spots q) a a' → BothFound (Found spots q) o o'
    both {o = o} {o' = o'} {a = a} {a' = a'} p p' found = subst (λ (x : Option (List ℕ)). BothFound (Found spots q) x o') (sym p) (subst (λ (x : Option (List ℕ)). BothFound (Found spots q) a x) (sym p') found)

-- a kind of command that isn't left out is found among those that are kept
found_kept : (q : ℕ → Bool) → ((c : List ℕ) → is_kept c ≡ false → q (number_of c) ≡ false) → (cs : List (List ℕ)) → command_where q (filter is_kept cs) ≡ command_where q cs
found_kept q none [] = refl
found_kept q none (c ∷ cs) = elim (bool_cases (is_kept c)) [
  | inl dropped ↦
      ap (command_where q) (cond-false (is_kept c) (c ∷ filter is_kept cs) (filter is_kept cs) dropped)
      ∙ (found_kept q none cs ∙ sym (cond-false (q (number_of c)) (Some c) (command_where q cs) (none c dropped)))
  | inr kept ↦
      ap (command_where q) (cond-true (is_kept c) (c ∷ filter is_kept cs) (filter is_kept cs) kept)
      ∙ ap (λ (o : Option (List ℕ)). if q (number_of c) then Some c else o) (found_kept q none cs)
]

found_both : (spots : LinkSpots) (q : ℕ → Bool) (cs ds : List (List ℕ)) → length spots.groups ≡ 6 → ((c : List ℕ) → is_kept c ≡ false → q (number_of c) ≡ false) → AreMoved spots (filter is_kept cs) ds
    → BothFound (Found spots q) (command_where q cs) (command_where q ds)
found_both spots q cs ds six none are =
    subst (λ (o : Option (List ℕ)). BothFound (Found spots q) o (command_where q ds)) (found_kept q none cs) (found_moved spots q (filter is_kept cs) ds six are)

-- a command that is kept as it is
found_same : (spots : LinkSpots) (q : ℕ → Bool) (o o' : Option (List ℕ)) → IsForOthers q → BothFound (Found spots q) o o' → o' ≡ o
found_same spots q None None others found = refl
found_same spots q None (Some d) others found = absurd found
found_same spots q (Some c) None others found = absurd found
found_same spots q (Some c) (Some d) others found = ap Some (unchanged spots q c d others found.0 found.1)

pub same_command : (spots : LinkSpots) (q : ℕ → Bool) (cs ds : List (List ℕ)) → length spots.groups ≡ 6 → IsForOthers q → ((c : List ℕ) → is_kept c ≡ false → q (number_of c) ≡ false) → AreMoved spots (filter is_kept cs) ds
    → command_where q ds ≡ command_where q cs
same_command spots q cs ds six others none are = found_same spots q (command_where q cs) (command_where q ds) others (found_both spots q cs ds six none are)

found_is_some : (P : List ℕ → List ℕ → Type 0) (o o' : Option (List ℕ)) → BothFound P o o' → is_some o' ≡ is_some o
found_is_some P None None found = refl
found_is_some P None (Some d) found = absurd found
found_is_some P (Some c) None found = absurd found
found_is_some P (Some c) (Some d) found = refl

-- the part of the file that is named
named_part : (b : List ℕ) (s : Span) (o o' : Option (List ℕ)) (entry offset size : ℕ) → BothFound (λ c d. (number_at 4 d offset ≡ start_of s) × (entry * number_at 4 d size ≡ s.len)) o o' → part_in b o' entry offset size ≡ named_by o b s
named_part b s None None entry offset size found = refl
named_part b s None (Some d) entry offset size found = absurd found
named_part b s (Some c) None entry offset size found = absurd found
named_part b s (Some c) (Some d) entry offset size found =
    ap₂ (λ (n k : ℕ). take n (drop k b)) found.1 found.0
    ∙ elim (bool_cases (nat_eq s.len 0)) [
      | inl some ↦ ap (λ (k : ℕ). take s.len (drop k b)) (cond-false (nat_eq s.len 0) 0 s.at some)
      | inr none ↦ let zero_len : s.len ≡ 0 = eqb-true s.len 0 none in
          ap (λ (n : ℕ). take n (drop (start_of s) b)) zero_len ∙ sym (ap (λ (n : ℕ). take n (drop s.at b)) zero_len)
    ]

-- nothing is named
no_part : (b : List ℕ) (o o' : Option (List ℕ)) (offset size : ℕ) → BothFound (λ c d. number_at 4 d size ≡ 0) o o' → part_in b o' 1 offset size ≡ []
no_part b None None offset size found = refl
no_part b None (Some d) offset size found = absurd found
no_part b (Some c) None offset size found = absurd found
no_part b (Some c) (Some d) offset size found =
    let none : 1 * number_at 4 d size ≡ 0 = omega (arith, found) in
    ap (λ (n : ℕ). take n (drop (number_at 4 d offset) b)) none

found_as : {P Q : List ℕ → List ℕ → Type 0} (o o' : Option (List ℕ)) → ((c d : List ℕ) → P c d → Q c d) → BothFound P o o' → BothFound Q o o'
found_as None None how found = tt
found_as None (Some d) how found = absurd found
found_as (Some c) None how found = absurd found
found_as (Some c) (Some d) how found = how c d found

-- the commands of the tables are none that are left out
dropped_other : (q : ℕ → Bool) → q 0x1E ≡ false → q 0x1D ≡ false → q 0x2B ≡ false → (c : List ℕ) → is_kept c ≡ false → q (number_of c) ≡ false
dropped_other q split signature requirements c dropped =
    elim (or_cases (is_split_info (number_of c)) (nat_eq (number_of c) 0x1D || nat_eq (number_of c) 0x2B) (not-false (is_dropped (number_of c)) dropped)) [
      | inl is ↦ ap q (eqb-true (number_of c) 0x1E is) ∙ split
      | inr rest ↦ elim (or_cases (nat_eq (number_of c) 0x1D) (nat_eq (number_of c) 0x2B) rest) [
        | inl is ↦ ap q (eqb-true (number_of c) 0x1D is) ∙ signature
        | inr is ↦ ap q (eqb-true (number_of c) 0x2B is) ∙ requirements
      ]
    ]

info_both : (spots : LinkSpots) (cs ds : List (List ℕ)) → AreSpots spots → AreMoved spots (filter is_kept cs) ds → BothFound (λ c d. InfoIs spots d) (command_where is_dyld_info cs) (command_where is_dyld_info ds)
info_both spots cs ds are moved =
    found_as (command_where is_dyld_info cs) (command_where is_dyld_info ds)
    (λ c d found. elim (info_number (number_of c) found.1) [
      | inl k ↦ info_is spots c d are found.0 (ap is_segment k) (ap (λ (n : ℕ). words_for spots n) k)
      | inr k ↦ info_is spots c d are found.0 (ap is_segment k) (ap (λ (n : ℕ). words_for spots n) k)
    ])
    (found_both spots is_dyld_info cs ds are.six (dropped_other is_dyld_info refl refl refl) moved)

symtab_both : (spots : LinkSpots) (cs ds : List (List ℕ)) → AreSpots spots → AreMoved spots (filter is_kept cs) ds → BothFound (λ c d. SymtabIs spots d) (command_where is_symtab cs) (command_where is_symtab ds)
symtab_both spots cs ds are moved =
    found_as (command_where is_symtab cs) (command_where is_symtab ds)
    (λ c d found. let k : number_of c ≡ 2 = eqb-true (number_of c) 2 found.1 in symtab_is spots c d are found.0 (ap is_segment k) (ap (λ (n : ℕ). words_for spots n) k))
    (found_both spots is_symtab cs ds are.six (dropped_other is_symtab refl refl refl) moved)

dysymtab_both : (spots : LinkSpots) (cs ds : List (List ℕ)) → AreSpots spots → AreMoved spots (filter is_kept cs) ds → BothFound (λ c d. DysymtabIs spots d) (command_where is_dysymtab cs) (command_where is_dysymtab ds)
dysymtab_both spots cs ds are moved =
    found_as (command_where is_dysymtab cs) (command_where is_dysymtab ds)
    (λ c d found. let k : number_of c ≡ 0xB = eqb-true (number_of c) 0xB found.1 in dysymtab_is spots c d are found.0 (ap is_segment k) (ap (λ (n : ℕ). words_for spots n) k))
    (found_both spots is_dysymtab cs ds are.six (dropped_other is_dysymtab refl refl refl) moved)

starts_both : (spots : LinkSpots) (cs ds : List (List ℕ)) → AreSpots spots → AreMoved spots (filter is_kept cs) ds
    → BothFound (λ c d. DataIs spots.function_starts d) (command_where is_function_starts cs) (command_where is_function_starts ds)
starts_both spots cs ds are moved =
    found_as (command_where is_function_starts cs) (command_where is_function_starts ds)
    (λ c d found. let k : number_of c ≡ 0x26 = eqb-true (number_of c) 0x26 found.1 in data_is spots spots.function_starts c d are are.low.function_starts found.0 (ap is_segment k) (ap (λ (n : ℕ). words_for spots n) k))
    (found_both spots is_function_starts cs ds are.six (dropped_other is_function_starts refl refl refl) moved)

code_both : (spots : LinkSpots) (cs ds : List (List ℕ)) → AreSpots spots → AreMoved spots (filter is_kept cs) ds
    → BothFound (λ c d. DataIs spots.data_in_code d) (command_where is_data_in_code cs) (command_where is_data_in_code ds)
code_both spots cs ds are moved =
    found_as (command_where is_data_in_code cs) (command_where is_data_in_code ds)
    (λ c d found. let k : number_of c ≡ 0x29 = eqb-true (number_of c) 0x29 found.1 in data_is spots spots.data_in_code c d are are.low.data_in_code found.0 (ap is_segment k) (ap (λ (n : ℕ). words_for spots n) k))
    (found_both spots is_data_in_code cs ds are.six (dropped_other is_data_in_code refl refl refl) moved)

-- no split information is kept
no_split : (spots : LinkSpots) (cs ds : List (List ℕ)) → length spots.groups ≡ 6 → AreMoved spots cs ds → command_where is_split_info ds ≡ None
no_split spots [] [] six are = refl
no_split spots [] (d ∷ ds) six are = absurd are
no_split spots (c ∷ cs) [] six are = absurd are
no_split spots (c ∷ cs) (d ∷ ds) six are =
    cond-false (is_split_info (number_of d)) (Some d) (command_where is_split_info ds) (keeps_number spots is_split_info six c d are.0 ∙ kept_other (number_of c) are.0.kept)
    ∙ no_split spots cs ds six are.1

pub streams_are : (spots : LinkSpots) (b : List ℕ) (cs ds : List (List ℕ)) → AreSpots spots → AreMoved spots (filter is_kept cs) ds → streams_of b ds ≡ spotted_streams spots b cs
unfolding streams_of
streams_are spots b cs ds are moved =
    let info : Option (List ℕ) = command_where is_dyld_info cs in
    let info' : Option (List ℕ) = command_where is_dyld_info ds in
    let symtab : Option (List ℕ) = command_where is_symtab cs in
    let symtab' : Option (List ℕ) = command_where is_symtab ds in
    let infos : BothFound (λ c d. InfoIs spots d) info info' = info_both spots cs ds are moved in
    let symtabs : BothFound (λ c d. SymtabIs spots d) symtab symtab' = symtab_both spots cs ds are moved in
    let entries : 16 * (spots.symbols.len / 16) ≡ spots.symbols.len = omega (arith, are.whole_symbols) in
    let quarters : 4 * (spots.indirect.len / 4) ≡ spots.indirect.len = omega (arith, are.whole_indirect) in
    λ i. record {
      rebase = (named_part b spots.rebase info info' 1 8 12 (found_as info info' (λ c d is. (is.rebase, ap (λ (n : ℕ). 1 * n) is.rebase_size ∙ one_times spots.rebase.len)) infos)) i;
      bind = (named_part b spots.bind info info' 1 16 20 (found_as info info' (λ c d is. (is.bind, ap (λ (n : ℕ). 1 * n) is.bind_size ∙ one_times spots.bind.len)) infos)) i;
      weak = (no_part b info info' 24 28 (found_as info info' (λ c d is. is.weak_size) infos)) i;
      lazy = (named_part b spots.lazy info info' 1 32 36 (found_as info info' (λ c d is. (is.lazy, ap (λ (n : ℕ). 1 * n) is.lazy_size ∙ one_times spots.lazy.len)) infos)) i;
      exports = (named_part b spots.exports info info' 1 40 44 (found_as info info' (λ c d is. (is.exports, ap (λ (n : ℕ). 1 * n) is.exports_size ∙ one_times spots.exports.len)) infos)) i;
      split = ap (λ (o : Option (List ℕ)). option_map (λ c. part_in b (Some c) 1 8 12) o) (no_split spots (filter is_kept cs) ds are.six moved) i;
      function_starts = (named_part b spots.function_starts (command_where is_function_starts cs) (command_where is_function_starts ds) 1 8 12
          (found_as (command_where is_function_starts cs) (command_where is_function_starts ds) (λ c d is. (is.start, ap (λ (n : ℕ). 1 * n) is.size ∙ one_times spots.function_starts.len)) (starts_both spots cs ds are moved))) i;
      data_in_code = (named_part b spots.data_in_code (command_where is_data_in_code cs) (command_where is_data_in_code ds) 1 8 12
          (found_as (command_where is_data_in_code cs) (command_where is_data_in_code ds) (λ c d is. (is.start, ap (λ (n : ℕ). 1 * n) is.size ∙ one_times spots.data_in_code.len)) (code_both spots cs ds are moved))) i;
      symbols = (named_part b spots.symbols symtab symtab' 16 8 12 (found_as symtab symtab' (λ c d is. (is.symbols, ap (λ (n : ℕ). 16 * n) is.count ∙ entries)) symtabs)) i;
      strings = (named_part b spots.strings symtab symtab' 1 16 20 (found_as symtab symtab' (λ c d is. (is.strings, ap (λ (n : ℕ). 1 * n) is.strings_size ∙ one_times spots.strings.len)) symtabs)) i;
      indirect = (named_part b spots.indirect (command_where is_dysymtab cs) (command_where is_dysymtab ds) 4 56 60
          (found_as (command_where is_dysymtab cs) (command_where is_dysymtab ds) (λ c d is. (is.indirect, ap (λ (n : ℕ). 4 * n) is.count ∙ quarters)) (dysymtab_both spots cs ds are moved))) i;
    }

-- six numbers, one by one
six_of : (xs : List ℕ) → length xs ≡ 6 → get_or xs 0 0 ∷ get_or xs 1 0 ∷ get_or xs 2 0 ∷ get_or xs 3 0 ∷ get_or xs 4 0 ∷ get_or xs 5 0 ∷ [] ≡ xs
six_of [] len = absurd (omega arith)
six_of (a ∷ []) len = absurd (omega arith)
six_of (a ∷ b ∷ []) len = absurd (omega arith)
six_of (a ∷ b ∷ c ∷ []) len = absurd (omega arith)
six_of (a ∷ b ∷ c ∷ d ∷ []) len = absurd (omega arith)
six_of (a ∷ b ∷ c ∷ d ∷ e ∷ []) len = absurd (omega arith)
six_of (a ∷ b ∷ c ∷ d ∷ e ∷ f ∷ []) len = refl
six_of (a ∷ b ∷ c ∷ d ∷ e ∷ f ∷ g ∷ xs) len = absurd (omega arith)

groups_from : (spots : LinkSpots) (o o' : Option (List ℕ)) → length spots.groups ≡ 6 → BothFound (λ c d. DysymtabIs spots d) o o' → groups_of o' ≡ spotted_groups spots o
groups_from spots None None six found = refl
groups_from spots None (Some d) six found = absurd found
groups_from spots (Some c) None six found = absurd found
groups_from spots (Some c) (Some d) six found =
    let a : number_at 4 d 8 ≡ get_or spots.groups 0 0 = found.groups 0 (omega arith) in
    let b : number_at 4 d 12 ≡ get_or spots.groups 1 0 = found.groups 1 (omega arith) in
    let e : number_at 4 d 16 ≡ get_or spots.groups 2 0 = found.groups 2 (omega arith) in
    let f : number_at 4 d 20 ≡ get_or spots.groups 3 0 = found.groups 3 (omega arith) in
    let g : number_at 4 d 24 ≡ get_or spots.groups 4 0 = found.groups 4 (omega arith) in
    let h : number_at 4 d 28 ≡ get_or spots.groups 5 0 = found.groups 5 (omega arith) in
    let all : groups_of (Some d) ≡ get_or spots.groups 0 0 ∷ get_or spots.groups 1 0 ∷ get_or spots.groups 2 0 ∷ get_or spots.groups 3 0 ∷ get_or spots.groups 4 0 ∷ get_or spots.groups 5 0 ∷ [] =
    λ i. a i ∷ b i ∷ e i ∷ f i ∷ g i ∷ h i ∷ [] in
    all ∙ six_of spots.groups six

pub groups_are : (spots : LinkSpots) (cs ds : List (List ℕ)) → AreSpots spots → AreMoved spots (filter is_kept cs) ds → groups_of (command_where is_dysymtab ds) ≡ spotted_groups spots (command_where is_dysymtab cs)
groups_are spots cs ds are moved = groups_from spots (command_where is_dysymtab cs) (command_where is_dysymtab ds) are.six (dysymtab_both spots cs ds are moved)

pub has_info : (spots : LinkSpots) (cs ds : List (List ℕ)) → AreSpots spots → AreMoved spots (filter is_kept cs) ds → is_some (command_where is_dyld_info ds) ≡ is_some (command_where is_dyld_info cs)
has_info spots cs ds are moved = found_is_some (λ c d. InfoIs spots d) (command_where is_dyld_info cs) (command_where is_dyld_info ds) (info_both spots cs ds are moved)

-- dependencies
abbrev is_link : ℕ → Bool
is_link n = is_some (link_kind n)

link_others : IsForOthers is_link
link_others = record { segment = refl; info = refl; info_only = refl; symtab = refl; dysymtab = refl; starts = refl; code = refl }

none_of : {X : Type 0} (o : Option X) → is_some o ≡ false → o ≡ None
none_of None e = refl
none_of (Some x) e = absurd (cc)

no_dependency : (c : List ℕ) → is_link (number_of c) ≡ false → dependency_of c ≡ None
no_dependency c other = ap (λ (o : Option LinkKind). option_map {T = LinkKind} {U = Dep} (λ k. record { kind = k; name = dylib_name c }) o) (none_of (link_kind (number_of c)) other)

dependency_moved : (spots : LinkSpots) (c d : List ℕ) → length spots.groups ≡ 6 → IsMoved spots c d → dependency_of d ≡ dependency_of c
dependency_moved spots c d six is = elim (bool_cases (is_link (number_of c))) [
  | inl other ↦ no_dependency d (keeps_number spots is_link six c d is ∙ other) ∙ sym (no_dependency c other)
  | inr link ↦ ap dependency_of (unchanged spots is_link c d link_others is link)
]

dependencies_moved : (spots : LinkSpots) (cs ds : List (List ℕ)) → length spots.groups ≡ 6 → AreMoved spots cs ds → filter_map dependency_of ds ≡ filter_map dependency_of cs
dependencies_moved spots [] [] six are = refl
dependencies_moved spots [] (d ∷ ds) six are = absurd are
dependencies_moved spots (c ∷ cs) [] six are = absurd are
dependencies_moved spots (c ∷ cs) (d ∷ ds) six are = ap₂ (λ (o : Option Dep) (rest : List Dep). cons_option o rest) (dependency_moved spots c d six are.0) (dependencies_moved spots cs ds six are.1)

dependencies_kept : (cs : List (List ℕ)) → filter_map dependency_of (filter is_kept cs) ≡ filter_map dependency_of cs
dependencies_kept [] = refl
dependencies_kept (c ∷ cs) = elim (bool_cases (is_kept c)) [
  | inl dropped ↦
      ap (filter_map dependency_of) (cond-false (is_kept c) (c ∷ filter is_kept cs) (filter is_kept cs) dropped)
      ∙ (dependencies_kept cs ∙ sym (ap (λ (o : Option Dep). cons_option o (filter_map dependency_of cs)) (no_dependency c (dropped_other is_link refl refl refl c dropped))))
  | inr kept ↦
      ap (filter_map dependency_of) (cond-true (is_kept c) (c ∷ filter is_kept cs) (filter is_kept cs) kept)
      ∙ ap (λ (rest : List Dep). cons_option (dependency_of c) rest) (dependencies_kept cs)
]

pub dependencies_are : (spots : LinkSpots) (cs ds : List (List ℕ)) → length spots.groups ≡ 6 → AreMoved spots (filter is_kept cs) ds → filter_map dependency_of ds ≡ filter_map dependency_of cs
dependencies_are spots cs ds six are = dependencies_moved spots (filter is_kept cs) ds six are ∙ dependencies_kept cs

-- commands that are kept as they are: the install name and the identifier
uuid_others : IsForOthers is_uuid
uuid_others = record { segment = refl; info = refl; info_only = refl; symtab = refl; dysymtab = refl; starts = refl; code = refl }

pub same_uuid : (spots : LinkSpots) (cs ds : List (List ℕ)) → length spots.groups ≡ 6 → AreMoved spots (filter is_kept cs) ds → command_where is_uuid ds ≡ command_where is_uuid cs
same_uuid spots cs ds six are = same_command spots is_uuid cs ds six uuid_others (dropped_other is_uuid refl refl refl) are

pub same_name : (spots : LinkSpots) (cs ds : List (List ℕ)) → length spots.groups ≡ 6 → AreMoved spots (filter is_kept cs) ds → command_where is_install_name ds ≡ command_where is_install_name cs
same_name spots cs ds six are = same_command spots is_install_name cs ds six name_others (dropped_other is_install_name refl refl refl) are
