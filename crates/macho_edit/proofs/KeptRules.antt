-- The rules on commands hold of the commands that the cache has as they hold of the header's.
use Rattle.std.proofs.Common.{◌≡◌, ◌≤◌, inl, inr, ℕ, suc, ◌+◌, Bool, true, false, not, ◌&&◌, ◌||◌, if◌then◌else◌, Option, Some, None, List, [], ◌∷◌, length, refl, sym, ap, ap₂, ◌∙◌, arith}
use Rattle.std.specs.Prelude.{find, filter, slice_get}
use Rattle.std.specs.List.{list_any, AllByRecursion}
use Rattle.std.specs.Option.{option_map}
use Rattle.std.proofs.lemmas.Bool.{cond-true, cond-false, eqb-true}
use Rattle.std.proofs.lemmas.Bool.Decides.{nat_tests}
use Rattle.macho_image.specs.Records.{Load}
use Rattle.macho_image.specs.Macho.{number_of, is_install_name, is_dylib, loads_from, dylib_name}
use Rattle.macho_image.specs.Rules.{first_load, second_of, second_of_any, is_of_kind, once_kinds, breaks_unknown_command, breaks_command_twice, breaks_no_install_name, breaks_name_text, breaks_unsafe_name, is_known, is_plain_name, is_safe_path}
use Rattle.dsc_base.specs.Refusals.{least}
use Rattle.macho_image.proofs.Unbroken.{least_none_both}
use Rattle.macho_edit.specs.declared.spots.LinkSpots.{LinkSpots}
use Rattle.macho_edit.specs.Tables.{with_words, spotted}
use Rattle.macho_edit.specs.Cached.{is_kept}
use Rattle.macho_edit.proofs.AppendLaws.{with_words-none}
use Rattle.macho_edit.proofs.BoolLaws.{bool_cases, clash}
use Rattle.macho_edit.proofs.LengthLaws.{Info, Symtab, Dysymtab, Starts, InCode, Other, table_kind, words_none}
use Rattle.macho_edit.proofs.MovedCommands.{IsMoved, AreMoved}
use Rattle.macho_edit.proofs.KeptHeader.{moved_same}

-- a test of numbers that no segment and no command of streams and tables passes
pub record IsForOthers (q : ℕ → Bool) : Type 0 where
  pub segment : q 0x19 ≡ false
  pub info : q 0x22 ≡ false
  pub info_only : q 0x8000_0022 ≡ false
  pub symtab : q 2 ≡ false
  pub dysymtab : q 0xB ≡ false
  pub starts : q 0x26 ≡ false
  pub code : q 0x29 ≡ false

-- a command that passes such a test is kept as it is
pub unchanged : (spots : LinkSpots) (q : ℕ → Bool) (c d : List ℕ) → IsForOthers q → IsMoved spots c d → q (number_of c) ≡ true → d ≡ c
unfolding spotted
unchanged spots q c d others is passed = elim is.moved [
  | inl segment ↦ absurd (clash (q (number_of c)) passed (ap q (eqb-true (number_of c) 0x19 segment.segment) ∙ others.segment))
  | inr other ↦ elim (table_kind (number_of c)) [
    | Info (inl k) ↦ absurd (clash (q (number_of c)) passed (ap q k ∙ others.info))
    | Info (inr k) ↦ absurd (clash (q (number_of c)) passed (ap q k ∙ others.info_only))
    | Symtab k ↦ absurd (clash (q (number_of c)) passed (ap q k ∙ others.symtab))
    | Dysymtab k ↦ absurd (clash (q (number_of c)) passed (ap q k ∙ others.dysymtab))
    | Starts k ↦ absurd (clash (q (number_of c)) passed (ap q k ∙ others.starts))
    | InCode k ↦ absurd (clash (q (number_of c)) passed (ap q k ∙ others.code))
    | Other a b e f g ↦ other.moved ∙ (ap (λ (ns : List ℕ). with_words ns c) (words_none spots (number_of c) a b e f g) ∙ with_words-none c)
  ]
]

-- no command passes a test
abbrev pub NonePass : (List ℕ → Bool) → List (List ℕ) → Type 0
NonePass p cs = AllByRecursion (λ c. p c ≡ false) cs

pub none_first : (p : List ℕ → Bool) (at : ℕ) (cs : List (List ℕ)) → NonePass p cs → first_load (λ l. p l.bytes) (loads_from at cs) ≡ None
none_first p at [] none = refl
none_first p at (c ∷ cs) none =
    let l : Load = record { at = at; bytes = c } in
    ap (λ (o : Option Load). option_map {T = Load} {U = ℕ} (λ x. x.at) o) (cond-false (p c) (Some l) (find (λ (x : Load). p x.bytes) (loads_from (at + length c) cs)) none.0)
    ∙ none_first p (at + length c) cs none.1

found_none : (b : Bool) (l : Load) (o : Option Load) → option_map {T = Load} {U = ℕ} (λ x. x.at) (if b then Some l else o) ≡ None → (b ≡ false) × (option_map {T = Load} {U = ℕ} (λ x. x.at) o ≡ None)
found_none true l o none = absurd (cc)
found_none false l o none = (refl, none)

pub first_none : (p : List ℕ → Bool) (at : ℕ) (cs : List (List ℕ)) → first_load (λ l. p l.bytes) (loads_from at cs) ≡ None → NonePass p cs
first_none p at [] none = tt
first_none p at (c ∷ cs) none =
    let both = found_none (p c) (record { at = at; bytes = c }) (find (λ (x : Load). p x.bytes) (loads_from (at + length c) cs)) none in
    (both.0, first_none p (at + length c) cs both.1)

pub none_kept : (p q : List ℕ → Bool) (cs : List (List ℕ)) → NonePass p cs → NonePass p (filter q cs)
none_kept p q [] none = tt
none_kept p q (c ∷ cs) none = elim (q c) as (λ b. NonePass p (if◌then◌else◌ {A = List (List ℕ)} b (c ∷ filter q cs) (filter q cs))) [
  | true ↦ (none.0, none_kept p q cs none.1)
  | false ↦ none_kept p q cs none.1
]

pub none_moved : (spots : LinkSpots) (p : List ℕ → Bool) (cs ds : List (List ℕ)) → ((c d : List ℕ) → IsMoved spots c d → p d ≡ p c) → AreMoved spots cs ds → NonePass p cs → NonePass p ds
none_moved spots p [] [] keeps are none = tt
none_moved spots p [] (d ∷ ds) keeps are none = absurd are
none_moved spots p (c ∷ cs) [] keeps are none = absurd are
none_moved spots p (c ∷ cs) (d ∷ ds) keeps are none = (keeps c d are.0 ∙ none.0, none_moved spots p cs ds keeps are.1 none.1)

-- no command of the header passes, so none of the cache's does
pub first_load-cached : (spots : LinkSpots) (p : List ℕ → Bool) (at at' : ℕ) (cs ds : List (List ℕ)) → ((c d : List ℕ) → IsMoved spots c d → p d ≡ p c) → AreMoved spots (filter is_kept cs) ds
    → first_load (λ l. p l.bytes) (loads_from at cs) ≡ None → first_load (λ l. p l.bytes) (loads_from at' ds) ≡ None
first_load-cached spots p at at' cs ds keeps are none =
    none_first p at' ds (none_moved spots p (filter is_kept cs) ds keeps are (none_kept p is_kept cs (first_none p at cs none)))

-- a test of the number alone
pub keeps_number : (spots : LinkSpots) (q : ℕ → Bool) → length spots.groups ≡ 6 → (c d : List ℕ) → IsMoved spots c d → q (number_of d) ≡ q (number_of c)
keeps_number spots q six c d is = ap q (moved_same spots c d six is).number

-- a test that only other commands pass, whatever else it says
pub keeps_others : (spots : LinkSpots) (q : ℕ → Bool) (r : List ℕ → Bool) → length spots.groups ≡ 6 → IsForOthers q → (c d : List ℕ) → IsMoved spots c d → (q (number_of d) && r d) ≡ (q (number_of c) && r c)
keeps_others spots q r six others c d is = elim (bool_cases (q (number_of c))) [
  | inl failed ↦ ap (λ (b : Bool). b && r d) (keeps_number spots q six c d is ∙ failed) ∙ sym (ap (λ (b : Bool). b && r c) failed)
  | inr passed ↦ ap (λ (x : List ℕ). q (number_of x) && r x) (unchanged spots q c d others is passed)
]

-- how many commands pass a test
loads_count : (p : List ℕ → Bool) (at : ℕ) (cs : List (List ℕ)) → length (filter (λ (l : Load). p l.bytes) (loads_from at cs)) ≡ length (filter p cs)
loads_count p at [] = refl
loads_count p at (c ∷ cs) =
    let l : Load = record { at = at; bytes = c } in
    let rest : List Load = loads_from (at + length c) cs in
    elim (p c) as (λ b. length (if◌then◌else◌ {A = List Load} b (l ∷ filter (λ (x : Load). p x.bytes) rest) (filter (λ (x : Load). p x.bytes) rest)) ≡ length (if◌then◌else◌ {A = List (List ℕ)} b (c ∷ filter p cs) (filter p cs))) [
      | true ↦ ap suc (loads_count p (at + length c) cs)
      | false ↦ loads_count p (at + length c) cs
    ]

second_few : (ls : List Load) → option_map {T = Load} {U = ℕ} (λ l. l.at) (slice_get ls 1) ≡ None → length ls ≤ 1
second_few [] none = omega arith
second_few (l ∷ []) none = omega arith
second_few (l ∷ k ∷ ls) none = absurd (cc)

few_second : (ls : List Load) → length ls ≤ 1 → option_map {T = Load} {U = ℕ} (λ l. l.at) (slice_get ls 1) ≡ None
few_second [] few = refl
few_second (l ∷ []) few = refl
few_second (l ∷ k ∷ ls) few = absurd (omega arith)

fewer_kept : (p q : List ℕ → Bool) (cs : List (List ℕ)) → length (filter p (filter q cs)) ≤ length (filter p cs)
fewer_kept p q [] = omega arith
fewer_kept p q (c ∷ cs) =
    let later : length (filter p (filter q cs)) ≤ length (filter p cs) = fewer_kept p q cs in
    elim (q c) as (λ b. length (filter p (if◌then◌else◌ {A = List (List ℕ)} b (c ∷ filter q cs) (filter q cs))) ≤ length (filter p (c ∷ cs))) [
      | true ↦ elim (p c) as (λ b. length (if◌then◌else◌ {A = List (List ℕ)} b (c ∷ filter p (filter q cs)) (filter p (filter q cs))) ≤ length (if◌then◌else◌ {A = List (List ℕ)} b (c ∷ filter p cs) (filter p cs))) [
        | true ↦ omega arith
        | false ↦ later
      ]
      | false ↦ elim (p c) as (λ b. length (filter p (filter q cs)) ≤ length (if◌then◌else◌ {A = List (List ℕ)} b (c ∷ filter p cs) (filter p cs))) [
        | true ↦ omega arith
        | false ↦ later
      ]
    ]

same_moved : (spots : LinkSpots) (p : List ℕ → Bool) (cs ds : List (List ℕ)) → ((c d : List ℕ) → IsMoved spots c d → p d ≡ p c) → AreMoved spots cs ds → length (filter p ds) ≡ length (filter p cs)
same_moved spots p [] [] keeps are = refl
same_moved spots p [] (d ∷ ds) keeps are = absurd are
same_moved spots p (c ∷ cs) [] keeps are = absurd are
same_moved spots p (c ∷ cs) (d ∷ ds) keeps are =
    let later : length (filter p ds) ≡ length (filter p cs) = same_moved spots p cs ds keeps are.1 in
    ap (λ (b : Bool). length (if◌then◌else◌ {A = List (List ℕ)} b (d ∷ filter p ds) (filter p ds))) (keeps c d are.0)
    ∙ elim (p c) as (λ b. length (if◌then◌else◌ {A = List (List ℕ)} b (d ∷ filter p ds) (filter p ds)) ≡ length (if◌then◌else◌ {A = List (List ℕ)} b (c ∷ filter p cs) (filter p cs))) [
      | true ↦ ap suc later
      | false ↦ later
    ]

second_cached : (spots : LinkSpots) (kind : ℕ × ℕ) (at at' : ℕ) (cs ds : List (List ℕ)) → length spots.groups ≡ 6 → AreMoved spots (filter is_kept cs) ds → second_of (loads_from at cs) kind ≡ None → second_of (loads_from at' ds) kind ≡ None
second_cached spots kind at at' cs ds six are none =
    let p : List ℕ → Bool = λ c. is_of_kind kind (number_of c) in
    let few : length (filter (λ (l : Load). is_of_kind kind (number_of l.bytes)) (loads_from at cs)) ≤ 1 = second_few (filter (λ (l : Load). is_of_kind kind (number_of l.bytes)) (loads_from at cs)) none in
    few_second (filter (λ (l : Load). is_of_kind kind (number_of l.bytes)) (loads_from at' ds))
    (omega (arith, few, loads_count (λ c. is_of_kind kind (number_of c)) at cs, loads_count (λ c. is_of_kind kind (number_of c)) at' ds, same_moved spots (λ c. is_of_kind kind (number_of c)) (filter is_kept cs) ds (keeps_number spots (is_of_kind kind) six) are, fewer_kept (λ c. is_of_kind kind (number_of c)) is_kept cs))

twice_cached : (spots : LinkSpots) (kinds : List (ℕ × ℕ)) (at at' : ℕ) (cs ds : List (List ℕ)) → length spots.groups ≡ 6 → AreMoved spots (filter is_kept cs) ds
    → second_of_any (loads_from at cs) kinds ≡ None → second_of_any (loads_from at' ds) kinds ≡ None
twice_cached spots [] at at' cs ds six are none = refl
twice_cached spots (kind ∷ kinds) at at' cs ds six are none =
    let both = least_none_both (second_of (loads_from at cs) kind) (second_of_any (loads_from at cs) kinds) none in
    ap₂ least (second_cached spots kind at at' cs ds six are both.0) (twice_cached spots kinds at at' cs ds six are both.1)

-- a command that passes a test is still there
any_loads : (p : List ℕ → Bool) (at : ℕ) (cs : List (List ℕ)) → list_any (λ (l : Load). p l.bytes) (loads_from at cs) ≡ list_any p cs
any_loads p at [] = refl
any_loads p at (c ∷ cs) = ap (λ (b : Bool). p c || b) (any_loads p (at + length c) cs)

any_kept : (p q : List ℕ → Bool) → ((c : List ℕ) → q c ≡ false → p c ≡ false) → (cs : List (List ℕ)) → list_any p (filter q cs) ≡ list_any p cs
any_kept p q none [] = refl
any_kept p q none (c ∷ cs) = elim (bool_cases (q c)) [
  | inl dropped ↦ ap (list_any p) (cond-false (q c) (c ∷ filter q cs) (filter q cs) dropped) ∙ (any_kept p q none cs ∙ sym (ap (λ (b : Bool). b || list_any p cs) (none c dropped)))
  | inr kept ↦ ap (list_any p) (cond-true (q c) (c ∷ filter q cs) (filter q cs) kept) ∙ ap (λ (b : Bool). p c || b) (any_kept p q none cs)
]

any_moved : (spots : LinkSpots) (p : List ℕ → Bool) (cs ds : List (List ℕ)) → ((c d : List ℕ) → IsMoved spots c d → p d ≡ p c) → AreMoved spots cs ds → list_any p ds ≡ list_any p cs
any_moved spots p [] [] keeps are = refl
any_moved spots p [] (d ∷ ds) keeps are = absurd are
any_moved spots p (c ∷ cs) [] keeps are = absurd are
any_moved spots p (c ∷ cs) (d ∷ ds) keeps are = ap₂ (λ (a b : Bool). a || b) (keeps c d are.0) (any_moved spots p cs ds keeps are.1)

-- a command that is left out has none of the other kinds
pub dropped_name : (c : List ℕ) → is_kept c ≡ false → is_install_name (number_of c) ≡ false
dropped_name c dropped = grind (arith, nat_tests)

-- rules 7 to 9, 15 and 16
pub record KeepCommandRules (at : ℕ) (ds : List (List ℕ)) : Type 0 where
  pub known : breaks_unknown_command (loads_from at ds) ≡ None
  pub once : breaks_command_twice (loads_from at ds) ≡ None
  pub named : breaks_no_install_name (loads_from at ds) ≡ None
  pub names : breaks_name_text (loads_from at ds) ≡ None
  pub safe : breaks_unsafe_name (loads_from at ds) ≡ None

dylib_others : IsForOthers is_dylib
dylib_others = record { segment = refl; info = refl; info_only = refl; symtab = refl; dysymtab = refl; starts = refl; code = refl }

pub name_others : IsForOthers is_install_name
name_others = record { segment = refl; info = refl; info_only = refl; symtab = refl; dysymtab = refl; starts = refl; code = refl }

pub command_rules_kept : (spots : LinkSpots) (at at' : ℕ) (cs ds : List (List ℕ)) → length spots.groups ≡ 6 → AreMoved spots (filter is_kept cs) ds → KeepCommandRules at cs → KeepCommandRules at' ds
command_rules_kept spots at at' cs ds six are rules = record {
  known = first_load-cached spots (λ c. not (is_known (number_of c))) at at' cs ds (keeps_number spots (λ n. not (is_known n)) six) are rules.known;
  once = twice_cached spots once_kinds at at' cs ds six are rules.once;
  named = ap (λ (b : Bool). if◌then◌else◌ {A = Option ℕ} b None (Some 0))
      (any_loads (λ c. is_install_name (number_of c)) at' ds ∙ (any_moved spots (λ c. is_install_name (number_of c)) (filter is_kept cs) ds (keeps_number spots is_install_name six) are
      ∙ (any_kept (λ c. is_install_name (number_of c)) is_kept dropped_name cs ∙ sym (any_loads (λ c. is_install_name (number_of c)) at cs))))
      ∙ rules.named;
  names = first_load-cached spots (λ c. is_dylib (number_of c) && not (is_plain_name c)) at at' cs ds (keeps_others spots is_dylib (λ c. not (is_plain_name c)) six dylib_others) are rules.names;
  safe = first_load-cached spots (λ c. is_install_name (number_of c) && not (is_safe_path (dylib_name c))) at at' cs ds (keeps_others spots is_install_name (λ c. not (is_safe_path (dylib_name c))) six name_others) are rules.safe;
}
