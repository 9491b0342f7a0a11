-- What is true of a cache in whose head nothing is found.
use Rattle.std.proofs.Common.{◌≡◌, ◌≤◌, ◌<◌, ◌⊎◌, inl, inr, nat_eq, ◌||◌, ℕ, zero, suc, ◌+◌, ◌*◌, Bool, true, false, not, ◌&&◌, cond, nat_le, Option, Some, None, List, drop, length, refl, ap, ◌∙◌, arith}
use Rattle.std.specs.Prelude.{find, is_some, option_map}
use Rattle.std.specs.List.{list_any, range_with_len}
use Rattle.std.proofs.lemmas.Bool.{eqb-true}
use Rattle.std.proofs.lemmas.Bool.Decides.{nat_tests}
use Rattle.dsc_base.specs.Numbers.{number_at}
use Rattle.dsc_base.specs.declared.fault.Finding.{Finding}
use Rattle.dsc_base.specs.declared.finding_kind.FindingKind.TheVariants.{NotCache, ShortHeader, TableOutside, NameNotPlain}
use Rattle.dsc_base.specs.Texts.{is_plain_text}
use Rattle.cache_header.specs.Paths.{is_nul}
use Rattle.cache_header.specs.Reading.{header_number, image_count, path_offset, image_path}
use Rattle.cache_header.specs.Findings.{is_cache, has_header, HasHeader, has_table, has_text_table, table_outside, begins_plain, has_plain_path, ill_named, finding, name_finding, head_finding}

pub record IsSoundHead (c : List ℕ) : Type 0 where
  pub begins : is_cache c ≡ true
  pub header : HasHeader c
  pub few_mappings : number_at 4 c 0x14 ≤ 4096
  pub few_images : image_count c ≤ 4096
  pub mapping_table : number_at 4 c 0x10 + 32 * number_at 4 c 0x14 ≤ length c
  pub image_table : header_number 4 c 0x18 + 32 * image_count c ≤ length c
  pub text_table : (header_number 8 c 0x90 ≡ 0) ⊎ (header_number 8 c 0x88 + 32 * header_number 8 c 0x90 ≤ length c)
  pub plain : (k : ℕ) → k < image_count c → is_plain_text (image_path c k) ≡ true

-- a test that is passed, where nothing is found
passed : {X : Type 0} (b : Bool) (x : X) (o : Option X) → cond (not b) (Some x) o ≡ None → (b ≡ true) × (o ≡ None)
passed true x o none = (refl, none)
passed false x o none = absurd (cc)

not_outside : (place : Option ℕ) (o : Option Finding) → cond (is_some place) (option_map (finding TableOutside 0) place) o ≡ None → (place ≡ None) × (o ≡ None)
not_outside None o none = (refl, none)
not_outside (Some at) o none = absurd (cc)

none_named : (c : List ℕ) (o : Option ℕ) → option_map (λ k. finding NameNotPlain k (path_offset c k)) o ≡ None → o ≡ None
none_named c None none = refl
none_named c (Some k) none = absurd (cc)

both : (a b : Bool) → a && b ≡ true → (a ≡ true) × (b ≡ true)
both true b is = (refl, is)
both false b is = absurd (cc)

-- where no number of a range passes, each fails
none_first : (b : Bool) (n : ℕ) (o : Option ℕ) → cond b (Some n) o ≡ None → (b ≡ false) × (o ≡ None)
none_first true n o none = absurd (cc)
none_first false n o none = (refl, none)

all_fail : (p : ℕ → Bool) (first n k : ℕ) → find p (range_with_len first n) ≡ None → k < n → p (first + k) ≡ false
all_fail p first zero k none lt = absurd (omega arith)
all_fail p first (suc n) zero none lt =
    let parts = none_first (p first) first (find p (range_with_len (first + 1) n)) none in
    ap p (omega arith) ∙ parts.0
all_fail p first (suc n) (suc k) none lt =
    let parts = none_first (p first) first (find p (range_with_len (first + 1) n)) none in
    ap p (omega arith) ∙ all_fail p (first + 1) n k parts.1 (omega arith)

header_facts : (c : List ℕ) → has_header c ≡ true → HasHeader c
unfolding has_header
header_facts c holds =
    let first = both (nat_le 0x14 (length c)) (nat_le 0x20 (number_at 4 c 0x10) && nat_le (number_at 4 c 0x10) (length c)) holds in
    let second = both (nat_le 0x20 (number_at 4 c 0x10)) (nat_le (number_at 4 c 0x10) (length c)) first.1 in
    let counts : nat_le 0x20 (number_at 4 c 0x10) ≡ true = second.0 in
    let inside : nat_le (number_at 4 c 0x10) (length c) ≡ true = second.1 in
    record { counts = grind (arith, nat_tests); inside = grind (arith, nat_tests) }

table_facts : (c : List ℕ) (at count : ℕ) → has_table c at count ≡ true → (count ≤ 4096) × (at + 32 * count ≤ length c)
table_facts c at count holds =
    let parts = both (nat_le count 4096) (nat_le (at + 32 * count) (length c)) holds in
    let few : nat_le count 4096 ≡ true = parts.0 in
    let inside : nat_le (at + 32 * count) (length c) ≡ true = parts.1 in
    (grind (arith, nat_tests), grind (arith, nat_tests))

text_facts : (c : List ℕ) (at count : ℕ) → has_text_table c at count ≡ true → (count ≡ 0) ⊎ (at + 32 * count ≤ length c)
text_facts c at count holds =
    elim (nat_eq count 0) as (λ b. nat_eq count 0 ≡ b → b || has_table c at count ≡ true → (count ≡ 0) ⊎ (at + 32 * count ≤ length c)) [
      | true ↦ λ is any. inl (eqb-true count 0 is)
      | false ↦ λ is inside. inr (table_facts c at count inside).1
    ] refl holds

plain_facts : (c : List ℕ) (k : ℕ) → has_plain_path c k ≡ true → is_plain_text (image_path c k) ≡ true
unfolding begins_plain
plain_facts c k holds = let parts = both (list_any is_nul (drop (path_offset c k) c)) (is_plain_text (image_path c k)) holds in parts.1

not_false : (b : Bool) → not b ≡ false → b ≡ true
not_false true is = refl
not_false false is = absurd (cc)

pub sound_head : (c : List ℕ) → head_finding c ≡ None → IsSoundHead c
unfolding head_finding table_outside ill_named
sound_head c none =
    let begins = passed (is_cache c) (finding NotCache 0 0) _ none in
    let header = passed (has_header c) (finding ShortHeader 0 0x10) _ begins.1 in
    let tables = not_outside (table_outside c) (name_finding c) header.1 in
    let mappings = passed (has_table c (number_at 4 c 0x10) (number_at 4 c 0x14)) 0x10 _ tables.0 in
    let images = passed (has_table c (header_number 4 c 0x18) (image_count c)) 0x18 _ mappings.1 in
    let texts = passed (has_text_table c (header_number 8 c 0x88) (header_number 8 c 0x90)) 0x88 _ images.1 in
    let mapping_table = table_facts c (number_at 4 c 0x10) (number_at 4 c 0x14) mappings.0 in
    let image_table = table_facts c (header_number 4 c 0x18) (image_count c) images.0 in
    let named = none_named c (ill_named c) tables.1 in
    record {
      begins = begins.0;
      header = header_facts c header.0;
      few_mappings = mapping_table.0;
      few_images = image_table.0;
      mapping_table = mapping_table.1;
      image_table = image_table.1;
      text_table = text_facts c (header_number 8 c 0x88) (header_number 8 c 0x90) texts.0;
      plain = λ k lt. plain_facts c k (ap (has_plain_path c) (omega arith) ∙ not_false (has_plain_path c (0 + k)) (all_fail (λ j. not (has_plain_path c j)) 0 (image_count c) k named lt));
    }
