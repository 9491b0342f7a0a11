-- What the bytes of a table say at its head, and where its records stand.
use Rattle.std.proofs.Common.{◌≡◌, ◌≤◌, ◌<◌, ℕ, ◌+◌, ◌*◌, ◌-◌, ◌^◌, Bool, true, false, ◌&&◌, ◌||◌, nat_eq, nat_le, List, [], ◌∷◌, ◌++◌, take, drop, length, get_or, refl, sym, ap, ap₂, subst, ◌∙◌, arith, length-append, append_assoc, take-take, Some}
use Rattle.std.specs.List.{flat_map, starts_with}
use Rattle.std.specs.Cmp.Lexicographic.{pointwise}
use Rattle.std.proofs.lemmas.List.{take_at, drop_at, take-append-drop, length-take-le, length-drop, drop_all, drop-take, take_rest}
use Rattle.std.proofs.lemmas.Bool.{eqb-true}
use Rattle.std.specs.Cmp.Lexicographic.{same_text}
use Rattle.dsc_base.proofs.NumberLaws.{number_at-lt, number_at-take}
use Rattle.patch_table.proofs.ByteLaws.{part_again, number_again}
use Rattle.dsc_base.proofs.SpeltLaws.{bytes_taken}
use Rattle.std.proofs.lemmas.Bool.Decides.{nat_tests}
use Rattle.dsc_base.specs.Numbers.{number_at}
use Rattle.dsc_base.specs.Fields.{spelled, field_at, AreWhole}
use Rattle.dsc_base.specs.declared.fields.Field.{Field}
use Rattle.dsc_base.specs.declared.fields.Field.TheVariants.{U32, Identifier}
use Rattle.dsc_base.proofs.FieldLaws.{length-spelled, u32_spelled, identifier_spelled}
use Rattle.patch_table.specs.declared.patches.Record.{Record}
use Rattle.patch_table.specs.Records.{Table}
use Rattle.patch_table.specs.Spelling.{magic, kind_number, head_fields, record_bytes, table_bytes, SpellRecords, IsTable, FitsTable, AreRecords, Spells}
use Rattle.patch_table.specs.Reading.{has_head, HasHead}
use Rattle.patch_table.proofs.RecordLaws.{length-records, records_same}

abbrev pub fields_of : Table → List Field
fields_of t = head_fields t.cache_uuid t.program t.image (length t.cached) (length t.own)

abbrev pub records_of : Table → List ℕ
records_of t = flat_map record_bytes t.cached ++ flat_map record_bytes t.own

head_whole : (t : Table) (b : List ℕ) → Spells t b → AreWhole (fields_of t)
head_whole t b is = (refl, (is.fits.uuid, (tt, (tt, (tt, (tt, tt))))))

head_length : (t : Table) (b : List ℕ) → Spells t b → length (spelled (fields_of t)) ≡ 0x30
head_length t b is = length-spelled (fields_of t) (head_whole t b is)

bytes_are : (t : Table) (b : List ℕ) → Spells t b → b ≡ spelled (fields_of t) ++ records_of t
unfolding table_bytes
bytes_are t b is = sym is.exact

number_told : (t : Table) (b : List ℕ) (at v : ℕ) → Spells t b → field_at (fields_of t) at ≡ Some (U32 v) → v < 2 ^ 32 → number_at 4 b at ≡ v
number_told t b at v is there small =
    ap (λ (c : List ℕ). number_at 4 c at) (bytes_are t b is) ∙ u32_spelled (fields_of t) at v (records_of t) (head_whole t b is) there small

identifier_told : (t : Table) (b : List ℕ) (at : ℕ) (bytes : List ℕ) → Spells t b → field_at (fields_of t) at ≡ Some (Identifier bytes) → length bytes ≡ 16 → take 16 (drop at b) ≡ bytes
identifier_told t b at bytes is there sixteen =
    ap (λ (c : List ℕ). take 16 (drop at c)) (bytes_are t b is) ∙ identifier_spelled (fields_of t) at bytes (records_of t) (head_whole t b is) there sixteen

kind_small : (program : Bool) → kind_number program < 2 ^ 32
kind_small true = omega arith
kind_small false = omega arith

-- ---- the head

-- what the head of a table says
record Told (t : Table) (b : List ℕ) : Type 0 where
  pub begins : take 16 b ≡ magic
  pub uuid : take 16 (drop 0x10 b) ≡ t.cache_uuid
  pub kind : number_at 4 b 0x20 ≡ kind_number t.program
  pub image : number_at 4 b 0x24 ≡ t.image
  pub cached : number_at 4 b 0x28 ≡ length t.cached
  pub own : number_at 4 b 0x2C ≡ length t.own
  pub long : length b ≡ 0x30 + 24 * (length t.cached + length t.own)

told : (t : Table) (b : List ℕ) → Spells t b → Told t b
told t b is = record {
  begins = identifier_told t b 0 magic is refl refl;
  uuid = identifier_told t b 0x10 t.cache_uuid is refl is.fits.uuid;
  kind = number_told t b 0x20 (kind_number t.program) is refl (kind_small t.program);
  image = number_told t b 0x24 t.image is refl is.fits.image;
  cached = number_told t b 0x28 (length t.cached) is refl is.sound.few_cached;
  own = number_told t b 0x2C (length t.own) is refl is.sound.few_own;
  long = omega (
    arith,
    ap (λ (l : List ℕ). length l) (bytes_are t b is),
    length-append (spelled (fields_of t)) (records_of t),
    length-append (flat_map record_bytes t.cached) (flat_map record_bytes t.own),
    head_length t b is,
    length-records t.cached,
    length-records t.own,
  );
}

kind_there : (p : Bool) (k i c : ℕ) → k ≡ kind_number p → (p ≡ true → (i ≡ 0) × (c ≡ 0)) → (nat_eq k 1 || (nat_eq k 2 && (nat_eq i 0 && nat_eq c 0))) ≡ true
kind_there false k i c is alone = rw is refl
kind_there true k i c is alone = let none = alone refl in rw (is, none.0, none.1) refl

-- a table has a head
pub head_there : (t : Table) (b : List ℕ) → Spells t b → has_head b ≡ true
unfolding has_head
head_there t b is =
    let says : Told t b = told t b is in
    let enough : nat_le 0x30 (length b) ≡ true = let long = says.long in grind (arith, nat_tests) in
    let begins : starts_with nat_eq b magic ≡ true = ap (λ (l : List ℕ). pointwise nat_eq magic l) says.begins in
    let kind : (nat_eq (number_at 4 b 0x20) 1 || (nat_eq (number_at 4 b 0x20) 2 && (nat_eq (number_at 4 b 0x24) 0 && nat_eq (number_at 4 b 0x28) 0))) ≡ true =
    kind_there t.program (number_at 4 b 0x20) (number_at 4 b 0x24) (number_at 4 b 0x28) says.kind
    (λ program. let alone = is.sound.alone program in (says.image ∙ alone.0, says.cached ∙ ap (λ (rs : List Record). length rs) alone.1)) in
    let ends : nat_eq (length b) (0x30 + 24 * (number_at 4 b 0x28 + number_at 4 b 0x2C)) ≡ true =
    let long = says.long in let cached = says.cached in let own = says.own in grind (arith, nat_tests) in
    rw (enough, begins, kind, ends) refl

-- where its records stand
records_part : (t : Table) (b : List ℕ) → Spells t b → drop 0x30 b ≡ records_of t
records_part t b is = ap (λ (l : List ℕ). drop 0x30 l) (bytes_are t b is) ∙ drop_at (spelled (fields_of t)) (records_of t) 0x30 (head_length t b is)

pub cached_part : (t : Table) (b : List ℕ) → Spells t b → take (24 * number_at 4 b 0x28) (drop 0x30 b) ≡ flat_map record_bytes t.cached
cached_part t b is =
    ap₂ (λ (n : ℕ) (l : List ℕ). take (24 * n) l) (told t b is).cached (records_part t b is)
    ∙ take_at (flat_map record_bytes t.cached) (flat_map record_bytes t.own) (24 * length t.cached) (length-records t.cached)

pub own_part : (t : Table) (b : List ℕ) → Spells t b → drop (24 * number_at 4 b 0x28) (drop 0x30 b) ≡ flat_map record_bytes t.own
own_part t b is =
    ap₂ (λ (n : ℕ) (l : List ℕ). drop (24 * n) l) (told t b is).cached (records_part t b is)
    ∙ drop_at (flat_map record_bytes t.cached) (flat_map record_bytes t.own) (24 * length t.cached) (length-records t.cached)

kind_same : (p q : Bool) → kind_number p ≡ kind_number q → p ≡ q
kind_same false false is = refl
kind_same true true is = refl
kind_same false true is = absurd (omega (arith, is))
kind_same true false is = absurd (omega (arith, is))

-- the same bytes are the same table
pub table_same : (t u : Table) (b : List ℕ) → Spells t b → Spells u b → t ≡ u
table_same t u b is also =
    let one : Told t b = told t b is in
    let other : Told u b = told u b also in
    let uuid : t.cache_uuid ≡ u.cache_uuid = sym one.uuid ∙ other.uuid in
    let program : t.program ≡ u.program = kind_same t.program u.program (sym one.kind ∙ other.kind) in
    let image : t.image ≡ u.image = sym one.image ∙ other.image in
    let cached : t.cached ≡ u.cached = records_same t.cached u.cached is.fits.cached also.fits.cached (sym (cached_part t b is) ∙ cached_part u b also) in
    let own : t.own ≡ u.own = records_same t.own u.own is.fits.own also.fits.own (sym (own_part t b is) ∙ own_part u b also) in
    λ i. record { cache_uuid = (uuid i); program = (program i); image = (image i); cached = (cached i); own = (own i) }

-- ---- bytes with a head

both : (a b : Bool) → a && b ≡ true → (a ≡ true) × (b ≡ true)
both true b is = (refl, is)
both false b is = absurd (cc)

kind_facts : (k i c : ℕ) → (nat_eq k 1 || (nat_eq k 2 && (nat_eq i 0 && nat_eq c 0))) ≡ true → (kind_number (nat_eq k 2) ≡ k) × (nat_eq k 2 ≡ true → (i ≡ 0) × (c ≡ 0))
kind_facts k i c =
    elim (nat_eq k 1) as (λ t. nat_eq k 1 ≡ t → (t || (nat_eq k 2 && (nat_eq i 0 && nat_eq c 0))) ≡ true → (kind_number (nat_eq k 2) ≡ k) × (nat_eq k 2 ≡ true → (i ≡ 0) × (c ≡ 0))) [
      | true ↦ λ one is. subst (λ (n : ℕ). (kind_number (nat_eq n 2) ≡ n) × (nat_eq n 2 ≡ true → (i ≡ 0) × (c ≡ 0))) (sym (eqb-true k 1 one)) (refl, λ program. absurd (cc))
      | false ↦ λ no is.
          let two = both (nat_eq k 2) (nat_eq i 0 && nat_eq c 0) is in
          let none = both (nat_eq i 0) (nat_eq c 0) two.1 in
          let kind : k ≡ 2 = eqb-true k 2 two.0 in
          (ap kind_number two.0 ∙ sym kind, λ program. (eqb-true i 0 none.0, eqb-true c 0 none.1))
    ] refl

pub head_facts : (b : List ℕ) → has_head b ≡ true → HasHead b
unfolding has_head
head_facts b is =
    let kinds : Bool = nat_eq (number_at 4 b 0x20) 1 || (nat_eq (number_at 4 b 0x20) 2 && (nat_eq (number_at 4 b 0x24) 0 && nat_eq (number_at 4 b 0x28) 0)) in
    let first = both (nat_le 0x30 (length b)) (starts_with nat_eq b magic && (kinds && nat_eq (length b) (0x30 + 24 * (number_at 4 b 0x28 + number_at 4 b 0x2C)))) is in
    let second = both (starts_with nat_eq b magic) (kinds && nat_eq (length b) (0x30 + 24 * (number_at 4 b 0x28 + number_at 4 b 0x2C))) first.1 in
    let third = both kinds (nat_eq (length b) (0x30 + 24 * (number_at 4 b 0x28 + number_at 4 b 0x2C))) second.1 in
    let kind = kind_facts (number_at 4 b 0x20) (number_at 4 b 0x24) (number_at 4 b 0x28) third.0 in
    record {
      begins = sym (same_text magic (take 16 b) (sym second.0));
      long = eqb-true (length b) (0x30 + 24 * (number_at 4 b 0x28 + number_at 4 b 0x2C)) third.1;
      kind = kind.0;
      alone = kind.1;
    }

-- ---- the table that they tell

abbrev pub told_table : List ℕ → List Record → List Record → Table
told_table b cached own = record {
  cache_uuid = take 16 (drop 0x10 b);
  program = nat_eq (number_at 4 b 0x20) 2;
  image = number_at 4 b 0x24;
  cached = cached;
  own = own;
}

head_again : (h uuid : List ℕ) (program : Bool) (image cached own : ℕ) → length h ≡ 0x30 → ((k : ℕ) → get_or h k 0 < 256) → magic ≡ take 16 h → uuid ≡ take 16 (drop 0x10 h)
    → kind_number program ≡ number_at 4 h 0x20 → image ≡ number_at 4 h 0x24 → cached ≡ number_at 4 h 0x28 → own ≡ number_at 4 h 0x2C → spelled (head_fields uuid program image cached own) ≡ h
unfolding spelled
head_again h uuid program image cached own long bytes begins uuid_is kind image_is cached_is own_is =
    part_again 16 0 h magic _ begins
    (part_again 16 0x10 h uuid _ uuid_is
    (number_again 4 0x20 h _ (kind_number program) (omega (arith, long)) bytes kind
    (number_again 4 0x24 h _ image (omega (arith, long)) bytes image_is
    (number_again 4 0x28 h _ cached (omega (arith, long)) bytes cached_is
    (number_again 4 0x2C h [] own (omega (arith, long)) bytes own_is (sym (drop_all 0x30 h (omega (arith, long)))))))))

head_spelt : (b : List ℕ) (rest : List ℕ) (cached own : ℕ) → ((k : ℕ) → get_or b k 0 < 256) → HasHead b → cached ≡ number_at 4 b 0x28 → own ≡ number_at 4 b 0x2C → rest ≡ drop 0x30 b
    → spelled (head_fields (take 16 (drop 0x10 b)) (nat_eq (number_at 4 b 0x20) 2) (number_at 4 b 0x24) cached own) ++ rest ≡ b
head_spelt b rest cached own bytes has cached_is own_is follows =
    let h : List ℕ = take 0x30 b in
    let room : 0x30 ≤ length b = omega (arith, has.long) in
    let number : (at : ℕ) → at + 4 ≤ 0x30 → number_at 4 b at ≡ number_at 4 (take 0x30 b) at = λ at le. sym (number_at-take 4 0x30 b at le) in
    let begins : magic ≡ take 16 (take 0x30 b) = sym has.begins ∙ sym (take-take 16 0x30 b (omega arith)) in
    let uuid : take 16 (drop 0x10 b) ≡ take 16 (drop 0x10 (take 0x30 b)) =
    sym (take-take 16 0x20 (drop 0x10 b) (omega arith)) ∙ ap (λ (l : List ℕ). take 16 l) (sym (drop-take 0x10 0x20 b)) in
    ap₂ (λ (x y : List ℕ). x ++ y)
    (head_again (take 0x30 b) (take 16 (drop 0x10 b)) (nat_eq (number_at 4 b 0x20) 2) (number_at 4 b 0x24) cached own (length-take-le 0x30 b room) (bytes_taken 0x30 b room bytes)
    begins uuid (has.kind ∙ number 0x20 (omega arith)) (number 0x24 (omega arith)) (cached_is ∙ number 0x28 (omega arith)) (own_is ∙ number 0x2C (omega arith)))
    follows
    ∙ take-append-drop 0x30 b

none_left : (rs : List Record) → length rs ≡ 0 → rs ≡ []
none_left [] none = refl
none_left (r ∷ rs) none = absurd (omega (arith, none))

counted : (rs : List Record) (part : List ℕ) (n : ℕ) → SpellRecords rs part → length part ≡ 24 * n → length rs ≡ n
counted rs part n spelt long = omega (arith, length-records rs, ap (λ (l : List ℕ). length l) spelt.exact, long)

pub table_spelt : (b : List ℕ) (cached own : List Record) → ((k : ℕ) → get_or b k 0 < 256) → HasHead b
    → AreRecords cached (take (24 * number_at 4 b 0x28) (drop 0x30 b)) → AreRecords own (drop (24 * number_at 4 b 0x28) (drop 0x30 b)) → Spells (told_table b cached own) b
unfolding table_bytes
table_spelt b cached own bytes has first second =
    let n : ℕ = number_at 4 b 0x28 in
    let long = has.long in
    let room : length (drop 0x30 b) ≡ 24 * (number_at 4 b 0x28 + number_at 4 b 0x2C) = omega (arith, length-drop 0x30 b, long) in
    let cached_count : length cached ≡ number_at 4 b 0x28 =
    counted cached (take (24 * number_at 4 b 0x28) (drop 0x30 b)) (number_at 4 b 0x28) first.spelt (length-take-le (24 * number_at 4 b 0x28) (drop 0x30 b) (omega (arith, room))) in
    let own_count : length own ≡ number_at 4 b 0x2C =
    counted own (drop (24 * number_at 4 b 0x28) (drop 0x30 b)) (number_at 4 b 0x2C) second.spelt (omega (arith, length-drop (24 * number_at 4 b 0x28) (drop 0x30 b), room)) in
    record {
      sound = record {
        few_cached = omega (arith, cached_count, number_at-lt 4 b 0x28 bytes);
        few_own = omega (arith, own_count, number_at-lt 4 b 0x2C bytes);
        cached_rise = first.rise;
        own_rise = second.rise;
        alone = λ program. let alone = has.alone program in (alone.0, none_left cached (cached_count ∙ alone.1));
      };
      fits = record {
        uuid = length-take-le 16 (drop 0x10 b) (omega (arith, length-drop 0x10 b, long));
        image = number_at-lt 4 b 0x24 bytes;
        cached = first.spelt.fit;
        own = second.spelt.fit;
      };
      exact = head_spelt b (flat_map record_bytes cached ++ flat_map record_bytes own) (length cached) (length own) bytes has cached_count own_count
          (ap₂ (λ (x y : List ℕ). x ++ y) first.spelt.exact second.spelt.exact ∙ take-append-drop (24 * number_at 4 b 0x28) (drop 0x30 b));
    }

-- the records of a table where its bytes are cut
pub cached_are : (t : Table) (b part : List ℕ) → Spells t b → part ≡ take (24 * number_at 4 b 0x28) (drop 0x30 b) → AreRecords t.cached part
cached_are t b part is cut = record {
  spelt = record { fit = is.fits.cached; exact = sym (cut ∙ cached_part t b is) };
  rise = is.sound.cached_rise;
}

pub own_are : (t : Table) (b part : List ℕ) → Spells t b → part ≡ drop (24 * number_at 4 b 0x28) (drop 0x30 b) → AreRecords t.own part
own_are t b part is cut = record {
  spelt = record { fit = is.fits.own; exact = sym (cut ∙ own_part t b is) };
  rise = is.sound.own_rise;
}

-- a table that is written part by part
table_written : (t : Table) (head first whole : List ℕ) → head ≡ spelled (fields_of t) → first ≡ head ++ flat_map record_bytes t.cached → whole ≡ first ++ flat_map record_bytes t.own → table_bytes t ≡ whole
unfolding table_bytes
table_written t head first whole start more rest =
    sym (rest ∙ (ap (λ (l : List ℕ). l ++ flat_map record_bytes t.own) (more ∙ ap (λ (l : List ℕ). l ++ flat_map record_bytes t.cached) start)
    ∙ append_assoc (spelled (fields_of t)) (flat_map record_bytes t.cached) (flat_map record_bytes t.own)))

-- the parts that a reader cuts are those
pub cut_front : (b part : List ℕ) (n : ℕ) → part ≡ take (24 * n) (take (length b - 0x30) (drop 0x30 b)) → n ≡ number_at 4 b 0x28 → part ≡ take (24 * number_at 4 b 0x28) (drop 0x30 b)
cut_front b part n is counted = is ∙ ap₂ (λ (m : ℕ) (l : List ℕ). take (24 * m) l) counted (take_rest b 0x30)

pub cut_back : (b part : List ℕ) (n : ℕ) → part ≡ drop (24 * n) (take (length b - 0x30) (drop 0x30 b)) → n ≡ number_at 4 b 0x28 → part ≡ drop (24 * number_at 4 b 0x28) (drop 0x30 b)
cut_back b part n is counted = is ∙ ap₂ (λ (m : ℕ) (l : List ℕ). drop (24 * m) l) counted (take_rest b 0x30)

-- and the value that it gives is that table
pub table_told : (b uuid : List ℕ) (kind image : ℕ) (cached own : List Record) (front back : List ℕ) → ((k : ℕ) → get_or b k 0 < 256) → HasHead b
    → uuid ≡ take 16 (drop 0x10 b) → kind ≡ number_at 4 b 0x20 → image ≡ number_at 4 b 0x24
    → front ≡ take (24 * number_at 4 b 0x28) (drop 0x30 b) → back ≡ drop (24 * number_at 4 b 0x28) (drop 0x30 b) → AreRecords cached front → AreRecords own back
    → let t : Table = record { cache_uuid = uuid; program = nat_eq kind 2; image = image; cached = cached; own = own } in Spells t b
table_told b uuid kind image cached own front back bytes has uuid_is kind_is image_is front_is back_is first second =
    let told : Spells (told_table b cached own) b =
    table_spelt b cached own bytes has (subst (AreRecords cached) front_is first) (subst (AreRecords own) back_is second) in
    let same : told_table b cached own ≡ record { cache_uuid = uuid; program = nat_eq kind 2; image = image; cached = cached; own = own } =
    λ i. record { cache_uuid = (sym uuid_is i); program = (nat_eq (sym kind_is i) 2); image = (sym image_is i); cached = cached; own = own } in
    subst (λ (t : Table). Spells t b) same told

-- a table whose parts are written one after another is spelled
pub table_spells : (t : Table) (head first whole : List ℕ) → IsTable t → FitsTable t → head ≡ spelled (fields_of t) → first ≡ head ++ flat_map record_bytes t.cached
    → whole ≡ first ++ flat_map record_bytes t.own → Spells t whole
table_spells t head first whole sound fits start more rest = record { sound = sound; fits = fits; exact = table_written t head first whole start more rest }
