-- A record and the bytes that spell it, and records one after another.
use Rattle.std.proofs.Common.{◌≡◌, ◌≤◌, ◌<◌, ℕ, zero, suc, ◌+◌, ◌-◌, ◌*◌, ◌^◌, true, false, nat_eq, if◌then◌else◌, Some, None, List, [], ◌∷◌, ◌++◌, take, drop, length, get_or, All, refl, sym, ap, ap₂, subst, ◌∙◌, arith, length-append, append_assoc, length-take, inl, inr}
use Rattle.std.specs.Prelude.{option_map}
use Rattle.std.specs.List.{flat_map}
use Rattle.std.proofs.lemmas.List.{append-nil, take_at, drop_at, drop_all, take_more, take_all, length-take-le, length-drop, get_or-take, get_or-drop, get_or_past, get_or_default}
use Rattle.std.proofs.lemmas.List.Concat.{flat_map-append}
use Rattle.std.proofs.lemmas.Bool.{eqb-true, cases_lt}
use Rattle.std.proofs.Math.Seq.{drop-append-add, take-add}
use Rattle.std.proofs.lemmas.List.Elements.{All-head, All-tail, All-nil, All-append}
use Rattle.dsc_base.specs.Numbers.{number_at, little_bytes}
use Rattle.dsc_base.proofs.NumberLaws.{number_at-lt}
use Rattle.dsc_base.specs.Fields.{spelled, AreWhole}
use Rattle.dsc_base.proofs.FieldLaws.{length-spelled, u32_spelled, u64_spelled}
use Rattle.patch_table.specs.declared.patches.Base.{Base}
use Rattle.patch_table.specs.declared.patches.Base.TheVariants.{Constant, Cache, File}
use Rattle.patch_table.specs.declared.patches.Record.{Record}
use Rattle.patch_table.specs.Spelling.{base_number, record_fields, record_bytes, FitsRecord, SpellRecords}
use Rattle.patch_table.specs.Reading.{base_of, told_record}
use Rattle.patch_table.proofs.ByteLaws.{number_again}

-- ---- one record

base_small : (b : Base) → base_number b < 2 ^ 32
base_small Constant = omega arith
base_small Cache = omega arith
base_small File = omega arith

base_told : (b : Base) → base_of (base_number b) ≡ Some b
base_told Constant = refl
base_told Cache = refl
base_told File = refl

pub length-record_bytes : (r : Record) → length (record_bytes r) ≡ 24
unfolding record_bytes
length-record_bytes r = length-spelled (record_fields r) (tt, (tt, (tt, (tt, tt))))

-- a record is told by its bytes
pub record_told : (r : Record) → FitsRecord r → told_record (record_bytes r) ≡ Some r
unfolding record_bytes told_record
record_told r fits =
    let fs = record_fields r in
    let whole : AreWhole (record_fields r) = (tt, (tt, (tt, (tt, tt)))) in
    let end : spelled (record_fields r) ++ [] ≡ spelled (record_fields r) = append-nil (spelled (record_fields r)) in
    let first : number_at 8 (spelled (record_fields r)) 0 ≡ r.at = subst (λ (b : List ℕ). number_at 8 b 0 ≡ r.at) end (u64_spelled (record_fields r) 0 r.at [] whole refl fits.at) in
    let second : number_at 4 (spelled (record_fields r)) 8 ≡ base_number r.base = subst (λ (b : List ℕ). number_at 4 b 8 ≡ base_number r.base) end (u32_spelled (record_fields r) 8 (base_number r.base) [] whole refl (base_small r.base)) in
    let third : number_at 4 (spelled (record_fields r)) 12 ≡ 0 = subst (λ (b : List ℕ). number_at 4 b 12 ≡ 0) end (u32_spelled (record_fields r) 12 0 [] whole refl (omega arith)) in
    let fourth : number_at 8 (spelled (record_fields r)) 16 ≡ r.value = subst (λ (b : List ℕ). number_at 8 b 16 ≡ r.value) end (u64_spelled (record_fields r) 16 r.value [] whole refl fits.value) in
    rw (first, second, third, fourth, base_told r.base) refl

-- the base with a number
base_is : (n : ℕ) (b : Base) → base_of n ≡ Some b → base_number b ≡ n
base_is n b =
    elim (nat_eq n 0) as (λ t. nat_eq n 0 ≡ t → (if t then Some Constant else (if nat_eq n 1 then Some Cache else (if nat_eq n 2 then Some File else None))) ≡ Some b → base_number b ≡ n) [
      | true ↦ λ here is. let same : Constant ≡ b = cc in ap base_number (sym same) ∙ sym (eqb-true n 0 here)
      | false ↦ λ no.
          elim (nat_eq n 1) as (λ t. nat_eq n 1 ≡ t → (if t then Some Cache else (if nat_eq n 2 then Some File else None)) ≡ Some b → base_number b ≡ n) [
            | true ↦ λ here is. let same : Cache ≡ b = cc in ap base_number (sym same) ∙ sym (eqb-true n 1 here)
            | false ↦ λ no.
                elim (nat_eq n 2) as (λ t. nat_eq n 2 ≡ t → (if t then Some File else None) ≡ Some b → base_number b ≡ n) [
                  | true ↦ λ here is. let same : File ≡ b = cc in ap base_number (sym same) ∙ sym (eqb-true n 2 here)
                  | false ↦ λ no is. absurd (cc)
                ] refl
          ] refl
    ] refl

-- what the bytes of a record are where they tell one
pub record ToldAs (b : List ℕ) (r : Record) : Type 0 where
  pub at : r.at ≡ number_at 8 b 0
  pub base : base_number r.base ≡ number_at 4 b 8
  pub gap : number_at 4 b 12 ≡ 0
  pub value : r.value ≡ number_at 8 b 16

pub told_as : (b : List ℕ) (r : Record) → told_record b ≡ Some r → ToldAs b r
unfolding told_record
told_as b r =
    elim (nat_eq (number_at 4 b 12) 0) as (λ t. nat_eq (number_at 4 b 12) 0 ≡ t
    → (if t then option_map (λ base. record { at = number_at 8 b 0; base = base; value = number_at 8 b 16 }) (base_of (number_at 4 b 8)) else None) ≡ Some r → ToldAs b r) [
      | true ↦ λ gap.
          elim (base_of (number_at 4 b 8)) as (λ o. base_of (number_at 4 b 8) ≡ o
          → option_map (λ base. record { at = number_at 8 b 0; base = base; value = number_at 8 b 16 }) o ≡ Some r → ToldAs b r) [
            | Some base ↦ λ based is.
                let told : Record = record { at = number_at 8 b 0; base = base; value = number_at 8 b 16 } in
                let same : r ≡ told = cc in
                record {
                  at = ap (λ (x : Record). x.at) same;
                  base = ap (λ (x : Record). base_number x.base) same ∙ base_is (number_at 4 b 8) base based;
                  gap = eqb-true (number_at 4 b 12) 0 gap;
                  value = ap (λ (x : Record). x.value) same;
                }
            | None ↦ λ none is. absurd (cc)
          ] refl
      | false ↦ λ no is. absurd (cc)
    ] refl

-- and the bytes that tell a record are its own
pub record_spelt : (b : List ℕ) (r : Record) → length b ≡ 24 → ((k : ℕ) → get_or b k 0 < 256) → told_record b ≡ Some r → record_bytes r ≡ b
unfolding record_bytes spelled
record_spelt b r long bytes told =
    let is : ToldAs b r = told_as b r told in
    let end : [] ≡ drop 24 b = sym (drop_all 24 b (omega (arith, long))) in
    number_again 8 0 b _ r.at (omega (arith, long)) bytes is.at
    (number_again 4 8 b _ (base_number r.base) (omega (arith, long)) bytes is.base
    (number_again 4 12 b _ 0 (omega (arith, long)) bytes (sym is.gap)
    (number_again 8 16 b [] r.value (omega (arith, long)) bytes is.value end)))

pub told_fits : (b : List ℕ) (r : Record) → ((k : ℕ) → get_or b k 0 < 256) → told_record b ≡ Some r → FitsRecord r
told_fits b r bytes told =
    let is : ToldAs b r = told_as b r told in
    record { at = omega (arith, is.at, number_at-lt 8 b 0 bytes); value = omega (arith, is.value, number_at-lt 8 b 16 bytes) }

-- ---- records one after another

pub length-records : (rs : List Record) → length (flat_map record_bytes rs) ≡ 24 * length rs
length-records [] = refl
length-records (r ∷ rs) = omega (arith, length-append (record_bytes r) (flat_map record_bytes rs), length-record_bytes r, length-records rs)

-- the bytes of the record with an index
pub record_part : (rs : List Record) (k : ℕ) (d : Record) → k < length rs → take 24 (drop (24 * k) (flat_map record_bytes rs)) ≡ record_bytes (get_or rs k d)
record_part [] k d lt = absurd (omega arith)
record_part (r ∷ rs) zero d lt = take_at (record_bytes r) (flat_map record_bytes rs) 24 (length-record_bytes r)
record_part (r ∷ rs) (suc k) d lt =
    let later : 24 * suc k ≡ length (record_bytes r) + 24 * k = omega (arith, length-record_bytes r) in
    ap (λ (n : ℕ). take 24 (drop n (record_bytes r ++ flat_map record_bytes rs))) later
    ∙ (ap (λ (l : List ℕ). take 24 l) (drop-append-add (record_bytes r) (flat_map record_bytes rs) (24 * k)) ∙ record_part rs k d (omega arith))

-- the same bytes are the same records
pub records_same : (xs ys : List Record) → All FitsRecord xs → All FitsRecord ys → flat_map record_bytes xs ≡ flat_map record_bytes ys → xs ≡ ys
records_same [] [] fx fy is = refl
records_same [] (y ∷ ys) fx fy is = absurd (omega (arith, ap (λ (l : List ℕ). length l) is, length-records (y ∷ ys)))
records_same (x ∷ xs) [] fx fy is = absurd (omega (arith, ap (λ (l : List ℕ). length l) is, length-records (x ∷ xs)))
records_same (x ∷ xs) (y ∷ ys) fx fy is =
    let front : record_bytes x ≡ record_bytes y =
    sym (take_at (record_bytes x) (flat_map record_bytes xs) 24 (length-record_bytes x))
    ∙ (ap (λ (l : List ℕ). take 24 l) is ∙ take_at (record_bytes y) (flat_map record_bytes ys) 24 (length-record_bytes y)) in
    let behind : flat_map record_bytes xs ≡ flat_map record_bytes ys =
    sym (drop_at (record_bytes x) (flat_map record_bytes xs) 24 (length-record_bytes x))
    ∙ (ap (λ (l : List ℕ). drop 24 l) is ∙ drop_at (record_bytes y) (flat_map record_bytes ys) 24 (length-record_bytes y)) in
    let told : Some x ≡ Some y =
    sym (record_told x (All-head FitsRecord x xs fx)) ∙ (ap told_record front ∙ record_told y (All-head FitsRecord y ys fy)) in
    let same : x ≡ y = cc in
    ap₂ (λ (r : Record) (rs : List Record). r ∷ rs) same (records_same xs ys (All-tail FitsRecord x xs fx) (All-tail FitsRecord y ys fy) behind)

-- ---- loops over records

-- a loop that appends the bytes of each
pub records_more : (rs : List Record) (i : ℕ) (d : Record) (old done : List ℕ) → i < length rs → done ≡ old ++ flat_map record_bytes (take i rs) → done ++ record_bytes (get_or rs i d) ≡ old ++ flat_map record_bytes (take (i + 1) rs)
records_more rs i d old done lt so_far =
    ap (λ (l : List ℕ). l ++ record_bytes (get_or rs i d)) so_far
    ∙ (append_assoc old (flat_map record_bytes (take i rs)) (record_bytes (get_or rs i d)) ∙ ap (λ (l : List ℕ). old ++ l) (sym (
    ap (flat_map record_bytes) (take_more rs i d lt)
    ∙ (flat_map-append record_bytes (take i rs) (get_or rs i d ∷ []) ∙ ap (λ (l : List ℕ). flat_map record_bytes (take i rs) ++ l) (append-nil (record_bytes (get_or rs i d))))
    )))

-- a loop that reads each
pub spellt_start : (b : List ℕ) (rs : List Record) → rs ≡ [] → SpellRecords rs (take (24 * 0) b)
spellt_start b rs none = subst (λ (l : List Record). SpellRecords l []) (sym none) (record { fit = All-nil FitsRecord; exact = refl })

All-one : (r : Record) → FitsRecord r → All FitsRecord (r ∷ [])
All-one r fits zero d lt = fits
All-one r fits (suc k) d lt = absurd (omega arith)

part_bytes : (at n : ℕ) (b : List ℕ) → ((j : ℕ) → get_or b j 0 < 256) → (j : ℕ) → get_or (take n (drop at b)) j 0 < 256
part_bytes at n b bytes j =
    elim (cases_lt j n) [
      | inl below ↦ subst (λ (v : ℕ). v < 256) (sym (get_or-take n (drop at b) j 0 below ∙ get_or-drop at b j 0)) (bytes (at + j))
      | inr past ↦ subst (λ (v : ℕ). v < 256) (sym (get_or_past (take n (drop at b)) j 0 (omega (arith, length-take n (drop at b))))) (omega arith)
    ]

pub spellt_more : (b part : List ℕ) (rs more : List Record) (r : Record) (k : ℕ) → ((j : ℕ) → get_or b j 0 < 256) → 24 * k + 24 ≤ length b → part ≡ take 24 (drop (24 * k) b) → told_record part ≡ Some r → more ≡ rs ++ r ∷ [] → SpellRecords rs (take (24 * k) b) → SpellRecords more (take (24 * (k + 1)) b)
spellt_more b part rs more r k bytes inside is told appended so_far =
    let small : (j : ℕ) → get_or (take 24 (drop (24 * k) b)) j 0 < 256 = part_bytes (24 * k) 24 b bytes in
    let fine : (j : ℕ) → get_or part j 0 < 256 = subst (λ (l : List ℕ). (j : ℕ) → get_or l j 0 < 256) (sym is) small in
    let long : length part ≡ 24 = ap (λ (l : List ℕ). length l) is ∙ length-take-le 24 (drop (24 * k) b) (omega (arith, inside, length-drop (24 * k) b)) in
    let here : record_bytes r ≡ part = record_spelt part r long fine told in
    let next : 24 * k + 24 ≡ 24 * (k + 1) = omega arith in
    let one : flat_map record_bytes (r ∷ []) ≡ take 24 (drop (24 * k) b) = append-nil (record_bytes r) ∙ (here ∙ is) in
    subst (λ (l : List Record). SpellRecords l (take (24 * (k + 1)) b)) (sym appended) (record {
      fit = All-append FitsRecord rs (r ∷ []) so_far.fit (All-one r (told_fits part r fine told));
      exact = flat_map-append record_bytes rs (r ∷ []) ∙ (ap₂ (λ (x y : List ℕ). x ++ y) so_far.exact one
          ∙ (sym (take-add (24 * k) 24 b) ∙ ap (λ (n : ℕ). take n b) next));
    })

pub spellt_all : (b : List ℕ) (rs : List Record) (k : ℕ) → length b ≤ 24 * k → SpellRecords rs (take (24 * k) b) → SpellRecords rs b
spellt_all b rs k le spelt = subst (SpellRecords rs) (take_all (24 * k) b le) spelt

pub no_records : (b part : List ℕ) (k : ℕ) → 24 * k + 24 ≤ length b → part ≡ take 24 (drop (24 * k) b) → told_record part ≡ None → (rs : List Record) × SpellRecords rs b → ⊥
no_records b part k inside is none (rs, spelt) =
    let nothing : Record = record { at = 0; base = Constant; value = 0 } in
    let counted : 24 * length rs ≡ length b = sym (length-records rs) ∙ ap (λ (l : List ℕ). length l) spelt.exact in
    let lt : k < length rs = omega (arith, counted, inside) in
    let r : Record = get_or rs k nothing in
    let here : part ≡ record_bytes (get_or rs k nothing) =
    is ∙ (ap (λ (l : List ℕ). take 24 (drop (24 * k) l)) (sym spelt.exact) ∙ record_part rs k nothing lt) in
    let told : Some (get_or rs k nothing) ≡ None =
    sym (record_told (get_or rs k nothing) (spelt.fit k nothing lt)) ∙ (ap told_record (sym here) ∙ none) in
    absurd (cc)

-- a loop over records that rise so far
pub rises_more : (rs : List Record) (k : ℕ) (e : Record) → 1 ≤ k → k < length rs → (get_or rs (k - 1) e).at < (get_or rs k e).at
    → ((i : ℕ) (d : Record) → i + 1 < k → (get_or rs i d).at < (get_or rs (i + 1) d).at) → (i : ℕ) (d : Record) → i + 1 < k + 1 → (get_or rs i d).at < (get_or rs (i + 1) d).at
rises_more rs k e some inside last so_far i d lt =
    elim (cases_lt (i + 1) k) [
      | inl before ↦ so_far i d before
      | inr here ↦
          let lower : get_or rs (k - 1) e ≡ get_or rs i d = get_or_default rs (k - 1) e d (omega arith) ∙ ap (λ (n : ℕ). get_or rs n d) (omega arith) in
          let upper : get_or rs k e ≡ get_or rs (i + 1) d = get_or_default rs k e d inside ∙ ap (λ (n : ℕ). get_or rs n d) (omega arith) in
          subst (λ (x : Record). x.at < (get_or rs (i + 1) d).at) lower (subst (λ (x : Record). (get_or rs (k - 1) e).at < x.at) upper last)
    ]

-- a record appended number by number
pub record_appended : (r : Record) (old one two three whole : List ℕ) → one ≡ old ++ little_bytes 8 r.at → two ≡ one ++ little_bytes 4 (base_number r.base) → three ≡ two ++ little_bytes 4 0
    → whole ≡ three ++ little_bytes 8 r.value → whole ≡ old ++ record_bytes r
unfolding record_bytes spelled
record_appended r old one two three whole first second third fourth =
    let a : List ℕ = little_bytes 8 r.at in
    let b : List ℕ = little_bytes 4 (base_number r.base) in
    let g : List ℕ = little_bytes 4 0 in
    let v : List ℕ = little_bytes 8 r.value in
    fourth ∙ (ap (λ (l : List ℕ). l ++ v) (third ∙ (ap (λ (l : List ℕ). l ++ g) (second ∙ (ap (λ (l : List ℕ). l ++ b) first ∙ append_assoc old a b)) ∙ append_assoc old (a ++ b) g)) ∙ (append_assoc old ((a ++ b) ++ g) v
    ∙ ap (λ (l : List ℕ). old ++ l) (append_assoc (a ++ b) g v ∙ (append_assoc a b (g ++ v) ∙ ap (λ (l : List ℕ). a ++ (b ++ (g ++ l))) (sym (append-nil v))))))
