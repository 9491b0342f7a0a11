-- Extras without repetitions lead to the same first words.
use Rattle.std.proofs.Common.{◌≡◌, ◌<◌, ◌≤◌, ◌⊎◌, ℕ, zero, suc, ◌+◌, ◌-◌, ◌*◌, ◌%◌, List, [], ◌∷◌, ◌++◌, length, drop, get_or, set, sym, ap, ap₂, subst, refl, inl, inr, ◌∙◌, arith, cond, Bool, true, false}
use Rattle.std.specs.Prelude.{nat_eq, nat_lt, ◌&&◌, ◌||◌, not, min, if◌then◌else◌}
use Rattle.std.specs.List.{list_any}
use Rattle.std.proofs.lemmas.Bool.{eq-eqb, ne_eqb, eqb-true, lt-ltb, le-ltb, cond-true, cond-false, cases_eq, cases_lt, false≢true, cases_Bool, or_right, and_parts, not-true}
use Rattle.std.proofs.lemmas.List.{append-nil, append_assoc, drop_all, length-append, get_or-append_right, get_or-set_same, get_or-set_other}
use Rattle.std.proofs.Math.Seq.{drop-cons, drop-append_seam}
use Rattle.std.proofs.Math.ListN.{get_or-append}
use Rattle.slide_chain.specs.Chains.{is_marked, extra_heads, heads}
use Rattle.slide_chain.specs.Steps.Reading.{SamePlaces, SameHeads}
use Rattle.slide_chain.specs.Steps.Thinning.{Repeats, kept_extras, moved_start}
use Rattle.slide_chain.proofs.ListLaws.{drop-at}
use Rattle.slide_chain.proofs.MarkLaws.{heads-at, one-head, many-heads}

-- ---- flags from the last extra on

-- what is known of the extras from one on: which were flagged, and which first words their first run names
pub record Marking (extras : List ℕ) (repeated : List Bool) (seen : List ℕ) (run i : ℕ) : Type 0 where
  pub within : i ≤ length extras
  pub good : Repeats (drop i repeated) (drop i extras)
  pub later : i < run
  pub stamps : (u : ℕ) → (get_or seen u 0 ≡ 0) ⊎ (i < get_or seen u 0)
  pub members : (u page : ℕ) → get_or seen u 0 ≡ run → list_any (nat_eq (page + u * 4)) (extra_heads page (drop i extras)) ≡ true

Repeats-none : (fs : List Bool) (es : List ℕ) (n : ℕ) → length fs ≤ n → length es ≤ n → Repeats (drop n fs) (drop n es)
Repeats-none fs es n few_f few_e = subst (λ (l : List Bool). Repeats l (drop n es)) (sym (drop_all n fs few_f)) (subst (λ (l : List ℕ). Repeats [] l) (sym (drop_all n es few_e)) tt)

pub marking-none : (extras seen : List ℕ) (repeated : List Bool) (run i : ℕ) → i ≡ length extras → length repeated ≡ length extras → i < run → ((k : ℕ) → get_or seen k 0 ≡ 0) → Marking extras repeated seen run i
marking-none extras seen repeated run i is long later unseen = record {
  within = omega arith;
  good = Repeats-none repeated extras i (omega (arith, is, long)) (omega (arith, is));
  later = later;
  stamps = λ u. inl (unseen u);
  members = λ u page same. absurd (omega (arith, same, unseen u, later));
}

-- a flag that is set and those behind it
flag-at : (fs : List Bool) (j : ℕ) (f : Bool) → j < length fs → drop j (set fs j f) ≡ f ∷ drop (suc j) fs
flag-at [] j f within = absurd (omega arith)
flag-at (x ∷ fs) zero f within = refl
flag-at (x ∷ fs) (suc j) f within = flag-at fs j f (omega arith)

pub marking-more : (extras seen new_seen : List ℕ) (repeated new_repeated : List Bool) (run new_run i j : ℕ) (flag : Bool) → i ≡ j + 1 → length repeated ≡ length extras → length seen ≡ 0x4000
    → new_run ≡ (if is_marked (get_or extras j 0) then j + 1 else run) → flag ≡ (not (is_marked (get_or extras j 0)) && nat_eq (get_or seen (get_or extras j 0 % 0x4000) 0) new_run)
    → new_repeated ≡ set repeated j flag → new_seen ≡ set seen (get_or extras j 0 % 0x4000) new_run → Marking extras repeated seen run i → Marking extras new_repeated new_seen new_run j
marking-more extras seen new_seen repeated new_repeated run new_run i j flag next long names is_run is_flag is_repeated is_seen before =
    let e : ℕ = get_or extras j 0 in
    let u0 : ℕ = get_or extras j 0 % 0x4000 in
    let one : suc j ≡ i = omega (arith, next) in
    let inside : j < length extras = omega (arith, next, before.within) in
    let behind : drop (j + 1) extras ≡ drop i extras = ap (λ (n : ℕ). drop n extras) (sym next) in
    let words : (page : ℕ) → extra_heads page (drop j extras) ≡ (page + u0 * 4) ∷ (if is_marked (get_or extras j 0) then [] else extra_heads page (drop i extras)) = λ page.
    heads-at page extras j inside ∙ ap (λ (l : List ℕ). (page + u0 * 4) ∷ (if is_marked (get_or extras j 0) then [] else extra_heads page l)) behind in
    let marked_run : is_marked (get_or extras j 0) ≡ true → new_run ≡ i = λ marked. is_run ∙ (cond-true (is_marked (get_or extras j 0)) (j + 1) run marked ∙ sym next) in
    let same_run : is_marked (get_or extras j 0) ≡ false → new_run ≡ run = λ unmarked. is_run ∙ cond-false (is_marked (get_or extras j 0)) (j + 1) run unmarked in
    let later : j < new_run = elim (cases_Bool (is_marked (get_or extras j 0))) [ inl marked ↦ omega (arith, marked_run marked, next) | inr unmarked ↦ omega (arith, same_run unmarked, before.later, next) ] in
    let here : get_or new_seen u0 0 ≡ new_run = ap (λ (l : List ℕ). get_or l u0 0) is_seen ∙ get_or-set_same seen u0 new_run 0 (omega (arith, names)) in
    let other : (u : ℕ) → (u0 ≡ u → ⊥) → get_or new_seen u 0 ≡ get_or seen u 0 = λ u apart. ap (λ (l : List ℕ). get_or l u 0) is_seen ∙ get_or-set_other seen u0 u new_run 0 (λ e. apart (sym e)) in
    record {
      within = omega (arith, inside);
      good =
          let flags : drop j new_repeated ≡ flag ∷ drop i repeated = ap (drop j) is_repeated ∙ (flag-at repeated j flag (omega (arith, long, inside)) ∙ ap (λ (n : ℕ). flag ∷ drop n repeated) one) in
          let rest : drop j extras ≡ get_or extras j 0 ∷ drop i extras = drop-at extras j inside ∙ ap (λ (l : List ℕ). get_or extras j 0 ∷ l) behind in
          subst (λ (l : List Bool). Repeats l (drop j extras)) (sym flags)
          (subst (λ (l : List ℕ). Repeats (flag ∷ drop i repeated) l) (sym rest) (
            (λ set_flag.
                let both : (not (is_marked (get_or extras j 0)) ≡ true) × (nat_eq (get_or seen u0 0) new_run ≡ true) = and_parts (not (is_marked (get_or extras j 0))) (nat_eq (get_or seen u0 0) new_run) (sym is_flag ∙ set_flag) in
                let unmarked : is_marked (get_or extras j 0) ≡ false = not-true (is_marked (get_or extras j 0)) both.0 in
                (unmarked, λ page. before.members u0 page (eqb-true (get_or seen u0 0) new_run both.1 ∙ same_run unmarked))),
            before.good,
          ));
      later = later;
      stamps = λ u. elim (cases_eq u0 u) [
        | inl same ↦ inr (omega (arith, ap (λ (v : ℕ). get_or new_seen v 0) (sym same), here, later))
        | inr apart ↦ elim (before.stamps u) [ inl none ↦ inl (other u apart ∙ none) | inr above ↦ inr (omega (arith, other u apart, above, next)) ]
      ];
      members = λ u page stamped. elim (cases_eq u0 u) [
        | inl same ↦ ap (list_any (nat_eq (page + u * 4))) (words page)
            ∙ ap (λ (b : Bool). b || list_any (nat_eq (page + u * 4)) (if is_marked (get_or extras j 0) then [] else extra_heads page (drop i extras)))
            (eq-eqb (page + u * 4) (page + u0 * 4) (ap (λ (v : ℕ). page + v * 4) (sym same)))
        | inr apart ↦ elim (cases_Bool (is_marked (get_or extras j 0))) [
          | inl marked ↦ elim (before.stamps u) [
            | inl none ↦ absurd (omega (arith, stamped, other u apart, none, later))
            | inr above ↦ absurd (omega (arith, stamped, other u apart, above, marked_run marked))
          ]
          | inr unmarked ↦
              let there : list_any (nat_eq (page + u * 4)) (extra_heads page (drop i extras)) ≡ true = before.members u page (sym (other u apart) ∙ (stamped ∙ same_run unmarked)) in
              ap (list_any (nat_eq (page + u * 4))) (words page ∙ ap (λ (l : List ℕ). (page + u0 * 4) ∷ l) (cond-false (is_marked (get_or extras j 0)) [] (extra_heads page (drop i extras)) unmarked))
              ∙ or_right (nat_eq (page + u * 4) (page + u0 * 4)) (list_any (nat_eq (page + u * 4)) (extra_heads page (drop i extras))) there
        ]
      ];
    }

-- ---- the extras that are kept

any-member : (t : ℕ → Bool) (a : ℕ) (xs : List ℕ) → list_any (nat_eq a) xs ≡ true → t a ≡ true → list_any t xs ≡ true
any-member t a [] there passes = absurd (false≢true there)
any-member t a (x ∷ xs) there passes =
    elim (cases_eq a x) [
      | inl same ↦ ap (λ (b : Bool). b || list_any t xs) (ap t (sym same) ∙ passes)
      | inr other ↦ or_right (t x) (list_any t xs) (any-member t a xs (ap (λ (b : Bool). b || list_any (nat_eq a) xs) (sym (ne_eqb a x other)) ∙ there) passes)
    ]

-- a place that is there already adds nothing
any-again : (t : ℕ → Bool) (a : ℕ) (xs : List ℕ) → list_any (nat_eq a) xs ≡ true → list_any t (a ∷ xs) ≡ list_any t xs
any-again t a xs there =
    elim (cases_Bool (t a)) [
      | inl passes ↦ ap (λ (b : Bool). b || list_any t xs) passes ∙ sym (any-member t a xs there passes)
      | inr fails ↦ ap (λ (b : Bool). b || list_any t xs) fails
    ]

heads-cons : (page e : ℕ) (es : List ℕ) → extra_heads page (e ∷ es) ≡ (page + e % 0x4000 * 4) ∷ (if is_marked e then [] else extra_heads page es)
unfolding extra_heads
heads-cons page e es = refl

kept-flagged : (es : List ℕ) (fs : List Bool) (e : ℕ) (f : Bool) → f ≡ true → kept_extras (f ∷ fs) (e ∷ es) ≡ kept_extras fs es
unfolding kept_extras
kept-flagged es fs e f is = cond-true f (kept_extras fs es) (e ∷ kept_extras fs es) is

kept-plain : (es : List ℕ) (fs : List Bool) (e : ℕ) (f : Bool) → f ≡ false → kept_extras (f ∷ fs) (e ∷ es) ≡ e ∷ kept_extras fs es
unfolding kept_extras
kept-plain es fs e f is = cond-false f (kept_extras fs es) (e ∷ kept_extras fs es) is

-- those that are kept lead to the same first words
pub kept-same : (page : ℕ) (fs : List Bool) (es : List ℕ) → Repeats fs es → SamePlaces (extra_heads page es) (extra_heads page (kept_extras fs es))
unfolding kept_extras
kept-same page [] [] repeats t = refl
kept-same page [] (e ∷ es) repeats t = absurd repeats
kept-same page (f ∷ fs) [] repeats t = absurd repeats
kept-same page (f ∷ fs) (e ∷ es) repeats t =
    let head : ℕ = page + e % 0x4000 * 4 in
    elim (cases_Bool f) [
      | inl flagged ↦
          let facts : (is_marked e ≡ false) × ((p : ℕ) → list_any (nat_eq (p + e % 0x4000 * 4)) (extra_heads p es) ≡ true) = repeats.0 flagged in
          ap (list_any t) (heads-cons page e es ∙ ap (λ (l : List ℕ). (page + e % 0x4000 * 4) ∷ l) (cond-false (is_marked e) [] (extra_heads page es) facts.0))
          ∙ (any-again t (page + e % 0x4000 * 4) (extra_heads page es) (facts.1 page)
          ∙ (kept-same page fs es repeats.1 t ∙ ap (λ (l : List ℕ). list_any t (extra_heads page l)) (sym (kept-flagged es fs e f flagged))))
      | inr plain ↦
          let rest : list_any t (if is_marked e then [] else extra_heads page es) ≡ list_any t (if is_marked e then [] else extra_heads page (kept_extras fs es)) =
          elim (is_marked e) as (λ b. list_any t (cond b [] (extra_heads page es)) ≡ list_any t (cond b [] (extra_heads page (kept_extras fs es)))) [ true ↦ refl | false ↦ kept-same page fs es repeats.1 t ] in
          ap (list_any t) (heads-cons page e es)
          ∙ (ap (λ (b : Bool). t (page + e % 0x4000 * 4) || b) rest
          ∙ sym (ap (λ (l : List ℕ). list_any t (extra_heads page l)) (kept-plain es fs e f plain) ∙ ap (list_any t) (heads-cons page e (kept_extras fs es))))
    ]

Repeats-drop : (n : ℕ) (fs : List Bool) (es : List ℕ) → Repeats fs es → Repeats (drop n fs) (drop n es)
Repeats-drop zero fs es repeats = repeats
Repeats-drop (suc n) [] [] repeats = tt
Repeats-drop (suc n) [] (e ∷ es) repeats = absurd repeats
Repeats-drop (suc n) (f ∷ fs) [] repeats = absurd repeats
Repeats-drop (suc n) (f ∷ fs) (e ∷ es) repeats = Repeats-drop n fs es repeats.1

-- ---- which are kept, one by one

-- the extras passed were kept or not, and it is known where those that a start can name stand then
pub record Keeping (extras : List ℕ) (repeated : List Bool) (few places : List ℕ) (i : ℕ) : Type 0 where
  pub whole : few ++ kept_extras (drop i repeated) (drop i extras) ≡ kept_extras repeated extras
  pub short : length few ≤ i
  pub count : length places ≡ min 0x4000 i
  pub stand : (k : ℕ) → k < length places → (get_or places k 0 ≤ k) × (drop (get_or places k 0) (kept_extras repeated extras) ≡ kept_extras (drop k repeated) (drop k extras))

pub keeping-none : (extras : List ℕ) (repeated : List Bool) (few places : List ℕ) → few ≡ [] → places ≡ [] → Keeping extras repeated few places 0
keeping-none extras repeated few places no_few no_places = record {
  whole = ap (λ (l : List ℕ). l ++ kept_extras repeated extras) no_few;
  short = omega (arith, ap (λ (l : List ℕ). length l) no_few);
  count = ap (λ (l : List ℕ). length l) no_places;
  stand = λ k within. absurd (omega (arith, within, ap (λ (l : List ℕ). length l) no_places));
}

kept-at : (extras : List ℕ) (repeated : List Bool) (i : ℕ) → i < length extras → i < length repeated
    → kept_extras (drop i repeated) (drop i extras) ≡ (if get_or repeated i false then [] else get_or extras i 0 ∷ []) ++ kept_extras (drop (i + 1) repeated) (drop (i + 1) extras)
unfolding kept_extras
kept-at extras repeated i within flags =
    let one : suc i ≡ i + 1 = omega arith in
    ap₂ kept_extras (drop-cons repeated i false flags ∙ ap (λ (n : ℕ). get_or repeated i false ∷ drop n repeated) one) (drop-at extras i within)
    ∙ elim (get_or repeated i false) as (λ b. (cond b (kept_extras (drop (i + 1) repeated) (drop (i + 1) extras)) (get_or extras i 0 ∷ kept_extras (drop (i + 1) repeated) (drop (i + 1) extras)))
    ≡ (cond b [] (get_or extras i 0 ∷ [])) ++ kept_extras (drop (i + 1) repeated) (drop (i + 1) extras)) [ true ↦ refl | false ↦ refl ]

pub keeping-more : (extras : List ℕ) (repeated : List Bool) (few new_few places new_places : List ℕ) (i : ℕ) → i < length extras → length repeated ≡ length extras
    → new_places ≡ places ++ (if nat_lt i 0x4000 then length few ∷ [] else []) → new_few ≡ few ++ (if get_or repeated i false then [] else get_or extras i 0 ∷ [])
    → Keeping extras repeated few places i → Keeping extras repeated new_few new_places (i + 1)
keeping-more extras repeated few new_few places new_places i within long is_places is_few before =
    let here : List ℕ = if get_or repeated i false then [] else get_or extras i 0 ∷ [] in
    let later : List ℕ = kept_extras (drop (i + 1) repeated) (drop (i + 1) extras) in
    let step : kept_extras (drop i repeated) (drop i extras) ≡ here ++ later = kept-at extras repeated i within (omega (arith, long, within)) in
    let one_at_most : length here ≤ 1 = elim (get_or repeated i false) as (λ b. length (cond b [] (get_or extras i 0 ∷ [])) ≤ 1) [ true ↦ omega arith | false ↦ omega arith ] in
    let seam : drop (length few) (kept_extras repeated extras) ≡ kept_extras (drop i repeated) (drop i extras) =
    ap (drop (length few)) (sym before.whole) ∙ drop-append_seam few (kept_extras (drop i repeated) (drop i extras)) in
    record {
      whole = ap (λ (l : List ℕ). l ++ later) is_few ∙ (append_assoc few here later ∙ (ap (λ (l : List ℕ). few ++ l) (sym step) ∙ before.whole));
      short = omega (arith, ap (λ (l : List ℕ). length l) is_few, length-append few here, one_at_most, before.short);
      count = elim (cases_lt i 0x4000) [
        | inl named ↦
            let pushed : new_places ≡ places ++ (length few ∷ []) = is_places ∙ ap (λ (l : List ℕ). places ++ l) (cond-true (nat_lt i 0x4000) (length few ∷ []) [] (lt-ltb i 0x4000 named)) in
            omega (arith, ap (λ (l : List ℕ). length l) pushed, length-append places (length few ∷ []), before.count, named)
        | inr past ↦
            let same : new_places ≡ places = is_places ∙ (ap (λ (l : List ℕ). places ++ l) (cond-false (nat_lt i 0x4000) (length few ∷ []) [] (le-ltb i 0x4000 past)) ∙ append-nil places) in
            omega (arith, ap (λ (l : List ℕ). length l) same, before.count, past)
      ];
      stand = λ k inside. elim (cases_lt i 0x4000) [
        | inl named ↦
            let pushed : new_places ≡ places ++ (length few ∷ []) = is_places ∙ ap (λ (l : List ℕ). places ++ l) (cond-true (nat_lt i 0x4000) (length few ∷ []) [] (lt-ltb i 0x4000 named)) in
            let count : length places ≡ i = omega (arith, before.count, named) in
            elim (cases_lt k (length places)) [
              | inl old ↦
                  let same : get_or new_places k 0 ≡ get_or places k 0 = ap (λ (l : List ℕ). get_or l k 0) pushed ∙ get_or-append places (length few ∷ []) 0 k old in
                  subst (λ (n : ℕ). (n ≤ k) × (drop n (kept_extras repeated extras) ≡ kept_extras (drop k repeated) (drop k extras))) (sym same) (before.stand k old)
              | inr new ↦
                  let last : k ≡ i = omega (arith, inside, ap (λ (l : List ℕ). length l) pushed, length-append places (length few ∷ []), new, count) in
                  let back : k - length places ≡ 0 = omega (arith, last, count) in
                  let value : get_or new_places k 0 ≡ length few =
                  ap (λ (l : List ℕ). get_or l k 0) pushed ∙ (get_or-append_right places (length few ∷ []) (length places) k 0 refl new ∙ ap (λ (n : ℕ). get_or (length few ∷ []) n 0) back) in
                  subst (λ (n : ℕ). (n ≤ k) × (drop n (kept_extras repeated extras) ≡ kept_extras (drop k repeated) (drop k extras))) (sym value)
                  (omega (arith, last, before.short), seam ∙ ap (λ (n : ℕ). kept_extras (drop n repeated) (drop n extras)) (sym last))
            ]
        | inr past ↦
            let same : new_places ≡ places = is_places ∙ (ap (λ (l : List ℕ). places ++ l) (cond-false (nat_lt i 0x4000) (length few ∷ []) [] (le-ltb i 0x4000 past)) ∙ append-nil places) in
            subst (λ (n : ℕ). (n ≤ k) × (drop n (kept_extras repeated extras) ≡ kept_extras (drop k repeated) (drop k extras))) (ap (λ (l : List ℕ). get_or l k 0) (sym same))
            (before.stand k (omega (arith, inside, ap (λ (l : List ℕ). length l) same)))
      ];
    }

pub keeping-all : (extras : List ℕ) (repeated : List Bool) (few places : List ℕ) (i : ℕ) → length extras ≤ i → length repeated ≤ i → Keeping extras repeated few places i → few ≡ kept_extras repeated extras
unfolding kept_extras
keeping-all extras repeated few places i past flags keeping =
    sym (append-nil few) ∙ (ap (λ (l : List ℕ). few ++ l) (sym (ap₂ kept_extras (drop_all i repeated flags) (drop_all i extras past))) ∙ keeping.whole)

-- ---- starts

none-named : (page : ℕ) → extra_heads page [] ≡ []
unfolding extra_heads
none-named page = refl

no-start : (extras : List ℕ) (page : ℕ) → heads extras page 0x4000 ≡ []
unfolding heads
no-start extras page = refl

-- a moved start leads to the same first words
pub start-same : (extras : List ℕ) (repeated : List Bool) (few places : List ℕ) (page start : ℕ) → Repeats repeated extras → few ≡ kept_extras repeated extras → length places ≡ min 0x4000 (length extras)
    → ((k : ℕ) → k < length places → (get_or places k 0 ≤ k) × (drop (get_or places k 0) few ≡ kept_extras (drop k repeated) (drop k extras)))
    → SamePlaces (heads extras page start) (heads few page (moved_start start places))
unfolding moved_start
start-same extras repeated few places page start repeats is_few count stand t =
    let k : ℕ = start % 0x4000 in
    let choice : ℕ = if nat_lt (start % 0x4000) (length places) then 0x8000 + get_or places (start % 0x4000) 0 % 0x4000 else 0x4000 in
    elim (cases_lt start 0x8000) [
      | inl small ↦
          let stays : moved_start start places ≡ start = cond-true (nat_lt start 0x8000) start choice (lt-ltb start 0x8000 small) in
          let same : heads extras page start ≡ heads few page start =
          elim (cases_eq start 0x4000) [
            | inl none ↦ ap (heads extras page) none ∙ (no-start extras page ∙ sym (ap (heads few page) none ∙ no-start few page))
            | inr some ↦ one-head extras page start some small ∙ sym (one-head few page start some small)
          ] in
          ap (list_any t) (same ∙ ap (heads few page) (sym stays))
      | inr large ↦
          let moves : moved_start start places ≡ choice = cond-false (nat_lt start 0x8000) start choice (le-ltb start 0x8000 large) in
          let leads : heads extras page start ≡ extra_heads page (drop (start % 0x4000) extras) = many-heads extras (drop (start % 0x4000) extras) page start large refl in
          elim (cases_lt (start % 0x4000) (length places)) [
            | inl named ↦
                let place : (get_or places (start % 0x4000) 0 ≤ start % 0x4000) × (drop (get_or places (start % 0x4000) 0) few ≡ kept_extras (drop (start % 0x4000) repeated) (drop (start % 0x4000) extras)) = stand (start % 0x4000) named in
                let small : get_or places (start % 0x4000) 0 < 0x4000 = omega (arith, place.0) in
                let is : moved_start start places ≡ 0x8000 + get_or places (start % 0x4000) 0 % 0x4000 = moves ∙ cond-true (nat_lt (start % 0x4000) (length places)) (0x8000 + get_or places (start % 0x4000) 0 % 0x4000) 0x4000 (lt-ltb (start % 0x4000) (length places) named) in
                let low : (0x8000 + get_or places (start % 0x4000) 0 % 0x4000) % 0x4000 ≡ get_or places (start % 0x4000) 0 = omega (arith, small) in
                let new : heads few page (moved_start start places) ≡ extra_heads page (kept_extras (drop (start % 0x4000) repeated) (drop (start % 0x4000) extras)) =
                ap (heads few page) is
                ∙ many-heads few (kept_extras (drop (start % 0x4000) repeated) (drop (start % 0x4000) extras)) page (0x8000 + get_or places (start % 0x4000) 0 % 0x4000) (omega arith)
                (sym (ap (λ (n : ℕ). drop n few) low ∙ place.1)) in
                ap (list_any t) leads ∙ (kept-same page (drop (start % 0x4000) repeated) (drop (start % 0x4000) extras) (Repeats-drop (start % 0x4000) repeated extras repeats) t ∙ ap (list_any t) (sym new))
            | inr unnamed ↦
                let is : moved_start start places ≡ 0x4000 = moves ∙ cond-false (nat_lt (start % 0x4000) (length places)) (0x8000 + get_or places (start % 0x4000) 0 % 0x4000) 0x4000 (le-ltb (start % 0x4000) (length places) unnamed) in
                let none : drop (start % 0x4000) extras ≡ [] = drop_all (start % 0x4000) extras (omega (arith, unnamed, count)) in
                ap (list_any t) (leads ∙ (ap (extra_heads page) none ∙ (none-named page ∙ sym (ap (heads few page) is ∙ no-start few page))))
          ]
    ]

-- the starts that were moved so far
pub record Moved (starts places moved : List ℕ) (i : ℕ) : Type 0 where
  pub count : length moved ≡ i
  pub each : (k : ℕ) → k < i → get_or moved k 0 ≡ moved_start (get_or starts k 0) places

pub moved-none : (starts places moved : List ℕ) → moved ≡ [] → Moved starts places moved 0
moved-none starts places moved none = record { count = ap (λ (l : List ℕ). length l) none; each = λ k within. absurd (omega arith) }

pub moved-more : (starts places moved new : List ℕ) (i s : ℕ) → s ≡ moved_start (get_or starts i 0) places → new ≡ moved ++ (s ∷ []) → Moved starts places moved i → Moved starts places new (i + 1)
moved-more starts places moved new i s is is_new before = record {
  count = omega (arith, ap (λ (l : List ℕ). length l) is_new, length-append moved (s ∷ []), before.count);
  each = λ k within. elim (cases_lt k i) [
    | inl old ↦ ap (λ (l : List ℕ). get_or l k 0) is_new ∙ (get_or-append moved (s ∷ []) 0 k (omega (arith, before.count, old)) ∙ before.each k old)
    | inr new_one ↦
        let last : k ≡ i = omega (arith, within, new_one) in
        let back : k - length moved ≡ 0 = omega (arith, last, before.count) in
        ap (λ (l : List ℕ). get_or l k 0) is_new
        ∙ (get_or-append_right moved (s ∷ []) (length moved) k 0 refl (omega (arith, before.count, new_one)) ∙ (ap (λ (n : ℕ). get_or (s ∷ []) n 0) back ∙ (is ∙ ap (λ (n : ℕ). moved_start (get_or starts n 0) places) (sym last))))
  ];
}

pub moved-same : (extras : List ℕ) (repeated : List Bool) (few places starts moved : List ℕ) (i : ℕ) → length starts ≤ i → i ≤ length starts → Repeats repeated extras → few ≡ kept_extras repeated extras
    → length places ≡ min 0x4000 (length extras) → ((k : ℕ) → k < length places → (get_or places k 0 ≤ k) × (drop (get_or places k 0) few ≡ kept_extras (drop k repeated) (drop k extras)))
    → Moved starts places moved i → SameHeads starts extras moved few
moved-same extras repeated few places starts moved i past within repeats is_few count stand done = record {
  pages = omega (arith, done.count);
  same = λ k page inside t.
      start-same extras repeated few places page (get_or starts k 0) repeats is_few count stand t
      ∙ ap (λ (s : ℕ). list_any t (heads few page s)) (sym (done.each k (omega arith)));
}

-- all extras were gone through
pub marking-good : (extras : List ℕ) (repeated : List Bool) (seen : List ℕ) (run i : ℕ) → i ≡ 0 → Marking extras repeated seen run i → Repeats repeated extras
marking-good extras repeated seen run i none marking = subst (λ (n : ℕ). Repeats (drop n repeated) (drop n extras)) none marking.good
