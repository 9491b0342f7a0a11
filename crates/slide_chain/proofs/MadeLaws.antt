-- What is linked is what is reached: the chains of words that were linked lead through exactly these words.
use Rattle.std.proofs.Common.{◌≡◌, ◌<◌, ◌≤◌, ◌⊎◌, ℕ, zero, suc, ◌+◌, ◌-◌, ◌*◌, ◌/◌, ◌%◌, List, [], ◌∷◌, ◌++◌, length, drop, sym, ap, ap₂, subst, refl, inl, inr, ◌∙◌, arith, cond, true, false}
use Rattle.std.specs.Prelude.{nat_eq, nat_lt, nat_le, ◌&&◌, if◌then◌else◌}
use Rattle.std.specs.List.{flat_map}
use Rattle.std.proofs.lemmas.Bool.{eq-eqb, ne_eqb, eqb-true, leb-true, lt-ltb, le-ltb, le-leb, lt-leb, cond-true, cond-false, cases_lt, cases_Bool, and_parts}
use Rattle.std.proofs.Common.{length-append}
use Rattle.std.proofs.Math.Seq.{drop-append_seam}
use Rattle.std.proofs.lemmas.List.{drop-drop}
use Rattle.dsc_base.specs.Numbers.{number_at}
use Rattle.slide_chain.specs.Chains.{Slide, delta_of, chain, is_marked, extra_heads, heads, page_reached, each_page}
use Rattle.slide_chain.specs.Making.{step, step_to, firsts_after, firsts, front, rest, page_firsts, marked_last, extras_for, start_for, starts_of, extras_of, AreWords, AllBelow}

-- ---- a step

-- a step of 0 or one that leads to a word of the same page
pub record Steps (limit a b : ℕ) : Type 0 where
  pub page : a / 4096 ≡ b / 4096
  pub small : (b - a) / 4 ≤ limit
  pub is : step limit a b ≡ (b - a) / 4

step-none : (limit a b : ℕ) → (nat_eq (a / 4096) (b / 4096) && nat_le ((b - a) / 4) limit) ≡ false → step limit a b ≡ 0
unfolding step
step-none limit a b fails = cond-false (nat_eq (a / 4096) (b / 4096) && nat_le ((b - a) / 4) limit) ((b - a) / 4) 0 fails

step-some : (limit a b : ℕ) → (nat_eq (a / 4096) (b / 4096) && nat_le ((b - a) / 4) limit) ≡ true → Steps limit a b
unfolding step
step-some limit a b passes =
    let both : (nat_eq (a / 4096) (b / 4096) ≡ true) × (nat_le ((b - a) / 4) limit ≡ true) = and_parts (nat_eq (a / 4096) (b / 4096)) (nat_le ((b - a) / 4) limit) passes in
    record {
      page = eqb-true (a / 4096) (b / 4096) both.0;
      small = leb-true ((b - a) / 4) limit both.1;
      is = cond-true (nat_eq (a / 4096) (b / 4096) && nat_le ((b - a) / 4) limit) ((b - a) / 4) 0 passes;
    }

pub step_cases : (limit a b : ℕ) → (step limit a b ≡ 0) ⊎ Steps limit a b
step_cases limit a b =
    elim (cases_Bool (nat_eq (a / 4096) (b / 4096) && nat_le ((b - a) / 4) limit)) [ inl passes ↦ inr (step-some limit a b passes) | inr fails ↦ inl (step-none limit a b fails) ]

pub step-le : (limit a b : ℕ) → step limit a b ≤ limit
step-le limit a b = elim (step_cases limit a b) [ inl none ↦ omega arith | inr steps ↦ omega (arith, steps.small, steps.is) ]

pub step_to-le : (limit a : ℕ) (ws : List ℕ) → step_to limit a ws ≤ limit
unfolding step_to
step_to-le limit a [] = omega arith
step_to-le limit a (b ∷ ws) = step-le limit a b

-- words of different pages aren't linked
pub step-apart : (limit a b : ℕ) → (a / 4096 ≡ b / 4096 → ⊥) → step limit a b ≡ 0
step-apart limit a b apart = elim (step_cases limit a b) [ inl none ↦ none | inr steps ↦ absurd (apart steps.page) ]

-- ---- words that are linked

-- the delta at each word leads to the next one, or is 0
abbrev pub AreLinked : ℕ → List ℕ → ℕ → List ℕ → Type 0
AreLinked mask area limit [] = Unit {0}
AreLinked mask area limit (a ∷ ws) = (delta_of mask (number_at 8 area a) ≡ step_to limit a ws * 4) × AreLinked mask area limit ws

-- the words all lie in the page
abbrev pub AllIn : ℕ → List ℕ → Type 0
AllIn page [] = Unit {0}
AllIn page (a ∷ ws) = ((page ≤ a) × (a < page + 4096)) × AllIn page ws

-- the words that are linked from one on
unfoldable run : ℕ → ℕ → List ℕ → List ℕ
run limit a [] = a ∷ []
run limit a (b ∷ ws) = a ∷ (if nat_eq (step limit a b) 0 then [] else run limit b ws)

-- one step of a chain
pub chain-ends : (mask : ℕ) (area : List ℕ) (last n a : ℕ) → a ≤ last → delta_of mask (number_at 8 area a) ≡ 0 → chain mask area last (suc n) a ≡ a ∷ []
unfolding chain
chain-ends mask area last n a inside none =
    cond-false (nat_lt last a) [] (a ∷ (if nat_eq (delta_of mask (number_at 8 area a)) 0 then [] else chain mask area last n (a + delta_of mask (number_at 8 area a)))) (le-ltb last a inside)
    ∙ ap (λ (l : List ℕ). a ∷ l) (cond-true (nat_eq (delta_of mask (number_at 8 area a)) 0) [] (chain mask area last n (a + delta_of mask (number_at 8 area a))) (eq-eqb (delta_of mask (number_at 8 area a)) 0 none))

pub chain-goes : (mask : ℕ) (area : List ℕ) (last n a b : ℕ) → a ≤ last → (delta_of mask (number_at 8 area a) ≡ 0 → ⊥) → a + delta_of mask (number_at 8 area a) ≡ b → chain mask area last (suc n) a ≡ a ∷ chain mask area last n b
unfolding chain
chain-goes mask area last n a b inside some next =
    cond-false (nat_lt last a) [] (a ∷ (if nat_eq (delta_of mask (number_at 8 area a)) 0 then [] else chain mask area last n (a + delta_of mask (number_at 8 area a)))) (le-ltb last a inside)
    ∙ (ap (λ (l : List ℕ). a ∷ l) (cond-false (nat_eq (delta_of mask (number_at 8 area a)) 0) [] (chain mask area last n (a + delta_of mask (number_at 8 area a))) (ne_eqb (delta_of mask (number_at 8 area a)) 0 some))
    ∙ ap (λ (c : ℕ). a ∷ chain mask area last n c) next)

run-stops : (limit a b : ℕ) (ws : List ℕ) → step limit a b ≡ 0 → run limit a (b ∷ ws) ≡ a ∷ []
unfolding run
run-stops limit a b ws none = ap (λ (l : List ℕ). a ∷ l) (cond-true (nat_eq (step limit a b) 0) [] (run limit b ws) (eq-eqb (step limit a b) 0 none))

run-goes : (limit a b : ℕ) (ws : List ℕ) → (step limit a b ≡ 0 → ⊥) → run limit a (b ∷ ws) ≡ a ∷ run limit b ws
unfolding run
run-goes limit a b ws some = ap (λ (l : List ℕ). a ∷ l) (cond-false (nat_eq (step limit a b) 0) [] (run limit b ws) (ne_eqb (step limit a b) 0 some))

-- a chain from a word goes through the words that are linked from it on
walk : (mask : ℕ) (area : List ℕ) (limit page n a : ℕ) (ws : List ℕ) → page % 4096 ≡ 0 → page ≤ a → a % 4 ≡ 0 → a % 4096 ≤ 0xFF8 → a < page + 4096 → page + 0xFF8 < a + 4 * n
    → AreWords (a + 8) ws → AreLinked mask area limit (a ∷ ws) → chain mask area (page + 0xFF8) n a ≡ run limit a ws
unfolding run step_to
walk mask area limit page zero a ws even from fours short below enough words linked = absurd (omega arith)
walk mask area limit page (suc n) a [] even from fours short below enough words linked =
    chain-ends mask area (page + 0xFF8) n a (omega arith) (omega (arith, linked.0))
walk mask area limit page (suc n) a (b ∷ ws) even from fours short below enough words linked =
    let is : delta_of mask (number_at 8 area a) ≡ step limit a b * 4 = linked.0 in
    let inside : a ≤ page + 0xFF8 = omega arith in
    elim (step_cases limit a b) [
      | inl none ↦ chain-ends mask area (page + 0xFF8) n a inside (omega (arith, is, none)) ∙ sym (run-stops limit a b ws none)
      | inr steps ↦
          let some : step limit a b ≡ 0 → ⊥ = λ none. omega (arith, none, steps.is, words.0) in
          let next : a + delta_of mask (number_at 8 area a) ≡ b = omega (arith, is, steps.is, words.0, words.1) in
          chain-goes mask area (page + 0xFF8) n a b inside (λ none. some (omega (arith, is, none))) next
          ∙ (ap (λ (l : List ℕ). a ∷ l) (walk mask area limit page n b ws even (omega (arith, words.0)) words.1 words.2 (omega (arith, steps.page)) (omega (arith, words.0)) words.3 linked.1)
          ∙ sym (run-goes limit a b ws some))
    ]

-- all words of a page are on the chains of its first words
runs_are_all : (mask : ℕ) (area : List ℕ) (limit page a : ℕ) (ws : List ℕ) → page % 4096 ≡ 0 → AllIn page ws
    → AreWords (a + 8) ws → AreLinked mask area limit ws → run limit a ws ++ flat_map (chain mask area (page + 0xFF8) 1024) (firsts_after limit a ws) ≡ a ∷ ws
unfolding run firsts_after
runs_are_all mask area limit page a [] even inside words linked = refl
runs_are_all mask area limit page a (b ∷ ws) even inside words linked =
    let later : run limit b ws ++ flat_map (chain mask area (page + 0xFF8) 1024) (firsts_after limit b ws) ≡ b ∷ ws =
    runs_are_all mask area limit page b ws even inside.1 words.3 linked.1 in
    let chained : chain mask area (page + 0xFF8) 1024 b ≡ run limit b ws =
    walk mask area limit page 1024 b ws even inside.0.0 words.1 words.2 inside.0.1 (omega (arith, inside.0.0)) words.3 linked in
    elim (step_cases limit a b) [
      | inl none ↦
          ap₂ (λ (r fs : List ℕ). r ++ flat_map (chain mask area (page + 0xFF8) 1024) fs) (run-stops limit a b ws none)
          (cond-true (nat_eq (step limit a b) 0) (b ∷ firsts_after limit b ws) (firsts_after limit b ws) (eq-eqb (step limit a b) 0 none))
          ∙ ap (λ (l : List ℕ). a ∷ l) (ap (λ (r : List ℕ). r ++ flat_map (chain mask area (page + 0xFF8) 1024) (firsts_after limit b ws)) chained ∙ later)
      | inr steps ↦
          let some : step limit a b ≡ 0 → ⊥ = λ none. omega (arith, none, steps.is, words.0) in
          ap₂ (λ (r fs : List ℕ). r ++ flat_map (chain mask area (page + 0xFF8) 1024) fs) (run-goes limit a b ws some)
          (cond-false (nat_eq (step limit a b) 0) (b ∷ firsts_after limit b ws) (firsts_after limit b ws) (ne_eqb (step limit a b) 0 some))
          ∙ ap (λ (l : List ℕ). a ∷ l) later
    ]

chains_are_all : (mask : ℕ) (area : List ℕ) (limit page from : ℕ) (ws : List ℕ) → page % 4096 ≡ 0 → AllIn page ws
    → AreWords from ws → AreLinked mask area limit ws → flat_map (chain mask area (page + 0xFF8) 1024) (firsts limit ws) ≡ ws
unfolding firsts
chains_are_all mask area limit page from [] even inside words linked = refl
chains_are_all mask area limit page from (a ∷ ws) even inside words linked =
    ap (λ (r : List ℕ). r ++ flat_map (chain mask area (page + 0xFF8) 1024) (firsts_after limit a ws))
    (walk mask area limit page 1024 a ws even inside.0.0 words.1 words.2 inside.0.1 (omega (arith, inside.0.0)) words.3 linked)
    ∙ runs_are_all mask area limit page a ws even inside.1 words.3 linked.1

-- ---- the words of one page

pub front_rest : (end : ℕ) (ws : List ℕ) → front end ws ++ rest end ws ≡ ws
unfolding front rest
front_rest end [] = refl
front_rest end (w ∷ ws) =
    elim (nat_lt w end) as (λ b. (cond b (w ∷ front end ws) []) ++ (cond b (rest end ws) (w ∷ ws)) ≡ w ∷ ws) [ true ↦ ap (λ (l : List ℕ). w ∷ l) (front_rest end ws) | false ↦ refl ]

pub front-below : (end w : ℕ) (ws : List ℕ) → w < end → front end (w ∷ ws) ≡ w ∷ front end ws
unfolding front
front-below end w ws below = cond-true (nat_lt w end) (w ∷ front end ws) [] (lt-ltb w end below)

pub front-above : (end w : ℕ) (ws : List ℕ) → end ≤ w → front end (w ∷ ws) ≡ []
unfolding front
front-above end w ws above = cond-false (nat_lt w end) (w ∷ front end ws) [] (le-ltb w end above)

pub rest-below : (end w : ℕ) (ws : List ℕ) → w < end → rest end (w ∷ ws) ≡ rest end ws
unfolding rest
rest-below end w ws below = cond-true (nat_lt w end) (rest end ws) (w ∷ ws) (lt-ltb w end below)

pub rest-above : (end w : ℕ) (ws : List ℕ) → end ≤ w → rest end (w ∷ ws) ≡ w ∷ ws
unfolding rest
rest-above end w ws above = cond-false (nat_lt w end) (rest end ws) (w ∷ ws) (le-ltb w end above)

-- what holds of all words holds of those of a page
pub front-words : (end from : ℕ) (ws : List ℕ) → AreWords from ws → AreWords from (front end ws)
unfolding front
front-words end from [] words = tt
front-words end from (w ∷ ws) words =
    elim (cases_lt w end) [
      | inl below ↦ subst (AreWords from) (sym (front-below end w ws below)) (words.0, words.1, words.2, front-words end (w + 8) ws words.3)
      | inr above ↦ subst (AreWords from) (sym (front-above end w ws above)) tt
    ]

pub front-in : (page from : ℕ) (ws : List ℕ) → page ≤ from → AreWords from ws → AllIn page (front (page + 4096) ws)
unfolding front
front-in page from [] le words = tt
front-in page from (w ∷ ws) le words =
    elim (cases_lt w (page + 4096)) [
      | inl below ↦ subst (AllIn page) (sym (front-below (page + 4096) w ws below)) ((omega (arith, words.0), below), front-in page (w + 8) ws (omega (arith, words.0)) words.3)
      | inr above ↦ subst (AllIn page) (sym (front-above (page + 4096) w ws above)) tt
    ]

pub rest-words : (end from : ℕ) (ws : List ℕ) → AreWords from ws → AreWords end (rest end ws)
unfolding rest
rest-words end from [] words = tt
rest-words end from (w ∷ ws) words =
    elim (cases_lt w end) [
      | inl below ↦ subst (AreWords end) (sym (rest-below end w ws below)) (rest-words end (w + 8) ws words.3)
      | inr above ↦ subst (AreWords end) (sym (rest-above end w ws above)) (above, words.1, words.2, words.3)
    ]

pub rest-linked : (mask : ℕ) (area : List ℕ) (limit end : ℕ) (ws : List ℕ) → AreLinked mask area limit ws → AreLinked mask area limit (rest end ws)
unfolding rest
rest-linked mask area limit end [] linked = tt
rest-linked mask area limit end (w ∷ ws) linked =
    elim (cases_lt w end) [
      | inl below ↦ subst (AreLinked mask area limit) (sym (rest-below end w ws below)) (rest-linked mask area limit end ws linked.1)
      | inr above ↦ subst (AreLinked mask area limit) (sym (rest-above end w ws above)) linked
    ]

front_none : (end : ℕ) → front end [] ≡ []
unfolding front
front_none end = refl

-- the last word of a page is linked to none
pub front-step : (limit end a : ℕ) (ws : List ℕ) → end % 4096 ≡ 0 → a < end → step_to limit a ws ≡ step_to limit a (front end ws)
unfolding step_to
front-step limit end a [] even below = ap (step_to limit a) (sym (front_none end))
front-step limit end a (b ∷ ws) even below =
    elim (cases_lt b end) [
      | inl within ↦ ap (step_to limit a) (sym (front-below end b ws within))
      | inr above ↦ step-apart limit a b (λ same. omega (arith, same)) ∙ ap (step_to limit a) (sym (front-above end b ws above))
    ]

pub front-linked : (mask : ℕ) (area : List ℕ) (limit page : ℕ) (ws : List ℕ) → page % 4096 ≡ 0 → AreLinked mask area limit ws → AreLinked mask area limit (front (page + 4096) ws)
unfolding front
front-linked mask area limit page [] even linked = tt
front-linked mask area limit page (w ∷ ws) even linked =
    elim (cases_lt w (page + 4096)) [
      | inl below ↦ subst (AreLinked mask area limit) (sym (front-below (page + 4096) w ws below))
          (linked.0 ∙ ap (λ (n : ℕ). n * 4) (front-step limit (page + 4096) w ws (omega arith) below), front-linked mask area limit page ws even linked.1)
      | inr above ↦ subst (AreLinked mask area limit) (sym (front-above (page + 4096) w ws above)) tt
    ]

-- ---- starts and extras lead to the first words

pub marked-large : (e : ℕ) → 0x8000 ≤ e → is_marked e ≡ true
unfolding is_marked
marked-large e large = le-leb 0x8000 e large

pub marked-small : (e : ℕ) → e < 0x8000 → is_marked e ≡ false
unfolding is_marked
marked-small e small = lt-leb 0x8000 e small

extra_heads-ends : (page e : ℕ) (es : List ℕ) → is_marked e ≡ true → extra_heads page (e ∷ es) ≡ (page + e % 0x4000 * 4) ∷ []
unfolding extra_heads
extra_heads-ends page e es marked = ap (λ (l : List ℕ). (page + e % 0x4000 * 4) ∷ l) (cond-true (is_marked e) [] (extra_heads page es) marked)

extra_heads-goes : (page e : ℕ) (es : List ℕ) → is_marked e ≡ false → extra_heads page (e ∷ es) ≡ (page + e % 0x4000 * 4) ∷ extra_heads page es
unfolding extra_heads
extra_heads-goes page e es unmarked = ap (λ (l : List ℕ). (page + e % 0x4000 * 4) ∷ l) (cond-false (is_marked e) [] (extra_heads page es) unmarked)

-- each place is a multiple of four
abbrev pub AllFours : List ℕ → Type 0
AllFours [] = Unit {0}
AllFours (w ∷ ws) = (w % 4 ≡ 0) × AllFours ws

place_plain : (page f : ℕ) → page % 4096 ≡ 0 → (page ≤ f) × (f < page + 4096) → f % 4 ≡ 0 → page + f % 4096 / 4 * 4 ≡ f
place_plain page f even inside four = omega (arith, inside.0, inside.1)

place_again : (page f : ℕ) → page % 4096 ≡ 0 → (page ≤ f) × (f < page + 4096) → f % 4 ≡ 0 → page + f % 4096 / 4 % 0x4000 * 4 ≡ f
place_again page f even inside four = omega (arith, inside.0, inside.1)

place_back : (page f : ℕ) → page % 4096 ≡ 0 → (page ≤ f) × (f < page + 4096) → f % 4 ≡ 0 → page + (0x8000 + f % 4096 / 4) % 0x4000 * 4 ≡ f
place_back page f even inside four = omega (arith, inside.0, inside.1)

pub marked_some : (f g : ℕ) (fs : List ℕ) → 1 ≤ length (marked_last (f ∷ g ∷ fs))
unfolding marked_last
marked_some f g fs = omega arith

-- a run of extras leads to the words that it was made of, whatever follows
run-leads : (page f : ℕ) (fs more : List ℕ) → page % 4096 ≡ 0 → AllIn page (f ∷ fs) → AllFours (f ∷ fs) → extra_heads page (marked_last (f ∷ fs) ++ more) ≡ f ∷ fs
unfolding marked_last
run-leads page f [] more even inside fours =
    extra_heads-ends page (0x8000 + f % 4096 / 4) more (marked-large (0x8000 + f % 4096 / 4) (omega arith))
    ∙ ap (λ (h : ℕ). h ∷ []) (place_back page f even inside.0 fours.0)
run-leads page f (g ∷ fs) more even inside fours =
    extra_heads-goes page (f % 4096 / 4) (marked_last (g ∷ fs) ++ more) (marked-small (f % 4096 / 4) (omega arith))
    ∙ ap₂ (λ (h : ℕ) (l : List ℕ). h ∷ l) (place_again page f even inside.0 fours.0) (run-leads page g fs more even inside.1 fours.1)

-- the start of a page leads to its first words
pub heads-start : (extras : List ℕ) (page count : ℕ) (fs more : List ℕ) → page % 4096 ≡ 0 → AllIn page fs → AllFours fs
    → drop count extras ≡ extras_for fs ++ more → count + length (extras_for fs) ≤ 0x4000 → heads extras page (start_for count fs) ≡ fs
unfolding heads start_for extras_for
heads-start extras page count [] more even inside fours here few = refl
heads-start extras page count (f ∷ []) more even inside fours here few =
    cond-false (nat_eq (f % 4096 / 4) 0x4000) [] (if is_marked (f % 4096 / 4) then extra_heads page (drop (f % 4096 / 4 % 0x4000) extras) else (page + f % 4096 / 4 * 4) ∷ [])
    (ne_eqb (f % 4096 / 4) 0x4000 (λ e. omega (arith, e)))
    ∙ (cond-false (is_marked (f % 4096 / 4)) (extra_heads page (drop (f % 4096 / 4 % 0x4000) extras)) ((page + f % 4096 / 4 * 4) ∷ []) (marked-small (f % 4096 / 4) (omega arith))
    ∙ ap (λ (h : ℕ). h ∷ []) (place_plain page f even inside.0 fours.0))
heads-start extras page count (f ∷ g ∷ fs) more even inside fours here few =
    let some : 1 ≤ length (marked_last (f ∷ g ∷ fs)) = marked_some f g fs in
    let low : (0x8000 + count) % 0x4000 ≡ count = omega (arith, some, few) in
    cond-false (nat_eq (0x8000 + count) 0x4000) [] (if is_marked (0x8000 + count) then extra_heads page (drop ((0x8000 + count) % 0x4000) extras) else (page + (0x8000 + count) * 4) ∷ [])
    (ne_eqb (0x8000 + count) 0x4000 (λ e. omega (arith, e)))
    ∙ (cond-true (is_marked (0x8000 + count)) (extra_heads page (drop ((0x8000 + count) % 0x4000) extras)) ((page + (0x8000 + count) * 4) ∷ []) (marked-large (0x8000 + count) (omega arith))
    ∙ (ap (λ (n : ℕ). extra_heads page (drop n extras)) low
    ∙ (ap (extra_heads page) here ∙ run-leads page f (g ∷ fs) more even inside fours)))

-- ---- all pages

-- first words are words
firsts_after-in : (limit page a : ℕ) (ws : List ℕ) → AllIn page ws → AllIn page (firsts_after limit a ws)
unfolding firsts_after
firsts_after-in limit page a [] inside = tt
firsts_after-in limit page a (b ∷ ws) inside =
    elim (nat_eq (step limit a b) 0) as (λ t. AllIn page (cond t (b ∷ firsts_after limit b ws) (firsts_after limit b ws))) [
      | true ↦ (inside.0, firsts_after-in limit page b ws inside.1)
      | false ↦ firsts_after-in limit page b ws inside.1
    ]

pub firsts-in : (limit page : ℕ) (ws : List ℕ) → AllIn page ws → AllIn page (firsts limit ws)
unfolding firsts
firsts-in limit page [] inside = tt
firsts-in limit page (a ∷ ws) inside = (inside.0, firsts_after-in limit page a ws inside.1)

firsts_after-fours : (limit a from : ℕ) (ws : List ℕ) → AreWords from ws → AllFours (firsts_after limit a ws)
unfolding firsts_after
firsts_after-fours limit a from [] words = tt
firsts_after-fours limit a from (b ∷ ws) words =
    elim (nat_eq (step limit a b) 0) as (λ t. AllFours (cond t (b ∷ firsts_after limit b ws) (firsts_after limit b ws))) [
      | true ↦ (words.1, firsts_after-fours limit b (b + 8) ws words.3)
      | false ↦ firsts_after-fours limit b (b + 8) ws words.3
    ]

pub firsts-fours : (limit from : ℕ) (ws : List ℕ) → AreWords from ws → AllFours (firsts limit ws)
unfolding firsts
firsts-fours limit from [] words = tt
firsts-fours limit from (a ∷ ws) words = (words.1, firsts_after-fours limit a (a + 8) ws words.3)

pub rest-under : (end top : ℕ) (ws : List ℕ) → AllBelow top ws → AllBelow top (rest end ws)
unfolding rest
rest-under end top [] under = tt
rest-under end top (w ∷ ws) under =
    elim (nat_lt w end) as (λ b. AllBelow top (cond b (rest end ws) (w ∷ ws))) [ true ↦ rest-under end top ws under.1 | false ↦ under ]

pub next_page : (page n : ℕ) → page + 4096 * suc n ≡ page + 4096 + 4096 * n
next_page page n = omega arith

-- what is reached in a page whose start was made is what was linked in it
pub page-made : (s : Slide) (area : List ℕ) (limit page count from : ℕ) (own more : List ℕ) → page % 4096 ≡ 0 → AllIn page own → AreWords from own
    → AreLinked s.mask area limit own → drop count s.extras ≡ extras_for (firsts limit own) ++ more → count + length (extras_for (firsts limit own)) ≤ 0x4000
    → page_reached s.mask s.extras area page (start_for count (firsts limit own)) ≡ own
unfolding page_reached
page-made s area limit page count from own more even inside words linked here few =
    ap (flat_map (chain s.mask area (page + 0xFF8) 1024))
    (heads-start s.extras page count (firsts limit own) more even (firsts-in limit page own inside) (firsts-fours limit from own words) here few)
    ∙ chains_are_all s.mask area limit page from own even inside words linked

pub pages-made : (s : Slide) (area : List ℕ) (limit page n count : ℕ) (ws : List ℕ) → page % 4096 ≡ 0 → AreWords page ws → AllBelow (page + 4096 * n) ws
    → AreLinked s.mask area limit ws → drop count s.extras ≡ extras_of (page_firsts limit page n ws) → count + length (extras_of (page_firsts limit page n ws)) ≤ 0x4000
    → each_page (page_reached s.mask s.extras area) page (starts_of count (page_firsts limit page n ws)) ≡ ws
unfolding each_page starts_of page_firsts extras_of
pages-made s area limit page zero count [] even words under linked here few = refl
pages-made s area limit page zero count (w ∷ ws) even words under linked here few = absurd (omega (arith, words.0, under.0))
pages-made s area limit page (suc n) count ws even words under linked here few =
    let own : List ℕ = front (page + 4096) ws in
    let others : List ℕ = rest (page + 4096) ws in
    let needed : List ℕ = extras_for (firsts limit (front (page + 4096) ws)) in
    let later : List ℕ = extras_of (page_firsts limit (page + 4096) n (rest (page + 4096) ws)) in
    let sizes : length (needed ++ later) ≡ length needed + length later = length-append needed later in
    let behind : drop (count + length needed) s.extras ≡ later =
    sym (drop-drop (length needed) count s.extras) ∙ (ap (drop (length needed)) here ∙ drop-append_seam needed later) in
    ap₂ (λ (xs ys : List ℕ). xs ++ ys)
    (page-made s area limit page count page own later even (front-in page page ws (omega arith) words) (front-words (page + 4096) page ws words)
    (front-linked s.mask area limit page ws even linked) here (omega (arith, sizes, few)))
    (pages-made s area limit (page + 4096) n (count + length needed) others (omega arith) (rest-words (page + 4096) page ws words)
    (rest-under (page + 4096) (page + 4096 + 4096 * n) ws (subst (λ (e : ℕ). AllBelow e ws) (next_page page n) under))
    (rest-linked s.mask area limit (page + 4096) ws linked) behind (omega (arith, sizes, few)))
    ∙ front_rest (page + 4096) ws
