-- Nothing is wrong with the chains of words that were linked.
use Rattle.std.proofs.Common.{◌≡◌, ◌<◌, ◌≤◌, ℕ, zero, suc, ◌+◌, ◌-◌, ◌*◌, ◌/◌, ◌%◌, ◌^◌, List, [], ◌∷◌, ◌++◌, map, length, drop, sym, ap, ap₂, subst, refl, inl, inr, ◌∙◌, arith, cond, Bool, true, false, length-append}
use Rattle.std.specs.Prelude.{nat_eq, nat_lt, nat_le, ◌&&◌, ◌||◌, filter, Option, Some, None}
use Rattle.std.specs.List.{list_any}
use Rattle.std.proofs.lemmas.Bool.{lt-ltb, le-ltb, le-leb, lt-leb, cond-true, cond-false, and_left, and_right, or_right}
use Rattle.std.proofs.lemmas.List.Elements.{filter-append}
use Rattle.std.proofs.lemmas.List.Folds.{list_any-append}
use Rattle.std.proofs.lemmas.List.{drop-drop, append_assoc}
use Rattle.std.proofs.Math.Seq.{drop-append_seam}
use Rattle.dsc_base.specs.Numbers.{number_at}
use Rattle.dsc_base.specs.Edits.{change_all}
use Rattle.slide_chain.specs.Chains.{Slide, delta_of, is_marked, each_page, reached, run_ends, endless_page, page_leaving, leaving, overlapping, lowest, chain_finding}
use Rattle.slide_chain.specs.Making.{step, step_to, firsts_after, firsts, front, rest, page_firsts, marked_last, extras_for, start_for, starts_of, extras_of, linking, info_of, AreWords, AllBelow}
use Rattle.slide_chain.proofs.MadeLaws.{AreLinked, AllIn, step_cases, heads-start, page-made, front-words, front-in, front-linked, rest-words, rest-linked, firsts-in, firsts-fours, marked-large, marked-small, marked_some}
use Rattle.slide_chain.proofs.ApartLaws.{findings}
use Rattle.slide_chain.proofs.LinkLaws.{IsLinkable, linkable-links, reached-made}

-- ---- each run of extras ends

marked_last-marked : (f : ℕ) (fs : List ℕ) → list_any is_marked (marked_last (f ∷ fs)) ≡ true
unfolding marked_last
marked_last-marked f [] = ap (λ (b : Bool). b || false) (marked-large (0x8000 + f % 4096 / 4) (omega arith))
marked_last-marked f (g ∷ fs) = or_right (is_marked (f % 4096 / 4)) (list_any is_marked (marked_last (g ∷ fs))) (marked_last-marked g fs)

start-ends : (extras : List ℕ) (count : ℕ) (fs more : List ℕ) → drop count extras ≡ extras_for fs ++ more → count + length (extras_for fs) ≤ 0x4000 → run_ends extras (start_for count fs) ≡ true
unfolding run_ends start_for extras_for
start-ends extras count [] more here few = cond-false (is_marked 0x4000) (list_any is_marked (drop (0x4000 % 0x4000) extras)) true (marked-small 0x4000 (omega arith))
start-ends extras count (f ∷ []) more here few =
    cond-false (is_marked (f % 4096 / 4)) (list_any is_marked (drop (f % 4096 / 4 % 0x4000) extras)) true (marked-small (f % 4096 / 4) (omega arith))
start-ends extras count (f ∷ g ∷ fs) more here few =
    let some : 1 ≤ length (marked_last (f ∷ g ∷ fs)) = marked_some f g fs in
    let low : (0x8000 + count) % 0x4000 ≡ count = omega (arith, some, few) in
    cond-true (is_marked (0x8000 + count)) (list_any is_marked (drop ((0x8000 + count) % 0x4000) extras)) true (marked-large (0x8000 + count) (omega arith))
    ∙ (ap (λ (n : ℕ). list_any is_marked (drop n extras)) low
    ∙ (ap (list_any is_marked) here
    ∙ (list_any-append is_marked (marked_last (f ∷ g ∷ fs)) more
    ∙ ap (λ (b : Bool). b || list_any is_marked more) (marked_last-marked f (g ∷ fs)))))

-- where the extras of the pages behind begin
behind : (extras needed later : List ℕ) (count : ℕ) → drop count extras ≡ needed ++ later → drop (count + length needed) extras ≡ later
behind extras needed later count here = sym (drop-drop (length needed) count extras) ∙ (ap (drop (length needed)) here ∙ drop-append_seam needed later)

starts-end : (extras : List ℕ) (limit page n count number : ℕ) (ws : List ℕ) → drop count extras ≡ extras_of (page_firsts limit page n ws)
    → count + length (extras_of (page_firsts limit page n ws)) ≤ 0x4000 → endless_page extras number (starts_of count (page_firsts limit page n ws)) ≡ None
unfolding endless_page starts_of page_firsts extras_of
starts-end extras limit page zero count number ws here few = refl
starts-end extras limit page (suc n) count number ws here few =
    let needed : List ℕ = extras_for (firsts limit (front (page + 4096) ws)) in
    let later : List ℕ = extras_of (page_firsts limit (page + 4096) n (rest (page + 4096) ws)) in
    let sizes : length (needed ++ later) ≡ length needed + length later = length-append needed later in
    let pages : List (List ℕ) = page_firsts limit (page + 4096) n (rest (page + 4096) ws) in
    cond-true (run_ends extras (start_for count (firsts limit (front (page + 4096) ws)))) (endless_page extras (number + 1) (starts_of (count + length needed) pages)) (Some number)
    (start-ends extras count (firsts limit (front (page + 4096) ws)) later here (omega (arith, sizes, few)))
    ∙ starts-end extras limit (page + 4096) n (count + length needed) (number + 1) (rest (page + 4096) ws) (behind extras needed later count here) (omega (arith, sizes, few))

-- ---- no chain leaves its page

words-stay : (mask : ℕ) (area : List ℕ) (limit page from : ℕ) (ws : List ℕ) → page % 4096 ≡ 0 → AllIn page ws → AreWords from ws → AreLinked mask area limit ws
    → filter (λ a. nat_lt (page + 0xFF8) (a + delta_of mask (number_at 8 area a))) ws ≡ []
unfolding step_to
words-stay mask area limit page from [] even inside words linked = refl
words-stay mask area limit page from (a ∷ []) even inside words linked =
    cond-false (nat_lt (page + 0xFF8) (a + delta_of mask (number_at 8 area a))) (a ∷ []) [] (le-ltb (page + 0xFF8) (a + delta_of mask (number_at 8 area a)) (omega (arith, linked.0, words.2, inside.0.0, inside.0.1)))
words-stay mask area limit page from (a ∷ b ∷ ws) even inside words linked =
    let others : List ℕ = filter (λ c. nat_lt (page + 0xFF8) (c + delta_of mask (number_at 8 area c))) (b ∷ ws) in
    let stays : a + delta_of mask (number_at 8 area a) ≤ page + 0xFF8 =
    elim (step_cases limit a b) [
      | inl none ↦ omega (arith, linked.0, none, words.2, inside.0.0, inside.0.1)
      | inr steps ↦ omega (arith, linked.0, steps.is, words.3.0, words.3.2, inside.1.0.0, inside.1.0.1)
    ] in
    cond-false (nat_lt (page + 0xFF8) (a + delta_of mask (number_at 8 area a))) (a ∷ others) others (le-ltb (page + 0xFF8) (a + delta_of mask (number_at 8 area a)) stays)
    ∙ words-stay mask area limit page (a + 8) (b ∷ ws) even inside.1 words.3 linked.1

-- each place leaves room for a word in its page
abbrev AllShort : List ℕ → Type 0
AllShort [] = Unit {0}
AllShort (w ∷ ws) = (w % 4096 ≤ 0xFF8) × AllShort ws

firsts_after-short : (limit a from : ℕ) (ws : List ℕ) → AreWords from ws → AllShort (firsts_after limit a ws)
unfolding firsts_after
firsts_after-short limit a from [] words = tt
firsts_after-short limit a from (b ∷ ws) words =
    elim (nat_eq (step limit a b) 0) as (λ t. AllShort (cond t (b ∷ firsts_after limit b ws) (firsts_after limit b ws))) [
      | true ↦ (words.2, firsts_after-short limit b (b + 8) ws words.3)
      | false ↦ firsts_after-short limit b (b + 8) ws words.3
    ]

firsts-short : (limit from : ℕ) (ws : List ℕ) → AreWords from ws → AllShort (firsts limit ws)
unfolding firsts
firsts-short limit from [] words = tt
firsts-short limit from (a ∷ ws) words = (words.2, firsts_after-short limit a (a + 8) ws words.3)

heads-stay : (page from : ℕ) (fs : List ℕ) → page % 4096 ≡ 0 → AllIn page fs → AllShort fs → filter (nat_lt (page + 0xFF8)) fs ≡ []
heads-stay page from [] even inside short = refl
heads-stay page from (f ∷ fs) even inside short =
    cond-false (nat_lt (page + 0xFF8) f) (f ∷ filter (nat_lt (page + 0xFF8)) fs) (filter (nat_lt (page + 0xFF8)) fs) (le-ltb (page + 0xFF8) f (omega (arith, inside.0.0, inside.0.1, short.0)))
    ∙ heads-stay page from fs even inside.1 short.1

page-stays : (s : Slide) (area : List ℕ) (limit page count from : ℕ) (own more : List ℕ) → page % 4096 ≡ 0 → AllIn page own → AreWords from own
    → AreLinked s.mask area limit own → drop count s.extras ≡ extras_for (firsts limit own) ++ more → count + length (extras_for (firsts limit own)) ≤ 0x4000
    → page_leaving s.mask s.extras area page (start_for count (firsts limit own)) ≡ []
unfolding page_leaving
page-stays s area limit page count from own more even inside words linked here few =
    ap₂ (λ (hs rs : List ℕ). map (λ (h : ℕ). page) (filter (nat_lt (page + 0xFF8)) hs) ++ filter (λ (a : ℕ). nat_lt (page + 0xFF8) (a + delta_of s.mask (number_at 8 area a))) rs)
    (heads-start s.extras page count (firsts limit own) more even (firsts-in limit page own inside) (firsts-fours limit from own words) here few)
    (page-made s area limit page count from own more even inside words linked here few)
    ∙ ap₂ (λ (hs rs : List ℕ). map (λ (h : ℕ). page) hs ++ rs) (heads-stay page from (firsts limit own) even (firsts-in limit page own inside) (firsts-short limit from own words))
    (words-stay s.mask area limit page from own even inside words linked)

pages-stay : (s : Slide) (area : List ℕ) (limit page n count : ℕ) (ws : List ℕ) → page % 4096 ≡ 0 → AreWords page ws
    → AreLinked s.mask area limit ws → drop count s.extras ≡ extras_of (page_firsts limit page n ws) → count + length (extras_of (page_firsts limit page n ws)) ≤ 0x4000
    → each_page (page_leaving s.mask s.extras area) page (starts_of count (page_firsts limit page n ws)) ≡ []
unfolding each_page starts_of page_firsts extras_of
pages-stay s area limit page zero count ws even words linked here few = refl
pages-stay s area limit page (suc n) count ws even words linked here few =
    let needed : List ℕ = extras_for (firsts limit (front (page + 4096) ws)) in
    let later : List ℕ = extras_of (page_firsts limit (page + 4096) n (rest (page + 4096) ws)) in
    let sizes : length (needed ++ later) ≡ length needed + length later = length-append needed later in
    ap₂ (λ (xs ys : List ℕ). xs ++ ys)
    (page-stays s area limit page count page (front (page + 4096) ws) later even (front-in page page ws (omega arith) words) (front-words (page + 4096) page ws words)
    (front-linked s.mask area limit page ws even linked) here (omega (arith, sizes, few)))
    (pages-stay s area limit (page + 4096) n (count + length needed) (rest (page + 4096) ws) (omega arith) (rest-words (page + 4096) page ws words)
    (rest-linked s.mask area limit (page + 4096) ws linked) (behind s.extras needed later count here) (omega (arith, sizes, few)))

-- ---- no two words overlap

-- the words from a place on that begin less than eight bytes behind it
abbrev near : ℕ → ℕ → Bool
near a b = nat_le a b && nat_lt b (a + 8)

near-past : (a b : ℕ) → b < a → near a b ≡ false
near-past a b past = and_left (nat_le a b) (nat_lt b (a + 8)) (lt-leb a b past)

near-far : (a b : ℕ) → a + 8 ≤ b → near a b ≡ false
near-far a b far = and_right (nat_le a b) (nat_lt b (a + 8)) (le-ltb b (a + 8) far)

near-itself : (a : ℕ) → near a a ≡ true
near-itself a = ap₂ (λ (x y : Bool). x && y) (le-leb a a (omega arith)) (lt-ltb a (a + 8) (omega arith))

none_behind : (a from : ℕ) (ws : List ℕ) → a + 8 ≤ from → AreWords from ws → filter (near a) ws ≡ []
none_behind a from [] le words = refl
none_behind a from (w ∷ ws) le words =
    cond-false (near a w) (w ∷ filter (near a) ws) (filter (near a) ws) (near-far a w (omega (arith, words.0))) ∙ none_behind a (w + 8) ws (omega (arith, words.0)) words.3

none_before : (a : ℕ) (past : List ℕ) → AllBelow a past → filter (near a) past ≡ []
none_before a [] under = refl
none_before a (p ∷ past) under = cond-false (near a p) (p ∷ filter (near a) past) (filter (near a) past) (near-past a p under.0) ∙ none_before a past under.1

under-more : (low high : ℕ) (past : List ℕ) → low ≤ high → AllBelow low past → AllBelow high past
under-more low high [] le under = tt
under-more low high (p ∷ past) le under = (omega (arith, under.0), under-more low high past le under.1)

under-push : (high a : ℕ) (past : List ℕ) → AllBelow high past → a < high → AllBelow high (past ++ (a ∷ []))
under-push high a [] under less = (less, tt)
under-push high a (p ∷ past) under less = (under.0, under-push high a past under.1 less)

alone : (all past : List ℕ) (from : ℕ) (ws : List ℕ) → all ≡ past ++ ws → AllBelow from past → AreWords from ws → filter (λ a. nat_lt 1 (length (filter (near a) all))) ws ≡ []
alone all past from [] is under words = refl
alone all past from (a ∷ ws) is under words =
    let one : filter (near a) all ≡ a ∷ [] =
    ap (filter (near a)) is ∙ (filter-append (near a) past (a ∷ ws)
    ∙ ap₂ (λ (xs ys : List ℕ). xs ++ ys) (none_before a past (under-more from a past words.0 under))
    (cond-true (near a a) (a ∷ filter (near a) ws) (filter (near a) ws) (near-itself a) ∙ ap (λ (l : List ℕ). a ∷ l) (none_behind a (a + 8) ws (omega arith) words.3))) in
    let others : List ℕ = filter (λ b. nat_lt 1 (length (filter (near b) all))) ws in
    cond-false (nat_lt 1 (length (filter (near a) all))) (a ∷ others) others (ap (λ (l : List ℕ). nat_lt 1 (length l)) one)
    ∙ alone all (past ++ (a ∷ [])) (a + 8) ws (is ∙ sym (append_assoc past (a ∷ []) ws)) (under-push (a + 8) a past (under-more from (a + 8) past (omega (arith, words.0)) under) (omega arith)) words.3

words-alone : (from : ℕ) (ws : List ℕ) → AreWords from ws → overlapping ws ≡ []
unfolding overlapping
words-alone from ws words = alone ws [] from ws refl tt words

-- ---- altogether

-- the chains that were made and written have no finding
pub chains-sound : (n size : ℕ) (area after ws : List ℕ) → IsLinkable n size area ws → length (extras_of (page_firsts (2 ^ n - 1) 0 (size / 4096) ws)) ≤ 0x4000
    → after ≡ change_all (linking (2 ^ n - 1) ws) area → chain_finding (info_of n size ws) after ≡ None
unfolding chain_finding leaving lowest info_of
chains-sound n size area after ws fit few is =
    let s : Slide = info_of n size ws in
    let is_reached : reached (info_of n size ws) after ≡ ws = ap (reached (info_of n size ws)) is ∙ reached-made n size area ws fit few in
    let linked : AreLinked ((2 ^ n - 1) * 2 ^ 48) after (2 ^ n - 1) ws = subst (λ (b : List ℕ). AreLinked ((2 ^ n - 1) * 2 ^ 48) b (2 ^ n - 1) ws) (sym is) (linkable-links n size area ws fit) in
    let ends : endless_page s.extras 0 s.starts ≡ None = starts-end s.extras (2 ^ n - 1) 0 (size / 4096) 0 0 ws refl (omega (arith, few)) in
    let stays : leaving s after ≡ [] = pages-stay s after (2 ^ n - 1) 0 (size / 4096) 0 ws refl fit.words linked refl (omega (arith, few)) in
    let apart : overlapping (reached s after) ≡ [] = ap overlapping is_reached ∙ words-alone 0 ws fit.words in
    ap₂ (λ (e : Option ℕ) (l : List ℕ). findings e (lowest l) (lowest (overlapping (reached s after)))) ends stays
    ∙ ap (λ (l : List ℕ). findings None None (lowest l)) apart
