-- From pages to the whole data: what the pages passed have shown, and what the next one adds.
use Rattle.std.proofs.Common.{◌≡◌, ◌<◌, ◌≤◌, ℕ, suc, ◌+◌, ◌*◌, ◌/◌, List, [], ◌∷◌, ◌++◌, map, length, take, drop, get_or, sym, ap, ap₂, refl, ◌∙◌, arith, cond, Bool, true, false}
use Rattle.std.specs.Prelude.{nat_eq, nat_lt, ◌&&◌, ◌||◌, filter, Option, Some, None}
use Rattle.std.specs.List.{list_any, flat_map}
use Rattle.std.proofs.lemmas.Bool.{le-ltb, ltb-false, false≢true, or_parts}
use Rattle.std.proofs.lemmas.List.{take_all, length-take-le}
use Rattle.std.proofs.lemmas.List.Folds.{list_any-append}
use Rattle.slide_chain.specs.declared.words.ChainWord.{ChainWord}
use Rattle.slide_chain.specs.Chains.{heads, chain, page_reached, page_leaving, each_page, in_order, words_at, overlapping, lowest}
use Rattle.slide_chain.specs.Steps.Reading.{SamePlaces, SameHeads}
use Rattle.slide_chain.proofs.MarkLaws.{AllOf, AllOf-map, lowest-is}
use Rattle.slide_chain.proofs.SieveLaws.{leaves}
use Rattle.slide_chain.proofs.PageLaws.{AllOf-append, reached-above, reached-below, leaving-above, leaving-below, words_at-append}
use Rattle.slide_chain.proofs.OrderLaws.{LeastOf, lowest-tells, lowest-first, lowest-under, each_page-above, each_page-below, each_page-push, each_page-split, overlapping-append, overlapping-under, any-none, in_order-append}

-- ---- the walk over the pages

-- what is known once some pages are passed: no chain left its page, no words overlap, and all were gathered
pub record Walked (mask value_add : ℕ) (extras area starts : List ℕ) (i : ℕ) (words : List ChainWord) : Type 0 where
  pub stays : each_page (page_leaving mask extras area) 0 (take i starts) ≡ []
  pub apart : overlapping (each_page (page_reached mask extras area) 0 (take i starts)) ≡ []
  pub gathered : words ≡ words_at mask value_add area (in_order (each_page (page_reached mask extras area) 0 (take i starts)) (1024 * i) 0)

overlapping-none : overlapping [] ≡ []
unfolding overlapping
overlapping-none = refl

words_at-none : (mask value_add : ℕ) (area : List ℕ) → words_at mask value_add area [] ≡ []
unfolding words_at
words_at-none mask value_add area = refl

in_order-none : (l : List ℕ) (at : ℕ) → in_order l 0 at ≡ []
unfolding in_order
in_order-none l at = refl

pub walked-none : (mask value_add : ℕ) (extras area starts : List ℕ) (words : List ChainWord) → words ≡ [] → Walked mask value_add extras area starts 0 words
unfolding each_page
walked-none mask value_add extras area starts words empty = record {
  stays = refl;
  apart = overlapping-none;
  gathered = empty ∙ sym (ap (words_at mask value_add area) (in_order-none [] 0) ∙ words_at-none mask value_add area);
}

-- the places of the pages passed lie before the next one
passed-below : (mask : ℕ) (extras area starts : List ℕ) (i : ℕ) → i < length starts → AllOf (λ x. x + 8 ≤ i * 4096) (each_page (page_reached mask extras area) 0 (take i starts))
passed-below mask extras area starts i within =
    let count : length (take i starts) ≡ i = length-take-le i starts (omega arith) in
    AllOf-map (λ x. x + 8 ≤ 0 + 4096 * length (take i starts)) (λ x. x + 8 ≤ i * 4096) (each_page (page_reached mask extras area) 0 (take i starts)) (λ x le. omega (arith, le, count))
    (each_page-below (page_reached mask extras area) (λ page start. reached-below mask extras area page start) 0 (take i starts))

pub stays-more : (mask : ℕ) (extras area starts : List ℕ) (i : ℕ) → i < length starts → page_leaving mask extras area (i * 4096) (get_or starts i 0) ≡ []
    → each_page (page_leaving mask extras area) 0 (take i starts) ≡ [] → each_page (page_leaving mask extras area) 0 (take (i + 1) starts) ≡ []
stays-more mask extras area starts i within here before = each_page-push (page_leaving mask extras area) starts i within ∙ ap₂ (λ (l r : List ℕ). l ++ r) before here

-- a page whose words were gathered
pub walked-more : (mask value_add : ℕ) (extras area starts : List ℕ) (i : ℕ) (words new : List ChainWord) → i < length starts → page_leaving mask extras area (i * 4096) (get_or starts i 0) ≡ []
    → overlapping (page_reached mask extras area (i * 4096) (get_or starts i 0)) ≡ []
    → new ≡ words ++ words_at mask value_add area (in_order (page_reached mask extras area (i * 4096) (get_or starts i 0)) 1024 (i * 4096))
    → Walked mask value_add extras area starts i words → Walked mask value_add extras area starts (i + 1) new
walked-more mask value_add extras area starts i words new within here apart is before =
    let passed : List ℕ = each_page (page_reached mask extras area) 0 (take i starts) in
    let own : List ℕ = page_reached mask extras area (i * 4096) (get_or starts i 0) in
    let push : each_page (page_reached mask extras area) 0 (take (i + 1) starts) ≡ passed ++ own = each_page-push (page_reached mask extras area) starts i within in
    let above : AllOf (λ y. i * 4096 ≤ y) own = reached-above mask extras area (i * 4096) (get_or starts i 0) in
    record {
      stays = stays-more mask extras area starts i within here before.stays;
      apart = ap overlapping push ∙ (overlapping-append (i * 4096) passed own (passed-below mask extras area starts i within) above ∙ ap₂ (λ (l r : List ℕ). l ++ r) before.apart apart);
      gathered = is ∙ (ap (λ (l : List ChainWord). l ++ words_at mask value_add area (in_order own 1024 (i * 4096))) before.gathered
          ∙ (sym (words_at-append mask value_add area (in_order passed (1024 * i) 0) (in_order own 1024 (i * 4096)))
          ∙ ap (words_at mask value_add area) (sym (ap (λ (l : List ℕ). in_order l (1024 * (i + 1)) 0) push ∙ in_order-append passed own i (passed-below mask extras area starts i within) above))));
    }

-- a page that a chain leaves tells the least place of all
pub leaves-here : (mask : ℕ) (extras area starts : List ℕ) (i at : ℕ) → i < length starts → lowest (page_leaving mask extras area (i * 4096) (get_or starts i 0)) ≡ Some at
    → each_page (page_leaving mask extras area) 0 (take i starts) ≡ [] → lowest (each_page (page_leaving mask extras area) 0 starts) ≡ Some at
leaves-here mask extras area starts i at within is before =
    let own : List ℕ = page_leaving mask extras area (i * 4096) (get_or starts i 0) in
    let later : List ℕ = each_page (page_leaving mask extras area) (i * 4096 + 4096) (drop (i + 1) starts) in
    let under : at ≤ i * 4096 + 0xFF8 = lowest-under (λ x. x ≤ i * 4096 + 0xFF8) at own is (leaving-below mask extras area (i * 4096) (get_or starts i 0)) in
    ap lowest (each_page-split (page_leaving mask extras area) starts i within ∙ ap (λ (l : List ℕ). l ++ (own ++ later)) before)
    ∙ lowest-first at own later is
    (AllOf-map (λ y. i * 4096 + 4096 ≤ y) (λ y. at ≤ y) later (λ y le. omega (arith, le, under))
    (each_page-above (page_leaving mask extras area) (λ page start. leaving-above mask extras area page start) (i * 4096 + 4096) (drop (i + 1) starts)))

pub leaves-nowhere : (mask : ℕ) (extras area starts : List ℕ) (i : ℕ) → length starts ≤ i → each_page (page_leaving mask extras area) 0 (take i starts) ≡ [] → each_page (page_leaving mask extras area) 0 starts ≡ []
leaves-nowhere mask extras area starts i past before = ap (each_page (page_leaving mask extras area) 0) (sym (take_all i starts past)) ∙ before

-- a page in which words overlap tells the least place of all
pub overlaps-here : (mask value_add : ℕ) (extras area starts : List ℕ) (i at : ℕ) (words : List ChainWord) → i < length starts
    → lowest (overlapping (page_reached mask extras area (i * 4096) (get_or starts i 0))) ≡ Some at → Walked mask value_add extras area starts i words
    → lowest (overlapping (each_page (page_reached mask extras area) 0 starts)) ≡ Some at
overlaps-here mask value_add extras area starts i at words within is before =
    let passed : List ℕ = each_page (page_reached mask extras area) 0 (take i starts) in
    let own : List ℕ = page_reached mask extras area (i * 4096) (get_or starts i 0) in
    let later : List ℕ = each_page (page_reached mask extras area) (i * 4096 + 4096) (drop (i + 1) starts) in
    let own_above : AllOf (λ y. i * 4096 ≤ y) own = reached-above mask extras area (i * 4096) (get_or starts i 0) in
    let own_below : AllOf (λ x. x + 8 ≤ i * 4096 + 4096) own =
    AllOf-map (λ x. x ≤ i * 4096 + 0xFF8) (λ x. x + 8 ≤ i * 4096 + 4096) own (λ x le. omega (arith, le)) (reached-below mask extras area (i * 4096) (get_or starts i 0)) in
    let later_above : AllOf (λ y. i * 4096 + 4096 ≤ y) later =
    each_page-above (page_reached mask extras area) (λ page start. reached-above mask extras area page start) (i * 4096 + 4096) (drop (i + 1) starts) in
    let both_above : AllOf (λ y. i * 4096 ≤ y) (own ++ later) =
    AllOf-append (λ y. i * 4096 ≤ y) own later own_above (AllOf-map (λ y. i * 4096 + 4096 ≤ y) (λ y. i * 4096 ≤ y) later (λ y le. omega (arith, le)) later_above) in
    let under : at + 8 ≤ i * 4096 + 4096 = lowest-under (λ x. x + 8 ≤ i * 4096 + 4096) at (overlapping own) is (overlapping-under (λ x. x + 8 ≤ i * 4096 + 4096) own own_below) in
    ap (λ (l : List ℕ). lowest (overlapping l)) (each_page-split (page_reached mask extras area) starts i within)
    ∙ (ap lowest (overlapping-append (i * 4096) passed (own ++ later) (passed-below mask extras area starts i within) both_above)
    ∙ (ap (λ (l : List ℕ). lowest (l ++ overlapping (own ++ later))) before.apart
    ∙ (ap lowest (overlapping-append (i * 4096 + 4096) own later own_below later_above)
    ∙ lowest-first at (overlapping own) (overlapping later) is
    (AllOf-map (λ y. i * 4096 + 4096 ≤ y) (λ y. at ≤ y) (overlapping later) (λ y le. omega (arith, le, under)) (overlapping-under (λ y. i * 4096 + 4096 ≤ y) later later_above)))))

-- the walk is over, and nothing was found
pub record WalkedAll (mask value_add : ℕ) (extras area starts : List ℕ) (words : List ChainWord) : Type 0 where
  pub stays : each_page (page_leaving mask extras area) 0 starts ≡ []
  pub apart : overlapping (each_page (page_reached mask extras area) 0 starts) ≡ []
  pub gathered : words ≡ words_at mask value_add area (in_order (each_page (page_reached mask extras area) 0 starts) (length area / 4) 0)

pub walked-all : (mask value_add : ℕ) (extras area starts : List ℕ) (i : ℕ) (words : List ChainWord) → length starts ≤ i → i ≤ length starts → length starts * 4096 ≡ length area
    → Walked mask value_add extras area starts i words → WalkedAll mask value_add extras area starts words
walked-all mask value_add extras area starts i words past within pages walked =
    let all : take i starts ≡ starts = take_all i starts past in
    let count : 1024 * i ≡ length area / 4 = omega (arith, pages) in
    record {
      stays = ap (each_page (page_leaving mask extras area) 0) (sym all) ∙ walked.stays;
      apart = ap (λ (l : List ℕ). overlapping (each_page (page_reached mask extras area) 0 l)) (sym all) ∙ walked.apart;
      gathered = walked.gathered ∙ ap₂ (λ (l : List ℕ) (n : ℕ). words_at mask value_add area (in_order (each_page (page_reached mask extras area) 0 l) n 0)) all count;
    }

-- ---- lists with the same places

pub any-filter_is : (t p : ℕ → Bool) (xs : List ℕ) → list_any t (filter p xs) ≡ list_any (λ x. p x && t x) xs
any-filter_is t p [] = refl
any-filter_is t p (x ∷ xs) =
    elim (p x) as (λ b. list_any t (cond b (x ∷ filter p xs) (filter p xs)) ≡ ((b && t x) || list_any (λ y. p y && t y) xs)) [
      | true ↦ ap (λ (b : Bool). t x || b) (any-filter_is t p xs)
      | false ↦ any-filter_is t p xs
    ]

any-map_is : (t p : ℕ → Bool) (page : ℕ) (xs : List ℕ) → list_any t (map (λ h. page) (filter p xs)) ≡ list_any (λ x. p x && t page) xs
any-map_is t p page [] = refl
any-map_is t p page (x ∷ xs) =
    elim (p x) as (λ b. list_any t (map (λ h. page) (cond b (x ∷ filter p xs) (filter p xs))) ≡ ((b && t page) || list_any (λ y. p y && t page) xs)) [
      | true ↦ ap (λ (b : Bool). t page || b) (any-map_is t p page xs)
      | false ↦ any-map_is t p page xs
    ]

any-flat_map : (t : ℕ → Bool) (c : ℕ → List ℕ) (hs : List ℕ) → list_any t (flat_map c hs) ≡ list_any (λ h. list_any t (c h)) hs
any-flat_map t c [] = refl
any-flat_map t c (h ∷ hs) = list_any-append t (c h) (flat_map c hs) ∙ ap (λ (b : Bool). list_any t (c h) || b) (any-flat_map t c hs)

-- pages with the same first words are left from the same places
pub leaving-same : (mask : ℕ) (extras few area : List ℕ) (page start moved : ℕ) → SamePlaces (heads extras page start) (heads few page moved) → SamePlaces (page_leaving mask extras area page start) (page_leaving mask few area page moved)
unfolding page_leaving page_reached
leaving-same mask extras few area page start moved same t =
    let side : (es : List ℕ) (s : ℕ) → list_any t (page_leaving mask es area page s)
    ≡ (list_any (λ h. nat_lt (page + 0xFF8) h && t page) (heads es page s) || list_any (λ h. list_any (λ a. leaves mask area page a && t a) (chain mask area (page + 0xFF8) 1024 h)) (heads es page s)) = λ es s.
    list_any-append t (map (λ h. page) (filter (nat_lt (page + 0xFF8)) (heads es page s))) (filter (leaves mask area page) (page_reached mask es area page s))
    ∙ ap₂ (λ (a b : Bool). a || b) (any-map_is t (nat_lt (page + 0xFF8)) page (heads es page s))
    (any-filter_is t (leaves mask area page) (page_reached mask es area page s) ∙ any-flat_map (λ a. leaves mask area page a && t a) (chain mask area (page + 0xFF8) 1024) (heads es page s)) in
    side extras start
    ∙ (ap₂ (λ (a b : Bool). a || b) (same (λ h. nat_lt (page + 0xFF8) h && t page)) (same (λ h. list_any (λ a. leaves mask area page a && t a) (chain mask area (page + 0xFF8) 1024 h)))
    ∙ sym (side few moved))

SameHeads-rest : (x y : ℕ) (xs ys extras few : List ℕ) → SameHeads (x ∷ xs) extras (y ∷ ys) few → SameHeads xs extras ys few
SameHeads-rest x y xs ys extras few same = record { pages = omega (arith, same.pages); same = λ k page within. same.same (suc k) page (omega arith) }

pub pages-same : (mask : ℕ) (extras few area : List ℕ) (p : ℕ) (starts moved : List ℕ) → SameHeads starts extras moved few → SamePlaces (each_page (page_leaving mask extras area) p starts) (each_page (page_leaving mask few area) p moved)
unfolding each_page
pages-same mask extras few area p [] [] same t = refl
pages-same mask extras few area p [] (y ∷ ys) same t = absurd (omega (arith, same.pages))
pages-same mask extras few area p (x ∷ xs) [] same t = absurd (omega (arith, same.pages))
pages-same mask extras few area p (x ∷ xs) (y ∷ ys) same t =
    list_any-append t (page_leaving mask extras area p x) (each_page (page_leaving mask extras area) (p + 4096) xs)
    ∙ (ap₂ (λ (a b : Bool). a || b) (leaving-same mask extras few area p x y (same.same 0 p (omega arith)) t) (pages-same mask extras few area (p + 4096) xs ys (SameHeads-rest x y xs ys extras few same) t)
    ∙ sym (list_any-append t (page_leaving mask few area p y) (each_page (page_leaving mask few area) (p + 4096) ys)))

all-any : (p : ℕ → Bool) (P : ℕ → Type 0) (xs : List ℕ) → ((x : ℕ) → p x ≡ false → P x) → list_any p xs ≡ false → AllOf P xs
all-any p P [] from none = tt
all-any p P (x ∷ xs) from none =
    let parts : (p x ≡ false) × (list_any p xs ≡ false) = or_parts (p x) (list_any p xs) none in
    (from x parts.0, all-any p P xs from parts.1)

empty-any : (xs : List ℕ) → list_any (λ x. true) xs ≡ false → xs ≡ []
empty-any [] none = refl
empty-any (x ∷ xs) none = absurd (false≢true (sym none))

-- the same places have the same least one
same-least : (xs ys : List ℕ) (o : Option ℕ) → LeastOf xs o → SamePlaces xs ys → lowest ys ≡ o
unfolding lowest
same-least xs ys None none same =
    let empty : list_any (λ x. true) ys ≡ false = sym (same (λ x. true)) ∙ ap (list_any (λ x. true)) none in
    ap lowest (empty-any ys empty)
same-least xs ys (Some a) tells same =
    let none : list_any (λ x. nat_lt x a) xs ≡ false = any-none (λ x. nat_lt x a) xs (AllOf-map (λ x. a ≤ x) (λ x. nat_lt x a ≡ false) xs (λ x le. le-ltb x a le) tells.1) in
    lowest-is a ys (sym (same (nat_eq a)) ∙ tells.0) (all-any (λ x. nat_lt x a) (λ x. a ≤ x) ys (λ x fails. ltb-false x a fails) (sym (same (λ x. nat_lt x a)) ∙ none))

pub lowest-same : (xs ys : List ℕ) → SamePlaces xs ys → lowest ys ≡ lowest xs
lowest-same xs ys same = same-least xs ys (lowest xs) (lowest-tells xs) same
