-- Where the words are that the chains of a cache's data reach, and that the chain words among them rise.
use Rattle.std.proofs.Common.{◌≡◌, ◌≤◌, ◌<◌, ◌⊎◌, ℕ, zero, suc, ◌+◌, ◌*◌, ◌/◌, ◌%◌, List, [], ◌∷◌, ◌++◌, length, drop, Bool, true, false, cond, refl, sym, ap, subst, inl, inr, ◌∙◌, arith}
use Rattle.std.specs.Prelude.{nat_eq, nat_lt, ◌||◌, None, if◌then◌else◌}
use Rattle.std.specs.List.{flat_map, list_any}
use Rattle.std.proofs.lemmas.Bool.{ne_eqb, lt-ltb, le-ltb, cond-true, cond-false, cases_eq, cases_lt, false≢true}
use Rattle.dsc_base.specs.Numbers.{number_at}
use Rattle.slide_chain.specs.Chains.{Slide, Suits, delta_of, kept, unslid, chain, is_marked, extra_heads, heads, page_reached, each_page, reached, in_order, words_at, chain_words, chain_finding}
use Rattle.slide_chain.specs.Making.{AreWords, AllBelow}
use Rattle.slide_chain.specs.Steps.Apart.{KeepsApart, AreApart}
use Rattle.slide_chain.proofs.ApartLaws.{is-sound}
use Rattle.cache_check.specs.Views.{offsets_of}

-- ---- what holds of each place

abbrev pub AllOf : (ℕ → Type 0) → List ℕ → Type 0
AllOf P [] = Unit {0}
AllOf P (x ∷ xs) = P x × AllOf P xs

all-append : (P : ℕ → Type 0) (xs ys : List ℕ) → AllOf P xs → AllOf P ys → AllOf P (xs ++ ys)
all-append P [] ys own rest = rest
all-append P (x ∷ xs) ys own rest = (own.0, all-append P xs ys own.1 rest)

pub all-map : (P Q : ℕ → Type 0) (xs : List ℕ) → ((x : ℕ) → P x → Q x) → AllOf P xs → AllOf Q xs
all-map P Q [] from all = tt
all-map P Q (x ∷ xs) from all = (from x all.0, all-map P Q xs from all.1)

pub all-any : (P : ℕ → Type 0) (a : ℕ) (xs : List ℕ) → AllOf P xs → list_any (nat_eq a) xs ≡ true → P a
all-any P a [] all there = absurd (false≢true there)
all-any P a (x ∷ xs) all there =
    elim (cases_eq a x) [
      | inl same ↦ subst P (sym same) all.0
      | inr other ↦ all-any P a xs all.1 (ap (λ (b : Bool). b || list_any (nat_eq a) xs) (sym (ne_eqb a x other)) ∙ there)
    ]

-- ---- one page

-- a word begins in the page that begins at a place, and ends in it
abbrev pub InPage : ℕ → ℕ → Type 0
InPage page a = (page ≤ a) × (a ≤ page + 0xFF8)

chain-in : (mask : ℕ) (area : List ℕ) (page n at : ℕ) → page ≤ at → AllOf (InPage page) (chain mask area (page + 0xFF8) n at)
unfolding chain
chain-in mask area page zero at le = tt
chain-in mask area page (suc n) at le =
    elim (cases_lt (page + 0xFF8) at) [
      | inl past ↦
          subst (AllOf (InPage page)) (sym (cond-true (nat_lt (page + 0xFF8) at) [] (at ∷ (if nat_eq (delta_of mask (number_at 8 area at)) 0 then [] else chain mask area (page + 0xFF8) n (at + delta_of mask (number_at 8 area at))))
          (lt-ltb (page + 0xFF8) at past))) tt
      | inr inside ↦
          subst (AllOf (InPage page)) (sym (cond-false (nat_lt (page + 0xFF8) at) [] (at ∷ (if nat_eq (delta_of mask (number_at 8 area at)) 0 then [] else chain mask area (page + 0xFF8) n (at + delta_of mask (number_at 8 area at))))
          (le-ltb (page + 0xFF8) at inside))) (
            (le, inside),
            elim (nat_eq (delta_of mask (number_at 8 area at)) 0) as (λ b. AllOf (InPage page) (cond b [] (chain mask area (page + 0xFF8) n (at + delta_of mask (number_at 8 area at))))) [
              | true ↦ tt
              | false ↦ chain-in mask area page n (at + delta_of mask (number_at 8 area at)) (omega (arith, le))
            ],
          )
    ]

extra_heads-in : (page : ℕ) (es : List ℕ) → AllOf (λ x. page ≤ x) (extra_heads page es)
unfolding extra_heads
extra_heads-in page [] = tt
extra_heads-in page (e ∷ es) =
    elim (is_marked e) as (λ b. (page ≤ page + e % 0x4000 * 4) × AllOf (λ x. page ≤ x) (cond b [] (extra_heads page es))) [ true ↦ (omega arith, tt) | false ↦ (omega arith, extra_heads-in page es) ]

heads-in : (extras : List ℕ) (page start : ℕ) → AllOf (λ x. page ≤ x) (heads extras page start)
unfolding heads
heads-in extras page start =
    elim (nat_eq start 0x4000) as (λ b. AllOf (λ x. page ≤ x) (cond b [] (if is_marked start then extra_heads page (drop (start % 0x4000) extras) else (page + start * 4) ∷ []))) [
      | true ↦ tt
      | false ↦ elim (is_marked start) as (λ b. AllOf (λ x. page ≤ x) (cond b (extra_heads page (drop (start % 0x4000) extras)) ((page + start * 4) ∷ []))) [
        | true ↦ extra_heads-in page (drop (start % 0x4000) extras)
        | false ↦ (omega arith, tt)
      ]
    ]

chains-in : (mask : ℕ) (area : List ℕ) (page : ℕ) (hs : List ℕ) → AllOf (λ x. page ≤ x) hs → AllOf (InPage page) (flat_map (chain mask area (page + 0xFF8) 1024) hs)
chains-in mask area page [] above = tt
chains-in mask area page (h ∷ hs) above =
    all-append (InPage page) (chain mask area (page + 0xFF8) 1024 h) (flat_map (chain mask area (page + 0xFF8) 1024) hs) (chain-in mask area page 1024 h above.0) (chains-in mask area page hs above.1)

-- ---- all pages

-- a word of the first n bytes lies in one page
abbrev pub InPages : ℕ → ℕ → Type 0
InPages n a = (a % 4096 ≤ 0xFF8) × (a + 8 ≤ n)

page-in : (p n a : ℕ) → p % 4096 ≡ 0 → p + 4096 ≤ n → InPage p a → InPages n a
page-in p n a whole room in_page = let le = in_page.0 in let most = in_page.1 in (omega arith, omega arith)

pages-in : (mask : ℕ) (extras area : List ℕ) (p n : ℕ) (xs : List ℕ) → p % 4096 ≡ 0 → p + 4096 * length xs ≤ n → AllOf (InPages n) (each_page (page_reached mask extras area) p xs)
unfolding each_page page_reached
pages-in mask extras area p n [] whole room = tt
pages-in mask extras area p n (x ∷ xs) whole room =
    all-append (InPages n) (page_reached mask extras area p x) (each_page (page_reached mask extras area) (p + 4096) xs)
    (all-map (InPage p) (InPages n) (page_reached mask extras area p x) (λ a in_page. page-in p n a whole (omega (arith, room)) in_page) (chains-in mask area p (heads extras p x) (heads-in extras p x)))
    (pages-in mask extras area (p + 4096) n xs (omega (arith, whole)) (omega (arith, room)))

pub reached-in : (s : Slide) (area : List ℕ) → Suits s area → AllOf (InPages (length area)) (reached s area)
unfolding reached
reached-in s area suits = pages-in s.mask s.extras area 0 (length area) s.starts refl (omega (arith, suits.pages))

pub reached-apart : (s : Slide) (area : List ℕ) → chain_finding s area ≡ None → AreApart (reached s area)
unfolding reached
reached-apart s area none = (is-sound s area none).apart

-- ---- rising

keeps-any : (a b : ℕ) (xs : List ℕ) → KeepsApart a xs → list_any (nat_eq b) xs ≡ true → (a + 8 ≤ b) ⊎ (b + 8 ≤ a)
keeps-any a b [] apart there = absurd (false≢true there)
keeps-any a b (x ∷ xs) apart there =
    elim (cases_eq b x) [
      | inl same ↦ subst (λ (y : ℕ). (a + 8 ≤ y) ⊎ (y + 8 ≤ a)) (sym same) apart.0
      | inr other ↦ keeps-any a b xs apart.1 (ap (λ (t : Bool). t || list_any (nat_eq b) xs) (sym (ne_eqb b x other)) ∙ there)
    ]

-- two of the places, one above the other
pub apart-any : (a b : ℕ) (xs : List ℕ) → AreApart xs → list_any (nat_eq a) xs ≡ true → list_any (nat_eq b) xs ≡ true → a < b → a + 8 ≤ b
apart-any a b [] apart here there lt = absurd (false≢true here)
apart-any a b (x ∷ xs) apart here there lt =
    elim (cases_eq a x) [
      | inl same ↦ elim (cases_eq b x) [
        | inl also ↦ absurd (omega (arith, same, also, lt))
        | inr other ↦ elim (keeps-any x b xs apart.0 (ap (λ (t : Bool). t || list_any (nat_eq b) xs) (sym (ne_eqb b x other)) ∙ there)) [
          | inl behind ↦ omega (arith, same, behind)
          | inr before ↦ absurd (omega (arith, same, before, lt))
        ]
      ]
      | inr first ↦ elim (cases_eq b x) [
        | inl also ↦ elim (keeps-any x a xs apart.0 (ap (λ (t : Bool). t || list_any (nat_eq a) xs) (sym (ne_eqb a x first)) ∙ here)) [
          | inl behind ↦ absurd (omega (arith, also, behind, lt))
          | inr before ↦ omega (arith, also, before)
        ]
        | inr other ↦ apart-any a b xs apart.1 (ap (λ (t : Bool). t || list_any (nat_eq a) xs) (sym (ne_eqb a x first)) ∙ here)
            (ap (λ (t : Bool). t || list_any (nat_eq b) xs) (sym (ne_eqb b x other)) ∙ there) lt
      ]
    ]

-- the places in order, each of them there, at a multiple of four, and eight or more above the one before
abbrev pub Rise : List ℕ → ℕ → List ℕ → Type 0
Rise places from [] = Unit {0}
Rise places from (a ∷ qs) = (from ≤ a) × (a % 4 ≡ 0) × (list_any (nat_eq a) places ≡ true) × Rise places (a + 8) qs

rise-from : (places : List ℕ) (low high : ℕ) (qs : List ℕ) → low ≤ high → Rise places high qs → Rise places low qs
rise-from places low high [] le rise = tt
rise-from places low high (a ∷ qs) le rise = (omega (arith, le, rise.0), rise.1, rise.2, rise.3)

-- what rises from a place is eight or more above another place that is lower
rise-over : (places : List ℕ) (at : ℕ) (qs : List ℕ) → AreApart places → list_any (nat_eq at) places ≡ true → Rise places (at + 4) qs → Rise places (at + 8) qs
rise-over places at [] apart here rise = tt
rise-over places at (a ∷ qs) apart here rise = (apart-any at a places apart here rise.2 (omega (arith, rise.0)), rise.1, rise.2, rise.3)

pub order-rises : (places : List ℕ) (n at : ℕ) → AreApart places → at % 4 ≡ 0 → Rise places at (in_order places n at)
unfolding in_order
order-rises places zero at apart four = tt
order-rises places (suc n) at apart four =
    let later : Rise places (at + 4) (in_order places n (at + 4)) = order-rises places n (at + 4) apart (omega (arith, four)) in
    elim (list_any (nat_eq at) places) as (λ b. list_any (nat_eq at) places ≡ b → Rise places at (cond b (at ∷ in_order places n (at + 4)) (in_order places n (at + 4)))) [
      | true ↦ λ there. (omega arith, four, there, rise-over places at (in_order places n (at + 4)) apart there later)
      | false ↦ λ absent. rise-from places at (at + 4) (in_order places n (at + 4)) (omega arith) later
    ] refl

-- those of them that are chain words
words-rise : (mask value_add : ℕ) (area places : List ℕ) (n from : ℕ) (qs : List ℕ) → AllOf (InPages n) places → Rise places from qs
    → AreWords from (offsets_of (words_at mask value_add area qs)) × AllBelow n (offsets_of (words_at mask value_add area qs))
unfolding words_at
words-rise mask value_add area places n from [] inside rise = (tt, tt)
words-rise mask value_add area places n from (a ∷ qs) inside rise =
    elim (nat_eq (kept mask (number_at 8 area a)) 0) as (λ b. AreWords from (offsets_of (cond b (words_at mask value_add area qs) (record { offset = a; value = unslid mask value_add (number_at 8 area a) } ∷ words_at mask value_add area qs)))
    × AllBelow n (offsets_of (cond b (words_at mask value_add area qs) (record { offset = a; value = unslid mask value_add (number_at 8 area a) } ∷ words_at mask value_add area qs)))) [
      | true ↦ words-rise mask value_add area places n from qs inside (rise-from places from (a + 8) qs (omega (arith, rise.0)) rise.3)
      | false ↦
          let own : InPages n a = all-any (InPages n) a places inside rise.2 in
          let later = words-rise mask value_add area places n (a + 8) qs inside rise.3 in
          ((rise.0, rise.1, own.0, later.0), (omega (arith, own.1), later.1))
    ]

pub chain_words-rise : (s : Slide) (area : List ℕ) → Suits s area → chain_finding s area ≡ None
    → AreWords 0 (offsets_of (chain_words s area)) × AllBelow (length area) (offsets_of (chain_words s area))
unfolding chain_words
chain_words-rise s area suits none =
    words-rise s.mask s.value_add area (reached s area) (length area) 0 (in_order (reached s area) (length area / 4) 0) (reached-in s area suits)
    (order-rises (reached s area) (length area / 4) 0 (reached-apart s area none) refl)
