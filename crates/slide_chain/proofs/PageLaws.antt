-- What the sieve of a page says of the words that are reached in it: which leave it, which overlap, and which stand in it in order.
use Rattle.std.proofs.Common.{◌≡◌, ◌<◌, ◌≤◌, ℕ, zero, suc, ◌+◌, ◌*◌, ◌%◌, ◌^◌, List, [], ◌∷◌, ◌++◌, map, length, drop, get_or, sym, ap, ap₂, subst, refl, inl, inr, ◌∙◌, arith, cond, Bool, true, false}
use Rattle.std.specs.Prelude.{nat_eq, nat_lt, nat_le, ◌&&◌, ◌||◌, filter, Option, Some, None, IfSome, IfNone, if◌then◌else◌}
use Rattle.std.specs.List.{flat_map, list_any}
use Rattle.std.proofs.lemmas.Bool.{eq-eqb, ne_eqb, eqb-true, lt-ltb, le-ltb, le-leb, lt-leb, cond-true, cond-false, cases_eq, cases_lt, and_right, and_left, and_from, false≢true, cases_Bool, and_parts}
use Rattle.std.proofs.Math.Nat.{mul-add}
use Rattle.std.proofs.lemmas.List.{get_or_past, append-nil, append_assoc}
use Rattle.dsc_base.specs.Numbers.{number_at}
use Rattle.slide_chain.specs.declared.words.ChainWord.{ChainWord}
use Rattle.slide_chain.specs.Chains.{delta_of, kept, unslid, chain, is_marked, extra_heads, heads, page_reached, page_leaving, in_order, words_at, overlapping, lowest}
use Rattle.slide_chain.specs.Steps.Marks.{counted, AreCounted}
use Rattle.slide_chain.proofs.MarkLaws.{AllOf, AllOf-map, IsPlaced, passing, passing-true, passing-false, any-weight, length-filter, counted-placed, counted-times, counted-one, counted-zero, lowest-is}
use Rattle.slide_chain.proofs.SieveLaws.{leaves, chain-above, all-filter, any-filter}

-- ---- lists of places

pub filter-none : (p : ℕ → Bool) (xs : List ℕ) → AllOf (λ x. p x ≡ false) xs → filter p xs ≡ []
filter-none p [] all = refl
filter-none p (x ∷ xs) all = cond-false (p x) (x ∷ filter p xs) (filter p xs) all.0 ∙ filter-none p xs all.1

pub AllOf-append : (P : ℕ → Type 0) (xs ys : List ℕ) → AllOf P xs → AllOf P ys → AllOf P (xs ++ ys)
AllOf-append P [] ys all_x all_y = all_y
AllOf-append P (x ∷ xs) ys all_x all_y = (all_x.0, AllOf-append P xs ys all_x.1 all_y)

pub AllOf-flat_map : (P : ℕ → Type 0) (c : ℕ → List ℕ) (hs : List ℕ) → AllOf (λ h. AllOf P (c h)) hs → AllOf P (flat_map c hs)
AllOf-flat_map P c [] all = tt
AllOf-flat_map P c (h ∷ hs) all = AllOf-append P (c h) (flat_map c hs) all.0 (AllOf-flat_map P c hs all.1)

AllOf-filter : (P : ℕ → Type 0) (p : ℕ → Bool) (xs : List ℕ) → AllOf P xs → AllOf P (filter p xs)
AllOf-filter P p xs all = all-filter P p xs (AllOf-map P (λ x. p x ≡ true → P x) xs (λ x holds passes. holds) all)

-- ---- words that leave the page

extra_heads-above : (page : ℕ) (es : List ℕ) → AllOf (λ x. page ≤ x) (extra_heads page es)
unfolding extra_heads
extra_heads-above page [] = tt
extra_heads-above page (e ∷ es) =
    elim (is_marked e) as (λ b. (page ≤ page + e % 0x4000 * 4) × AllOf (λ x. page ≤ x) (cond b [] (extra_heads page es))) [ true ↦ (omega arith, tt) | false ↦ (omega arith, extra_heads-above page es) ]

pub heads-above : (extras : List ℕ) (page start : ℕ) → AllOf (λ x. page ≤ x) (heads extras page start)
unfolding heads
heads-above extras page start =
    elim (nat_eq start 0x4000) as (λ b. AllOf (λ x. page ≤ x) (cond b [] (if is_marked start then extra_heads page (drop (start % 0x4000) extras) else (page + start * 4) ∷ []))) [
      | true ↦ tt
      | false ↦ elim (is_marked start) as (λ b. AllOf (λ x. page ≤ x) (cond b (extra_heads page (drop (start % 0x4000) extras)) ((page + start * 4) ∷ []))) [
        | true ↦ extra_heads-above page (drop (start % 0x4000) extras)
        | false ↦ (omega arith, tt)
      ]
    ]

-- what is reached in a page lies behind its beginning
pub reached-above : (mask : ℕ) (extras area : List ℕ) (page start : ℕ) → AllOf (λ x. page ≤ x) (page_reached mask extras area page start)
unfolding page_reached
reached-above mask extras area page start =
    AllOf-flat_map (λ x. page ≤ x) (chain mask area (page + 0xFF8) 1024) (heads extras page start)
    (AllOf-map (λ x. page ≤ x) (λ h. AllOf (λ x. page ≤ x) (chain mask area (page + 0xFF8) 1024 h)) (heads extras page start)
    (λ h le. chain-above mask area (page + 0xFF8) 1024 page h le) (heads-above extras page start))

pub chain-below : (mask : ℕ) (area : List ℕ) (last n at : ℕ) → AllOf (λ x. x ≤ last) (chain mask area last n at)
unfolding chain
chain-below mask area last zero at = tt
chain-below mask area last (suc n) at =
    elim (cases_lt last at) [
      | inl past ↦ subst (AllOf (λ x. x ≤ last)) (sym (cond-true (nat_lt last at) [] (at ∷ (if nat_eq (delta_of mask (number_at 8 area at)) 0 then [] else chain mask area last n (at + delta_of mask (number_at 8 area at)))) (lt-ltb last at past))) tt
      | inr inside ↦
          subst (AllOf (λ x. x ≤ last)) (sym (cond-false (nat_lt last at) [] (at ∷ (if nat_eq (delta_of mask (number_at 8 area at)) 0 then [] else chain mask area last n (at + delta_of mask (number_at 8 area at)))) (le-ltb last at inside))) (
            inside,
            elim (nat_eq (delta_of mask (number_at 8 area at)) 0) as (λ b. AllOf (λ x. x ≤ last) (cond b [] (chain mask area last n (at + delta_of mask (number_at 8 area at))))) [
              | true ↦ tt
              | false ↦ chain-below mask area last n (at + delta_of mask (number_at 8 area at))
            ],
          )
    ]

AllOf-all : (P : ℕ → Type 0) (xs : List ℕ) → ((x : ℕ) → P x) → AllOf P xs
AllOf-all P [] holds = tt
AllOf-all P (x ∷ xs) holds = (holds x, AllOf-all P xs holds)

-- and leaves room for a word in it
pub reached-below : (mask : ℕ) (extras area : List ℕ) (page start : ℕ) → AllOf (λ x. x ≤ page + 0xFF8) (page_reached mask extras area page start)
unfolding page_reached
reached-below mask extras area page start =
    AllOf-flat_map (λ x. x ≤ page + 0xFF8) (chain mask area (page + 0xFF8) 1024) (heads extras page start)
    (AllOf-all (λ h. AllOf (λ x. x ≤ page + 0xFF8) (chain mask area (page + 0xFF8) 1024 h)) (heads extras page start) (λ h. chain-below mask area (page + 0xFF8) 1024 h))

map-above : (page : ℕ) (xs : List ℕ) → AllOf (λ x. page ≤ x) (map (λ h. page) xs)
map-above page [] = tt
map-above page (x ∷ xs) = (omega arith, map-above page xs)

map-any : (page : ℕ) (p : ℕ → Bool) (xs ys : List ℕ) → list_any p xs ≡ true → list_any (nat_eq page) (map (λ h. page) (filter p xs) ++ ys) ≡ true
map-any page p [] ys there = absurd (false≢true there)
map-any page p (x ∷ xs) ys there =
    elim (cases_Bool (p x)) [
      | inl passes ↦ ap (λ (l : List ℕ). list_any (nat_eq page) (map (λ (h : ℕ). page) l ++ ys)) (cond-true (p x) (x ∷ filter p xs) (filter p xs) passes)
          ∙ ap (λ (b : Bool). b || list_any (nat_eq page) (map (λ (h : ℕ). page) (filter p xs) ++ ys)) (eq-eqb page page refl)
      | inr fails ↦
          let later : list_any p xs ≡ true = ap (λ (b : Bool). b || list_any p xs) (sym fails) ∙ there in
          ap (λ (l : List ℕ). list_any (nat_eq page) (map (λ (h : ℕ). page) l ++ ys)) (cond-false (p x) (x ∷ filter p xs) (filter p xs) fails) ∙ map-any page p xs ys later
    ]

pub leaving-above : (mask : ℕ) (extras area : List ℕ) (page start : ℕ) → AllOf (λ x. page ≤ x) (page_leaving mask extras area page start)
unfolding page_leaving
leaving-above mask extras area page start =
    AllOf-append (λ x. page ≤ x) (map (λ h. page) (filter (nat_lt (page + 0xFF8)) (heads extras page start))) (filter (leaves mask area page) (page_reached mask extras area page start))
    (map-above page (filter (nat_lt (page + 0xFF8)) (heads extras page start)))
    (AllOf-filter (λ x. page ≤ x) (leaves mask area page) (page_reached mask extras area page start) (reached-above mask extras area page start))

-- a first word outside
pub leaving-heads : (mask : ℕ) (extras area : List ℕ) (page start : ℕ) → list_any (nat_lt (page + 0xFF8)) (heads extras page start) ≡ true → lowest (page_leaving mask extras area page start) ≡ Some page
unfolding page_leaving
leaving-heads mask extras area page start out =
    lowest-is page (map (λ h. page) (filter (nat_lt (page + 0xFF8)) (heads extras page start)) ++ filter (leaves mask area page) (page_reached mask extras area page start))
    (map-any page (nat_lt (page + 0xFF8)) (heads extras page start) (filter (leaves mask area page) (page_reached mask extras area page start)) out)
    (leaving-above mask extras area page start)

-- first words that are counted are inside
heads-inside : (marks extras : List ℕ) (page start : ℕ) → AreCounted marks page (heads extras page start) → filter (nat_lt (page + 0xFF8)) (heads extras page start) ≡ []
heads-inside marks extras page start is =
    filter-none (nat_lt (page + 0xFF8)) (heads extras page start)
    (AllOf-map (IsPlaced page marks) (λ x. nat_lt (page + 0xFF8) x ≡ false) (heads extras page start)
    (λ x placed. le-ltb (page + 0xFF8) x (omega (arith, placed.1.0, placed.1.1))) (counted-placed marks page (heads extras page start) is))

pub leaving-words : (mask : ℕ) (marks extras area : List ℕ) (page start : ℕ) → AreCounted marks page (heads extras page start)
    → page_leaving mask extras area page start ≡ filter (leaves mask area page) (page_reached mask extras area page start)
unfolding page_leaving
leaving-words mask marks extras area page start is =
    ap (λ (l : List ℕ). map (λ (h : ℕ). page) l ++ filter (leaves mask area page) (page_reached mask extras area page start)) (heads-inside marks extras page start is)

-- where no counted word leaves the page, none does
pub leaving-none : (mask : ℕ) (marks area places : List ℕ) (page : ℕ) → AreCounted marks page places
    → ((k : ℕ) → k < 1023 → 0 < get_or marks k 0 → page + k * 4 + delta_of mask (number_at 8 area (page + k * 4)) ≤ page + 0xFF8) → filter (leaves mask area page) places ≡ []
leaving-none mask marks area places page is stays =
    filter-none (leaves mask area page) places
    (AllOf-map (IsPlaced page marks) (λ x. leaves mask area page x ≡ false) places
    (λ x placed. subst (λ (y : ℕ). leaves mask area page y ≡ false) (sym placed.1.1)
    (le-ltb (page + 0xFF8) (page + placed.0 * 4 + delta_of mask (number_at 8 area (page + placed.0 * 4))) (stays placed.0 placed.1.0 placed.1.2)))
    (counted-placed marks page places is))

-- ---- words in order

-- the places of n counters from the k-th on that count something
unfoldable pub marked : List ℕ → ℕ → ℕ → ℕ → List ℕ
marked marks page k zero = []
marked marks page k (suc n) = if nat_lt 0 (get_or marks k 0) then (page + k * 4) ∷ marked marks page (k + 1) n else marked marks page (k + 1) n

pub marked-more : (marks : List ℕ) (page k n : ℕ) → marked marks page k (suc n) ≡ marked marks page k n ++ (if nat_lt 0 (get_or marks (k + n) 0) then (page + (k + n) * 4) ∷ [] else [])
unfolding marked
marked-more marks page k zero =
    let same : k ≡ k + 0 = omega arith in
    ap (λ (j : ℕ). if nat_lt 0 (get_or marks j 0) then (page + j * 4) ∷ [] else []) same
marked-more marks page k (suc n) =
    let same : k + 1 + n ≡ k + suc n = omega arith in
    let later : marked marks page (k + 1) (suc n) ≡ marked marks page (k + 1) n ++ (if nat_lt 0 (get_or marks (k + suc n) 0) then (page + (k + suc n) * 4) ∷ [] else []) =
    marked-more marks page (k + 1) n ∙ ap (λ (j : ℕ). marked marks page (k + 1) n ++ (if nat_lt 0 (get_or marks j 0) then (page + j * 4) ∷ [] else [])) same in
    elim (nat_lt 0 (get_or marks k 0)) as (λ b. (cond b ((page + k * 4) ∷ marked marks page (k + 1) (suc n)) (marked marks page (k + 1) (suc n)))
    ≡ (cond b ((page + k * 4) ∷ marked marks page (k + 1) n) (marked marks page (k + 1) n)) ++ (if nat_lt 0 (get_or marks (k + suc n) 0) then (page + (k + suc n) * 4) ∷ [] else [])) [
      | true ↦ ap (λ (l : List ℕ). (page + k * 4) ∷ l) later
      | false ↦ later
    ]

-- whether a place is reached, by its counter
place-there : (marks places : List ℕ) (page k : ℕ) → length marks ≡ 1023 → AreCounted marks page places → k < 1024 → list_any (nat_eq (page + k * 4)) places ≡ nat_lt 0 (get_or marks k 0)
place-there marks places page k long is within =
    any-weight (nat_eq (page + k * 4)) places
    ∙ elim (cases_lt k 1023) [
      | inl inside ↦ ap (nat_lt 0) (counted-times marks page places k is inside)
      | inr last ↦
          let none : counted (λ j. passing (nat_eq (page + k * 4)) (page + j * 4)) marks 0 1023 ≡ 0 =
          counted-zero (λ j. passing (nat_eq (page + k * 4)) (page + j * 4)) marks 0 1023
          (λ j above below some. passing-false (nat_eq (page + k * 4)) (page + j * 4) (ne_eqb (page + k * 4) (page + j * 4) (λ e. omega (arith, e, below, last)))) in
          ap (nat_lt 0) (sym (is (passing (nat_eq (page + k * 4)))) ∙ (none ∙ sym (get_or_past marks k 0 (omega (arith, long, last)))))
    ]

in_order-marked : (marks places : List ℕ) (page k n at : ℕ) → length marks ≡ 1023 → AreCounted marks page places → k + n ≤ 1024 → at ≡ page + k * 4 → in_order places n at ≡ marked marks page k n
unfolding in_order marked
in_order-marked marks places page k zero at long is within place = refl
in_order-marked marks places page k (suc n) at long is within place =
    let later : in_order places n (at + 4) ≡ marked marks page (k + 1) n = in_order-marked marks places page (k + 1) n (at + 4) long is (omega arith) (omega (arith, place)) in
    let there : list_any (nat_eq at) places ≡ nat_lt 0 (get_or marks k 0) = ap (λ (a : ℕ). list_any (nat_eq a) places) place ∙ place-there marks places page k long is (omega arith) in
    ap₂ (λ (b : Bool) (l : List ℕ). if b then at ∷ l else l) there later ∙ ap (λ (a : ℕ). if nat_lt 0 (get_or marks k 0) then a ∷ marked marks page (k + 1) n else marked marks page (k + 1) n) place

-- the reached words of a page in order are those whose counters aren't 0
pub in_order-page : (marks places : List ℕ) (page : ℕ) → length marks ≡ 1023 → AreCounted marks page places → in_order places 1024 page ≡ marked marks page 0 1023
in_order-page marks places page long is =
    let first : page ≡ page + 0 * 4 = omega arith in
    let none : nat_lt 0 (get_or marks 1023 0) ≡ false = ap (nat_lt 0) (get_or_past marks 1023 0 (omega (arith, long))) ∙ le-ltb 0 0 (omega arith) in
    in_order-marked marks places page 0 1024 page long is (omega arith) first
    ∙ (marked-more marks page 0 1023
    ∙ (ap (λ (b : Bool). marked marks page 0 1023 ++ (if b then (page + 1023 * 4) ∷ [] else [])) none ∙ append-nil (marked marks page 0 1023)))

-- words at places in two lists
pub words_at-append : (mask value_add : ℕ) (area xs ys : List ℕ) → words_at mask value_add area (xs ++ ys) ≡ words_at mask value_add area xs ++ words_at mask value_add area ys
unfolding words_at
words_at-append mask value_add area [] ys = refl
words_at-append mask value_add area (x ∷ xs) ys =
    elim (nat_eq (kept mask (number_at 8 area x)) 0) as (λ b. (cond b (words_at mask value_add area (xs ++ ys)) (record { offset = x; value = unslid mask value_add (number_at 8 area x) } ∷ words_at mask value_add area (xs ++ ys)))
    ≡ (cond b (words_at mask value_add area xs) (record { offset = x; value = unslid mask value_add (number_at 8 area x) } ∷ words_at mask value_add area xs)) ++ words_at mask value_add area ys) [
      | true ↦ words_at-append mask value_add area xs ys
      | false ↦ ap (λ (l : List ChainWord). record { offset = x; value = unslid mask value_add (number_at 8 area x) } ∷ l) (words_at-append mask value_add area xs ys)
    ]

-- ---- words that overlap

abbrev near : ℕ → ℕ → Bool
near a b = nat_le a b && nat_lt b (a + 8)

counted-sum : (f g h : ℕ → ℕ) (m : List ℕ) (k n : ℕ) → ((j : ℕ) → f j ≡ g j + h j) → counted f m k n ≡ counted g m k n + counted h m k n
unfolding counted
counted-sum f g h m k zero is = refl
counted-sum f g h m k (suc n) is =
    let product : get_or m k 0 * f k ≡ get_or m k 0 * g k + get_or m k 0 * h k = ap (λ (x : ℕ). get_or m k 0 * x) (is k) ∙ mul-add (get_or m k 0) (g k) (h k) in
    omega (arith, product, counted-sum f g h m (k + 1) n is)

-- a place or the one four bytes on
two_places : (page k j : ℕ) → passing (near (page + k * 4)) (page + j * 4) ≡ passing (nat_eq k) j + passing (nat_eq (k + 1)) j
two_places page k j =
    elim (cases_eq k j) [
      | inl same ↦
          let yes_near : near (page + k * 4) (page + j * 4) ≡ true = and_from (nat_le (page + k * 4) (page + j * 4)) (nat_lt (page + j * 4) (page + k * 4 + 8)) (le-leb (page + k * 4) (page + j * 4) (omega (arith, same))) (lt-ltb (page + j * 4) (page + k * 4 + 8) (omega (arith, same))) in
          omega (arith, passing-true (near (page + k * 4)) (page + j * 4) yes_near, passing-true (nat_eq k) j (eq-eqb k j same), passing-false (nat_eq (k + 1)) j (ne_eqb (k + 1) j (λ e. omega (arith, e, same))))
      | inr other ↦ elim (cases_eq (k + 1) j) [
        | inl next ↦
            let yes_near : near (page + k * 4) (page + j * 4) ≡ true = and_from (nat_le (page + k * 4) (page + j * 4)) (nat_lt (page + j * 4) (page + k * 4 + 8)) (le-leb (page + k * 4) (page + j * 4) (omega (arith, next))) (lt-ltb (page + j * 4) (page + k * 4 + 8) (omega (arith, next))) in
            omega (arith, passing-true (near (page + k * 4)) (page + j * 4) yes_near, passing-false (nat_eq k) j (ne_eqb k j other), passing-true (nat_eq (k + 1)) j (eq-eqb (k + 1) j next))
        | inr neither ↦
            let not_near : near (page + k * 4) (page + j * 4) ≡ false =
            elim (cases_lt j k) [
              | inl before ↦ and_left (nat_le (page + k * 4) (page + j * 4)) (nat_lt (page + j * 4) (page + k * 4 + 8)) (lt-leb (page + k * 4) (page + j * 4) (omega (arith, before)))
              | inr behind ↦ and_right (nat_le (page + k * 4) (page + j * 4)) (nat_lt (page + j * 4) (page + k * 4 + 8)) (le-ltb (page + j * 4) (page + k * 4 + 8) (omega (arith, behind, other, neither)))
            ] in
            omega (arith, passing-false (near (page + k * 4)) (page + j * 4) not_near, passing-false (nat_eq k) j (ne_eqb k j other), passing-false (nat_eq (k + 1)) j (ne_eqb (k + 1) j neither))
      ]
    ]

counter-is : (marks : List ℕ) (k : ℕ) → length marks ≡ 1023 → k < 1024 → counted (passing (nat_eq k)) marks 0 1023 ≡ get_or marks k 0
counter-is marks k long within =
    elim (cases_lt k 1023) [
      | inl inside ↦ counted-one (passing (nat_eq k)) marks 0 1023 k (omega arith) inside (passing-true (nat_eq k) k (eq-eqb k k refl)) (λ j other. passing-false (nat_eq k) j (ne_eqb k j (λ e. other (sym e))))
      | inr last ↦ counted-zero (passing (nat_eq k)) marks 0 1023 (λ j above below some. passing-false (nat_eq k) j (ne_eqb k j (λ e. omega (arith, e, below, last)))) ∙ sym (get_or_past marks k 0 (omega (arith, long, last)))
    ]

-- how many words begin in the eight bytes from a place on
near-count : (marks places : List ℕ) (page k : ℕ) → length marks ≡ 1023 → AreCounted marks page places → k < 1023 → length (filter (near (page + k * 4)) places) ≡ get_or marks k 0 + get_or marks (k + 1) 0
near-count marks places page k long is within =
    length-filter (near (page + k * 4)) places
    ∙ (sym (is (passing (near (page + k * 4))))
    ∙ (counted-sum (λ j. passing (near (page + k * 4)) (page + j * 4)) (passing (nat_eq k)) (passing (nat_eq (k + 1))) marks 0 1023 (two_places page k)
    ∙ ap₂ (λ (a b : ℕ). a + b) (counter-is marks k long (omega arith)) (counter-is marks (k + 1) long (omega arith))))

-- a counter that shows an overlap
abbrev pub clashes : List ℕ → ℕ → Bool
clashes marks k = nat_lt 0 (get_or marks k 0) && nat_lt 1 (get_or marks k 0 + get_or marks (k + 1) 0)

-- where no counter shows an overlap there is none
pub overlap-none : (marks places : List ℕ) (page : ℕ) → length marks ≡ 1023 → AreCounted marks page places → ((k : ℕ) → k < 1023 → clashes marks k ≡ false) → overlapping places ≡ []
unfolding overlapping
overlap-none marks places page long is apart =
    filter-none (λ a. nat_lt 1 (length (filter (near a) places))) places
    (AllOf-map (IsPlaced page marks) (λ a. nat_lt 1 (length (filter (near a) places)) ≡ false) places
    (λ x placed. subst (λ (y : ℕ). nat_lt 1 (length (filter (near y) places)) ≡ false) (sym placed.1.1)
    (ap (nat_lt 1) (near-count marks places page placed.0 long is placed.1.0)
    ∙ (ap (λ (b : Bool). b && nat_lt 1 (get_or marks placed.0 0 + get_or marks (placed.0 + 1) 0)) (sym (lt-ltb 0 (get_or marks placed.0 0) placed.1.2)) ∙ apart placed.0 placed.1.0)))
    (counted-placed marks page places is))

-- the first counter that shows one tells the least place
pub overlap-some : (marks places : List ℕ) (page k : ℕ) → length marks ≡ 1023 → AreCounted marks page places → k < 1023 → clashes marks k ≡ true → ((j : ℕ) → j < k → clashes marks j ≡ false)
    → lowest (overlapping places) ≡ Some (page + k * 4)
unfolding overlapping
overlap-some marks places page k long is within clash apart =
    let both : (nat_lt 0 (get_or marks k 0) ≡ true) × (nat_lt 1 (get_or marks k 0 + get_or marks (k + 1) 0) ≡ true) = and_parts (nat_lt 0 (get_or marks k 0)) (nat_lt 1 (get_or marks k 0 + get_or marks (k + 1) 0)) clash in
    let there : list_any (nat_eq (page + k * 4)) places ≡ true = place-there marks places page k long is (omega arith) ∙ both.0 in
    lowest-is (page + k * 4) (filter (λ a. nat_lt 1 (length (filter (near a) places))) places)
    (any-filter (nat_eq (page + k * 4)) (λ a. nat_lt 1 (length (filter (near a) places))) (page + k * 4) places
    (ap (nat_lt 1) (near-count marks places page k long is within) ∙ both.1) (λ x e. sym (eqb-true (page + k * 4) x e)) there)
    (all-filter (λ x. page + k * 4 ≤ x) (λ a. nat_lt 1 (length (filter (near a) places))) places
    (AllOf-map (IsPlaced page marks) (λ x. nat_lt 1 (length (filter (near x) places)) ≡ true → page + k * 4 ≤ x) places
    (λ x placed passes. elim (cases_lt placed.0 k) [
      | inl before ↦
          let crowded : nat_lt 1 (get_or marks placed.0 0 + get_or marks (placed.0 + 1) 0) ≡ true =
          ap (nat_lt 1) (sym (near-count marks places page placed.0 long is placed.1.0)) ∙ (ap (λ (y : ℕ). nat_lt 1 (length (filter (near y) places))) (sym placed.1.1) ∙ passes) in
          absurd (false≢true (sym (apart placed.0 before) ∙ and_from (nat_lt 0 (get_or marks placed.0 0)) (nat_lt 1 (get_or marks placed.0 0 + get_or marks (placed.0 + 1) 0)) (lt-ltb 0 (get_or marks placed.0 0) placed.1.2) crowded))
      | inr behind ↦ omega (arith, behind, placed.1.1)
    ])
    (counted-placed marks page places is)))

-- ---- steps of the code

pub some-then : {X : Type 0} (o : Option X) (P Q : X → Type 0) → IfSome o P → ((x : X) → P x → Q x) → IfSome o Q
some-then None P Q holds from = tt
some-then (Some x) P Q holds from = from x holds

pub none-then : {X : Type 0} (o : Option X) (P Q : Type 0) → IfNone o P → (P → Q) → IfNone o Q
none-then None P Q holds from = from holds
none-then (Some x) P Q holds from = tt

pub both-none : {X : Type 0} (o : Option X) (P Q R : Type 0) → IfNone o P → IfNone o Q → (P → Q → R) → IfNone o R
both-none None P Q R p q from = from p q
both-none (Some x) P Q R p q from = tt

-- one word
pub word-there : (mask value_add : ℕ) (area : List ℕ) (at : ℕ) → (kept mask (number_at 8 area at) ≡ 0 → ⊥)
    → words_at mask value_add area (at ∷ []) ≡ record { offset = at; value = (kept mask (number_at 8 area at) + value_add) % 2 ^ 64 } ∷ []
unfolding words_at unslid
word-there mask value_add area at some =
    cond-false (nat_eq (kept mask (number_at 8 area at)) 0) [] (record { offset = at; value = (kept mask (number_at 8 area at) + value_add) % 2 ^ 64 } ∷ []) (ne_eqb (kept mask (number_at 8 area at)) 0 some)

pub word-none : (mask value_add : ℕ) (area : List ℕ) (at : ℕ) → kept mask (number_at 8 area at) ≡ 0 → words_at mask value_add area (at ∷ []) ≡ []
unfolding words_at unslid
word-none mask value_add area at none =
    cond-true (nat_eq (kept mask (number_at 8 area at)) 0) [] (record { offset = at; value = (kept mask (number_at 8 area at) + value_add) % 2 ^ 64 } ∷ []) (eq-eqb (kept mask (number_at 8 area at)) 0 none)

-- what the counters passed have shown, and given
pub record Gathered (mask value_add : ℕ) (area marks : List ℕ) (page : ℕ) (old items : List ChainWord) (k : ℕ) : Type 0 where
  pub apart : (j : ℕ) → j < k → clashes marks j ≡ false
  pub words : items ≡ old ++ words_at mask value_add area (marked marks page 0 k)

words_at-none : (mask value_add : ℕ) (area : List ℕ) → words_at mask value_add area [] ≡ []
unfolding words_at
words_at-none mask value_add area = refl

marked-none : (marks : List ℕ) (page k : ℕ) → marked marks page k 0 ≡ []
unfolding marked
marked-none marks page k = refl

pub gathered-none : (mask value_add : ℕ) (area marks : List ℕ) (page : ℕ) (old : List ChainWord) → Gathered mask value_add area marks page old old 0
gathered-none mask value_add area marks page old = record {
  apart = λ j lt. absurd (omega arith);
  words = sym (ap (λ (l : List ℕ). old ++ words_at mask value_add area l) (marked-none marks page 0) ∙ (ap (λ (l : List ChainWord). old ++ l) (words_at-none mask value_add area) ∙ append-nil old));
}

gathered-apart : (marks : List ℕ) (k : ℕ) → clashes marks k ≡ false → ((j : ℕ) → j < k → clashes marks j ≡ false) → (j : ℕ) → j < k + 1 → clashes marks j ≡ false
gathered-apart marks k here before j lt =
    elim (cases_eq j k) [
      | inl same ↦ ap (clashes marks) same ∙ here
      | inr other ↦ before j (omega (arith, other))
    ]

marked-next : (marks : List ℕ) (page k : ℕ) → marked marks page 0 (k + 1) ≡ marked marks page 0 k ++ (if nat_lt 0 (get_or marks k 0) then (page + k * 4) ∷ [] else [])
marked-next marks page k =
    let one : k + 1 ≡ suc k = omega arith in
    let same : 0 + k ≡ k = omega arith in
    ap (marked marks page 0) one ∙ (marked-more marks page 0 k ∙ ap (λ (j : ℕ). marked marks page 0 k ++ (if nat_lt 0 (get_or marks j 0) then (page + j * 4) ∷ [] else [])) same)

pub gathered-word : (mask value_add : ℕ) (area marks : List ℕ) (page : ℕ) (old items new : List ChainWord) (k : ℕ) → clashes marks k ≡ false → 0 < get_or marks k 0
    → new ≡ items ++ words_at mask value_add area ((page + k * 4) ∷ []) → Gathered mask value_add area marks page old items k → Gathered mask value_add area marks page old new (k + 1)
gathered-word mask value_add area marks page old items new k here some is before =
    let next : marked marks page 0 (k + 1) ≡ marked marks page 0 k ++ ((page + k * 4) ∷ []) =
    marked-next marks page k ∙ ap (λ (l : List ℕ). marked marks page 0 k ++ l) (cond-true (nat_lt 0 (get_or marks k 0)) ((page + k * 4) ∷ []) [] (lt-ltb 0 (get_or marks k 0) some)) in
    record {
      apart = gathered-apart marks k here before.apart;
      words = is ∙ (ap (λ (l : List ChainWord). l ++ words_at mask value_add area ((page + k * 4) ∷ [])) before.words
          ∙ (append_assoc old (words_at mask value_add area (marked marks page 0 k)) (words_at mask value_add area ((page + k * 4) ∷ []))
          ∙ (ap (λ (l : List ChainWord). old ++ l) (sym (words_at-append mask value_add area (marked marks page 0 k) ((page + k * 4) ∷ [])))
          ∙ ap (λ (l : List ℕ). old ++ words_at mask value_add area l) (sym next))));
    }

pub gathered-pass : (mask value_add : ℕ) (area marks : List ℕ) (page : ℕ) (old items : List ChainWord) (k : ℕ) → clashes marks k ≡ false → get_or marks k 0 ≡ 0
    → Gathered mask value_add area marks page old items k → Gathered mask value_add area marks page old items (k + 1)
gathered-pass mask value_add area marks page old items k here none before =
    let next : marked marks page 0 (k + 1) ≡ marked marks page 0 k =
    marked-next marks page k ∙ (ap (λ (l : List ℕ). marked marks page 0 k ++ l) (cond-false (nat_lt 0 (get_or marks k 0)) ((page + k * 4) ∷ []) [] (le-ltb 0 (get_or marks k 0) (omega (arith, none)))) ∙ append-nil (marked marks page 0 k)) in
    record {
      apart = gathered-apart marks k here before.apart;
      words = before.words ∙ ap (λ (l : List ℕ). old ++ words_at mask value_add area l) (sym next);
    }

pub gathered-all : (mask value_add : ℕ) (area marks : List ℕ) (page : ℕ) (old items : List ChainWord) (k : ℕ) (places : List ℕ) → k ≡ 1023 → length marks ≡ 1023 → AreCounted marks page places
    → Gathered mask value_add area marks page old items k → items ≡ old ++ words_at mask value_add area (in_order places 1024 page)
gathered-all mask value_add area marks page old items k places all long is gathered =
    gathered.words ∙ ap (λ (l : List ℕ). old ++ words_at mask value_add area l) (ap (marked marks page 0) all ∙ sym (in_order-page marks places page long is))

-- a chain leaves its page from a place of the page
map-below : (page end : ℕ) (xs : List ℕ) → page ≤ end → AllOf (λ x. x ≤ end) (map (λ h. page) xs)
map-below page end [] le = tt
map-below page end (x ∷ xs) le = (le, map-below page end xs le)

pub leaving-below : (mask : ℕ) (extras area : List ℕ) (page start : ℕ) → AllOf (λ x. x ≤ page + 0xFF8) (page_leaving mask extras area page start)
unfolding page_leaving
leaving-below mask extras area page start =
    AllOf-append (λ x. x ≤ page + 0xFF8) (map (λ h. page) (filter (nat_lt (page + 0xFF8)) (heads extras page start))) (filter (leaves mask area page) (page_reached mask extras area page start))
    (map-below page (page + 0xFF8) (filter (nat_lt (page + 0xFF8)) (heads extras page start)) (omega arith))
    (AllOf-filter (λ x. x ≤ page + 0xFF8) (leaves mask area page) (page_reached mask extras area page start) (reached-below mask extras area page start))

-- what is said of an option that is known
pub some-is : {X : Type 0} (o : Option X) (x : X) (P : X → Type 0) → o ≡ Some x → IfSome o P → P x
some-is {X} o x P is holds = let tells : IfSome (Some x) P = subst (λ (p : Option X). IfSome p P) is holds in tells

pub none-is : {X : Type 0} (o : Option X) (P : Type 0) → o ≡ None → IfNone o P → P
none-is {X} o P is holds = let tells : IfNone {T = X} None P = subst (λ (p : Option X). IfNone p P) is holds in tells
