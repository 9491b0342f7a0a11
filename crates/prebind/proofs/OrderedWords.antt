-- Words that are placed one at each address are the words in the order of their addresses.
use Rattle.std.proofs.Common.{◌≡◌, ◌≢◌, ◌≤◌, ◌<◌, ◌⊎◌, ℕ, zero, suc, ◌+◌, true, false, nat_le, nat_eq, if◌then◌else◌, List, [], ◌∷◌, map, length, get_or, refl, sym, ap, ap₂, ◌∙◌, subst, arith, inl, inr}
use Rattle.std.specs.List.{Contains, IsDistinct, AllByRecursion}
use Rattle.std.specs.List.Sorted.{IsPermutation}
use Rattle.std.proofs.lemmas.Bool.{cases_lt, lt-leb, le-leb, cond-true, cond-false}
use Rattle.std.proofs.lemmas.List.Sorted.{IsPermutation-sym, IsPermutation-map, Contains-permutation}
use Rattle.std.proofs.lemmas.Map.Keys.{IsDistinct-IsPermutation}
use Rattle.prebind.specs.declared.resolved.PlacedWord.{PlacedWord}
use Rattle.prebind.specs.Sets.{ImageSet}
use Rattle.prebind.specs.Words.{ArePlaced, put_word, in_word_order, pointers_of, ordered_pointers}

abbrev key : PlacedWord → ℕ
key w = w.at.address

-- ---- members

Among : PlacedWord → List PlacedWord → Type 0
Among w [] = ⊥
Among w (v ∷ vs) = (w ≡ v) ⊎ Among w vs

among_contained : (ws : List PlacedWord) (w : PlacedWord) → Contains ws w → Among w ws
unfolding Among
among_contained [] w (k, lt, is) = absurd (omega arith)
among_contained (v ∷ vs) w (zero, lt, is) = inl (sym is)
among_contained (v ∷ vs) w (suc k, lt, is) = inr (among_contained vs w (k, omega (arith, lt), is))

contained_among : (ws : List PlacedWord) (w : PlacedWord) → Among w ws → Contains ws w
unfolding Among
contained_among [] w never = absurd never
contained_among (v ∷ vs) w (inl is) = (0, omega arith, sym is)
contained_among (v ∷ vs) w (inr later) = let rest = contained_among vs w later in (suc rest.0, omega (arith, rest.1), rest.2)

-- ---- words that rise

RisesFrom : ℕ → List PlacedWord → Type 0
RisesFrom floor [] = Unit {0}
RisesFrom floor (w ∷ ws) = (floor ≤ key w) × RisesFrom (key w + 1) ws

rises_from : (floor : ℕ) (ws : List PlacedWord) → ((d : PlacedWord) → 0 < length ws → floor ≤ key (get_or ws 0 d)) → ((i : ℕ) (d : PlacedWord) → i + 1 < length ws → key (get_or ws i d) < key (get_or ws (i + 1) d)) → RisesFrom floor ws
unfolding RisesFrom
rises_from floor [] first next = tt
rises_from floor (w ∷ ws) first next = (
  first w (omega arith),
  rises_from (key w + 1) ws (λ d some. let here : key w < key (get_or ws 0 d) = next 0 d (omega (arith, some)) in omega (arith, here))
      (λ i d lt.
      let at : suc i + 1 ≡ suc (i + 1) = omega arith in
      subst (λ (n : ℕ). key (get_or (w ∷ ws) (suc i) d) < key (get_or (w ∷ ws) n d)) at (next (suc i) d (omega (arith, lt)))),
)

high : (floor : ℕ) (ws : List PlacedWord) (w : PlacedWord) → RisesFrom floor ws → Among w ws → floor ≤ key w
unfolding RisesFrom Among
high floor [] w rises never = absurd never
high floor (v ∷ vs) w rises (inl is) = let same : key w ≡ key v = ap key is in omega (arith, rises.0, same)
high floor (v ∷ vs) w rises (inr later) = omega (arith, rises.0, high (key v + 1) vs w rises.1 later)

-- two that rise and have the same members are one
same_members : (floor : ℕ) (vs ws : List PlacedWord) → RisesFrom floor vs → RisesFrom floor ws → ((w : PlacedWord) → Among w vs → Among w ws) → ((w : PlacedWord) → Among w ws → Among w vs) → vs ≡ ws
unfolding RisesFrom Among
same_members floor [] [] up up' to from = refl
same_members floor [] (w ∷ ws) up up' to from = absurd (from w (inl refl))
same_members floor (v ∷ vs) [] up up' to from = absurd (to v (inl refl))
same_members floor (v ∷ vs) (w ∷ ws) up up' to from =
    let first : v ≡ w = elim (to v (inl refl)) [
      | inl is ↦ is
      | inr later ↦ elim (from w (inl refl)) [
        | inl is ↦ sym is
        | inr after ↦ absurd (omega (arith, high (key w + 1) ws v up'.1 later, high (key v + 1) vs w up.1 after))
      ]
    ] in
    let same : key v ≡ key w = ap key first in
    let other : RisesFrom (key v + 1) ws = subst (λ (n : ℕ). RisesFrom (n + 1) ws) (sym same) up'.1 in
    ap₂ (λ (x : PlacedWord) (xs : List PlacedWord). x ∷ xs) first
    (same_members (key v + 1) vs ws up.1 other
    (λ x among. elim (to x (inr among)) [
      | inl is ↦ absurd (let at : key x ≡ key w = ap key is in omega (arith, high (key v + 1) vs x up.1 among, at, same))
      | inr later ↦ later
    ])
    (λ x among. elim (from x (inr among)) [
      | inl is ↦ absurd (let at : key x ≡ key v = ap key is in omega (arith, high (key v + 1) ws x other among, at))
      | inr later ↦ later
    ]))

-- ---- the order

abbrev AreDistinct : List PlacedWord → Type 0
AreDistinct ws = IsDistinct nat_eq (map key ws)

all_differ : (n floor : ℕ) (ws : List PlacedWord) → n < floor → RisesFrom floor ws → AllByRecursion (λ (y : ℕ). nat_eq n y ≡ false) (map key ws)
unfolding RisesFrom
all_differ n floor [] lt up = tt
all_differ n floor (w ∷ ws) lt up = (differ n (key w) (omega (arith, lt, up.0)), all_differ n (key w + 1) ws (omega (arith, lt, up.0)) up.1)
  where
    differ : (a b : ℕ) → a < b → nat_eq a b ≡ false
    differ a b lt = grind arith

distinct_rising : (floor : ℕ) (ws : List PlacedWord) → RisesFrom floor ws → AreDistinct ws
unfolding RisesFrom IsDistinct
distinct_rising floor [] up = tt
distinct_rising floor (w ∷ ws) up = (all_differ (key w) (key w + 1) ws (omega arith) up.1, distinct_rising (key w + 1) ws up.1)

among_put : (w v : PlacedWord) (ws : List PlacedWord) → Among v (put_word w ws) → (v ≡ w) ⊎ Among v ws
unfolding Among
among_put w v [] (inl is) = inl is
among_put w v [] (inr never) = absurd never
among_put w v (u ∷ us) among =
    elim (nat_le w.at.address u.at.address) as (λ b. Among v (if b then w ∷ (u ∷ us) else u ∷ put_word w us) → (v ≡ w) ⊎ Among v (u ∷ us)) [
      | true ↦ λ here. here
      | false ↦ λ there. elim there [
        | inl is ↦ inr (inl is)
        | inr later ↦ elim (among_put w v us later) [
          | inl is ↦ inl is
          | inr rest ↦ inr (inr rest)
        ]
      ]
    ] among

put_among : (w v : PlacedWord) (ws : List PlacedWord) → (v ≡ w) ⊎ Among v ws → Among v (put_word w ws)
unfolding Among
put_among w v [] among = among
put_among w v (u ∷ us) among =
    elim (nat_le w.at.address u.at.address) as (λ b. Among v (if b then w ∷ (u ∷ us) else u ∷ put_word w us)) [
      | true ↦ among
      | false ↦ elim among [
        | inl is ↦ inr (put_among w v us (inl is))
        | inr there ↦ elim there [
          | inl is ↦ inl is
          | inr later ↦ inr (put_among w v us (inr later))
        ]
      ]
    ]

among_order : (ws : List PlacedWord) (v : PlacedWord) → Among v (in_word_order ws) → Among v ws
unfolding Among
among_order [] v never = never
among_order (w ∷ ws) v among = elim (among_put w v (in_word_order ws) among) [
  | inl is ↦ inl is
  | inr later ↦ inr (among_order ws v later)
]

order_among : (ws : List PlacedWord) (v : PlacedWord) → Among v ws → Among v (in_word_order ws)
unfolding Among
order_among [] v never = never
order_among (w ∷ ws) v (inl is) = put_among w v (in_word_order ws) (inl is)
order_among (w ∷ ws) v (inr later) = put_among w v (in_word_order ws) (inr (order_among ws v later))

put_rises : (floor : ℕ) (w : PlacedWord) (ws : List PlacedWord) → floor ≤ key w → RisesFrom floor ws → ((v : PlacedWord) → Among v ws → key w ≢ key v) → RisesFrom floor (put_word w ws)
unfolding RisesFrom Among
put_rises floor w [] low up other = (low, tt)
put_rises floor w (v ∷ vs) low up other = elim (cases_lt (key v) (key w)) [
  | inl above ↦
      subst (λ (l : List PlacedWord). RisesFrom floor l) (sym (cond-false (nat_le (key w) (key v)) (w ∷ (v ∷ vs)) (v ∷ put_word w vs) (lt-leb (key w) (key v) above)))
      (up.0, put_rises (key v + 1) w vs (omega (arith, above)) up.1 (λ u among. other u (inr among)))
  | inr from ↦
      let apart : key w ≢ key v = other v (inl refl) in
      subst (λ (l : List PlacedWord). RisesFrom floor l) (sym (cond-true (nat_le (key w) (key v)) (w ∷ (v ∷ vs)) (v ∷ put_word w vs) (le-leb (key w) (key v) from)))
      (low, (omega (arith, from, apart), up.1))
]

differs : (n : ℕ) (ws : List PlacedWord) (v : PlacedWord) → AllByRecursion (λ (y : ℕ). nat_eq n y ≡ false) (map key ws) → Among v ws → n ≢ key v
unfolding Among
differs n [] v all never = absurd never
differs n (w ∷ ws) v all (inl is) = λ same. absurd (let at : key v ≡ key w = ap key is in let not_same = all.0 in wrong n (key w) not_same (same ∙ at))
  where
    wrong : (a b : ℕ) → nat_eq a b ≡ false → a ≡ b → ⊥
    wrong a b differ is = absurd (grind arith)
differs n (w ∷ ws) v all (inr later) = differs n ws v all.1 later

order_rises : (ws : List PlacedWord) → AreDistinct ws → RisesFrom 0 (in_word_order ws)
unfolding RisesFrom IsDistinct
order_rises [] distinct = tt
order_rises (w ∷ ws) distinct =
    put_rises 0 w (in_word_order ws) (omega arith) (order_rises ws distinct.1) (λ v among. differs (key w) ws v distinct.0 (among_order ws v among))

eq_flips : (x y : ℕ) → nat_eq x y ≡ nat_eq y x
eq_flips x y = grind arith

pub placed_is : (all words : List PlacedWord) → ArePlaced all words → words ≡ in_word_order all
placed_is all words placed =
    let up : RisesFrom 0 words = rises_from 0 words (λ d some. omega arith) (λ i d lt. placed.rises i d lt) in
    let back : IsPermutation words all = IsPermutation-sym all words placed.moved in
    let distinct : AreDistinct all = IsDistinct-IsPermutation nat_eq eq_flips (map key words) (map key all) (IsPermutation-map key words all back) (distinct_rising 0 words up) in
    same_members 0 words (in_word_order all) up (order_rises all distinct)
    (λ w among. order_among all w (among_contained all w (Contains-permutation words all w back (contained_among words w among))))
    (λ w among. among_contained words w (Contains-permutation all words w placed.moved (contained_among all w (among_order all w among))))

pub placed_pointers : (set : ImageSet) (k : ℕ) (words : List PlacedWord) → ArePlaced (pointers_of set k) words → words ≡ ordered_pointers set k
unfolding ordered_pointers
placed_pointers set k words placed = placed_is (pointers_of set k) words placed
