-- The words that chains reach, and the chain words among them.
use Rattle.std.proofs.Common.{◌≡◌, ◌≤◌, ◌<◌, ℕ, zero, suc, ◌+◌, ◌*◌, ◌/◌, ◌%◌, Bool, true, false, cond, nat_eq, nat_lt, List, [], ◌∷◌, ◌++◌, length, drop, refl, sym, ap, ◌∙◌, subst, arith, inl, inr, if◌then◌else◌}
use Rattle.std.specs.List.{flat_map, list_any}
use Rattle.std.proofs.lemmas.Bool.{cases_eq, cond-true, cond-false}
use Rattle.dsc_base.specs.Numbers.{number_at}
use Rattle.slide_chain.specs.Chains.{Slide, Suits, IsRun, delta_of, kept, unslid, chain, is_marked, extra_heads, heads, page_reached, each_page, reached, in_order, words_at, chain_words}
use Rattle.slide_chain.specs.declared.words.ChainWord.{ChainWord}
use Rattle.slide_chain.proofs.WordLaws.{delta-fours}
use Rattle.load_model.proofs.WordCases.{IsIn, in_first, in_rest, in_none, in_cases}
use Rattle.cache_check.proofs.ReachedLaws.{AllOf, InPages, all-any, reached-in}

-- ---- they stand at multiples of four

abbrev IsFour : ℕ → Type 0
IsFour a = a % 4 ≡ 0

fours-append : (xs ys : List ℕ) → AllOf IsFour xs → AllOf IsFour ys → AllOf IsFour (xs ++ ys)
fours-append [] ys own rest = rest
fours-append (x ∷ xs) ys own rest = (own.0, fours-append xs ys own.1 rest)

chain-fours : (mask : ℕ) (run : IsRun mask) (area : List ℕ) (last n at : ℕ) → at % 4 ≡ 0 → AllOf IsFour (chain mask area last n at)
unfolding chain
chain-fours mask run area last zero at four = tt
chain-fours mask run area last (suc n) at four =
    let next : (at + delta_of mask (number_at 8 area at)) % 4 ≡ 0 = (let d = delta-fours mask run (number_at 8 area at) in omega (arith, four, d)) in
    let later : AllOf IsFour (chain mask area last n (at + delta_of mask (number_at 8 area at))) = chain-fours mask run area last n (at + delta_of mask (number_at 8 area at)) next in
    elim (nat_lt last at) as (λ b. AllOf IsFour (cond b [] (at ∷ (if nat_eq (delta_of mask (number_at 8 area at)) 0 then [] else chain mask area last n (at + delta_of mask (number_at 8 area at)))))) [
      | true ↦ tt
      | false ↦ (four, elim (nat_eq (delta_of mask (number_at 8 area at)) 0) as (λ b. AllOf IsFour (cond b [] (chain mask area last n (at + delta_of mask (number_at 8 area at))))) [ true ↦ tt | false ↦ later ])
    ]

chains-fours : (mask : ℕ) (run : IsRun mask) (area : List ℕ) (last : ℕ) (hs : List ℕ) → AllOf IsFour hs → AllOf IsFour (flat_map (chain mask area last 1024) hs)
chains-fours mask run area last [] fours = tt
chains-fours mask run area last (h ∷ hs) fours =
    fours-append (chain mask area last 1024 h) (flat_map (chain mask area last 1024) hs) (chain-fours mask run area last 1024 h fours.0) (chains-fours mask run area last hs fours.1)

extra_heads-fours : (page : ℕ) (es : List ℕ) → page % 4 ≡ 0 → AllOf IsFour (extra_heads page es)
unfolding extra_heads
extra_heads-fours page [] four = tt
extra_heads-fours page (e ∷ es) four =
    elim (is_marked e) as (λ b. ((page + e % 0x4000 * 4) % 4 ≡ 0) × AllOf IsFour (cond b [] (extra_heads page es))) [
      | true ↦ (omega (arith, four), tt)
      | false ↦ (omega (arith, four), extra_heads-fours page es four)
    ]

heads-fours : (extras : List ℕ) (page start : ℕ) → page % 4 ≡ 0 → AllOf IsFour (heads extras page start)
unfolding heads
heads-fours extras page start four =
    elim (nat_eq start 0x4000) as (λ b. AllOf IsFour (cond b [] (if is_marked start then extra_heads page (drop (start % 0x4000) extras) else (page + start * 4) ∷ []))) [
      | true ↦ tt
      | false ↦ elim (is_marked start) as (λ b. AllOf IsFour (cond b (extra_heads page (drop (start % 0x4000) extras)) ((page + start * 4) ∷ []))) [
        | true ↦ extra_heads-fours page (drop (start % 0x4000) extras) four
        | false ↦ (omega (arith, four), tt)
      ]
    ]

pages-fours : (mask : ℕ) (run : IsRun mask) (extras area : List ℕ) (page : ℕ) (xs : List ℕ) → page % 4 ≡ 0 → AllOf IsFour (each_page (page_reached mask extras area) page xs)
unfolding each_page page_reached
pages-fours mask run extras area page [] four = tt
pages-fours mask run extras area page (x ∷ xs) four =
    fours-append (page_reached mask extras area page x) (each_page (page_reached mask extras area) (page + 4096) xs)
    (chains-fours mask run area (page + 0xFF8) (heads extras page x) (heads-fours extras page x four)) (pages-fours mask run extras area (page + 4096) xs (omega (arith, four)))

reached-fours : (s : Slide) (area : List ℕ) → Suits s area → AllOf IsFour (reached s area)
unfolding reached
reached-fours s area suits = pages-fours s.mask suits.run s.extras area 0 s.starts refl

-- ---- in order

in_ordered : (places : List ℕ) (n at a : ℕ) → a % 4 ≡ 0 → at % 4 ≡ 0 → at ≤ a → a < at + 4 * n → list_any (nat_eq a) places ≡ true → IsIn (in_order places n at) a
unfolding in_order
in_ordered places zero at a four aligned from to there = absurd (omega (arith, from, to))
in_ordered places (suc n) at a four aligned from to there = elim (cases_eq at a) [
  | inl same ↦
      let here : list_any (nat_eq at) places ≡ true = ap (λ (x : ℕ). list_any (nat_eq x) places) same ∙ there in
      subst (λ (l : List ℕ). IsIn l a) (sym (cond-true (list_any (nat_eq at) places) (at ∷ in_order places n (at + 4)) (in_order places n (at + 4)) here))
      (subst (λ (x : ℕ). IsIn (at ∷ in_order places n (at + 4)) x) same (in_first at (in_order places n (at + 4))))
  | inr other ↦
      let differs : at ≡ a → ⊥ = other in
      let next : at + 4 ≤ a = (let strict : at < a = omega (arith, from, differs) in omega (arith, strict, four, aligned)) in
      let later : IsIn (in_order places n (at + 4)) a = in_ordered places n (at + 4) a four (omega (arith, aligned)) next (omega (arith, to)) there in
      elim (list_any (nat_eq at) places) as (λ b. IsIn (cond b (at ∷ in_order places n (at + 4)) (in_order places n (at + 4))) a) [
        | true ↦ in_rest at (in_order places n (at + 4)) a later
        | false ↦ later
      ]
]

of_ordered : (places : List ℕ) (n at a : ℕ) → IsIn (in_order places n at) a → list_any (nat_eq a) places ≡ true
unfolding in_order
of_ordered places zero at a there = absurd (in_none a there)
of_ordered places (suc n) at a there = by (list_any (nat_eq at) places) refl there (of_ordered places n (at + 4) a)
  where
    by : (b : Bool) → list_any (nat_eq at) places ≡ b → IsIn (if b then at ∷ in_order places n (at + 4) else in_order places n (at + 4)) a → (IsIn (in_order places n (at + 4)) a → list_any (nat_eq a) places ≡ true) → list_any (nat_eq a) places ≡ true
    by true is there later = elim (in_cases at (in_order places n (at + 4)) a there) [
      | inl same ↦ ap (λ (x : ℕ). list_any (nat_eq x) places) (sym same) ∙ is
      | inr rest ↦ later rest
    ]
    by false is there later = later there

-- ---- those that have a value

abbrev word_of : ℕ → ℕ → List ℕ → ℕ → ChainWord
word_of mask value_add area a = record { offset = a; value = unslid mask value_add (number_at 8 area a) }

in_words : (mask value_add : ℕ) (area places : List ℕ) (a : ℕ) → IsIn places a → nat_eq (kept mask (number_at 8 area a)) 0 ≡ false → IsIn (words_at mask value_add area places) (word_of mask value_add area a)
unfolding words_at
in_words mask value_add area [] a there some = absurd (in_none a there)
in_words mask value_add area (p ∷ places) a there some = elim (in_cases p places a there) [
  | inl same ↦
      let own : nat_eq (kept mask (number_at 8 area p)) 0 ≡ false = ap (λ (x : ℕ). nat_eq (kept mask (number_at 8 area x)) 0) same ∙ some in
      subst (λ (l : List ChainWord). IsIn l (word_of mask value_add area a)) (sym (cond-false (nat_eq (kept mask (number_at 8 area p)) 0) (words_at mask value_add area places) (word_of mask value_add area p ∷ words_at mask value_add area places) own))
      (subst (λ (x : ℕ). IsIn (word_of mask value_add area p ∷ words_at mask value_add area places) (word_of mask value_add area x)) same (in_first (word_of mask value_add area p) (words_at mask value_add area places)))
  | inr later ↦
      let rest : IsIn (words_at mask value_add area places) (word_of mask value_add area a) = in_words mask value_add area places a later some in
      elim (nat_eq (kept mask (number_at 8 area p)) 0) as (λ b. IsIn (cond b (words_at mask value_add area places) (word_of mask value_add area p ∷ words_at mask value_add area places)) (word_of mask value_add area a)) [
        | true ↦ rest
        | false ↦ in_rest (word_of mask value_add area p) (words_at mask value_add area places) (word_of mask value_add area a) rest
      ]
]

record IsWordAt (mask value_add : ℕ) (area places : List ℕ) (w : ChainWord) : Type 0 where
  there : IsIn places w.offset
  some : nat_eq (kept mask (number_at 8 area w.offset)) 0 ≡ false
  value : w.value ≡ unslid mask value_add (number_at 8 area w.offset)

of_words : (mask value_add : ℕ) (area places : List ℕ) (w : ChainWord) → IsIn (words_at mask value_add area places) w → IsWordAt mask value_add area places w
unfolding words_at
of_words mask value_add area [] w there = absurd (in_none w there)
of_words mask value_add area (p ∷ places) w there = by (nat_eq (kept mask (number_at 8 area p)) 0) refl there (of_words mask value_add area places w)
  where
    further : IsWordAt mask value_add area places w → IsWordAt mask value_add area (p ∷ places) w
    further own = record { there = in_rest p places w.offset own.there; some = own.some; value = own.value }

    by : (b : Bool) → nat_eq (kept mask (number_at 8 area p)) 0 ≡ b → IsIn (if b then words_at mask value_add area places else word_of mask value_add area p ∷ words_at mask value_add area places) w
        → (IsIn (words_at mask value_add area places) w → IsWordAt mask value_add area places w) → IsWordAt mask value_add area (p ∷ places) w
    by true is there later = further (later there)
    by false is there later = elim (in_cases (word_of mask value_add area p) (words_at mask value_add area places) w there) [
      | inl same ↦ subst (λ (v : ChainWord). IsWordAt mask value_add area (p ∷ places) v) same (record { there = in_first p places; some = is; value = refl })
      | inr rest ↦ further (later rest)
    ]

-- ---- all of the data

-- a word that is reached and has a value is a chain word
pub reached_word : (s : Slide) (area : List ℕ) (a : ℕ) → Suits s area → list_any (nat_eq a) (reached s area) ≡ true → nat_eq (kept s.mask (number_at 8 area a)) 0 ≡ false
    → IsIn (chain_words s area) (record { offset = a; value = unslid s.mask s.value_add (number_at 8 area a) })
unfolding chain_words
reached_word s area a suits there some =
    let four : a % 4 ≡ 0 = all-any IsFour a (reached s area) (reached-fours s area suits) there in
    let own : InPages (length area) a = all-any (InPages (length area)) a (reached s area) (reached-in s area suits) there in
    in_words s.mask s.value_add area (in_order (reached s area) (length area / 4) 0) a (in_ordered (reached s area) (length area / 4) 0 a four refl (omega arith) (omega (arith, own.1)) there) some

pub record IsReached (s : Slide) (area : List ℕ) (w : ChainWord) : Type 0 where
  pub there : list_any (nat_eq w.offset) (reached s area) ≡ true
  pub some : nat_eq (kept s.mask (number_at 8 area w.offset)) 0 ≡ false
  pub value : w.value ≡ unslid s.mask s.value_add (number_at 8 area w.offset)

-- and each chain word is such a word
pub word_reached : (s : Slide) (area : List ℕ) (w : ChainWord) → IsIn (chain_words s area) w → IsReached s area w
unfolding chain_words
word_reached s area w there =
    let own : IsWordAt s.mask s.value_add area (in_order (reached s area) (length area / 4) 0) w = of_words s.mask s.value_add area (in_order (reached s area) (length area / 4) 0) w there in
    record { there = of_ordered (reached s area) (length area / 4) 0 w.offset own.there; some = own.some; value = own.value }
