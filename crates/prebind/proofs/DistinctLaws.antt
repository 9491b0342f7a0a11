-- No two words of an image have one address.
use Rattle.std.proofs.Common.{◌≡◌, ◌<◌, ◌≤◌, ◌+◌, ℕ, zero, suc, Bool, true, false, not, nat_eq, List, [], ◌∷◌, ◌++◌, length, map, filter, get_or, refl, sym, ap, subst, ◌∙◌, arith, if◌then◌else◌, inl, inr, Option, Contains, ◌||◌}
use Rattle.std.specs.List.{sum_by, AllPairs}
use Rattle.std.specs.List.Sorted.{IsPermutation, IsNonDecreasingBy}
use Rattle.std.proofs.lemmas.Bool.{false≢true, cond-true, cond-false, cases_Bool, cases_lt}
use Rattle.std.proofs.lemmas.Bool.Decides.{nat_tests}
use Rattle.std.proofs.lemmas.List.Sums.{sum_by-cons, sum_by-append}
use Rattle.std.proofs.lemmas.List.Sorted.{sum_by-IsPermutation}
use Rattle.macho_image.specs.Records.{Seg, Img}
use Rattle.macho_image.specs.declared.place.Location.{Location}
use Rattle.macho_image.specs.Order.{is_near, addresses_of}
use Rattle.rebase_ops.specs.Rebases.{rebases_of}
use Rattle.rebase_ops.proofs.RebaseLaws.{accepted_rebases}
use Rattle.bind_ops.specs.Records.{BoundWord}
use Rattle.bind_ops.specs.Binds.{binds_of, places_of}
use Rattle.bind_ops.specs.declared.kind.StreamKind.TheVariants.{Bind, Lazy}
use Rattle.bind_ops.proofs.BindLaws.{accepted_binds}
use Rattle.bind_ops.proofs.ClashLaws.{never_near}
use Rattle.prebind.specs.declared.resolved.PlacedWord.{PlacedWord}
use Rattle.prebind.specs.Sets.{StreamLists, ImageSet, AreStreamsOf}
use Rattle.prebind.specs.Words.{is_bound, placed_bind, rebased_word, is_free, rebased_words, all_pointers}
use Rattle.prebind.specs.Targets.{pointer_at}

abbrev once : ℕ → ℕ → ℕ
once a x = if nat_eq x a then 1 else 0

once_here : (a x : ℕ) → x ≡ a → once a x ≡ 1
once_here a x is = let t : nat_eq x a ≡ true = grind (arith, nat_tests) in ap (λ (b : Bool). if b then 1 else 0) t

once_not : (a x : ℕ) → (x ≡ a → ⊥) → once a x ≡ 0
once_not a x other = let t : nat_eq x a ≡ false = grind (arith, nat_tests) in ap (λ (b : Bool). if b then 1 else 0) t

-- how many words, binds and locations have an address
abbrev word_at : ℕ → PlacedWord → ℕ
word_at a w = once a w.at.address

abbrev bind_times : ℕ → List BoundWord → ℕ
bind_times a [] = 0
bind_times a (b ∷ bs) = once a b.at.address + bind_times a bs

abbrev loc_times : ℕ → List Location → ℕ
loc_times a [] = 0
loc_times a (l ∷ ls) = once a l.address + loc_times a ls

near_self : (a : ℕ) → is_near a a ≡ true
near_self a = grind (arith, nat_tests)

no_bind : (a : ℕ) (bs : List BoundWord) → ((j : ℕ) (d : BoundWord) → j < length bs → is_near a (get_or bs j d).at.address ≡ false) → bind_times a bs ≡ 0
no_bind a [] far = refl
no_bind a (b ∷ bs) far =
    let here : once a b.at.address ≡ 0 = once_not a b.at.address (λ same. false≢true (sym (far 0 b (omega arith)) ∙ (ap (λ (x : ℕ). is_near a x) same ∙ near_self a))) in
    let rest = no_bind a bs (λ j d lt. far (suc j) d (omega arith)) in
    omega (arith, here, rest)

one_bind : (a : ℕ) (bs : List BoundWord) → AllPairs (λ (b c : BoundWord). is_near b.at.address c.at.address ≡ false) bs → bind_times a bs ≤ 1
one_bind a [] apart = omega arith
one_bind a (b ∷ bs) apart = elim (cases_Bool (nat_eq b.at.address a)) [
  | inl same ↦
      let is : b.at.address ≡ a = grind (arith, nat_tests, same) in
      let here = once_here a b.at.address is in
      let rest = no_bind a bs (λ j d lt. ap (λ (x : ℕ). is_near x (get_or bs j d).at.address) (sym is) ∙ apart 0 (suc j) d (omega arith) (omega arith)) in
      omega (arith, here, rest)
  | inr other ↦
      let here : once a b.at.address ≡ 0 = ap (λ (t : Bool). if t then 1 else 0) other in
      let rest = one_bind a bs (λ i j d lt inside. apart (suc i) (suc j) d (omega arith) (omega arith)) in
      omega (arith, here, rest)
]

bind_times-append : (a : ℕ) (xs ys : List BoundWord) → bind_times a (xs ++ ys) ≡ bind_times a xs + bind_times a ys
bind_times-append a [] ys = omega arith
bind_times-append a (x ∷ xs) ys = let rest = bind_times-append a xs ys in omega (arith, rest)

some_bind : (a : ℕ) (bs : List BoundWord) → 0 < bind_times a bs → Contains (addresses_of (places_of bs)) a
some_bind a [] some = absurd (omega arith)
some_bind a (b ∷ bs) some = elim (cases_Bool (nat_eq b.at.address a)) [
  | inl same ↦ let is : b.at.address ≡ a = grind (arith, nat_tests, same) in (0, omega arith, is)
  | inr other ↦
      let here : once a b.at.address ≡ 0 = ap (λ (t : Bool). if t then 1 else 0) other in
      let rest = some_bind a bs (omega (arith, some, here)) in
      (suc rest.0, omega (arith, rest.1), rest.2)
]

-- the binds of both streams
binds_once : (a : ℕ) (rebases : List ℕ) (xs ys : List BoundWord) → AllPairs (λ (b c : BoundWord). is_near b.at.address c.at.address ≡ false) xs → AllPairs (λ (b c : BoundWord). is_near b.at.address c.at.address ≡ false) ys
    → ((x y : ℕ) → Contains (addresses_of (places_of xs)) x → Contains (addresses_of (places_of ys)) y → is_near x y ≡ false) → bind_times a (xs ++ ys) ≤ 1
binds_once a rebases xs ys first second across =
    let parts = bind_times-append a xs ys in
    let one = one_bind a xs first in
    let other = one_bind a ys second in
    elim (cases_lt 0 (bind_times a xs)) [
      | inl in_x ↦ elim (cases_lt 0 (bind_times a ys)) [
        | inl in_y ↦ absurd (false≢true (sym (across a a (some_bind a xs in_x) (some_bind a ys in_y)) ∙ near_self a))
        | inr none ↦ omega (arith, parts, one, none)
      ]
      | inr none ↦ omega (arith, parts, other, none)
    ]

unbound_none : (a : ℕ) (bs : List BoundWord) → is_bound bs a ≡ false → bind_times a bs ≡ 0
unbound_none a [] none = refl
unbound_none a (b ∷ bs) none = elim (cases_Bool (nat_eq b.at.address a)) [
  | inl same ↦ absurd (false≢true (sym none ∙ ap (λ (t : Bool). t || is_bound bs a) same))
  | inr other ↦
      let here : once a b.at.address ≡ 0 = ap (λ (t : Bool). if t then 1 else 0) other in
      let rest = unbound_none a bs (sym (ap (λ (t : Bool). t || is_bound bs a) other) ∙ none) in
      omega (arith, here, rest)
]

-- rebases are at least 8 apart
abbrev AreSpaced : List Location → Type 0
AreSpaced ls = (k : ℕ) (d : Location) → k + 1 < length ls → (get_or ls k d).address + 8 ≤ (get_or ls (k + 1) d).address

next_spaced : (l m : Location) (ls : List Location) → AreSpaced (l ∷ (m ∷ ls)) → l.address + 8 ≤ m.address
next_spaced l m ls spaced = spaced 0 l (omega arith)

rest_spaced : (l : Location) (ls : List Location) → AreSpaced (l ∷ ls) → AreSpaced ls
rest_spaced l ls spaced k d lt =
    let next : suc k + 1 ≡ suc (k + 1) = omega arith in
    subst (λ (n : ℕ). (get_or ls k d).address + 8 ≤ (get_or (l ∷ ls) n d).address) next (spaced (suc k) d (omega arith))

none_above : (a : ℕ) (l : Location) (ls : List Location) → AreSpaced (l ∷ ls) → a ≤ l.address → loc_times a ls ≡ 0
none_above a l [] spaced le = refl
none_above a l (m ∷ ls) spaced le =
    let up = next_spaced l m ls spaced in
    let here = once_not a m.address (λ same. omega (arith, up, le, same)) in
    let rest = none_above a m ls (rest_spaced l (m ∷ ls) spaced) (omega (arith, up, le)) in
    omega (arith, here, rest)

one_rebase : (a : ℕ) (ls : List Location) → AreSpaced ls → loc_times a ls ≤ 1
one_rebase a [] spaced = omega arith
one_rebase a (l ∷ ls) spaced = elim (cases_Bool (nat_eq l.address a)) [
  | inl same ↦
      let is : l.address ≡ a = grind (arith, nat_tests, same) in
      let here = once_here a l.address is in
      let rest = none_above a l ls spaced (omega (arith, is)) in
      omega (arith, here, rest)
  | inr other ↦
      let here : once a l.address ≡ 0 = ap (λ (t : Bool). if t then 1 else 0) other in
      let rest = one_rebase a ls (rest_spaced l ls spaced) in
      omega (arith, here, rest)
]

-- placed words are where their binds and rebases are
sum_binds : (set : ImageSet) (k a : ℕ) (bs : List BoundWord) → sum_by (word_at a) (map (placed_bind set k) bs) ≡ bind_times a bs
sum_binds set k a [] = refl
sum_binds set k a (b ∷ bs) =
    let all = sum_by-cons (word_at a) (placed_bind set k b) (map (placed_bind set k) bs) in
    let rest = sum_binds set k a bs in
    omega (arith, all, rest)

sum_free : (k a : ℕ) (ss : List Seg) (bound : ℕ → Bool) (pointer : ℕ → Option ℕ) (ls : List Location) → (bound a ≡ true → sum_by (word_at a) (rebased_words k ss bound pointer ls) ≡ 0) × (sum_by (word_at a) (rebased_words k ss bound pointer ls) ≤ loc_times a ls)
sum_free k a ss bound pointer [] = ((λ is. refl), omega arith)
sum_free k a ss bound pointer (l ∷ ls) =
    let rest = sum_free k a ss bound pointer ls in
    let f = λ (ms : List Location). sum_by (word_at a) (map (rebased_word k ss pointer) ms) in
    elim (cases_Bool (bound l.address)) [
      | inl is ↦
          let skipped : f (filter (is_free bound) (l ∷ ls)) ≡ f (filter (is_free bound) ls) = ap f (cond-false (is_free bound l) (l ∷ filter (is_free bound) ls) (filter (is_free bound) ls) (ap not is)) in
          ((λ there. skipped ∙ rest.0 there), omega (arith, skipped, rest.1))
      | inr free ↦
          let kept : f (filter (is_free bound) (l ∷ ls)) ≡ f (l ∷ filter (is_free bound) ls) = ap f (cond-true (is_free bound l) (l ∷ filter (is_free bound) ls) (filter (is_free bound) ls) (ap not free)) in
          let all = sum_by-cons (word_at a) (rebased_word k ss pointer l) (map (rebased_word k ss pointer) (filter (is_free bound) ls)) in (
            (λ there.
                let apart = once_not a l.address (λ same. false≢true (sym free ∙ (ap bound same ∙ there))) in
                let none = rest.0 there in
                omega (arith, kept, all, apart, none)),
            omega (arith, kept, all, rest.1),
          )
    ]

words_once : (set : ImageSet) (k a : ℕ) (image : Img) (ss : List Seg) (s : StreamLists) → AreStreamsOf image s → sum_by (word_at a) (all_pointers set k ss s) ≤ 1
words_once set k a image ss s sound =
    let first = binds_of Bind image.streams.bind image in
    let last = binds_of Lazy image.streams.lazy image in
    let parts = sum_by-append (word_at a) (map (placed_bind set k) s.binds) (rebased_words k ss (is_bound s.binds) (λ x. pointer_at s.references x) s.rebases) in
    let bound = sum_binds set k a s.binds in
    let free = sum_free k a ss (is_bound s.binds) (λ x. pointer_at s.references x) s.rebases in
    let binds : bind_times a s.binds ≤ 1 = subst (λ (bs : List BoundWord). bind_times a bs ≤ 1) (sym sound.binds)
    (binds_once a (addresses_of s.rebases) first last (accepted_binds Bind image image.streams.bind sound.binds_accepted).apart (accepted_binds Lazy image image.streams.lazy sound.lazy_accepted).apart
    (λ x y in_x in_y. never_near (addresses_of s.rebases) (addresses_of (places_of first)) (addresses_of (places_of last)) sound.apart x y in_x in_y)) in
    let rebases : loc_times a s.rebases ≤ 1 = subst (λ (ls : List Location). loc_times a ls ≤ 1) (sym sound.rebases) (one_rebase a (rebases_of image.streams.rebase image) (accepted_rebases image image.streams.rebase sound.rebases_accepted).apart) in
    elim (cases_Bool (is_bound s.binds a)) [
      | inl is ↦ let none = free.0 is in omega (arith, parts, bound, binds, none)
      | inr is_not ↦ let none = unbound_none a s.binds is_not in omega (arith, parts, bound, none, free.1, rebases)
    ]

-- words in order that are one at each address rise
one_at : (a : ℕ) (ws : List PlacedWord) (k : ℕ) (d : PlacedWord) → k < length ws → (get_or ws k d).at.address ≡ a → 1 ≤ sum_by (word_at a) ws
one_at a [] k d lt is = absurd (omega arith)
one_at a (w ∷ ws) zero d lt is = let all = sum_by-cons (word_at a) w ws in let here = once_here a w.at.address is in omega (arith, all, here)
one_at a (w ∷ ws) (suc k) d lt is = let all = sum_by-cons (word_at a) w ws in let rest = one_at a ws k d (omega arith) is in omega (arith, all, rest)

two_at : (a : ℕ) (ws : List PlacedWord) (k : ℕ) (d : PlacedWord) → suc k < length ws → (get_or ws k d).at.address ≡ a → (get_or ws (suc k) d).at.address ≡ a → 2 ≤ sum_by (word_at a) ws
two_at a [] k d lt is next = absurd (omega arith)
two_at a (w ∷ ws) zero d lt is next = let all = sum_by-cons (word_at a) w ws in let here = once_here a w.at.address is in let rest = one_at a ws 0 d (omega arith) next in omega (arith, all, here, rest)
two_at a (w ∷ ws) (suc k) d lt is next = let all = sum_by-cons (word_at a) w ws in let rest = two_at a ws k d (omega arith) is next in omega (arith, all, rest)

pub words_rise : (set : ImageSet) (k : ℕ) (image : Img) (ss : List Seg) (s : StreamLists) (words : List PlacedWord) → AreStreamsOf image s → IsPermutation (all_pointers set k ss s) words → IsNonDecreasingBy (λ (w : PlacedWord). w.at.address) words
    → (i : ℕ) (d : PlacedWord) → i + 1 < length words → (get_or words i d).at.address < (get_or words (i + 1) d).at.address
words_rise set k image ss s words sound moved up i d lt =
    let a = (get_or words i d).at.address in
    let next : i + 1 ≡ suc i = omega arith in
    elim (cases_lt a (get_or words (i + 1) d).at.address) [
      | inl less ↦ less
      | inr ge ↦
          let le = up i (i + 1) d (omega arith) lt in
          let same : (get_or words (suc i) d).at.address ≡ a = ap (λ (n : ℕ). (get_or words n d).at.address) (sym next) ∙ (let e : (get_or words (i + 1) d).at.address ≡ a = omega arith in e) in
          let two = two_at a words i d (omega arith) refl same in
          let one = words_once set k a image ss s sound in
          absurd (omega (arith, two, one, sum_by-IsPermutation (word_at a) (all_pointers set k ss s) words moved))
    ]
