-- The pointers of an image of a sound set are 8 bytes or more from each other.
use Rattle.std.proofs.Common.{◌≡◌, ◌≤◌, ◌<◌, ◌⊎◌, ℕ, zero, suc, ◌+◌, ◌-◌, Bool, true, false, not, ◌&&◌, nat_eq, Some, List, [], ◌++◌, length, map, filter, get_or, refl, sym, ap, ◌∙◌, subst, arith, inl, inr}
use Rattle.std.specs.Prelude.{slice_get, pos}
use Rattle.std.specs.List.{All, AllPairs, Contains}
use Rattle.std.proofs.lemmas.Bool.{cases_Bool, cases_lt, eqb-true}
use Rattle.std.proofs.lemmas.Bool.Decides.{nat_tests}
use Rattle.std.proofs.lemmas.List.{get_or-map, length-map}
use Rattle.std.proofs.lemmas.List.Elements.{All-append, All-map, All-filter, All-same, Contains-append_left, Contains-append_right}
use Rattle.std.proofs.lemmas.List.Sorted.{All-permutation}
use Rattle.macho_image.specs.Records.{Seg, Img}
use Rattle.macho_image.specs.Order.{is_near, addresses_of}
use Rattle.macho_image.specs.declared.place.Location.{Location}
use Rattle.macho_image.specs.Segments.{segments_in}
use Rattle.rebase_ops.specs.Rebases.{AreRebases}
use Rattle.rebase_ops.proofs.RebaseLaws.{accepted_rebases}
use Rattle.bind_ops.specs.Records.{BoundWord}
use Rattle.bind_ops.specs.Binds.{binds_of, places_of}
use Rattle.bind_ops.specs.Clash.{is_skew}
use Rattle.bind_ops.specs.declared.kind.StreamKind.TheVariants.{Bind, Lazy}
use Rattle.bind_ops.proofs.BindLaws.{accepted_binds}
use Rattle.bind_ops.proofs.ClashLaws.{never_skew, never_near}
use Rattle.prebind.specs.declared.resolved.PlacedWord.{PlacedWord}
use Rattle.prebind.specs.Sets.{StreamLists, ImageSet, AreStreamsOf}
use Rattle.prebind.specs.Targets.{pointer_at}
use Rattle.prebind.specs.Words.{placed_bind, is_bound, is_free, rebased_word, streams_in, pointers_of, ArePlaced}

-- the same address, or words that share no byte
abbrev Far : ℕ → ℕ → Type 0
Far x y = (x ≡ y) ⊎ ((x + 8 ≤ y) ⊎ (y + 8 ≤ x))

flip : (x y : ℕ) → Far x y → Far y x
flip x y (inl same) = inl (sym same)
flip x y (inr (inl low)) = inr (inr low)
flip x y (inr (inr high)) = inr (inl high)

near_yes : (x y : ℕ) → x < y + 8 → y < x + 8 → is_near x y ≡ true
near_yes x y low high = grind (arith, nat_tests)

differ : (b : Bool) → b ≡ true → b ≡ false → ⊥
differ true yes' no' = let e : true ≡ false = no' in cc
differ false yes' no' = let e : false ≡ true = yes' in cc

far_near : (x y : ℕ) → is_near x y ≡ false → Far x y
far_near x y none = elim (cases_lt x (y + 8)) [
  | inr high ↦ inr (inr high)
  | inl low ↦ elim (cases_lt y (x + 8)) [
    | inr low' ↦ inr (inl low')
    | inl high ↦ absurd (differ (is_near x y) (near_yes x y low high) none)
  ]
]

far_skew : (x y : ℕ) → is_skew x y ≡ false → Far x y
far_skew x y none = elim (cases_Bool (nat_eq x y)) [
  | inl same ↦ inl (eqb-true x y same)
  | inr other ↦ far_near x y (not_both (is_near x y) (nat_eq x y) none other)
]
  where
    not_both : (a b : Bool) → (a && not b) ≡ false → b ≡ false → a ≡ false
    not_both true true none other = absurd (differ true refl other)
    not_both true false none other = none
    not_both false b none other = refl

-- ---- within one stream

no_place : Location
no_place = record { segment = 0; section = 0; address = 0 }

rises_far : (ls : List Location) → ((k : ℕ) (d : Location) → k + 1 < length ls → (get_or ls k d).address + 8 ≤ (get_or ls (k + 1) d).address)
    → (i n : ℕ) (d : Location) → i + suc n < length ls → (get_or ls i d).address + 8 ≤ (get_or ls (i + suc n) d).address
rises_far ls apart i zero d lt = subst (λ (m : ℕ). (get_or ls i d).address + 8 ≤ (get_or ls m d).address) (omega arith) (apart i d (omega arith))
rises_far ls apart i (suc n) d lt =
    let first = rises_far ls apart i n d (omega arith) in
    let next : i + suc n + 1 ≡ i + suc (suc n) = omega arith in
    let last : (get_or ls (i + suc n) d).address + 8 ≤ (get_or ls (i + suc (suc n)) d).address = subst (λ (m : ℕ). (get_or ls (i + suc n) d).address + 8 ≤ (get_or ls m d).address) next (apart (i + suc n) d (omega arith)) in
    omega (arith, first, last)

rebases_far : (image : Img) (ls : List Location) → AreRebases image ls → (x y : ℕ) → Contains (addresses_of ls) x → Contains (addresses_of ls) y → Far x y
rebases_far image ls read x y (i, lt, is) (j, lt', is') =
    let long : length (addresses_of ls) ≡ length ls = length-map ls (λ (l : Location). l.address) in
    let inside : i < length ls = omega (arith, lt, long) in
    let inside' : j < length ls = omega (arith, lt', long) in
    let at : (get_or ls i no_place).address ≡ x = sym (get_or-map (λ (l : Location). l.address) ls i no_place x inside) ∙ is in
    let at' : (get_or ls j no_place).address ≡ y = sym (get_or-map (λ (l : Location). l.address) ls j no_place y inside') ∙ is' in
    elim (cases_lt i j) [
      | inl less ↦
          let far = rises_far ls read.apart i (j - suc i) no_place (omega (arith, less, inside')) in
          let there : i + suc (j - suc i) ≡ j = omega (arith, less) in
          let moved : (get_or ls i no_place).address + 8 ≤ (get_or ls j no_place).address = subst (λ (m : ℕ). (get_or ls i no_place).address + 8 ≤ (get_or ls m no_place).address) there far in
          inr (inl (omega (arith, moved, at, at')))
      | inr from ↦ elim (cases_lt j i) [
        | inl more ↦
            let far = rises_far ls read.apart j (i - suc j) no_place (omega (arith, more, inside)) in
            let there : j + suc (i - suc j) ≡ i = omega (arith, more) in
            let moved : (get_or ls j no_place).address + 8 ≤ (get_or ls i no_place).address = subst (λ (m : ℕ). (get_or ls j no_place).address + 8 ≤ (get_or ls m no_place).address) there far in
            inr (inr (omega (arith, moved, at, at')))
        | inr to ↦ inl (sym at ∙ (ap (λ (m : ℕ). (get_or ls m no_place).address) (let e : i ≡ j = omega (arith, from, to) in e) ∙ at'))
      ]
    ]

address_at : (bs : List BoundWord) (i x : ℕ) (d : BoundWord) → i < length (addresses_of (places_of bs)) → get_or (addresses_of (places_of bs)) i x ≡ x → (i < length bs) × ((get_or bs i d).at.address ≡ x)
address_at bs i x d lt is =
    let one : length (places_of bs) ≡ length bs = length-map bs (λ (b : BoundWord). b.at) in
    let two : length (addresses_of (places_of bs)) ≡ length (places_of bs) = length-map (places_of bs) (λ (l : Location). l.address) in
    let inside : i < length bs = omega (arith, lt, one, two) in (
      inside,
      sym (get_or-map (λ (l : Location). l.address) (places_of bs) i d.at x (omega (arith, inside, one)) ∙ ap (λ (l : Location). l.address) (get_or-map (λ (b : BoundWord). b.at) bs i d d.at inside)) ∙ is,
    )

binds_far : (bs : List BoundWord) → AllPairs (λ (a b : BoundWord). is_near a.at.address b.at.address ≡ false) bs → (d : BoundWord) (x y : ℕ) → Contains (addresses_of (places_of bs)) x → Contains (addresses_of (places_of bs)) y → Far x y
binds_far bs apart d x y (i, lt, is) (j, lt', is') =
    let one = address_at bs i x d lt is in
    let two = address_at bs j y d lt' is' in
    elim (cases_lt i j) [
      | inl less ↦ subst (λ (n : ℕ). Far n y) one.1 (subst (λ (n : ℕ). Far (get_or bs i d).at.address n) two.1 (far_near (get_or bs i d).at.address (get_or bs j d).at.address (apart i j d less two.0)))
      | inr from ↦ elim (cases_lt j i) [
        | inl more ↦
            flip y x (subst (λ (n : ℕ). Far n x) two.1 (subst (λ (n : ℕ). Far (get_or bs j d).at.address n) one.1 (far_near (get_or bs j d).at.address (get_or bs i d).at.address (apart j i d more one.0))))
        | inr to ↦ inl (sym one.1 ∙ (ap (λ (m : ℕ). (get_or bs m d).at.address) (let e : i ≡ j = omega (arith, from, to) in e) ∙ two.1))
      ]
    ]

-- ---- of all streams of an image

abbrev first_binds : Img → List BoundWord
first_binds image = binds_of Bind image.streams.bind image

abbrev last_binds : Img → List BoundWord
last_binds image = binds_of Lazy image.streams.lazy image

abbrev Has : Img → StreamLists → ℕ → Type 0
Has image s a = Contains (addresses_of s.rebases) a ⊎ (Contains (addresses_of (places_of (first_binds image))) a ⊎ Contains (addresses_of (places_of (last_binds image))) a)

no_bind : BoundWord
no_bind = record { at = no_place; ordinal = 0; name = []; weak = false; addend = pos 0 }

all_far : (image : Img) (s : StreamLists) → AreStreamsOf image s → (x y : ℕ) → Has image s x → Has image s y → Far x y
all_far image s sound x y one two = by one two
  where
    first : List ℕ
    first = addresses_of (places_of (first_binds image))

    last : List ℕ
    last = addresses_of (places_of (last_binds image))

    read : AreRebases image s.rebases
    read = subst (λ (ls : List Location). AreRebases image ls) (sym sound.rebases) (accepted_rebases image image.streams.rebase sound.rebases_accepted)

    skew : (a b : ℕ) → Contains (addresses_of s.rebases) a → Contains (first ++ last) b → Far a b
    skew a b rebase bind = far_skew a b (never_skew (addresses_of s.rebases) first last sound.apart a b rebase bind)

    near : (a b : ℕ) → Contains first a → Contains last b → Far a b
    near a b bind lazy = far_near a b (never_near (addresses_of s.rebases) first last sound.apart a b bind lazy)

    by : Has image s x → Has image s y → Far x y
    by (inl a) (inl b) = rebases_far image s.rebases read x y a b
    by (inl a) (inr (inl b)) = skew x y a (Contains-append_left first last y b)
    by (inl a) (inr (inr b)) = skew x y a (Contains-append_right first last y b)
    by (inr (inl a)) (inl b) = flip y x (skew y x b (Contains-append_left first last x a))
    by (inr (inr a)) (inl b) = flip y x (skew y x b (Contains-append_right first last x a))
    by (inr (inl a)) (inr (inl b)) = binds_far (first_binds image) (accepted_binds Bind image image.streams.bind sound.binds_accepted).apart no_bind x y a b
    by (inr (inr a)) (inr (inr b)) = binds_far (last_binds image) (accepted_binds Lazy image image.streams.lazy sound.lazy_accepted).apart no_bind x y a b
    by (inr (inl a)) (inr (inr b)) = near x y a b
    by (inr (inr a)) (inr (inl b)) = flip y x (near y x b a)

-- each pointer stands where one of them does
location_own : (ls : List Location) → All (λ (l : Location). Contains (addresses_of ls) l.address) ls
location_own ls i d lt =
    let l : Location = get_or ls i d in
    (i, omega (arith, lt, length-map ls (λ (m : Location). m.address)), get_or-map (λ (m : Location). m.address) ls i d l.address lt)

bind_own : (bs : List BoundWord) → All (λ (b : BoundWord). Contains (addresses_of (places_of bs)) b.at.address) bs
bind_own bs i d lt =
    let b : BoundWord = get_or bs i d in
    let one : length (places_of bs) ≡ length bs = length-map bs (λ (c : BoundWord). c.at) in
    let two : length (addresses_of (places_of bs)) ≡ length (places_of bs) = length-map (places_of bs) (λ (l : Location). l.address) in (
      i,
      omega (arith, lt, one, two),
      get_or-map (λ (l : Location). l.address) (places_of bs) i d.at b.at.address (omega (arith, lt, one)) ∙ ap (λ (l : Location). l.address) (get_or-map (λ (c : BoundWord). c.at) bs i d d.at lt),
    )

pointers_have : (set : ImageSet) (k : ℕ) (image : Img) (s : StreamLists) → AreStreamsOf image s → slice_get set.streams k ≡ Some s → All (λ (w : PlacedWord). Has image s w.at.address) (pointers_of set k)
unfolding pointers_of
pointers_have set k image s sound streams =
    let P : PlacedWord → Type 0 = λ w. Has image s w.at.address in
    let ss : List Seg = segments_in (slice_get set.images k) in
    let t : StreamLists = streams_in (slice_get set.streams k) in
    let same : t ≡ s = ap streams_in streams in
    let free : List Location = filter (is_free (is_bound t.binds)) t.rebases in
    let front : List BoundWord = first_binds image in
    let back : List BoundWord = last_binds image in
    let binds : t.binds ≡ front ++ back = ap (λ (u : StreamLists). u.binds) same ∙ sound.binds in
    let rebases : t.rebases ≡ s.rebases = ap (λ (u : StreamLists). u.rebases) same in
    All-append P (map (placed_bind set k) t.binds) (map (rebased_word k ss (pointer_at t.references)) free)
    (All-map P (placed_bind set k) t.binds
    (All-same (λ (b : BoundWord). Has image s b.at.address) t.binds (front ++ back) binds
    (All-append (λ (b : BoundWord). Has image s b.at.address) front back (λ i d lt. inr (inl (bind_own front i d lt))) (λ i d lt. inr (inr (bind_own back i d lt))))))
    (All-map P (rebased_word k ss (pointer_at t.references)) free
    (All-filter (is_free (is_bound t.binds)) (λ (l : Location). Has image s l.address) t.rebases
    (All-same (λ (l : Location). Has image s l.address) t.rebases s.rebases rebases (λ i d lt. inl (location_own s.rebases i d lt)))))

-- so neighbours in the order of their addresses are 8 bytes from each other
pub words_spaced : (set : ImageSet) (k : ℕ) (image : Img) (s : StreamLists) (words : List PlacedWord) → AreStreamsOf image s → slice_get set.streams k ≡ Some s → ArePlaced (pointers_of set k) words
    → (i : ℕ) (d : PlacedWord) → i + 1 < length words → (get_or words i d).at.address + 8 ≤ (get_or words (i + 1) d).at.address
words_spaced set k image s words sound streams placed i d lt =
    let P : PlacedWord → Type 0 = λ w. Has image s w.at.address in
    let all : All P words = All-permutation P (pointers_of set k) words placed.moved (pointers_have set k image s sound streams) in
    let up = placed.rises i d lt in
    spaced (get_or words i d).at.address (get_or words (i + 1) d).at.address up (all_far image s sound (get_or words i d).at.address (get_or words (i + 1) d).at.address (all i d (omega arith)) (all (i + 1) d lt))
  where
    spaced : (x y : ℕ) → x < y → Far x y → x + 8 ≤ y
    spaced x y up (inl same) = absurd (omega (arith, up, same))
    spaced x y up (inr (inl low)) = low
    spaced x y up (inr (inr high)) = absurd (omega (arith, up, high))
