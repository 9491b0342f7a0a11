-- What a set's streams say of the words of an image: no two of its bound words share a byte, and a rebase that isn't bound shares none with one that is.
use Rattle.std.proofs.Common.{◌≡◌, ◌≤◌, ◌<◌, ◌⊎◌, ℕ, suc, ◌+◌, ◌^◌, Bool, true, false, not, ◌&&◌, ◌||◌, nat_eq, Option, Some, List, [], ◌∷◌, ◌++◌, map, length, get_or, refl, sym, ap, ◌∙◌, subst, arith, inl, inr, Contains}
use Rattle.std.specs.Prelude.{slice_get, option_map}
use Rattle.std.specs.List.{AllPairs}
use Rattle.std.proofs.lemmas.Bool.{cases_Bool, cases_lt, false≢true}
use Rattle.std.proofs.lemmas.Bool.Decides.{nat_tests}
use Rattle.std.proofs.lemmas.Option.{slice_get-map, slice_get_within, get_or_from_slice_get}
use Rattle.macho_image.specs.Records.{Img}
use Rattle.macho_image.specs.declared.place.Location.{Location}
use Rattle.macho_image.specs.Order.{is_near, addresses_of}
use Rattle.macho_image.specs.Places.{IsWord}
use Rattle.rebase_ops.specs.Rebases.{AreRebases}
use Rattle.rebase_ops.proofs.RebaseLaws.{accepted_rebases}
use Rattle.bind_ops.specs.Records.{BoundWord}
use Rattle.bind_ops.specs.Binds.{binds_of, places_of as bind_places}
use Rattle.bind_ops.specs.Clash.{is_skew}
use Rattle.bind_ops.specs.declared.kind.StreamKind.TheVariants.{Bind, Lazy}
use Rattle.bind_ops.proofs.BindLaws.{accepted_binds}
use Rattle.bind_ops.proofs.ClashLaws.{never_near, never_skew}
use Rattle.slide_chain.specs.Making.{AllBelow}
use Rattle.prebind.specs.Sets.{StreamLists, ImageSet, AreStreamsOf}
use Rattle.prebind.specs.Words.{placed_bind, is_bound}
use Rattle.load_model.proofs.BoundLaws.{places_of, AreAwayFrom, AreSpread}
use Rattle.load_model.proofs.LoadingLaws.{IsLow, AreApart, low_at}
use Rattle.load_model.proofs.RebasedLaws.{IsFree}
use Rattle.load_model.proofs.WordCases.{IsIn, in_first, in_rest, in_none, in_cases, in_either, all_in}

-- ---- words of 8 bytes

pub far : (a b : ℕ) → is_near a b ≡ false → (a + 8 ≤ b) ⊎ (b + 8 ≤ a)
far a b none = elim (cases_lt a (b + 8)) [
  | inl low ↦ elim (cases_lt b (a + 8)) [
    | inl high ↦ absurd (false≢true (sym none ∙ (let both : is_near a b ≡ true = grind (arith, nat_tests) in both)))
    | inr above ↦ inl above
  ]
  | inr above ↦ inr above
]

-- no two binds share a byte
abbrev pub AreFar : List BoundWord → Type 0
AreFar [] = Unit {0}
AreFar (b ∷ bs) = ((c : BoundWord) → IsIn bs c → is_near b.at.address c.at.address ≡ false) × AreFar bs

far_pairs : (bs : List BoundWord) → AllPairs (λ (b c : BoundWord). is_near b.at.address c.at.address ≡ false) bs → AreFar bs
far_pairs [] apart = tt
far_pairs (b ∷ bs) apart = (
  λ c there.
      let at : get_or bs there.number c ≡ c = get_or_from_slice_get bs there.number c c there.found in
      let within : there.number < length bs = slice_get_within bs there.number c there.found in
      subst (λ (d : BoundWord). is_near b.at.address d.at.address ≡ false) at (apart 0 (suc there.number) c (omega arith) (omega (arith, within))),
  far_pairs bs (λ i j d lt inside. apart (suc i) (suc j) d (omega (arith, lt)) (omega (arith, inside))),
)

far_both : (bs cs : List BoundWord) → AreFar bs → AreFar cs → ((b c : BoundWord) → IsIn bs b → IsIn cs c → is_near b.at.address c.at.address ≡ false) → AreFar (bs ++ cs)
far_both [] cs first second across = second
far_both (b ∷ bs) cs first second across = (
  λ c there. elim (in_either bs cs c there) [
    | inl left ↦ first.0 c left
    | inr right ↦ across b c (in_first b bs) right
  ],
  far_both bs cs first.1 second (λ d c in_d in_c. across d c (in_rest b bs d in_d) in_c),
)

away_from : (set : ImageSet) (k a : ℕ) (bs : List BoundWord) → ((c : BoundWord) → IsIn bs c → is_near a c.at.address ≡ false) → AreAwayFrom a (places_of (map (placed_bind set k) bs))
away_from set k a [] apart = tt
away_from set k a (b ∷ bs) apart = (far a b.at.address (apart b (in_first b bs)), away_from set k a bs (λ c there. apart c (in_rest b bs c there)))

spread : (set : ImageSet) (k : ℕ) (bs : List BoundWord) → AreFar bs → AreSpread (places_of (map (placed_bind set k) bs))
spread set k [] apart = tt
spread set k (b ∷ bs) apart = (away_from set k b.at.address bs apart.0, spread set k bs apart.1)

all_low : (set : ImageSet) (k : ℕ) (bs : List BoundWord) → ((b : BoundWord) → IsIn bs b → b.at.address < 2 ^ 47) → AllBelow (2 ^ 47) (places_of (map (placed_bind set k) bs))
all_low set k [] low = tt
all_low set k (b ∷ bs) low = (low b (in_first b bs), all_low set k bs (λ c there. low c (in_rest b bs c there)))

-- ---- addresses in no word

pub free_of_binds : (set : ImageSet) (k y : ℕ) (bs : List BoundWord) → ((b : BoundWord) → IsIn bs b → (y < b.at.address) ⊎ (b.at.address + 8 ≤ y)) → IsFree y (places_of (map (placed_bind set k) bs))
free_of_binds set k y [] apart = tt
free_of_binds set k y (b ∷ bs) apart = (apart b (in_first b bs), free_of_binds set k y bs (λ c there. apart c (in_rest b bs c there)))

pub free_of_rebases : (y : ℕ) (ls : List Location) → ((l : Location) → IsIn ls l → (y < l.address) ⊎ (l.address + 8 ≤ y)) → IsFree y (addresses_of ls)
free_of_rebases y [] apart = tt
free_of_rebases y (l ∷ ls) apart = (apart l (in_first l ls), free_of_rebases y ls (λ m there. apart m (in_rest l ls m there)))

-- ---- the streams of an image

address_there : (bs : List BoundWord) (b : BoundWord) → IsIn bs b → Contains (addresses_of (bind_places bs)) b.at.address
address_there bs b there =
    let places : List ℕ = addresses_of (bind_places bs) in
    let found : slice_get (addresses_of (bind_places bs)) there.number ≡ Some b.at.address =
    slice_get-map (λ (l : Location). l.address) (bind_places bs) there.number
    ∙ ap (λ (o : Option Location). option_map (λ (l : Location). l.address) o)
    (slice_get-map (λ (c : BoundWord). c.at) bs there.number ∙ ap (λ (o : Option BoundWord). option_map (λ (c : BoundWord). c.at) o) there.found) in
    (there.number, slice_get_within places there.number b.at.address found, get_or_from_slice_get places there.number b.at.address b.at.address found)

rebase_there : (ls : List Location) (l : Location) → IsIn ls l → Contains (addresses_of ls) l.address
rebase_there ls l there =
    let found : slice_get (addresses_of ls) there.number ≡ Some l.address =
    slice_get-map (λ (m : Location). m.address) ls there.number ∙ ap (λ (o : Option Location). option_map (λ (m : Location). m.address) o) there.found in
    (there.number, slice_get_within (addresses_of ls) there.number l.address found, get_or_from_slice_get (addresses_of ls) there.number l.address l.address found)

addresses-append : (bs cs : List BoundWord) → addresses_of (bind_places (bs ++ cs)) ≡ addresses_of (bind_places bs) ++ addresses_of (bind_places cs)
addresses-append [] cs = refl
addresses-append (b ∷ bs) cs = ap (λ (l : List ℕ). b.at.address ∷ l) (addresses-append bs cs)

abbrev first_of : Img → List BoundWord
first_of i = binds_of Bind i.streams.bind i

abbrev last_of : Img → List BoundWord
last_of i = binds_of Lazy i.streams.lazy i

pub binds_far : (i : Img) (s : StreamLists) → AreStreamsOf i s → AreFar s.binds
binds_far i s sound =
    subst AreFar (sym sound.binds)
    (far_both (first_of i) (last_of i) (far_pairs (first_of i) (accepted_binds Bind i i.streams.bind sound.binds_accepted).apart) (far_pairs (last_of i) (accepted_binds Lazy i i.streams.lazy sound.lazy_accepted).apart)
    (λ b c in_b in_c. never_near (addresses_of s.rebases) (addresses_of (bind_places (first_of i))) (addresses_of (bind_places (last_of i))) sound.apart b.at.address c.at.address (address_there (first_of i) b in_b) (address_there (last_of i) c in_c)))

pub binds_spread : (set : ImageSet) (k : ℕ) (i : Img) (s : StreamLists) → AreStreamsOf i s → AreSpread (places_of (map (placed_bind set k) s.binds))
binds_spread set k i s sound = spread set k s.binds (binds_far i s sound)

-- each bound word is a word of the image
pub bound_is_word : (i : Img) (s : StreamLists) (b : BoundWord) → AreStreamsOf i s → IsIn s.binds b → IsWord i b.at
bound_is_word i s b sound there =
    elim (in_either (first_of i) (last_of i) b (subst (λ (bs : List BoundWord). IsIn bs b) sound.binds there)) [
      | inl first ↦ all_in (λ (c : BoundWord). IsWord i c.at) (first_of i) b (accepted_binds Bind i i.streams.bind sound.binds_accepted).all first
      | inr last ↦ all_in (λ (c : BoundWord). IsWord i c.at) (last_of i) b (accepted_binds Lazy i i.streams.lazy sound.lazy_accepted).all last
    ]

pub rebases_read : (i : Img) (s : StreamLists) → AreStreamsOf i s → AreRebases i s.rebases
rebases_read i s sound = subst (AreRebases i) (sym sound.rebases) (accepted_rebases i i.streams.rebase sound.rebases_accepted)

pub rebase_is_word : (i : Img) (s : StreamLists) (l : Location) → AreStreamsOf i s → IsIn s.rebases l → IsWord i l
rebase_is_word i s l sound there = all_in (IsWord i) s.rebases l (rebases_read i s sound).all there

pub word_low : (i : Img) (l : Location) → AreApart i.segments → IsWord i l → l.address + 8 ≤ 2 ^ 47
word_low i l apart word =
    let low : IsLow word.segment = low_at l.segment word.segment i.segments apart word.segment_is in
    let end : word.segment.vmaddr + word.segment.vmsize ≤ 0x800000000000 = low.low in
    omega (arith, word.to, end)

pub binds_low : (set : ImageSet) (k : ℕ) (i : Img) (s : StreamLists) → AreStreamsOf i s → AreApart i.segments → AllBelow (2 ^ 47) (places_of (map (placed_bind set k) s.binds))
binds_low set k i s sound apart = all_low set k s.binds (λ b there. let low = word_low i b.at apart (bound_is_word i s b sound there) in omega (arith, low))

-- ---- a rebase that isn't bound

not_at : (a : ℕ) (bs : List BoundWord) (b : BoundWord) → is_bound bs a ≡ false → IsIn bs b → b.at.address ≡ a → ⊥
not_at a [] b free there is = in_none b there
not_at a (c ∷ cs) b free there is = elim (cases_Bool (nat_eq c.at.address a)) [
  | inl here ↦ absurd (false≢true (sym free ∙ ap (λ (t : Bool). t || is_bound cs a) here))
  | inr other ↦ elim (in_cases c cs b there) [
    | inl same ↦
        let at : c.at.address ≡ a = ap (λ (d : BoundWord). d.at.address) same ∙ is in
        let here : nat_eq c.at.address a ≡ true = grind (arith, nat_tests) in
        absurd (false≢true (sym other ∙ here))
    | inr later ↦ not_at a cs b (sym (ap (λ (t : Bool). t || is_bound cs a) other) ∙ free) later is
  ]
]

pub free_far : (i : Img) (s : StreamLists) (l : Location) (b : BoundWord) → AreStreamsOf i s → IsIn s.rebases l → is_bound s.binds l.address ≡ false → IsIn s.binds b → (l.address + 8 ≤ b.at.address) ⊎ (b.at.address + 8 ≤ l.address)
free_far i s l b sound in_l free in_b =
    let all : Contains (addresses_of (bind_places (first_of i)) ++ addresses_of (bind_places (last_of i))) b.at.address =
    subst (λ (places : List ℕ). Contains places b.at.address) (addresses-append (first_of i) (last_of i))
    (address_there (first_of i ++ last_of i) b (subst (λ (bs : List BoundWord). IsIn bs b) sound.binds in_b)) in
    let skew : is_skew l.address b.at.address ≡ false =
    never_skew (addresses_of s.rebases) (addresses_of (bind_places (first_of i))) (addresses_of (bind_places (last_of i))) sound.apart l.address b.at.address (rebase_there s.rebases l in_l) all in
    elim (cases_Bool (nat_eq l.address b.at.address)) [
      | inl same ↦ absurd (not_at l.address s.binds b free in_b (let e : b.at.address ≡ l.address = grind (arith, nat_tests, same) in e))
      | inr other ↦ far l.address b.at.address (not_both (is_near l.address b.at.address) (nat_eq l.address b.at.address) skew other)
    ]
  where
    not_both : (a b : Bool) → a && not b ≡ false → b ≡ false → a ≡ false
    not_both true true skew other = absurd (cc)
    not_both true false skew other = absurd (cc)
    not_both false b skew other = refl
