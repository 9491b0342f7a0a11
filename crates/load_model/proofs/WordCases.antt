-- The words of an image of a set, one by one: those that are bound, the rebases that aren't, and the references that are no pointers.
use Rattle.std.proofs.Common.{◌≡◌, ◌⊎◌, ℕ, zero, suc, Bool, true, false, not, Option, Some, List, [], ◌∷◌, ◌++◌, map, refl, sym, ap, ap₂, ◌∙◌, subst, inl, inr}
use Rattle.std.specs.Prelude.{filter, slice_get}
use Rattle.std.specs.List.{All}
use Rattle.std.proofs.lemmas.Bool.{cond-true, cond-false, cases_Bool, not-true}
use Rattle.std.proofs.lemmas.Option.{same_Some, slice_get_within, get_or_from_slice_get}
use Rattle.macho_image.specs.Records.{Img}
use Rattle.macho_image.specs.declared.section.Section.{Section}
use Rattle.macho_image.specs.declared.place.Location.{Location}
use Rattle.macho_image.specs.Segments.{segments_in}
use Rattle.bind_ops.specs.Records.{BoundWord}
use Rattle.split_info.specs.declared.reference.Reference.{Reference}
use Rattle.split_info.specs.Overlap.{is_pointer}
use Rattle.prebind.specs.declared.resolved.PlacedWord.{PlacedWord}
use Rattle.prebind.specs.Sets.{StreamLists, ImageSet}
use Rattle.prebind.specs.Targets.{pointer_at}
use Rattle.prebind.specs.Words.{Word, placed_bind, is_bound, is_free, streams_in, rebased_word, rebased_words, all_pointers, pointers_of, pointer_word, reference_word, is_no_pointer, sections_in, words_of}
use Rattle.load_model.specs.Corresponds.{Covers, InWord, IsWordOf}

-- ---- lists

-- something stands in a list
pub record IsIn {X : Type 0} (xs : List X) (x : X) : Type 0 where
  pub number : ℕ
  pub found : slice_get xs number ≡ Some x

pub in_first : {X : Type 0} (x : X) (xs : List X) → IsIn (x ∷ xs) x
in_first x xs = record { number = 0; found = refl }

pub in_rest : {X : Type 0} (y : X) (xs : List X) (x : X) → IsIn xs x → IsIn (y ∷ xs) x
in_rest y xs x there = record { number = suc there.number; found = there.found }

-- it is the first one or one of the rest
pub in_cases : {X : Type 0} (y : X) (xs : List X) (x : X) → IsIn (y ∷ xs) x → (y ≡ x) ⊎ IsIn xs x
in_cases {X = X} y xs x there = at there.number there.found
  where
    at : (n : ℕ) → slice_get (y ∷ xs) n ≡ Some x → (y ≡ x) ⊎ IsIn xs x
    at zero found = inl (same_Some y x found)
    at (suc n) found = inr (record { number = n; found = found })

pub in_none : {X : Type 0} (x : X) → IsIn [] x → ⊥
in_none {X = X} x there = at there.number there.found
  where
    at : (n : ℕ) → slice_get {X = X} [] n ≡ Some x → ⊥
    at n found = cc

pub all_in : {X : Type 0} (P : X → Type 0) (xs : List X) (x : X) → All P xs → IsIn xs x → P x
all_in P xs x all there =
    subst P (get_or_from_slice_get xs there.number x x there.found) (all there.number x (slice_get_within xs there.number x there.found))

pub in_left : {X : Type 0} (xs ys : List X) (x : X) → IsIn xs x → IsIn (xs ++ ys) x
in_left [] ys x there = absurd (in_none x there)
in_left (z ∷ zs) ys x there = elim (in_cases z zs x there) [
  | inl is ↦ subst (λ y. IsIn (z ∷ (zs ++ ys)) y) is (in_first z (zs ++ ys))
  | inr later ↦ in_rest z (zs ++ ys) x (in_left zs ys x later)
]

pub in_right : {X : Type 0} (xs ys : List X) (x : X) → IsIn ys x → IsIn (xs ++ ys) x
in_right [] ys x there = there
in_right (z ∷ zs) ys x there = in_rest z (zs ++ ys) x (in_right zs ys x there)

pub in_either : {X : Type 0} (xs ys : List X) (x : X) → IsIn (xs ++ ys) x → IsIn xs x ⊎ IsIn ys x
in_either [] ys x there = inr there
in_either (z ∷ zs) ys x there = elim (in_cases z (zs ++ ys) x there) [
  | inl is ↦ inl (subst (λ y. IsIn (z ∷ zs) y) is (in_first z zs))
  | inr later ↦ elim (in_either zs ys x later) [ inl left ↦ inl (in_rest z zs x left) | inr right ↦ inr right ]
]

pub in_map : {X Y : Type 0} (f : X → Y) (xs : List X) (x : X) → IsIn xs x → IsIn (map f xs) (f x)
in_map f [] x there = absurd (in_none x there)
in_map f (z ∷ zs) x there = elim (in_cases z zs x there) [
  | inl is ↦ subst (λ y. IsIn (f z ∷ map f zs) (f y)) is (in_first (f z) (map f zs))
  | inr later ↦ in_rest (f z) (map f zs) (f x) (in_map f zs x later)
]

-- what stands in a mapped list
pub record IsOf {X Y : Type 0} (f : X → Y) (xs : List X) (y : Y) : Type 0 where
  pub from : X
  pub there : IsIn xs from
  pub is : y ≡ f from

pub of_map : {X Y : Type 0} (f : X → Y) (xs : List X) (y : Y) → IsIn (map f xs) y → IsOf f xs y
of_map f [] y there = absurd (in_none y there)
of_map f (z ∷ zs) y there = elim (in_cases (f z) (map f zs) y there) [
  | inl is ↦ record { from = z; there = in_first z zs; is = sym is }
  | inr later ↦ let rest : IsOf f zs y = of_map f zs y later in record { from = rest.from; there = in_rest z zs rest.from rest.there; is = rest.is }
]

pub in_filter : {X : Type 0} (p : X → Bool) (xs : List X) (x : X) → IsIn xs x → p x ≡ true → IsIn (filter p xs) x
in_filter p [] x there passes = absurd (in_none x there)
in_filter {X = X} p (z ∷ zs) x there passes = elim (in_cases z zs x there) [
  | inl is ↦
      subst (λ (l : List X). IsIn l x) (sym (cond-true (p z) (z ∷ filter p zs) (filter p zs) (ap p is ∙ passes)))
      (subst (λ y. IsIn (z ∷ filter p zs) y) is (in_first z (filter p zs)))
  | inr later ↦
      let rest : IsIn (filter p zs) x = in_filter p zs x later passes in
      elim (cases_Bool (p z)) [
        | inl kept ↦ subst (λ (l : List X). IsIn l x) (sym (cond-true (p z) (z ∷ filter p zs) (filter p zs) kept)) (in_rest z (filter p zs) x rest)
        | inr gone ↦ subst (λ (l : List X). IsIn l x) (sym (cond-false (p z) (z ∷ filter p zs) (filter p zs) gone)) rest
      ]
]

pub of_filter : {X : Type 0} (p : X → Bool) (xs : List X) (x : X) → IsIn (filter p xs) x → IsIn xs x × (p x ≡ true)
of_filter p [] x there = absurd (in_none x there)
of_filter {X = X} p (z ∷ zs) x there = elim (cases_Bool (p z)) [
  | inl kept ↦
      elim (in_cases z (filter p zs) x (subst (λ (l : List X). IsIn l x) (cond-true (p z) (z ∷ filter p zs) (filter p zs) kept) there)) [
        | inl is ↦ (subst (λ y. IsIn (z ∷ zs) y) is (in_first z zs), subst (λ y. p y ≡ true) is kept)
        | inr later ↦ let rest = of_filter p zs x later in (in_rest z zs x rest.0, rest.1)
      ]
  | inr gone ↦
      let rest = of_filter p zs x (subst (λ (l : List X). IsIn l x) (cond-false (p z) (z ∷ filter p zs) (filter p zs) gone) there) in
      (in_rest z zs x rest.0, rest.1)
]

-- ---- words

-- an image of a set, and what its streams spell
pub record IsImageOf (set : ImageSet) (k : ℕ) (i : Img) (s : StreamLists) : Type 0 where
  pub image_is : slice_get set.images k ≡ Some i
  pub streams_are : slice_get set.streams k ≡ Some s

abbrev pub bind_word : ImageSet → ℕ → BoundWord → Word
bind_word set k b = pointer_word (placed_bind set k b)

abbrev pub free_word : ℕ → Img → StreamLists → Location → Word
free_word k i s l = pointer_word (rebased_word k i.segments (pointer_at s.references) l)

abbrev pub other_word : ℕ → Img → Reference → Word
other_word k i r = reference_word k i.sections i.segments r

abbrev words_in : ImageSet → ℕ → Option Img → Option StreamLists → List Word
words_in set k i s =
    map pointer_word (all_pointers set k (segments_in i) (streams_in s)) ++ map (reference_word k (sections_in i) (segments_in i)) (filter is_no_pointer (streams_in s).references)

pub words_are : (set : ImageSet) (k : ℕ) (i : Img) (s : StreamLists) → IsImageOf set k i s → words_of set k ≡ words_in set k (Some i) (Some s)
unfolding words_of pointers_of
words_are set k i s of = ap₂ (words_in set k) of.image_is of.streams_are

pub word_in : (ws : List Word) (w : Word) → IsWordOf ws w → IsIn ws w
word_in [] w is = absurd is
word_in (v ∷ vs) w (inl is) = subst (λ (u : Word). IsIn (v ∷ vs) u) (sym is) (in_first v vs)
word_in (v ∷ vs) w (inr later) = in_rest v vs w (word_in vs w later)

-- what a word of an image is
pub record IsBound (set : ImageSet) (k : ℕ) (s : StreamLists) (w : Word) : Type 0 where
  pub bind : BoundWord
  pub there : IsIn s.binds bind
  pub is : w ≡ bind_word set k bind

pub record IsRebased (k : ℕ) (i : Img) (s : StreamLists) (w : Word) : Type 0 where
  pub place : Location
  pub there : IsIn s.rebases place
  pub free : is_bound s.binds place.address ≡ false
  pub is : w ≡ free_word k i s place

pub record IsOther (k : ℕ) (i : Img) (s : StreamLists) (w : Word) : Type 0 where
  pub reference : Reference
  pub there : IsIn s.references reference
  pub other : is_pointer reference.kind ≡ false
  pub is : w ≡ other_word k i reference

-- a pointer is a word that is bound, or a rebase that isn't
pub record IsBoundPointer (set : ImageSet) (k : ℕ) (s : StreamLists) (w : PlacedWord) : Type 0 where
  pub bind : BoundWord
  pub there : IsIn s.binds bind
  pub is : w ≡ placed_bind set k bind

pub record IsFreePointer (k : ℕ) (i : Img) (s : StreamLists) (w : PlacedWord) : Type 0 where
  pub place : Location
  pub there : IsIn s.rebases place
  pub free : is_bound s.binds place.address ≡ false
  pub is : w ≡ rebased_word k i.segments (pointer_at s.references) place

pub pointer_kinds : (set : ImageSet) (k : ℕ) (i : Img) (s : StreamLists) (w : PlacedWord) → IsIn (all_pointers set k i.segments s) w → IsBoundPointer set k s w ⊎ IsFreePointer k i s w
pointer_kinds set k i s w there =
    elim (in_either (map (placed_bind set k) s.binds) (rebased_words k i.segments (is_bound s.binds) (pointer_at s.references) s.rebases) w there) [
      | inl bound ↦
          let b : IsOf (placed_bind set k) s.binds w = of_map (placed_bind set k) s.binds w bound in
          inl (record { bind = b.from; there = b.there; is = b.is })
      | inr rebased ↦
          let kept : List Location = filter (is_free (is_bound s.binds)) s.rebases in
          let r : IsOf (rebased_word k i.segments (pointer_at s.references)) kept w = of_map (rebased_word k i.segments (pointer_at s.references)) kept w rebased in
          let f = of_filter (is_free (is_bound s.binds)) s.rebases r.from r.there in
          inr (record { place = r.from; there = f.0; free = not-true (is_bound s.binds r.from.address) f.1; is = r.is })
    ]

pub other_of : (k : ℕ) (i : Img) (s : StreamLists) (w : Word) → IsIn (map (other_word k i) (filter is_no_pointer s.references)) w → IsOther k i s w
other_of k i s w there =
    let others : List Reference = filter is_no_pointer s.references in
    let r : IsOf (other_word k i) others w = of_map (other_word k i) others w there in
    let f = of_filter is_no_pointer s.references r.from r.there in
    record { reference = r.from; there = f.0; other = not-true (is_pointer r.from.kind) f.1; is = r.is }

pub word_cases : (set : ImageSet) (k : ℕ) (i : Img) (s : StreamLists) (w : Word) → IsImageOf set k i s → IsWordOf (words_of set k) w → IsBound set k s w ⊎ (IsRebased k i s w ⊎ IsOther k i s w)
word_cases set k i s w of is =
    let pointers : List PlacedWord = all_pointers set k i.segments s in
    let others : List Reference = filter is_no_pointer s.references in
    elim (in_either (map pointer_word pointers) (map (other_word k i) others) w (word_in (words_in set k (Some i) (Some s)) w (subst (λ (ws : List Word). IsWordOf ws w) (words_are set k i s of) is))) [
      | inl pointer ↦
          let p : IsOf pointer_word pointers w = of_map pointer_word pointers w pointer in
          elim (pointer_kinds set k i s p.from p.there) [
            | inl bound ↦ inl (record { bind = bound.bind; there = bound.there; is = p.is ∙ ap pointer_word bound.is })
            | inr free ↦ inr (inl (record { place = free.place; there = free.there; free = free.free; is = p.is ∙ ap pointer_word free.is }))
          ]
      | inr other ↦ inr (inr (other_of k i s w other))
    ]

-- ---- and the other way round

pub covered : (ws : List Word) (w : Word) (number offset : ℕ) (u : Section) → IsIn ws w → Covers number u offset w → InWord ws number u offset
covered [] w number offset u there covers = absurd (in_none w there)
covered (v ∷ vs) w number offset u there covers = elim (in_cases v vs w there) [
  | inl is ↦ inl (subst (λ (x : Word). Covers number u offset x) (sym is) covers)
  | inr later ↦ inr (covered vs w number offset u later covers)
]

pub bound_in : (set : ImageSet) (k : ℕ) (i : Img) (s : StreamLists) (b : BoundWord) → IsImageOf set k i s → IsIn s.binds b → IsIn (words_of set k) (bind_word set k b)
bound_in set k i s b of there =
    let pointers : List PlacedWord = all_pointers set k i.segments s in
    subst (λ (ws : List Word). IsIn ws (bind_word set k b)) (sym (words_are set k i s of))
    (in_left (map pointer_word pointers) (map (other_word k i) (filter is_no_pointer s.references)) (bind_word set k b)
    (in_map pointer_word pointers (placed_bind set k b)
    (in_left (map (placed_bind set k) s.binds) (rebased_words k i.segments (is_bound s.binds) (pointer_at s.references) s.rebases) (placed_bind set k b) (in_map (placed_bind set k) s.binds b there))))

pub free_in : (set : ImageSet) (k : ℕ) (i : Img) (s : StreamLists) (l : Location) → IsImageOf set k i s → IsIn s.rebases l → is_bound s.binds l.address ≡ false → IsIn (words_of set k) (free_word k i s l)
free_in set k i s l of there free =
    let pointers : List PlacedWord = all_pointers set k i.segments s in
    let own : PlacedWord = rebased_word k i.segments (pointer_at s.references) l in
    let kept : List Location = filter (is_free (is_bound s.binds)) s.rebases in
    subst (λ (ws : List Word). IsIn ws (free_word k i s l)) (sym (words_are set k i s of))
    (in_left (map pointer_word pointers) (map (other_word k i) (filter is_no_pointer s.references)) (free_word k i s l)
    (in_map pointer_word pointers own
    (in_right (map (placed_bind set k) s.binds) (rebased_words k i.segments (is_bound s.binds) (pointer_at s.references) s.rebases) own
    (in_map (rebased_word k i.segments (pointer_at s.references)) kept l (in_filter (is_free (is_bound s.binds)) s.rebases l there (ap not free))))))
