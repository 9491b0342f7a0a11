-- The words of all images of a set, each with its image: their edits are those of the cache, and no two share a byte.
use Rattle.std.proofs.Common.{◌≡◌, ◌⊎◌, ℕ, false, Option, Some, List, [], ◌∷◌, ◌++◌, map, refl, sym, ap, ap₂, ◌∙◌, subst, arith, inl, inr}
use Rattle.std.specs.Prelude.{slice_get, nat_le, filter}
use Rattle.std.specs.List.{flat_map, enumerate_from}
use Rattle.std.proofs.lemmas.Bool.{cases_Bool, cond-true, cond-false, not-true}
use Rattle.std.proofs.lemmas.List.{map-append}
use Rattle.dsc_base.specs.declared.edits.Edit.{Edit}
use Rattle.dsc_base.specs.Edits.{AllApart, IsAmong}
use Rattle.macho_image.specs.Records.{Img}
use Rattle.macho_image.specs.Segments.{segments_in}
use Rattle.split_info.specs.declared.reference.Reference.{Reference}
use Rattle.split_info.specs.Overlap.{is_pointer}
use Rattle.prebind.specs.declared.resolved.PlacedWord.{PlacedWord}
use Rattle.prebind.specs.Sets.{ImageSet, image_set}
use Rattle.prebind.specs.Words.{Word, streams_at, pointers_of, pointer_word, reference_word, is_no_pointer, sections_in, words_of, put_word, in_word_order, ordered_pointers}
use Rattle.cache_layout.specs.Layouts.{Laid, layout_of}
use Rattle.load_model.specs.Corresponds.{IsWordOf}
use Rattle.load_model.proofs.WordCases.{IsIn, in_first, in_rest, in_cases, in_none, in_left, in_right, in_either, in_map, IsOf, of_map, of_filter, word_in, other_word}
use Rattle.ref_rewrite.specs.Moving.{edit_of}
use Rattle.ref_rewrite.specs.Planned.{words_with}
use Rattle.cache_build.specs.Edits.{image_edits, edits_of}
use Rattle.cache_build.proofs.BuildableSets.{set_edits}
use Rattle.cache_build.proofs.Memberships.{IsOfOne, of_flat, in_flat, IsNumbered, of_numbered, in_enumerated, among_in, in_among, IsByteOf, only_one}

pub record SetWord : Type 0 where
  pub number : ℕ
  pub image : Img
  pub word : Word

abbrev pub words_at : ImageSet → ℕ → Img → List Word
words_at set k image = words_with k image (streams_at set k) (ordered_pointers set k)

abbrev pub numbered_words : ImageSet → ℕ × Img → List SetWord
numbered_words set p = map (λ (w : Word). let x : SetWord = record { number = p.0; image = p.1; word = w } in x) (words_at set p.0 p.1)

abbrev pub set_words : List Img → List SetWord
set_words is = flat_map (numbered_words (image_set is)) (enumerate_from 0 is)

abbrev pub edit_at : List Img → SetWord → Edit
edit_at is x = edit_of (layout_of is) x.number x.image.segments x.word

-- ---- their edits

edits_from : (l : Laid) (set : ImageSet) (ps : List (ℕ × Img)) → map (λ (x : SetWord). edit_of l x.number x.image.segments x.word) (flat_map (numbered_words set) ps) ≡ flat_map (λ (p : ℕ × Img). image_edits l set p.0 p.1) ps
edits_from l set [] = refl
edits_from l set (p ∷ ps) =
    map-append (λ (x : SetWord). edit_of l x.number x.image.segments x.word) (numbered_words set p) (flat_map (numbered_words set) ps)
    ∙ ap₂ (λ (a b : List Edit). a ++ b) (each (words_at set p.0 p.1)) (edits_from l set ps)
  where
    each : (ws : List Word) → map (λ (x : SetWord). edit_of l x.number x.image.segments x.word) (map (λ (w : Word). let x : SetWord = record { number = p.0; image = p.1; word = w } in x) ws) ≡ map (edit_of l p.0 p.1.segments) ws
    each [] = refl
    each (w ∷ ws) = ap (λ (es : List Edit). edit_of l p.0 p.1.segments w ∷ es) (each ws)

pub edits_are : (is : List Img) → map (edit_at is) (set_words is) ≡ set_edits is
unfolding edits_of image_set
edits_are is = edits_from (layout_of is) (image_set is) (enumerate_from 0 is)

-- ---- words in address order

in_put : (w v : PlacedWord) (vs : List PlacedWord) → IsIn (w ∷ vs) v → IsIn (put_word w vs) v
in_put w v [] there = there
in_put w v (u ∷ us) there = elim (cases_Bool (nat_le w.at.address u.at.address)) [
  | inl first ↦ subst (λ (l : List PlacedWord). IsIn l v) (sym (cond-true (nat_le w.at.address u.at.address) (w ∷ (u ∷ us)) (u ∷ put_word w us) first)) there
  | inr later ↦
      subst (λ (l : List PlacedWord). IsIn l v) (sym (cond-false (nat_le w.at.address u.at.address) (w ∷ (u ∷ us)) (u ∷ put_word w us) later))
      (elim (in_cases w (u ∷ us) v there) [
        | inl is ↦ in_rest u (put_word w us) v (in_put w v us (subst (λ (x : PlacedWord). IsIn (w ∷ us) x) is (in_first w us)))
        | inr behind ↦ elim (in_cases u us v behind) [
          | inl is ↦ subst (λ (x : PlacedWord). IsIn (u ∷ put_word w us) x) is (in_first u (put_word w us))
          | inr rest ↦ in_rest u (put_word w us) v (in_put w v us (in_rest w us v rest))
        ]
      ])
]

of_put : (w v : PlacedWord) (vs : List PlacedWord) → IsIn (put_word w vs) v → IsIn (w ∷ vs) v
of_put w v [] there = there
of_put w v (u ∷ us) there = elim (cases_Bool (nat_le w.at.address u.at.address)) [
  | inl first ↦ subst (λ (l : List PlacedWord). IsIn l v) (cond-true (nat_le w.at.address u.at.address) (w ∷ (u ∷ us)) (u ∷ put_word w us) first) there
  | inr later ↦
      elim (in_cases u (put_word w us) v (subst (λ (l : List PlacedWord). IsIn l v) (cond-false (nat_le w.at.address u.at.address) (w ∷ (u ∷ us)) (u ∷ put_word w us) later) there)) [
        | inl is ↦ in_rest w (u ∷ us) v (subst (λ (x : PlacedWord). IsIn (u ∷ us) x) is (in_first u us))
        | inr behind ↦ elim (in_cases w us v (of_put w v us behind)) [
          | inl is ↦ subst (λ (x : PlacedWord). IsIn (w ∷ (u ∷ us)) x) is (in_first w (u ∷ us))
          | inr rest ↦ in_rest w (u ∷ us) v (in_rest u us v rest)
        ]
      ]
]

in_order : (ws : List PlacedWord) (v : PlacedWord) → IsIn ws v → IsIn (in_word_order ws) v
in_order [] v there = there
in_order (w ∷ ws) v there = elim (in_cases w ws v there) [
  | inl is ↦ in_put w v (in_word_order ws) (subst (λ (x : PlacedWord). IsIn (w ∷ in_word_order ws) x) is (in_first w (in_word_order ws)))
  | inr later ↦ in_put w v (in_word_order ws) (in_rest w (in_word_order ws) v (in_order ws v later))
]

of_order : (ws : List PlacedWord) (v : PlacedWord) → IsIn (in_word_order ws) v → IsIn ws v
of_order [] v there = there
of_order (w ∷ ws) v there = elim (in_cases w (in_word_order ws) v (of_put w v (in_word_order ws) there)) [
  | inl is ↦ subst (λ (x : PlacedWord). IsIn (w ∷ ws) x) is (in_first w ws)
  | inr later ↦ in_rest w ws v (of_order ws v later)
]

pub in_ordered : (set : ImageSet) (k : ℕ) (v : PlacedWord) → IsIn (pointers_of set k) v → IsIn (ordered_pointers set k) v
unfolding ordered_pointers
in_ordered set k v there = in_order (pointers_of set k) v there

pub of_ordered : (set : ImageSet) (k : ℕ) (v : PlacedWord) → IsIn (ordered_pointers set k) v → IsIn (pointers_of set k) v
unfolding ordered_pointers
of_ordered set k v there = of_order (pointers_of set k) v there

-- ---- the words of an image

-- what a word of an image is
pub record IsPointer (set : ImageSet) (k : ℕ) (w : Word) : Type 0 where
  pub placed : PlacedWord
  pub there : IsIn (ordered_pointers set k) placed
  pub is : w ≡ pointer_word placed

pub record IsReferred (set : ImageSet) (k : ℕ) (i : Img) (w : Word) : Type 0 where
  pub reference : Reference
  pub there : IsIn (streams_at set k).references reference
  pub other : is_pointer reference.kind ≡ false
  pub is : w ≡ other_word k i reference

pub at_cases : (set : ImageSet) (k : ℕ) (i : Img) (w : Word) → IsIn (words_at set k i) w → IsPointer set k w ⊎ IsReferred set k i w
at_cases set k i w there =
    elim (in_either (map pointer_word (ordered_pointers set k)) (map (other_word k i) (filter is_no_pointer (streams_at set k).references)) w there) [
      | inl pointer ↦
          let p : IsOf pointer_word (ordered_pointers set k) w = of_map pointer_word (ordered_pointers set k) w pointer in
          inl (record { placed = p.from; there = p.there; is = p.is })
      | inr other ↦
          let r : IsOf (other_word k i) (filter is_no_pointer (streams_at set k).references) w = of_map (other_word k i) (filter is_no_pointer (streams_at set k).references) w other in
          let f = of_filter is_no_pointer (streams_at set k).references r.from r.there in
          inr (record { reference = r.from; there = f.0; other = not-true (is_pointer r.from.kind) f.1; is = r.is })
    ]

abbrev words_by : ImageSet → ℕ → Option Img → List Word
words_by set k o = map pointer_word (pointers_of set k) ++ map (reference_word k (sections_in o) (segments_in o)) (filter is_no_pointer (streams_at set k).references)

words_are : (set : ImageSet) (k : ℕ) (i : Img) → slice_get set.images k ≡ Some i → words_of set k ≡ words_by set k (Some i)
unfolding words_of
words_are set k i image = ap (words_by set k) image

pub word_of_list : (ws : List Word) (w : Word) → IsIn ws w → IsWordOf ws w
word_of_list [] w there = absurd (in_none w there)
word_of_list (v ∷ vs) w there = elim (in_cases v vs w there) [
  | inl is ↦ inl (sym is)
  | inr later ↦ inr (word_of_list vs w later)
]

-- the words of an image in either order
pub word_at : (set : ImageSet) (k : ℕ) (i : Img) (w : Word) → slice_get set.images k ≡ Some i → IsWordOf (words_of set k) w → IsIn (words_at set k i) w
word_at set k i w image is =
    let others : List Word = map (other_word k i) (filter is_no_pointer (streams_at set k).references) in
    elim (in_either (map pointer_word (pointers_of set k)) others w (word_in (words_by set k (Some i)) w (subst (λ (ws : List Word). IsWordOf ws w) (words_are set k i image) is))) [
      | inl pointer ↦
          let p : IsOf pointer_word (pointers_of set k) w = of_map pointer_word (pointers_of set k) w pointer in
          in_left (map pointer_word (ordered_pointers set k)) others w
          (subst (λ (v : Word). IsIn (map pointer_word (ordered_pointers set k)) v) (sym p.is) (in_map pointer_word (ordered_pointers set k) p.from (in_ordered set k p.from p.there)))
      | inr other ↦ in_right (map pointer_word (ordered_pointers set k)) others w other
    ]

pub at_word : (set : ImageSet) (k : ℕ) (i : Img) (w : Word) → slice_get set.images k ≡ Some i → IsIn (words_at set k i) w → IsWordOf (words_of set k) w
at_word set k i w image there =
    let others : List Word = map (other_word k i) (filter is_no_pointer (streams_at set k).references) in
    subst (λ (ws : List Word). IsWordOf ws w) (sym (words_are set k i image))
    (word_of_list (words_by set k (Some i)) w
    (elim (in_either (map pointer_word (ordered_pointers set k)) others w there) [
      | inl pointer ↦
          let p : IsOf pointer_word (ordered_pointers set k) w = of_map pointer_word (ordered_pointers set k) w pointer in
          in_left (map pointer_word (pointers_of set k)) others w
          (subst (λ (v : Word). IsIn (map pointer_word (pointers_of set k)) v) (sym p.is) (in_map pointer_word (pointers_of set k) p.from (of_ordered set k p.from p.there)))
      | inr other ↦ in_right (map pointer_word (pointers_of set k)) others w other
    ]))

-- ---- the words of a set

pub images_are : (is : List Img) (k : ℕ) (i : Img) → slice_get is k ≡ Some i → slice_get (image_set is).images k ≡ Some i
unfolding image_set
images_are is k i got = got

pub in_set : (is : List Img) (k : ℕ) (i : Img) (w : Word) → slice_get is k ≡ Some i → IsWordOf (words_of (image_set is) k) w → IsIn (set_words is) (record { number = k; image = i; word = w })
in_set is k i w image word =
    in_flat (numbered_words (image_set is)) (enumerate_from 0 is) (k, i) (record { number = k; image = i; word = w })
    (in_enumerated is k i image)
    (in_map (λ (v : Word). let x : SetWord = record { number = k; image = i; word = v } in x) (words_at (image_set is) k i) w (word_at (image_set is) k i w (images_are is k i image) word))

pub record IsOfSet (is : List Img) (x : SetWord) : Type 0 where
  pub image_is : slice_get is x.number ≡ Some x.image
  pub there : IsIn (words_at (image_set is) x.number x.image) x.word
  pub word : IsWordOf (words_of (image_set is) x.number) x.word

pub of_set : (is : List Img) (x : SetWord) → IsIn (set_words is) x → IsOfSet is x
of_set is x there =
    let one : IsOfOne (numbered_words (image_set is)) (enumerate_from 0 is) x = of_flat (numbered_words (image_set is)) (enumerate_from 0 is) x there in
    let p : ℕ × Img = one.from in
    let number : IsNumbered 0 is one.from = of_numbered 0 is one.from one.there in
    let make : Word → SetWord = λ w. record { number = p.0; image = p.1; word = w } in
    let w : IsOf make (words_at (image_set is) p.0 p.1) x = of_map make (words_at (image_set is) p.0 p.1) x one.inside in
    let same : one.from.0 ≡ number.index = omega (arith, number.number) in
    let image : slice_get is one.from.0 ≡ Some one.from.1 = ap (λ (n : ℕ). slice_get is n) same ∙ number.found in
    subst (IsOfSet is) (sym w.is) (record { image_is = image; there = w.there; word = at_word (image_set is) p.0 p.1 w.from (images_are is p.0 p.1 image) w.there })

-- each has its edit among those of the cache, and each of these is a word's
pub edit_among : (is : List Img) (x : SetWord) → IsIn (set_words is) x → IsAmong (edit_at is x) (set_edits is)
edit_among is x there = in_among (set_edits is) (edit_at is x) (subst (λ (es : List Edit). IsIn es (edit_at is x)) (edits_are is) (in_map (edit_at is) (set_words is) x there))

pub among_edits : (is : List Img) (e : Edit) → IsAmong e (set_edits is) → IsOf (edit_at is) (set_words is) e
among_edits is e among = of_map (edit_at is) (set_words is) e (subst (λ (es : List Edit). IsIn es e) (sym (edits_are is)) (among_in (set_edits is) e among))

-- where edits keep apart, a byte is in one word alone
pub one_word : (is : List Img) (x y : SetWord) (b : ℕ) → AllApart (set_edits is) → IsIn (set_words is) x → IsIn (set_words is) y → IsByteOf b (edit_at is x) → IsByteOf b (edit_at is y) → x ≡ y
one_word is x y b apart one other here there =
    only_one (edit_at is) (set_words is) x y b (subst AllApart (sym (edits_are is)) apart) one other here there
