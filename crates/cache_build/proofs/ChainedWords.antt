-- Which words of a set are chained in its cache: the pointers that lead to places, and no others.
use Rattle.std.proofs.Common.{◌≡◌, ◌≤◌, ℕ, ◌+◌, ◌-◌, Bool, true, false, ◌&&◌, List, map, refl, sym, ap, ◌∙◌, subst, arith, inl, inr}
use Rattle.std.specs.Prelude.{nat_eq, filter}
use Rattle.std.specs.List.{enumerate_from, list_any}
use Rattle.std.proofs.lemmas.Bool.{cases_Bool, eqb-true, eq-eqb, false≢true, and_parts}
use Rattle.dsc_base.specs.Edits.{AllApart}
use Rattle.macho_image.specs.Records.{Img}
use Rattle.split_info.specs.declared.reference.RefKind.TheVariants.{Pointer64}
use Rattle.split_info.specs.Overlap.{is_pointer}
use Rattle.prebind.specs.declared.resolved.PlacedWord.{PlacedWord}
use Rattle.prebind.specs.Sets.{image_set}
use Rattle.prebind.specs.Words.{Word, pointer_word, is_no_pointer, streams_at, ordered_pointers}
use Rattle.cache_layout.specs.Layouts.{Laid, layout_of}
use Rattle.load_model.proofs.WordCases.{IsIn, IsOf, in_left, in_map, of_map, in_filter, of_filter, other_word}
use Rattle.ref_rewrite.specs.Planned.{leads_to_place, is_chained, data_offset, chained_in}
use Rattle.cache_build.specs.Edits.{image_chained, chained_of}
use Rattle.cache_build.proofs.BuildableSets.{IsAccepted, set_edits, set_chained}
use Rattle.cache_build.proofs.Memberships.{IsOfOne, of_flat, in_flat, in_enumerated, of_any, in_any, IsByteOf}
use Rattle.cache_build.proofs.SetWords.{SetWord, words_at, numbered_words, set_words, edit_at, at_cases, IsOfSet, of_set, one_word}
use Rattle.cache_build.proofs.CachedWords.{Stands, word_stands_at, pointer_in_data}
use Rattle.split_info.proofs.OverlapLaws.{width_some}

-- a pointer that leads to a place
pub record IsChained (x : SetWord) : Type 0 where
  pub pointer : x.word.kind ≡ Pointer64
  pub leads : leads_to_place x.word.target ≡ true

-- ---- what stands in the list of chained places

record IsPlaceOf (is : List Img) (a : ℕ) : Type 0 where
  word : SetWord
  there : IsIn (set_words is) word
  chained : IsChained word
  at : a ≡ (edit_at is word).at - (layout_of is).writable.at

of_image : (is : List Img) (k : ℕ) (i : Img) (a : ℕ) → IsIn (enumerate_from 0 is) (k, i) → IsIn (image_chained (layout_of is) (image_set is) k i) a → IsPlaceOf is a
of_image is k i a numbered there =
    let l : Laid = layout_of is in
    let placed : List PlacedWord = ordered_pointers (image_set is) k in
    let one : IsOfOne (chained_in l k i.segments placed) (enumerate_from 0 i.segments) a = of_flat (chained_in l k i.segments placed) (enumerate_from 0 i.segments) a there in
    let own : IsOf (data_offset l k i.segments) (filter (is_chained one.from.0) placed) a = of_map (data_offset l k i.segments) (filter (is_chained one.from.0) placed) a one.inside in
    let kept = of_filter (is_chained one.from.0) placed own.from own.there in
    let parts = and_parts (nat_eq own.from.at.segment one.from.0) (leads_to_place own.from.target) kept.1 in
    let w : Word = pointer_word own.from in
    let make : Word → SetWord = λ v. record { number = k; image = i; word = v } in
    let inside : IsIn (words_at (image_set is) k i) w =
    in_left (map pointer_word placed) (map (other_word k i) (filter is_no_pointer (streams_at (image_set is) k).references)) w (in_map pointer_word placed own.from kept.0) in
    record {
      word = record { number = k; image = i; word = w };
      there = in_flat (numbered_words (image_set is)) (enumerate_from 0 is) (k, i) (record { number = k; image = i; word = w }) numbered (in_map make (words_at (image_set is) k i) w inside);
      chained = record { pointer = refl; leads = parts.1 };
      at = own.is;
    }

of_chained : (is : List Img) (a : ℕ) → IsIn (set_chained is) a → IsPlaceOf is a
unfolding chained_of image_set
of_chained is a there =
    let one : IsOfOne (λ (p : ℕ × Img). image_chained (layout_of is) (image_set is) p.0 p.1) (enumerate_from 0 is) a = of_flat (λ (p : ℕ × Img). image_chained (layout_of is) (image_set is) p.0 p.1) (enumerate_from 0 is) a there in
    of_image is one.from.0 one.from.1 a one.there one.inside

in_chained : (is : List Img) → IsAccepted is → (x : SetWord) → IsIn (set_words is) x → IsChained x → IsIn (set_chained is) ((edit_at is x).at - (layout_of is).writable.at)
unfolding chained_of image_set
in_chained is accepted x there chained =
    let l : Laid = layout_of is in
    let k : ℕ = x.number in
    let i : Img = x.image in
    let own : IsOfSet is x = of_set is x there in
    let stands : Stands is x = word_stands_at is accepted x there in
    let placed : List PlacedWord = ordered_pointers (image_set is) x.number in
    elim (at_cases (image_set is) x.number x.image x.word own.there) [
      | inl pointer ↦
          let p : PlacedWord = pointer.placed in
          let segment : x.word.at.segment ≡ pointer.placed.at.segment = ap (λ (w : Word). w.at.segment) pointer.is in
          let leads : leads_to_place pointer.placed.target ≡ true = sym (ap (λ (w : Word). leads_to_place w.target) pointer.is) ∙ chained.leads in
          let passes : is_chained x.word.at.segment pointer.placed ≡ true = both_true (nat_eq p.at.segment x.word.at.segment) (leads_to_place p.target) (eq-eqb p.at.segment x.word.at.segment (sym segment)) leads in
          let kept : IsIn (filter (is_chained x.word.at.segment) placed) p = in_filter (is_chained x.word.at.segment) placed p pointer.there passes in
          let offset : IsIn (chained_in l k i.segments placed (x.word.at.segment, stands.segment)) (data_offset l k i.segments p) = in_map (data_offset l k i.segments) (filter (is_chained x.word.at.segment) placed) p kept in
          let there_too : IsIn (image_chained l (image_set is) k i) (data_offset l k i.segments p) =
          in_flat (chained_in l k i.segments placed) (enumerate_from 0 i.segments) (x.word.at.segment, stands.segment) (data_offset l k i.segments p) (in_enumerated i.segments x.word.at.segment stands.segment stands.segment_is) offset in
          subst (λ (w : Word). IsIn (set_chained is) ((edit_at is (record { number = k; image = i; word = w })).at - l.writable.at)) (sym pointer.is)
          (in_flat (λ (q : ℕ × Img). image_chained l (image_set is) q.0 q.1) (enumerate_from 0 is) (k, i) (data_offset l k i.segments p) (in_enumerated is k i own.image_is) there_too)
      | inr other ↦
          let kind : other.reference.kind ≡ Pointer64 = sym (ap (λ (w : Word). w.kind) other.is) ∙ chained.pointer in
          absurd (false≢true (sym other.other ∙ ap is_pointer kind))
    ]
  where
    both_true : (a b : Bool) → a ≡ true → b ≡ true → a && b ≡ true
    both_true true b one other = other
    both_true false b one other = absurd (cc)

-- ---- the test for it

abbrev pub is_chained_at : List Img → ℕ → Bool
is_chained_at is at = list_any (λ a. nat_eq at ((layout_of is).writable.at + a)) (set_chained is)

pub chained_yes : (is : List Img) → IsAccepted is → (x : SetWord) → IsIn (set_words is) x → IsChained x → is_chained_at is (edit_at is x).at ≡ true
chained_yes is accepted x there chained =
    let low : (layout_of is).writable.at ≤ (edit_at is x).at = pointer_in_data is accepted x there chained.pointer in
    in_any (λ a. nat_eq (edit_at is x).at ((layout_of is).writable.at + a)) (set_chained is) ((edit_at is x).at - (layout_of is).writable.at) (in_chained is accepted x there chained)
    (eq-eqb (edit_at is x).at ((layout_of is).writable.at + ((edit_at is x).at - (layout_of is).writable.at)) (omega (arith, low)))

pub chained_no : (is : List Img) → IsAccepted is → AllApart (set_edits is) → (x : SetWord) → IsIn (set_words is) x → (IsChained x → ⊥) → is_chained_at is (edit_at is x).at ≡ false
chained_no is accepted apart x there free = elim (cases_Bool (is_chained_at is (edit_at is x).at)) [
  | inl some ↦
      let found = of_any (λ a. nat_eq (edit_at is x).at ((layout_of is).writable.at + a)) (set_chained is) some in
      let own : IsPlaceOf is found.0 = of_chained is found.0 found.1.0 in
      let low : (layout_of is).writable.at ≤ (edit_at is own.word).at = pointer_in_data is accepted own.word own.there own.chained.pointer in
      let at : (edit_at is x).at ≡ (layout_of is).writable.at + found.0 = eqb-true (edit_at is x).at ((layout_of is).writable.at + found.0) found.1.1 in
      let place : found.0 ≡ (edit_at is own.word).at - (layout_of is).writable.at = own.at in
      let here : IsByteOf (edit_at is x).at (edit_at is x) = let some_x = width_some x.word.kind in (omega arith, omega (arith, some_x)) in
      let there_too : IsByteOf (edit_at is x).at (edit_at is own.word) = let some_y = width_some own.word.word.kind in (omega (arith, at, place, low), omega (arith, at, place, low, some_y)) in
      let same : x ≡ own.word = one_word is x own.word (edit_at is x).at apart there own.there here there_too in
      absurd (free (subst IsChained (sym same) own.chained))
  | inr none ↦ none
]
