-- The pointers of an image by their addresses are its pointers.
use Rattle.std.proofs.Common.{◌≡◌, ◌⊎◌, ℕ, Bool, true, false, cond, nat_le, Option, Some, List, [], ◌∷◌, ◌++◌, map, sym, ap, subst, inl, inr}
use Rattle.std.specs.Prelude.{slice_get, filter}
use Rattle.macho_image.specs.Records.{Img}
use Rattle.macho_image.specs.Segments.{segments_in}
use Rattle.split_info.specs.declared.reference.Reference.{Reference}
use Rattle.prebind.specs.declared.resolved.PlacedWord.{PlacedWord}
use Rattle.prebind.specs.Sets.{ImageSet}
use Rattle.prebind.specs.Words.{Word, pointer_word, reference_word, is_no_pointer, sections_in, streams_at, pointers_of, words_of, put_word, in_word_order, ordered_pointers}
use Rattle.load_model.specs.Corresponds.{IsWordOf}
use Rattle.load_model.proofs.WordCases.{IsIn, IsOf, in_first, in_rest, in_none, in_cases, in_left, in_right, in_either, in_map, of_map}
use Rattle.cache_check.specs.Bytes.{words_by_address}

either_order : (b : Bool) (w v x : PlacedWord) (vs put : List PlacedWord) → (IsIn put x → (w ≡ x) ⊎ IsIn vs x) → IsIn (cond b (w ∷ (v ∷ vs)) (v ∷ put)) x → (w ≡ x) ⊎ IsIn (v ∷ vs) x
either_order true w v x vs put later there = in_cases w (v ∷ vs) x there
either_order false w v x vs put later there = elim (in_cases v put x there) [
  | inl is ↦ inr (subst (λ (z : PlacedWord). IsIn (v ∷ vs) z) is (in_first v vs))
  | inr rest ↦ elim (later rest) [ inl is ↦ inl is | inr old ↦ inr (in_rest v vs x old) ]
]

of_put : (w : PlacedWord) (vs : List PlacedWord) (x : PlacedWord) → IsIn (put_word w vs) x → (w ≡ x) ⊎ IsIn vs x
of_put w [] x there = in_cases w [] x there
of_put w (v ∷ vs) x there = either_order (nat_le w.at.address v.at.address) w v x vs (put_word w vs) (of_put w vs x) there

put_first : (w : PlacedWord) (vs : List PlacedWord) → IsIn (put_word w vs) w
put_first w [] = in_first w []
put_first w (v ∷ vs) = elim (nat_le w.at.address v.at.address) as (λ b. IsIn (cond b (w ∷ (v ∷ vs)) (v ∷ put_word w vs)) w) [
  | true ↦ in_first w (v ∷ vs)
  | false ↦ in_rest v (put_word w vs) w (put_first w vs)
]

put_rest : (w : PlacedWord) (vs : List PlacedWord) (x : PlacedWord) → IsIn vs x → IsIn (put_word w vs) x
put_rest w [] x there = absurd (in_none x there)
put_rest w (v ∷ vs) x there = elim (nat_le w.at.address v.at.address) as (λ b. IsIn (cond b (w ∷ (v ∷ vs)) (v ∷ put_word w vs)) x) [
  | true ↦ in_rest w (v ∷ vs) x there
  | false ↦ elim (in_cases v vs x there) [
    | inl is ↦ subst (λ (z : PlacedWord). IsIn (v ∷ put_word w vs) z) is (in_first v (put_word w vs))
    | inr later ↦ in_rest v (put_word w vs) x (put_rest w vs x later)
  ]
]

of_order : (ws : List PlacedWord) (x : PlacedWord) → IsIn (in_word_order ws) x → IsIn ws x
of_order [] x there = absurd (in_none x there)
of_order (w ∷ ws) x there = elim (of_put w (in_word_order ws) x there) [
  | inl is ↦ subst (λ (z : PlacedWord). IsIn (w ∷ ws) z) is (in_first w ws)
  | inr later ↦ in_rest w ws x (of_order ws x later)
]

in_order : (ws : List PlacedWord) (x : PlacedWord) → IsIn ws x → IsIn (in_word_order ws) x
in_order [] x there = absurd (in_none x there)
in_order (w ∷ ws) x there = elim (in_cases w ws x there) [
  | inl is ↦ subst (λ (z : PlacedWord). IsIn (put_word w (in_word_order ws)) z) is (put_first w (in_word_order ws))
  | inr later ↦ put_rest w (in_word_order ws) x (in_order ws x later)
]

pub of_ordered : (set : ImageSet) (k : ℕ) (x : PlacedWord) → IsIn (ordered_pointers set k) x → IsIn (pointers_of set k) x
unfolding ordered_pointers
of_ordered set k x there = of_order (pointers_of set k) x there

pub in_ordered : (set : ImageSet) (k : ℕ) (x : PlacedWord) → IsIn (pointers_of set k) x → IsIn (ordered_pointers set k) x
unfolding ordered_pointers
in_ordered set k x there = in_order (pointers_of set k) x there

-- ---- words

abbrev words_by : ImageSet → ℕ → Option Img → List Word
words_by set k o = map pointer_word (pointers_of set k) ++ map (reference_word k (sections_in o) (segments_in o)) (filter is_no_pointer (streams_at set k).references)

words_at_image : (set : ImageSet) (k : ℕ) (file : Img) → slice_get set.images k ≡ Some file → words_of set k ≡ words_by set k (Some file)
unfolding words_of
words_at_image set k file got = ap (words_by set k) got

-- the words of an image, by address
pub word_by_address : (set : ImageSet) (k : ℕ) (file : Img) (w : Word) → slice_get set.images k ≡ Some file → IsIn (words_of set k) w → IsIn (words_by_address set k file) w
unfolding words_by_address
word_by_address set k file w got there =
    let others : List Reference = filter is_no_pointer (streams_at set k).references in
    let references : List Word = map (reference_word k file.sections file.segments) (filter is_no_pointer (streams_at set k).references) in
    elim (in_either (map pointer_word (pointers_of set k)) references w (subst (λ (ws : List Word). IsIn ws w) (words_at_image set k file got) there)) [
      | inl pointer ↦
          let from : IsOf pointer_word (pointers_of set k) w = of_map pointer_word (pointers_of set k) w pointer in
          subst (λ (v : Word). IsIn (map pointer_word (ordered_pointers set k) ++ references) v) (sym from.is)
          (in_left (map pointer_word (ordered_pointers set k)) references (pointer_word from.from) (in_map pointer_word (ordered_pointers set k) from.from (in_ordered set k from.from from.there)))
      | inr reference ↦ in_right (map pointer_word (ordered_pointers set k)) references w reference
    ]

pub by_address_word : (set : ImageSet) (k : ℕ) (file : Img) (w : Word) → slice_get set.images k ≡ Some file → IsIn (words_by_address set k file) w → IsIn (words_of set k) w
unfolding words_by_address
by_address_word set k file w got there =
    let references : List Word = map (reference_word k file.sections file.segments) (filter is_no_pointer (streams_at set k).references) in
    subst (λ (ws : List Word). IsIn ws w) (sym (words_at_image set k file got))
    (elim (in_either (map pointer_word (ordered_pointers set k)) references w there) [
      | inl pointer ↦
          let from : IsOf pointer_word (ordered_pointers set k) w = of_map pointer_word (ordered_pointers set k) w pointer in
          subst (λ (v : Word). IsIn (map pointer_word (pointers_of set k) ++ references) v) (sym from.is)
          (in_left (map pointer_word (pointers_of set k)) references (pointer_word from.from) (in_map pointer_word (pointers_of set k) from.from (of_ordered set k from.from from.there)))
      | inr reference ↦ in_right (map pointer_word (pointers_of set k)) references w reference
    ])

pub word_of_in : (ws : List Word) (w : Word) → IsIn ws w → IsWordOf ws w
word_of_in [] w there = absurd (in_none w there)
word_of_in (v ∷ vs) w there = elim (in_cases v vs w there) [ inl is ↦ inl (sym is) | inr later ↦ inr (word_of_in vs w later) ]

pub pointer_by_address : (set : ImageSet) (k : ℕ) (file : Img) (v : PlacedWord) → IsIn (ordered_pointers set k) v → IsIn (words_by_address set k file) (pointer_word v)
unfolding words_by_address
pointer_by_address set k file v there =
    in_left (map pointer_word (ordered_pointers set k)) (map (reference_word k file.sections file.segments) (filter is_no_pointer (streams_at set k).references)) (pointer_word v) (in_map pointer_word (ordered_pointers set k) v there)
