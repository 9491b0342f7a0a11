-- The words of an image of a set that was read: each stands in a segment other than `__LINKEDIT`, and no two share a byte.
use Rattle.std.proofs.Common.{◌≡◌, if◌then◌else◌, ◌≤◌, ◌<◌, ◌⊎◌, ℕ, suc, ◌+◌, ◌-◌, Bool, true, false, not, ◌&&◌, ◌||◌, nat_le, Option, Some, None, List, [], ◌∷◌, ◌++◌, length, map, filter, get_or, refl, sym, ap, ap₂, ◌∙◌, subst, arith, inl, inr}
use Rattle.std.specs.Prelude.{slice_get}
use Rattle.std.specs.List.{AllPairs, list_any}
use Rattle.std.proofs.lemmas.Bool.{cases_Bool, cases_lt, false≢true}
use Rattle.std.proofs.lemmas.Bool.Decides.{nat_tests}
use Rattle.std.proofs.lemmas.List.Folds.{list_any_at}
use Rattle.std.proofs.lemmas.List.Kept.{AllPairs-filter}
use Rattle.std.proofs.lemmas.Option.{slice_get_within, get_or_from_slice_get}
use Rattle.macho_image.specs.Records.{Seg, Img}
use Rattle.macho_image.specs.Rules.{is_linkedit_segment}
use Rattle.macho_image.specs.Breaks.{IsSound}
use Rattle.macho_image.specs.declared.place.Location.{Location}
use Rattle.macho_image.specs.Places.{IsWord}
use Rattle.macho_image.specs.Segments.{segments_in}
use Rattle.bind_ops.specs.Records.{BoundWord}
use Rattle.bind_ops.specs.Binds.{places_of}
use Rattle.split_info.specs.declared.reference.Reference.{Reference}
use Rattle.split_info.specs.References.{width_of}
use Rattle.split_info.specs.Overlap.{is_pointer, shares, meets, meets_word, strays}
use Rattle.split_info.specs.Split.{IsReference, AreReferences}
use Rattle.prebind.specs.declared.resolved.PlacedWord.{PlacedWord}
use Rattle.prebind.specs.Sets.{StreamLists, ImageSet, IsSplitRead, IsSoundSet}
use Rattle.prebind.specs.WordRules.{place_break}
use Rattle.prebind.specs.Words.{Word, ArePlaced, put_word, in_word_order, all_pointers, pointers_of, ordered_pointers, pointer_word, is_no_pointer, streams_in, streams_at}
use Rattle.cache_layout.specs.Layouts.{layout_of, layout_break}
use Rattle.ref_rewrite.specs.Breaks.{rewrite_break}
use Rattle.ref_rewrite.specs.Planned.{AreSplitRead, words_with}
use Rattle.ref_rewrite.proofs.FitLaws.{IsAt, references_accepted}
use Rattle.ref_rewrite.proofs.FollowingLaws.{SpacedFrom, spaced_from}
use Rattle.ref_rewrite.proofs.HomeLaws.{section_owned}
use Rattle.ref_rewrite.proofs.OrderLaws.{ordered_placed}
use Rattle.ref_rewrite.proofs.PlacedLaws.{placed_words}
use Rattle.ref_rewrite.proofs.SpacedLaws.{words_spaced}
use Rattle.load_model.proofs.LoadedWords.{IsReadImage}
use Rattle.load_model.proofs.RuledWords.{HasStreams, read_image}
use Rattle.load_model.proofs.SoundApart.{sound_apart}
use Rattle.load_model.proofs.WordCases.{IsIn, IsOf, IsImageOf, in_first, in_rest, in_cases, in_none, in_either, in_map, of_map, all_in, other_word, IsOther, other_of, IsBoundPointer, IsFreePointer, pointer_kinds}

-- ---- a set that was read and laid out, and that breaks no rule on where its words lead

pub record IsReadSet (set : ImageSet) : Type 0 where
  pub sound : IsSoundSet set
  pub read : AreSplitRead set
  pub none : layout_break set.images ≡ None
  pub images : (k : ℕ) (i : Img) → k < length set.images → i ≡ get_or set.images k i → IsSound i
  pub led : (k : ℕ) → k < length set.images → place_break set k ≡ None
  pub rewritten : rewrite_break (layout_of set.images) set ≡ None

-- an image of it, with what its streams spell
pub record IsOne (set : ImageSet) (k : ℕ) (i : Img) (s : StreamLists) : Type 0 where
  pub at : IsAt set.images k i
  pub read : IsReadImage set k i s
  pub split : IsSplitRead i s
  pub streams : streams_at set k ≡ s

pub one_of : (set : ImageSet) (k : ℕ) (i : Img) → IsReadSet set → slice_get set.images k ≡ Some i → (s : StreamLists) × IsOne set k i s
one_of set k i given image =
    let lt : k < length set.images = slice_get_within set.images k i image in
    let at : i ≡ get_or set.images k i = sym (get_or_from_slice_get set.images k i i image) in
    let sound : IsSound i = given.images k i lt at in
    let has : HasStreams set k i = read_image set k i given.sound image (sound_apart i sound) in (
      has.streams,
      record {
        at = record { none = given.none; lt = lt; at = at; sound = sound };
        read = has.read;
        split = given.read k i has.streams image has.read.of.streams_are;
        streams = ap streams_in has.read.of.streams_are;
      },
    )

-- ---- its pointers

in_put : (w v : PlacedWord) (ws : List PlacedWord) → IsIn (put_word w ws) v → (w ≡ v) ⊎ IsIn ws v
in_put w v [] there = in_cases w [] v there
in_put w v (u ∷ us) there =
    elim (nat_le w.at.address u.at.address) as (λ b. IsIn (if b then w ∷ (u ∷ us) else u ∷ put_word w us) v → (w ≡ v) ⊎ IsIn (u ∷ us) v) [
      | true ↦ λ here. in_cases w (u ∷ us) v here
      | false ↦ λ here. elim (in_cases u (put_word w us) v here) [
        | inl is ↦ inr (subst (λ (x : PlacedWord). IsIn (u ∷ us) x) is (in_first u us))
        | inr later ↦ elim (in_put w v us later) [
          | inl is ↦ inl is
          | inr rest ↦ inr (in_rest u us v rest)
        ]
      ]
    ] there

in_order : (ws : List PlacedWord) (v : PlacedWord) → IsIn (in_word_order ws) v → IsIn ws v
in_order [] v there = there
in_order (w ∷ ws) v there = elim (in_put w v (in_word_order ws) there) [
  | inl is ↦ subst (λ (x : PlacedWord). IsIn (w ∷ ws) x) is (in_first w ws)
  | inr later ↦ in_rest w ws v (in_order ws v later)
]

pub pointers_are : (set : ImageSet) (k : ℕ) (i : Img) (s : StreamLists) → IsImageOf set k i s → pointers_of set k ≡ all_pointers set k i.segments s
unfolding pointers_of
pointers_are set k i s of = ap₂ (λ (a : Option Img) (b : Option StreamLists). all_pointers set k (segments_in a) (streams_in b)) of.image_is of.streams_are

pub pointer_cases : (set : ImageSet) (k : ℕ) (i : Img) (s : StreamLists) (w : PlacedWord) → IsImageOf set k i s → IsIn (ordered_pointers set k) w → IsBoundPointer set k s w ⊎ IsFreePointer k i s w
unfolding ordered_pointers
pointer_cases set k i s w of there = pointer_kinds set k i s w (subst (λ (ws : List PlacedWord). IsIn ws w) (pointers_are set k i s of) (in_order (pointers_of set k) w there))

-- each stands where a rebase or a bind does
pointer_place : (set : ImageSet) (k : ℕ) (i : Img) (s : StreamLists) (w : PlacedWord) → IsImageOf set k i s → IsIn (ordered_pointers set k) w → IsIn s.rebases w.at ⊎ IsIn (places_of s.binds) w.at
pointer_place set k i s w of there = elim (pointer_cases set k i s w of there) [
  | inl bound ↦ inr (subst (λ (v : PlacedWord). IsIn (places_of s.binds) v.at) (sym bound.is) (in_map (λ (b : BoundWord). b.at) s.binds bound.bind bound.there))
  | inr free ↦ inl (subst (λ (v : PlacedWord). IsIn s.rebases v.at) (sym free.is) free.there)
]

-- ---- where its words stand

pub record Stands (i : Img) (w : Word) : Type 0 where
  pub segment : Seg
  pub segment_is : slice_get i.segments w.at.segment ≡ Some segment
  pub owned : is_linkedit_segment segment ≡ false
  pub from : segment.vmaddr ≤ w.at.address
  pub to : w.at.address + width_of w.kind ≤ segment.vmaddr + segment.vmsize

pub pointer_is_word : (set : ImageSet) (k : ℕ) (i : Img) (s : StreamLists) (w : PlacedWord) → IsOne set k i s → IsIn (ordered_pointers set k) w → IsWord i w.at
pointer_is_word set k i s w one there =
    let placed : ArePlaced (pointers_of set k) (ordered_pointers set k) = ordered_placed set k i s one.read.sound one.read.of.streams_are in
    all_in (λ (v : PlacedWord). IsWord i v.at) (ordered_pointers set k) w (placed_words set k i s (ordered_pointers set k) one.read.sound one.read.of.streams_are placed) there

pointer_stands : (i : Img) (w : PlacedWord) → IsSound i → IsWord i w.at → Stands i (pointer_word w)
pointer_stands i w sound word = record {
  segment = word.segment;
  segment_is = word.segment_is;
  owned = section_owned i sound (w.at.section - 1) word.section word.segment word.section_is (ap (λ (g : ℕ). slice_get i.segments g) word.in_segment ∙ word.segment_is);
  from = word.from;
  to = word.to;
}

reference_stands : (k : ℕ) (i : Img) (rebases : List Location) (r : Reference) → IsSound i → IsReference i rebases r → Stands i (other_word k i r)
reference_stands k i rebases r sound one = record {
  segment = one.segment;
  segment_is = one.segment_is;
  owned = section_owned i sound one.index one.section one.segment one.section_is (ap (λ (g : ℕ). slice_get i.segments g) one.in_segment ∙ one.segment_is);
  from = one.from;
  to = one.to;
}

-- a word is a pointer or a reference that is none
pub record IsPointer (set : ImageSet) (k : ℕ) (w : Word) : Type 0 where
  pub pointer : PlacedWord
  pub there : IsIn (ordered_pointers set k) pointer
  pub is : w ≡ pointer_word pointer

abbrev pub image_words : ImageSet → ℕ → Img → StreamLists → List Word
image_words set k i s = words_with k i s (ordered_pointers set k)

pub word_kinds : (set : ImageSet) (k : ℕ) (i : Img) (s : StreamLists) (w : Word) → IsIn (image_words set k i s) w → IsPointer set k w ⊎ IsOther k i s w
word_kinds set k i s w there =
    let placed : List PlacedWord = ordered_pointers set k in
    let others : List Reference = filter is_no_pointer s.references in
    elim (in_either (map pointer_word placed) (map (other_word k i) others) w there) [
      | inl pointer ↦ let p : IsOf pointer_word placed w = of_map pointer_word placed w pointer in inl (record { pointer = p.from; there = p.there; is = p.is })
      | inr other ↦ inr (other_of k i s w other)
    ]

pub word_stands : (set : ImageSet) (k : ℕ) (i : Img) (s : StreamLists) (w : Word) → IsOne set k i s → IsIn (image_words set k i s) w → Stands i w
word_stands set k i s w one there = elim (word_kinds set k i s w there) [
  | inl p ↦ subst (λ (v : Word). Stands i v) (sym p.is) (pointer_stands i p.pointer one.at.sound (pointer_is_word set k i s p.pointer one p.there))
  | inr r ↦
      subst (λ (v : Word). Stands i v) (sym r.is)
      (reference_stands k i s.rebases r.reference one.at.sound (all_in (IsReference i s.rebases) s.references r.reference (references_accepted i s one.at.sound one.split).all r.there))
]

-- ---- they keep apart

-- two words share no byte
abbrev pub Far : Word → Word → Type 0
Far v w = (v.at.address + width_of v.kind ≤ w.at.address) ⊎ (w.at.address + width_of w.kind ≤ v.at.address)

abbrev pub AreFar : List Word → Type 0
AreFar [] = Unit {0}
AreFar (w ∷ ws) = ((v : Word) → IsIn ws v → Far w v) × AreFar ws

far_both : (vs ws : List Word) → AreFar vs → AreFar ws → ((v w : Word) → IsIn vs v → IsIn ws w → Far v w) → AreFar (vs ++ ws)
far_both [] ws first second across = second
far_both (v ∷ vs) ws first second across = (
  λ x there. elim (in_either vs ws x there) [
    | inl left ↦ first.0 x left
    | inr right ↦ across v x (in_first v vs) right
  ],
  far_both vs ws first.1 second (λ x y in_x in_y. across x y (in_rest v vs x in_x) in_y),
)

all_above : (floor : ℕ) (ws : List PlacedWord) → SpacedFrom floor ws → (v : Word) → IsIn (map pointer_word ws) v → floor ≤ v.at.address
all_above floor [] spaced v there = absurd (in_none v there)
all_above floor (w ∷ ws) spaced v there = elim (in_cases (pointer_word w) (map pointer_word ws) v there) [
  | inl is ↦ subst (λ (x : Word). floor ≤ x.at.address) is spaced.0
  | inr later ↦ let rest : w.at.address + 8 ≤ v.at.address = all_above (w.at.address + 8) ws spaced.1 v later in omega (arith, spaced.0, rest)
]

pointers_far : (floor : ℕ) (ws : List PlacedWord) → SpacedFrom floor ws → AreFar (map pointer_word ws)
pointers_far floor [] spaced = tt
pointers_far floor (w ∷ ws) spaced = (λ v there. inl (all_above (w.at.address + 8) ws spaced.1 v there), pointers_far (w.at.address + 8) ws spaced.1)

unshared : (a m b n : ℕ) → shares a m b n ≡ false → (a + m ≤ b) ⊎ (b + n ≤ a)
unshared a m b n none = elim (cases_lt a (b + n)) [
  | inr behind ↦ inr behind
  | inl low ↦ elim (cases_lt b (a + m)) [
    | inr before ↦ inl before
    | inl high ↦ absurd (false≢true (sym none ∙ (let both : shares a m b n ≡ true = grind (arith, nat_tests) in both)))
  ]
]

references_far : (k : ℕ) (i : Img) (rs : List Reference) → AllPairs (λ (r q : Reference). meets r q ≡ false) rs → AreFar (map (other_word k i) rs)
references_far k i [] apart = tt
references_far k i (r ∷ rs) apart = (
  λ v there.
      let o : IsOf (other_word k i) rs v = of_map (other_word k i) rs v there in
      let q : Reference = o.from in
      let at : get_or rs o.there.number q ≡ q = get_or_from_slice_get rs o.there.number q q o.there.found in
      let within : o.there.number < length rs = slice_get_within rs o.there.number q o.there.found in
      let none : meets r q ≡ false = subst (λ (x : Reference). meets r x ≡ false) at (apart 0 (suc o.there.number) q (omega arith) (omega (arith, within))) in
      subst (λ (x : Word). Far (other_word k i r) x) (sym o.is) (unshared r.from (width_of r.kind) q.from (width_of q.kind) none),
  references_far k i rs (λ a b d lt inside. apart (suc a) (suc b) d (omega (arith, lt)) (omega (arith, inside))),
)

none_of : {X : Type 0} (p : X → Bool) (xs : List X) (x : X) → list_any p xs ≡ false → IsIn xs x → p x ≡ false
none_of p xs x none there = elim (cases_Bool (p x)) [
  | inr fails ↦ fails
  | inl passes ↦
      let at : get_or xs there.number x ≡ x = get_or_from_slice_get xs there.number x x there.found in
      absurd (false≢true (sym none ∙ list_any_at p xs there.number x (slice_get_within xs there.number x there.found) (ap p at ∙ passes)))
]

neither_of : (p a b : Bool) → p ≡ false → not p && (a || b) ≡ false → (a ≡ false) × (b ≡ false)
neither_of true a b other none = absurd (cc)
neither_of false true b other none = absurd (cc)
neither_of false false b other none = (refl, none)

flip : (a m b n : ℕ) → (a + m ≤ b) ⊎ (b + n ≤ a) → (b + n ≤ a) ⊎ (a + m ≤ b)
flip a m b n (inl before) = inr before
flip a m b n (inr behind) = inl behind

-- a pointer and a reference
pointer_far : (set : ImageSet) (k : ℕ) (i : Img) (s : StreamLists) (w : PlacedWord) (r : Reference) → IsImageOf set k i s → IsIn (ordered_pointers set k) w → is_pointer r.kind ≡ false → strays s.rebases (places_of s.binds) r ≡ false
    → Far (pointer_word w) (other_word k i r)
pointer_far set k i s w r of there other none =
    let two = neither_of (is_pointer r.kind) (meets_word s.rebases r) (meets_word (places_of s.binds) r) other none in
    let touches : Location → Bool = λ l. shares r.from (width_of r.kind) l.address 8 in
    let apart : touches w.at ≡ false = elim (pointer_place set k i s w of there) [
      | inl rebase ↦ none_of touches s.rebases w.at two.0 rebase
      | inr bind ↦ none_of touches (places_of s.binds) w.at two.1 bind
    ] in
    flip r.from (width_of r.kind) w.at.address 8 (unshared r.from (width_of r.kind) w.at.address 8 apart)

pub words_far : (set : ImageSet) (k : ℕ) (i : Img) (s : StreamLists) → IsOne set k i s → AreFar (image_words set k i s)
words_far set k i s one =
    let placed : List PlacedWord = ordered_pointers set k in
    let others : List Reference = filter is_no_pointer s.references in
    let are : AreReferences i s.rebases (places_of s.binds) s.references = references_accepted i s one.at.sound one.split in
    let order : ArePlaced (pointers_of set k) (ordered_pointers set k) = ordered_placed set k i s one.read.sound one.read.of.streams_are in
    let spaced : SpacedFrom 0 (ordered_pointers set k) = spaced_from 0 (ordered_pointers set k) (words_spaced set k i s (ordered_pointers set k) one.read.sound one.read.of.streams_are order) (λ d some. omega arith) in
    far_both (map pointer_word placed) (map (other_word k i) others) (pointers_far 0 placed spaced)
    (references_far k i others (AllPairs-filter (λ (r q : Reference). meets r q ≡ false) is_no_pointer s.references are.apart))
    (λ v w in_v in_w.
    let p : IsOf pointer_word placed v = of_map pointer_word placed v in_v in
    let r : IsOther k i s w = other_of k i s w in_w in
    let none : strays s.rebases (places_of s.binds) r.reference ≡ false = all_in (λ (q : Reference). strays s.rebases (places_of s.binds) q ≡ false) s.references r.reference are.off_words r.there in
    subst (λ (x : Word). Far x w) (sym p.is) (subst (λ (x : Word). Far (pointer_word p.from) x) (sym r.is)
    (pointer_far set k i s p.from r.reference one.read.of p.there r.other none)))
