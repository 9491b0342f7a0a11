-- Words of an image share no byte with its pointers to places.
use Rattle.std.proofs.Common.{◌≡◌, ◌≤◌, ◌<◌, ◌⊎◌, ℕ, zero, suc, ◌+◌, ◌^◌, Bool, true, false, not, ◌&&◌, ◌||◌, Option, Some, None, List, [], ◌∷◌, refl, sym, ap, ap₂, ◌∙◌, subst, arith, inl, inr, if◌then◌else◌}
use Rattle.std.specs.Prelude.{slice_get}
use Rattle.std.proofs.lemmas.Bool.{cases_lt, false≢true}
use Rattle.std.proofs.lemmas.Bool.Decides.{nat_tests}
use Rattle.std.proofs.lemmas.Option.{same_Some}
use Rattle.macho_image.specs.Records.{Img}
use Rattle.macho_image.specs.Breaks.{IsSound}
use Rattle.macho_image.specs.declared.place.Location.{Location}
use Rattle.macho_image.specs.declared.places.segment_index.Inside.{Inside}
use Rattle.macho_image.specs.Order.{is_near}
use Rattle.macho_image.specs.Places.{above}
use Rattle.macho_image.specs.Segments.{segments_in, start_of, inside}
use Rattle.bind_ops.specs.Records.{BoundWord}
use Rattle.bind_ops.specs.Binds.{places_of as bind_places}
use Rattle.split_info.specs.declared.reference.Reference.{Reference}
use Rattle.split_info.specs.Overlap.{is_pointer, shares, meets_word, strays}
use Rattle.split_info.specs.References.{width_of}
use Rattle.prebind.specs.declared.resolved.PlacedWord.{PlacedWord}
use Rattle.prebind.specs.declared.resolved.WordTarget.{WordTarget}
use Rattle.prebind.specs.declared.resolved.WordTarget.TheVariants.{Place, Constant}
use Rattle.prebind.specs.Sets.{StreamLists, ImageSet}
use Rattle.prebind.specs.Places.{is_linkedit_at}
use Rattle.prebind.specs.Targets.{value_place, rebase_target, bound_target, outcome_of}
use Rattle.prebind.specs.WordRules.{breaks_135, breaks_136, leads_into_linkedit, leads_nowhere}
use Rattle.prebind.specs.Words.{all_pointers, pointers_of, streams_in, ordered_pointers}
use Rattle.load_model.proofs.LoadedWords.{IsReadImage}
use Rattle.load_model.proofs.LoadedReferences.{reference_accepted}
use Rattle.load_model.proofs.SpreadLaws.{far, AreFar, binds_far, bound_is_word, rebase_is_word, word_low, free_far}
use Rattle.load_model.proofs.WordCases.{IsIn, in_none, in_cases, in_map, IsImageOf, IsBoundPointer, IsFreePointer, pointer_kinds}
use Rattle.cache_check.specs.Bytes.{leads_to_place}
use Rattle.cache_check.proofs.WordOrder.{of_ordered}

-- ---- what a pointer is

pointers_are : (set : ImageSet) (k : ℕ) (i : Img) (s : StreamLists) → IsImageOf set k i s → pointers_of set k ≡ all_pointers set k i.segments s
unfolding pointers_of
pointers_are set k i s of = ap₂ (λ (o : Option Img) (t : Option StreamLists). all_pointers set k (segments_in o) (streams_in t)) of.image_is of.streams_are

pub pointer_of : (set : ImageSet) (k : ℕ) (i : Img) (s : StreamLists) (v : PlacedWord) → IsImageOf set k i s → IsIn (ordered_pointers set k) v → IsBoundPointer set k s v ⊎ IsFreePointer k i s v
pointer_of set k i s v of there = pointer_kinds set k i s v (subst (λ (ws : List PlacedWord). IsIn ws v) (pointers_are set k i s of) (of_ordered set k v there))

pub pointer_low : (set : ImageSet) (k : ℕ) (i : Img) (s : StreamLists) (v : PlacedWord) → IsReadImage set k i s → IsIn (ordered_pointers set k) v → v.at.address < 2 ^ 63
pointer_low set k i s v read there = elim (pointer_of set k i s v read.of there) [
  | inl bound ↦
      let low = word_low i bound.bind.at read.apart (bound_is_word i s bound.bind read.sound bound.there) in
      subst (λ (x : PlacedWord). x.at.address < 2 ^ 63) (sym bound.is) (omega (arith, low))
  | inr free ↦
      let low = word_low i free.place read.apart (rebase_is_word i s free.place read.sound free.there) in
      subst (λ (x : PlacedWord). x.at.address < 2 ^ 63) (sym free.is) (omega (arith, low))
]

-- ---- bound words that lead to a number

far_behind : (bs : List BoundWord) (n m : ℕ) (b c : BoundWord) → AreFar bs → slice_get bs n ≡ Some b → slice_get bs m ≡ Some c → n < m → is_near b.at.address c.at.address ≡ false
far_behind [] n m b c apart got found lt = absurd (cc)
far_behind (x ∷ xs) zero zero b c apart got found lt = absurd (omega (arith, lt))
far_behind (x ∷ xs) zero (suc m) b c apart got found lt = subst (λ (y : BoundWord). is_near y.at.address c.at.address ≡ false) (same_Some x b got) (apart.0 c (record { number = m; found = found }))
far_behind (x ∷ xs) (suc n) zero b c apart got found lt = absurd (omega (arith, lt))
far_behind (x ∷ xs) (suc n) (suc m) b c apart got found lt = far_behind xs n m b c apart.1 got found (omega (arith, lt))

not_place : (v : PlacedWord) (c : ℕ) → leads_to_place (Some v) ≡ true → v.target ≡ Constant c → ⊥
not_place v c leads is = at v.target leads is
  where
    at : (t : WordTarget) → leads_to_place (Some (record { at = v.at; target = t })) ≡ true → t ≡ Constant c → ⊥
    at (Place k g distance) leads is = cc
    at (Constant n) leads is = cc

-- a bound word that is a number keeps apart from pointers to places
pub bound_apart : (set : ImageSet) (k : ℕ) (i : Img) (s : StreamLists) (b : BoundWord) (c : ℕ) → IsReadImage set k i s → IsIn s.binds b → bound_target b.addend (outcome_of set k b) ≡ Constant c
    → (v : PlacedWord) → IsIn (ordered_pointers set k) v → leads_to_place (Some v) ≡ true → (v.at.address + 8 ≤ b.at.address) ⊎ (b.at.address + 8 ≤ v.at.address)
bound_apart set k i s b c read there constant v in_v leads = elim (pointer_of set k i s v read.of in_v) [
  | inl bound ↦
      let spread : AreFar s.binds = binds_far i s read.sound in
      subst (λ (x : PlacedWord). (x.at.address + 8 ≤ b.at.address) ⊎ (b.at.address + 8 ≤ x.at.address)) (sym bound.is)
      (elim (cases_lt bound.there.number there.number) [
        | inl before ↦ far bound.bind.at.address b.at.address (far_behind s.binds bound.there.number there.number bound.bind b spread bound.there.found there.found before)
        | inr from ↦ elim (cases_lt there.number bound.there.number) [
          | inl after ↦ elim (far b.at.address bound.bind.at.address (far_behind s.binds there.number bound.there.number b bound.bind spread there.found bound.there.found after)) [ inl below ↦ inr below | inr above ↦ inl above ]
          | inr to ↦
              let number : there.number ≡ bound.there.number = omega (arith, from, to) in
              let same : b ≡ bound.bind = same_Some b bound.bind (sym there.found ∙ (ap (λ (n : ℕ). slice_get s.binds n) number ∙ bound.there.found)) in
              absurd (not_place v c leads (ap (λ (x : PlacedWord). x.target) bound.is ∙ (ap (λ (x : BoundWord). bound_target x.addend (outcome_of set k x)) (sym same) ∙ constant)))
        ]
      ])
  | inr free ↦
      subst (λ (x : PlacedWord). (x.at.address + 8 ≤ b.at.address) ⊎ (b.at.address + 8 ≤ x.at.address)) (sym free.is) (free_far i s free.place b read.sound free.there free.free there)
]

-- ---- a rebase that isn't bound leads to a place

pub free_place : (k : ℕ) (i : Img) (value c : ℕ) (o : Option ℕ) → breaks_135 i.segments value o ≡ false → breaks_136 i.segments value o ≡ false → rebase_target k i.segments value o ≡ Constant c → ⊥
free_place k i value c (Some g) linkedit nowhere is = place_is k g (above (start_of (slice_get i.segments g)) value) c is
  where
    place_is : (k g distance c : ℕ) → Place k g distance ≡ Constant c → ⊥
    place_is k g distance c is = cc
free_place k i value c None linkedit nowhere is = at (inside i.segments value) linkedit nowhere is
  where
    at : (p : Option Inside) → leads_into_linkedit i.segments p ≡ false → leads_nowhere p ≡ false → value_place k i.segments value p ≡ Constant c → ⊥
    at None linkedit nowhere is = cc
    at (Some p) linkedit nowhere is = by (is_linkedit_at (slice_get i.segments p.segment)) linkedit is
      where
        by : (b : Bool) → b ≡ false → (if b then Constant value else Place k p.segment p.distance) ≡ Constant c → ⊥
        by true other is = cc
        by false other is = cc

-- ---- references that are no pointers

or_false : (a b : Bool) → a || b ≡ false → (a ≡ false) × (b ≡ false)
or_false true b is = absurd (cc)
or_false false b is = (refl, is)

not_met : (words : List Location) (r : Reference) (l : Location) → meets_word words r ≡ false → IsIn words l → shares r.from (width_of r.kind) l.address 8 ≡ false
not_met [] r l none there = absurd (in_none l there)
not_met (m ∷ ms) r l none there =
    let two = or_false (shares r.from (width_of r.kind) m.address 8) (meets_word ms r) none in
    elim (in_cases m ms l there) [
      | inl is ↦ subst (λ (x : Location). shares r.from (width_of r.kind) x.address 8 ≡ false) is two.0
      | inr later ↦ not_met ms r l two.1 later
    ]

apart_byte : (from width a n : ℕ) → shares from width a 8 ≡ false → n < width → (from + n < a) ⊎ (a + 8 ≤ from + n)
apart_byte from width a n none lt = elim (cases_lt (from + n) a) [
  | inl before ↦ inl before
  | inr behind ↦ elim (cases_lt (from + n) (a + 8)) [
    | inl within ↦
        let first : from < a + 8 = omega (arith, within) in
        let last : a < from + width = omega (arith, behind, lt) in
        absurd (false≢true (sym none ∙ (let both : shares from width a 8 ≡ true = grind (arith, nat_tests) in both)))
    | inr above ↦ inr above
  ]
]

no_word : (rebases bound : List Location) (r : Reference) → is_pointer r.kind ≡ false → strays rebases bound r ≡ false → (meets_word rebases r ≡ false) × (meets_word bound r ≡ false)
no_word rebases bound r other none = at (is_pointer r.kind) (meets_word rebases r) (meets_word bound r) other none
  where
    at : (p a b : Bool) → p ≡ false → not p && (a || b) ≡ false → (a ≡ false) × (b ≡ false)
    at true a b other none = absurd (cc)
    at false a b other none = or_false a b none

pub reference_apart : (set : ImageSet) (k : ℕ) (i : Img) (s : StreamLists) (r : Reference) (n : ℕ) → IsReadImage set k i s → IsSound i → IsIn s.references r → is_pointer r.kind ≡ false → n < width_of r.kind
    → (v : PlacedWord) → IsIn (ordered_pointers set k) v → (r.from + n < v.at.address) ⊎ (v.at.address + 8 ≤ r.from + n)
reference_apart set k i s r n read sound there other lt v in_v =
    let two = reference_accepted i s r sound read.sound there in
    let free = no_word s.rebases (bind_places s.binds) r other two.1 in
    elim (pointer_of set k i s v read.of in_v) [
      | inl bound ↦
          subst (λ (x : PlacedWord). (r.from + n < x.at.address) ⊎ (x.at.address + 8 ≤ r.from + n)) (sym bound.is)
          (apart_byte r.from (width_of r.kind) bound.bind.at.address n (not_met (bind_places s.binds) r bound.bind.at free.1 (in_map (λ (c : BoundWord). c.at) s.binds bound.bind bound.there)) lt)
      | inr rebased ↦
          subst (λ (x : PlacedWord). (r.from + n < x.at.address) ⊎ (x.at.address + 8 ≤ r.from + n)) (sym rebased.is)
          (apart_byte r.from (width_of r.kind) rebased.place.address n (not_met s.rebases r rebased.place free.0 rebased.there) lt)
    ]
