-- The bytes of a cached section at which no chain word is: those that no pointer to a place has in the file.
use Rattle.std.proofs.Common.{◌≡◌, ◌≤◌, ◌<◌, ◌⊎◌, ℕ, ◌+◌, ◌-◌, ◌%◌, ◌^◌, Bool, true, false, not, ◌&&◌, nat_eq, Option, Some, None, List, [], ◌∷◌, length, refl, sym, ap, ◌∙◌, subst, arith, inl, inr, if◌then◌else◌}
use Rattle.std.specs.Prelude.{find, max, min}
use Rattle.std.specs.Option.{option_and_then}
use Rattle.std.proofs.lemmas.Bool.{cases_Bool, cases_lt, cond-true, cond-false, eqb-true, lt-ltb}
use Rattle.std.proofs.lemmas.Option.{same_Some, slice_get_within, get_or_from_slice_get}
use Rattle.dsc_base.specs.Region.{region_start}
use Rattle.macho_image.specs.Records.{Img}
use Rattle.macho_image.specs.declared.section.Section.{Section}
use Rattle.macho_image.specs.Places.{wrap, above}
use Rattle.slide_chain.specs.declared.words.ChainWord.{ChainWord}
use Rattle.prebind.specs.declared.resolved.PlacedWord.{PlacedWord}
use Rattle.cache_header.specs.declared.head.Mapping.{Mapping}
use Rattle.cache_header.specs.Reading.{head_read, mappings_of}
use Rattle.load_model.proofs.WordCases.{IsIn, in_first, in_rest}
use Rattle.cache_check.specs.Shape.{data_mapping}
use Rattle.cache_check.specs.Views.{view_of}
use Rattle.cache_check.specs.Verdict.{chains_of}
use Rattle.cache_check.specs.Bytes.{Chains, Pair, leads_to_place, pointer_here, shares_section, is_stray, stray, stray_of, stray_in}
use Rattle.cache_check.proofs.ChainLaws.{words_low}
use Rattle.cache_check.proofs.FirstLaws.{none_each}
use Rattle.cache_check.proofs.PairedLaws.{HasPair}
use Rattle.cache_check.proofs.ShapeLaws.{AreThree, data_is}
use Rattle.cache_check.proofs.SteadyLaws.{IsSteady}
use Rattle.cache_check.proofs.ViewLaws.{IsReadable, three_of, sound_view}

-- what is found in a list stands in it, and passes the test
pub find_in : {X : Type 0} (p : X → Bool) (xs : List X) (x : X) → find p xs ≡ Some x → IsIn xs x × (p x ≡ true)
find_in p [] x found = absurd (cc)
find_in {X = X} p (y ∷ ys) x found = elim (cases_Bool (p y)) [
  | inl passes ↦
      let same : y ≡ x = same_Some y x (sym (cond-true (p y) (Some y) (find p ys) passes) ∙ found) in
      (subst (λ (z : X). IsIn (y ∷ ys) z) same (in_first y ys), ap p (sym same) ∙ passes)
  | inr fails ↦
      let later = find_in p ys x (sym (cond-false (p y) (Some y) (find p ys) fails) ∙ found) in
      (in_rest y ys x later.0, later.1)
]

-- ---- where the data start

data_start : (cache : List ℕ) → IsReadable cache → (chains_of (view_of cache)).start ≡ region_start + (data_mapping (head_read cache).mappings).file
unfolding view_of head_read
data_start cache readable =
    let three : AreThree (length cache) (mappings_of cache) = three_of cache readable in
    ap (λ (m : Mapping). m.address) (data_is (length cache) (mappings_of cache) three) ∙ ap (λ (m : Mapping). region_start + m.file) (sym (data_is (length cache) (mappings_of cache) three))

pub chain_start : (cache : List ℕ) → IsReadable cache → (chains_of (view_of cache)).start ≡ region_start + (data_mapping (head_read cache).mappings).file
chain_start cache readable = data_start cache readable

pub chain_low : (cache : List ℕ) → IsReadable cache → (w : ChainWord) → IsIn (view_of cache).words w → (chains_of (view_of cache)).start + w.offset < 2 ^ 63
chain_low cache readable w there =
    let v = view_of cache in
    subst (λ (x : ChainWord). (data_mapping v.head.mappings).address + x.offset < 2 ^ 63) (get_or_from_slice_get v.words there.number w w there.found)
    (words_low v (sound_view cache readable) there.number w (slice_get_within v.words there.number w there.found))

-- ---- a chain word that isn't astray

not_some : {X : Type 0} (b : Bool) (x : X) → (if b then Some x else None) ≡ None → b ≡ false
not_some true x none = absurd (cc)
not_some false x none = refl

not_astray : (chains : Chains) (pointers : List PlacedWord) (number : ℕ) (p : Pair) (w : ChainWord) → stray_in chains pointers number p ≡ None → IsIn chains.words w → is_stray pointers p (wrap (chains.start + w.offset)) ≡ false
unfolding stray_in stray_of
not_astray chains pointers number p w none there =
    let here = none_each (stray_of chains pointers number p) (length chains.words) there.number none (slice_get_within chains.words there.number w there.found) in
    not_some (is_stray pointers p (wrap (chains.start + w.offset))) (stray number p w.value (wrap (chains.start + w.offset)))
    (sym (ap (λ (o : Option ChainWord). option_and_then (λ (v : ChainWord). if is_stray pointers p (wrap (chains.start + v.offset)) then Some (stray number p v.value (wrap (chains.start + v.offset))) else None) o) there.found) ∙ here)

-- a pointer of the file that leads to a place, where such a word begins
record HasPointer (pointers : List PlacedWord) (address : ℕ) : Type 0 where
  word : PlacedWord
  there : IsIn pointers word
  leads : leads_to_place (Some word) ≡ true
  at : word.at.address ≡ address

pointer_at : (pointers : List PlacedWord) (address : ℕ) → leads_to_place (pointer_here pointers address) ≡ true → HasPointer pointers address
unfolding pointer_here
pointer_at pointers address leads = at (find (λ (w : PlacedWord). nat_eq w.at.address address) pointers) refl leads
  where
    at : (o : Option PlacedWord) → find (λ (w : PlacedWord). nat_eq w.at.address address) pointers ≡ o → leads_to_place o ≡ true → HasPointer pointers address
    at None found leads = absurd (cc)
    at (Some w) found leads =
        let own = find_in (λ (v : PlacedWord). nat_eq v.at.address address) pointers w found in
        record { word = w; there = own.0; leads = leads; at = eqb-true w.at.address address own.1 }

begins_at : (pointers : List PlacedWord) (p : Pair) (a : ℕ) → is_stray pointers p a ≡ false → shares_section a p.there ≡ true → HasPointer pointers (wrap (p.here.addr + above p.there.addr a))
begins_at pointers p a none shares = pointer_at pointers (wrap (p.here.addr + above p.there.addr a)) (at (shares_section a p.there) (leads_to_place (pointer_here pointers (wrap (p.here.addr + above p.there.addr a)))) shares none)
  where
    at : (b c : Bool) → b ≡ true → b && not c ≡ false → c ≡ true
    at true true shares none = refl
    at true false shares none = absurd (cc)
    at false c shares none = absurd (cc)

-- ---- bytes of a section

module _ (cache : List ℕ) (readable : IsReadable cache) (pointers : List PlacedWord) (file image : Img) (j : ℕ) (u : Section) (pair : HasPair file image j u)
    (none : stray_in (chains_of (view_of cache)) pointers (j + 1) (record { own = pair.own; here = u; cached = pair.cached; there = pair.there }) ≡ None)
    (lie_low : (w : PlacedWord) → IsIn pointers w → w.at.address < 2 ^ 63) where
  -- a pointer to a place stands in the file where a chain word stands that has a byte of the section
  pointer_under : (o : ℕ) (w : ChainWord) → o < u.size → IsIn (view_of cache).words w → (chains_of (view_of cache)).start + w.offset ≤ pair.there.addr + o → pair.there.addr + o < (chains_of (view_of cache)).start + w.offset + 8
      → ((v : PlacedWord) → IsIn pointers v → leads_to_place (Some v) ≡ true → (u.addr + o < v.at.address) ⊎ (v.at.address + 8 ≤ u.addr + o)) → ⊥
  unfolding above
  pointer_under o w lt there from to apart =
      let chains : Chains = chains_of (view_of cache) in
      let p : Pair = record { own = pair.own; here = u; cached = pair.cached; there = pair.there } in
      let a : ℕ = (chains_of (view_of cache)).start + w.offset in
      let low : (chains_of (view_of cache)).start + w.offset < 2 ^ 63 = chain_low cache readable w there in
      let plain : wrap ((chains_of (view_of cache)).start + w.offset) ≡ (chains_of (view_of cache)).start + w.offset = omega (arith, low) in
      let kept : is_stray pointers p ((chains_of (view_of cache)).start + w.offset) ≡ false = subst (λ (x : ℕ). is_stray pointers p x ≡ false) plain (not_astray chains pointers (j + 1) p w none there) in
      let shares : shares_section ((chains_of (view_of cache)).start + w.offset) pair.there ≡ true =
      lt-ltb (max ((chains_of (view_of cache)).start + w.offset) pair.there.addr) (min ((chains_of (view_of cache)).start + w.offset + 8) (pair.there.addr + pair.there.size)) (omega (arith, from, to, lt, pair.size)) in
      let found : HasPointer pointers (wrap (u.addr + above pair.there.addr ((chains_of (view_of cache)).start + w.offset))) = begins_at pointers p ((chains_of (view_of cache)).start + w.offset) kept shares in
      let small : found.word.at.address < 2 ^ 63 = lie_low found.word found.there in
      let at : found.word.at.address ≡ (u.addr + ((chains_of (view_of cache)).start + w.offset + (2 ^ 64 - pair.there.addr)) % 2 ^ 64) % 2 ^ 64 = found.at in
      elim (apart found.word found.there found.leads) [
        | inl before ↦ omega (arith, before, at, small, low, from, to, lt, pair.own_from, pair.own_to, pair.own_low, pair.to, pair.low, pair.size)
        | inr behind ↦ omega (arith, behind, at, small, low, from, to, lt, pair.own_from, pair.own_to, pair.own_low, pair.to, pair.low, pair.size)
      ]

  pub stands_still : (o : ℕ) → o < u.size → region_start ≤ pair.there.addr → ((v : PlacedWord) → IsIn pointers v → leads_to_place (Some v) ≡ true → (u.addr + o < v.at.address) ⊎ (v.at.address + 8 ≤ u.addr + o))
      → IsSteady cache (pair.there.addr + o - region_start)
  stands_still o lt low apart w there =
      let start : (chains_of (view_of cache)).start ≡ region_start + (data_mapping (head_read cache).mappings).file = chain_start cache readable in
      elim (cases_lt (pair.there.addr + o) ((chains_of (view_of cache)).start + w.offset)) [
        | inl before ↦ inl (omega (arith, before, start, low))
        | inr from ↦ elim (cases_lt (pair.there.addr + o) ((chains_of (view_of cache)).start + w.offset + 8)) [
          | inl to ↦ absurd (pointer_under o w lt there from to apart)
          | inr behind ↦ inr (omega (arith, behind, start, low))
        ]
      ]
