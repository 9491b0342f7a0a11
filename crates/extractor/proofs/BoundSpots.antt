-- The bound words of a cache of which nothing is found: each has the number of its target, and slides where that is a place.
use Rattle.std.proofs.Common.{◌≡◌, ◌≤◌, ◌<◌, ℕ, zero, suc, ◌+◌, Bool, true, false, not, ◌&&◌, ◌||◌, nat_eq, Option, Some, None, List, [], ◌∷◌, map, refl, sym, ap, ap₂, ◌∙◌, subst, arith, inl, inr, if◌then◌else◌}
use Rattle.std.specs.Prelude.{slice_get, option_map, position}
use Rattle.std.proofs.lemmas.Bool.{cases_eq, eq-eqb, ne_eqb, not-false, cond-false, false≢true}
use Rattle.std.proofs.lemmas.Bool.Decides.{nat_tests}
use Rattle.std.proofs.lemmas.Option.{same_Some, slice_get-map}
use Rattle.dsc_base.specs.declared.finding_kind.FindingKind.TheVariants.{PointerNotSymbol}
use Rattle.macho_image.specs.Records.{Seg, Img}
use Rattle.macho_image.specs.Order.{is_near}
use Rattle.macho_image.specs.Places.{wrap}
use Rattle.macho_image.specs.Rules.{is_linkedit_segment}
use Rattle.macho_image.specs.Segments.{start_of, segments_at, value_of}
use Rattle.bind_ops.specs.Records.{BoundWord}
use Rattle.split_info.specs.declared.reference.RefKind.TheVariants.{Pointer64}
use Rattle.prebind.specs.Agree.{extent, body_extent}
use Rattle.prebind.specs.declared.resolved.PlacedWord.{PlacedWord}
use Rattle.prebind.specs.declared.resolved.WordTarget.TheVariants.{Place, Constant}
use Rattle.prebind.specs.Numbers.{Starts, counted_to, cut_to, number_to}
use Rattle.prebind.specs.Places.{is_linkedit_at}
use Rattle.prebind.specs.Sets.{all_binds}
use Rattle.prebind.specs.Targets.{bound_target, outcome_of}
use Rattle.prebind.specs.Words.{Word, placed_bind, is_bound, bound_words, words_of}
use Rattle.slide_chain.specs.declared.words.ChainWord.{ChainWord}
use Rattle.cache_header.specs.Findings.{finding}
use Rattle.load_model.specs.Corresponds.{IsWordOf}
use Rattle.load_model.proofs.LoadedWords.{IsReadImage}
use Rattle.load_model.proofs.RuledWords.{position_none}
use Rattle.load_model.proofs.SoundApart.{sound_apart}
use Rattle.load_model.proofs.WordCases.{IsIn, in_first, in_rest, in_none, in_cases, in_map, IsImageOf, bind_word, bound_in}
use Rattle.cache_check.specs.Images.{images_of}
use Rattle.cache_check.proofs.AwayLaws.{LeadsBesides, word_besides}
use Rattle.extractor.specs.Extracted.{extracted_set}
use Rattle.extractor.specs.Placing.{crosses, is_crossed}
use Rattle.extractor.specs.Vets.{Parts, IsVetted}
use Rattle.extractor.specs.Vetting.{cached_lists, cached_set, chain_finding, pointer_in, pointer_finding, words_finding, is_chained, is_number_of, is_set, start_at}
use Rattle.extractor.proofs.ChainLaws.{binds_are}
use Rattle.extractor.proofs.ExtractedLaws.{IsFile, cached_inside, bodies}
use Rattle.extractor.proofs.NearLaws.{AreClear, any_in}
use Rattle.extractor.proofs.ReadLaws.{neither}
use Rattle.extractor.proofs.ReadyLaws.{all_none, each_none}
use Rattle.extractor.proofs.SetLaws.{streams_sound}

-- ---- whether an address is bound, and whether a chain word is there

pub unbound : (bs : List BoundWord) (a y : ℕ) → AreClear (λ (b : BoundWord). b.at.address) bs y → a ≤ y → y < a + 8 → is_bound bs a ≡ false
unbound [] a y clear from to = refl
unbound (b ∷ bs) a y clear from to =
    ap₂ (λ (p q : Bool). p || q)
    (ne_eqb b.at.address a (λ same. elim (clear b (in_first b bs)) [
      | inl before ↦ omega (arith, before, same, from)
      | inr behind ↦ omega (arith, behind, same, to)
    ]))
    (unbound bs a y (λ c there. clear c (in_rest b bs c there)) from to)

-- a bind and a chain word that have one byte are at one address, where none of the two crosses the other
pub one_place : (bs : List BoundWord) (b : BoundWord) (a y : ℕ) → is_crossed bs a ≡ false → IsIn bs b → b.at.address ≤ y → y < b.at.address + 8 → a ≤ y → y < a + 8 → b.at.address ≡ a
one_place bs b a y none there own_from own_to from to = elim (cases_eq b.at.address a) [
  | inl same ↦ same
  | inr other ↦
      let x : ℕ = b.at.address in
      let shares : is_near b.at.address a ≡ true = grind (arith, nat_tests) in
      let differ : not (nat_eq b.at.address a) ≡ true = ap not (ne_eqb b.at.address a other) in
      let crossing : crosses a b ≡ true = ap₂ (λ (p q : Bool). p && q) shares differ in
      absurd (false≢true (sym none ∙ any_in (crosses a) bs b there crossing))
]

pub record IsChainedAt (start : ℕ) (ws : List ChainWord) (a : ℕ) : Type 0 where
  pub word : ChainWord
  pub there : IsIn ws word
  pub at : a ≡ start + word.offset

pub chained_at : (start : ℕ) (ws : List ChainWord) (a : ℕ) → is_chained start ws a ≡ true → IsChainedAt start ws a
chained_at start [] a is = absurd (false≢true is)
chained_at start (w ∷ ws) a is = elim (cases_eq a (start + w.offset)) [
  | inl same ↦ record { word = w; there = in_first w ws; at = same }
  | inr other ↦
      let later = chained_at start ws a (ap (λ (b : Bool). b || is_chained start ws a) (sym (ne_eqb a (start + w.offset) other)) ∙ is) in
      record { word = later.word; there = in_rest w ws later.word later.there; at = later.at }
]

pub is_there : (start : ℕ) (ws : List ChainWord) (a : ℕ) (w : ChainWord) → IsIn ws w → a ≡ start + w.offset → is_chained start ws a ≡ true
is_there start ws a w there at = any_in (λ (x : ChainWord). nat_eq a (start + x.offset)) ws w there (eq-eqb a (start + w.offset) at)

-- ---- bound words

no_pointer : (k : ℕ) (o : Option ℕ) → option_map (λ (j : ℕ). finding PointerNotSymbol k j) o ≡ None → o ≡ None
no_pointer k None none = refl
no_pointer k (Some j) none = absurd (cc)

pub pointers_none : (start : ℕ) (words : List ChainWord) (images : List Img) → words_finding start words (cached_set images) ≡ None → pointer_finding start words (cached_set images) ≡ None
unfolding words_finding
pointers_none start words images none = (neither (pointer_finding start words (cached_set images)) _ (neither (chain_finding start words (cached_set images)) _ none).1).0

pub chains_none : (start : ℕ) (words : List ChainWord) (images : List Img) → words_finding start words (cached_set images) ≡ None → chain_finding start words (cached_set images) ≡ None
unfolding words_finding
chains_none start words images none = (neither (chain_finding start words (cached_set images)) _ none).0

bind_there : (images : List Img) (k : ℕ) (i : Img) (b : BoundWord) → slice_get images k ≡ Some i → IsIn (all_binds i) b → IsIn (bound_words (cached_set images) k) (placed_bind (cached_set images) k b)
unfolding bound_words cached_set
bind_there images k i b got there = in_map (placed_bind (cached_set images) k) _ b (subst (λ (bs : List BoundWord). IsIn bs b) (sym (binds_are images k i got)) there)

-- each bound word has the number of its target, and slides where that is a place
pub set_there : (start : ℕ) (words : List ChainWord) (images : List Img) (k : ℕ) (i : Img) (b : BoundWord) → pointer_finding start words (cached_set images) ≡ None → slice_get images k ≡ Some i → IsIn (all_binds i) b
    → is_number_of images (is_chained start words b.at.address) (value_of i.segments b.at) (bound_target b.addend (outcome_of (cached_set images) k b)) ≡ true
unfolding pointer_finding pointer_in cached_set
set_there start words images k i b none got there =
    let first : 0 + k ≡ k = omega arith in
    let own : pointer_in start words (cached_set images) k i ≡ None = sym (ap (λ (n : ℕ). pointer_in start words (cached_set images) n i) first) ∙ each_none (pointer_in start words (cached_set images)) 0 k images i none got in
    let place = no_pointer k (position (λ (w : PlacedWord). not (is_set start words images i.segments w)) (bound_words (cached_set images) k)) own in
    not-false (is_set start words images i.segments (placed_bind (cached_set images) k b))
    (position_none (λ (w : PlacedWord). not (is_set start words images i.segments w)) (bound_words (cached_set images) k) (placed_bind (cached_set images) k b) place (bind_there images k i b got there))

-- ---- where segments start

by_extent : (s t : Seg) (b : Bool) → (if b then None else Some (extent s)) ≡ Some (extent t) → s.vmaddr ≡ t.vmaddr
by_extent s t true same = absurd (cc)
by_extent s t false same = ap (λ (e : ℕ × ℕ). e.0) (same_Some (extent s) (extent t) same)

same_start : (ss ts : List Seg) (g : ℕ) → map body_extent ss ≡ map body_extent ts → is_linkedit_at (slice_get ts g) ≡ false → start_of (slice_get ss g) ≡ start_of (slice_get ts g)
same_start ss [] g same other = absurd (false≢true (sym other))
same_start [] (t ∷ ts) g same other = absurd (cc)
same_start (s ∷ ss) (t ∷ ts) zero same other =
    let here : body_extent s ≡ body_extent t = cc in
    by_extent s t (is_linkedit_segment s) (here ∙ cond-false (is_linkedit_segment t) None (Some (extent t)) other)
same_start (s ∷ ss) (t ∷ ts) (suc g) same other =
    let later : map body_extent ss ≡ map body_extent ts = cc in
    same_start ss ts g later other

in_word : (ws : List Word) (w : Word) → IsIn ws w → IsWordOf ws w
in_word [] w there = absurd (in_none w there)
in_word (v ∷ vs) w there = elim (in_cases v vs w there) [
  | inl is ↦ inl (sym is)
  | inr later ↦ inr (in_word vs w later)
]

-- no bound word leads to a place of `__LINKEDIT`
pub besides : (p : Parts) (k : ℕ) (i : Img) (b : BoundWord) (vetted : IsVetted p) → IsFile p k i → slice_get (images_of p.view) k ≡ Some i → IsIn (all_binds i) b
    → LeadsBesides (images_of p.view) (bound_target b.addend (outcome_of (cached_set (images_of p.view)) k b))
unfolding cached_set
besides p k i b vetted file got there =
    let images : List Img = images_of p.view in
    let of : IsImageOf (cached_set (images_of p.view)) k i (cached_lists i) = record { image_is = got; streams_are = slice_get-map cached_lists images k ∙ ap (λ (o : Option Img). option_map cached_lists o) got } in
    let read : IsReadImage (cached_set (images_of p.view)) k i (cached_lists i) = record { of = of; sound = streams_sound i file.ready.read; apart = sound_apart i file.sound } in
    let inside = cached_inside images (all_none p.view vetted.none).links in
    word_besides (cached_set images) k i (cached_lists i) (bind_word (cached_set images) k b) inside read file.sound (in_word (words_of (cached_set images) k) (bind_word (cached_set images) k b) (bound_in (cached_set images) k i (cached_lists i) b of there))

pub starts_same : (p : Parts) (k g : ℕ) → IsVetted p → is_linkedit_at (slice_get (segments_at (images_of p.view) k) g) ≡ false
    → start_of (slice_get (segments_at (extracted_set p.view).images k) g) ≡ start_at (images_of p.view) k g
unfolding cached_set
starts_same p k g vetted other = same_start (segments_at (extracted_set p.view).images k) (segments_at (images_of p.view) k) g (bodies p vetted k) other

pub place_number : (starts : Starts) (location k g distance : ℕ) → number_to starts location 0 Pointer64 (Place k g distance) ≡ wrap (starts k g + distance)
unfolding number_to counted_to cut_to
place_number starts location k g distance = refl

pub constant_number : (starts : Starts) (location c : ℕ) → number_to starts location 0 Pointer64 (Constant c) ≡ c
unfolding number_to
constant_number starts location c = refl

pub raised : (start own distance slide value : ℕ) → own ≡ start → value ≡ wrap (start + distance) → wrap (wrap (own + slide) + distance) ≡ wrap (value + slide)
raised start own distance slide value same is = omega (arith, same, is)
