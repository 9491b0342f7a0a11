-- What the rules on where values lead say of a rebase that isn't bound, and each word of a sound set leads to its target once its image is loaded.
use Rattle.std.proofs.Common.{◌≡◌, ◌≤◌, ◌<◌, ℕ, ◌+◌, Bool, true, false, not, ◌&&◌, cond, Option, Some, None, List, [], ◌∷◌, length, refl, sym, ap₂, ◌∙◌, subst, arith, inl, inr}
use Rattle.std.specs.Prelude.{nat_lt, slice_get, option_map}
use Rattle.std.specs.List.{position, position_or_len}
use Rattle.std.proofs.lemmas.Bool.Decides.{nat_tests}
use Rattle.std.proofs.lemmas.List.Sums.{fails_before_first}
use Rattle.std.proofs.lemmas.Option.{slice_get_within, get_or_from_slice_get, slice_get_cases}
use Rattle.dsc_base.specs.declared.fault.Site.{Site}
use Rattle.dsc_base.specs.declared.fault.Break.{Break}
use Rattle.dsc_base.specs.declared.rule.Rule.TheVariants.{PointsIntoLinkedit, RebaseOutside, PointerOutOfRange}
use Rattle.dsc_base.specs.Refusals.{in_image, in_each}
use Rattle.macho_image.specs.Records.{Seg, Img}
use Rattle.macho_image.specs.Breaks.{IsSound}
use Rattle.macho_image.specs.declared.place.Location.{Location}
use Rattle.macho_image.specs.Segments.{header_address, segments_in, value_of}
use Rattle.macho_image.proofs.Unbroken.{or_none, broken_none}
use Rattle.prebind.specs.Sets.{StreamLists, ImageSet, IsSoundSet}
use Rattle.prebind.specs.Targets.{pointer_at}
use Rattle.prebind.specs.Words.{Word, is_bound, streams_in, words_of}
use Rattle.prebind.specs.WordRules.{breaks_135, breaks_136, breaks_137, rebases_broken, symbol_break, linkedit_pointer_break, stray_pointer_break, recorded_pointer_break, place_break}
use Rattle.load_model.specs.Corresponds.{IsWordOf, Leads, loaded_side}
use Rattle.load_model.proofs.LoadingLaws.{AreApart}
use Rattle.load_model.proofs.WordCases.{IsIn, in_cases, in_none, IsImageOf, word_cases}
use Rattle.load_model.proofs.LoadedWords.{IsReadImage, bound_leads, free_leads}
use Rattle.load_model.proofs.LoadedReferences.{HaveBytes, reference_leads}

-- ---- an image of a sound set

-- an image of a sound set was read
pub record HasStreams (set : ImageSet) (k : ℕ) (i : Img) : Type 0 where
  pub streams : StreamLists
  pub read : IsReadImage set k i streams

pub read_image : (set : ImageSet) (k : ℕ) (i : Img) → IsSoundSet set → slice_get set.images k ≡ Some i → AreApart i.segments → HasStreams set k i
read_image set k i sound image apart =
    let found = slice_get_cases set.streams k in
    let within : k < length set.images = slice_get_within set.images k i image in
    elim found.1 [
      | inl there ↦ record {
        streams = there.0;
        read = record { of = record { image_is = image; streams_are = there.2 }; sound = sound.streams k i there.0 image there.2; apart = apart };
      }
      | inr past ↦ absurd (omega (arith, within, past.0, sound.many))
    ]

-- ---- the rules of an image

no_index : (b : Bool) (n : ℕ) → cond b (Some n) None ≡ None → b ≡ false
no_index true n none = absurd (cc)
no_index false n none = refl

pub position_none : {X : Type 0} (p : X → Bool) (xs : List X) (x : X) → position p xs ≡ None → IsIn xs x → p x ≡ false
position_none p xs x none there =
    let far : nat_lt (position_or_len p xs) (length xs) ≡ false = no_index (nat_lt (position_or_len p xs) (length xs)) (position_or_len p xs) none in
    let end : length xs ≤ position_or_len p xs = grind (arith, nat_tests) in
    let within : there.number < length xs = slice_get_within xs there.number x there.found in
    subst (λ y. p y ≡ false) (get_or_from_slice_get xs there.number x x there.found) (fails_before_first p xs there.number x (omega (arith, end, within)))

-- what a rule on where rebases lead says of one that isn't bound
pub kept : (breaks : List Seg → ℕ → Option ℕ → Bool) (ss : List Seg) (s : StreamLists) (l : Location) → rebases_broken breaks ss s ≡ None → IsIn s.rebases l → is_bound s.binds l.address ≡ false
    → breaks ss (value_of ss l) (pointer_at s.references l.address) ≡ false
kept breaks ss s l none there free =
    both (is_bound s.binds l.address) (breaks ss (value_of ss l) (pointer_at s.references l.address)) free
    (position_none (λ (m : Location). not (is_bound s.binds m.address) && breaks ss (value_of ss m) (pointer_at s.references m.address)) s.rebases l none there)
  where
    both : (b c : Bool) → b ≡ false → not b && c ≡ false → c ≡ false
    both true c free is = absurd (cc)
    both false c free is = is

pub no_site : (k : ℕ) (o : Option Site) → option_map {T = Site} {U = Break} (in_image k) o ≡ None → o ≡ None
no_site k None none = refl
no_site k (Some s) none = absurd (cc)

-- where none of several breaks anything, each by itself breaks nothing
pub unbroken_each : {X : Type 0} (breaks : X → Option Site) (n : ℕ) (xs : List X) (x : X) → in_each breaks n xs ≡ None → IsIn xs x → breaks x ≡ None
unfolding in_each
unbroken_each breaks n [] x none there = absurd (in_none x there)
unbroken_each {X = X} breaks n (y ∷ ys) x none there =
    let two = or_none (option_map {T = Site} {U = Break} (in_image n) (breaks y)) (in_each breaks (n + 1) ys) none in
    elim (in_cases y ys x there) [
      | inl is ↦ subst (λ (z : X). breaks z ≡ None) is (no_site n (breaks y) two.0)
      | inr later ↦ unbroken_each breaks (n + 1) ys x two.1 later
    ]

abbrev broken_by : (List Seg → ℕ → Option ℕ → Bool) → Option Img → Option StreamLists → Option ℕ
broken_by breaks i s = rebases_broken breaks (segments_in i) (streams_in s)

-- no rebase leads into `__LINKEDIT`, outside the image, or outside the segment that is recorded for it
pub record KeepsRules (i : Img) (s : StreamLists) : Type 0 where
  pub linkedit : rebases_broken breaks_135 i.segments s ≡ None
  pub nowhere : rebases_broken breaks_136 i.segments s ≡ None
  pub out : rebases_broken breaks_137 i.segments s ≡ None

pub keeps_rules : (set : ImageSet) (k : ℕ) (i : Img) (s : StreamLists) → IsImageOf set k i s → place_break set k ≡ None → KeepsRules i s
unfolding place_break linkedit_pointer_break stray_pointer_break recorded_pointer_break
keeps_rules set k i s of none =
    let one = or_none (symbol_break set k) _ (no_site k _ none) in
    let two = or_none (linkedit_pointer_break set k) _ one.1 in
    let three = or_none (stray_pointer_break set k) _ two.1 in
    let four = or_none (recorded_pointer_break set k) _ three.1 in
    record {
      linkedit = sym (ap₂ (broken_by breaks_135) of.image_is of.streams_are) ∙ broken_none PointsIntoLinkedit _ two.0;
      nowhere = sym (ap₂ (broken_by breaks_136) of.image_is of.streams_are) ∙ broken_none RebaseOutside _ three.0;
      out = sym (ap₂ (broken_by breaks_137) of.image_is of.streams_are) ∙ broken_none PointerOutOfRange _ four.0;
    }

-- ---- each word

pub word_leads : (set : ImageSet) (slides : ℕ → ℕ) (k : ℕ) (i : Img) (s : StreamLists) (w : Word) → IsReadImage set k i s → IsSound i → HaveBytes i.segments → place_break set k ≡ None → IsWordOf (words_of set k) w
    → Leads (loaded_side set slides k) w.at.address (header_address i.segments) w.kind w.target
word_leads set slides k i s w read sound bytes none is =
    let header : ℕ = header_address i.segments in
    elim (word_cases set k i s w read.of is) [
      | inl bound ↦
          subst (λ (v : Word). Leads (loaded_side set slides k) v.at.address (header_address i.segments) v.kind v.target) (sym bound.is) (bound_leads set slides k header i s bound.bind read bound.there)
      | inr unbound ↦ elim unbound [
        | inl free ↦
            let rules : KeepsRules i s = keeps_rules set k i s read.of none in
            subst (λ (v : Word). Leads (loaded_side set slides k) v.at.address (header_address i.segments) v.kind v.target) (sym free.is)
            (free_leads set slides k header i s free.place read free.there free.free
            (kept breaks_135 i.segments s free.place rules.linkedit free.there free.free)
            (kept breaks_136 i.segments s free.place rules.nowhere free.there free.free))
        | inr other ↦
            subst (λ (v : Word). Leads (loaded_side set slides k) v.at.address (header_address i.segments) v.kind v.target) (sym other.is)
            (reference_leads set slides k i s other.reference read sound bytes other.there other.other)
      ]
    ]
