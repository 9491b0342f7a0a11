-- No word of a set leads to a place of `__LINKEDIT`.
use Rattle.std.proofs.Common.{◌≡◌, ℕ, zero, suc, ◌+◌, ◌-◌, Bool, true, false, nat_eq, Option, Some, None, List, [], ◌∷◌, ◌++◌, get_or, refl, sym, ap, ◌∙◌, subst, inl, inr, if◌then◌else◌}
use Rattle.std.specs.Prelude.{slice_get, option_map, codes, ℤ, ◌&&◌}
use Rattle.std.specs.Option.{option_and_then}
use Rattle.std.specs.Cmp.Lexicographic.{same_text}
use Rattle.std.proofs.lemmas.Bool.{cases_Bool, cond-true, cond-false}
use Rattle.std.proofs.lemmas.Option.{same_Some}
use Rattle.macho_image.specs.Records.{Seg, Img}
use Rattle.macho_image.specs.Rules.{is_linkedit_name, is_linkedit_segment}
use Rattle.macho_image.specs.Breaks.{IsSound}
use Rattle.macho_image.specs.declared.place.Location.{Location}
use Rattle.macho_image.specs.declared.places.segment_index.Inside.{Inside}
use Rattle.macho_image.specs.Places.{numbered_section}
use Rattle.macho_image.specs.Segments.{inside, segments_in, segments_at, is_text_segment, value_of}
use Rattle.macho_image.proofs.HeaderLaws.{first_is_text, some_segment, text_position}
use Rattle.export_trie.specs.declared.export.Export.{Export}
use Rattle.export_trie.specs.declared.export.Target.{Target}
use Rattle.export_trie.specs.declared.export.Target.TheVariants.{Offset, Absolute, Reexport}
use Rattle.dep_closure.specs.declared.dep.Dep.{Dep}
use Rattle.dep_closure.specs.declared.dep.Dep.TheVariants as deps
use Rattle.dep_closure.specs.Linked.{dependency_at}
use Rattle.split_info.specs.declared.reference.Reference.{Reference}
use Rattle.split_info.specs.Overlap.{is_pointer}
use Rattle.split_info.specs.References.{segment_section, header_section, section_numbered}
use Rattle.split_info.specs.Split.{IsReference}
use Rattle.split_info.proofs.SoundSections.{IsInside, section_inside}
use Rattle.prebind.specs.declared.resolved.Resolved.{Resolved}
use Rattle.prebind.specs.declared.resolved.Resolved.TheVariants as outcomes
use Rattle.prebind.specs.declared.resolved.WordTarget.{WordTarget}
use Rattle.prebind.specs.declared.resolved.WordTarget.TheVariants.{Place, Constant}
use Rattle.prebind.specs.Sets.{StreamLists, ImageSet}
use Rattle.prebind.specs.Places.{address_of_export, exports_in, is_linkedit_at, is_stray}
use Rattle.prebind.specs.Agree.{HaveExportsInside}
use Rattle.prebind.specs.Resolves.{Pair, is_met, Step, Ends, Reexports, first_exporting, place_of, found_step, dependency_step, step, next_name, after_step, resolves_after, export_count, resolves}
use Rattle.prebind.specs.Targets.{bound_target, outcome_of, pointer_at, value_place, rebase_target}
use Rattle.prebind.specs.Words.{Word, words_of}
use Rattle.prebind.proofs.ResolveLaws.{named_first}
use Rattle.prebind.proofs.SameLaws.{named_stays, none_strays}
use Rattle.prebind.proofs.SectionHomes.{section_owned}
use Rattle.load_model.specs.Corresponds.{IsWordOf}
use Rattle.load_model.proofs.WordCases.{IsIn, in_first, in_rest, word_cases}
use Rattle.load_model.proofs.LoadedWords.{IsReadImage}
use Rattle.load_model.proofs.LoadedReferences.{reference_accepted}

-- segment g of some is there, and isn't `__LINKEDIT`
abbrev pub IsBesides : List Seg → ℕ → Type 0
IsBesides segments g = is_linkedit_at (slice_get segments g) ≡ false

abbrev pub LeadsBesides : List Img → WordTarget → Type 0
LeadsBesides images (Place k g distance) = IsBesides (segments_at images k) g
LeadsBesides images (Constant c) = Unit {0}

-- ---- where symbols lead

abbrev pub EndsBesides : List Img → Resolved → Type 0
EndsBesides images (outcomes.Place k g distance) = IsBesides (segments_at images k) g
EndsBesides images (outcomes.Constant n) = Unit {0}
EndsBesides images outcomes.Absent = Unit {0}
EndsBesides images outcomes.Loop = Unit {0}
EndsBesides images outcomes.BadOrdinal = Unit {0}

abbrev pub StepsBesides : List Img → Step → Type 0
StepsBesides images (Ends outcome) = EndsBesides images outcome
StepsBesides images (Reexports k ordinal name) = Unit {0}

placed_besides : (images : List Img) (k address : ℕ) (o : Option Inside) → is_stray (segments_at images k) o ≡ false → EndsBesides images (place_of k address o)
placed_besides images k address None stays = absurd (cc)
placed_besides images k address (Some p) stays = stays

found_besides : (set : ImageSet) → HaveExportsInside set → (name ks : List ℕ) (found : Option (ℕ × Target)) → first_exporting (exports_in set.streams) name ks ≡ found → StepsBesides set.images (found_step set.images found)
found_besides set insides name ks None first = tt
found_besides set insides name ks (Some (k, Offset offset)) first =
    let es : List Export = get_or (exports_in set.streams) k [] in
    let ss : List Seg = segments_at set.images k in
    let named = named_first (exports_in set.streams) name ks k (Offset offset) first in
    placed_besides set.images k (address_of_export ss offset) (inside ss (address_of_export ss offset)) (named_stays ss es name (Offset offset) (none_strays set k (insides k)) named)
found_besides set insides name ks (Some (k, Absolute value)) first = tt
found_besides set insides name ks (Some (k, Reexport ordinal own)) first = tt

dependency_besides : (set : ImageSet) → HaveExportsInside set → (name : List ℕ) (d : Dep) → StepsBesides set.images (dependency_step set name d)
dependency_besides set insides name deps.BadOrdinal = tt
dependency_besides set insides name deps.Missing = tt
dependency_besides set insides name (deps.Image j) = found_besides set insides name (get_or set.links.orders j []) (first_exporting (exports_in set.streams) name (get_or set.links.orders j [])) refl

after_besides : (images : List Img) (met : List Pair) (name : List ℕ) (s : Step) (next : List Pair → ℕ → ℕ → List ℕ → Resolved) → StepsBesides images s → ((m : List Pair) (k by : ℕ) (n : List ℕ) → EndsBesides images (next m k by n)) → EndsBesides images (after_step met name s next)
after_besides images met name (Ends outcome) next own later = own
after_besides images met name (Reexports k by text) next own later = either (is_met met (k, name)) (next (met ++ (k, name) ∷ []) k by (next_name name text)) (later (met ++ (k, name) ∷ []) k by (next_name name text))
  where
    either : (b : Bool) (r : Resolved) → EndsBesides images r → EndsBesides images (if b then outcomes.Loop else r)
    either true r own = tt
    either false r own = own

resolved_besides : (set : ImageSet) → HaveExportsInside set → (left : ℕ) (met : List Pair) (image ordinal : ℕ) (name : List ℕ) → EndsBesides set.images (resolves_after left set met image ordinal name)
unfolding resolves_after step
resolved_besides set insides zero met image ordinal name = tt
resolved_besides set insides (suc left) met image ordinal name =
    after_besides set.images met name (step set image ordinal name) (resolves_after left set) (dependency_besides set insides name (dependency_at set.links image ordinal))
    (λ m k by n. resolved_besides set insides left m k by n)

pub outcome_besides : (set : ImageSet) → HaveExportsInside set → (image ordinal : ℕ) (name : List ℕ) → EndsBesides set.images (resolves set image ordinal name)
unfolding resolves
outcome_besides set insides image ordinal name = resolved_besides set insides (export_count set + 1) [] image ordinal name

pub bound_besides : (images : List Img) (addend : ℤ) (r : Resolved) → EndsBesides images r → LeadsBesides images (bound_target addend r)
bound_besides images addend (outcomes.Place k g distance) own = own
bound_besides images addend (outcomes.Constant n) own = tt
bound_besides images addend outcomes.Absent own = tt
bound_besides images addend outcomes.Loop own = tt
bound_besides images addend outcomes.BadOrdinal own = tt

-- ---- where references lead

-- what an option is made of, seen by a number of what is made
pub made_of : {X Y : Type 0} (o : Option X) (y : Y) (g : Y → ℕ) (f : X → Y) → option_map f o ≡ Some y → (x : X) × (o ≡ Some x) × (g (f x) ≡ g y)
made_of None y g f is = absurd (cc)
made_of (Some x) y g f is = (x, refl, ap g (same_Some (f x) y is))

text_besides : (s : Seg) → is_text_segment s ≡ true → is_linkedit_segment s ≡ false
unfolding is_text_segment
text_besides s named = ap is_linkedit_name (same_text s.name (codes "__TEXT" ++ (0 ∷ 0 ∷ 0 ∷ 0 ∷ 0 ∷ 0 ∷ 0 ∷ 0 ∷ 0 ∷ 0 ∷ [])) (sym named))

pub reference_besides : (i : Img) (rebases : List Location) (r : Reference) → IsSound i → IsReference i rebases r → IsBesides i.segments r.to_segment
reference_besides i rebases r sound own = elim (cases_Bool (nat_eq r.to_section 0)) [
  | inl header ↦
      let first : header_section i.segments ≡ Some own.target = sym (cond-true (nat_eq r.to_section 0) (header_section i.segments) (section_numbered i.sections r.to_section) header) ∙ own.target_is in
      let one : segment_section i.segments 0 ≡ Some own.target = sym (ap (λ (o : Option ℕ). option_and_then (segment_section i.segments) o) (text_position i sound)) ∙ first in
      let found = made_of (slice_get i.segments 0) own.target (λ e. e.segment) _ one in
      let none : 0 ≡ r.to_segment = found.2 ∙ own.to_segment in
      let text = some_segment i sound in
      subst (IsBesides i.segments) none (ap is_linkedit_at text.1 ∙ text_besides text.0 (first_is_text i sound text.0 text.1))
  | inr other ↦
      let one : section_numbered i.sections r.to_section ≡ Some own.target = sym (cond-false (nat_eq r.to_section 0) (header_section i.segments) (section_numbered i.sections r.to_section) other) ∙ own.target_is in
      let found = made_of (numbered_section i.sections r.to_section) own.target (λ e. e.segment) _ one in
      let segment : found.0.segment ≡ r.to_segment = found.2 ∙ own.to_segment in
      let there : slice_get i.sections (r.to_section - 1) ≡ Some found.0 = sym (cond-false (nat_eq r.to_section 0) None (slice_get i.sections (r.to_section - 1)) other) ∙ found.1 in
      let home : IsInside i found.0 = section_inside i (r.to_section - 1) found.0 sound there in
      subst (IsBesides i.segments) segment (ap is_linkedit_at home.segment_is ∙ section_owned i sound (r.to_section - 1) found.0 home.segment there home.segment_is)
]

-- ---- where rebases lead

-- the reference that records a pointer
pub record IsRecorded (rs : List Reference) (g : ℕ) : Type 0 where
  pub reference : Reference
  pub there : IsIn rs reference
  pub to : reference.to_segment ≡ g

pub recorded : (rs : List Reference) (address g : ℕ) → pointer_at rs address ≡ Some g → IsRecorded rs g
recorded [] address g is = absurd (cc)
recorded (r ∷ rs) address g is = elim (cases_Bool (is_pointer r.kind && nat_eq r.from address)) [
  | inl here ↦
      let own : Option ℕ = Some r.to_segment in
      record { reference = r; there = in_first r rs; to = same_Some r.to_segment g (sym (cond-true (is_pointer r.kind && nat_eq r.from address) own (pointer_at rs address) here) ∙ is) }
  | inr other ↦
      let own : Option ℕ = Some r.to_segment in
      let rest : IsRecorded rs g = recorded rs address g (sym (cond-false (is_pointer r.kind && nat_eq r.from address) own (pointer_at rs address) other) ∙ is) in
      record { reference = rest.reference; there = in_rest r rs rest.reference rest.there; to = rest.to }
]

at_image : (images : List Img) (k g : ℕ) (i : Img) → slice_get images k ≡ Some i → IsBesides i.segments g → IsBesides (segments_at images k) g
at_image images k g i image own = subst (λ (o : Option Img). IsBesides (segments_in o) g) (sym image) own

value_besides : (images : List Img) (k value : ℕ) (i : Img) (o : Option Inside) → slice_get images k ≡ Some i → LeadsBesides images (value_place k i.segments value o)
value_besides images k value i None image = tt
value_besides images k value i (Some p) image = elim (cases_Bool (is_linkedit_at (slice_get i.segments p.segment))) [
  | inl linkedit ↦ subst (LeadsBesides images) (sym (cond-true (is_linkedit_at (slice_get i.segments p.segment)) (Constant value) (Place k p.segment p.distance) linkedit)) tt
  | inr other ↦
      subst (LeadsBesides images) (sym (cond-false (is_linkedit_at (slice_get i.segments p.segment)) (Constant value) (Place k p.segment p.distance) other))
      (at_image images k p.segment i image other)
]

rebase_besides : (images : List Img) (k value a : ℕ) (i : Img) (rs : List Reference) (o : Option ℕ) → slice_get images k ≡ Some i → ((r : Reference) → IsIn rs r → IsBesides i.segments r.to_segment)
    → pointer_at rs a ≡ o → LeadsBesides images (rebase_target k i.segments value o)
rebase_besides images k value a i rs None image own is = value_besides images k value i (inside i.segments value) image
rebase_besides images k value a i rs (Some g) image own is =
    let r : IsRecorded rs g = recorded rs a g is in
    at_image images k g i image (subst (IsBesides i.segments) r.to (own r.reference r.there))

-- ---- each word

pub word_besides : (set : ImageSet) (k : ℕ) (i : Img) (s : StreamLists) (w : Word) → HaveExportsInside set → IsReadImage set k i s → IsSound i → IsWordOf (words_of set k) w → LeadsBesides set.images w.target
word_besides set k i s w insides read sound is =
    let own : (r : Reference) → IsIn s.references r → IsBesides i.segments r.to_segment = λ r there. reference_besides i s.rebases r sound (reference_accepted i s r sound read.sound there).0 in
    elim (word_cases set k i s w read.of is) [
      | inl bound ↦
          subst (λ (v : Word). LeadsBesides set.images v.target) (sym bound.is)
          (bound_besides set.images bound.bind.addend (outcome_of set k bound.bind) (outcome_besides set insides k bound.bind.ordinal bound.bind.name))
      | inr unbound ↦ elim unbound [
        | inl free ↦
            subst (λ (v : Word). LeadsBesides set.images v.target) (sym free.is)
            (rebase_besides set.images k (value_of i.segments free.place) free.place.address i s.references (pointer_at s.references free.place.address) read.of.image_is own refl)
        | inr other ↦
            subst (λ (v : Word). LeadsBesides set.images v.target) (sym other.is)
            (at_image set.images k other.reference.to_segment i read.of.image_is (own other.reference other.there))
      ]
    ]
