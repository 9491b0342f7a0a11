-- The place to which a word leads is in a segment other than `__LINKEDIT`.
use Rattle.std.proofs.Common.{◌≡◌, ℕ, zero, suc, ◌+◌, ◌-◌, ◌<◌, Bool, true, false, cond, Option, Some, None, List, [], ◌∷◌, ◌++◌, length, get_or, refl, sym, ap, ◌∙◌, subst, arith, inl, inr, if◌then◌else◌}
use Rattle.std.specs.Prelude.{slice_get, nat_eq, position, option_map, ℤ}
use Rattle.std.specs.Cmp.Lexicographic.{pointwise}
use Rattle.std.proofs.lemmas.Bool.{cases_Bool, cond-true, cond-false}
use Rattle.std.proofs.lemmas.Option.{same_Some, slice_get-get_or, get_or_from_slice_get}
use Rattle.macho_image.specs.Records.{Seg, Img}
use Rattle.macho_image.specs.Rules.{is_linkedit_segment}
use Rattle.macho_image.specs.Breaks.{IsSound}
use Rattle.macho_image.specs.declared.section.Section.{Section}
use Rattle.macho_image.specs.declared.place.Location.{Location}
use Rattle.macho_image.specs.declared.places.segment_index.Inside.{Inside}
use Rattle.macho_image.specs.Places.{numbered_section}
use Rattle.macho_image.specs.Segments.{inside, segments_in, segments_at, is_text_segment, value_of}
use Rattle.export_trie.specs.declared.export.Export.{Export}
use Rattle.export_trie.specs.declared.export.Target.{Target}
use Rattle.export_trie.specs.declared.export.Target.TheVariants.{Offset, Absolute, Reexport}
use Rattle.export_trie.specs.Finding.{target_named}
use Rattle.dep_closure.specs.declared.dep.Dep.{Dep}
use Rattle.dep_closure.specs.declared.dep.Dep.TheVariants as deps
use Rattle.dep_closure.specs.Linked.{dependency_at}
use Rattle.split_info.specs.declared.reference.Reference.{Reference}
use Rattle.split_info.specs.References.{segment_section, header_section, section_numbered, to_section}
use Rattle.std.specs.Option.{option_and_then}
use Rattle.split_info.specs.Split.{IsReference}
use Rattle.split_info.proofs.SoundSections.{IsInside, section_inside}
use Rattle.prebind.specs.declared.resolved.Resolved.{Resolved}
use Rattle.prebind.specs.declared.resolved.Resolved.TheVariants as outcomes
use Rattle.prebind.specs.declared.resolved.WordTarget.{WordTarget}
use Rattle.prebind.specs.declared.resolved.WordTarget.TheVariants.{Place, Constant}
use Rattle.prebind.specs.Sets.{StreamLists, ImageSet}
use Rattle.prebind.specs.Places.{address_of_export, exports_in, is_linkedit_at, is_stray, strays}
use Rattle.prebind.specs.Agree.{HaveExportsInside}
use Rattle.prebind.specs.Resolves.{Pair, is_met, Step, Ends, Reexports, first_exporting, place_of, found_step, dependency_step, step, next_name, after_step, resolves_after, export_count, resolves}
use Rattle.prebind.specs.Targets.{bound_target, outcome_of, pointer_at, value_place, rebase_target}
use Rattle.prebind.specs.Words.{Word, words_of}
use Rattle.prebind.proofs.ResolveLaws.{named_first}
use Rattle.load_model.specs.Corresponds.{IsWordOf}
use Rattle.load_model.proofs.WordCases.{IsIn, in_first, in_rest, word_cases}
use Rattle.load_model.proofs.LoadedWords.{IsReadImage}
use Rattle.load_model.proofs.LoadedReferences.{reference_accepted}
use Rattle.load_model.proofs.RuledWords.{position_none}
use Rattle.macho_image.proofs.HeaderLaws.{text_position}
use Rattle.ref_rewrite.proofs.HomeLaws.{two_segments, section_owned}
use Rattle.cache_layout.proofs.SoundLaws.{sound_linkedit}
use Rattle.cache_build.proofs.RebaseTargets.{IsRecorded, recorded}
use Rattle.prebind.proofs.SameLaws.{none_strays}

-- segment g of image k is one other than `__LINKEDIT`
pub record IsOwn (images : List Img) (k g : ℕ) : Type 0 where
  pub image : Img
  pub image_is : slice_get images k ≡ Some image
  pub segment : Seg
  pub segment_is : slice_get image.segments g ≡ Some segment
  pub owned : is_linkedit_segment segment ≡ false

abbrev pub LeadsToOwn : List Img → WordTarget → Type 0
LeadsToOwn images (Place k g distance) = IsOwn images k g
LeadsToOwn images (Constant c) = Unit {0}

-- ---- segments of an image

record HasOwn (ss : List Seg) (g : ℕ) : Type 0 where
  segment : Seg
  segment_is : slice_get ss g ≡ Some segment
  owned : is_linkedit_segment segment ≡ false

has_own : (ss : List Seg) (g : ℕ) (o : Option Seg) → slice_get ss g ≡ o → is_linkedit_at o ≡ false → HasOwn ss g
has_own ss g None got other = absurd (cc)
has_own ss g (Some s) got other = record { segment = s; segment_is = got; owned = other }

own_of : (images : List Img) (k g : ℕ) (o : Option Img) → slice_get images k ≡ o → HasOwn (segments_in o) g → IsOwn images k g
own_of images k g None got own = absurd (nothing g own.segment own.segment_is)
  where
    nothing : (n : ℕ) (s : Seg) → slice_get {X = Seg} [] n ≡ Some s → ⊥
    nothing n s is = cc
own_of images k g (Some i) got own = record { image = i; image_is = got; segment = own.segment; segment_is = own.segment_is; owned = own.owned }

-- ---- where symbols lead

abbrev EndsInOwn : List Img → Resolved → Type 0
EndsInOwn images (outcomes.Place k g distance) = IsOwn images k g
EndsInOwn images (outcomes.Constant n) = Unit {0}
EndsInOwn images outcomes.Absent = Unit {0}
EndsInOwn images outcomes.Loop = Unit {0}
EndsInOwn images outcomes.BadOrdinal = Unit {0}

abbrev StepsToOwn : List Img → Step → Type 0
StepsToOwn images (Ends outcome) = EndsInOwn images outcome
StepsToOwn images (Reexports k ordinal name) = Unit {0}

record IsNamed (es : List Export) (t : Target) : Type 0 where
  export : Export
  there : IsIn es export
  is : export.target ≡ t

named_in : (es : List Export) (name : List ℕ) (t : Target) → target_named es name ≡ Some t → IsNamed es t
unfolding target_named
named_in [] name t is = absurd (let e : ◌≡◌ {A = Option Target} None (Some t) = is in cc)
named_in (e ∷ es) name t is = elim (cases_Bool (pointwise nat_eq name e.name)) [
  | inl same ↦ record {
    export = e;
    there = in_first e es;
    is = same_Some e.target t (sym (cond-true (pointwise nat_eq name e.name) (Some e.target) (target_named es name) same) ∙ is);
  }
  | inr other ↦
      let rest : IsNamed es t = named_in es name t (sym (cond-false (pointwise nat_eq name e.name) (Some e.target) (target_named es name) other) ∙ is) in
      record { export = rest.export; there = in_rest e es rest.export rest.there; is = rest.is }
]

placed_own : (images : List Img) (k address : ℕ) (o : Option Inside) → is_stray (segments_at images k) o ≡ false → EndsInOwn images (place_of k address o)
placed_own images k address None stays = absurd (cc)
placed_own images k address (Some p) stays =
    own_of images k p.segment (slice_get images k) refl (has_own (segments_at images k) p.segment (slice_get (segments_at images k) p.segment) refl stays)

found_own : (set : ImageSet) → HaveExportsInside set → (name ks : List ℕ) (found : Option (ℕ × Target)) → first_exporting (exports_in set.streams) name ks ≡ found → StepsToOwn set.images (found_step set.images found)
found_own set insides name ks None first = tt
found_own set insides name ks (Some (k, Offset offset)) first =
    let es : List Export = get_or (exports_in set.streams) k [] in
    let ss : List Seg = segments_at set.images k in
    let named : IsNamed es (Offset offset) = named_in es name (Offset offset) (named_first (exports_in set.streams) name ks k (Offset offset) first) in
    placed_own set.images k (address_of_export ss offset) (inside ss (address_of_export ss offset))
    (sym (ap (strays ss) named.is) ∙ position_none (λ (e : Export). strays ss e.target) es named.export (none_strays set k (insides k)) named.there)
found_own set insides name ks (Some (k, Absolute value)) first = tt
found_own set insides name ks (Some (k, Reexport ordinal own)) first = tt

dependency_own : (set : ImageSet) → HaveExportsInside set → (name : List ℕ) (d : Dep) → StepsToOwn set.images (dependency_step set name d)
dependency_own set insides name deps.BadOrdinal = tt
dependency_own set insides name deps.Missing = tt
dependency_own set insides name (deps.Image j) = found_own set insides name (get_or set.links.orders j []) (first_exporting (exports_in set.streams) name (get_or set.links.orders j [])) refl

after_own : (images : List Img) (met : List Pair) (name : List ℕ) (s : Step) (next : List Pair → ℕ → ℕ → List ℕ → Resolved) → StepsToOwn images s → ((m : List Pair) (k by : ℕ) (n : List ℕ) → EndsInOwn images (next m k by n)) → EndsInOwn images (after_step met name s next)
after_own images met name (Ends outcome) next own later = own
after_own images met name (Reexports k by text) next own later = either (is_met met (k, name)) (next (met ++ (k, name) ∷ []) k by (next_name name text)) (later (met ++ (k, name) ∷ []) k by (next_name name text))
  where
    either : (b : Bool) (r : Resolved) → EndsInOwn images r → EndsInOwn images (if b then outcomes.Loop else r)
    either true r own = tt
    either false r own = own

resolved_own : (set : ImageSet) → HaveExportsInside set → (left : ℕ) (met : List Pair) (image ordinal : ℕ) (name : List ℕ) → EndsInOwn set.images (resolves_after left set met image ordinal name)
unfolding resolves_after step
resolved_own set insides zero met image ordinal name = tt
resolved_own set insides (suc left) met image ordinal name =
    after_own set.images met name (step set image ordinal name) (resolves_after left set) (dependency_own set insides name (dependency_at set.links image ordinal))
    (λ m k by n. resolved_own set insides left m k by n)

outcome_own : (set : ImageSet) → HaveExportsInside set → (image ordinal : ℕ) (name : List ℕ) → EndsInOwn set.images (resolves set image ordinal name)
unfolding resolves
outcome_own set insides image ordinal name = resolved_own set insides (export_count set + 1) [] image ordinal name

bound_own : (images : List Img) (addend : ℤ) (r : Resolved) → EndsInOwn images r → LeadsToOwn images (bound_target addend r)
bound_own images addend (outcomes.Place k g distance) own = own
bound_own images addend (outcomes.Constant n) own = tt
bound_own images addend outcomes.Absent own = tt
bound_own images addend outcomes.Loop own = tt
bound_own images addend outcomes.BadOrdinal own = tt

-- ---- where references lead

-- what a reference names is the header, which the first segment begins with, or a section
fused : {X E : Type 0} (g : X → E) (f : E → ℕ) (o : Option X) → option_map f (option_map g o) ≡ option_map (λ (x : X). f (g x)) o
fused g f None = refl
fused g f (Some x) = refl

told_by : {E : Type 0} (o : Option E) (t : E) (f : E → ℕ) (m : ℕ) → o ≡ Some t → f t ≡ m → option_map f o ≡ Some m
told_by o t f m is leads = ap (option_map f) is ∙ ap Some leads

first_of : {E : Type 0} (h : ℕ → Option E) (o : Option ℕ) (f : E → ℕ) (m : ℕ) → o ≡ Some 0 → option_map f (option_and_then h o) ≡ Some m → option_map f (h 0) ≡ Some m
first_of h o f m is told = sym (ap (λ (q : Option ℕ). option_map f (option_and_then h q)) is) ∙ told

when_true : {E : Type 0} (b : Bool) (x y : Option E) (f : E → ℕ) (m : ℕ) → b ≡ true → option_map f (cond b x y) ≡ Some m → option_map f x ≡ Some m
when_true true x y f m is told = told
when_true false x y f m is told = absurd (cc)

when_false : {E : Type 0} (b : Bool) (x y : Option E) (f : E → ℕ) (m : ℕ) → b ≡ false → option_map f (cond b x y) ≡ Some m → option_map f y ≡ Some m
when_false true x y f m is told = absurd (cc)
when_false false x y f m is told = told

header_first : (ss : List Seg) (m : ℕ) → option_map (λ t. t.segment) (segment_section ss 0) ≡ Some m → m ≡ 0
header_first [] m told = absurd (cc)
header_first (s ∷ ss) m told = sym (same_Some 0 m told)

section_fused : (xs : List Section) (n : ℕ) → option_map (λ t. t.segment) (section_numbered xs n) ≡ option_map (λ (x : Section). x.segment) (numbered_section xs n)
section_fused xs n = fused _ _ (numbered_section xs n)

first_own : (i : Img) → IsSound i → HasOwn i.segments 0
first_own i sound =
    let two = two_segments i sound in
    let d : Seg = record { name = []; vmaddr = 0; vmsize = 0; fileoff = 0; filesize = 0; maxprot = 0; initprot = 0; flags = 0; bytes = [] } in
    let s : Seg = get_or i.segments 0 d in
    let some : 0 < length i.segments = omega (arith, two) in
    let first : slice_get i.segments 0 ≡ Some s = slice_get-get_or i.segments 0 d some in
    let at : s ≡ get_or i.segments 0 s = sym (get_or_from_slice_get i.segments 0 s s first) in
    record { segment = s; segment_is = first; owned = (sound_linkedit i sound 0 s some at).0 (omega (arith, two)) }

section_own : (i : Img) → IsSound i → (number m : ℕ) (o : Option Section) → numbered_section i.sections number ≡ o → nat_eq number 0 ≡ false → option_map (λ (x : Section). x.segment) o ≡ Some m → HasOwn i.segments m
section_own i sound number m None got other is = absurd (cc)
section_own i sound number m (Some x) got other is =
    let at : slice_get i.sections (number - 1) ≡ Some x = sym (cond-false (nat_eq number 0) None (slice_get i.sections (number - 1)) other) ∙ got in
    let home : IsInside i x = section_inside i (number - 1) x sound at in
    let segment : x.segment ≡ m = same_Some x.segment m is in
    record {
      segment = home.segment;
      segment_is = ap (λ (n : ℕ). slice_get i.segments n) (sym segment) ∙ home.segment_is;
      owned = section_owned i sound (number - 1) x home.segment at home.segment_is;
    }

extent_own : (i : Img) → IsSound i → (number m : ℕ) → option_map (λ t. t.segment) (to_section i number) ≡ Some m → HasOwn i.segments m
extent_own i sound number m told = elim (cases_Bool (nat_eq number 0)) [
  | inl none ↦
      let header : option_map (λ t. t.segment) (header_section i.segments) ≡ Some m = when_true (nat_eq number 0) (header_section i.segments) (section_numbered i.sections number) _ m none told in
      let first : m ≡ 0 = header_first i.segments m (first_of (segment_section i.segments) (position is_text_segment i.segments) _ m (text_position i sound) header) in
      subst (HasOwn i.segments) (sym first) (first_own i sound)
  | inr other ↦
      let section : option_map (λ t. t.segment) (section_numbered i.sections number) ≡ Some m = when_false (nat_eq number 0) (header_section i.segments) (section_numbered i.sections number) _ m other told in
      section_own i sound number m (numbered_section i.sections number) refl other (sym (section_fused i.sections number) ∙ section)
]

reference_own : (i : Img) → IsSound i → (rebases : List Location) (r : Reference) → IsReference i rebases r → HasOwn i.segments r.to_segment
reference_own i sound rebases r is = extent_own i sound r.to_section r.to_segment (told_by (to_section i r.to_section) is.target (λ t. t.segment) r.to_segment is.target_is is.to_segment)

-- ---- where rebases lead

own_here : (images : List Img) (k g : ℕ) (i : Img) → slice_get images k ≡ Some i → HasOwn i.segments g → IsOwn images k g
own_here images k g i image own = own_of images k g (Some i) image own

value_own : (images : List Img) (k value : ℕ) (i : Img) (o : Option Inside) → slice_get images k ≡ Some i → LeadsToOwn images (value_place k i.segments value o)
value_own images k value i None image = tt
value_own images k value i (Some p) image = elim (cases_Bool (is_linkedit_at (slice_get i.segments p.segment))) [
  | inl linkedit ↦ subst (LeadsToOwn images) (sym (cond-true (is_linkedit_at (slice_get i.segments p.segment)) (Constant value) (Place k p.segment p.distance) linkedit)) tt
  | inr other ↦
      subst (LeadsToOwn images) (sym (cond-false (is_linkedit_at (slice_get i.segments p.segment)) (Constant value) (Place k p.segment p.distance) other))
      (own_here images k p.segment i image (has_own i.segments p.segment (slice_get i.segments p.segment) refl other))
]

rebase_own : (images : List Img) (k value a : ℕ) (i : Img) (rs : List Reference) (o : Option ℕ) → slice_get images k ≡ Some i → ((r : Reference) → IsIn rs r → HasOwn i.segments r.to_segment)
    → pointer_at rs a ≡ o → LeadsToOwn images (rebase_target k i.segments value o)
rebase_own images k value a i rs None image own is = value_own images k value i (inside i.segments value) image
rebase_own images k value a i rs (Some g) image own is =
    let r : IsRecorded rs g = recorded rs a g is in
    own_here images k g i image (subst (HasOwn i.segments) r.to (own r.reference r.there))

-- ---- each word

pub word_own : (set : ImageSet) (k : ℕ) (i : Img) (s : StreamLists) (w : Word) → HaveExportsInside set → IsReadImage set k i s → IsSound i → IsWordOf (words_of set k) w → LeadsToOwn set.images w.target
word_own set k i s w insides read sound is =
    let own : (r : Reference) → IsIn s.references r → HasOwn i.segments r.to_segment = λ r there. reference_own i sound s.rebases r (reference_accepted i s r sound read.sound there).0 in
    elim (word_cases set k i s w read.of is) [
      | inl bound ↦
          subst (λ (v : Word). LeadsToOwn set.images v.target) (sym bound.is)
          (bound_own set.images bound.bind.addend (outcome_of set k bound.bind) (outcome_own set insides k bound.bind.ordinal bound.bind.name))
      | inr unbound ↦ elim unbound [
        | inl free ↦
            subst (λ (v : Word). LeadsToOwn set.images v.target) (sym free.is)
            (rebase_own set.images k (value_of i.segments free.place) free.place.address i s.references (pointer_at s.references free.place.address) read.of.image_is own refl)
        | inr other ↦
            subst (λ (v : Word). LeadsToOwn set.images v.target) (sym other.is)
            (own_here set.images k other.reference.to_segment i read.of.image_is (own other.reference other.there))
      ]
    ]
