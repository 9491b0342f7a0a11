-- A resolution, step by step: what is left of it leads to the outcome of the whole.
use Rattle.std.proofs.Common.{◌≡◌, ◌<◌, ◌+◌, ℕ, zero, suc, Bool, true, false, List, [], ◌∷◌, ◌++◌, length, get_or, refl, sym, ap, subst, ◌∙◌, arith, if◌then◌else◌, Option, Some, None, not}
use Rattle.std.specs.List.{list_any}
use Rattle.std.proofs.lemmas.Bool.{cond-true, cond-false}
use Rattle.macho_image.specs.Records.{Img}
use Rattle.export_trie.specs.declared.export.Export.{Export}
use Rattle.export_trie.specs.declared.export.Target.{Target}
use Rattle.export_trie.specs.declared.export.Target.TheVariants.{Offset, Absolute, Reexport}
use Rattle.export_trie.specs.Finding.{target_named}
use Rattle.dep_closure.specs.declared.dep.Dep.{Dep}
use Rattle.dep_closure.specs.declared.dep.Dep.TheVariants as deps
use Rattle.dep_closure.specs.Linked.{dependency_at}
use Rattle.prebind.specs.declared.resolved.Resolved.{Resolved}
use Rattle.prebind.specs.declared.resolved.Resolved.TheVariants.{Loop}
use Rattle.export_trie.specs.Exports.{exports_of}
use Rattle.prebind.specs.Sets.{StreamLists, ImageSet}
use Rattle.std.proofs.lemmas.List.{length-map}
use Rattle.prebind.specs.Places.{exports_in}
use Rattle.prebind.specs.Resolves.{Pair, same_pair, is_met, Step, Ends, Reexports, or_later, first_exporting, found_step, dependency_step, step, next_name, after_step, resolves_after, export_count, resolves}
use Rattle.prebind.proofs.StepLaws.{pairs_from, unmet, unmet_falls, has_pair, length-pairs_from, unmet_few}

-- the parts of what is found
abbrev image_found : Option (ℕ × Target) → ℕ
image_found None = 0
image_found (Some p) = p.0

abbrev target_or : Target → Option (ℕ × Target) → Target
target_or d None = d
target_or d (Some p) = p.1

pub named_first : (exports : List (List Export)) (name ks : List ℕ) (k : ℕ) (t : Target) → first_exporting exports name ks ≡ Some (k, t) → target_named (get_or exports k []) name ≡ Some t
named_first exports name [] k t is = cc
named_first exports name (x ∷ xs) k t is =
    (elim (target_named (get_or exports x []) name) as (λ (o : Option Target). target_named (get_or exports x []) name ≡ o → or_later x o (first_exporting exports name xs) ≡ Some (k, t) → target_named (get_or exports k []) name ≡ Some t) [
      | None ↦ λ here later. named_first exports name xs k t later
      | Some u ↦ λ here first.
          let at : x ≡ k = ap image_found first in
          let target : u ≡ t = ap (target_or t) first in
          subst (λ (n : ℕ). target_named (get_or exports n []) name ≡ Some t) at (here ∙ ap (λ (v : Target). let o : Option Target = Some v in o) target)
    ]) refl is

-- a re-export is an export of the image that has it
reexport_found : (images : List Img) (exports : List (List Export)) (name ks own : List ℕ) (k ordinal : ℕ) (found : Option (ℕ × Target)) → first_exporting exports name ks ≡ found → found_step images found ≡ Reexports k ordinal own → target_named (get_or exports k []) name ≡ Some (Reexport ordinal own)
reexport_found images exports name ks own k ordinal None first is = cc
reexport_found images exports name ks own k ordinal (Some (x, Offset o)) first is = cc
reexport_found images exports name ks own k ordinal (Some (x, Absolute v)) first is = cc
reexport_found images exports name ks own k ordinal (Some (x, Reexport n text)) first is =
    let at : x ≡ k = cc in
    let by : n ≡ ordinal = cc in
    let as_own : text ≡ own = cc in
    named_first exports name ks k (Reexport ordinal own) (first ∙ (λ j. Some (at j, Reexport (by j) (as_own j))))

reexport_step : (set : ImageSet) (name own : List ℕ) (k ordinal : ℕ) (d : Dep) → dependency_step set name d ≡ Reexports k ordinal own → target_named (get_or (exports_in set.streams) k []) name ≡ Some (Reexport ordinal own)
reexport_step set name own k ordinal deps.BadOrdinal is = cc
reexport_step set name own k ordinal deps.Missing is = cc
reexport_step set name own k ordinal (deps.Image j) is =
    reexport_found set.images (exports_in set.streams) name (get_or set.links.orders j []) own k ordinal (first_exporting (exports_in set.streams) name (get_or set.links.orders j [])) refl is

pub reexport_named : (set : ImageSet) (image ordinal k by : ℕ) (name own : List ℕ) → step set image ordinal name ≡ Reexports k by own → target_named (get_or (exports_in set.streams) k []) name ≡ Some (Reexport by own)
unfolding step
reexport_named set image ordinal k by name own is = reexport_step set name own k by (dependency_at set.links image ordinal) is

abbrev pub set_pairs : ImageSet → List Pair
set_pairs set = pairs_from 0 (exports_in set.streams)

among_pairs : (set : ImageSet) (image ordinal k by : ℕ) (name own : List ℕ) → step set image ordinal name ≡ Reexports k by own → list_any (same_pair (k, name)) (set_pairs set) ≡ true
among_pairs set image ordinal k by name own is =
    let at : 0 + k ≡ k = omega arith in
    subst (λ (n : ℕ). list_any (same_pair (n, name)) (set_pairs set) ≡ true) at (has_pair 0 k (exports_in set.streams) name (Reexport by own) (reexport_named set image ordinal k by name own is))

-- what is left of a resolution after some re-exports
pub record Resolving (set : ImageSet) (met : List Pair) (image ordinal : ℕ) (name : List ℕ) (outcome : Resolved) : Type 0 where
  pub within : image < length set.images
  pub left : ℕ
  pub enough : unmet met (set_pairs set) < left
  pub rest : resolves_after left set met image ordinal name ≡ outcome

pub resolving_all : (set : ImageSet) (image ordinal : ℕ) (name : List ℕ) → image < length set.images → Resolving set [] image ordinal name (resolves set image ordinal name)
unfolding resolves export_count
resolving_all set image ordinal name within = record {
  within = within;
  left = export_count set + 1;
  enough = omega (arith, unmet_few [] (set_pairs set), length-pairs_from 0 (exports_in set.streams));
  rest = refl;
}

after_ends : (set : ImageSet) (met : List Pair) (image ordinal : ℕ) (name : List ℕ) (outcome : Resolved) (left : ℕ) → 0 < left → resolves_after left set met image ordinal name ≡ outcome
    → (n : ℕ) × ((left ≡ suc n) × (after_step met name (step set image ordinal name) (resolves_after n set) ≡ outcome))
unfolding resolves_after
after_ends set met image ordinal name outcome zero some is = absurd (omega arith)
after_ends set met image ordinal name outcome (suc n) some is = (n, (refl, is))

pub resolving_ends : (set : ImageSet) (met : List Pair) (image ordinal : ℕ) (name : List ℕ) (outcome end : Resolved) → Resolving set met image ordinal name outcome → step set image ordinal name ≡ Ends end → end ≡ outcome
resolving_ends set met image ordinal name outcome end kept is =
    let more = after_ends set met image ordinal name outcome kept.left (omega (arith, kept.enough)) kept.rest in
    sym (ap (λ (s : Step). after_step met name s (resolves_after more.0 set)) is) ∙ more.1.1

pub resolving_loops : (set : ImageSet) (met : List Pair) (image ordinal k by : ℕ) (name own : List ℕ) (outcome : Resolved) → Resolving set met image ordinal name outcome → step set image ordinal name ≡ Reexports k by own → is_met met (k, name) ≡ true → Loop ≡ outcome
resolving_loops set met image ordinal k by name own outcome kept is before =
    let more = after_ends set met image ordinal name outcome kept.left (omega (arith, kept.enough)) kept.rest in
    sym (cond-true (is_met met (k, name)) Loop (resolves_after more.0 set (met ++ (k, name) ∷ []) k by (next_name name own)) before)
    ∙ (sym (ap (λ (s : Step). after_step met name s (resolves_after more.0 set)) is) ∙ more.1.1)

pub record IsNextStep (set : ImageSet) (met longer : List Pair) (image ordinal : ℕ) (name : List ℕ) (outcome : Resolved) : Type 0 where
  pub resolving : Resolving set longer image ordinal name outcome
  pub falls : unmet longer (set_pairs set) < unmet met (set_pairs set)

pub resolving_on : (set : ImageSet) (met : List Pair) (image ordinal k by : ℕ) (name own : List ℕ) (outcome : Resolved) → Resolving set met image ordinal name outcome → step set image ordinal name ≡ Reexports k by own → is_met met (k, name) ≡ false → k < length set.images
    → IsNextStep set met (met ++ (k, name) ∷ []) k by (next_name name own) outcome
resolving_on set met image ordinal k by name own outcome kept is fresh within =
    let more = after_ends set met image ordinal name outcome kept.left (omega (arith, kept.enough)) kept.rest in
    let falls = unmet_falls met (k, name) (set_pairs set) (among_pairs set image ordinal k by name own is) fresh in
    record {
      resolving = record {
        within = within;
        left = more.0;
        enough = omega (arith, falls, kept.enough, more.1.0);
        rest =
            sym (cond-false (is_met met (k, name)) Loop (resolves_after more.0 set (met ++ (k, name) ∷ []) k by (next_name name own)) fresh)
            ∙ (sym (ap (λ (s : Step). after_step met name s (resolves_after more.0 set)) is) ∙ more.1.1);
      };
      falls = falls;
    }

-- a further re-export that could be counted changes nothing: a resolution ends before they run out
more_after : (set : ImageSet) (left : ℕ) (met : List Pair) (name : List ℕ) (s : Step)
    → ((k by : ℕ) (own : List ℕ) → is_met met (k, name) ≡ false → s ≡ Reexports k by own → resolves_after left set (met ++ (k, name) ∷ []) k by (next_name name own) ≡ resolves_after (left + 1) set (met ++ (k, name) ∷ []) k by (next_name name own))
    → after_step met name s (resolves_after left set) ≡ after_step met name s (resolves_after (left + 1) set)
more_after set left met name (Ends outcome) more = refl
more_after set left met name (Reexports k by own) more =
    (elim (is_met met (k, name)) as (λ (b : Bool). is_met met (k, name) ≡ b → (if b then Loop else resolves_after left set (met ++ (k, name) ∷ []) k by (next_name name own)) ≡ (if b then Loop else resolves_after (left + 1) set (met ++ (k, name) ∷ []) k by (next_name name own))) [
      | true ↦ λ before. refl
      | false ↦ λ fresh. more k by own fresh refl
    ]) refl

pub fuel_enough : (set : ImageSet) (left : ℕ) (met : List Pair) (image ordinal : ℕ) (name : List ℕ) → unmet met (set_pairs set) < left → resolves_after left set met image ordinal name ≡ resolves_after (left + 1) set met image ordinal name
unfolding resolves_after
fuel_enough set zero met image ordinal name few = absurd (omega arith)
fuel_enough set (suc left) met image ordinal name few =
    let next : suc (left + 1) ≡ suc left + 1 = omega arith in
    more_after set left met name (step set image ordinal name)
    (λ k by own fresh is.
    let falls = unmet_falls met (k, name) (set_pairs set) (among_pairs set image ordinal k by name own is) fresh in
    fuel_enough set left (met ++ (k, name) ∷ []) k by (next_name name own) (omega (arith, falls, few)))
    ∙ ap (λ (n : ℕ). resolves_after n set met image ordinal name) next

-- a re-export is one of an image of the set
named_within : (exports : List (List Export)) (k : ℕ) (name : List ℕ) (t : Target) → target_named (get_or exports k []) name ≡ Some t → k < length exports
unfolding target_named
named_within [] zero name t is = absurd (let e : ◌≡◌ {A = Option Target} None (Some t) = is in cc)
named_within [] (suc k) name t is = absurd (let e : ◌≡◌ {A = Option Target} None (Some t) = is in cc)
named_within (es ∷ ess) zero name t is = omega arith
named_within (es ∷ ess) (suc k) name t is = let rest = named_within ess k name t is in omega (arith, rest)

pub reexport_within : (set : ImageSet) (image ordinal k by : ℕ) (name own : List ℕ) → length set.streams ≡ length set.images → step set image ordinal name ≡ Reexports k by own → k < length set.images
reexport_within set image ordinal k by name own many is =
    let inside = named_within (exports_in set.streams) k name (Reexport by own) (reexport_named set image ordinal k by name own is) in
    let long = length-map set.streams (λ (s : StreamLists). exports_of s.exports) in
    omega (arith, inside, long, many)

-- what an insertion tells
pub was_fresh : (f before : Bool) → f ≡ not before → f ≡ true → before ≡ false
was_fresh f true is fresh = absurd (let e : true ≡ false = sym fresh ∙ is in cc)
was_fresh f false is fresh = refl

pub was_met : (f before : Bool) → f ≡ not before → f ≡ false → before ≡ true
was_met f true is old = refl
was_met f false is old = absurd (let e : false ≡ true = sym old ∙ is in cc)

pub resolving_next : (set : ImageSet) (met longer : List Pair) (image ordinal k by : ℕ) (name own sought : List ℕ) (outcome : Resolved) (f : Bool) → length set.streams ≡ length set.images → Resolving set met image ordinal name outcome → Reexports k by own ≡ step set image ordinal name
    → f ≡ not (is_met met (k, name)) → f ≡ true → longer ≡ met ++ (k, name) ∷ [] → sought ≡ next_name name own → IsNextStep set met longer k by sought outcome
resolving_next set met longer image ordinal k by name own sought outcome f many kept is told fresh added named =
    let next = resolving_on set met image ordinal k by name own outcome kept (sym is) (was_fresh f (is_met met (k, name)) told fresh) (reexport_within set image ordinal k by name own many (sym is)) in
    subst (λ (m : List Pair). IsNextStep set met m k by sought outcome) (sym added)
    (subst (λ (n : List ℕ). IsNextStep set met (met ++ (k, name) ∷ []) k by n outcome) (sym named) next)
