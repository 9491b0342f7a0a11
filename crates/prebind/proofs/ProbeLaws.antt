-- A resolution, step by step, and the images that it asks for a name.
use Rattle.std.proofs.Common.{◌≡◌, ◌<◌, ◌≤◌, ◌+◌, ℕ, zero, suc, Bool, true, false, List, [], ◌∷◌, ◌++◌, length, refl, sym, ap, subst, ◌∙◌, arith, not}
use Rattle.std.proofs.lemmas.Bool.{cond-false}
use Rattle.prebind.specs.declared.resolved.Resolved.{Resolved}
use Rattle.prebind.specs.declared.resolved.Resolved.TheVariants.{Loop}
use Rattle.prebind.specs.Sets.{ImageSet}
use Rattle.prebind.specs.Places.{exports_in}
use Rattle.prebind.specs.Resolves.{Pair, is_met, Step, Ends, Reexports, step, next_name, after_step, resolves_after, export_count, resolves}
use Rattle.prebind.specs.Probes.{step_probes, later_probes, probes_after, probes}
use Rattle.prebind.proofs.StepLaws.{unmet, unmet_few, length-pairs_from}
use Rattle.prebind.proofs.ResolveLaws.{Resolving, set_pairs, resolving_ends, resolving_loops, resolving_on, reexport_within, was_fresh, was_met}

-- what is left of a resolution after some re-exports, and of the steps that it takes
pub record Probing (set : ImageSet) (met : List Pair) (image ordinal : ℕ) (name : List ℕ) (outcome : Resolved) (taken total : ℕ) : Type 0 where
  pub within : image < length set.images
  pub left : ℕ
  pub enough : unmet met (set_pairs set) < left
  pub rest : resolves_after left set met image ordinal name ≡ outcome
  pub counted : taken + probes_after left set met image ordinal name ≡ total

pub probing_all : (set : ImageSet) (image ordinal taken : ℕ) (name : List ℕ) → image < length set.images → Probing set [] image ordinal name (resolves set image ordinal name) taken (taken + probes set image ordinal name)
unfolding resolves probes export_count
probing_all set image ordinal taken name within = record {
  within = within;
  left = export_count set + 1;
  enough = omega (arith, unmet_few [] (set_pairs set), length-pairs_from 0 (exports_in set.streams));
  rest = refl;
  counted = refl;
}

abbrev as_resolving : (set : ImageSet) (met : List Pair) (image ordinal : ℕ) (name : List ℕ) (outcome : Resolved) (taken total : ℕ) → Probing set met image ordinal name outcome taken total → Resolving set met image ordinal name outcome
as_resolving set met image ordinal name outcome taken total kept = record { within = kept.within; left = kept.left; enough = kept.enough; rest = kept.rest }

-- the step that comes next, and those behind it
record Stepping (set : ImageSet) (met : List Pair) (image ordinal : ℕ) (name : List ℕ) (outcome : Resolved) (taken total left : ℕ) : Type 0 where
  behind : ℕ
  left_is : left ≡ suc behind
  rest : after_step met name (step set image ordinal name) (resolves_after behind set) ≡ outcome
  counted : taken + (step_probes set image ordinal name + later_probes met name (step set image ordinal name) (probes_after behind set)) ≡ total

stepping : (set : ImageSet) (met : List Pair) (image ordinal : ℕ) (name : List ℕ) (outcome : Resolved) (taken total left : ℕ) → 0 < left → resolves_after left set met image ordinal name ≡ outcome → taken + probes_after left set met image ordinal name ≡ total
    → Stepping set met image ordinal name outcome taken total left
unfolding resolves_after probes_after
stepping set met image ordinal name outcome taken total zero some rest counted = absurd (omega arith)
stepping set met image ordinal name outcome taken total (suc n) some rest counted = record { behind = n; left_is = refl; rest = rest; counted = counted }

next_step : (set : ImageSet) (met : List Pair) (image ordinal : ℕ) (name : List ℕ) (outcome : Resolved) (taken total : ℕ) (kept : Probing set met image ordinal name outcome taken total) → Stepping set met image ordinal name outcome taken total kept.left
next_step set met image ordinal name outcome taken total kept = stepping set met image ordinal name outcome taken total kept.left (omega (arith, kept.enough)) kept.rest kept.counted

pub probing_ends : (set : ImageSet) (met : List Pair) (image ordinal : ℕ) (name : List ℕ) (outcome end : Resolved) (taken total : ℕ) → Probing set met image ordinal name outcome taken total → Ends end ≡ step set image ordinal name → end ≡ outcome
probing_ends set met image ordinal name outcome end taken total kept is =
    resolving_ends set met image ordinal name outcome end (as_resolving set met image ordinal name outcome taken total kept) (sym is)

pub probing_loops : (set : ImageSet) (met : List Pair) (image ordinal k by : ℕ) (name own : List ℕ) (outcome : Resolved) (taken total : ℕ) (f : Bool) → Probing set met image ordinal name outcome taken total → Reexports k by own ≡ step set image ordinal name
    → f ≡ not (is_met met (k, name)) → f ≡ false → Loop ≡ outcome
probing_loops set met image ordinal k by name own outcome taken total f kept is told before =
    resolving_loops set met image ordinal k by name own outcome (as_resolving set met image ordinal name outcome taken total kept) (sym is) (was_met f (is_met met (k, name)) told before)

-- no step is taken beyond the total
pub probing_bound : (set : ImageSet) (met : List Pair) (image ordinal : ℕ) (name : List ℕ) (outcome : Resolved) (taken total now : ℕ) → Probing set met image ordinal name outcome taken total → now ≡ taken + step_probes set image ordinal name → now ≤ total
probing_bound set met image ordinal name outcome taken total now kept is =
    let next = next_step set met image ordinal name outcome taken total kept in
    omega (arith, is, next.counted)

pub record IsNextProbe (set : ImageSet) (met longer : List Pair) (image ordinal : ℕ) (name : List ℕ) (outcome : Resolved) (taken total : ℕ) : Type 0 where
  pub probing : Probing set longer image ordinal name outcome taken total
  pub falls : unmet longer (set_pairs set) < unmet met (set_pairs set)

probing_on : (set : ImageSet) (met : List Pair) (image ordinal k by : ℕ) (name own : List ℕ) (outcome : Resolved) (taken total now : ℕ) → Probing set met image ordinal name outcome taken total → step set image ordinal name ≡ Reexports k by own
    → now ≡ taken + step_probes set image ordinal name → is_met met (k, name) ≡ false → k < length set.images → IsNextProbe set met (met ++ (k, name) ∷ []) k by (next_name name own) outcome now total
probing_on set met image ordinal k by name own outcome taken total now kept is now_is fresh within =
    let next = next_step set met image ordinal name outcome taken total kept in
    let falls = (resolving_on set met image ordinal k by name own outcome (as_resolving set met image ordinal name outcome taken total kept) is fresh within).falls in
    let longer : List Pair = met ++ (k, name) ∷ [] in
    let further : ℕ = probes_after next.behind set longer k by (next_name name own) in
    let later : later_probes met name (step set image ordinal name) (probes_after next.behind set) ≡ further =
    ap (λ (s : Step). later_probes met name s (probes_after next.behind set)) is ∙ cond-false (is_met met (k, name)) 0 further fresh in
    record {
      probing = record {
        within = within;
        left = next.behind;
        enough = omega (arith, falls, kept.enough, next.left_is);
        rest =
            sym (cond-false (is_met met (k, name)) Loop (resolves_after next.behind set longer k by (next_name name own)) fresh)
            ∙ (sym (ap (λ (s : Step). after_step met name s (resolves_after next.behind set)) is) ∙ next.rest);
        counted = omega (arith, now_is, later, next.counted);
      };
      falls = falls;
    }

pub probing_next : (set : ImageSet) (met longer : List Pair) (image ordinal k by : ℕ) (name own sought : List ℕ) (outcome : Resolved) (taken total now : ℕ) (f : Bool) → length set.streams ≡ length set.images → Probing set met image ordinal name outcome taken total
    → Reexports k by own ≡ step set image ordinal name → now ≡ taken + step_probes set image ordinal name → f ≡ not (is_met met (k, name)) → f ≡ true → longer ≡ met ++ (k, name) ∷ [] → sought ≡ next_name name own → IsNextProbe set met longer k by sought outcome now total
probing_next set met longer image ordinal k by name own sought outcome taken total now f many kept is now_is told fresh added named =
    let next = probing_on set met image ordinal k by name own outcome taken total now kept (sym is) now_is (was_fresh f (is_met met (k, name)) told fresh) (reexport_within set image ordinal k by name own many (sym is)) in
    subst (λ (m : List Pair). IsNextProbe set met m k by sought outcome now total) (sym added)
    (subst (λ (n : List ℕ). IsNextProbe set met (met ++ (k, name) ∷ []) k by n outcome now total) (sym named) next)

-- a resolution of one step
pub probes_end : (set : ImageSet) (image ordinal : ℕ) (name : List ℕ) (end : Resolved) → Ends end ≡ step set image ordinal name → probes set image ordinal name ≡ step_probes set image ordinal name
unfolding resolves probes
probes_end set image ordinal name end is =
    let next = stepping set [] image ordinal name (resolves set image ordinal name) 0 (0 + probes set image ordinal name) (export_count set + 1) (omega arith) refl refl in
    omega (arith, next.counted, ap (λ (s : Step). later_probes [] name s (probes_after next.behind set)) (sym is))
