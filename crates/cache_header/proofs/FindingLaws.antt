-- What is found of a head, by the tests that hold.
use Rattle.std.proofs.Common.{◌≡◌, ℕ, true, false, not, Some, None, Option, List, ap, ◌∙◌}
use Rattle.std.specs.Prelude.{is_some, option_map}
use Rattle.std.proofs.lemmas.Bool.{cond-true, cond-false}
use Rattle.dsc_base.specs.declared.finding_kind.FindingKind.TheVariants.{NotCache, ShortHeader, TableOutside}
use Rattle.cache_header.specs.Findings.{is_cache, has_header, table_outside, finding, name_finding, head_finding}

pub finding-not_cache : (c : List ℕ) → is_cache c ≡ false → head_finding c ≡ Some (finding NotCache 0 0)
unfolding head_finding
finding-not_cache c fails = cond-true (not (is_cache c)) _ _ (ap not fails)

pub finding-short : (c : List ℕ) → is_cache c ≡ true → has_header c ≡ false → head_finding c ≡ Some (finding ShortHeader 0 0x10)
unfolding head_finding
finding-short c begins fails = cond-false (not (is_cache c)) _ _ (ap not begins) ∙ cond-true (not (has_header c)) _ _ (ap not fails)

pub finding-outside : (c : List ℕ) (at : ℕ) → is_cache c ≡ true → has_header c ≡ true → table_outside c ≡ Some at → head_finding c ≡ Some (finding TableOutside 0 at)
unfolding head_finding
finding-outside c at begins header outside =
    cond-false (not (is_cache c)) _ _ (ap not begins)
    ∙ (cond-false (not (has_header c)) _ _ (ap not header)
    ∙ (cond-true (is_some (table_outside c)) _ _ (ap is_some outside) ∙ ap (λ (o : Option ℕ). option_map (finding TableOutside 0) o) outside))

pub finding-names : (c : List ℕ) → is_cache c ≡ true → has_header c ≡ true → table_outside c ≡ None → head_finding c ≡ name_finding c
unfolding head_finding
finding-names c begins header inside =
    cond-false (not (is_cache c)) _ _ (ap not begins)
    ∙ (cond-false (not (has_header c)) _ _ (ap not header) ∙ cond-false (is_some (table_outside c)) _ _ (ap is_some inside))
