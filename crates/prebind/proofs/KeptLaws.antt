-- Rebases that keep rules 135 to 137, all at once and rule by rule.
use Rattle.std.proofs.Common.{◌≡◌, ℕ, ◌+◌, Bool, true, false, not, ◌&&◌, ◌||◌, if◌then◌else◌, List, [], ◌∷◌, refl, sym, ◌∙◌, Option, Some, None}
use Rattle.std.specs.Prelude.{position, option_map}
use Rattle.std.specs.List.{list_any}
use Rattle.std.proofs.lemmas.Bool.{or_parts, or_from}
use Rattle.std.specs.Option.{option_or}
use Rattle.dsc_base.specs.Refusals.{broken, first_break}
use Rattle.dsc_base.specs.declared.rule.Rule.{Rule}
use Rattle.dsc_base.specs.declared.rule.Rule.TheVariants as rules
use Rattle.dsc_base.specs.declared.fault.Site.{Site}
use Rattle.macho_image.specs.Records.{Seg}
use Rattle.macho_image.specs.Segments.{value_of}
use Rattle.macho_image.specs.declared.place.Location.{Location}
use Rattle.dep_closure.proofs.PositionLaws.{position-cons}
use Rattle.prebind.specs.Kept.{any_breaks}
use Rattle.prebind.specs.WordRules.{breaks_135, breaks_136, breaks_137, first_rebase, rebase_fault}

abbrev here : Bool → Option ℕ → Option ℕ
here b o = if b then Some 0 else option_map (λ (k : ℕ). k + 1) o

-- where no element passes, none is the first that does
none_first : {X : Type 0} (p : X → Bool) (xs : List X) → list_any p xs ≡ false → position p xs ≡ None
none_first p [] none = refl
none_first p (x ∷ xs) none =
    let parts = or_parts (p x) (list_any p xs) none in
    let rest = none_first p xs parts.1 in
    position-cons p x xs ∙ (λ i. here (parts.0 i) (rest i))

not_here : (b : Bool) (o : Option ℕ) → here b o ≡ None → (b ≡ false) × (o ≡ None)
not_here true o none = absurd (cc)
not_here false None none = (refl, refl)
not_here false (Some k) none = absurd (cc)

none_passes : {X : Type 0} (p : X → Bool) (xs : List X) → position p xs ≡ None → list_any p xs ≡ false
none_passes p [] none = refl
none_passes p (x ∷ xs) none =
    let parts = not_here (p x) (position p xs) (sym (position-cons p x xs) ∙ none) in
    or_from (p x) (list_any p xs) parts.0 (none_passes p xs parts.1)

-- three tests at once
abbrev three : {X : Type 0} → (X → Bool) → (X → Bool) → (X → Bool) → (X → Bool) → X → Bool
three free p q r x = free x && (p x || (q x || r x))

abbrev one : {X : Type 0} → (X → Bool) → (X → Bool) → X → Bool
one free p x = free x && p x

split_test : (f p q r : Bool) → f && (p || (q || r)) ≡ false → (f && p ≡ false) × ((f && q ≡ false) × (f && r ≡ false))
split_test false p q r none = (refl, (refl, refl))
split_test true p q r none =
    let first = or_parts p (q || r) none in
    let others = or_parts q r first.1 in
    (first.0, (others.0, others.1))

join_test : (f p q r : Bool) → f && p ≡ false → f && q ≡ false → f && r ≡ false → f && (p || (q || r)) ≡ false
join_test false p q r a b c = refl
join_test true p q r a b c = or_from p (q || r) a (or_from q r b c)

split_any : {X : Type 0} (free p q r : X → Bool) (xs : List X) → list_any (three free p q r) xs ≡ false
    → (list_any (one free p) xs ≡ false) × ((list_any (one free q) xs ≡ false) × (list_any (one free r) xs ≡ false))
split_any free p q r [] none = (refl, (refl, refl))
split_any free p q r (x ∷ xs) none =
    let parts = or_parts (three free p q r x) (list_any (three free p q r) xs) none in
    let now = split_test (free x) (p x) (q x) (r x) parts.0 in
    let rest = split_any free p q r xs parts.1 in (
      or_from (one free p x) (list_any (one free p) xs) now.0 rest.0,
      (
        or_from (one free q x) (list_any (one free q) xs) now.1.0 rest.1.0,
        or_from (one free r x) (list_any (one free r) xs) now.1.1 rest.1.1,
      ),
    )

join_any : {X : Type 0} (free p q r : X → Bool) (xs : List X) → list_any (one free p) xs ≡ false → list_any (one free q) xs ≡ false → list_any (one free r) xs ≡ false
    → list_any (three free p q r) xs ≡ false
join_any free p q r [] a b c = refl
join_any free p q r (x ∷ xs) a b c =
    let ps = or_parts (one free p x) (list_any (one free p) xs) a in
    let qs = or_parts (one free q x) (list_any (one free q) xs) b in
    let rs = or_parts (one free r x) (list_any (one free r) xs) c in
    or_from (three free p q r x) (list_any (three free p q r) xs) (join_test (free x) (p x) (q x) (r x) ps.0 qs.0 rs.0) (join_any free p q r xs ps.1 qs.1 rs.1)

-- ---- the rules

abbrev free_at : (ℕ → Bool) → Location → Bool
free_at bound l = not (bound l.address)

abbrev tested : (List Seg → ℕ → Option ℕ → Bool) → List Seg → (ℕ → Option ℕ) → Location → Bool
tested breaks ss pointer l = breaks ss (value_of ss l) (pointer l.address)

pub kept_rules : (ss : List Seg) (bound : ℕ → Bool) (pointer : ℕ → Option ℕ) (ls : List Location) → any_breaks ss bound pointer ls ≡ false → rebase_fault ss bound pointer ls ≡ None
kept_rules ss bound pointer ls none =
    let each = split_any (free_at bound) (tested breaks_135 ss pointer) (tested breaks_136 ss pointer) (tested breaks_137 ss pointer) ls none in
    let a : first_rebase breaks_135 ss bound pointer ls ≡ None = none_first (one (free_at bound) (tested breaks_135 ss pointer)) ls each.0 in
    let b : first_rebase breaks_136 ss bound pointer ls ≡ None = none_first (one (free_at bound) (tested breaks_136 ss pointer)) ls each.1.0 in
    let c : first_rebase breaks_137 ss bound pointer ls ≡ None = none_first (one (free_at bound) (tested breaks_137 ss pointer)) ls each.1.1 in
    (λ i. first_break (broken rules.PointsIntoLinkedit (a i) ∷ broken rules.RebaseOutside (b i) ∷ broken rules.PointerOutOfRange (c i) ∷ []))

none_broken : (rule : Rule) (place : Option ℕ) (rest : Option Site) → option_or (broken rule place) rest ≡ None → (place ≡ None) × (rest ≡ None)
none_broken rule None rest none = (refl, none)
none_broken rule (Some n) rest none = absurd (cc)

pub rules_kept : (ss : List Seg) (bound : ℕ → Bool) (pointer : ℕ → Option ℕ) (ls : List Location) → rebase_fault ss bound pointer ls ≡ None → any_breaks ss bound pointer ls ≡ false
rules_kept ss bound pointer ls none =
    let a = first_rebase breaks_135 ss bound pointer ls in
    let b = first_rebase breaks_136 ss bound pointer ls in
    let c = first_rebase breaks_137 ss bound pointer ls in
    let first = none_broken rules.PointsIntoLinkedit a (first_break (broken rules.RebaseOutside b ∷ broken rules.PointerOutOfRange c ∷ [])) none in
    let second = none_broken rules.RebaseOutside b (first_break (broken rules.PointerOutOfRange c ∷ [])) first.1 in
    let third = none_broken rules.PointerOutOfRange c None second.1 in
    join_any (free_at bound) (tested breaks_135 ss pointer) (tested breaks_136 ss pointer) (tested breaks_137 ss pointer) ls
    (none_passes (one (free_at bound) (tested breaks_135 ss pointer)) ls first.0)
    (none_passes (one (free_at bound) (tested breaks_136 ss pointer)) ls second.0)
    (none_passes (one (free_at bound) (tested breaks_137 ss pointer)) ls third.0)

pub none_any : (b : Bool) → not b ≡ true → b ≡ false
none_any true is = absurd (cc)
none_any false is = refl
