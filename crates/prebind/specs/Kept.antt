-- Rules 135 to 137 of a rebase: each by itself, and where a rebase leads that keeps them all, looked up once.
use Rattle.std.specs.Prelude.{ℕ, Bool, not, ◌&&◌, ◌||◌, List, Option, Some, None, if◌then◌else◌}
use Rattle.std.specs.List.{list_any}
use Rattle.dsc_base.specs.declared.rule.Rule.{Rule}
use Rattle.dsc_base.specs.declared.rule.Rule.TheVariants.{PointsIntoLinkedit, RebaseOutside, PointerOutOfRange}
use Rattle.macho_image.specs.Records.{Seg}
use Rattle.macho_image.specs.Segments.{value_of}
use Rattle.macho_image.specs.declared.place.Location.{Location}
use Rattle.prebind.specs.declared.rebased.Stray.{Stray}
use Rattle.prebind.specs.declared.rebased.Stray.TheVariants.{IntoLinkedit, Nowhere, OutOfRange}
use Rattle.prebind.specs.declared.resolved.WordTarget.{WordTarget}
use Rattle.prebind.specs.Targets.{rebase_target}
use Rattle.prebind.specs.WordRules.{breaks_135, breaks_136, breaks_137}

-- the rule that is broken by one way to stray, and the test of it
abbrev pub rule_of : Stray → Rule
rule_of IntoLinkedit = PointsIntoLinkedit
rule_of Nowhere = RebaseOutside
rule_of OutOfRange = PointerOutOfRange

abbrev pub strays : Stray → List Seg → ℕ → Option ℕ → Bool
strays IntoLinkedit segments value pointer = breaks_135 segments value pointer
strays Nowhere segments value pointer = breaks_136 segments value pointer
strays OutOfRange segments value pointer = breaks_137 segments value pointer

abbrev pub breaks_one : List Seg → ℕ → Option ℕ → Bool
breaks_one segments value pointer = breaks_135 segments value pointer || (breaks_136 segments value pointer || breaks_137 segments value pointer)

abbrev pub kept_target : ℕ → List Seg → ℕ → Option ℕ → Option WordTarget
kept_target k segments value pointer = if breaks_one segments value pointer then None else Some (rebase_target k segments value pointer)

-- whether a rebase that isn't bound breaks one of the rules
abbrev pub breaks_at : List Seg → (ℕ → Bool) → (ℕ → Option ℕ) → Location → Bool
breaks_at segments bound pointer l = not (bound l.address) && breaks_one segments (value_of segments l) (pointer l.address)

abbrev pub any_breaks : List Seg → (ℕ → Bool) → (ℕ → Option ℕ) → List Location → Bool
any_breaks segments bound pointer ls = list_any (breaks_at segments bound pointer) ls
