-- The rules on where words lead: 132 to 134 of binds, and 135, 136 and 137 of rebases that aren't bound, each by the least index at which it is broken.
use Rattle.std.specs.Prelude.{ℕ, ◌+◌, Bool, true, false, not, ◌&&◌, ◌||◌, nat_lt, if◌then◌else◌, List, [], ◌∷◌, position, Option, Some, None, option_map, slice_get}
use Rattle.std.specs.Option.{option_or}
use Rattle.dsc_base.specs.declared.fault.Site.{Site}
use Rattle.dsc_base.specs.declared.fault.Break.{Break}
use Rattle.dsc_base.specs.declared.rule.Rule.{Rule}
use Rattle.dsc_base.specs.declared.rule.Rule.TheVariants as rules
use Rattle.dsc_base.specs.Refusals.{broken, first_break, in_image}
use Rattle.macho_image.specs.Records.{Seg}
use Rattle.macho_image.specs.declared.place.Location.{Location}
use Rattle.macho_image.specs.declared.places.segment_index.Inside.{Inside}
use Rattle.macho_image.specs.Segments.{segments_at, value_of, inside}
use Rattle.bind_ops.specs.Records.{BoundWord}
use Rattle.prebind.specs.declared.resolved.Resolved.{Resolved}
use Rattle.prebind.specs.declared.resolved.Resolved.TheVariants as outcomes
use Rattle.prebind.specs.Sets.{StreamLists, ImageSet}
use Rattle.prebind.specs.Places.{is_linkedit_at}
use Rattle.prebind.specs.Targets.{outcome_of, pointer_at}
use Rattle.prebind.specs.Words.{is_bound, streams_at}

-- ---- rules 132 to 134: what a symbol resolves to

abbrev pub outcome_fault : Bool → Resolved → Option Rule
outcome_fault weak outcomes.BadOrdinal = Some rules.BadOrdinal
outcome_fault weak outcomes.Absent = if weak then None else Some rules.UnresolvedSymbol
outcome_fault weak outcomes.Loop = Some rules.ReexportLoop
outcome_fault weak _ = None

-- the rule that the bind at index i breaks
abbrev pub bind_fault : ImageSet → ℕ → ℕ → BoundWord → Option Site
bind_fault set k i b = option_map (λ (rule : Rule). record { rule = rule; at = i }) (outcome_fault b.weak (outcome_of set k b))

-- the first bind from index i on that breaks one of these rules
abbrev pub bind_fault_from : ImageSet → ℕ → ℕ → List BoundWord → Option Site
bind_fault_from set k i [] = None
bind_fault_from set k i (b ∷ bs) = option_or (bind_fault set k i b) (bind_fault_from set k (i + 1) bs)

-- ---- rules 135 to 137: where a value leads, by the segment that is recorded for it

-- rule 135: a value in `__LINKEDIT`; rule 136: one in no segment; both of a rebase for which none is recorded
abbrev pub leads_into_linkedit : List Seg → Option Inside → Bool
leads_into_linkedit segments None = false
leads_into_linkedit segments (Some p) = is_linkedit_at (slice_get segments p.segment)

abbrev pub leads_nowhere : Option Inside → Bool
leads_nowhere None = true
leads_nowhere (Some p) = false

abbrev pub breaks_135 : List Seg → ℕ → Option ℕ → Bool
breaks_135 segments value None = leads_into_linkedit segments (inside segments value)
breaks_135 segments value (Some g) = false

abbrev pub breaks_136 : List Seg → ℕ → Option ℕ → Bool
breaks_136 segments value None = leads_nowhere (inside segments value)
breaks_136 segments value (Some g) = false

-- rule 137: a value below the start or above the end of the segment that is recorded
abbrev pub is_out_of : Option Seg → ℕ → Bool
is_out_of None value = true
is_out_of (Some s) value = nat_lt value s.vmaddr || nat_lt (s.vmaddr + s.vmsize) value

abbrev pub breaks_137 : List Seg → ℕ → Option ℕ → Bool
breaks_137 segments value None = false
breaks_137 segments value (Some g) = is_out_of (slice_get segments g) value

-- the least index of a rebase that isn't bound and breaks a rule
abbrev pub first_rebase : (List Seg → ℕ → Option ℕ → Bool) → List Seg → (ℕ → Bool) → (ℕ → Option ℕ) → List Location → Option ℕ
first_rebase breaks segments bound pointer ls = position (λ (l : Location). not (bound l.address) && breaks segments (value_of segments l) (pointer l.address)) ls

-- the first of rules 135 to 137 that rebases break
abbrev pub rebase_fault : List Seg → (ℕ → Bool) → (ℕ → Option ℕ) → List Location → Option Site
rebase_fault segments bound pointer ls =
    first_break (broken rules.PointsIntoLinkedit (first_rebase breaks_135 segments bound pointer ls)
    ∷ broken rules.RebaseOutside (first_rebase breaks_136 segments bound pointer ls)
    ∷ broken rules.PointerOutOfRange (first_rebase breaks_137 segments bound pointer ls) ∷ [])

-- the first of rules 132 to 137 that the words of image k break, by its segments and what its streams spell
abbrev pub word_fault : ImageSet → ℕ → List Seg → StreamLists → Option Site
word_fault set k segments s = option_or (bind_fault_from set k 0 s.binds) (rebase_fault segments (is_bound s.binds) (pointer_at s.references) s.rebases)

-- ---- the four groups of image k, each by itself

unfoldable pub symbol_break : ImageSet → ℕ → Option Site
symbol_break set k = bind_fault_from set k 0 (streams_at set k).binds

abbrev pub rebases_broken : (List Seg → ℕ → Option ℕ → Bool) → List Seg → StreamLists → Option ℕ
rebases_broken breaks segments s = first_rebase breaks segments (is_bound s.binds) (pointer_at s.references) s.rebases

unfoldable pub linkedit_pointer_break : ImageSet → ℕ → Option Site
linkedit_pointer_break set k = broken rules.PointsIntoLinkedit (rebases_broken breaks_135 (segments_at set.images k) (streams_at set k))

unfoldable pub stray_pointer_break : ImageSet → ℕ → Option Site
stray_pointer_break set k = broken rules.RebaseOutside (rebases_broken breaks_136 (segments_at set.images k) (streams_at set k))

unfoldable pub recorded_pointer_break : ImageSet → ℕ → Option Site
recorded_pointer_break set k = broken rules.PointerOutOfRange (rebases_broken breaks_137 (segments_at set.images k) (streams_at set k))

-- the first that image k breaks, in the order of the groups
unfoldable pub place_break : ImageSet → ℕ → Option Break
place_break set k =
    option_map (in_image k) (first_break (symbol_break set k ∷ linkedit_pointer_break set k ∷ stray_pointer_break set k ∷ recorded_pointer_break set k ∷ []))
