-- Where a symbol leads, in the two-level namespace of mach-o/loader.h: an ordinal names a dependency, and the name is sought in that image and in those that it re-exports.
use Rattle.std.specs.Prelude.{ℕ, zero, suc, ◌+◌, Bool, ◌&&◌, nat_eq, if◌then◌else◌, List, [], ◌∷◌, ◌++◌, length, Option, Some, None, slice_index_or}
use Rattle.std.specs.List.{list_any, sum_by}
use Rattle.macho_image.specs.Rules.{same_bytes}
use Rattle.macho_image.specs.Records.{Seg, Img}
use Rattle.macho_image.specs.declared.places.segment_index.Inside.{Inside}
use Rattle.macho_image.specs.Segments.{inside, segments_at}
use Rattle.export_trie.specs.declared.export.Export.{Export}
use Rattle.export_trie.specs.declared.export.Target.{Target}
use Rattle.export_trie.specs.declared.export.Target.TheVariants.{Offset, Absolute, Reexport}
use Rattle.export_trie.specs.Finding.{target_named}
use Rattle.dep_closure.specs.declared.dep.Dep.{Dep}
use Rattle.dep_closure.specs.declared.dep.Dep.TheVariants as deps
use Rattle.dep_closure.specs.Linked.{dependency_at}
use Rattle.prebind.specs.declared.resolved.Resolved.{Resolved}
use Rattle.prebind.specs.declared.resolved.Resolved.TheVariants.{Place, Constant, Absent, Loop, BadOrdinal}
use Rattle.prebind.specs.Sets.{ImageSet}
use Rattle.prebind.specs.Places.{exports_in, address_of_export}

-- a name that an image re-exports
abbrev pub Pair : Type 0
Pair = ℕ × List ℕ

abbrev pub same_pair : Pair → Pair → Bool
same_pair p q = nat_eq p.0 q.0 && same_bytes p.1 q.1

abbrev pub is_met : List Pair → Pair → Bool
is_met met p = list_any (same_pair p) met

-- what an ordinal and a name lead to at once: an outcome, or the entry of an image that re-exports the name from one of its own dependencies, maybe under another name
pub data Step : Type 0 where
  Ends : Resolved → Step
  Reexports : ℕ → ℕ → List ℕ → Step

abbrev pub or_later : ℕ → Option Target → Option (ℕ × Target) → Option (ℕ × Target)
or_later k None later = later
or_later k (Some target) later = Some (k, target)

-- the first of some images that exports the name, and where it leads there
abbrev pub first_exporting : List (List Export) → List ℕ → List ℕ → Option (ℕ × Target)
first_exporting exports name [] = None
first_exporting exports name (k ∷ ks) = or_later k (target_named (slice_index_or exports k []) name) (first_exporting exports name ks)

-- an address of image k as a place in the segment around it
abbrev pub place_of : ℕ → ℕ → Option Inside → Resolved
place_of k address None = Constant address
place_of k address (Some p) = Place k p.segment p.distance

abbrev pub export_place : List Seg → ℕ → ℕ → Resolved
export_place segments k offset = place_of k (address_of_export segments offset) (inside segments (address_of_export segments offset))

abbrev pub target_step : List Seg → ℕ → Target → Step
target_step segments k (Offset offset) = Ends (export_place segments k offset)
target_step segments k (Absolute value) = Ends (Constant value)
target_step segments k (Reexport ordinal name) = Reexports k ordinal name

abbrev pub found_step : List Img → Option (ℕ × Target) → Step
found_step images None = Ends Absent
found_step images (Some (k, target)) = target_step (segments_at images k) k target

abbrev pub dependency_step : ImageSet → List ℕ → Dep → Step
dependency_step set name deps.BadOrdinal = Ends BadOrdinal
dependency_step set name deps.Missing = Ends (Constant 0)
dependency_step set name (deps.Image j) = found_step set.images (first_exporting (exports_in set.streams) name (slice_index_or set.links.orders j []))

unfoldable pub step : ImageSet → ℕ → ℕ → List ℕ → Step
step set image ordinal name = dependency_step set name (dependency_at set.links image ordinal)

-- an entry without a name re-exports the same name
abbrev pub next_name : List ℕ → List ℕ → List ℕ
next_name name [] = name
next_name name (x ∷ xs) = x ∷ xs

-- a re-export that was met before is met for ever
abbrev pub after_step : List Pair → List ℕ → Step → (List Pair → ℕ → ℕ → List ℕ → Resolved) → Resolved
after_step met name (Ends outcome) next = outcome
after_step met name (Reexports k ordinal own) next =
    if is_met met (k, name) then Loop else next (met ++ (k, name) ∷ []) k ordinal (next_name name own)

-- the outcome after some re-exports, where there are at most so many others
unfoldable pub resolves_after : ℕ → ImageSet → List Pair → ℕ → ℕ → List ℕ → Resolved
resolves_after zero set met image ordinal name = Loop
resolves_after (suc left) set met image ordinal name = after_step met name (step set image ordinal name) (resolves_after left set)

-- there are no more re-exports than exports
unfoldable pub export_count : ImageSet → ℕ
export_count set = sum_by length (exports_in set.streams)

unfoldable pub resolves : ImageSet → ℕ → ℕ → List ℕ → Resolved
resolves set image ordinal name = resolves_after (export_count set + 1) set [] image ordinal name
