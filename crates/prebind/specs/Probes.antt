-- How many images are asked for a name in a resolution: in each search order that it goes through, those up to the first that exports the name.
use Rattle.std.specs.Prelude.{ℕ, zero, suc, ◌+◌, if◌then◌else◌, List, [], ◌∷◌, ◌++◌, Option, Some, None, slice_index_or}
use Rattle.std.specs.List.{sum_by}
use Rattle.bind_ops.specs.Records.{BoundWord}
use Rattle.export_trie.specs.declared.export.Export.{Export}
use Rattle.export_trie.specs.declared.export.Target.{Target}
use Rattle.export_trie.specs.Finding.{target_named}
use Rattle.dep_closure.specs.declared.dep.Dep.{Dep}
use Rattle.dep_closure.specs.declared.dep.Dep.TheVariants as deps
use Rattle.dep_closure.specs.Linked.{dependency_at}
use Rattle.prebind.specs.Sets.{ImageSet}
use Rattle.prebind.specs.Places.{exports_in}
use Rattle.prebind.specs.Resolves.{Pair, is_met, Step, Ends, Reexports, step, next_name, export_count}

abbrev pub unless_found : Option Target → ℕ → ℕ
unless_found None later = later
unless_found (Some target) later = 0

-- the images of a search order up to and including the first that exports the name, or all of them where none does
abbrev pub searched : List (List Export) → List ℕ → List ℕ → ℕ
searched exports name [] = 0
searched exports name (k ∷ ks) = 1 + unless_found (target_named (slice_index_or exports k []) name) (searched exports name ks)

abbrev pub dependency_probes : ImageSet → List ℕ → Dep → ℕ
dependency_probes set name deps.BadOrdinal = 0
dependency_probes set name deps.Missing = 0
dependency_probes set name (deps.Image j) = searched (exports_in set.streams) name (slice_index_or set.links.orders j [])

-- those of one step of a resolution
unfoldable pub step_probes : ImageSet → ℕ → ℕ → List ℕ → ℕ
step_probes set image ordinal name = dependency_probes set name (dependency_at set.links image ordinal)

-- and of the steps behind it
abbrev pub later_probes : List Pair → List ℕ → Step → (List Pair → ℕ → ℕ → List ℕ → ℕ) → ℕ
later_probes met name (Ends outcome) next = 0
later_probes met name (Reexports k ordinal own) next =
    if is_met met (k, name) then 0 else next (met ++ (k, name) ∷ []) k ordinal (next_name name own)

unfoldable pub probes_after : ℕ → ImageSet → List Pair → ℕ → ℕ → List ℕ → ℕ
probes_after zero set met image ordinal name = 0
probes_after (suc left) set met image ordinal name =
    step_probes set image ordinal name + later_probes met name (step set image ordinal name) (probes_after left set)

unfoldable pub probes : ImageSet → ℕ → ℕ → List ℕ → ℕ
probes set image ordinal name = probes_after (export_count set + 1) set [] image ordinal name

-- all those that some binds of image k take
unfoldable pub bind_probes : ImageSet → ℕ → List BoundWord → ℕ
bind_probes set k binds = sum_by (λ (b : BoundWord). probes set k b.ordinal b.name) binds
