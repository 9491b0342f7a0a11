-- The entry of one name.
use Rattle.std.specs.Prelude.{◌≡◌, ℕ, List, [], ◌∷◌, ◌++◌, Option, Some, None, nat_eq, if◌then◌else◌}
use Rattle.std.specs.Borrow.{Bor}
use Rattle.std.specs.Cmp.Lexicographic.{pointwise}
use Rattle.export_trie.specs.declared.export.Export.{Export}
use Rattle.export_trie.specs.declared.export.Target.{Target}
use Rattle.export_trie.specs.declared.export.Target.TheVariants.{Offset, Absolute, Reexport}
use Rattle.export_trie.specs.declared.export.Entry.{Entry}
use Rattle.export_trie.specs.declared.export.Entry.TheVariants as entries
use Rattle.export_trie.specs.declared.export.Found.{Found}
use Rattle.export_trie.specs.declared.export.Found.TheVariants as found
use Rattle.export_trie.specs.Nodes.{Child, Terminal}
use Rattle.export_trie.specs.Paths.{Member, HasExport}

-- where an entry leads, and what was found, wherever its name lies
abbrev pub target_in : Entry → Target
target_in (entries.Offset value) = Offset value
target_in (entries.Absolute value) = Absolute value
target_in (entries.Reexport ordinal name) = Reexport ordinal name.now

abbrev pub target_found : Found → Option Target
target_found (found.Offset value) = Some (Offset value)
target_found (found.Absolute value) = Some (Absolute value)
target_found (found.Reexport ordinal name) = Some (Reexport ordinal name.now)
target_found found.Absent = None

-- the target of the first export with this name
unfoldable pub target_named : List Export → List ℕ → Option Target
target_named [] name = None
target_named (export ∷ exports) name = if pointwise nat_eq name export.name then Some export.target else target_named exports name

-- what a trie has of a name, by its paths
abbrev pub IsTargetOf : List ℕ → List ℕ → Option Target → Type 0
IsTargetOf trie name None = (export : Export) → HasExport trie export → name ≡ export.name → ⊥
IsTargetOf trie name (Some target) = (flags : ℕ) × HasExport trie (record { name = name; flags = flags; target = target })

-- an edge that begins the name, or that none does
abbrev pub Follows : List Child → List ℕ → Option (ℕ × List ℕ) → Type 0
Follows children name None = (child : Child) → Member child children → (rest : List ℕ) → name ≡ child.0 ++ rest → ⊥
Follows children name (Some (next, rest)) = (edge : List ℕ) × (Member (edge, next) children × (name ≡ edge ++ rest))

abbrev pub step_of : Option (ℕ × Bor (List ℕ)) → Option (ℕ × List ℕ)
step_of None = None
step_of (Some (next, rest)) = Some (next, rest.now)

abbrev pub rest_of : Option (Bor (List ℕ)) → Option (List ℕ)
rest_of None = None
rest_of (Some rest) = Some rest.now

abbrev pub target_of : Option Terminal → Option Target
target_of None = None
target_of (Some terminal) = Some terminal.1
