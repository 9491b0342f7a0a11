-- The exports of a trie: the names that paths of edges spell from its first node.
use Rattle.std.specs.Prelude.{◌≡◌, ◌<◌, ◌⊎◌, ℕ, ◌+◌, List, [], ◌∷◌, ◌++◌, length, Some, slice_index_or}
use Rattle.std.specs.declared.cmp.Ordering.TheVariants.{Less}
use Rattle.std.specs.Ordering.{nat_cmp}
use Rattle.std.specs.Cmp.Lexicographic.{slice_cmp}
use Rattle.export_trie.specs.declared.export.Export.{Export}
use Rattle.export_trie.specs.Nodes.{terminal_of, children_of}

abbrev pub Member : {A : Type 0} → A → List A → Type 0
Member x [] = ⊥
Member x (y ∷ ys) = (x ≡ y) ⊎ Member x ys

-- a path from the first node spells this name and ends at the node at this offset
pub data Spells (trie : List ℕ) : List ℕ → ℕ → Type 0 where
  Root : Spells trie [] 0
  Edge : {name : List ℕ} {offset : ℕ} (edge : List ℕ) (end : ℕ) → Spells trie name offset → Member (edge, end) (children_of trie offset) → Spells trie (name ++ edge) end

-- a trie exports a name where a path spells it and ends at a node with a terminal
pub record HasExport (trie : List ℕ) (export : Export) : Type 0 where
  pub node : ℕ
  pub path : Spells trie export.name node
  pub terminal : terminal_of trie node ≡ Some (export.flags, export.target)

-- all exports of the trie, in bytewise order of their names
pub record AreExports (trie : List ℕ) (exports : List Export) : Type 0 where
  pub rises : (k : ℕ) (d : Export) → k + 1 < length exports → slice_cmp nat_cmp (slice_index_or exports k d).name (slice_index_or exports (k + 1) d).name ≡ Less
  pub only : (export : Export) → Member export exports → HasExport trie export
  pub all : (export : Export) → HasExport trie export → Member export exports
