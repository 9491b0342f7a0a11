-- What the parts of measuring promise each other.
use Rattle.std.specs.Prelude.{◌≡◌, ◌<◌, ℕ, ◌+◌, List, sum_by}
use Rattle.export_trie.specs.declared.export.Export.{Export}
use Rattle.export_trie.specs.Writing.{edges_len, node_len, nodes_len}
use Rattle.export_trie.specs.Paths.{Member}
use Rattle.export_trie.specs.Planning.{grown, first_terminal, first_forest, IsHeld}

-- a node that is to be measured: its exports, and how many bytes its name has
pub record Part : Type 0 where
  pub exports : List Export
  pub depth : ℕ

-- the length of the node and of all below it
abbrev pub part_len : Part → ℕ
part_len part = node_len (first_terminal part.depth part.exports) (first_forest part.depth part.exports) + nodes_len (first_forest part.depth part.exports)

abbrev pub AllHeld : List Part → Type 0
AllHeld parts = (part : Part) → Member part parts → IsHeld part.depth part.exports

-- the edges of a node are measured, and its children are to come
pub record AreMeasured (depth : ℕ) (exports : List Export) (len : ℕ) (parts parts' : List Part) : Type 0 where
  pub edges : len ≡ edges_len (grown depth exports)
  pub children : sum_by part_len parts' ≡ sum_by part_len parts + nodes_len (grown depth exports)
  pub held : AllHeld parts'

-- a node is
pub record IsNodeMeasured (part : Part) (len : ℕ) (parts parts' : List Part) : Type 0 where
  pub some : 0 < len
  pub all : len + sum_by part_len parts' ≡ sum_by part_len parts + part_len part
  pub held : AllHeld parts'
