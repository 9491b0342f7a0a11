-- The exports of a trie as one list: those of its tree, in bytewise order of their names.
use Rattle.std.specs.Prelude.{ℕ, zero, suc, List, [], ◌∷◌, ◌++◌, length, flat_map, if◌then◌else◌}
use Rattle.std.specs.Ordering.{nat_cmp, is_lt}
use Rattle.std.specs.Cmp.Lexicographic.{slice_cmp}
use Rattle.export_trie.specs.declared.export.Export.{Export}
use Rattle.export_trie.specs.Nodes.{Child, terminal_of, children_of}
use Rattle.export_trie.specs.Order.{export_of}

-- the exports of a node and of all that is below it, in spelled order. A path of an accepted trie has no more nodes than the trie has bytes
unfoldable pub tree_exports : List ℕ → ℕ → List ℕ → ℕ → List Export
tree_exports trie zero name node = []
tree_exports trie (suc depth) name node =
    export_of name (terminal_of trie node) ++ flat_map (λ (child : Child). tree_exports trie depth (name ++ child.0) child.1) (children_of trie node)

-- a list in bytewise order of names
abbrev pub put_by_name : Export → List Export → List Export
put_by_name export [] = export ∷ []
put_by_name export (first ∷ others) =
    if is_lt (slice_cmp nat_cmp first.name export.name) then first ∷ put_by_name export others else export ∷ (first ∷ others)

abbrev pub by_name : List Export → List Export
by_name [] = []
by_name (export ∷ exports) = put_by_name export (by_name exports)

-- the exports of an accepted trie. Where a trie breaks a rule this says nothing of it
unfoldable pub exports_of : List ℕ → List Export
exports_of trie = by_name (tree_exports trie (length trie) [] 0)
