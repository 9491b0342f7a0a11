-- The first rule that a trie breaks: a node is read whole and then its children, in spelled order.
use Rattle.std.specs.Prelude.{ℕ, zero, suc, ◌+◌, ◌||◌, List, [], ◌∷◌, ◌++◌, length, drop, map, sum_by, Bool, Option, Some, None, Result, Ok, Err, nat_lt, if◌then◌else◌}
use Rattle.dsc_base.specs.Limits.{record_limit, export_names_limit, name_limit}
use Rattle.dsc_base.specs.declared.rule.Rule.{Rule}
use Rattle.dsc_base.specs.declared.rule.Rule.TheVariants.{TrieNodeTwice, TrieBadNode, TrieTooManyNames}
use Rattle.dsc_base.specs.declared.fault.Site.{Site}
use Rattle.export_trie.specs.declared.export.Export.{Export}
use Rattle.export_trie.specs.declared.export.Target.{Target}
use Rattle.export_trie.specs.declared.export.Target.TheVariants.{Offset, Absolute, Reexport}
use Rattle.export_trie.specs.Nodes.{◌>>=◌, Terminal, Child, among, head_at, edges_at, terminal_of}

-- the name that leads to a node, and the node's offset
abbrev pub Visit : Type 0
Visit = List ℕ × ℕ

-- the nodes of the visits so far, the newest first, and their exports, the oldest first
abbrev pub visited : List Visit → List ℕ
visited made = map (λ (visit : Visit). visit.1) made

abbrev pub export_of : List ℕ → Option Terminal → List Export
export_of name None = []
export_of name (Some (flags, target)) = record { name = name; flags = flags; target = target } ∷ []

unfoldable pub exported : List ℕ → List Visit → List Export
exported trie [] = []
exported trie (visit ∷ made) = exported trie made ++ export_of visit.0 (terminal_of trie visit.1)

-- the limits on exports: how many, and the bytes of their names and of the names that re-exports have there
abbrev pub renamed_len : Target → ℕ
renamed_len (Offset value) = 0
renamed_len (Absolute value) = 0
renamed_len (Reexport ordinal name) = length name

abbrev pub names_len : Export → ℕ
names_len export = length export.name + renamed_len export.target

unfoldable pub too_many : List Export → Bool
too_many exports = nat_lt record_limit (length exports) || nat_lt export_names_limit (sum_by names_len exports)

-- the children of a node, after exports that came before it
unfoldable pub opened : List ℕ → List Export → Visit → Result (List Child) Rule
opened trie before visit = do
  head ← head_at (drop visit.1 trie)
  if too_many (before ++ export_of visit.0 head.0) then Err TrieTooManyNames else edges_at (length trie) head.1

unfoldable pub entered : List ℕ → List Visit → Visit → Result (List Child) Rule
entered trie made visit =
    if among visit.1 (visited made) then Err TrieNodeTwice else (if nat_lt name_limit (length visit.0) then Err TrieBadNode else opened trie (exported trie made) visit)

-- a child is reached by the node's name and its edge
abbrev pub below : List ℕ → Child → Visit
below name child = (name ++ child.0, child.1)

-- what was reached: the visits so far, or the first fault
abbrev pub Progress : Type 0
Progress = Result (List Visit) Site

abbrev pub after : Visit → Result (List Child) Rule → (List Child → Progress) → Progress
after visit (Err rule) next = Err (record { rule = rule; at = visit.1 })
after visit (Ok children) next = next children

abbrev pub and_then : Progress → (List Visit → Progress) → Progress
and_then (Err site) next = Err site
and_then (Ok made) next = next made

-- nodes one after the other
abbrev pub in_turn : (List Visit → Visit → Progress) → List Visit → List Visit → Progress
in_turn read made [] = Ok made
in_turn read made (visit ∷ visits) = and_then (read made visit) (λ more. in_turn read more visits)

-- a node, and then what is below it. A trie has no more nodes than bytes, so a path of more nodes than that comes to one of them a second time
unfoldable pub tree_read : List ℕ → ℕ → List Visit → Visit → Progress
tree_read trie zero made visit = Err (record { rule = TrieNodeTwice; at = visit.1 })
tree_read trie (suc depth) made visit =
    after visit (entered trie made visit) (λ children. in_turn (tree_read trie depth) (visit ∷ made) (map (below visit.0) children))

abbrev pub starts : List ℕ → List Visit
starts [] = []
starts (byte ∷ bytes) = ([], 0) ∷ []

abbrev pub fault_in : Progress → Option Site
fault_in (Ok made) = None
fault_in (Err site) = Some site

-- the first rule that the trie breaks, and the offset of the node that breaks it
unfoldable pub trie_break : List ℕ → Option Site
trie_break trie = fault_in (in_turn (tree_read trie (length trie)) [] (starts trie))
