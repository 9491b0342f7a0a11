-- The bytes of a trie: names in bytewise order, the longest common edges, nodes in preorder, offsets of children in four bytes.
use Rattle.std.specs.Prelude.{◌≡◌, ◌<◌, ◌≤◌, ℕ, zero, suc, ◌+◌, min, List, [], ◌∷◌, ◌++◌, length, take, drop, sum_by, slice_index, slice_index_or, Option, Some, None, Bool, true, false, nat_eq, if◌then◌else◌}
use Rattle.std.specs.List.{prefix_len, common_prefix_len}
use Rattle.dsc_base.specs.Limits.{name_limit}
use Rattle.dsc_base.specs.Uleb.{uleb_bytes, uleb4_bytes}
use Rattle.export_trie.specs.declared.export.Export.{Export}
use Rattle.export_trie.specs.declared.export.Target.{Target}
use Rattle.export_trie.specs.declared.export.Target.TheVariants.{Offset, Absolute, Reexport}
use Rattle.std.specs.declared.cmp.Ordering.TheVariants.{Less}
use Rattle.std.specs.Ordering.{nat_cmp}
use Rattle.std.specs.Cmp.Lexicographic.{slice_cmp}
use Rattle.export_trie.specs.Nodes.{Terminal, kind_of, is_reexport, is_resolver, are_bad_flags}
use Rattle.export_trie.specs.Order.{too_many}
use Rattle.export_trie.specs.Paths.{Member}

-- the nodes below one: the edge, the terminal and what is below of the first one, and its siblings
pub data Forest : Type 0 where
  Bare : Forest
  Branch : List ℕ → Option Terminal → Forest → Forest → Forest

-- exports whose names have their first `depth` bytes in common are parted by the next byte
abbrev pub goes_with : ℕ → Export → Export → Bool
goes_with depth first export = nat_eq (slice_index export.name depth) (slice_index first.name depth)

abbrev pub same_edge : ℕ → Export → List Export → List Export
same_edge depth first exports = take (prefix_len (goes_with depth first) exports) exports

abbrev pub other_edges : ℕ → Export → List Export → List Export
other_edges depth first exports = drop (prefix_len (goes_with depth first) exports) exports

-- the length of what a name has in common with all the others
abbrev pub shared_len : List ℕ → List Export → ℕ
shared_len name [] = length name
shared_len name (export ∷ exports) = min (common_prefix_len nat_eq name export.name) (shared_len name exports)

-- a node ends the first name if it is no longer than what leads there; the others go on from there
abbrev pub own_terminal : ℕ → Export → Option Terminal
own_terminal depth first = if nat_eq (length first.name) depth then Some (first.flags, first.target) else None

abbrev pub going_on : ℕ → Export → List Export → List Export
going_on depth first exports = if nat_eq (length first.name) depth then exports else first ∷ exports

-- the nodes below one whose name has `depth` bytes; a name has no more edges than bytes
unfoldable pub forest : ℕ → ℕ → List Export → Forest
forest zero depth exports = Bare
forest (suc bytes) depth [] = Bare
forest (suc bytes) depth (first ∷ exports) =
    let len = shared_len first.name (same_edge depth first exports) in
    Branch (drop depth (take len first.name)) (own_terminal len first) (forest bytes len (going_on len first (same_edge depth first exports))) (forest bytes depth (other_edges depth first exports))

-- the spelling of a node
unfoldable pub target_bytes : Target → List ℕ
target_bytes (Offset value) = uleb_bytes value
target_bytes (Absolute value) = uleb_bytes value
target_bytes (Reexport ordinal name) = uleb_bytes ordinal ++ (name ++ 0 ∷ [])

unfoldable pub terminal_bytes : Option Terminal → List ℕ
terminal_bytes None = 0 ∷ []
terminal_bytes (Some (flags, target)) = uleb_bytes (length (uleb_bytes flags ++ target_bytes target)) ++ (uleb_bytes flags ++ target_bytes target)

abbrev pub children_count : Forest → ℕ
children_count Bare = 0
children_count (Branch edge terminal below next) = 1 + children_count next

abbrev pub edges_len : Forest → ℕ
edges_len Bare = 0
edges_len (Branch edge terminal below next) = length edge + 5 + edges_len next

abbrev pub node_len : Option Terminal → Forest → ℕ
node_len terminal below = length (terminal_bytes terminal) + 1 + edges_len below

abbrev pub nodes_len : Forest → ℕ
nodes_len Bare = 0
nodes_len (Branch edge terminal below next) = node_len terminal below + nodes_len below + nodes_len next

-- a node's edges, where the first child stands at `at`; and all nodes from there on
abbrev pub edges_bytes : ℕ → Forest → List ℕ
edges_bytes at Bare = []
edges_bytes at (Branch edge terminal below next) =
    edge ++ (0 ∷ (uleb4_bytes at ++ edges_bytes (at + (node_len terminal below + nodes_len below)) next))

abbrev pub node_bytes : ℕ → Option Terminal → Forest → List ℕ
node_bytes at terminal below = terminal_bytes terminal ++ (children_count below ∷ edges_bytes at below)

abbrev pub nodes_bytes : ℕ → Forest → List ℕ
nodes_bytes at Bare = []
nodes_bytes at (Branch edge terminal below next) =
    node_bytes (at + node_len terminal below) terminal below ++ (nodes_bytes (at + node_len terminal below) below ++ nodes_bytes (at + (node_len terminal below + nodes_len below)) next)

abbrev pub rooted_bytes : Option Terminal → Forest → List ℕ
rooted_bytes terminal below = node_bytes (node_len terminal below) terminal below ++ nodes_bytes (node_len terminal below) below

-- no bytes for no exports
unfoldable pub trie_bytes : List Export → List ℕ
trie_bytes [] = []
trie_bytes (first ∷ exports) =
    rooted_bytes (own_terminal 0 first) (forest (sum_by (λ (export : Export). length export.name) (first ∷ exports)) 0 (going_on 0 first exports))

-- what a trie can hold
abbrev pub HasNoZero : List ℕ → Type 0
HasNoZero [] = Unit {0}
HasNoZero (byte ∷ bytes) = (0 < byte) × HasNoZero bytes

abbrev pub FitsFlags : ℕ → Target → Type 0
FitsFlags flags (Offset value) = (is_reexport flags ≡ false) × (nat_eq (kind_of flags) 2 ≡ false)
FitsFlags flags (Absolute value) = (is_reexport flags ≡ false) × (nat_eq (kind_of flags) 2 ≡ true)
FitsFlags flags (Reexport ordinal name) = (is_reexport flags ≡ true) × HasNoZero name × (length name ≤ name_limit)

pub record IsWritableExport (export : Export) : Type 0 where
  pub short : length export.name ≤ name_limit
  pub plain : HasNoZero export.name
  pub known : are_bad_flags export.flags ≡ false
  pub no_resolver : is_resolver export.flags ≡ false
  pub fits : FitsFlags export.flags export.target

-- names rise strictly, and the limits of a trie are kept
pub record IsWritable (exports : List Export) : Type 0 where
  pub rises : (k : ℕ) (d : Export) → k + 1 < length exports → slice_cmp nat_cmp (slice_index_or exports k d).name (slice_index_or exports (k + 1) d).name ≡ Less
  pub each : (export : Export) → Member export exports → IsWritableExport export
  pub few : too_many exports ≡ false
