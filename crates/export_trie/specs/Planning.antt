-- What the parts of writing promise each other.
use Rattle.std.specs.Prelude.{◌≡◌, ◌<◌, ◌≤◌, ℕ, zero, suc, ◌+◌, ◌-◌, ◌^◌, List, [], ◌∷◌, ◌++◌, length, take, drop, sum_by, slice_index, Option, None}
use Rattle.std.specs.declared.cmp.Ordering.TheVariants.{Less}
use Rattle.std.specs.Ordering.{nat_cmp}
use Rattle.std.specs.Cmp.Lexicographic.{slice_cmp}
use Rattle.export_trie.specs.declared.export.Export.{Export}
use Rattle.export_trie.specs.declared.export.Target.{Target}
use Rattle.export_trie.specs.declared.export.Target.TheVariants.{Offset, Absolute, Reexport}
use Rattle.dsc_base.specs.Limits.{name_limit}
use Rattle.dsc_base.specs.Uleb.{uleb4_bytes}
use Rattle.export_trie.specs.Nodes.{Terminal}
use Rattle.export_trie.specs.Order.{renamed_len}
use Rattle.export_trie.specs.Paths.{Member}
use Rattle.export_trie.specs.Writing.{Forest, Bare, Branch, forest, same_edge, other_edges, shared_len, own_terminal, going_on, children_count, terminal_bytes, node_len, nodes_len, node_bytes, nodes_bytes, HasNoZero}

-- each name stands before all later ones
abbrev pub Rising : List Export → Type 0
Rising [] = Unit {0}
Rising (first ∷ exports) = ((export : Export) → Member export exports → slice_cmp nat_cmp first.name export.name ≡ Less) × Rising exports

-- exports whose names go on behind the same `depth` bytes
pub record IsReady (depth : ℕ) (exports : List Export) : Type 0 where
  pub front : List ℕ
  pub begins : (export : Export) → Member export exports → take depth export.name ≡ front
  pub longer : (export : Export) → Member export exports → depth < length export.name
  pub plain : (export : Export) → Member export exports → HasNoZero export.name
  pub rising : Rising exports

-- the forest of exports at a depth, with as much room as it takes
abbrev pub bytes_of_names : List Export → ℕ
bytes_of_names exports = sum_by (λ (export : Export). length export.name) exports

unfoldable pub grown : ℕ → List Export → Forest
grown depth exports = forest (bytes_of_names exports) depth exports

-- a node that is to be written: its exports, how many bytes its name has, and where its offset belongs
pub record Plan : Type 0 where
  pub exports : List Export
  pub depth : ℕ
  pub hole : ℕ

-- the children of a node, where their edges begin at this place
unfoldable pub plans : ℕ → ℕ → ℕ → List Export → List Plan
plans zero at depth exports = []
plans (suc count) at depth [] = []
plans (suc count) at depth (first ∷ exports) =
    let len = shared_len first.name (same_edge depth first exports) in
    record { exports = first ∷ same_edge depth first exports; depth = len; hole = at + (len - depth) + 1 } ∷ plans count (at + (len - depth) + 5) depth (other_edges depth first exports)

-- edges with zeros for the offsets
abbrev pub open_edges : Forest → List ℕ
open_edges Bare = []
open_edges (Branch edge terminal below next) = edge ++ (0 ∷ 0 ∷ 0 ∷ 0 ∷ 0 ∷ open_edges next)

-- what is written of a plan
abbrev pub first_terminal : ℕ → List Export → Option Terminal
first_terminal depth [] = None
first_terminal depth (first ∷ exports) = own_terminal depth first

abbrev pub first_forest : ℕ → List Export → Forest
first_forest depth [] = Bare
first_forest depth (first ∷ exports) = grown depth (going_on depth first exports)

abbrev pub terminal_of_plan : Plan → Option Terminal
terminal_of_plan plan = first_terminal plan.depth plan.exports

abbrev pub forest_of_plan : Plan → Forest
forest_of_plan plan = first_forest plan.depth plan.exports

abbrev pub plan_len : Plan → ℕ
plan_len plan = node_len (terminal_of_plan plan) (forest_of_plan plan) + nodes_len (forest_of_plan plan)

-- bytes with others over them
unfoldable pub put_over : ℕ → List ℕ → List ℕ → List ℕ
put_over at piece bytes = take at bytes ++ (piece ++ drop (at + length piece) bytes)

-- with the offsets of planned nodes, which stand one after the other from `at` on; and those nodes
unfoldable pub filled : ℕ → List Plan → List ℕ → List ℕ
filled at [] out = out
filled at (plan ∷ coming) out = filled (at + plan_len plan) coming (put_over plan.hole (uleb4_bytes at) out)

unfoldable pub following : ℕ → List Plan → List ℕ
following at [] = []
following at (plan ∷ coming) =
    (node_bytes (at + node_len (terminal_of_plan plan) (forest_of_plan plan)) (terminal_of_plan plan) (forest_of_plan plan) ++ nodes_bytes (at + node_len (terminal_of_plan plan) (forest_of_plan plan)) (forest_of_plan plan))
    ++ following (at + plan_len plan) coming

-- the names that re-exports have keep within their limit
abbrev pub AreShort : List Export → Type 0
AreShort exports = (export : Export) → Member export exports → renamed_len export.target ≤ name_limit

-- a plan that can be written
pub record IsHeld (depth : ℕ) (exports : List Export) : Type 0 where
  pub some : 0 < length exports
  pub ready : (first : Export) (others : List Export) → exports ≡ first ∷ others → IsReady depth (going_on depth first others) × (depth ≤ length first.name)
  pub renamed : AreShort exports

abbrev pub AreHeld : ℕ → List Plan → Type 0
AreHeld len [] = Unit {0}
AreHeld len (plan ∷ coming) = (plan.hole + 4 ≤ len) × IsHeld plan.depth plan.exports × AreHeld len coming

-- what was written and what is to come make the whole trie
pub record IsWriting (whole out : List ℕ) (coming : List Plan) : Type 0 where
  pub is : filled (length out) coming out ++ following (length out) coming ≡ whole
  pub held : AreHeld (length out) coming

abbrev pub open_node : Option Terminal → Forest → List ℕ
open_node terminal below = terminal_bytes terminal ++ (children_count below ∷ open_edges below)

-- the edges of a node are written, and its children planned
pub record ArePlanned (depth : ℕ) (exports : List Export) (out out' : List ℕ) (coming coming' : List Plan) : Type 0 where
  pub spelled : out' ≡ out ++ (children_count (grown depth exports) ∷ open_edges (grown depth exports))
  pub planned : coming' ≡ plans (length exports) (length out + 1) depth exports ++ coming

-- the first group of exports that go on by the same byte, and what is left
pub record IsGroup (depth : ℕ) (exports : List Export) (first : Export) (group rest : List Export) (len : ℕ) : Type 0 where
  pub others : List Export
  pub whole : exports ≡ first ∷ others
  pub group_is : group ≡ first ∷ same_edge depth first others
  pub rest_is : rest ≡ other_edges depth first others
  pub len_is : len ≡ shared_len first.name (same_edge depth first others)
  pub byte : slice_index first.name depth < 256

-- a node is written but for its offsets, and its children are planned
abbrev pub first_rest : ℕ → List Export → List Export
first_rest depth [] = []
first_rest depth (first ∷ exports) = going_on depth first exports

pub record IsOpenNode (depth : ℕ) (exports : List Export) (out out' : List ℕ) (coming coming' : List Plan) : Type 0 where
  pub spelled : out' ≡ out ++ open_node (first_terminal depth exports) (first_forest depth exports)
  pub planned : coming' ≡ plans (length (first_rest depth exports)) (length out + length (terminal_bytes (first_terminal depth exports)) + 1) depth (first_rest depth exports) ++ coming

-- the offset of a node that was planned is written, and the node
pub record IsNextNode (plan : Plan) (out out' : List ℕ) (coming coming' : List Plan) : Type 0 where
  pub middle : List ℕ
  pub filled_in : middle ≡ put_over plan.hole (uleb4_bytes (length out)) out
  pub node : IsOpenNode plan.depth plan.exports middle out' coming coming'

-- each number is one of 64 bits, as any in memory is
abbrev pub HasNumber : Target → Type 0
HasNumber (Offset value) = value < 2 ^ 64
HasNumber (Absolute value) = value < 2 ^ 64
HasNumber (Reexport ordinal name) = ordinal < 2 ^ 64

abbrev pub HaveNumbers : List Export → Type 0
HaveNumbers exports = (export : Export) → Member export exports → HasNumber export.target
