-- What the parts of reading promise each other.
use Rattle.std.specs.Prelude.{◌≡◌, ◌<◌, ◌≤◌, ◌⊎◌, ℕ, ◌+◌, ◌*◌, Bool, true, false, not, List, [], ◌∷◌, ◌++◌, length, take, map, sum_by, count_by, slice_index_or, slice_set, Option, Some, None, Result, Ok, Err}
use Rattle.dsc_base.specs.Limits.{name_limit}
use Rattle.dsc_base.specs.declared.rule.Rule.{Rule}
use Rattle.dsc_base.specs.declared.rule.Rule.TheVariants.{TrieNodeTwice, TrieBadNode, TrieTooManyNames}
use Rattle.dsc_base.specs.declared.fault.Fault.{Fault}
use Rattle.dsc_base.specs.declared.fault.Fault.TheVariants as faults
use Rattle.export_trie.specs.declared.export.Export.{Export}
use Rattle.export_trie.specs.declared.node.Terminal.{Terminal as HeldTerminal}
use Rattle.export_trie.specs.declared.node.ReadFault.{ReadFault}
use Rattle.export_trie.specs.declared.node.ReadFault.TheVariants as read_faults
use Rattle.export_trie.specs.Nodes.{Terminal, Child, among, terminal_of}
use Rattle.export_trie.specs.Finding.{target_in}
use Rattle.export_trie.specs.Order.{Visit, visited, exported, export_of, opened, entered, below, starts, names_len, too_many}

-- a reader's answer, seen by view, is what reading gives
abbrev pub Reads : {X Y : Type 0} → (X → Y) → Result X Rule → Result Y Rule → Type 0
Reads view (Ok x) read = read ≡ Ok (view x)
Reads view (Err rule) read = read ≡ Err rule

-- a terminal, wherever its name lies
abbrev pub terminal_in : HeldTerminal → Terminal
terminal_in terminal = (terminal.flags, target_in terminal.target)

abbrev pub some_terminal_in : Option HeldTerminal → Option Terminal
some_terminal_in None = None
some_terminal_in (Some terminal) = Some (terminal_in terminal)

-- marks say which numbers are in a list
abbrev pub Marks : List Bool → List ℕ → Type 0
Marks marks numbers = (k : ℕ) → k < length marks → slice_index_or marks k false ≡ among k numbers

-- a node that is still to come: its name is the first bytes of the name at hand and then an edge
pub record Pend : Type 0 where
  pub prefix : ℕ
  pub edge : List ℕ
  pub offset : ℕ

abbrev pub pend : ℕ → Child → Pend
pend prefix child = record { prefix = prefix; edge = child.0; offset = child.1 }

abbrev pub visit_of : List ℕ → Pend → Visit
visit_of name next = (take next.prefix name ++ next.edge, next.offset)

abbrev pub works : List ℕ → List Pend → List Visit
works name coming = map (visit_of name) coming

-- an answer for which memory may run out
abbrev pub Gives : {X Y : Type 0} → (X → Y → Type 0) → Result X ReadFault → Result Y Rule → Type 0
Gives fits (Ok x) (Ok y) = fits x y
Gives fits (Ok x) (Err rule) = ⊥
Gives fits (Err read_faults.Memory) read = Unit {0}
Gives fits (Err (read_faults.Broken rule)) read = read ≡ Err rule

-- the visits made, the newest first, and those to come, each without a fault
pub data Reaches (trie : List ℕ) : List Visit → List Visit → Type 0 where
  Start : Reaches trie [] (starts trie)
  Next : {made : List Visit} {visit : Visit} {coming : List Visit} (children : List Child) → Reaches trie made (visit ∷ coming) → entered trie made visit ≡ Ok children → Reaches trie (visit ∷ made) (map (below visit.0) children ++ coming)

-- each prefix lies within the one above it
abbrev pub Nested : ℕ → List Pend → Type 0
Nested len [] = Unit {0}
Nested len (next ∷ coming) = (next.prefix ≤ len) × Nested next.prefix coming

abbrev pub Inside : ℕ → List Pend → Type 0
Inside len [] = Unit {0}
Inside len (next ∷ coming) = (next.offset < len) × Inside len coming

-- what is at hand after some visits
pub record Stands (trie : List ℕ) (marks : List Bool) (name : List ℕ) (coming : List Pend) (exports : List Export) (size : ℕ) : Type 0 where
  pub made : List Visit
  pub reached : Reaches trie made (works name coming)
  pub marked : Marks marks (visited made)
  pub wide : length marks ≡ length trie
  pub counted : length made + count_by not marks ≡ length trie
  pub nested : Nested (length name) coming
  pub short : length name ≤ name_limit
  pub inside : Inside (length trie) coming
  pub listed : exports ≡ exported trie made
  pub sized : size ≡ sum_by names_len exports
  pub few : too_many exports ≡ false

-- how many steps are left at most
abbrev pub weight : List Bool → List Pend → ℕ
weight marks coming = 256 * count_by not marks + length coming

-- a node is entered: its mark is set and its name is at hand
pub record IsEntered (next : Pend) (marks marks' : List Bool) (name name' : List ℕ) : Type 0 where
  pub unmarked : slice_index_or marks next.offset false ≡ false
  pub marked : marks' ≡ slice_set marks next.offset true
  pub named : name' ≡ take next.prefix name ++ next.edge
  pub short : length name' ≤ name_limit

abbrev pub Enters : Pend → List Bool → List Bool → List ℕ → List ℕ → Result Unit ReadFault → Type 0
Enters next marks marks' name name' (Ok done) = IsEntered next marks marks' name name'
Enters next marks marks' name name' (Err read_faults.Memory) = Unit {0}
Enters next marks marks' name name' (Err (read_faults.Broken rule)) =
    ((slice_index_or marks next.offset false ≡ true) × (rule ≡ TrieNodeTwice)) ⊎ ((slice_index_or marks next.offset false ≡ false) × (name_limit < length (take next.prefix name ++ next.edge)) × (rule ≡ TrieBadNode))

-- a terminal is kept as an export
pub record IsKept (name : List ℕ) (terminal : Option Terminal) (exports exports' : List Export) (size' : ℕ) : Type 0 where
  pub listed : exports' ≡ exports ++ export_of name terminal
  pub sized : size' ≡ sum_by names_len exports'
  pub few : too_many exports' ≡ false

abbrev pub Keeps : List ℕ → Option Terminal → List Export → List Export → ℕ → Result Unit ReadFault → Type 0
Keeps name terminal exports exports' size' (Ok done) = IsKept name terminal exports exports' size'
Keeps name terminal exports exports' size' (Err read_faults.Memory) = Unit {0}
Keeps name terminal exports exports' size' (Err (read_faults.Broken rule)) = (too_many (exports ++ export_of name terminal) ≡ true) × (rule ≡ TrieTooManyNames)

-- a node is read and its children are to come
pub record IsOpened (trie : List ℕ) (visit : Visit) (exports exports' : List Export) (size' : ℕ) (coming coming' : List Pend) : Type 0 where
  pub children : List Child
  pub is : opened trie exports visit ≡ Ok children
  pub terminal : Option Terminal
  pub kept : IsKept visit.0 terminal exports exports' size'
  pub ends : terminal_of trie visit.1 ≡ terminal
  pub comes : coming' ≡ map (pend (length visit.0)) children ++ coming

abbrev pub Opens : List ℕ → Visit → List Export → List Export → ℕ → List Pend → List Pend → Result Unit ReadFault → Type 0
Opens trie visit exports exports' size' coming coming' (Ok done) = IsOpened trie visit exports exports' size' coming coming'
Opens trie visit exports exports' size' coming coming' (Err read_faults.Memory) = Unit {0}
Opens trie visit exports exports' size' coming coming' (Err (read_faults.Broken rule)) = opened trie exports visit ≡ Err rule

-- a whole walk
pub record IsWalked (trie : List ℕ) (exports : List Export) : Type 0 where
  pub made : List Visit
  pub reached : Reaches trie made []
  pub listed : exports ≡ exported trie made
  pub few : too_many exports ≡ false

-- the fault of a node
abbrev pub fault_at : ℕ → ReadFault → Fault
fault_at offset (read_faults.Broken rule) = faults.Broken (record { rule = rule; at = offset })
fault_at offset read_faults.Memory = faults.Memory
