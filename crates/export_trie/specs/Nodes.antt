-- What one node of an export trie spells, or the first rule that it breaks. A reader gives what it read and the bytes after it.
use Rattle.std.specs.Prelude.{ℕ, zero, suc, ◌-◌, bit_and, Bool, false, ◌&&◌, ◌||◌, not, List, [], ◌∷◌, length, drop, slice_index, Option, Some, None, Result, Ok, Err, nat_eq, nat_lt, nat_le, if◌then◌else◌}
use Rattle.dsc_base.specs.Limits.{name_limit}
use Rattle.dsc_base.specs.declared.fault.UlebFault.{UlebFault}
use Rattle.dsc_base.specs.declared.rule.Rule.{Rule}
use Rattle.dsc_base.specs.declared.rule.Rule.TheVariants.{TrieBadUleb, TrieEnded, TrieSiblingsClash, TrieBadFlags, TrieResolver, TrieBadNode}
use Rattle.dsc_base.specs.Uleb.{uleb_at}
use Rattle.export_trie.specs.declared.export.Target.{Target}
use Rattle.export_trie.specs.declared.export.Target.TheVariants.{Offset, Absolute, Reexport}

infixl 10 ◌>>=◌
abbrev pub ◌>>=◌ : {A B : Type 0} → Result A Rule → (A → Result B Rule) → Result B Rule
(Ok x) >>= f = f x
(Err rule) >>= f = Err rule

-- a variable-length number
abbrev pub number_in : List ℕ → Result (ℕ × ℕ) UlebFault → Result (ℕ × List ℕ) Rule
number_in bytes (Err fault) = Err TrieBadUleb
number_in bytes (Ok (value, end)) = Ok (value, drop end bytes)

unfoldable pub number_at : List ℕ → Result (ℕ × List ℕ) Rule
number_at bytes = number_in bytes (uleb_at bytes 0)

-- a text and the byte 0 that ends it
unfoldable pub text_at : List ℕ → Result (List ℕ × List ℕ) Rule
text_at [] = Err TrieEnded
text_at (byte ∷ bytes) = if nat_eq byte 0 then Ok ([], bytes) else (do
  text ← text_at bytes
  Ok (byte ∷ text.0, text.1))

-- the flags' bits: two of the kind (0 regular, 1 thread-local, 2 absolute), then weak definition, re-export, and stub and resolver
abbrev pub kind_of : ℕ → ℕ
kind_of flags = bit_and flags 3

abbrev pub is_reexport : ℕ → Bool
is_reexport flags = not (nat_eq (bit_and flags 8) 0)

abbrev pub is_resolver : ℕ → Bool
is_resolver flags = not (nat_eq (bit_and flags 16) 0)

abbrev pub are_bad_flags : ℕ → Bool
are_bad_flags flags = nat_le 32 flags || (nat_eq (kind_of flags) 3 || (is_reexport flags && not (nat_eq (kind_of flags) 0)))

-- where an export leads
abbrev pub value_of : ℕ → ℕ → Target
value_of flags value = if nat_eq (kind_of flags) 2 then Absolute value else Offset value

unfoldable pub target_at : ℕ → List ℕ → Result (Target × List ℕ) Rule
target_at flags bytes = do
  number ← number_at bytes
  if is_reexport flags then (do
    name ← text_at number.1
    if nat_lt name_limit (length name.0) then Err TrieBadNode else Ok (Reexport number.0 name.0, name.1)) else Ok (value_of flags number.0, number.1)

-- flags and target, in the bytes from the terminal's start; what is read of them is no longer than the terminal
abbrev pub Terminal : Type 0
Terminal = ℕ × Target

unfoldable pub terminal_at : ℕ → List ℕ → Result Terminal Rule
terminal_at size bytes = do
  flags ← number_at bytes
  if are_bad_flags flags.0 then Err TrieBadFlags else (if is_resolver flags.0 then Err TrieResolver else (do
    target ← target_at flags.0 flags.1
    if nat_lt size (length bytes - length target.1) then Err TrieBadNode else Ok (flags.0, target.0)))

-- the terminal's size and the terminal
unfoldable pub head_at : List ℕ → Result (Option Terminal × List ℕ) Rule
head_at bytes = do
  size ← number_at bytes
  if nat_lt (length size.1) size.0 then Err TrieEnded else (if nat_eq size.0 0 then Ok (None, size.1) else (do
    terminal ← terminal_at size.0 size.1
    Ok (Some terminal, drop size.0 size.1)))

-- an edge and the offset of its node, which begins inside the trie of `total` bytes
abbrev pub Child : Type 0
Child = List ℕ × ℕ

abbrev pub among : ℕ → List ℕ → Bool
among x [] = false
among x (y ∷ ys) = nat_eq x y || among x ys

abbrev pub first_of : List ℕ → ℕ
first_of edge = slice_index edge 0

-- no edge of the node begins with the byte of an earlier one
unfoldable pub child_at : ℕ → List ℕ → List ℕ → Result (Child × List ℕ) Rule
child_at total firsts bytes = do
  edge ← text_at bytes
  if nat_eq (length edge.0) 0 then Err TrieBadNode else (if among (first_of edge.0) firsts then Err TrieSiblingsClash else (do
    offset ← number_at edge.1
    if nat_le total offset.0 then Err TrieEnded else Ok ((edge.0, offset.0), offset.1)))

unfoldable pub children_at : ℕ → ℕ → List ℕ → List ℕ → Result (List Child) Rule
children_at total zero firsts bytes = Ok []
children_at total (suc count) firsts bytes = do
  child ← child_at total firsts bytes
  others ← children_at total count (first_of child.0.0 ∷ firsts) child.1
  Ok (child.0 ∷ others)

-- the count of children and the children
unfoldable pub edges_at : ℕ → List ℕ → Result (List Child) Rule
edges_at total [] = Err TrieEnded
edges_at total (count ∷ bytes) = children_at total count [] bytes

-- the whole node
unfoldable pub node_at : List ℕ → ℕ → Result (Option Terminal × List Child) Rule
node_at trie offset = do
  head ← head_at (drop offset trie)
  children ← edges_at (length trie) head.1
  Ok (head.0, children)

abbrev pub terminal_in : Result (Option Terminal × List Child) Rule → Option Terminal
terminal_in (Err rule) = None
terminal_in (Ok node) = node.0

abbrev pub children_in : Result (Option Terminal × List Child) Rule → List Child
children_in (Err rule) = []
children_in (Ok node) = node.1

unfoldable pub terminal_of : List ℕ → ℕ → Option Terminal
terminal_of trie offset = terminal_in (node_at trie offset)

unfoldable pub children_of : List ℕ → ℕ → List Child
children_of trie offset = children_in (node_at trie offset)
