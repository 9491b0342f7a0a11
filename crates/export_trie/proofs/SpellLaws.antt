-- What is spelled is read back.
use Rattle.std.proofs.Common.{◌≡◌, ◌≤◌, ◌<◌, ℕ, suc, ◌+◌, ◌-◌, ◌^◌, List, [], ◌∷◌, ◌++◌, drop, length, refl, sym, ap, ap₂, ◌∙◌, arith, false, append_assoc, length-append}
use Rattle.std.specs.Prelude.{nat_eq, nat_le, nat_lt, Option, Some, None, Result, Ok, Err, if◌then◌else◌}
use Rattle.std.proofs.lemmas.Bool.{cond-true, cond-false, le-ltb, lt-leb, ne_eqb, or_from}
use Rattle.std.proofs.lemmas.List.{drop_at}
use Rattle.dsc_base.specs.declared.rule.Rule.{Rule}
use Rattle.dsc_base.specs.declared.rule.Rule.TheVariants.{TrieEnded, TrieSiblingsClash, TrieBadFlags, TrieResolver, TrieBadNode}
use Rattle.dsc_base.specs.Uleb.{uleb_at, uleb_bytes, uleb4_bytes}
use Rattle.dsc_base.proofs.UlebLaws.{uleb_read_back, uleb4_read_back, uleb_bytes-one}
use Rattle.dsc_base.specs.Limits.{name_limit}
use Rattle.export_trie.specs.declared.export.Target.{Target}
use Rattle.export_trie.specs.declared.export.Target.TheVariants.{Offset, Absolute, Reexport}
use Rattle.export_trie.specs.Nodes.{◌>>=◌, Terminal, Child, among, first_of, kind_of, is_reexport, is_resolver, are_bad_flags, value_of, number_in, number_at, text_at, target_at, terminal_at, head_at, child_at, children_at, edges_at}
use Rattle.export_trie.specs.Writing.{Forest, Bare, Branch, children_count, node_len, nodes_len, edges_bytes, target_bytes, terminal_bytes, HasNoZero, FitsFlags}
use Rattle.export_trie.specs.Planning.{HasNumber}
use Rattle.export_trie.proofs.ChildLaws.{children_at-more}
use Rattle.export_trie.proofs.FillLaws.{length-uleb4}

-- numbers and texts
number_at-spelled : (value end : ℕ) (spelled rest : List ℕ) → uleb_at (spelled ++ rest) 0 ≡ Ok (value, end) → length spelled ≡ end → number_at (spelled ++ rest) ≡ Ok (value, rest)
unfolding number_at
number_at-spelled value end spelled rest read is =
    ap (number_in (spelled ++ rest)) read
    ∙ ap (λ (l : List ℕ). let r : Result (ℕ × List ℕ) Rule = Ok (value, l) in r) (drop_at spelled rest end is)

pub number_back : (value : ℕ) (rest : List ℕ) → value < 2 ^ 64 → number_at (uleb_bytes value ++ rest) ≡ Ok (value, rest)
number_back value rest small = number_at-spelled value (length (uleb_bytes value)) (uleb_bytes value) rest (uleb_read_back value small rest) refl

pub number4_back : (value : ℕ) (rest : List ℕ) → value < 2 ^ 28 → number_at (uleb4_bytes value ++ rest) ≡ Ok (value, rest)
number4_back value rest small = number_at-spelled value 4 (uleb4_bytes value) rest (uleb4_read_back value small rest) (length-uleb4 value)

pub text_back : (text rest : List ℕ) → HasNoZero text → text_at (text ++ (0 ∷ rest)) ≡ Ok (text, rest)
unfolding text_at
text_back [] rest plain = refl
text_back (byte ∷ text) rest plain =
    cond-false (nat_eq byte 0) (Ok ([], text ++ (0 ∷ rest))) _ (ne_eqb byte 0 (omega (arith, plain.0)))
    ∙ ap (λ (r : Result (List ℕ × List ℕ) Rule). r >>= (λ (t : List ℕ × List ℕ). Ok (byte ∷ t.0, t.1))) (text_back text rest plain.1)

-- targets and terminals
target_back : (flags : ℕ) (target : Target) (rest : List ℕ) → FitsFlags flags target → HasNumber target → target_at flags (target_bytes target ++ rest) ≡ Ok (target, rest)
unfolding target_at target_bytes
target_back flags (Offset value) rest fits small =
    rw (number_back value rest small)
    (cond-false (is_reexport flags) _ (Ok (value_of flags value, rest)) fits.0
    ∙ ap (λ (t : Target). let r : Result (Target × List ℕ) Rule = Ok (t, rest) in r) (cond-false (nat_eq (kind_of flags) 2) (Absolute value) (Offset value) fits.1))
target_back flags (Absolute value) rest fits small =
    rw (number_back value rest small)
    (cond-false (is_reexport flags) _ (Ok (value_of flags value, rest)) fits.0
    ∙ ap (λ (t : Target). let r : Result (Target × List ℕ) Rule = Ok (t, rest) in r) (cond-true (nat_eq (kind_of flags) 2) (Absolute value) (Offset value) fits.1))
target_back flags (Reexport ordinal name) rest fits small =
    let named : List ℕ × List ℕ → Result (Target × List ℕ) Rule =
    λ t. if nat_lt name_limit (length t.0) then Err TrieBadNode else Ok (Reexport ordinal t.0, t.1) in
    ap (target_at flags) (append_assoc (uleb_bytes ordinal) (name ++ 0 ∷ []) rest ∙ ap (λ (l : List ℕ). uleb_bytes ordinal ++ l) (append_assoc name (0 ∷ []) rest))
    ∙ (rw (number_back ordinal (name ++ (0 ∷ rest)) small)
    (cond-true (is_reexport flags) (text_at (name ++ (0 ∷ rest)) >>= named) (Ok (value_of flags ordinal, name ++ (0 ∷ rest))) fits.0)
    ∙ (ap (λ (r : Result (List ℕ × List ℕ) Rule). r >>= named) (text_back name rest fits.1)
    ∙ cond-false (nat_lt name_limit (length name)) (Err TrieBadNode) (Ok (Reexport ordinal name, rest)) (le-ltb name_limit (length name) fits.2)))

-- a terminal that can be written
abbrev pub IsSpellable : Option Terminal → Type 0
IsSpellable None = Unit {0}
IsSpellable (Some (flags, target)) = (are_bad_flags flags ≡ false) × (is_resolver flags ≡ false) × (flags < 32) × FitsFlags flags target × HasNumber target

terminal_back : (flags : ℕ) (target : Target) (rest : List ℕ) → IsSpellable (Some (flags, target)) → terminal_at (length (uleb_bytes flags ++ target_bytes target)) ((uleb_bytes flags ++ target_bytes target) ++ rest) ≡ Ok (flags, target)
unfolding terminal_at
terminal_back flags target rest fits =
    let body : List ℕ = uleb_bytes flags ++ target_bytes target in
    let ended : Target × List ℕ → Result Terminal Rule =
    λ t. if nat_lt (length body) (length (body ++ rest) - length t.1) then Err TrieBadNode else Ok (flags, t.0) in
    let flagged : ℕ × List ℕ → Result Terminal Rule =
    λ n. if are_bad_flags n.0 then Err TrieBadFlags else (if is_resolver n.0 then Err TrieResolver else (target_at n.0 n.1 >>= (λ (t : Target × List ℕ). if nat_lt (length body) (length (body ++ rest) - length t.1) then Err TrieBadNode else Ok (n.0, t.0)))) in
    let read : number_at (body ++ rest) ≡ Ok (flags, target_bytes target ++ rest) =
    ap number_at (append_assoc (uleb_bytes flags) (target_bytes target) rest) ∙ number_back flags (target_bytes target ++ rest) (omega (arith, fits.2)) in
    ap (λ (r : Result (ℕ × List ℕ) Rule). r >>= flagged) read
    ∙ (cond-false (are_bad_flags flags) (Err TrieBadFlags) _ fits.0
    ∙ (cond-false (is_resolver flags) (Err TrieResolver) _ fits.1
    ∙ (ap (λ (r : Result (Target × List ℕ) Rule). r >>= ended) (target_back flags target rest fits.3 fits.4)
    ∙ cond-false (nat_lt (length body) (length (body ++ rest) - length rest)) (Err TrieBadNode) (Ok (flags, target)) (le-ltb (length body) (length (body ++ rest) - length rest) (omega (arith, length-append body rest))))))

body_some : (flags : ℕ) (target : Target) → flags < 32 → 0 < length (uleb_bytes flags ++ target_bytes target)
body_some flags target few =
    omega (arith, length-append (uleb_bytes flags) (target_bytes target), ap length (uleb_bytes-one flags (omega arith)))

pub head_back : (terminal : Option Terminal) (rest : List ℕ) → IsSpellable terminal → length (terminal_bytes terminal) < 2 ^ 28 → head_at (terminal_bytes terminal ++ rest) ≡ Ok (terminal, rest)
unfolding head_at terminal_bytes
head_back None rest fits short =
    rw (ap number_at (ap (λ (l : List ℕ). l ++ rest) (sym (uleb_bytes-one 0 (omega arith)))) ∙ number_back 0 rest (omega arith))
    (cond-false (nat_lt (length rest) 0) (Err TrieEnded) _ (le-ltb (length rest) 0 (omega arith)))
head_back (Some (flags, target)) rest fits short =
    let body : List ℕ = uleb_bytes flags ++ target_bytes target in
    let sized : ℕ × List ℕ → Result (Option Terminal × List ℕ) Rule =
    λ n. if nat_lt (length n.1) n.0 then Err TrieEnded else (if nat_eq n.0 0 then Ok (None, n.1) else (terminal_at n.0 n.1 >>= (λ (t : Terminal). Ok (Some t, drop n.0 n.1)))) in
    let some = body_some flags target fits.2 in
    let whole = length-append (uleb_bytes (length body)) body in
    let read : number_at ((uleb_bytes (length body) ++ body) ++ rest) ≡ Ok (length body, body ++ rest) =
    ap number_at (append_assoc (uleb_bytes (length body)) body rest) ∙ number_back (length body) (body ++ rest) (omega (arith, whole, short)) in
    ap (λ (r : Result (ℕ × List ℕ) Rule). r >>= sized) read
    ∙ (cond-false (nat_lt (length (body ++ rest)) (length body)) (Err TrieEnded) _ (le-ltb (length (body ++ rest)) (length body) (omega (arith, length-append body rest)))
    ∙ (cond-false (nat_eq (length body) 0) (Ok (None, body ++ rest)) _ (ne_eqb (length body) 0 (omega (arith, some)))
    ∙ (ap (λ (r : Result Terminal Rule). r >>= (λ (t : Terminal). Ok (Some t, drop (length body) (body ++ rest)))) (terminal_back flags target rest fits)
    ∙ ap (λ (l : List ℕ). let r : Result (Option Terminal × List ℕ) Rule = Ok (Some (flags, target), l) in r) (drop_at body rest (length body) refl))))

-- children
abbrev pub listed : ℕ → Forest → List Child
listed at Bare = []
listed at (Branch edge terminal below next) = (edge, at) ∷ listed (at + (node_len terminal below + nodes_len below)) next

-- a forest that can be written: edges are not empty, rise by their first bytes and have no 0, and names are short
abbrev pub IsSound : ℕ → ℕ → Forest → Type 0
IsSound low depth Bare = Unit {0}
IsSound low depth (Branch edge terminal below next) =
    (0 < length edge) × (low < first_of edge) × HasNoZero edge × IsSpellable terminal × (depth + length edge ≤ name_limit) × IsSound 0 (depth + length edge) below × IsSound (first_of edge) depth next

abbrev AreLow : ℕ → List ℕ → Type 0
AreLow low [] = Unit {0}
AreLow low (x ∷ firsts) = (x ≤ low) × AreLow low firsts

AreLow-more : (low high : ℕ) (firsts : List ℕ) → low ≤ high → AreLow low firsts → AreLow high firsts
AreLow-more low high [] le are = tt
AreLow-more low high (x ∷ firsts) le are = (omega (arith, are.0), AreLow-more low high firsts le are.1)

AreLow-not : (low x : ℕ) (firsts : List ℕ) → low < x → AreLow low firsts → among x firsts ≡ false
AreLow-not low x [] lt are = refl
AreLow-not low x (y ∷ firsts) lt are = or_from (nat_eq x y) (among x firsts) (ne_eqb x y (omega (arith, are.0))) (AreLow-not low x firsts lt are.1)

child_back : (total at : ℕ) (firsts edge rest : List ℕ) → 0 < length edge → among (first_of edge) firsts ≡ false → HasNoZero edge → at < total → total < 2 ^ 28 → child_at total firsts (edge ++ (0 ∷ (uleb4_bytes at ++ rest))) ≡ Ok ((edge, at), rest)
unfolding child_at
child_back total at firsts edge rest some new plain inside small =
    let placed : List ℕ → ℕ × List ℕ → Result (Child × List ℕ) Rule =
    λ e n. if nat_le total n.0 then Err TrieEnded else Ok ((e, n.0), n.1) in
    let edged : List ℕ × List ℕ → Result (Child × List ℕ) Rule =
    λ t. if nat_eq (length t.0) 0 then Err TrieBadNode else (if among (first_of t.0) firsts then Err TrieSiblingsClash else (number_at t.1 >>= placed t.0)) in
    ap (λ (r : Result (List ℕ × List ℕ) Rule). r >>= edged) (text_back edge (uleb4_bytes at ++ rest) plain)
    ∙ (cond-false (nat_eq (length edge) 0) (Err TrieBadNode) _ (ne_eqb (length edge) 0 (omega (arith, some)))
    ∙ (cond-false (among (first_of edge) firsts) (Err TrieSiblingsClash) _ new
    ∙ (ap (λ (r : Result (ℕ × List ℕ) Rule). r >>= placed edge) (number4_back at rest (omega arith))
    ∙ cond-false (nat_le total at) (Err TrieEnded) (Ok ((edge, at), rest)) (lt-leb total at inside))))

pub children_back : (total at low depth : ℕ) (firsts : List ℕ) (below : Forest) (rest : List ℕ) → IsSound low depth below → AreLow low firsts → at + nodes_len below ≤ total → total < 2 ^ 28 → children_at total (children_count below) firsts (edges_bytes at below ++ rest) ≡ Ok (listed at below)
unfolding children_at
children_back total at low depth firsts Bare rest sound are inside small = refl
children_back total at low depth firsts (Branch edge terminal below next) rest sound are inside small =
    let at' = at + (node_len terminal below + nodes_len below) in
    let spelled : edges_bytes at (Branch edge terminal below next) ++ rest ≡ edge ++ (0 ∷ (uleb4_bytes at ++ (edges_bytes at' next ++ rest))) =
    append_assoc edge (0 ∷ (uleb4_bytes at ++ edges_bytes at' next)) rest
    ∙ ap (λ (l : List ℕ). edge ++ (0 ∷ l)) (append_assoc (uleb4_bytes at) (edges_bytes at' next) rest) in
    let first = child_back total at firsts edge (edges_bytes at' next ++ rest) sound.0 (AreLow-not low (first_of edge) firsts sound.1 are) sound.2 (omega (arith, inside)) small in
    let others = children_back total at' (first_of edge) depth (first_of edge ∷ firsts) next rest sound.6
    (omega arith, AreLow-more low (first_of edge) firsts (omega (arith, sound.1)) are) (omega (arith, inside)) small in
    ap₂ (λ (n : ℕ) (l : List ℕ). children_at total n firsts l) (let e : 1 + children_count next ≡ suc (children_count next) = omega arith in e) spelled
    ∙ (children_at-more total (children_count next) firsts (edge ++ (0 ∷ (uleb4_bytes at ++ (edges_bytes at' next ++ rest)))) (edges_bytes at' next ++ rest) (edge, at) first
    ∙ ap (λ (r : Result (List Child) Rule). r >>= (λ (cs : List Child). Ok ((edge, at) ∷ cs))) others)

-- a whole node
pub edges_back : (total at : ℕ) (depth : ℕ) (below : Forest) (rest : List ℕ) → IsSound 0 depth below → at + nodes_len below ≤ total → total < 2 ^ 28 → edges_at total ((children_count below ∷ edges_bytes at below) ++ rest) ≡ Ok (listed at below)
unfolding edges_at
edges_back total at depth below rest sound inside small = children_back total at 0 depth [] below rest sound tt inside small
