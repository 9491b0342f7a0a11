-- Laws of one visit and of the visits so far.
use Rattle.std.proofs.Common.{◌≡◌, ◌≤◌, ◌<◌, ◌⊎◌, ℕ, zero, suc, ◌+◌, List, [], ◌∷◌, ◌++◌, take, drop, length, get_or, set, map, refl, sym, ap, ap₂, subst, ◌∙◌, arith, inl, inr, Bool, true, false, cond, length-set, length-append}
use Rattle.std.specs.Prelude.{Result, Ok, Err, Option, Some, None, nat_lt, not, count_by, replicate, OnOk, IfErr}
use Rattle.std.proofs.lemmas.Bool.{cond-true, cond-false, lt-ltb, le-ltb}
use Rattle.std.proofs.lemmas.List.{take_all, take-append-le, length-take-le, get_or-replicate, length-replicate}
use Rattle.std.proofs.lemmas.List.Sums.{sum_by-set, sum_by-cons}
use Rattle.dsc_base.specs.Limits.{name_limit}
use Rattle.dsc_base.specs.declared.rule.Rule.{Rule}
use Rattle.dsc_base.specs.declared.rule.Rule.TheVariants.{TrieNodeTwice, TrieBadNode, TrieTooManyNames}
use Rattle.export_trie.specs.declared.export.Export.{Export}
use Rattle.export_trie.specs.declared.node.ReadFault.{ReadFault}
use Rattle.export_trie.specs.declared.node.ReadFault.TheVariants as read_faults
use Rattle.export_trie.specs.Nodes.{Terminal, Child, among, first_of, head_at, child_at, children_at, edges_at, node_at, terminal_of, children_of}
use Rattle.export_trie.specs.Order.{Visit, visited, exported, export_of, too_many, opened, entered, below, starts, trie_break}
use Rattle.export_trie.specs.Reading.{Marks, Pend, pend, visit_of, works, Gives, Reaches, Start, Next, Nested, Inside, Stands, IsEntered, Enters, IsKept, IsOpened, Opens, IsWalked, fault_at}
use Rattle.dsc_base.specs.Refusals.{IsRefusal}
use Rattle.export_trie.proofs.BreakLaws.{trie_break-at, trie_break-none}
use Rattle.export_trie.proofs.ChildLaws.{Marks-set}
use Rattle.export_trie.proofs.NodeLaws.{ok-value, bind_ok, guard_ok, pair-parts, child_at-parts}

-- a node that is read
pub opened-head : (trie : List ℕ) (before : List Export) (visit : Visit) (terminal : Option Terminal) (rest : List ℕ) → head_at (drop visit.1 trie) ≡ Ok (terminal, rest) → too_many (before ++ export_of visit.0 terminal) ≡ false → opened trie before visit ≡ edges_at (length trie) rest
unfolding opened
opened-head trie before visit terminal rest head few =
    rw head (cond-false (too_many (before ++ export_of visit.0 terminal)) (Err TrieTooManyNames) (edges_at (length trie) rest) few)

pub node_at-parts : (trie : List ℕ) (offset : ℕ) (terminal : Option Terminal) (rest : List ℕ) (children : List Child) → head_at (drop offset trie) ≡ Ok (terminal, rest) → edges_at (length trie) rest ≡ Ok children → node_at trie offset ≡ Ok (terminal, children)
unfolding node_at
node_at-parts trie offset terminal rest children head edges = rw head (rw edges refl)

pub record IsNode (trie : List ℕ) (offset : ℕ) (terminal : Option Terminal) (children : List Child) : Type 0 where
  pub rest : List ℕ
  pub head : head_at (drop offset trie) ≡ Ok (terminal, rest)
  pub edges : edges_at (length trie) rest ≡ Ok children

pub node_at-reads : (trie : List ℕ) (offset : ℕ) (terminal : Option Terminal) (children : List Child) → node_at trie offset ≡ Ok (terminal, children) → IsNode trie offset terminal children
unfolding node_at
node_at-reads trie offset terminal children is =
    let head = bind_ok (head_at (drop offset trie)) _ (terminal, children) is in
    let edges = bind_ok (edges_at (length trie) head.0.1) _ (terminal, children) head.1.1 in
    let parts = pair-parts head.0.0 terminal edges.0 children (ok-value (head.0.0, edges.0) (terminal, children) edges.1.1) in
    record {
      rest = head.0.1;
      head = head.1.0 ∙ ap (λ (t : Option Terminal). let r : Result (Option Terminal × List ℕ) Rule = Ok (t, head.0.1) in r) parts.0;
      edges = edges.1.0 ∙ ap (λ (l : List Child). let r : Result (List Child) Rule = Ok l in r) parts.1;
    }

pub terminal_of-node : (trie : List ℕ) (offset : ℕ) (node : Option Terminal × List Child) → node_at trie offset ≡ Ok node → terminal_of trie offset ≡ node.0
unfolding terminal_of
terminal_of-node trie offset node is = rw is refl

pub children_of-node : (trie : List ℕ) (offset : ℕ) (node : Option Terminal × List Child) → node_at trie offset ≡ Ok node → children_of trie offset ≡ node.1
unfolding children_of
children_of-node trie offset node is = rw is refl

pub opens_read : (trie : List ℕ) (visit : Visit) (exports exports' : List Export) (size' : ℕ) (coming coming' : List Pend) (terminal : Option Terminal) (rest : List ℕ) (r : Result Unit ReadFault) → head_at (drop visit.1 trie) ≡ Ok (terminal, rest) → IsKept visit.0 terminal exports exports' size' → Gives (λ _ children. coming' ≡ map (pend (length visit.0)) children ++ coming) r (edges_at (length trie) rest) → Opens trie visit exports exports' size' coming coming' r
opens_read trie visit exports exports' size' coming coming' terminal rest r head kept gives = go r (edges_at (length trie) rest) refl gives
  where
    opened_is : opened trie exports visit ≡ edges_at (length trie) rest
    opened_is = opened-head trie exports visit terminal rest head (subst (λ (l : List Export). too_many l ≡ false) kept.listed kept.few)

    go : (r : Result Unit ReadFault) (edges : Result (List Child) Rule) → edges_at (length trie) rest ≡ edges → Gives (λ _ children. coming' ≡ map (pend (length visit.0)) children ++ coming) r edges → Opens trie visit exports exports' size' coming coming' r
    go (Ok done) (Ok children) is gives = record {
      children = children;
      is = opened_is ∙ is;
      terminal = terminal;
      kept = kept;
      ends = terminal_of-node trie visit.1 (terminal, children) (node_at-parts trie visit.1 terminal rest children head is);
      comes = gives;
    }
    go (Ok done) (Err rule) is gives = absurd gives
    go (Err read_faults.Memory) edges is gives = tt
    go (Err (read_faults.Broken rule)) edges is gives = opened_is ∙ (is ∙ gives)

-- a node is entered where it was not reached before and its name is not too long
pub entered-new : (trie : List ℕ) (made : List Visit) (visit : Visit) → among visit.1 (visited made) ≡ false → length visit.0 ≤ name_limit → entered trie made visit ≡ opened trie (exported trie made) visit
unfolding entered
entered-new trie made visit new short =
    cond-false (among visit.1 (visited made)) (Err TrieNodeTwice) _ new
    ∙ cond-false (nat_lt name_limit (length visit.0)) (Err TrieBadNode) _ (le-ltb name_limit (length visit.0) short)

pub entered-twice : (trie : List ℕ) (made : List Visit) (visit : Visit) → among visit.1 (visited made) ≡ true → entered trie made visit ≡ Err TrieNodeTwice
unfolding entered
entered-twice trie made visit old = cond-true (among visit.1 (visited made)) (Err TrieNodeTwice) _ old

pub entered-long : (trie : List ℕ) (made : List Visit) (visit : Visit) → among visit.1 (visited made) ≡ false → name_limit < length visit.0 → entered trie made visit ≡ Err TrieBadNode
unfolding entered
entered-long trie made visit new long =
    cond-false (among visit.1 (visited made)) (Err TrieNodeTwice) _ new
    ∙ cond-true (nat_lt name_limit (length visit.0)) (Err TrieBadNode) _ (lt-ltb name_limit (length visit.0) long)

-- one more mark is one fewer that is not set
pub unmarked-set : (marks : List Bool) (i : ℕ) → i < length marks → get_or marks i false ≡ false → count_by not (set marks i true) + 1 ≡ count_by not marks
unmarked-set marks i inside unmarked =
    let step = sum_by-set (λ (b : Bool). cond (not b) 1 0) marks i true false inside in
    let one : ◌≡◌ {A = ℕ} (cond (not (get_or marks i false)) 1 0) 1 = ap {B = ℕ} (λ (b : Bool). cond (not b) 1 0) unmarked in
    omega (arith, step, one)

unmarked-some : (marks : List Bool) (i : ℕ) → i < length marks → get_or marks i false ≡ false → 0 < count_by not marks
unmarked-some marks i inside unmarked = omega (arith, unmarked-set marks i inside unmarked)

-- prefixes and offsets of what is still to come
Nested-more : (m n : ℕ) (coming : List Pend) → m ≤ n → Nested m coming → Nested n coming
Nested-more m n [] le nested = tt
Nested-more m n (next ∷ coming) le nested = (omega (arith, nested.0), nested.1)

Nested-children : (len : ℕ) (children : List Child) (coming : List Pend) → Nested len coming → Nested len (map (pend len) children ++ coming)
Nested-children len [] coming nested = nested
Nested-children len (child ∷ children) coming nested = (omega arith, Nested-children len children coming nested)

pub AllInside : ℕ → List Child → Type 0
AllInside total [] = Unit {0}
AllInside total (child ∷ children) = (child.1 < total) × AllInside total children

Inside-children : (len total : ℕ) (children : List Child) (coming : List Pend) → AllInside total children → Inside total coming → Inside total (map (pend len) children ++ coming)
unfolding AllInside
Inside-children len total [] coming all inside = inside
Inside-children len total (child ∷ children) coming all inside = (all.0, Inside-children len total children coming all.1 inside)

-- the names of what was to come don't change where a child's name takes the place of the name at hand
works-same : (len : ℕ) (name edge : List ℕ) (coming : List Pend) → len ≤ length name → Nested len coming → works (take len name ++ edge) coming ≡ works name coming
works-same len name edge [] le nested = refl
works-same len name edge (next ∷ coming) le nested =
    ap₂ (λ (v : Visit) (vs : List Visit). v ∷ vs)
    (ap (λ (l : List ℕ). let v : Visit = (l ++ next.edge, next.offset) in v)
    (take-append-le next.prefix (take len name) edge (omega (arith, nested.0, length-take-le len name le))
    ∙ take-less next.prefix len name nested.0))
    (works-same len name edge coming le (Nested-more next.prefix len coming nested.0 nested.1))
  where
    take-less : (m n : ℕ) (l : List ℕ) → m ≤ n → take m (take n l) ≡ take m l
    take-less zero n l le = refl
    take-less (suc m) zero l le = absurd (omega arith)
    take-less (suc m) (suc n) [] le = refl
    take-less (suc m) (suc n) (x ∷ l) le = ap (λ (r : List ℕ). x ∷ r) (take-less m n l (omega arith))

works-children : (name : List ℕ) (children : List Child) (coming : List Pend) → works name (map (pend (length name)) children ++ coming) ≡ map (below name) children ++ works name coming
works-children name [] coming = refl
works-children name (child ∷ children) coming =
    ap₂ (λ (v : Visit) (vs : List Visit). v ∷ vs)
    (ap (λ (l : List ℕ). let v : Visit = (l ++ child.0, child.1) in v) (take_all (length name) name (omega arith)))
    (works-children name children coming)

-- the children of a node begin inside the trie
children_at-inside : (total count : ℕ) (firsts bytes : List ℕ) (children : List Child) → children_at total count firsts bytes ≡ Ok children → AllInside total children
unfolding AllInside children_at
children_at-inside total zero firsts bytes children read = subst (λ (l : List Child). AllInside total l) (ok-value [] children read) tt
children_at-inside total (suc count) firsts bytes children read =
    let first = bind_ok (child_at total firsts bytes) _ children read in
    let others = bind_ok (children_at total count (first_of first.0.0.0 ∷ firsts) first.0.1) _ children first.1.1 in
    subst (λ (l : List Child). AllInside total l) (ok-value (first.0.0 ∷ others.0) children others.1.1)
    ((child_at-parts total firsts bytes first.0.0 first.0.1 first.1.0).inside, children_at-inside total count (first_of first.0.0.0 ∷ firsts) first.0.1 others.0 others.1.0)

edges_at-inside : (total : ℕ) (bytes : List ℕ) (children : List Child) → edges_at total bytes ≡ Ok children → AllInside total children
unfolding edges_at
edges_at-inside total [] children read = absurd (cc)
edges_at-inside total (count ∷ bytes) children read = children_at-inside total count [] bytes children read

opened-inside : (trie : List ℕ) (before : List Export) (visit : Visit) (children : List Child) → opened trie before visit ≡ Ok children → AllInside (length trie) children
unfolding opened
opened-inside trie before visit children read =
    let head = bind_ok (head_at (drop visit.1 trie)) _ children read in
    let few = guard_ok (too_many (before ++ export_of visit.0 head.0.0)) _ _ children head.1.1 in
    edges_at-inside (length trie) head.0.1 children few.1

-- a visit without a fault
pub stands_more : (trie : List ℕ) (marks marks' : List Bool) (name name' : List ℕ) (next : Pend) (coming coming' : List Pend) (exports exports' : List Export) (size size' : ℕ) → Stands trie marks name (next ∷ coming) exports size → IsEntered next marks marks' name name' → IsOpened trie (name', next.offset) exports exports' size' coming coming' → Stands trie marks' name' coming' exports' size'
unfolding exported
stands_more trie marks marks' name name' next coming coming' exports exports' size size' stands into node = record {
  made = visit ∷ stands.made;
  reached = subst (λ (vs : List Visit). Reaches trie (visit ∷ stands.made) vs) works_is (Next node.children reached ok);
  marked =
      subst (λ (l : List Bool). Marks l (next.offset ∷ visited stands.made)) (sym into.marked)
      (Marks-set marks (visited stands.made) next.offset marks_inside stands.marked);
  wide = ap length into.marked ∙ (length-set marks next.offset true ∙ stands.wide);
  counted = omega (arith, stands.counted, unmarked-set marks next.offset marks_inside into.unmarked, ap (count_by not) into.marked);
  nested =
      subst (λ (l : List Pend). Nested (length name') l) (sym node.comes)
      (Nested-children (length name') node.children coming (Nested-more next.prefix (length name') coming prefix_le stands.nested.1));
  short = into.short;
  inside =
      subst (λ (l : List Pend). Inside (length trie) l) (sym node.comes)
      (Inside-children (length name') (length trie) node.children coming (opened-inside trie exports visit node.children node.is) stands.inside.1);
  listed =
      node.kept.listed
      ∙ (ap (λ (l : List Export). l ++ export_of name' node.terminal) stands.listed
      ∙ ap (λ (t : Option Terminal). exported trie stands.made ++ export_of name' t) (sym node.ends));
  sized = node.kept.sized;
  few = node.kept.few;
}
  where
    visit : Visit
    visit = (name', next.offset)

    marks_inside : next.offset < length marks
    marks_inside = omega (arith, stands.inside.0, stands.wide)

    prefix_le : next.prefix ≤ length name'
    prefix_le = omega (arith, stands.nested.0, ap length into.named, length-append (take next.prefix name) next.edge, length-take-le next.prefix name stands.nested.0)

    new : among next.offset (visited stands.made) ≡ false
    new = sym (stands.marked next.offset marks_inside) ∙ into.unmarked

    reached : Reaches trie stands.made (visit ∷ works name coming)
    reached =
        subst (λ (l : List ℕ). Reaches trie stands.made ((l, next.offset) ∷ works name coming)) (sym into.named) stands.reached

    ok : entered trie stands.made visit ≡ Ok node.children
    ok =
        entered-new trie stands.made visit new into.short
        ∙ (ap (λ (l : List Export). opened trie l visit) (sym stands.listed) ∙ node.is)

    works_is : map (below name') node.children ++ works name coming ≡ works name' coming'
    works_is =
        sym (ap (works name') node.comes
        ∙ (works-children name' node.children coming
        ∙ ap (λ (vs : List Visit). map (below name') node.children ++ vs)
        (ap (λ (l : List ℕ). works l coming) into.named ∙ works-same next.prefix name next.edge coming stands.nested.0 stands.nested.1)))

-- a visit with a fault
pub enter_fault : (trie : List ℕ) (marks : List Bool) (name : List ℕ) (next : Pend) (coming : List Pend) (exports : List Export) (size : ℕ) (rule : Rule) → Stands trie marks name (next ∷ coming) exports size → ((get_or marks next.offset false ≡ true) × (rule ≡ TrieNodeTwice)) ⊎ ((get_or marks next.offset false ≡ false) × (name_limit < length (take next.prefix name ++ next.edge)) × (rule ≡ TrieBadNode)) → trie_break trie ≡ Some (record { rule = rule; at = next.offset })
enter_fault trie marks name next coming exports size rule stands (inl twice) =
    trie_break-at trie stands.made (works name coming) (visit_of name next) (count_by not marks) rule stands.reached (omega (arith, stands.counted)) (λ _. twice.1)
    (entered-twice trie stands.made (visit_of name next) (sym (stands.marked next.offset (omega (arith, stands.inside.0, stands.wide))) ∙ twice.0)
    ∙ ap (λ (r : Rule). let e : Result (List Child) Rule = Err r in e) (sym twice.1))
enter_fault trie marks name next coming exports size rule stands (inr long) =
    let within : next.offset < length marks = omega (arith, stands.inside.0, stands.wide) in
    trie_break-at trie stands.made (works name coming) (visit_of name next) (count_by not marks) rule stands.reached (omega (arith, stands.counted))
    (λ none. absurd (omega (arith, unmarked-some marks next.offset within long.0, none)))
    (entered-long trie stands.made (visit_of name next) (sym (stands.marked next.offset within) ∙ long.0) long.1
    ∙ ap (λ (r : Rule). let e : Result (List Child) Rule = Err r in e) (sym long.2))

pub open_fault : (trie : List ℕ) (marks marks' : List Bool) (name name' : List ℕ) (next : Pend) (coming : List Pend) (exports : List Export) (size : ℕ) (rule : Rule) → Stands trie marks name (next ∷ coming) exports size → IsEntered next marks marks' name name' → opened trie exports (name', next.offset) ≡ Err rule → trie_break trie ≡ Some (record { rule = rule; at = next.offset })
open_fault trie marks marks' name name' next coming exports size rule stands into fault =
    let within : next.offset < length marks = omega (arith, stands.inside.0, stands.wide) in
    let visit : Visit = (name', next.offset) in
    let reached : Reaches trie stands.made (visit ∷ works name coming) =
    subst (λ (l : List ℕ). Reaches trie stands.made ((l, next.offset) ∷ works name coming)) (sym into.named) stands.reached in
    trie_break-at trie stands.made (works name coming) visit (count_by not marks) rule reached (omega (arith, stands.counted))
    (λ none. absurd (omega (arith, unmarked-some marks next.offset within into.unmarked, none)))
    (entered-new trie stands.made visit (sym (stands.marked next.offset within) ∙ into.unmarked) into.short
    ∙ (ap (λ (l : List Export). opened trie l visit) (sym stands.listed) ∙ fault))

-- before the first visit, and after the last one
pub stands_none : (trie : List ℕ) (coming : List Pend) → works [] coming ≡ starts trie → Nested 0 coming → Inside (length trie) coming → Stands trie (replicate (length trie) false) [] coming [] 0
unfolding exported too_many
stands_none trie coming works_is nested inside = record {
  made = [];
  reached = subst (λ (vs : List Visit). Reaches trie [] vs) (sym works_is) Start;
  marked = λ k lt. get_or-replicate (length trie) k false false (omega (arith, length-replicate (length trie) false));
  wide = length-replicate (length trie) false;
  counted = none_marked (length trie);
  nested = nested;
  short = omega arith;
  inside = inside;
  listed = refl;
  sized = refl;
  few = refl;
}
  where
    none_marked : (n : ℕ) → 0 + count_by not (replicate n false) ≡ n
    none_marked zero = refl
    none_marked (suc n) =
        let e : count_by not (replicate (suc n) false) ≡ 1 + count_by not (replicate n false) = sum_by-cons (λ (b : Bool). cond (not b) 1 0) false (replicate n false) in
        omega (arith, none_marked n, e)

pub stands_start : (trie : List ℕ) (coming : List Pend) → ((trie ≡ []) × (coming ≡ [])) ⊎ ((0 < length trie) × (coming ≡ record { prefix = 0; edge = []; offset = 0 } ∷ [])) → Stands trie (replicate (length trie) false) [] coming [] 0
stands_start trie coming (inl empty) =
    subst (λ (l : List Pend). Stands trie (replicate (length trie) false) [] l [] 0) (sym empty.1)
    (stands_none trie [] (sym (ap starts empty.0)) tt tt)
stands_start trie coming (inr some) =
    subst (λ (l : List Pend). Stands trie (replicate (length trie) false) [] l [] 0) (sym some.1)
    (stands_none trie (record { prefix = 0; edge = []; offset = 0 } ∷ []) (root trie some.0) (omega arith, tt) (some.0, tt))
  where
    root : (trie : List ℕ) → 0 < length trie → ([], 0) ∷ [] ≡ starts trie
    root [] some = absurd (omega arith)
    root (byte ∷ bytes) some = refl

-- what the parts of a visit say of the whole
pub enter_broken : (trie : List ℕ) (marks marks' : List Bool) (name name' : List ℕ) (next : Pend) (coming : List Pend) (exports : List Export) (size : ℕ) (fault : ReadFault) → Stands trie marks name (next ∷ coming) exports size → Enters next marks marks' name name' (Err fault) → IsRefusal (trie_break trie) (fault_at next.offset fault)
enter_broken trie marks marks' name name' next coming exports size read_faults.Memory stands into = tt
enter_broken trie marks marks' name name' next coming exports size (read_faults.Broken rule) stands into = enter_fault trie marks name next coming exports size rule stands into

pub open_stands : (trie : List ℕ) (marks marks' : List Bool) (name name' : List ℕ) (next : Pend) (coming coming' : List Pend) (exports exports' : List Export) (size size' : ℕ) (r : Result Unit ReadFault) → Stands trie marks name (next ∷ coming) exports size → IsEntered next marks marks' name name' → Opens trie (name', next.offset) exports exports' size' coming coming' r → OnOk r (Stands trie marks' name' coming' exports' size')
open_stands trie marks marks' name name' next coming coming' exports exports' size size' (Ok done) stands into opens =
    stands_more trie marks marks' name name' next coming coming' exports exports' size size' stands into opens
open_stands trie marks marks' name name' next coming coming' exports exports' size size' (Err fault) stands into opens = tt

pub open_broken : (trie : List ℕ) (marks marks' : List Bool) (name name' : List ℕ) (next : Pend) (coming coming' : List Pend) (exports exports' : List Export) (size size' : ℕ) (r : Result Unit ReadFault) → Stands trie marks name (next ∷ coming) exports size → IsEntered next marks marks' name name' → Opens trie (name', next.offset) exports exports' size' coming coming' r → IfErr r (λ fault. IsRefusal (trie_break trie) (fault_at next.offset fault))
open_broken trie marks marks' name name' next coming coming' exports exports' size size' (Ok done) stands into opens = tt
open_broken trie marks marks' name name' next coming coming' exports exports' size size' (Err read_faults.Memory) stands into opens = tt
open_broken trie marks marks' name name' next coming coming' exports exports' size size' (Err (read_faults.Broken rule)) stands into opens =
    open_fault trie marks marks' name name' next coming exports size rule stands into opens

-- at the end
pub stands_done : (trie : List ℕ) (marks : List Bool) (name : List ℕ) (exports : List Export) (size : ℕ) → Stands trie marks name [] exports size → IsWalked trie exports
stands_done trie marks name exports size stands = record { made = stands.made; reached = stands.reached; listed = stands.listed; few = stands.few }

pub stands_accepted : (trie : List ℕ) (marks : List Bool) (name : List ℕ) (exports : List Export) (size : ℕ) → Stands trie marks name [] exports size → trie_break trie ≡ None
stands_accepted trie marks name exports size stands =
    trie_break-none trie stands.made (count_by not marks) stands.reached (omega (arith, stands.counted))
