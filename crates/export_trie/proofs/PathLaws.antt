-- Paths of edges: each name leads to one node, and a whole walk visits every node that a path ends at.
use Rattle.std.proofs.Common.{◌≡◌, ◌<◌, ◌⊎◌, ℕ, zero, suc, List, [], ◌∷◌, ◌++◌, drop, length, map, refl, sym, ap, subst, ◌∙◌, arith, inl, inr, true, false}
use Rattle.std.specs.Prelude.{Result, Ok, Err, Option, nat_eq, nat_lt}
use Rattle.std.proofs.lemmas.Bool.{eq-eqb, false≢true, or_parts, or_left, or_right}
use Rattle.dsc_base.specs.declared.rule.Rule.{Rule}
use Rattle.dsc_base.specs.Limits.{name_limit}
use Rattle.export_trie.specs.Nodes.{Terminal, Child, among, first_of, head_at, child_at, children_at, edges_at, node_at, children_of, children_in}
use Rattle.export_trie.specs.Order.{Visit, visited, exported, export_of, too_many, opened, entered, below, starts}
use Rattle.export_trie.specs.Paths.{Member, Spells, Root, Edge}
use Rattle.export_trie.specs.Reading.{Reaches, Start, Next}
use Rattle.export_trie.proofs.NodeLaws.{ok-value, bind_ok, guard_ok, child_at-parts}
use Rattle.export_trie.proofs.ReadLaws.{node_at-parts, children_of-node}

-- members
pub Member-append : {A : Type 0} (x : A) (xs ys : List A) → Member x (xs ++ ys) → Member x xs ⊎ Member x ys
Member-append x [] ys member = inr member
Member-append x (y ∷ xs) ys (inl is) = inl (inl is)
Member-append x (y ∷ xs) ys (inr member) =
    elim (Member-append x xs ys member) [ inl left ↦ inl (inr left) | inr right ↦ inr right ]

pub Member-left : {A : Type 0} (x : A) (xs ys : List A) → Member x xs → Member x (xs ++ ys)
Member-left x (y ∷ xs) ys (inl is) = inl is
Member-left x (y ∷ xs) ys (inr member) = inr (Member-left x xs ys member)
Member-left x [] ys member = absurd member

pub Member-right : {A : Type 0} (x : A) (xs ys : List A) → Member x ys → Member x (xs ++ ys)
Member-right x [] ys member = member
Member-right x (y ∷ xs) ys member = inr (Member-right x xs ys member)

pub Member-map : {A B : Type 0} (f : A → B) (x : A) (xs : List A) → Member x xs → Member (f x) (map f xs)
Member-map f x [] member = absurd member
Member-map f x (y ∷ xs) (inl is) = inl (ap f is)
Member-map f x (y ∷ xs) (inr member) = inr (Member-map f x xs member)

pub Member-from_map : {A B : Type 0} (f : A → B) (y : B) (xs : List A) → Member y (map f xs) → (x : A) × (Member x xs × (y ≡ f x))
Member-from_map f y [] member = absurd member
Member-from_map f y (x ∷ xs) (inl is) = (x, (inl refl, is))
Member-from_map f y (x ∷ xs) (inr member) = let found = Member-from_map f y xs member in (found.0, (inr found.1.0, found.1.1))

pub among-Member : (x : ℕ) (xs : List ℕ) → Member x xs → among x xs ≡ true
among-Member x [] member = absurd member
among-Member x (y ∷ xs) (inl is) = or_left (nat_eq x y) (among x xs) (eq-eqb x y is)
among-Member x (y ∷ xs) (inr member) = or_right (nat_eq x y) (among x xs) (among-Member x xs member)

-- the children of a node: no edge is empty, and no two begin with the same byte
pub record AreApart (firsts : List ℕ) (children : List Child) : Type 0 where
  pub some : (child : Child) → Member child children → 0 < length child.0
  pub new : (child : Child) → Member child children → among (first_of child.0) firsts ≡ false
  pub one : (a b : Child) → Member a children → Member b children → first_of a.0 ≡ first_of b.0 → a ≡ b

AreApart-none : (firsts : List ℕ) → AreApart firsts []
AreApart-none firsts = record { some = λ child member. absurd member; new = λ child member. absurd member; one = λ a b in_a in_b same. absurd in_a }

AreApart-cons : (firsts : List ℕ) (child : Child) (others : List Child) → 0 < length child.0 → among (first_of child.0) firsts ≡ false → AreApart (first_of child.0 ∷ firsts) others → AreApart firsts (child ∷ others)
AreApart-cons firsts child others some new apart = record {
  some = some';
  new = new';
  one = one';
}
  where
    some' : (c : Child) → Member c (child ∷ others) → 0 < length c.0
    some' c (inl is) = subst (λ (d : Child). 0 < length d.0) (sym is) some
    some' c (inr member) = apart.some c member

    new' : (c : Child) → Member c (child ∷ others) → among (first_of c.0) firsts ≡ false
    new' c (inl is) = subst (λ (d : Child). among (first_of d.0) firsts ≡ false) (sym is) new
    new' c (inr member) = (or_parts (nat_eq (first_of c.0) (first_of child.0)) (among (first_of c.0) firsts) (apart.new c member)).1

    clash : (c : Child) → Member c others → first_of c.0 ≡ first_of child.0 → ⊥
    clash c member same =
        false≢true (sym (or_parts (nat_eq (first_of c.0) (first_of child.0)) (among (first_of c.0) firsts) (apart.new c member)).0 ∙ eq-eqb (first_of c.0) (first_of child.0) same)

    one' : (a b : Child) → Member a (child ∷ others) → Member b (child ∷ others) → first_of a.0 ≡ first_of b.0 → a ≡ b
    one' a b (inl is_a) (inl is_b) same = is_a ∙ sym is_b
    one' a b (inl is_a) (inr in_b) same = absurd (clash b in_b (sym same ∙ ap (λ (c : Child). first_of c.0) is_a))
    one' a b (inr in_a) (inl is_b) same = absurd (clash a in_a (same ∙ ap (λ (c : Child). first_of c.0) is_b))
    one' a b (inr in_a) (inr in_b) same = apart.one a b in_a in_b same

children_at-apart : (total count : ℕ) (firsts bytes : List ℕ) (children : List Child) → children_at total count firsts bytes ≡ Ok children → AreApart firsts children
unfolding children_at
children_at-apart total zero firsts bytes children read = subst (λ (l : List Child). AreApart firsts l) (ok-value [] children read) (AreApart-none firsts)
children_at-apart total (suc count) firsts bytes children read =
    let first = bind_ok (child_at total firsts bytes) _ children read in
    let others = bind_ok (children_at total count (first_of first.0.0.0 ∷ firsts) first.0.1) _ children first.1.1 in
    let child = child_at-parts total firsts bytes first.0.0 first.0.1 first.1.0 in
    subst (λ (l : List Child). AreApart firsts l) (ok-value (first.0.0 ∷ others.0) children others.1.1)
    (AreApart-cons firsts first.0.0 others.0 child.some child.new (children_at-apart total count (first_of first.0.0.0 ∷ firsts) first.0.1 others.0 others.1.0))

edges_at-apart : (total : ℕ) (bytes : List ℕ) (children : List Child) → edges_at total bytes ≡ Ok children → AreApart [] children
unfolding edges_at
edges_at-apart total [] children read = absurd (cc)
edges_at-apart total (count ∷ bytes) children read = children_at-apart total count [] bytes children read

pub children_of-apart : (trie : List ℕ) (offset : ℕ) → AreApart [] (children_of trie offset)
unfolding children_of node_at
children_of-apart trie offset = go (node_at trie offset) refl
  where
    go : (node : Result (Option Terminal × List Child) Rule) → node_at trie offset ≡ node → AreApart [] (children_in node)
    go (Err rule) is = AreApart-none []
    go (Ok node) is =
        let head = bind_ok (head_at (drop offset trie)) _ node is in
        let edges = bind_ok (edges_at (length trie) head.0.1) _ node head.1.1 in
        subst (λ (n : Option Terminal × List Child). AreApart [] n.1) (ok-value (head.0.0, edges.0) node edges.1.1)
        (edges_at-apart (length trie) head.0.1 edges.0 edges.1.0)

-- a visit without a fault gives the node's children
pub entered-children : (trie : List ℕ) (made : List Visit) (visit : Visit) (children : List Child) → entered trie made visit ≡ Ok children → children_of trie visit.1 ≡ children
unfolding entered opened
entered-children trie made visit children ok =
    let new = guard_ok (among visit.1 (visited made)) _ _ children ok in
    let short = guard_ok (nat_lt name_limit (length visit.0)) _ _ children new.1 in
    let head = bind_ok (head_at (drop visit.1 trie)) _ children short.1 in
    let few = guard_ok (too_many (exported trie made ++ export_of visit.0 head.0.0)) _ _ children head.1.1 in
    children_of-node trie visit.1 (head.0.0, children) (node_at-parts trie visit.1 head.0.0 head.0.1 children head.1.0 few.1)

pub entered-unmarked : (trie : List ℕ) (made : List Visit) (visit : Visit) (children : List Child) → entered trie made visit ≡ Ok children → among visit.1 (visited made) ≡ false
unfolding entered
entered-unmarked trie made visit children ok = (guard_ok (among visit.1 (visited made)) _ _ children ok).0

-- each visit is a path
starts-Spells : (trie : List ℕ) (visit : Visit) → Member visit (starts trie) → Spells trie visit.0 visit.1
starts-Spells [] visit member = absurd member
starts-Spells (byte ∷ bytes) visit (inl is) = subst (λ (v : Visit). Spells (byte ∷ bytes) v.0 v.1) (sym is) Root
starts-Spells (byte ∷ bytes) visit (inr member) = absurd member

pub spelled : (trie : List ℕ) {made coming : List Visit} → Reaches trie made coming → (visit : Visit) → Member visit made ⊎ Member visit coming → Spells trie visit.0 visit.1
spelled trie Start visit (inl member) = absurd member
spelled trie Start visit (inr member) = starts-Spells trie visit member
spelled trie (Next {made = made} {visit = here} {coming = rest} children before ok) visit (inl (inl is)) =
    subst (λ (v : Visit). Spells trie v.0 v.1) (sym is) (spelled trie before here (inr (inl refl)))
spelled trie (Next {made = made} {visit = here} {coming = rest} children before ok) visit (inl (inr member)) = spelled trie before visit (inl member)
spelled trie (Next {made = made} {visit = here} {coming = rest} children before ok) visit (inr member) =
    elim (Member-append visit (map (below here.0) children) rest member) [
      | inl child ↦
          let found = Member-from_map (below here.0) visit children child in
          subst (λ (v : Visit). Spells trie v.0 v.1) (sym found.1.1)
          (Edge found.0.0 found.0.1 (spelled trie before here (inr (inl refl)))
          (subst (λ (l : List Child). Member found.0 l) (sym (entered-children trie made here children ok)) found.1.0))
      | inr later ↦ spelled trie before visit (inr (inr later))
    ]

-- what stands below a visit that was made was visited or is to come, and so is the first node
pub closed : (trie : List ℕ) {made coming : List Visit} → Reaches trie made coming → (visit : Visit) → Member visit made → (child : Child) → Member child (children_of trie visit.1) → Member (below visit.0 child) made ⊎ Member (below visit.0 child) coming
closed trie Start visit member child edge = absurd member
closed trie (Next {made = made} {visit = here} {coming = rest} children before ok) visit (inl is) child edge =
    inr (Member-left (below visit.0 child) (map (below here.0) children) rest
    (subst (λ (v : Visit). Member (below v.0 child) (map (below here.0) children)) (sym is)
    (Member-map (below here.0) child children (subst (λ (l : List Child). Member child l) (ap (λ (v : Visit). children_of trie v.1) is ∙ entered-children trie made here children ok) edge))))
closed trie (Next {made = made} {visit = here} {coming = rest} children before ok) visit (inr member) child edge =
    elim (closed trie before visit member child edge) [
      | inl old ↦ inl (inr old)
      | inr coming ↦ next coming
    ]
  where
    next : Member (below visit.0 child) (here ∷ rest) → Member (below visit.0 child) (here ∷ made) ⊎ Member (below visit.0 child) (map (below here.0) children ++ rest)
    next (inl is) = inl (inl is)
    next (inr later) = inr (Member-right (below visit.0 child) (map (below here.0) children) rest later)

pub rooted : (trie : List ℕ) {made coming : List Visit} → Reaches trie made coming → 0 < length trie → Member ([], 0) made ⊎ Member ([], 0) coming
rooted trie Start some = inr (first trie some)
  where
    first : (trie : List ℕ) → 0 < length trie → Member ([], 0) (starts trie)
    first [] some = absurd (omega arith)
    first (byte ∷ bytes) some = inl refl
rooted trie (Next {made = made} {visit = here} {coming = rest} children before ok) some =
    elim (rooted trie before some) [
      | inl old ↦ inl (inr old)
      | inr coming ↦ next coming
    ]
  where
    next : Member ([], 0) (here ∷ rest) → Member ([], 0) (here ∷ made) ⊎ Member ([], 0) (map (below here.0) children ++ rest)
    next (inl is) = inl (inl is)
    next (inr later) = inr (Member-right ([], 0) (map (below here.0) children) rest later)

-- at the end every path was visited
pub complete : (trie : List ℕ) (made : List Visit) → Reaches trie made [] → 0 < length trie → {name : List ℕ} {offset : ℕ} → Spells trie name offset → Member (name, offset) made
complete trie made reached some Root = elim (rooted trie reached some) [ inl member ↦ member | inr none ↦ absurd none ]
complete trie made reached some (Edge {name = name} {offset = offset} edge end path member) =
    elim (closed trie reached (name, offset) (complete trie made reached some path) (edge, end) member) [ inl found ↦ found | inr none ↦ absurd none ]
