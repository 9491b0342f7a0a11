-- The first fault of a trie is that of what is still to be read, at each moment of a walk.
use Rattle.std.proofs.Common.{◌≡◌, ◌≤◌, ℕ, zero, suc, ◌+◌, List, [], ◌∷◌, ◌++◌, length, map, refl, sym, ap, ◌∙◌, arith}
use Rattle.std.specs.Prelude.{Result, Ok, Err, Option, Some, None}
use Rattle.std.proofs.lemmas.List.{append-nil}
use Rattle.dsc_base.specs.declared.rule.Rule.{Rule}
use Rattle.dsc_base.specs.declared.rule.Rule.TheVariants.{TrieNodeTwice}
use Rattle.dsc_base.specs.declared.fault.Site.{Site}
use Rattle.export_trie.specs.Nodes.{Child}
use Rattle.export_trie.specs.Order.{Visit, Progress, entered, below, after, and_then, in_turn, tree_read, starts, fault_in, trie_break}
use Rattle.export_trie.specs.Reading.{Reaches, Start, Next}

-- nodes that are still to be read, and how many nodes a path from each may have
abbrev pub Due : Type 0
Due = ℕ × Visit

abbrev pub nodes_due : List Due → List Visit
nodes_due due = map (λ (d : Due). d.1) due

abbrev pub at_depth : ℕ → Visit → Due
at_depth depth visit = (depth, visit)

abbrev pub read_due : List ℕ → List Visit → List Due → Progress
read_due trie made [] = Ok made
read_due trie made (d ∷ due) = and_then (tree_read trie d.0 made d.1) (λ more. read_due trie more due)

abbrev pub AreDeep : ℕ → List Due → Type 0
AreDeep left [] = Unit {0}
AreDeep left (d ∷ due) = (left ≤ d.0) × AreDeep left due

deep_less : (left : ℕ) (due : List Due) → AreDeep (suc left) due → AreDeep left due
deep_less left [] deep = tt
deep_less left (d ∷ due) deep = (omega (arith, deep.0), deep_less left due deep.1)

deep_at : (left depth : ℕ) (visits : List Visit) (due : List Due) → left ≤ depth → AreDeep left due → AreDeep left (map (at_depth depth) visits ++ due)
deep_at left depth [] due enough deep = deep
deep_at left depth (visit ∷ visits) due enough deep = (enough, deep_at left depth visits due enough deep)

nodes_at : (depth : ℕ) (visits : List Visit) (due : List Due) → nodes_due (map (at_depth depth) visits ++ due) ≡ visits ++ nodes_due due
nodes_at depth [] due = refl
nodes_at depth (visit ∷ visits) due = ap (λ (vs : List Visit). visit ∷ vs) (nodes_at depth visits due)

-- nodes one after the other, and then what is due after them
turn_due : (trie : List ℕ) (depth : ℕ) (made visits : List Visit) (due : List Due) → and_then (in_turn (tree_read trie depth) made visits) (λ more. read_due trie more due) ≡ read_due trie made (map (at_depth depth) visits ++ due)
turn_due trie depth made [] due = refl
turn_due trie depth made (visit ∷ visits) due = go (λ more. turn_due trie depth more visits due) (tree_read trie depth made visit)
  where
    go : ((more : List Visit) → and_then (in_turn (tree_read trie depth) more visits) (λ last. read_due trie last due) ≡ read_due trie more (map (at_depth depth) visits ++ due)) → (p : Progress) → and_then (and_then p (λ more. in_turn (tree_read trie depth) more visits)) (λ more. read_due trie more due) ≡ and_then p (λ more. read_due trie more (map (at_depth depth) visits ++ due))
    go later (Ok more) = later more
    go later (Err site) = refl

-- what is due after some visits
pub record IsDue (trie : List ℕ) (left : ℕ) (made coming : List Visit) : Type 0 where
  pub due : List Due
  pub nodes : nodes_due due ≡ coming
  pub deep : AreDeep left due
  pub rest : trie_break trie ≡ fault_in (read_due trie made due)

-- the node that is next
pub record IsNextDue (trie : List ℕ) (left : ℕ) (made : List Visit) (visit : Visit) (coming : List Visit) : Type 0 where
  pub depth : ℕ
  pub enough : left ≤ depth
  pub due : List Due
  pub nodes : nodes_due due ≡ coming
  pub deep : AreDeep left due
  pub rest : trie_break trie ≡ fault_in (and_then (tree_read trie depth made visit) (λ more. read_due trie more due))

next_due : (trie : List ℕ) (left : ℕ) (made : List Visit) (visit : Visit) (coming : List Visit) → IsDue trie left made (visit ∷ coming) → IsNextDue trie left made visit coming
next_due trie left made visit coming is = go is.due is.nodes is.deep is.rest
  where
    go : (due : List Due) → nodes_due due ≡ visit ∷ coming → AreDeep left due → trie_break trie ≡ fault_in (read_due trie made due) → IsNextDue trie left made visit coming
    go [] nodes deep rest = absurd (cc)
    go (d ∷ due) nodes deep rest =
        let first : d.1 ≡ visit = cc in
        let others : nodes_due due ≡ coming = cc in
        record {
          depth = d.0;
          enough = deep.0;
          due = due;
          nodes = others;
          deep = deep.1;
          rest = rest ∙ ap (λ (v : Visit). fault_in (and_then (tree_read trie d.0 made v) (λ more. read_due trie more due))) first;
        }

pub reached_due : (trie : List ℕ) {made coming : List Visit} (left : ℕ) → Reaches trie made coming → left + length made ≡ length trie → IsDue trie left made coming
unfolding trie_break tree_read
reached_due trie left Start counted = record {
  due = map (at_depth (length trie)) (starts trie) ++ [];
  nodes = nodes_at (length trie) (starts trie) [] ∙ append-nil (starts trie);
  deep = deep_at left (length trie) (starts trie) [] (omega (arith, counted)) tt;
  rest = ap fault_in (same (in_turn (tree_read trie (length trie)) [] (starts trie)) ∙ turn_due trie (length trie) [] (starts trie) []);
}
  where
    same : (p : Progress) → p ≡ and_then p (λ more. read_due trie more [])
    same (Ok more) = refl
    same (Err site) = refl
reached_due trie left (Next {made = made} {visit = visit} {coming = rest} children before ok) counted =
    let next = next_due trie (suc left) made visit rest (reached_due trie (suc left) before (omega (arith, counted))) in
    go next.depth next.enough next.due next.nodes next.deep next.rest
  where
    go : (depth : ℕ) → suc left ≤ depth → (due : List Due) → nodes_due due ≡ rest → AreDeep (suc left) due → trie_break trie ≡ fault_in (and_then (tree_read trie depth made visit) (λ more. read_due trie more due)) → IsDue trie left (visit ∷ made) (map (below visit.0) children ++ rest)
    go zero enough due nodes deep is = absurd (omega arith)
    go (suc depth) enough due nodes deep is = record {
      due = map (at_depth depth) (map (below visit.0) children) ++ due;
      nodes = nodes_at depth (map (below visit.0) children) due ∙ ap (λ (vs : List Visit). map (below visit.0) children ++ vs) nodes;
      deep = deep_at left depth (map (below visit.0) children) due (omega (arith, enough)) (deep_less left due deep);
      rest =
          is
          ∙ (ap (λ (r : Result (List Child) Rule). fault_in (and_then (after visit r (λ (cs : List Child). in_turn (tree_read trie depth) (visit ∷ made) (map (below visit.0) cs))) (λ more. read_due trie more due))) ok
          ∙ ap fault_in (turn_due trie depth (visit ∷ made) (map (below visit.0) children) due));
    }

pub trie_break-at : (trie : List ℕ) (made coming : List Visit) (visit : Visit) (left : ℕ) (rule : Rule) → Reaches trie made (visit ∷ coming) → left + length made ≡ length trie → (left ≡ 0 → rule ≡ TrieNodeTwice) → entered trie made visit ≡ Err rule → trie_break trie ≡ Some (record { rule = rule; at = visit.1 })
unfolding tree_read
trie_break-at trie made coming visit left rule reached counted twice fault =
    let next = next_due trie left made visit coming (reached_due trie left reached counted) in go next.depth next.enough next.due next.rest
  where
    go : (depth : ℕ) → left ≤ depth → (due : List Due) → trie_break trie ≡ fault_in (and_then (tree_read trie depth made visit) (λ more. read_due trie more due)) → trie_break trie ≡ Some (record { rule = rule; at = visit.1 })
    go zero enough due is =
        is ∙ ap (λ (r : Rule). let s : Option Site = Some (record { rule = r; at = visit.1 }) in s) (sym (twice (omega (arith, enough))))
    go (suc depth) enough due is =
        is
        ∙ ap (λ (r : Result (List Child) Rule). fault_in (and_then (after visit r (λ (cs : List Child). in_turn (tree_read trie depth) (visit ∷ made) (map (below visit.0) cs))) (λ more. read_due trie more due))) fault

pub trie_break-none : (trie : List ℕ) (made : List Visit) (left : ℕ) → Reaches trie made [] → left + length made ≡ length trie → trie_break trie ≡ None
trie_break-none trie made left reached counted = let is = reached_due trie left reached counted in go is.due is.nodes is.rest
  where
    go : (due : List Due) → nodes_due due ≡ [] → trie_break trie ≡ fault_in (read_due trie made due) → trie_break trie ≡ None
    go [] nodes is = is
    go (d ∷ due) nodes is = absurd (cc)
