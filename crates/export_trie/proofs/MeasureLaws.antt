-- What was measured and what is still to be measured make the whole length.
use Rattle.std.proofs.Common.{◌≡◌, ◌≤◌, ◌<◌, ℕ, ◌+◌, ◌-◌, List, [], ◌∷◌, ◌++◌, take, drop, length, sym, ap, subst, ◌∙◌, arith, inl, inr, length-drop}
use Rattle.std.specs.Prelude.{sum_by}
use Rattle.std.proofs.lemmas.List.{length-take-le}
use Rattle.std.proofs.lemmas.List.Sums.{sum_by-append, sum_by-cons}
use Rattle.export_trie.specs.declared.export.Export.{Export}
use Rattle.export_trie.specs.Writing.{Forest, Bare, Branch, same_edge, other_edges, shared_len, own_terminal, going_on, edges_len, node_len, nodes_len, terminal_bytes, trie_bytes, IsWritable}
use Rattle.export_trie.specs.Planning.{IsReady, IsGroup, IsHeld, AreShort, grown}
use Rattle.export_trie.specs.Measuring.{Part, part_len, AllHeld, AreMeasured, IsNodeMeasured}
use Rattle.export_trie.proofs.PathLaws.{Member-append, Member-left, Member-right}
use Rattle.export_trie.proofs.GroupLaws.{deeper, within, ready_next, rest-Member}
use Rattle.export_trie.proofs.PlanLaws.{grown-none, grown-some}
use Rattle.export_trie.proofs.WriteLaws.{group-held, writable-held, root-grown}
use Rattle.export_trie.proofs.SizeLaws.{length-rooted}

-- the groups so far, and those that are left
pub record GroupsSoFar (depth : ℕ) (all rest : List Export) (len : ℕ) (old now : List Part) : Type 0 where
  pub ready : IsReady depth rest
  pub short : AreShort rest
  pub edges : len + edges_len (grown depth rest) ≡ edges_len (grown depth all)
  pub children : sum_by part_len now + nodes_len (grown depth rest) ≡ sum_by part_len old + nodes_len (grown depth all)
  pub held : AllHeld now

pub groups_none : (depth : ℕ) (all : List Export) (old : List Part) → IsReady depth all → AreShort all → AllHeld old → GroupsSoFar depth all all 0 old old
groups_none depth all old ready short held = record {
  ready = ready;
  short = short;
  edges = omega arith;
  children = omega arith;
  held = held;
}

abbrev pub one_part : List Export → ℕ → Part
one_part exports depth = record { exports = exports; depth = depth }

held_more : (now : List Part) (part : Part) → AllHeld now → IsHeld part.depth part.exports → AllHeld (now ++ part ∷ [])
held_more now part held here other member =
    elim (Member-append other now (part ∷ []) member) [
      | inl before ↦ held other before
      | inr (inl is) ↦ subst (λ (p : Part). IsHeld p.depth p.exports) (sym is) here
      | inr (inr none) ↦ absurd none
    ]

groups_next : (depth : ℕ) (all : List Export) (first : Export) (others : List Export) (len : ℕ) (old now : List Part) → GroupsSoFar depth all (first ∷ others) len old now
    → GroupsSoFar depth all (other_edges depth first others) (len + (shared_len first.name (same_edge depth first others) - depth + 5)) old (now ++ one_part (first ∷ same_edge depth first others) (shared_len first.name (same_edge depth first others)) ∷ [])
groups_next depth all first others len old now so = record {
  ready = ready_next depth first others so.ready;
  short = λ export member. so.short export (inr (rest-Member depth first others export member));
  edges = omega (arith, so.edges, ap edges_len is, edge_len);
  children = omega (arith, so.children, ap nodes_len is, sum_by-append part_len now (part ∷ []), sum_by-cons part_len part []);
  held = held_more now part so.held (group-held depth first others so.ready so.short);
}
  where
    group : List Export
    group = same_edge depth first others

    shared : ℕ
    shared = shared_len first.name group

    part : Part
    part = one_part (first ∷ group) shared

    is : grown depth (first ∷ others) ≡ Branch (drop depth (take shared first.name)) (own_terminal shared first) (grown shared (going_on shared first group)) (grown depth (other_edges depth first others))
    is = grown-some depth first others so.ready

    edge_len : length (drop depth (take shared first.name)) ≡ shared - depth
    edge_len = length-drop depth (take shared first.name) ∙ ap (λ (n : ℕ). n - depth) (length-take-le shared first.name (within depth first others so.ready))

pub groups_more : (depth : ℕ) (all rest rest' : List Export) (first : Export) (group : List Export) (len len' : ℕ) (old now now' : List Part) → GroupsSoFar depth all rest len old now → IsGroup depth rest first group rest' len' → now' ≡ now ++ one_part group len' ∷ [] → GroupsSoFar depth all rest' (len + (len' - depth + 5)) old now'
groups_more depth all rest rest' first group len len' old now now' so is pushed =
    let next = groups_next depth all first is.others len old now (subst (λ (l : List Export). GroupsSoFar depth all l len old now) is.whole so) in
    subst (λ (ps : List Part). GroupsSoFar depth all rest' (len + (len' - depth + 5)) old ps) (sym pushed)
    (subst (λ (g : List Export). GroupsSoFar depth all rest' (len + (len' - depth + 5)) old (now ++ one_part g len' ∷ [])) (sym is.group_is)
    (subst (λ (n : ℕ). GroupsSoFar depth all rest' (len + (n - depth + 5)) old (now ++ one_part (first ∷ same_edge depth first is.others) n ∷ [])) (sym is.len_is)
    (subst (λ (l : List Export). GroupsSoFar depth all l (len + (shared_len first.name (same_edge depth first is.others) - depth + 5)) old (now ++ one_part (first ∷ same_edge depth first is.others) (shared_len first.name (same_edge depth first is.others)) ∷ [])) (sym is.rest_is) next)))

-- the edge of a group lies within the edges
pub group_within : (depth : ℕ) (all rest rest' : List Export) (first : Export) (group : List Export) (len len' : ℕ) (old now : List Part) → GroupsSoFar depth all rest len old now → IsGroup depth rest first group rest' len' → (depth ≤ len') × (len + (len' - depth + 5) ≤ edges_len (grown depth all))
group_within depth all rest rest' first group len len' old now so is =
    let ready = subst (λ (l : List Export). IsReady depth l) is.whole so.ready in
    let more = groups_more depth all rest rest' first group len len' old now (now ++ one_part group len' ∷ []) so is (ap (λ (ps : List Part). ps) (λ i. now ++ one_part group len' ∷ [])) in
    (omega (arith, deeper depth first is.others ready, is.len_is), omega (arith, more.edges))

pub groups_all : (depth : ℕ) (all rest : List Export) (len : ℕ) (old now : List Part) → GroupsSoFar depth all rest len old now → rest ≡ [] → AreMeasured depth all len old now
groups_all depth all rest len old now so none = record {
  edges = omega (arith, so.edges, ap edges_len bare);
  children = omega (arith, so.children, ap nodes_len bare);
  held = so.held;
}
  where
    bare : grown depth rest ≡ Bare
    bare = ap (grown depth) none ∙ grown-none depth

-- a node is its terminal and its edges
pub node_measured : (depth : ℕ) (first : Export) (others : List Export) (terminal len : ℕ) (old now : List Part) → terminal ≡ length (terminal_bytes (own_terminal depth first)) → AreMeasured depth (going_on depth first others) len old now → IsNodeMeasured (one_part (first ∷ others) depth) (terminal + 1 + len) old now
node_measured depth first others terminal len old now terminal_is edges = record {
  some = omega arith;
  all = omega (arith, terminal_is, edges.edges, edges.children);
  held = edges.held;
}

-- the whole trie
pub whole_len : (exports : List Export) → IsWritable exports → 0 < length exports → part_len (one_part exports 0) ≡ length (trie_bytes exports)
unfolding trie_bytes
whole_len [] writable some = absurd (omega arith)
whole_len (first ∷ exports) writable some =
    let held = writable-held first exports writable in
    ap (λ (f : Forest). node_len (own_terminal 0 first) f + nodes_len f) (sym (root-grown first exports (held.ready first exports (λ i. first ∷ exports)).0))
    ∙ sym (length-rooted (own_terminal 0 first) _)

-- what is left is made of the nodes that are to come
pub popped_held : (parts popped : List Part) (part : Part) → AllHeld parts → parts ≡ popped ++ part ∷ [] → AllHeld popped × IsHeld part.depth part.exports × (sum_by part_len parts ≡ sum_by part_len popped + part_len part)
popped_held parts popped part held is =
    let all : AllHeld (popped ++ part ∷ []) = subst AllHeld is held in (
      λ other member. all other (Member-left other popped (part ∷ []) member),
      all part (Member-right part popped (part ∷ []) (inl (λ i. part))),
      ap (sum_by part_len) is ∙ (let e = sum_by-append part_len popped (part ∷ []) in omega (arith, e, sum_by-cons part_len part [])),
    )
