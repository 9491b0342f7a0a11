-- The tree of an accepted trie, read in spelled order, has the exports of a whole walk.
use Rattle.std.proofs.Common.{◌≡◌, ℕ, zero, suc, List, [], ◌∷◌, ◌++◌, drop, length, map, refl, sym, ap, subst, ◌∙◌, append_assoc}
use Rattle.std.specs.Prelude.{Result, Ok, Err, Option, Some, None, flat_map, nat_lt, false}
use Rattle.std.proofs.lemmas.List.{append-nil}
use Rattle.std.proofs.lemmas.List.Folds.{flat_map-map}
use Rattle.dsc_base.specs.Limits.{name_limit}
use Rattle.dsc_base.specs.declared.rule.Rule.{Rule}
use Rattle.dsc_base.specs.declared.fault.Site.{Site}
use Rattle.export_trie.specs.declared.export.Export.{Export}
use Rattle.export_trie.specs.Nodes.{Terminal, Child, among, head_at, terminal_of}
use Rattle.export_trie.specs.Order.{Visit, Progress, visited, exported, export_of, too_many, entered, opened, below, after, and_then, in_turn, tree_read, starts, fault_in, trie_break}
use Rattle.export_trie.specs.Exports.{tree_exports}
use Rattle.export_trie.specs.Reading.{Reaches, Start, Next}
use Rattle.export_trie.proofs.NodeLaws.{bind_ok, guard_ok}
use Rattle.export_trie.proofs.ReadLaws.{node_at-parts, terminal_of-node}
use Rattle.export_trie.proofs.PathLaws.{entered-children}

-- a reading that did not fail
then_ok : (p : Progress) (next : List Visit → Progress) (end : List Visit) → and_then p next ≡ Ok end → (made : List Visit) × ((p ≡ Ok made) × (next made ≡ Ok end))
then_ok (Ok made) next end is = (made, (refl, is))
then_ok (Err site) next end is = absurd (cc)

after_ok : (visit : Visit) (r : Result (List Child) Rule) (next : List Child → Progress) (end : List Visit) → after visit r next ≡ Ok end → (children : List Child) × ((r ≡ Ok children) × (next children ≡ Ok end))
after_ok visit (Ok children) next end is = (children, (refl, is))
after_ok visit (Err rule) next end is = absurd (cc)

ok-made : (made end : List Visit) → ◌≡◌ {A = Progress} (Ok made) (Ok end) → made ≡ end
ok-made made end is = cc

-- some nodes and all below them were visited
record IsTreeWalked (trie : List ℕ) (made end coming : List Visit) (found : List Export) : Type 0 where
  reached : Reaches trie end coming
  exports : exported trie end ≡ exported trie made ++ found

abbrev TreeWalks : List ℕ → ℕ → Type 0
TreeWalks trie depth = (made end coming : List Visit) (visit : Visit) → Reaches trie made (visit ∷ coming) → tree_read trie depth made visit ≡ Ok end → IsTreeWalked trie made end coming (tree_exports trie depth visit.0 visit.1)

abbrev found_at : List ℕ → ℕ → Visit → List Export
found_at trie depth visit = tree_exports trie depth visit.0 visit.1

turn_walked : (trie : List ℕ) (depth : ℕ) → TreeWalks trie depth → (visits made end coming : List Visit) → Reaches trie made (visits ++ coming) → in_turn (tree_read trie depth) made visits ≡ Ok end → IsTreeWalked trie made end coming (flat_map (found_at trie depth) visits)
turn_walked trie depth walks [] made end coming reached is = record {
  reached = subst (λ (vs : List Visit). Reaches trie vs coming) (ok-made made end is) reached;
  exports = ap (exported trie) (sym (ok-made made end is)) ∙ sym (append-nil (exported trie made));
}
turn_walked trie depth walks (visit ∷ visits) made end coming reached is =
    let first = then_ok (tree_read trie depth made visit) (λ more. in_turn (tree_read trie depth) more visits) end is in
    let here = walks made first.0 (visits ++ coming) visit reached first.1.0 in
    let later = turn_walked trie depth walks visits first.0 end coming here.reached first.1.1 in
    record {
      reached = later.reached;
      exports =
          later.exports
          ∙ (ap (λ (l : List Export). l ++ flat_map (found_at trie depth) visits) here.exports
          ∙ append_assoc (exported trie made) (found_at trie depth visit) (flat_map (found_at trie depth) visits));
    }

tree_walked : (trie : List ℕ) (depth : ℕ) → TreeWalks trie depth
unfolding tree_read tree_exports exported
tree_walked trie zero made end coming visit reached is = absurd (cc)
tree_walked trie (suc depth) made end coming visit reached is =
    let step = after_ok visit (entered trie made visit) (λ children. in_turn (tree_read trie depth) (visit ∷ made) (map (below visit.0) children)) end is in
    let children = step.0 in
    let walked = turn_walked trie depth (tree_walked trie depth) (map (below visit.0) children) (visit ∷ made) end coming (Next children reached step.1.0) step.1.1 in
    let own = export_of visit.0 (terminal_of trie visit.1) in
    record {
      reached = walked.reached;
      exports =
          walked.exports
          ∙ (append_assoc (exported trie made) own (flat_map (found_at trie depth) (map (below visit.0) children))
          ∙ ap (λ (l : List Export). exported trie made ++ (own ++ l))
          (flat_map-map (found_at trie depth) (below visit.0) children
          ∙ ap (flat_map (λ (child : Child). tree_exports trie depth (visit.0 ++ child.0) child.1)) (sym (entered-children trie made visit children step.1.0))));
    }

-- an accepted trie has a whole walk, whose exports are those of its tree
pub record HasWalk (trie : List ℕ) : Type 0 where
  pub made : List Visit
  pub reached : Reaches trie made []
  pub listed : tree_exports trie (length trie) [] 0 ≡ exported trie made

no_fault : (p : Progress) → fault_in p ≡ None → (made : List Visit) × (p ≡ Ok made)
no_fault (Ok made) none = (made, refl)
no_fault (Err site) none = absurd (let e : ◌≡◌ {A = Option Site} (Some site) None = none in cc)

pub accepted_walk : (trie : List ℕ) → trie_break trie ≡ None → HasWalk trie
unfolding trie_break tree_exports exported
accepted_walk trie none = go trie (no_fault (in_turn (tree_read trie (length trie)) [] (starts trie)) none)
  where
    go : (trie : List ℕ) → (made : List Visit) × (in_turn (tree_read trie (length trie)) [] (starts trie) ≡ Ok made) → HasWalk trie
    go [] walk = record {
      made = [];
      reached = Start;
      listed = refl;
    }
    go (byte ∷ bytes) walk =
        let all : List ℕ = byte ∷ bytes in
        let walked = turn_walked all (length all) (tree_walked all (length all)) (starts all) [] walk.0 [] Start walk.1 in
        record {
          made = walk.0;
          reached = walked.reached;
          listed = sym (append-nil (tree_exports all (length all) [] 0)) ∙ sym walked.exports;
        }

-- the limits are kept at every moment
pub few_exports : (trie : List ℕ) {made coming : List Visit} → Reaches trie made coming → too_many (exported trie made) ≡ false
unfolding too_many exported entered opened
few_exports trie Start = refl
few_exports trie (Next {made = made} {visit = visit} {coming = rest} children before ok) =
    let new = guard_ok (among visit.1 (visited made)) _ _ children ok in
    let short = guard_ok (nat_lt name_limit (length visit.0)) _ _ children new.1 in
    let head = bind_ok (head_at (drop visit.1 trie)) _ children short.1 in
    let few = guard_ok (too_many (exported trie made ++ export_of visit.0 head.0.0)) _ _ children head.1.1 in
    let ends : terminal_of trie visit.1 ≡ head.0.0 = terminal_of-node trie visit.1 (head.0.0, children) (node_at-parts trie visit.1 head.0.0 head.0.1 children head.1.0 few.1) in
    ap (λ (t : Option Terminal). too_many (exported trie made ++ export_of visit.0 t)) ends ∙ few.0
