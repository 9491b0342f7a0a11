-- The edges of a node, one group after the other.
use Rattle.std.proofs.Common.{◌≡◌, ◌≢◌, ◌≤◌, ◌<◌, ℕ, zero, suc, ◌+◌, ◌-◌, List, [], ◌∷◌, ◌++◌, take, drop, length, get_or, set, reverse, refl, sym, ap, ap₂, subst, ◌∙◌, arith, inl, inr, Bool, false, append_assoc, length-append, length-drop}
use Rattle.std.specs.Prelude.{nat_eq}
use Rattle.std.specs.List.{prefix_len}
use Rattle.std.proofs.lemmas.Bool.{eqb-false, eq-eqb, ne_eqb, cases_Bool, cond-true, cond-false}
use Rattle.std.proofs.lemmas.List.{append-nil, take_at, drop_at, reverse-append, reverse-reverse, length-take-le}
use Rattle.export_trie.specs.declared.export.Export.{Export}
use Rattle.export_trie.specs.Paths.{Member}
use Rattle.export_trie.specs.Writing.{Forest, Bare, Branch, goes_with, same_edge, other_edges, shared_len, own_terminal, going_on, children_count, HasNoZero}
use Rattle.export_trie.specs.Planning.{IsReady, IsGroup, IsHeld, grown, Plan, plans, open_edges, ArePlanned}
use Rattle.export_trie.proofs.PrefixLaws.{rising_bytes}
use Rattle.export_trie.proofs.GroupLaws.{within, ready_next, rest-Member}
use Rattle.export_trie.proofs.PlanLaws.{grown-none, grown-some, planned, planned-some}

-- the bytes of later groups are above that of the first one
prefix-stops : (p : Export → Bool) (xs : List Export) (r : Export) (rest : List Export) → drop (prefix_len p xs) xs ≡ r ∷ rest → p r ≡ false
prefix-stops p [] r rest is = absurd (cc)
prefix-stops p (x ∷ xs) r rest is =
    elim (cases_Bool (p x)) [
      | inl yes' ↦
          prefix-stops p xs r rest (sym (ap (λ (n : ℕ). drop n (x ∷ xs)) (cond-true (p x) (1 + prefix_len p xs) 0 yes' ∙ (let e : 1 + prefix_len p xs ≡ suc (prefix_len p xs) = omega arith in e))) ∙ is)
      | inr no' ↦
          let whole : x ∷ xs ≡ r ∷ rest = sym (ap (λ (n : ℕ). drop n (x ∷ xs)) (cond-false (p x) (1 + prefix_len p xs) 0 no')) ∙ is in
          ap p (let e : r ≡ x = head_is x r xs rest whole in e) ∙ no'
    ]
  where
    head_is : (x r : Export) (xs rest : List Export) → x ∷ xs ≡ r ∷ rest → r ≡ x
    head_is x r xs rest whole = cc

pub later-byte : (depth : ℕ) (first : Export) (exports : List Export) → IsReady depth (first ∷ exports) → (x : Export) → Member x (other_edges depth first exports) → get_or first.name depth 0 < get_or x.name depth 0
later-byte depth first exports ready x member = go (other_edges depth first exports) refl member
  where
    le : (y : Export) → Member y exports → get_or first.name depth 0 ≤ get_or y.name depth 0
    le y in_all =
        rising_bytes depth first.name y.name (ready.longer first (inl refl)) (ready.longer y (inr in_all))
        (ready.begins first (inl refl) ∙ sym (ready.begins y (inr in_all))) (ready.rising.0 y in_all)

    go : (rest : List Export) → other_edges depth first exports ≡ rest → Member x rest → get_or first.name depth 0 < get_or x.name depth 0
    go [] is in_rest = absurd in_rest
    go (r ∷ rest) is in_rest =
        let r_in : Member r exports = rest-Member depth first exports r (subst (λ (l : List Export). Member r l) (sym is) (inl refl)) in
        let differs = eqb-false (get_or r.name depth 0) (get_or first.name depth 0) (prefix-stops (goes_with depth first) exports r rest is) in
        let above : get_or first.name depth 0 < get_or r.name depth 0 = omega (arith, le r r_in, differs) in
        above_all r rest above (subst (λ (l : List Export). IsReady depth l) is (ready_next depth first exports ready)) in_rest
      where
        above_all : (r : Export) (rest : List Export) → get_or first.name depth 0 < get_or r.name depth 0 → IsReady depth (r ∷ rest) → Member x (r ∷ rest) → get_or first.name depth 0 < get_or x.name depth 0
        above_all r rest above next (inl same) = subst (λ (e : Export). get_or first.name depth 0 < get_or e.name depth 0) (sym same) above
        above_all r rest above next (inr later) =
            let more = rising_bytes depth r.name x.name (next.longer r (inl refl)) (next.longer x (inr later))
            (next.begins r (inl refl) ∙ sym (next.begins x (inr later))) (next.rising.0 x later) in
            omega (arith, above, more)

-- edges and plans so far
pub record EdgesSoFar (depth : ℕ) (all rest : List Export) (before out : List ℕ) (old now : List Plan) (count : ℕ) : Type 0 where
  pub ready : IsReady depth rest
  pub done : List Plan
  pub pushed : now ≡ old ++ done
  pub plans_are : done ++ planned (length out) depth rest ≡ planned (length before + 1) depth all
  pub front : List ℕ
  pub out_is : out ≡ before ++ (0 ∷ front)
  pub spelled : front ++ open_edges (grown depth rest) ≡ open_edges (grown depth all)
  pub counted : count + children_count (grown depth rest) ≡ children_count (grown depth all)
  pub small : (x : Export) → Member x rest → count < get_or x.name depth 0

pub no_zero : (name : List ℕ) (k : ℕ) → HasNoZero name → k < length name → 0 < get_or name k 0
no_zero [] k plain inside = absurd (omega arith)
no_zero (x ∷ name) zero plain inside = plain.0
no_zero (x ∷ name) (suc k) plain inside = no_zero name k plain.1 (omega arith)

pub edges_none : (depth : ℕ) (all : List Export) (before out : List ℕ) (old : List Plan) → IsReady depth all → out ≡ before ++ (0 ∷ []) → EdgesSoFar depth all all before out old old 0
edges_none depth all before out old ready is = record {
  ready = ready;
  done = [];
  pushed = sym (append-nil old);
  plans_are = ap (λ (n : ℕ). planned n depth all) (let e : length out ≡ length before + 1 = omega (arith, ap length is, length-append before (0 ∷ [])) in e);
  front = [];
  out_is = is;
  spelled = refl;
  counted = omega arith;
  small = λ x member. no_zero x.name depth (ready.plain x member) (ready.longer x member);
}

pub edges_more : (depth : ℕ) (all rest : List Export) (before out out' : List ℕ) (old now now' : List Plan) (count len : ℕ) (first : Export) (group left : List Export) → EdgesSoFar depth all rest before out old now count → IsGroup depth rest first group left len → out' ≡ out ++ (drop depth (take len first.name) ++ (0 ∷ 0 ∷ 0 ∷ 0 ∷ 0 ∷ [])) → now' ≡ now ++ (record { exports = group; depth = len; hole = length out + (len - depth) + 1 } ∷ []) → EdgesSoFar depth all left before out' old now' (count + 1)
edges_more depth all rest before out out' old now now' count len first group left so is out_is now_is = record {
  ready = subst (λ (l : List Export). IsReady depth l) (sym is.rest_is) (ready_next depth first is.others ready);
  done = so.done ++ plan ∷ [];
  pushed = now_is ∙ (ap (λ (l : List Plan). l ++ plan ∷ []) so.pushed ∙ append_assoc old so.done (plan ∷ []));
  plans_are =
      append_assoc so.done (plan ∷ []) (planned (length out') depth left)
      ∙ (ap (λ (l : List Plan). so.done ++ l) (sym plans_step) ∙ so.plans_are);
  front = so.front ++ (edge ++ (0 ∷ 0 ∷ 0 ∷ 0 ∷ 0 ∷ []));
  out_is =
      out_is ∙ (ap (λ (l : List ℕ). l ++ (edge ++ (0 ∷ 0 ∷ 0 ∷ 0 ∷ 0 ∷ []))) so.out_is
      ∙ append_assoc before (0 ∷ so.front) (edge ++ (0 ∷ 0 ∷ 0 ∷ 0 ∷ 0 ∷ [])));
  spelled =
      append_assoc so.front (edge ++ (0 ∷ 0 ∷ 0 ∷ 0 ∷ 0 ∷ [])) (open_edges (grown depth left))
      ∙ (ap (λ (l : List ℕ). so.front ++ l)
      (append_assoc edge (0 ∷ 0 ∷ 0 ∷ 0 ∷ 0 ∷ []) (open_edges (grown depth left)) ∙ sym (ap open_edges forest_step))
      ∙ so.spelled);
  counted = omega (arith, so.counted, ap children_count forest_step);
  small = λ x member.
      let above = later-byte depth first is.others ready x (subst (λ (l : List Export). Member x l) is.rest_is member) in
      let below = so.small first (subst (λ (l : List Export). Member first l) (sym is.whole) (inl refl)) in
      omega (arith, above, below);
}
  where
    ready : IsReady depth (first ∷ is.others)
    ready = subst (λ (l : List Export). IsReady depth l) is.whole so.ready

    len' : ℕ
    len' = shared_len first.name (same_edge depth first is.others)

    edge : List ℕ
    edge = drop depth (take len first.name)

    plan : Plan
    plan = record { exports = group; depth = len; hole = length out + (len - depth) + 1 }

    edge_len : length edge ≡ len - depth
    edge_len =
        length-drop depth (take len first.name)
        ∙ ap (λ (n : ℕ). n - depth) (length-take-le len first.name (subst (λ (n : ℕ). n ≤ length first.name) (sym is.len_is) (within depth first is.others ready)))

    out_len : length out' ≡ length out + (len - depth) + 5
    out_len = omega (arith, ap length out_is, edge_len, length-append out (edge ++ (0 ∷ 0 ∷ 0 ∷ 0 ∷ 0 ∷ [])), length-append edge (0 ∷ 0 ∷ 0 ∷ 0 ∷ 0 ∷ []))

    plans_step : planned (length out) depth rest ≡ plan ∷ planned (length out') depth left
    plans_step =
        ap (planned (length out) depth) is.whole
        ∙ (planned-some (length out) depth first is.others
        ∙ (ap₂ (λ (g : List Export) (n : ℕ). let p : Plan = record { exports = g; depth = n; hole = length out + (n - depth) + 1 } in p ∷ planned (length out + (n - depth) + 5) depth (other_edges depth first is.others)) (sym is.group_is) (sym is.len_is)
        ∙ ap₂ (λ (n : ℕ) (l : List Export). plan ∷ planned n depth l) (sym out_len) (sym is.rest_is)))

    forest_step : grown depth rest ≡ Branch edge (own_terminal len' first) (grown len' (going_on len' first (same_edge depth first is.others))) (grown depth left)
    forest_step =
        ap (grown depth) is.whole
        ∙ (grown-some depth first is.others ready
        ∙ ap₂ (λ (n : ℕ) (l : List Export). Branch (drop depth (take n first.name)) (own_terminal len' first) (grown len' (going_on len' first (same_edge depth first is.others))) (grown depth l)) (sym is.len_is) (sym is.rest_is))

set_middle : (before : List ℕ) (x y : ℕ) (rest : List ℕ) → set (before ++ (x ∷ rest)) (length before) y ≡ before ++ (y ∷ rest)
set_middle [] x y rest = refl
set_middle (z ∷ before) x y rest = ap (λ (l : List ℕ). z ∷ l) (set_middle before x y rest)

turned_list : (old done now turned : List Plan) (base : ℕ) → now ≡ old ++ done → base ≡ length old → turned ≡ take base now ++ reverse (drop base now) → reverse turned ≡ done ++ reverse old
turned_list old done now turned base now_is base_is turned_is =
    let whole : turned ≡ old ++ reverse done =
    turned_is
    ∙ (ap (λ (l : List Plan). take base l ++ reverse (drop base l)) now_is
    ∙ ap₂ (λ (a b : List Plan). a ++ reverse b) (take_at old done base (sym base_is)) (drop_at old done base (sym base_is))) in
    ap reverse whole ∙ (reverse-append old (reverse done) ∙ ap (λ (l : List Plan). l ++ reverse old) (reverse-reverse done))

pub edges_all : (depth : ℕ) (all rest : List Export) (before out out' : List ℕ) (old now turned : List Plan) (base count : ℕ) → EdgesSoFar depth all rest before out old now count → rest ≡ [] → base ≡ length old → out' ≡ set out (length before) count → turned ≡ take base now ++ reverse (drop base now) → ArePlanned depth all before out' (reverse old) (reverse turned)
unfolding plans
edges_all depth all rest before out out' old now turned base count so none base_is out_is turned_is = record {
  spelled =
      out_is ∙ (ap (λ (l : List ℕ). set l (length before) count) so.out_is
      ∙ (set_middle before 0 count so.front
      ∙ ap₂ (λ (n : ℕ) (l : List ℕ). before ++ (n ∷ l)) count_is front_is));
  planned =
      turned_list old so.done now turned base so.pushed base_is turned_is
      ∙ ap (λ (l : List Plan). l ++ reverse old) done_is;
}
  where
    bare : grown depth rest ≡ Bare
    bare = ap (grown depth) none ∙ grown-none depth

    count_is : count ≡ children_count (grown depth all)
    count_is = let e : children_count (grown depth rest) ≡ 0 = ap children_count bare in omega (arith, e, so.counted)

    front_is : so.front ≡ open_edges (grown depth all)
    front_is = sym (append-nil so.front) ∙ (ap (λ (f : Forest). so.front ++ open_edges f) (sym bare) ∙ so.spelled)

    done_is : so.done ≡ planned (length before + 1) depth all
    done_is = sym (append-nil so.done) ∙ (ap (λ (l : List Export). so.done ++ planned (length out) depth l) (sym none) ∙ so.plans_are)

-- the exports below a node
pub held-own : (depth : ℕ) (first : Export) (exports below : List Export) → IsHeld depth exports → first ≡ get_or exports 0 first → 1 ≤ length exports → length first.name ≡ depth → below ≡ drop 1 exports → IsReady depth below
held-own depth first [] below held at some own is = absurd (omega arith)
held-own depth first (x ∷ exports) below held at some own is =
    let own' : length x.name ≡ depth = subst (λ (e : Export). length e.name ≡ depth) at own in
    subst (λ (l : List Export). IsReady depth l) (cond-true (nat_eq (length x.name) depth) exports (x ∷ exports) (eq-eqb (length x.name) depth own') ∙ sym is)
    (held.ready x exports refl).0

pub held-other : (depth : ℕ) (first : Export) (exports below : List Export) → IsHeld depth exports → first ≡ get_or exports 0 first → 1 ≤ length exports → length first.name ≢ depth → below ≡ exports → IsReady depth below
held-other depth first [] below held at some other is = absurd (omega arith)
held-other depth first (x ∷ exports) below held at some other is =
    let other' : length x.name ≢ depth = λ e. other (subst (λ (y : Export). length y.name ≡ depth) (sym at) e) in
    subst (λ (l : List Export). IsReady depth l) (cond-false (nat_eq (length x.name) depth) exports (x ∷ exports) (ne_eqb (length x.name) depth other') ∙ sym is)
    (held.ready x exports refl).0
