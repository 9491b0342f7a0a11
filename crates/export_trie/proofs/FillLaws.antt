-- Offsets that are filled in as their nodes come.
use Rattle.std.proofs.Common.{◌≡◌, ◌≤◌, ℕ, zero, suc, ◌+◌, ◌-◌, List, [], ◌∷◌, ◌++◌, take, drop, length, refl, sym, ap, ap₂, subst, ◌∙◌, arith, append_assoc, length-append, length-drop}
use Rattle.std.proofs.lemmas.List.{take_at, drop_at, length-take-le, drop-append-le, take-append-le, take_all, drop-drop}
use Rattle.std.proofs.lemmas.Slice.{put_mid-paste}
use borrow.Rule.Slice.PartMut.{put_mid}
use Rattle.dsc_base.specs.Uleb.{uleb4_bytes}
use Rattle.export_trie.specs.declared.export.Export.{Export}
use Rattle.export_trie.specs.Writing.{Forest, Bare, Branch, same_edge, other_edges, shared_len, node_len, nodes_len, edges_bytes, node_bytes, nodes_bytes}
use Rattle.export_trie.specs.Planning.{IsReady, grown, Plan, plans, open_edges, terminal_of_plan, forest_of_plan, plan_len, put_over, filled, following, AreHeld}
use Rattle.export_trie.proofs.GroupLaws.{within, ready_next}
use Rattle.export_trie.proofs.PlanLaws.{grown-none, grown-some, planned, planned-some, length-other}

pub length-uleb4 : (value : ℕ) → length (uleb4_bytes value) ≡ 4
unfolding uleb4_bytes
length-uleb4 value = refl

-- bytes put over others
pub put_over-middle : (before piece old after : List ℕ) (at : ℕ) → length before ≡ at → length old ≡ length piece → put_over at piece (before ++ (old ++ after)) ≡ before ++ (piece ++ after)
unfolding put_over
put_over-middle before piece old after at is same =
    ap₂ (λ (a b : List ℕ). a ++ (piece ++ b)) (take_at before (old ++ after) at is)
    (ap (λ (n : ℕ). drop n (before ++ (old ++ after))) (let e : at + length piece ≡ length old + at = omega (arith, same) in e)
    ∙ (sym (drop-drop' (length old) at (before ++ (old ++ after)))
    ∙ (ap (drop (length old)) (drop_at before (old ++ after) at is) ∙ drop_at old after (length old) refl)))
  where
    drop-drop' : (m n : ℕ) (l : List ℕ) → drop m (drop n l) ≡ drop (m + n) l
    drop-drop' m n l = drop-drop m n l ∙ ap (λ (k : ℕ). drop k l) (let e : n + m ≡ m + n = omega arith in e)

pub length-put_over : (at : ℕ) (piece bytes : List ℕ) → at + length piece ≤ length bytes → length (put_over at piece bytes) ≡ length bytes
unfolding put_over
length-put_over at piece bytes fits =
    omega (arith, length-append (take at bytes) (piece ++ drop (at + length piece) bytes), length-append piece (drop (at + length piece) bytes), length-take-le at bytes (omega arith), length-drop (at + length piece) bytes)

pub put_over-front : (at : ℕ) (piece bytes more : List ℕ) → at + length piece ≤ length bytes → put_over at piece (bytes ++ more) ≡ put_over at piece bytes ++ more
unfolding put_over
put_over-front at piece bytes more fits =
    ap₂ (λ (a b : List ℕ). a ++ (piece ++ b)) (take-append-le at bytes more (omega arith)) (drop-append-le (at + length piece) bytes more fits)
    ∙ (ap (λ (l : List ℕ). take at bytes ++ l) (sym (append_assoc piece (drop (at + length piece) bytes) more))
    ∙ sym (append_assoc (take at bytes) (piece ++ drop (at + length piece) bytes) more))

-- holes that lie in the bytes
abbrev pub AreHoles : ℕ → List Plan → Type 0
AreHoles len [] = Unit {0}
AreHoles len (plan ∷ coming) = (plan.hole + 4 ≤ len) × AreHoles len coming

pub AreHoles-held : (len : ℕ) (coming : List Plan) → AreHeld len coming → AreHoles len coming
AreHoles-held len [] held = tt
AreHoles-held len (plan ∷ coming) held = (held.0, AreHoles-held len coming held.2)

pub AreHoles-more : (m n : ℕ) (coming : List Plan) → m ≤ n → AreHoles m coming → AreHoles n coming
AreHoles-more m n [] le holes = tt
AreHoles-more m n (plan ∷ coming) le holes = (omega (arith, holes.0), AreHoles-more m n coming le holes.1)

pub length-filled : (at : ℕ) (coming : List Plan) (out : List ℕ) → AreHoles (length out) coming → length (filled at coming out) ≡ length out
unfolding filled
length-filled at [] out holes = refl
length-filled at (plan ∷ coming) out holes =
    let one : length (put_over plan.hole (uleb4_bytes at) out) ≡ length out = length-put_over plan.hole (uleb4_bytes at) out (omega (arith, holes.0, length-uleb4 at)) in
    length-filled (at + plan_len plan) coming (put_over plan.hole (uleb4_bytes at) out) (subst (λ (n : ℕ). AreHoles n coming) (sym one) holes.1) ∙ one

pub filled-more : (at : ℕ) (coming : List Plan) (out more : List ℕ) → AreHoles (length out) coming → filled at coming (out ++ more) ≡ filled at coming out ++ more
unfolding filled
filled-more at [] out more holes = refl
filled-more at (plan ∷ coming) out more holes =
    let fits : plan.hole + length (uleb4_bytes at) ≤ length out = omega (arith, holes.0, length-uleb4 at) in
    let one : length (put_over plan.hole (uleb4_bytes at) out) ≡ length out = length-put_over plan.hole (uleb4_bytes at) out fits in
    ap (filled (at + plan_len plan) coming) (put_over-front plan.hole (uleb4_bytes at) out more fits)
    ∙ filled-more (at + plan_len plan) coming (put_over plan.hole (uleb4_bytes at) out) more (subst (λ (n : ℕ). AreHoles n coming) (sym one) holes.1)

-- plans one after the other
abbrev pub plans_len : List Plan → ℕ
plans_len [] = 0
plans_len (plan ∷ coming) = plan_len plan + plans_len coming

pub filled-append : (at : ℕ) (coming others : List Plan) (out : List ℕ) → filled at (coming ++ others) out ≡ filled (at + plans_len coming) others (filled at coming out)
unfolding filled
filled-append at [] others out = ap (λ (n : ℕ). filled n others out) (omega arith)
filled-append at (plan ∷ coming) others out =
    filled-append (at + plan_len plan) coming others (put_over plan.hole (uleb4_bytes at) out)
    ∙ ap (λ (n : ℕ). filled n others (filled (at + plan_len plan) coming (put_over plan.hole (uleb4_bytes at) out))) (omega arith)

pub following-append : (at : ℕ) (coming others : List Plan) → following at (coming ++ others) ≡ following at coming ++ following (at + plans_len coming) others
unfolding following
following-append at [] others = ap (λ (n : ℕ). following n others) (omega arith)
following-append at (plan ∷ coming) others =
    let t = terminal_of_plan plan in
    let f = forest_of_plan plan in
    let node : List ℕ = node_bytes (at + node_len t f) t f ++ nodes_bytes (at + node_len t f) f in
    ap (λ (l : List ℕ). node ++ l)
    (following-append (at + plan_len plan) coming others
    ∙ ap (λ (n : ℕ). following (at + plan_len plan) coming ++ following n others) (omega arith))
    ∙ sym (append_assoc node (following (at + plan_len plan) coming) (following (at + (plan_len plan + plans_len coming)) others))

-- the plans of a node's children stand for the forest below it
pub record IsStand (coming : List Plan) (below : Forest) (place : ℕ) (out : List ℕ) : Type 0 where
  pub follow : following place coming ≡ nodes_bytes place below
  pub len : plans_len coming ≡ nodes_len below
  pub fill : filled place coming (out ++ open_edges below) ≡ out ++ edges_bytes place below
  pub holes : AreHoles (length (out ++ open_edges below)) coming

stand-none : (place : ℕ) (out : List ℕ) → IsStand [] Bare place out
unfolding filled following
stand-none place out = record { follow = refl; len = refl; fill = refl; holes = tt }

regroup : (out edge : List ℕ) (x : ℕ) (more : List ℕ) → out ++ (edge ++ (x ∷ more)) ≡ (out ++ (edge ++ (x ∷ []))) ++ more
regroup out edge x more =
    ap (λ (l : List ℕ). out ++ l) (sym (append_assoc edge (x ∷ []) more)) ∙ sym (append_assoc out (edge ++ (x ∷ [])) more)

regroup' : (out edge : List ℕ) (x : ℕ) (piece more : List ℕ) → (out ++ (edge ++ (x ∷ []))) ++ (piece ++ more) ≡ (out ++ (edge ++ (x ∷ piece))) ++ more
regroup' out edge x piece more =
    sym (regroup out edge x (piece ++ more))
    ∙ (ap (λ (l : List ℕ). out ++ l) (sym (append_assoc edge (x ∷ piece) more)) ∙ sym (append_assoc out (edge ++ (x ∷ piece)) more))

stand-cons : (plan : Plan) (coming : List Plan) (edge : List ℕ) (next : Forest) (place : ℕ) (out : List ℕ) → plan.hole ≡ length out + length edge + 1 → IsStand coming next (place + plan_len plan) (out ++ (edge ++ (0 ∷ uleb4_bytes place))) → IsStand (plan ∷ coming) (Branch edge (terminal_of_plan plan) (forest_of_plan plan) next) place out
unfolding filled following
stand-cons plan coming edge next place out hole rest = record {
  follow =
      ap (λ (l : List ℕ). (node ++ nodes) ++ l) rest.follow
      ∙ append_assoc node nodes (nodes_bytes (place + plan_len plan) next);
  len = omega (arith, rest.len);
  fill =
      ap (filled (place + plan_len plan) coming)
      (ap (put_over plan.hole (uleb4_bytes place)) (regroup out edge 0 (0 ∷ 0 ∷ 0 ∷ 0 ∷ open_edges next))
      ∙ (put_over-middle (out ++ (edge ++ (0 ∷ []))) (uleb4_bytes place) (0 ∷ 0 ∷ 0 ∷ 0 ∷ []) (open_edges next) plan.hole
      (omega (arith, hole, length-append out (edge ++ (0 ∷ [])), length-append edge (0 ∷ []))) (sym (length-uleb4 place))
      ∙ regroup' out edge 0 (uleb4_bytes place) (open_edges next)))
      ∙ (rest.fill
      ∙ (append_assoc out (edge ++ (0 ∷ uleb4_bytes place)) (edges_bytes (place + plan_len plan) next)
      ∙ ap (λ (l : List ℕ). out ++ l) (append_assoc edge (0 ∷ uleb4_bytes place) (edges_bytes (place + plan_len plan) next))));
  holes = (omega (arith, hole, whole_len, edge_len), AreHoles-more _ _ coming (omega (arith, whole_len, edge_len, filled_len, length-uleb4 place, rest_len)) rest.holes);
}
  where
    node : List ℕ
    node = node_bytes (place + node_len (terminal_of_plan plan) (forest_of_plan plan)) (terminal_of_plan plan) (forest_of_plan plan)

    nodes : List ℕ
    nodes = nodes_bytes (place + node_len (terminal_of_plan plan) (forest_of_plan plan)) (forest_of_plan plan)

    whole_len : length (out ++ (edge ++ (0 ∷ 0 ∷ 0 ∷ 0 ∷ 0 ∷ open_edges next))) ≡ length out + length (edge ++ (0 ∷ 0 ∷ 0 ∷ 0 ∷ 0 ∷ open_edges next))
    whole_len = length-append out (edge ++ (0 ∷ 0 ∷ 0 ∷ 0 ∷ 0 ∷ open_edges next))

    edge_len : length (edge ++ (0 ∷ 0 ∷ 0 ∷ 0 ∷ 0 ∷ open_edges next)) ≡ length edge + (5 + length (open_edges next))
    edge_len = length-append edge (0 ∷ 0 ∷ 0 ∷ 0 ∷ 0 ∷ open_edges next) ∙ omega arith

    filled_len : length (out ++ (edge ++ (0 ∷ uleb4_bytes place))) ≡ length out + (length edge + (1 + length (uleb4_bytes place)))
    filled_len = length-append out (edge ++ (0 ∷ uleb4_bytes place)) ∙ (let e = length-append edge (0 ∷ uleb4_bytes place) in omega (arith, e))

    rest_len : length ((out ++ (edge ++ (0 ∷ uleb4_bytes place))) ++ open_edges next) ≡ length (out ++ (edge ++ (0 ∷ uleb4_bytes place))) + length (open_edges next)
    rest_len = length-append (out ++ (edge ++ (0 ∷ uleb4_bytes place))) (open_edges next)

pub stand : (count at depth : ℕ) (exports : List Export) (place : ℕ) (out : List ℕ) → length exports ≤ count → IsReady depth exports → length out ≡ at → IsStand (planned at depth exports) (grown depth exports) place out
unfolding plans
stand count at depth [] place out few ready is =
    subst (λ (f : Forest). IsStand [] f place out) (sym (grown-none depth)) (stand-none place out)
stand zero at depth (first ∷ exports) place out few ready is = absurd (omega arith)
stand (suc count) at depth (first ∷ exports) place out few ready is =
    let group = same_edge depth first exports in
    let len = shared_len first.name group in
    let edge = drop depth (take len first.name) in
    let plan : Plan = record { exports = first ∷ group; depth = len; hole = at + (len - depth) + 1 } in
    let edge_len : length edge ≡ len - depth = length-drop depth (take len first.name) ∙ ap (λ (n : ℕ). n - depth) (length-take-le len first.name (within depth first exports ready)) in
    let out' : List ℕ = out ++ (edge ++ (0 ∷ uleb4_bytes place)) in
    let out_len : length out' ≡ at + (len - depth) + 5 =
    omega (arith, is, edge_len, length-append out (edge ++ (0 ∷ uleb4_bytes place)), length-append edge (0 ∷ uleb4_bytes place), length-uleb4 place) in
    let rest = stand count (at + (len - depth) + 5) depth (other_edges depth first exports) (place + plan_len plan) out'
    (omega (arith, length-other depth first exports)) (ready_next depth first exports ready) out_len in
    subst (λ (ps : List Plan). IsStand ps (grown depth (first ∷ exports)) place out) (sym (planned-some at depth first exports))
    (subst (λ (f : Forest). IsStand (plan ∷ planned (at + (len - depth) + 5) depth (other_edges depth first exports)) f place out) (sym (grown-some depth first exports ready))
    (stand-cons plan (planned (at + (len - depth) + 5) depth (other_edges depth first exports)) edge (grown depth (other_edges depth first exports)) place out
    (omega (arith, is, edge_len)) rest))

-- what a write through a part of the bytes leaves
pub put_mid-over : (at k : ℕ) (bytes written piece : List ℕ) → written ≡ piece → k ≡ length piece → put_mid at k bytes written ≡ put_over at piece bytes
unfolding put_over
put_mid-over at k bytes written piece is same =
    put_mid-paste at k bytes written piece (length piece) is (sym same) refl
    ∙ (ap (λ (l : List ℕ). (take at bytes ++ l) ++ drop (at + length piece) bytes) (take_all (length piece) piece (omega arith))
    ∙ append_assoc (take at bytes) piece (drop (at + length piece) bytes))
