-- What was written and what is to come make the whole trie.
use Rattle.std.proofs.Common.{◌≡◌, ◌≢◌, ◌≤◌, ◌<◌, ◌⊎◌, ℕ, zero, suc, ◌+◌, ◌-◌, List, [], ◌∷◌, ◌++◌, drop, length, get_or, reverse, refl, sym, ap, ap₂, subst, ◌∙◌, arith, inl, inr, true, false, append_assoc, length-append}
use Rattle.std.specs.Prelude.{nat_eq, Option}
use Rattle.std.specs.declared.cmp.Ordering.TheVariants.{Less}
use Rattle.std.specs.Ordering.{nat_cmp}
use Rattle.std.specs.Cmp.Lexicographic.{slice_cmp, nat_list_cmp_total}
use Rattle.std.proofs.lemmas.Bool.{cond-true, cond-false, cases_Bool, eqb-false}
use Rattle.std.proofs.lemmas.List.{append-nil, reverse-append}
use Rattle.std.proofs.lemmas.List.Sums.{sum_by-cons}
use Rattle.dsc_base.specs.Limits.{name_limit}
use Rattle.dsc_base.specs.Uleb.{uleb4_bytes}
use Rattle.export_trie.specs.declared.export.Export.{Export}
use Rattle.export_trie.specs.declared.export.Target.{Target}
use Rattle.export_trie.specs.declared.export.Target.TheVariants.{Offset, Absolute, Reexport}
use Rattle.export_trie.specs.Nodes.{Terminal}
use Rattle.export_trie.specs.Order.{renamed_len, too_many}
use Rattle.export_trie.specs.Paths.{Member}
use Rattle.export_trie.specs.Writing.{Forest, Bare, Branch, forest, same_edge, other_edges, shared_len, own_terminal, going_on, children_count, edges_len, node_len, nodes_len, edges_bytes, node_bytes, nodes_bytes, rooted_bytes, terminal_bytes, trie_bytes, FitsFlags, IsWritable, IsWritableExport}
use Rattle.export_trie.specs.Planning.{IsReady, Rising, bytes_of_names, grown, Plan, plans, open_edges, open_node, first_terminal, first_forest, first_rest, terminal_of_plan, forest_of_plan, plan_len, AreShort, put_over, filled, following, IsHeld, AreHeld, IsWriting, IsOpenNode, IsNextNode}
use Rattle.export_trie.proofs.GroupLaws.{within, ready_below, ready_next, group-Member, rest-Member}
use Rattle.export_trie.proofs.PlanLaws.{grown-enough, planned, planned-some, length-other, left, left-names}
use Rattle.export_trie.proofs.FillLaws.{length-uleb4, length-put_over, AreHoles, AreHoles-held, length-filled, filled-more, filled-append, following-append, plans_len, IsStand, stand}

length-open_edges : (below : Forest) → length (open_edges below) ≡ edges_len below
length-open_edges Bare = refl
length-open_edges (Branch edge t below next) =
    length-append edge (0 ∷ 0 ∷ 0 ∷ 0 ∷ 0 ∷ open_edges next) ∙ (let e = length-open_edges next in omega (arith, e))

-- an open node is its front and its edges
split_node : (out t edges : List ℕ) (count : ℕ) → out ++ (t ++ (count ∷ edges)) ≡ (out ++ (t ++ (count ∷ []))) ++ edges
split_node out t edges count =
    ap (λ (l : List ℕ). out ++ l) (sym (append_assoc t (count ∷ []) edges)) ∙ sym (append_assoc out (t ++ (count ∷ [])) edges)

-- a node that was planned is written
abbrev EachHeld : List Plan → Type 0
EachHeld [] = Unit {0}
EachHeld (plan ∷ coming) = IsHeld plan.depth plan.exports × EachHeld coming

AreHeld-both : (len : ℕ) (coming : List Plan) → AreHoles len coming → EachHeld coming → AreHeld len coming
AreHeld-both len [] holes held = tt
AreHeld-both len (plan ∷ coming) holes held = (holes.0, held.0, AreHeld-both len coming holes.1 held.1)

AreHeld-append : (len : ℕ) (coming others : List Plan) → AreHeld len coming → AreHeld len others → AreHeld len (coming ++ others)
AreHeld-append len [] others held more = more
AreHeld-append len (plan ∷ coming) others held more = (held.0, held.1, AreHeld-append len coming others held.2 more)

AreHeld-more : (m n : ℕ) (coming : List Plan) → m ≤ n → AreHeld m coming → AreHeld n coming
AreHeld-more m n [] le held = tt
AreHeld-more m n (plan ∷ coming) le held = (omega (arith, held.0), held.1, AreHeld-more m n coming le held.2)

pub group-held : (depth : ℕ) (first : Export) (exports : List Export) → IsReady depth (first ∷ exports) → AreShort (first ∷ exports) → IsHeld (shared_len first.name (same_edge depth first exports)) (first ∷ same_edge depth first exports)
group-held depth first exports ready short = record {
  some = omega arith;
  ready = λ f others is.
      let first_is : first ≡ f = head_is first f group others is in
      let others_is : group ≡ others = ap (λ (l : List Export). drop 1 l) is in (
        subst (λ (l : List Export). IsReady len (going_on len f l)) others_is (subst (λ (e : Export). IsReady len (going_on len e group)) first_is (ready_below depth first exports ready)),
        subst (λ (e : Export). len ≤ length e.name) first_is (within depth first exports ready),
      );
  renamed = each;
}
  where
    group : List Export
    group = same_edge depth first exports

    len : ℕ
    len = shared_len first.name group

    head_is : (a b : Export) (others more : List Export) → a ∷ others ≡ b ∷ more → a ≡ b
    head_is a b others more is = cc

    each : (export : Export) → Member export (first ∷ group) → renamed_len export.target ≤ name_limit
    each export (inl is) = short export (inl is)
    each export (inr member) = short export (inr (group-Member depth first exports export member))

plans-held : (count at depth : ℕ) (exports : List Export) → length exports ≤ count → IsReady depth exports → AreShort exports → EachHeld (planned at depth exports)
unfolding plans
plans-held count at depth [] few ready short = tt
plans-held zero at depth (first ∷ exports) few ready short = absurd (omega arith)
plans-held (suc count) at depth (first ∷ exports) few ready short =
    subst EachHeld (sym (planned-some at depth first exports)) (
      group-held depth first exports ready short,
      plans-held count (at + (shared_len first.name (same_edge depth first exports) - depth) + 5) depth (other_edges depth first exports)
          (omega (arith, length-other depth first exports)) (ready_next depth first exports ready)
          (λ export member. short export (inr (rest-Member depth first exports export member))),
    )

-- the children of a node that was written
pub record IsNodeStand (depth : ℕ) (exports : List Export) (out out' : List ℕ) (children : List Plan) : Type 0 where
  pub len : length out' ≡ length out + node_len (first_terminal depth exports) (first_forest depth exports)
  pub fill : filled (length out') children out' ≡ out ++ node_bytes (length out') (first_terminal depth exports) (first_forest depth exports)
  pub follow : following (length out') children ≡ nodes_bytes (length out') (first_forest depth exports)
  pub span : plans_len children ≡ nodes_len (first_forest depth exports)
  pub held : AreHeld (length out') children

pub first_held : (depth : ℕ) (exports : List Export) → IsHeld depth exports → IsReady depth (first_rest depth exports) × (first_forest depth exports ≡ grown depth (first_rest depth exports))
first_held depth [] held = absurd (omega (arith, held.some))
first_held depth (first ∷ exports) held = ((held.ready first exports refl).0, refl)

pub short_rest : (depth : ℕ) (exports : List Export) → IsHeld depth exports → AreShort (first_rest depth exports)
short_rest depth [] held export member = absurd member
short_rest depth (first ∷ exports) held export member =
    elim (cases_Bool (nat_eq (length first.name) depth)) [
      | inl own ↦
          held.renamed export (inr (subst (λ (l : List Export). Member export l) (cond-true (nat_eq (length first.name) depth) exports (first ∷ exports) own) member))
      | inr other ↦
          held.renamed export (subst (λ (l : List Export). Member export l) (cond-false (nat_eq (length first.name) depth) exports (first ∷ exports) other) member)
    ]

node-stand : (depth : ℕ) (exports : List Export) (out out' : List ℕ) → IsHeld depth exports → out' ≡ out ++ open_node (first_terminal depth exports) (first_forest depth exports) → IsNodeStand depth exports out out' (planned (length out + length (terminal_bytes (first_terminal depth exports)) + 1) depth (first_rest depth exports))
node-stand depth exports out out' held is = record {
  len = out_len;
  fill =
      ap (filled (length out') children) out_is
      ∙ (ap (λ (f : Forest). filled (length out') children (base ++ open_edges f)) below.1
      ∙ (stands.fill
      ∙ (ap (λ (f : Forest). base ++ edges_bytes (length out') f) (sym below.1)
      ∙ sym (split_node out (terminal_bytes t) (edges_bytes (length out') f) (children_count f)))));
  follow = stands.follow ∙ ap (nodes_bytes (length out')) (sym below.1);
  span = stands.len ∙ ap nodes_len (sym below.1);
  held = AreHeld-both (length out') children holes (plans-held (length rest) (length out + length (terminal_bytes t) + 1) depth rest (omega arith) below.0 (short_rest depth exports held));
}
  where
    t : Option Terminal
    t = first_terminal depth exports

    f : Forest
    f = first_forest depth exports

    rest : List Export
    rest = first_rest depth exports

    children : List Plan
    children = planned (length out + length (terminal_bytes t) + 1) depth rest

    base : List ℕ
    base = out ++ (terminal_bytes t ++ (children_count f ∷ []))

    below : IsReady depth rest × (f ≡ grown depth rest)
    below = first_held depth exports held

    out_is : out' ≡ base ++ open_edges f
    out_is = is ∙ split_node out (terminal_bytes t) (open_edges f) (children_count f)

    base_len : length base ≡ length out + length (terminal_bytes t) + 1
    base_len = omega (arith, length-append out (terminal_bytes t ++ (children_count f ∷ [])), length-append (terminal_bytes t) (children_count f ∷ []))

    out_len : length out' ≡ length out + node_len t f
    out_len = omega (arith, ap length out_is, length-append base (open_edges f), base_len, length-open_edges f)

    stands : IsStand children (grown depth rest) (length out') base
    stands = stand (length rest) (length out + length (terminal_bytes t) + 1) depth rest (length out') base (omega arith) below.0 base_len

    holes : AreHoles (length out') children
    holes = subst (λ (l : List ℕ). AreHoles (length l) children) (ap (λ (g : Forest). base ++ open_edges g) (sym below.1) ∙ sym out_is) stands.holes

pub writing_more : (whole out out1 out2 : List ℕ) (plan : Plan) (coming coming' : List Plan) → IsWriting whole out (plan ∷ coming) → out1 ≡ put_over plan.hole (uleb4_bytes (length out)) out → IsOpenNode plan.depth plan.exports out1 out2 coming coming' → IsWriting whole out2 coming'
unfolding filled following
writing_more whole out out1 out2 plan coming coming' writing filled_in node = record {
  is =
      ap (λ (ps : List Plan). filled (length out2) ps out2 ++ following (length out2) ps) node.planned
      ∙ (ap₂ (λ (a b : List ℕ). a ++ b)
      (filled-append (length out2) children coming out2
      ∙ (ap₂ (λ (n : ℕ) (l : List ℕ). filled n coming l) next_at stands.fill
      ∙ filled-more (length out + plan_len plan) coming out1 (node_bytes (length out2) t f) holes1))
      (following-append (length out2) children coming
      ∙ ap₂ (λ (a : List ℕ) (n : ℕ). a ++ following n coming) stands.follow next_at)
      ∙ (regroup (filled (length out + plan_len plan) coming out1) (node_bytes (length out2) t f) (nodes_bytes (length out2) f) (following (length out + plan_len plan) coming)
      ∙ (ap₂ (λ (o : List ℕ) (n : ℕ). filled (length out + plan_len plan) coming o ++ ((node_bytes n t f ++ nodes_bytes n f) ++ following (length out + plan_len plan) coming)) filled_in here_at
      ∙ writing.is)));
  held =
      subst (λ (ps : List Plan). AreHeld (length out2) ps) (sym node.planned)
      (AreHeld-append (length out2) children coming stands.held (AreHeld-more (length out) (length out2) coming (omega (arith, out1_len, stands.len)) writing.held.2));
}
  where
    t : Option Terminal
    t = terminal_of_plan plan

    f : Forest
    f = forest_of_plan plan

    children : List Plan
    children = planned (length out1 + length (terminal_bytes t) + 1) plan.depth (first_rest plan.depth plan.exports)

    stands : IsNodeStand plan.depth plan.exports out1 out2 children
    stands = node-stand plan.depth plan.exports out1 out2 writing.held.1 node.spelled

    out1_len : length out1 ≡ length out
    out1_len = ap length filled_in ∙ length-put_over plan.hole (uleb4_bytes (length out)) out (omega (arith, writing.held.0, length-uleb4 (length out)))

    holes1 : AreHoles (length out1) coming
    holes1 = subst (λ (n : ℕ). AreHoles n coming) (sym out1_len) (AreHoles-held (length out) coming writing.held.2)

    here_at : length out2 ≡ length out + node_len t f
    here_at = omega (arith, stands.len, out1_len)

    next_at : length out2 + plans_len children ≡ length out + plan_len plan
    next_at = omega (arith, here_at, stands.span)

    regroup : (a n b c : List ℕ) → (a ++ n) ++ (b ++ c) ≡ a ++ ((n ++ b) ++ c)
    regroup a n b c = append_assoc a n (b ++ c) ∙ ap (λ (l : List ℕ). a ++ l) (sym (append_assoc n b c))

-- the forest below the first node has room enough
pub root-grown : (first : Export) (exports : List Export) → IsReady 0 (going_on 0 first exports) → forest (bytes_of_names (first ∷ exports)) 0 (going_on 0 first exports) ≡ grown 0 (going_on 0 first exports)
root-grown first exports ready = grown-enough (bytes_of_names (first ∷ exports)) 0 (going_on 0 first exports) ready (room (cases_Bool (nat_eq (length first.name) 0)))
  where
    room : (nat_eq (length first.name) 0 ≡ true) ⊎ (nat_eq (length first.name) 0 ≡ false) → left 0 (going_on 0 first exports) ≤ bytes_of_names (first ∷ exports)
    room (inl own) =
        subst (λ (l : List Export). left 0 l ≤ bytes_of_names (first ∷ exports)) (sym (cond-true (nat_eq (length first.name) 0) exports (first ∷ exports) own))
        (omega (arith, left-names 0 exports, sum_by-cons (λ (e : Export). length e.name) first exports))
    room (inr other) =
        subst (λ (l : List Export). left 0 l ≤ bytes_of_names (first ∷ exports)) (sym (cond-false (nat_eq (length first.name) 0) exports (first ∷ exports) other))
        (left-names 0 (first ∷ exports))

-- the first node, and the end
pub writing_first : (first : Export) (exports : List Export) (out : List ℕ) (coming : List Plan) → IsHeld 0 (first ∷ exports) → IsOpenNode 0 (first ∷ exports) [] out [] coming → IsWriting (trie_bytes (first ∷ exports)) out coming
unfolding filled following trie_bytes
writing_first first exports out coming held node = record {
  is =
      ap (λ (ps : List Plan). filled (length out) ps out ++ following (length out) ps) children_is
      ∙ (ap₂ (λ (a b : List ℕ). a ++ b) stands.fill stands.follow
      ∙ (ap (λ (n : ℕ). node_bytes n t f ++ nodes_bytes n f) (let e : length out ≡ node_len t f = omega (arith, stands.len) in e)
      ∙ ap (λ (g : Forest). rooted_bytes t g) (sym forest_is)));
  held = subst (λ (ps : List Plan). AreHeld (length out) ps) (sym children_is) stands.held;
}
  where
    t : Option Terminal
    t = own_terminal 0 first

    f : Forest
    f = grown 0 (going_on 0 first exports)

    children : List Plan
    children = planned (length {A = ℕ} [] + length (terminal_bytes t) + 1) 0 (going_on 0 first exports)

    children_is : coming ≡ children
    children_is = node.planned ∙ append-nil children

    stands : IsNodeStand 0 (first ∷ exports) [] out children
    stands = node-stand 0 (first ∷ exports) [] out held node.spelled

    forest_is : forest (bytes_of_names (first ∷ exports)) 0 (going_on 0 first exports) ≡ f
    forest_is = root-grown first exports (held.ready first exports refl).0

pub writing_all : (whole out : List ℕ) → IsWriting whole out [] → out ≡ whole
unfolding filled following
writing_all whole out writing = sym (append-nil out) ∙ writing.is

pub writing_within : (whole out : List ℕ) (coming : List Plan) → IsWriting whole out coming → length out ≤ length whole
writing_within whole out coming writing =
    omega (arith, ap length writing.is, length-append (filled (length out) coming out) (following (length out) coming), length-filled (length out) coming out (AreHoles-held (length out) coming writing.held))

-- what can be written is ready
nonempty : (a b : List ℕ) → slice_cmp nat_cmp a b ≡ Less → 0 < length b
nonempty [] [] less = absurd (cc)
nonempty (x ∷ a) [] less = absurd (cc)
nonempty a (y ∷ b) less = omega arith

abbrev Rises : List Export → Type 0
Rises exports = (k : ℕ) (d : Export) → k + 1 < length exports → slice_cmp nat_cmp (get_or exports k d).name (get_or exports (k + 1) d).name ≡ Less

rises-rest : (first : Export) (exports : List Export) → Rises (first ∷ exports) → Rises exports
rises-rest first exports rises k d inside =
    ap (λ (n : ℕ). slice_cmp nat_cmp (get_or exports k d).name (get_or (first ∷ exports) n d).name) (let e : suc (k + 1) ≡ suc k + 1 = omega arith in e)
    ∙ rises (suc k) d (omega arith)

pub rising_from : (exports : List Export) → Rises exports → Rising exports
rising_from [] rises = tt
rising_from (first ∷ []) rises = (λ export member. absurd member, tt)
rising_from (first ∷ second ∷ exports) rises = (each (rising_from (second ∷ exports) (rises-rest first (second ∷ exports) rises)), rising_from (second ∷ exports) (rises-rest first (second ∷ exports) rises))
  where
    step : slice_cmp nat_cmp first.name second.name ≡ Less
    step = rises 0 first (omega arith)

    each : Rising (second ∷ exports) → (export : Export) → Member export (second ∷ exports) → slice_cmp nat_cmp first.name export.name ≡ Less
    each rising export (inl is) = subst (λ (e : Export). slice_cmp nat_cmp first.name e.name ≡ Less) (sym is) step
    each rising export (inr member) = nat_list_cmp_total.trans first.name second.name export.name step (rising.0 export member)

pub renamed-short : (export : Export) → IsWritableExport export → renamed_len export.target ≤ name_limit
renamed-short export writable = go export.target writable.fits
  where
    go : (target : Target) → FitsFlags export.flags target → renamed_len target ≤ name_limit
    go (Offset value) fits = omega arith
    go (Absolute value) fits = omega arith
    go (Reexport ordinal name) fits = fits.2

pub writable-held : (first : Export) (exports : List Export) → IsWritable (first ∷ exports) → IsHeld 0 (first ∷ exports)
writable-held first exports writable = record {
  some = omega arith;
  ready = λ f others is.
      (subst (λ (l : List Export). IsReady 0 (first_rest 0 l)) is (ready (cases_Bool (nat_eq (length first.name) 0))), omega arith);
  renamed = λ export member. renamed-short export (writable.each export member);
}
  where
    rising : Rising (first ∷ exports)
    rising = rising_from (first ∷ exports) writable.rises

    ready : (nat_eq (length first.name) 0 ≡ true) ⊎ (nat_eq (length first.name) 0 ≡ false) → IsReady 0 (going_on 0 first exports)
    ready (inl own) =
        subst (λ (l : List Export). IsReady 0 l) (sym (cond-true (nat_eq (length first.name) 0) exports (first ∷ exports) own))
        (record {
          front = [];
          begins = λ e member. refl;
          longer = λ e member. nonempty first.name e.name (rising.0 e member);
          plain = λ e member. (writable.each e (inr member)).plain;
          rising = rising.1;
        })
    ready (inr other) =
        subst (λ (l : List Export). IsReady 0 l) (sym (cond-false (nat_eq (length first.name) 0) exports (first ∷ exports) other))
        (record {
          front = [];
          begins = λ e member. refl;
          longer = λ e member. long (eqb-false (length first.name) 0 other) e member;
          plain = λ e member. (writable.each e member).plain;
          rising = rising;
        })
      where
        long : length first.name ≢ 0 → (e : Export) → Member e (first ∷ exports) → 0 < length e.name
        long some e (inl is) = subst (λ (x : Export). 0 < length x.name) (sym is) (omega (arith, some))
        long some e (inr member) = nonempty first.name e.name (rising.0 e member)

-- the same for the calls
pub written_none : (exports : List Export) → length exports ≡ 0 → [] ≡ trie_bytes exports
unfolding trie_bytes
written_none [] none = refl
written_none (first ∷ exports) none = absurd (omega arith)

pub all_held : (exports : List Export) → 0 < length exports → IsWritable exports → IsHeld 0 exports
all_held [] some writable = absurd (omega arith)
all_held (first ∷ exports) some writable = writable-held first exports writable

pub first_written : (exports : List Export) (before out : List ℕ) (old coming : List Plan) → IsHeld 0 exports → before ≡ [] → old ≡ [] → IsOpenNode 0 exports before out (reverse old) coming → IsWriting (trie_bytes exports) out coming
first_written [] before out old coming held none none' node = absurd (omega (arith, held.some))
first_written (first ∷ exports) before out old coming held none none' node =
    writing_first first exports out coming held
    (subst (λ (l : List ℕ). IsOpenNode 0 (first ∷ exports) l out [] coming) none
    (subst (λ (l : List Plan). IsOpenNode 0 (first ∷ exports) before out (reverse l) coming) none' node))

pub popped_plan : (pending popped : List Plan) (plan : Plan) → pending ≡ popped ++ plan ∷ [] → reverse pending ≡ plan ∷ reverse popped
popped_plan pending popped plan is = ap reverse is ∙ reverse-append popped (plan ∷ [])

pub next_written : (whole out out' : List ℕ) (plan : Plan) (coming coming' : List Plan) → IsWriting whole out (plan ∷ coming) → IsNextNode plan out out' coming coming' → IsWriting whole out' coming'
next_written whole out out' plan coming coming' writing next = writing_more whole out next.middle out' plan coming coming' writing next.filled_in next.node

pub next_longer : (whole out out' : List ℕ) (plan : Plan) (coming coming' : List Plan) → IsWriting whole out (plan ∷ coming) → IsNextNode plan out out' coming coming' → length out < length out'
next_longer whole out out' plan coming coming' writing next =
    let stands = node-stand plan.depth plan.exports next.middle out' writing.held.1 next.node.spelled in
    let same : length next.middle ≡ length out =
    ap length next.filled_in ∙ length-put_over plan.hole (uleb4_bytes (length out)) out (omega (arith, writing.held.0, length-uleb4 (length out))) in
    omega (arith, stands.len, same)

-- one export that can be written
pub writable_one : (export : Export) → IsWritableExport export → too_many (export ∷ []) ≡ false → IsWritable (export ∷ [])
writable_one export writable few = record {
  rises = λ k d inside. absurd (omega arith);
  each = λ e member. one e member;
  few = few;
}
  where
    one : (e : Export) → Member e (export ∷ []) → IsWritableExport e
    one e (inl is) = subst IsWritableExport (sym is) writable
    one e (inr none) = absurd none
