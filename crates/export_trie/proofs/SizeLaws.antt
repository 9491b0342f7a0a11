-- How long a trie can be.
use Rattle.std.proofs.Common.{◌≡◌, ◌≢◌, ◌≤◌, ◌<◌, ◌⊎◌, ℕ, zero, suc, ◌+◌, ◌-◌, ◌*◌, ◌^◌, List, [], ◌∷◌, ◌++◌, take, drop, length, get_or, refl, sym, ap, ap₂, subst, ◌∙◌, arith, inl, inr, true, false, length-append, length-drop}
use Rattle.std.specs.Prelude.{nat_eq, nat_le, nat_lt, Option, Some, None, sum_by}
use Rattle.std.specs.List.{prefix_len}
use Rattle.std.proofs.Math.Seq.{take-suc}
use Rattle.std.proofs.lemmas.Bool.{cond-true, cond-false, cases_Bool, cases_lt, eqb-true, eqb-false, leb-false, ltb-false, or_parts}
use Rattle.std.proofs.lemmas.List.{length-take-le, take_all, take-append-drop}
use Rattle.std.proofs.lemmas.List.Sums.{sum_by-append, sum_by-cons}
use Rattle.dsc_base.specs.Uleb.{uleb_bytes, uleb4_bytes}
use Rattle.dsc_base.proofs.UlebLaws.{length-uleb_bytes, length-uleb_bytes_ten, uleb_bytes-one}
use Rattle.dsc_base.specs.Limits.{name_limit, record_limit, export_names_limit}
use Rattle.export_trie.specs.declared.export.Export.{Export}
use Rattle.export_trie.specs.declared.export.Target.{Target}
use Rattle.export_trie.specs.declared.export.Target.TheVariants.{Offset, Absolute, Reexport}
use Rattle.export_trie.specs.Nodes.{Terminal, are_bad_flags}
use Rattle.export_trie.specs.Order.{renamed_len, names_len, too_many}
use Rattle.export_trie.specs.Paths.{Member}
use Rattle.export_trie.specs.Writing.{Forest, Bare, Branch, forest, goes_with, same_edge, other_edges, shared_len, own_terminal, going_on, children_count, edges_len, node_len, nodes_len, edges_bytes, node_bytes, nodes_bytes, rooted_bytes, terminal_bytes, target_bytes, trie_bytes, IsWritable, IsWritableExport}
use Rattle.export_trie.specs.Planning.{IsReady, bytes_of_names, grown}
use Rattle.export_trie.proofs.PrefixLaws.{common, common-least}
use Rattle.export_trie.proofs.GroupLaws.{deeper, within, group-front, group-longer, ready_below, ready_next, group-Member, rest-Member, prefix-passes, shared-least}
use Rattle.export_trie.proofs.PlanLaws.{grown-none, grown-some, grown-enough, left, left-deeper, left-names, left-parts, left-next, left-below}
use Rattle.export_trie.proofs.FillLaws.{length-uleb4}
use Rattle.export_trie.proofs.WriteLaws.{writable-held, renamed-short}

-- lengths of what is spelled
length-edges : (at : ℕ) (below : Forest) → length (edges_bytes at below) ≡ edges_len below
length-edges at Bare = refl
length-edges at (Branch edge t below next) =
    let rest = edges_bytes (at + (node_len t below + nodes_len below)) next in
    let e = length-edges (at + (node_len t below + nodes_len below)) next in
    omega (arith, e, length-append edge (0 ∷ (uleb4_bytes at ++ rest)), length-append (uleb4_bytes at) rest, length-uleb4 at)

pub length-node : (at : ℕ) (t : Option Terminal) (below : Forest) → length (node_bytes at t below) ≡ node_len t below
length-node at t below = omega (arith, length-append (terminal_bytes t) (children_count below ∷ edges_bytes at below), length-edges at below)

pub length-nodes : (at : ℕ) (below : Forest) → length (nodes_bytes at below) ≡ nodes_len below
length-nodes at Bare = refl
length-nodes at (Branch edge t below next) =
    let node = node_bytes (at + node_len t below) t below in
    let first = nodes_bytes (at + node_len t below) below in
    let rest = nodes_bytes (at + (node_len t below + nodes_len below)) next in
    omega (arith, length-append node (first ++ rest), length-append first rest, length-node (at + node_len t below) t below, length-nodes (at + node_len t below) below, length-nodes (at + (node_len t below + nodes_len below)) next)

pub length-rooted : (t : Option Terminal) (below : Forest) → length (rooted_bytes t below) ≡ node_len t below + nodes_len below
length-rooted t below =
    omega (arith, length-append (node_bytes (node_len t below) t below) (nodes_bytes (node_len t below) below), length-node (node_len t below) t below, length-nodes (node_len t below) below)

-- a terminal has no more than 15 bytes besides a name
pub record IsLight (export : Export) : Type 0 where
  pub flags : export.flags < 32
  pub renamed : renamed_len export.target ≤ name_limit

pub known-flags : (flags : ℕ) → are_bad_flags flags ≡ false → flags < 32
known-flags flags known = leb-false 32 flags (or_parts (nat_le 32 flags) _ known).0

pub light : (export : Export) → IsWritableExport export → IsLight export
light export writable = record { flags = known-flags export.flags writable.known; renamed = renamed-short export writable }

length-target : (target : Target) → length (target_bytes target) ≤ 11 + renamed_len target
unfolding target_bytes
length-target (Offset value) = omega (arith, length-uleb_bytes_ten value)
length-target (Absolute value) = omega (arith, length-uleb_bytes_ten value)
length-target (Reexport ordinal name) =
    omega (arith, length-append (uleb_bytes ordinal) (name ++ 0 ∷ []), length-append name (0 ∷ []), length-uleb_bytes_ten ordinal)

length-terminal : (flags : ℕ) (target : Target) → flags < 32 → renamed_len target ≤ name_limit → length (terminal_bytes (Some (flags, target))) ≤ 15 + renamed_len target
unfolding terminal_bytes
length-terminal flags target few short =
    let body = uleb_bytes flags ++ target_bytes target in
    let one : length (uleb_bytes flags) ≡ 1 = ap length (uleb_bytes-one flags (omega arith)) in
    let all = length-append (uleb_bytes flags) (target_bytes target) in
    let target_len = length-target target in
    omega (arith, length-append (uleb_bytes (length body)) body, one, all, target_len, length-uleb_bytes 2 (length body) (omega (arith, one, all, target_len)))

length-no_terminal : length (terminal_bytes None) ≡ 1
unfolding terminal_bytes
length-no_terminal = refl

-- a node without a terminal has two children or more
some_child : (depth : ℕ) (exports : List Export) → IsReady depth exports → 0 < length exports → 1 ≤ children_count (grown depth exports)
some_child depth [] ready some = absurd (omega arith)
some_child depth (first ∷ exports) ready some = omega (arith, ap children_count (grown-some depth first exports ready))

two_children : (depth : ℕ) (first : Export) (exports : List Export) → (ready : IsReady depth (first ∷ exports)) → length first.name ≢ shared_len first.name (same_edge depth first exports) → (next : IsReady (shared_len first.name (same_edge depth first exports)) (first ∷ same_edge depth first exports)) → 2 ≤ children_count (grown (shared_len first.name (same_edge depth first exports)) (first ∷ same_edge depth first exports))
two_children depth first exports ready other next =
    elim (cases_lt 0 (length (other_edges len first group))) [
      | inl some ↦
          omega (arith, ap children_count (grown-some len first group next), some_child len (other_edges len first group) (ready_next len first group next) some)
      | inr none ↦
          absurd (omega (arith, shared-least (suc len) first.name group (omega (arith, within depth first exports ready, other)) (each none)))
    ]
  where
    group : List Export
    group = same_edge depth first exports

    len : ℕ
    len = shared_len first.name group

    each : length (other_edges len first group) ≤ 0 → (x : Export) → Member x group → suc len ≤ common first.name x.name
    each none x member =
        let past : length group ≤ prefix_len (goes_with len first) group = omega (arith, none, length-drop (prefix_len (goes_with len first) group) group) in
        let passes = prefix-passes (goes_with len first) x group (subst (λ (l : List Export). Member x l) (sym (take_all (prefix_len (goes_with len first) group) group past)) member) in
        let byte = eqb-true (get_or x.name len 0) (get_or first.name len 0) passes in
        let inside : len < length first.name = omega (arith, within depth first exports ready, other) in
        let longer = group-longer depth first exports ready x member in
        common-least (suc len) first.name x.name inside longer
        (take-suc first.name len 0 inside
        ∙ (ap₂ (λ (l : List ℕ) (b : ℕ). l ++ b ∷ []) (sym (group-front depth first exports ready x member)) (sym byte)
        ∙ sym (take-suc x.name len 0 longer)))

-- what the nodes below one take
abbrev renamed_all : List Export → ℕ
renamed_all exports = sum_by (λ (export : Export). renamed_len export.target) exports

abbrev total_len : Forest → ℕ
total_len f = edges_len f + nodes_len f

renamed-parts : (depth : ℕ) (first : Export) (exports : List Export) → renamed_all (first ∷ exports) ≡ renamed_len first.target + (renamed_all (same_edge depth first exports) + renamed_all (other_edges depth first exports))
renamed-parts depth first exports =
    sum_by-cons (λ (e : Export). renamed_len e.target) first exports
    ∙ ap (λ (n : ℕ). renamed_len first.target + n)
    (ap renamed_all (sym (take-append-drop (prefix_len (goes_with depth first) exports) exports))
    ∙ sum_by-append (λ (e : Export). renamed_len e.target) (same_edge depth first exports) (other_edges depth first exports))

length-parts : (depth : ℕ) (first : Export) (exports : List Export) → length (same_edge depth first exports) + length (other_edges depth first exports) ≡ length exports
length-parts depth first exports =
    sym (length-append (same_edge depth first exports) (other_edges depth first exports))
    ∙ ap length (take-append-drop (prefix_len (goes_with depth first) exports) exports)

pub going_on-Member : (depth : ℕ) (first : Export) (exports : List Export) (e : Export) → Member e (going_on (shared_len first.name (same_edge depth first exports)) first (same_edge depth first exports)) → Member e (first ∷ exports)
going_on-Member depth first exports e member = go (cases_Bool (nat_eq (length first.name) len))
  where
    group : List Export
    group = same_edge depth first exports

    len : ℕ
    len = shared_len first.name group

    both : Member e (first ∷ group) → Member e (first ∷ exports)
    both (inl is) = inl is
    both (inr later) = inr (group-Member depth first exports e later)

    go : (nat_eq (length first.name) len ≡ true) ⊎ (nat_eq (length first.name) len ≡ false) → Member e (first ∷ exports)
    go (inl own) = inr (group-Member depth first exports e (subst (λ (l : List Export). Member e l) (cond-true (nat_eq (length first.name) len) group (first ∷ group) own) member))
    go (inr other) = both (subst (λ (l : List Export). Member e l) (cond-false (nat_eq (length first.name) len) group (first ∷ group) other) member)

abbrev Takes : ℕ → List Export → Type 0
Takes depth exports = total_len (grown depth exports) + 7 * children_count (grown depth exports) ≤ left depth exports + renamed_all exports + 28 * length exports

sizes_step : (depth : ℕ) (first : Export) (exports : List Export) → IsReady depth (first ∷ exports) → ((e : Export) → Member e (first ∷ exports) → IsLight e) → Takes (shared_len first.name (same_edge depth first exports)) (going_on (shared_len first.name (same_edge depth first exports)) first (same_edge depth first exports)) → Takes depth (other_edges depth first exports) → Takes depth (first ∷ exports)
sizes_step depth first exports ready light below next = go (cases_Bool (nat_eq (length first.name) len))
  where
    group : List Export
    group = same_edge depth first exports

    len : ℕ
    len = shared_len first.name group

    edge : List ℕ
    edge = drop depth (take len first.name)

    f : Forest
    f = grown len (going_on len first group)

    g : Forest
    g = grown depth (other_edges depth first exports)

    edge_len : length edge ≡ len - depth
    edge_len = length-drop depth (take len first.name) ∙ ap (λ (n : ℕ). n - depth) (length-take-le len first.name (within depth first exports ready))

    more : depth < len
    more = deeper depth first exports ready

    fits : len ≤ length first.name
    fits = within depth first exports ready

    total_is : total_len (grown depth (first ∷ exports)) ≡ length edge + 5 + edges_len g + (length (terminal_bytes (own_terminal len first)) + 1 + edges_len f + nodes_len f + nodes_len g)
    total_is = ap total_len (grown-some depth first exports ready)

    count_is : children_count (grown depth (first ∷ exports)) ≡ 1 + children_count g
    count_is = ap children_count (grown-some depth first exports ready)

    go : (nat_eq (length first.name) len ≡ true) ⊎ (nat_eq (length first.name) len ≡ false) → Takes depth (first ∷ exports)
    go (inl own) =
        let list : going_on len first group ≡ group = cond-true (nat_eq (length first.name) len) group (first ∷ group) own in
        let own_is : own_terminal len first ≡ Some (first.flags, first.target) = cond-true (nat_eq (length first.name) len) (Some (first.flags, first.target)) None own in
        let its = light first (inl refl) in
        let t : length (terminal_bytes (own_terminal len first)) ≤ 15 + renamed_len first.target =
        subst (λ (o : Option Terminal). length (terminal_bytes o) ≤ 15 + renamed_len first.target) (sym own_is) (length-terminal first.flags first.target its.flags its.renamed) in
        let same = eqb-true (length first.name) len own in
        let below' : total_len f + 7 * children_count f ≤ left len group + renamed_all group + 28 * length group =
        subst (λ (l : List Export). total_len f + 7 * children_count f ≤ left len l + renamed_all l + 28 * length l) list below in
        omega (arith, total_is, count_is, t, same, below', next, edge_len, more, fits, left-parts depth first exports, renamed-parts depth first exports, length-parts depth first exports, left-deeper depth len group (omega (arith, more)))
    go (inr other) =
        let list : going_on len first group ≡ first ∷ group = cond-false (nat_eq (length first.name) len) group (first ∷ group) other in
        let own_is : own_terminal len first ≡ None = cond-false (nat_eq (length first.name) len) (Some (first.flags, first.target)) None other in
        let t : length (terminal_bytes (own_terminal len first)) ≡ 1 = ap (λ (o : Option Terminal). length (terminal_bytes o)) own_is ∙ length-no_terminal in
        let differs = eqb-false (length first.name) len other in
        let two : 2 ≤ children_count f =
        subst (λ (l : List Export). 2 ≤ children_count (grown len l)) (sym list)
        (two_children depth first exports ready differs (subst (λ (l : List Export). IsReady len l) list (ready_below depth first exports ready))) in
        let below' : total_len f + 7 * children_count f ≤ left len (first ∷ group) + renamed_all (first ∷ group) + 28 * length (first ∷ group) =
        subst (λ (l : List Export). total_len f + 7 * children_count f ≤ left len l + renamed_all l + 28 * length l) list below in
        let len_parts : left len (first ∷ group) ≡ (length first.name - len) + left len group = sum_by-cons (λ (e : Export). length e.name - len) first group in
        let renamed : renamed_all (first ∷ group) ≡ renamed_len first.target + renamed_all group = sum_by-cons (λ (e : Export). renamed_len e.target) first group in
        omega (arith, total_is, count_is, t, two, below', next, len_parts, renamed, edge_len, more, fits, left-parts depth first exports, renamed-parts depth first exports, length-parts depth first exports, left-deeper depth len group (omega (arith, more)))

sizes : (n depth : ℕ) (exports : List Export) → IsReady depth exports → ((e : Export) → Member e exports → IsLight e) → left depth exports ≤ n → total_len (grown depth exports) + 7 * children_count (grown depth exports) ≤ left depth exports + renamed_all exports + 28 * length exports
sizes n depth [] ready light enough = omega (arith, ap total_len (grown-none depth), ap children_count (grown-none depth))
sizes zero depth (first ∷ exports) ready light enough = absurd (omega (arith, left-next depth first exports ready))
sizes (suc n) depth (first ∷ exports) ready light enough =
    let group = same_edge depth first exports in
    let len = shared_len first.name group in
    let below = sizes n len (going_on len first group) (ready_below depth first exports ready)
    (λ e member. light e (going_on-Member depth first exports e member)) (omega (arith, enough, left-below depth first exports ready)) in
    let next = sizes n depth (other_edges depth first exports) (ready_next depth first exports ready)
    (λ e member. light e (inr (rest-Member depth first exports e member))) (omega (arith, enough, left-next depth first exports ready)) in
    sizes_step depth first exports ready light below next

-- so a trie of what can be written is below 2 to the 28
names_all : (exports : List Export) → sum_by names_len exports ≡ bytes_of_names exports + renamed_all exports
names_all [] = omega arith
names_all (e ∷ exports) =
    omega (arith, names_all exports, sum_by-cons names_len e exports, sum_by-cons (λ (x : Export). length x.name) e exports, sum_by-cons (λ (x : Export). renamed_len x.target) e exports)

limits : (exports : List Export) → too_many exports ≡ false → (length exports ≤ record_limit) × (sum_by names_len exports ≤ export_names_limit)
unfolding too_many
limits exports few =
    let parts = or_parts (nat_lt record_limit (length exports)) (nat_lt export_names_limit (sum_by names_len exports)) few in
    (ltb-false record_limit (length exports) parts.0, ltb-false export_names_limit (sum_by names_len exports) parts.1)

pub trie_small : (exports : List Export) → IsWritable exports → length (trie_bytes exports) < 2 ^ 28
unfolding trie_bytes
trie_small [] writable = omega arith
trie_small (first ∷ exports) writable =
    let held = writable-held first exports writable in
    let ready = (held.ready first exports refl).0 in
    go (cases_Bool (nat_eq (length first.name) 0)) ready
  where
    few : (length (first ∷ exports) ≤ record_limit) × (sum_by names_len (first ∷ exports) ≤ export_names_limit)
    few = limits (first ∷ exports) writable.few

    all : sum_by names_len (first ∷ exports) ≡ bytes_of_names (first ∷ exports) + renamed_all (first ∷ exports)
    all = names_all (first ∷ exports)

    each : (e : Export) → Member e (first ∷ exports) → IsLight e
    each e member = light e (writable.each e member)

    bytes : ℕ
    bytes = bytes_of_names (first ∷ exports)

    names : bytes_of_names (first ∷ exports) ≡ length first.name + bytes_of_names exports
    names = sum_by-cons (λ (x : Export). length x.name) first exports

    renamed : renamed_all (first ∷ exports) ≡ renamed_len first.target + renamed_all exports
    renamed = sum_by-cons (λ (x : Export). renamed_len x.target) first exports

    go : (nat_eq (length first.name) 0 ≡ true) ⊎ (nat_eq (length first.name) 0 ≡ false) → IsReady 0 (going_on 0 first exports) → length (rooted_bytes (own_terminal 0 first) (forest (bytes_of_names (first ∷ exports)) 0 (going_on 0 first exports))) < 2 ^ 28
    go (inl own) ready =
        let list : going_on 0 first exports ≡ exports = cond-true (nat_eq (length first.name) 0) exports (first ∷ exports) own in
        let own_is : own_terminal 0 first ≡ Some (first.flags, first.target) = cond-true (nat_eq (length first.name) 0) (Some (first.flags, first.target)) None own in
        let its = each first (inl refl) in
        let ready' : IsReady 0 exports = subst (λ (l : List Export). IsReady 0 l) list ready in
        let size = sizes (left 0 exports) 0 exports ready' (λ e member. each e (inr member)) (omega arith) in
        let forest_is : forest bytes 0 (going_on 0 first exports) ≡ grown 0 exports =
        ap (forest bytes 0) list ∙ grown-enough bytes 0 exports ready' (omega (arith, left-names 0 exports, names)) in
        let whole : length (rooted_bytes (own_terminal 0 first) (forest bytes 0 (going_on 0 first exports))) ≡ node_len (Some (first.flags, first.target)) (grown 0 exports) + nodes_len (grown 0 exports) =
        ap₂ (λ (t : Option Terminal) (f : Forest). length (rooted_bytes t f)) own_is forest_is ∙ length-rooted (Some (first.flags, first.target)) (grown 0 exports) in
        omega (arith, whole, size, length-terminal first.flags first.target its.flags its.renamed, left-names 0 exports, names, renamed, all, few.0, few.1)
    go (inr other) ready =
        let list : going_on 0 first exports ≡ first ∷ exports = cond-false (nat_eq (length first.name) 0) exports (first ∷ exports) other in
        let own_is : own_terminal 0 first ≡ None = cond-false (nat_eq (length first.name) 0) (Some (first.flags, first.target)) None other in
        let ready' : IsReady 0 (first ∷ exports) = subst (λ (l : List Export). IsReady 0 l) list ready in
        let size = sizes (left 0 (first ∷ exports)) 0 (first ∷ exports) ready' each (omega arith) in
        let forest_is : forest bytes 0 (going_on 0 first exports) ≡ grown 0 (first ∷ exports) =
        ap (forest bytes 0) list ∙ grown-enough bytes 0 (first ∷ exports) ready' (left-names 0 (first ∷ exports)) in
        let whole : length (rooted_bytes (own_terminal 0 first) (forest bytes 0 (going_on 0 first exports))) ≡ node_len None (grown 0 (first ∷ exports)) + nodes_len (grown 0 (first ∷ exports)) =
        ap₂ (λ (t : Option Terminal) (f : Forest). length (rooted_bytes t f)) own_is forest_is ∙ length-rooted None (grown 0 (first ∷ exports)) in
        omega (arith, whole, size, length-no_terminal, left-names 0 (first ∷ exports), all, few.0, few.1)
