-- The forest of exports has these exports, and can be spelled.
use Rattle.std.proofs.Common.{◌≡◌, ◌≤◌, ◌<◌, ◌⊎◌, ℕ, zero, suc, ◌+◌, ◌-◌, List, [], ◌∷◌, ◌++◌, take, drop, length, get_or, refl, sym, ap, ap₂, subst, ◌∙◌, arith, inl, inr, true, false, append_assoc, length-drop}
use Rattle.std.specs.Prelude.{nat_eq, Option, Some, None}
use Rattle.std.specs.List.{prefix_len}
use Rattle.std.proofs.lemmas.Bool.{cond-true, cond-false, cases_Bool, eqb-true}
use Rattle.std.proofs.lemmas.List.{take-append-drop, take_all, length-take-le, get_or-drop, get_or-take}
use Rattle.export_trie.specs.declared.export.Export.{Export}
use Rattle.export_trie.specs.Nodes.{Terminal, first_of}
use Rattle.export_trie.specs.Order.{export_of}
use Rattle.export_trie.specs.Paths.{Member}
use Rattle.export_trie.specs.Writing.{Forest, Bare, Branch, goes_with, same_edge, other_edges, shared_len, own_terminal, going_on, HasNoZero, IsWritableExport}
use Rattle.export_trie.specs.Planning.{IsReady, grown, HasNumber}
use Rattle.export_trie.proofs.GroupLaws.{deeper, within, group-front, ready_below, ready_next, rest-Member}
use Rattle.export_trie.proofs.PlanLaws.{grown-none, grown-some, left, left-next, left-below}
use Rattle.export_trie.proofs.EdgeLaws.{later-byte, no_zero}
use Rattle.export_trie.proofs.SizeLaws.{known-flags, going_on-Member}
use Rattle.export_trie.proofs.SpellLaws.{IsSpellable, IsSound}

-- the exports of a forest, by the names that lead to its nodes
abbrev pub listing : List ℕ → Forest → List Export
listing name Bare = []
listing name (Branch edge terminal below next) = export_of (name ++ edge) terminal ++ (listing (name ++ edge) below ++ listing name next)

take-take-less : (m n : ℕ) (l : List ℕ) → m ≤ n → take m (take n l) ≡ take m l
take-take-less zero n l le = refl
take-take-less (suc m) zero l le = absurd (omega arith)
take-take-less (suc m) (suc n) [] le = refl
take-take-less (suc m) (suc n) (x ∷ l) le = ap (λ (r : List ℕ). x ∷ r) (take-take-less m n l (omega arith))

pub name-edge : (depth len : ℕ) (name : List ℕ) → depth ≤ len → take depth name ++ drop depth (take len name) ≡ take len name
name-edge depth len name le =
    ap (λ (l : List ℕ). l ++ drop depth (take len name)) (sym (take-take-less depth len name le)) ∙ take-append-drop depth (take len name)

going_on-front : (depth : ℕ) (first : Export) (exports : List Export) (ready : IsReady depth (first ∷ exports)) (e : Export) → Member e (going_on (shared_len first.name (same_edge depth first exports)) first (same_edge depth first exports)) → take (shared_len first.name (same_edge depth first exports)) e.name ≡ take (shared_len first.name (same_edge depth first exports)) first.name
going_on-front depth first exports ready e member = go (cases_Bool (nat_eq (length first.name) len))
  where
    group : List Export
    group = same_edge depth first exports

    len : ℕ
    len = shared_len first.name group

    both : Member e (first ∷ group) → take len e.name ≡ take len first.name
    both (inl is) = ap (λ (x : Export). take len x.name) is
    both (inr later) = group-front depth first exports ready e later

    go : (nat_eq (length first.name) len ≡ true) ⊎ (nat_eq (length first.name) len ≡ false) → take len e.name ≡ take len first.name
    go (inl own) = group-front depth first exports ready e (subst (λ (l : List Export). Member e l) (cond-true (nat_eq (length first.name) len) group (first ∷ group) own) member)
    go (inr other) = both (subst (λ (l : List Export). Member e l) (cond-false (nat_eq (length first.name) len) group (first ∷ group) other) member)

-- the first export is the node's own, or goes on
pub own_first : (len : ℕ) (first : Export) (group : List Export) → len ≤ length first.name → export_of (take len first.name) (own_terminal len first) ++ going_on len first group ≡ first ∷ group
own_first len first group fits = go (cases_Bool (nat_eq (length first.name) len))
  where
    go : (nat_eq (length first.name) len ≡ true) ⊎ (nat_eq (length first.name) len ≡ false) → export_of (take len first.name) (own_terminal len first) ++ going_on len first group ≡ first ∷ group
    go (inl own) =
        ap₂ (λ (t : Option Terminal) (l : List Export). export_of (take len first.name) t ++ l)
        (cond-true (nat_eq (length first.name) len) (Some (first.flags, first.target)) None own)
        (cond-true (nat_eq (length first.name) len) group (first ∷ group) own)
        ∙ ap (λ (l : List ℕ). let e : Export = record { name = l; flags = first.flags; target = first.target } in e ∷ group)
        (take_all len first.name (let e = eqb-true (length first.name) len own in omega (arith, e)))
    go (inr other) =
        ap₂ (λ (t : Option Terminal) (l : List Export). export_of (take len first.name) t ++ l)
        (cond-false (nat_eq (length first.name) len) (Some (first.flags, first.target)) None other)
        (cond-false (nat_eq (length first.name) len) group (first ∷ group) other)

pub listing-grown : (n depth : ℕ) (name : List ℕ) (exports : List Export) → IsReady depth exports → ((e : Export) → Member e exports → take depth e.name ≡ name) → left depth exports ≤ n → listing name (grown depth exports) ≡ exports
listing-grown n depth name [] ready begins enough = ap (listing name) (grown-none depth)
listing-grown zero depth name (first ∷ exports) ready begins enough = absurd (omega (arith, left-next depth first exports ready))
listing-grown (suc n) depth name (first ∷ exports) ready begins enough =
    let group = same_edge depth first exports in
    let len = shared_len first.name group in
    let below = listing-grown n len (take len first.name) (going_on len first group) (ready_below depth first exports ready) (going_on-front depth first exports ready) (omega (arith, enough, left-below depth first exports ready)) in
    let next = listing-grown n depth name (other_edges depth first exports) (ready_next depth first exports ready) (λ e member. begins e (inr (rest-Member depth first exports e member))) (omega (arith, enough, left-next depth first exports ready)) in
    listing_step depth name first exports ready (begins first (inl refl)) below next
  where
    listing_step : (depth : ℕ) (name : List ℕ) (first : Export) (exports : List Export) → IsReady depth (first ∷ exports) → take depth first.name ≡ name → listing (take (shared_len first.name (same_edge depth first exports)) first.name) (grown (shared_len first.name (same_edge depth first exports)) (going_on (shared_len first.name (same_edge depth first exports)) first (same_edge depth first exports))) ≡ going_on (shared_len first.name (same_edge depth first exports)) first (same_edge depth first exports) → listing name (grown depth (other_edges depth first exports)) ≡ other_edges depth first exports → listing name (grown depth (first ∷ exports)) ≡ first ∷ exports
    listing_step depth name first exports ready begins below next =
        let group = same_edge depth first exports in
        let len = shared_len first.name group in
        let rest = other_edges depth first exports in
        let edge = drop depth (take len first.name) in
        let f = grown len (going_on len first group) in
        let node : name ++ edge ≡ take len first.name = ap (λ (l : List ℕ). l ++ edge) (sym begins) ∙ name-edge depth len first.name (let e = deeper depth first exports ready in omega (arith, e)) in
        let parts : group ++ rest ≡ exports = take-append-drop (prefix_len (goes_with depth first) exports) exports in
        let own_list : export_of (take len first.name) (own_terminal len first) ++ going_on len first group ≡ first ∷ group = own_first len first group (within depth first exports ready) in
        ap (listing name) (grown-some depth first exports ready)
        ∙ (ap (λ (l : List ℕ). export_of l (own_terminal len first) ++ (listing l f ++ listing name (grown depth rest))) node
        ∙ (ap₂ (λ (a b : List Export). export_of (take len first.name) (own_terminal len first) ++ (a ++ b)) below next
        ∙ (sym (append_assoc (export_of (take len first.name) (own_terminal len first)) (going_on len first group) rest)
        ∙ (ap (λ (l : List Export). l ++ rest) own_list ∙ ap (λ (l : List Export). first ∷ l) parts))))

-- bytes without 0
HasNoZero-take : (k : ℕ) (name : List ℕ) → HasNoZero name → HasNoZero (take k name)
HasNoZero-take zero [] plain = tt
HasNoZero-take zero (x ∷ name) plain = tt
HasNoZero-take (suc k) [] plain = tt
HasNoZero-take (suc k) (x ∷ name) plain = (plain.0, HasNoZero-take k name plain.1)

HasNoZero-drop : (k : ℕ) (name : List ℕ) → HasNoZero name → HasNoZero (drop k name)
HasNoZero-drop zero name plain = plain
HasNoZero-drop (suc k) [] plain = tt
HasNoZero-drop (suc k) (x ∷ name) plain = HasNoZero-drop k name plain.1

-- an export that can be spelled
pub record IsSpelledExport (export : Export) : Type 0 where
  pub writable : IsWritableExport export
  pub number : HasNumber export.target

pub own-spellable : (len : ℕ) (first : Export) → IsSpelledExport first → IsSpellable (own_terminal len first)
own-spellable len first its = go (cases_Bool (nat_eq (length first.name) len))
  where
    go : (nat_eq (length first.name) len ≡ true) ⊎ (nat_eq (length first.name) len ≡ false) → IsSpellable (own_terminal len first)
    go (inl own) =
        subst IsSpellable (sym (cond-true (nat_eq (length first.name) len) (Some (first.flags, first.target)) None own))
        (its.writable.known, its.writable.no_resolver, known-flags first.flags its.writable.known, its.writable.fits, its.number)
    go (inr other) = subst IsSpellable (sym (cond-false (nat_eq (length first.name) len) (Some (first.flags, first.target)) None other)) tt

pub sound-grown : (n low depth : ℕ) (exports : List Export) → IsReady depth exports → ((e : Export) → Member e exports → IsSpelledExport e) → ((e : Export) → Member e exports → low < get_or e.name depth 0) → left depth exports ≤ n → IsSound low depth (grown depth exports)
sound-grown n low depth [] ready each above enough = subst (IsSound low depth) (sym (grown-none depth)) tt
sound-grown zero low depth (first ∷ exports) ready each above enough = absurd (omega (arith, left-next depth first exports ready))
sound-grown (suc n) low depth (first ∷ exports) ready each above enough =
    let group = same_edge depth first exports in
    let len = shared_len first.name group in
    let edge = drop depth (take len first.name) in
    let more = deeper depth first exports ready in
    let fits = within depth first exports ready in
    let edge_len : length edge ≡ len - depth = length-drop depth (take len first.name) ∙ ap (λ (k : ℕ). k - depth) (length-take-le len first.name fits) in
    let byte : first_of edge ≡ get_or first.name depth 0 =
    get_or-drop depth (take len first.name) 0 0 ∙ (ap (λ (k : ℕ). get_or (take len first.name) k 0) (omega arith) ∙ get_or-take len first.name depth 0 more) in
    let its = each first (inl refl) in
    let deep : depth + length edge ≡ len = omega (arith, edge_len, more) in
    let inner = ready_below depth first exports ready in
    let below = sound-grown n 0 len (going_on len first group) inner (λ e member. each e (going_on-Member depth first exports e member))
    (λ e member. no_zero e.name len (inner.plain e member) (inner.longer e member)) (omega (arith, enough, left-below depth first exports ready)) in
    let next = sound-grown n (get_or first.name depth 0) depth (other_edges depth first exports) (ready_next depth first exports ready) (λ e member. each e (inr (rest-Member depth first exports e member)))
    (later-byte depth first exports ready) (omega (arith, enough, left-next depth first exports ready)) in
    subst (IsSound low depth) (sym (grown-some depth first exports ready))
    (omega (arith, edge_len, more), omega (arith, byte, above first (inl refl)), HasNoZero-drop depth (take len first.name) (HasNoZero-take len first.name (ready.plain first (inl refl))), own-spellable len first its, omega (arith, deep, fits, its.writable.short), subst (λ (k : ℕ). IsSound 0 k (grown len (going_on len first group))) (sym deep) below, subst (λ (k : ℕ). IsSound k depth (grown depth (other_edges depth first exports))) (sym byte) next)
