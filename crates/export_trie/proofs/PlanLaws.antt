-- The forest of exports, a child after the other, and the plans of its nodes.
use Rattle.std.proofs.Common.{◌≡◌, ◌≤◌, ◌<◌, ℕ, zero, suc, ◌+◌, ◌-◌, List, [], ◌∷◌, take, drop, length, refl, sym, ap, ap₂, subst, ◌∙◌, arith, inl, inr, length-drop}
use Rattle.std.specs.Prelude.{nat_eq, sum_by}
use Rattle.std.specs.List.{prefix_len}
use Rattle.std.proofs.lemmas.Bool.{cond-true, cond-false, cases_Bool}
use Rattle.std.proofs.lemmas.List.{take-append-drop}
use Rattle.std.proofs.lemmas.List.Sums.{sum_by-append, sum_by-cons}
use Rattle.export_trie.specs.declared.export.Export.{Export}
use Rattle.export_trie.specs.Writing.{Forest, Bare, Branch, forest, goes_with, same_edge, other_edges, shared_len, own_terminal, going_on}
use Rattle.export_trie.specs.Planning.{IsReady, bytes_of_names, grown, Plan, plans}
use Rattle.export_trie.proofs.GroupLaws.{deeper, within, ready_below, ready_next}

-- how many bytes of names are left
abbrev pub left : ℕ → List Export → ℕ
left depth exports = sum_by (λ (export : Export). length export.name - depth) exports

pub left-deeper : (depth len : ℕ) (exports : List Export) → depth ≤ len → left len exports ≤ left depth exports
left-deeper depth len [] le = omega arith
left-deeper depth len (x ∷ exports) le =
    omega (arith, left-deeper depth len exports le, sum_by-cons (λ (e : Export). length e.name - len) x exports, sum_by-cons (λ (e : Export). length e.name - depth) x exports)

pub left-names : (depth : ℕ) (exports : List Export) → left depth exports ≤ bytes_of_names exports
left-names depth [] = omega arith
left-names depth (x ∷ exports) =
    omega (arith, left-names depth exports, sum_by-cons (λ (e : Export). length e.name - depth) x exports, sum_by-cons (λ (e : Export). length e.name) x exports)

pub left-parts : (depth : ℕ) (first : Export) (exports : List Export) → left depth (first ∷ exports) ≡ (length first.name - depth) + (left depth (same_edge depth first exports) + left depth (other_edges depth first exports))
left-parts depth first exports =
    sum_by-cons (λ (e : Export). length e.name - depth) first exports
    ∙ ap (λ (n : ℕ). (length first.name - depth) + n)
    (ap (left depth) (sym (take-append-drop (prefix_len (goes_with depth first) exports) exports))
    ∙ sum_by-append (λ (e : Export). length e.name - depth) (same_edge depth first exports) (other_edges depth first exports))

pub left-next : (depth : ℕ) (first : Export) (exports : List Export) → IsReady depth (first ∷ exports) → left depth (other_edges depth first exports) < left depth (first ∷ exports)
left-next depth first exports ready = omega (arith, left-parts depth first exports, ready.longer first (inl refl))

pub left-below : (depth : ℕ) (first : Export) (exports : List Export) → IsReady depth (first ∷ exports) → left (shared_len first.name (same_edge depth first exports)) (going_on (shared_len first.name (same_edge depth first exports)) first (same_edge depth first exports)) < left depth (first ∷ exports)
left-below depth first exports ready =
    let len = shared_len first.name (same_edge depth first exports) in
    let group = same_edge depth first exports in
    let more = deeper depth first exports ready in
    let le = within depth first exports ready in
    let parts = left-parts depth first exports in
    let less = left-deeper depth len group (omega (arith, more)) in
    elim (cases_Bool (nat_eq (length first.name) len)) [
      | inl own ↦
          subst (λ (l : List Export). left len l < left depth (first ∷ exports)) (sym (cond-true (nat_eq (length first.name) len) group (first ∷ group) own))
          (omega (arith, parts, less, more, le))
      | inr other ↦
          subst (λ (l : List Export). left len l < left depth (first ∷ exports)) (sym (cond-false (nat_eq (length first.name) len) group (first ∷ group) other))
          (omega (arith, parts, less, more, le, sum_by-cons (λ (e : Export). length e.name - len) first group))
    ]

-- the forest doesn't depend on how much room it is given
forest-none : (n depth : ℕ) → forest n depth [] ≡ Bare
unfolding forest
forest-none zero depth = refl
forest-none (suc n) depth = refl

forest-enough : (n m depth : ℕ) (exports : List Export) → IsReady depth exports → left depth exports ≤ n → left depth exports ≤ m → forest n depth exports ≡ forest m depth exports
unfolding forest
forest-enough n m depth [] ready in_n in_m = forest-none n depth ∙ sym (forest-none m depth)
forest-enough zero m depth (first ∷ exports) ready in_n in_m = absurd (omega (arith, left-next depth first exports ready))
forest-enough (suc n) zero depth (first ∷ exports) ready in_n in_m = absurd (omega (arith, left-next depth first exports ready))
forest-enough (suc n) (suc m) depth (first ∷ exports) ready in_n in_m =
    let len = shared_len first.name (same_edge depth first exports) in
    ap₂ (λ (below next : Forest). Branch (drop depth (take len first.name)) (own_terminal len first) below next)
    (forest-enough n m len (going_on len first (same_edge depth first exports)) (ready_below depth first exports ready)
    (omega (arith, left-below depth first exports ready)) (omega (arith, left-below depth first exports ready)))
    (forest-enough n m depth (other_edges depth first exports) (ready_next depth first exports ready)
    (omega (arith, left-next depth first exports ready)) (omega (arith, left-next depth first exports ready)))

pub grown-none : (depth : ℕ) → grown depth [] ≡ Bare
unfolding grown
grown-none depth = forest-none (bytes_of_names []) depth

pub grown-enough : (n depth : ℕ) (exports : List Export) → IsReady depth exports → left depth exports ≤ n → forest n depth exports ≡ grown depth exports
unfolding grown
grown-enough n depth exports ready enough = forest-enough n (bytes_of_names exports) depth exports ready enough (left-names depth exports)

pub grown-some : (depth : ℕ) (first : Export) (exports : List Export) → IsReady depth (first ∷ exports) → grown depth (first ∷ exports) ≡ Branch (drop depth (take (shared_len first.name (same_edge depth first exports)) first.name)) (own_terminal (shared_len first.name (same_edge depth first exports)) first) (grown (shared_len first.name (same_edge depth first exports)) (going_on (shared_len first.name (same_edge depth first exports)) first (same_edge depth first exports))) (grown depth (other_edges depth first exports))
unfolding grown forest
grown-some depth first exports ready = go (bytes_of_names (first ∷ exports)) (left-names depth (first ∷ exports))
  where
    len : ℕ
    len = shared_len first.name (same_edge depth first exports)

    go : (n : ℕ) → left depth (first ∷ exports) ≤ n → forest n depth (first ∷ exports) ≡ Branch (drop depth (take len first.name)) (own_terminal len first) (grown len (going_on len first (same_edge depth first exports))) (grown depth (other_edges depth first exports))
    go zero enough = absurd (omega (arith, left-next depth first exports ready))
    go (suc n) enough =
        ap₂ (λ (below next : Forest). Branch (drop depth (take len first.name)) (own_terminal len first) below next)
        (grown-enough n len (going_on len first (same_edge depth first exports)) (ready_below depth first exports ready) (omega (arith, left-below depth first exports ready)))
        (grown-enough n depth (other_edges depth first exports) (ready_next depth first exports ready) (omega (arith, left-next depth first exports ready)))

-- nor do the plans
pub length-other : (depth : ℕ) (first : Export) (exports : List Export) → length (other_edges depth first exports) ≤ length exports
length-other depth first exports = omega (arith, length-drop (prefix_len (goes_with depth first) exports) exports)

plans-none : (n at depth : ℕ) → plans n at depth [] ≡ []
unfolding plans
plans-none zero at depth = refl
plans-none (suc n) at depth = refl

plans-enough : (n m at depth : ℕ) (exports : List Export) → length exports ≤ n → length exports ≤ m → plans n at depth exports ≡ plans m at depth exports
unfolding plans
plans-enough n m at depth [] in_n in_m = plans-none n at depth ∙ sym (plans-none m at depth)
plans-enough zero m at depth (first ∷ exports) in_n in_m = absurd (omega arith)
plans-enough (suc n) zero at depth (first ∷ exports) in_n in_m = absurd (omega arith)
plans-enough (suc n) (suc m) at depth (first ∷ exports) in_n in_m =
    let len = shared_len first.name (same_edge depth first exports) in
    ap (λ (l : List Plan). record { exports = first ∷ same_edge depth first exports; depth = len; hole = at + (len - depth) + 1 } ∷ l)
    (plans-enough n m (at + (len - depth) + 5) depth (other_edges depth first exports)
    (omega (arith, length-other depth first exports)) (omega (arith, length-other depth first exports)))

abbrev pub planned : ℕ → ℕ → List Export → List Plan
planned at depth exports = plans (length exports) at depth exports

pub planned-some : (at depth : ℕ) (first : Export) (exports : List Export) → planned at depth (first ∷ exports) ≡ record { exports = first ∷ same_edge depth first exports; depth = shared_len first.name (same_edge depth first exports); hole = at + (shared_len first.name (same_edge depth first exports) - depth) + 1 } ∷ planned (at + (shared_len first.name (same_edge depth first exports) - depth) + 5) depth (other_edges depth first exports)
unfolding plans
planned-some at depth first exports =
    let len = shared_len first.name (same_edge depth first exports) in
    ap (λ (l : List Plan). record { exports = first ∷ same_edge depth first exports; depth = len; hole = at + (len - depth) + 1 } ∷ l)
    (plans-enough (length exports) (length (other_edges depth first exports)) (at + (len - depth) + 5) depth (other_edges depth first exports) (length-other depth first exports) (omega arith))
