-- The exports of an accepted trie can be written again, and their numbers have 64 bits.
use Rattle.std.proofs.Common.{◌≡◌, ◌<◌, ℕ, zero, suc, ◌-◌, ◌^◌, List, [], ◌∷◌, drop, length, get_or, refl, sym, subst, ◌∙◌, arith, inl, inr, Bool, true, false, cond}
use Rattle.std.specs.Prelude.{nat_eq, nat_lt, Option, Some, None, Result, Ok, Err, if◌then◌else◌}
use Rattle.std.specs.List.{All}
use Rattle.std.proofs.lemmas.Bool.{cond-true, cond-false, cases_Bool}
use Rattle.dsc_base.specs.declared.rule.Rule.{Rule}
use Rattle.dsc_base.specs.declared.rule.Rule.TheVariants.{TrieBadNode}
use Rattle.dsc_base.specs.Limits.{name_limit}
use Rattle.export_trie.specs.declared.export.Export.{Export}
use Rattle.export_trie.specs.declared.export.Target.{Target}
use Rattle.export_trie.specs.declared.export.Target.TheVariants.{Offset, Absolute, Reexport}
use Rattle.export_trie.specs.Nodes.{◌>>=◌, Terminal, Child, kind_of, is_reexport, is_resolver, are_bad_flags, value_of, number_in, number_at, text_at, target_at, terminal_at, head_at, edges_at, node_at, terminal_in, terminal_of}
use Rattle.export_trie.specs.Order.{too_many, trie_break}
use Rattle.export_trie.specs.Exports.{tree_exports, by_name, exports_of}
use Rattle.export_trie.specs.Paths.{Member, HasExport}
use Rattle.export_trie.specs.Planning.{HasNumber}
use Rattle.export_trie.specs.Reading.{IsWalked}
use Rattle.export_trie.specs.Writing.{IsWritable}
use Rattle.export_trie.proofs.ExportLaws.{exports_are, order_moves}
use Rattle.export_trie.proofs.KeptLaws.{kept_list, number_at-small}
use Rattle.export_trie.proofs.NodeLaws.{ok-value, bind_ok, guard_ok, pair-parts}
use Rattle.export_trie.proofs.TreeLaws.{accepted_walk, few_exports}

walked : (trie : List ℕ) → trie_break trie ≡ None → IsWalked trie (tree_exports trie (length trie) [] 0)
walked trie none =
    let walk = accepted_walk trie none in
    record { made = walk.made; reached = walk.reached; listed = walk.listed; few = subst (λ (l : List Export). too_many l ≡ false) (sym walk.listed) (few_exports trie walk.reached) }

pub exports_writable : (trie : List ℕ) → trie_break trie ≡ None → IsWritable (exports_of trie)
unfolding exports_of
exports_writable trie none =
    let found = tree_exports trie (length trie) [] 0 in
    kept_list trie found (by_name found) (walked trie none) (order_moves found) (exports_are trie none)

-- ---- numbers that are read

value_fits : (flags value : ℕ) → value < 2 ^ 64 → HasNumber (value_of flags value)
value_fits flags value fits = by_kind (nat_eq (kind_of flags) 2) fits
  where
    by_kind : (b : Bool) → value < 2 ^ 64 → HasNumber (cond b (Absolute value) (Offset value))
    by_kind true small = small
    by_kind false small = small

target_fits : (flags : ℕ) (bytes : List ℕ) (target : Target) (rest : List ℕ) → target_at flags bytes ≡ Ok (target, rest) → HasNumber target
unfolding target_at
target_fits flags bytes target rest read =
    let number = bind_ok (number_at bytes) (λ (n : ℕ × List ℕ). cond (is_reexport flags) (text_at n.1 >>= named n.0) (Ok (value_of flags n.0, n.1))) (target, rest) read in
    let small = number_at-small bytes number.0.0 number.0.1 number.1.0 in
    elim (cases_Bool (is_reexport flags)) [
      | inl renamed ↦
          let text = bind_ok (text_at number.0.1) (named number.0.0) (target, rest) (sym (cond-true (is_reexport flags) (text_at number.0.1 >>= named number.0.0) (Ok (value_of flags number.0.0, number.0.1)) renamed) ∙ number.1.1) in
          let short = guard_ok (nat_lt name_limit (length text.0.0)) TrieBadNode (Ok (Reexport number.0.0 text.0.0, text.0.1)) (target, rest) text.1.1 in
          let e = pair-parts (Reexport number.0.0 text.0.0) target text.0.1 rest (ok-value (Reexport number.0.0 text.0.0, text.0.1) (target, rest) short.1) in
          subst HasNumber e.0 small
      | inr own ↦
          let e = pair-parts (value_of flags number.0.0) target number.0.1 rest
          (ok-value (value_of flags number.0.0, number.0.1) (target, rest) (sym (cond-false (is_reexport flags) (text_at number.0.1 >>= named number.0.0) (Ok (value_of flags number.0.0, number.0.1)) own) ∙ number.1.1)) in
          subst HasNumber e.0 (value_fits flags number.0.0 small)
    ]
  where
    named : ℕ → List ℕ × List ℕ → Result (Target × List ℕ) Rule
    named ordinal t = if nat_lt name_limit (length t.0) then Err TrieBadNode else Ok (Reexport ordinal t.0, t.1)

terminal_fits : (size : ℕ) (bytes : List ℕ) (terminal : Terminal) → terminal_at size bytes ≡ Ok terminal → HasNumber terminal.1
unfolding terminal_at
terminal_fits size bytes terminal read =
    let flags = bind_ok (number_at bytes) _ terminal read in
    let known = guard_ok (are_bad_flags flags.0.0) _ _ terminal flags.1.1 in
    let no_resolver = guard_ok (is_resolver flags.0.0) _ _ terminal known.1 in
    let target = bind_ok (target_at flags.0.0 flags.0.1) _ terminal no_resolver.1 in
    let long = guard_ok (nat_lt size (length bytes - length target.0.1)) _ _ terminal target.1.1 in
    let e : ◌≡◌ {A = Terminal} (flags.0.0, target.0.0) terminal = ok-value (flags.0.0, target.0.0) terminal long.1 in
    subst (λ (t : Terminal). HasNumber t.1) e (target_fits flags.0.0 flags.0.1 target.0.0 target.0.1 target.1.0)

abbrev IfFits : Option Terminal → Type 0
IfFits None = Unit {0}
IfFits (Some terminal) = HasNumber terminal.1

head_fits : (bytes : List ℕ) (terminal : Option Terminal) (rest : List ℕ) → head_at bytes ≡ Ok (terminal, rest) → IfFits terminal
unfolding head_at
head_fits bytes terminal rest read =
    let size = bind_ok (number_at bytes) _ (terminal, rest) read in
    let inside = guard_ok (nat_lt (length size.0.1) size.0.0) _ _ (terminal, rest) size.1.1 in
    elim (cases_Bool (nat_eq size.0.0 0)) [
      | inl none' ↦
          let e = pair-parts None terminal size.0.1 rest (ok-value (None, size.0.1) (terminal, rest) (sym (cond-true (nat_eq size.0.0 0) (Ok (None, size.0.1)) _ none') ∙ inside.1)) in
          subst IfFits e.0 tt
      | inr some' ↦
          let its = bind_ok (terminal_at size.0.0 size.0.1) (λ (t : Terminal). Ok (Some t, drop size.0.0 size.0.1)) (terminal, rest) (sym (cond-false (nat_eq size.0.0 0) (Ok (None, size.0.1)) _ some') ∙ inside.1) in
          let e = pair-parts (Some its.0) terminal (drop size.0.0 size.0.1) rest (ok-value (Some its.0, drop size.0.0 size.0.1) (terminal, rest) its.1.1) in
          subst IfFits e.0 (terminal_fits size.0.0 size.0.1 its.0 its.1.0)
    ]

node_fits : (trie : List ℕ) (offset : ℕ) → IfFits (terminal_of trie offset)
unfolding terminal_of node_at
node_fits trie offset = go (node_at trie offset) refl
  where
    go : (node : Result (Option Terminal × List Child) Rule) → node_at trie offset ≡ node → IfFits (terminal_in node)
    go (Err rule) is = tt
    go (Ok node) is =
        let head = bind_ok (head_at (drop offset trie)) _ node is in
        let edges = bind_ok (edges_at (length trie) head.0.1) _ node head.1.1 in
        subst (λ (n : Option Terminal × List Child). IfFits n.0) (ok-value (head.0.0, edges.0) node edges.1.1)
        (head_fits (drop offset trie) head.0.0 head.0.1 head.1.0)

at_place : (xs : List Export) (k : ℕ) (d : Export) → k < length xs → Member (get_or xs k d) xs
at_place [] k d lt = absurd (omega arith)
at_place (x ∷ xs) zero d lt = inl refl
at_place (x ∷ xs) (suc k) d lt = inr (at_place xs k d (omega arith))

pub exports_numbers : (trie : List ℕ) → trie_break trie ≡ None → All (λ (e : Export). HasNumber e.target) (exports_of trie)
exports_numbers trie none k d lt =
    let e : Export = get_or (exports_of trie) k d in
    let has : HasExport trie (get_or (exports_of trie) k d) = (exports_are trie none).only (get_or (exports_of trie) k d) (at_place (exports_of trie) k d lt) in
    let fits : IfFits (Some (e.flags, e.target)) = subst IfFits has.terminal (node_fits trie has.node) in
    fits
