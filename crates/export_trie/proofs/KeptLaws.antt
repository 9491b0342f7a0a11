-- What was read can be written again.
use Rattle.std.proofs.Common.{◌≡◌, ◌≤◌, ◌<◌, ℕ, zero, suc, ◌-◌, ◌^◌, List, [], ◌∷◌, ◌++◌, drop, length, refl, sym, subst, ◌∙◌, arith, inl, inr, false, cond}
use Rattle.std.specs.Prelude.{nat_eq, nat_lt, Option, Some, None, Result, Ok, Err, sum_by, if◌then◌else◌}
use Rattle.std.specs.List.Sorted.{IsPermutation}
use Rattle.std.proofs.lemmas.Bool.{cond-true, cond-false, cases_Bool, eqb-false, ltb-false, le-ltb, or_parts, or_from}
use Rattle.std.proofs.lemmas.List.Sorted.{sum_by-IsPermutation, length_permutation, IsPermutation-sym}
use Rattle.dsc_base.specs.declared.fault.UlebFault.{UlebFault}
use Rattle.dsc_base.specs.declared.rule.Rule.{Rule}
use Rattle.dsc_base.specs.declared.rule.Rule.TheVariants.{TrieBadNode}
use Rattle.dsc_base.specs.Uleb.{uleb_at}
use Rattle.dsc_base.proofs.UlebLaws.{uleb_at-fits}
use Rattle.dsc_base.specs.Limits.{name_limit, record_limit, export_names_limit}
use Rattle.export_trie.specs.declared.export.Export.{Export}
use Rattle.export_trie.specs.declared.export.Target.{Target}
use Rattle.export_trie.specs.declared.export.Target.TheVariants.{Offset, Absolute, Reexport}
use Rattle.export_trie.specs.Nodes.{◌>>=◌, Terminal, Child, among, first_of, kind_of, is_reexport, is_resolver, are_bad_flags, value_of, number_in, number_at, text_at, target_at, terminal_at, head_at, child_at, children_at, edges_at, node_at, terminal_of, terminal_in, children_of, children_in}
use Rattle.export_trie.specs.Order.{Visit, visited, names_len, too_many, entered}
use Rattle.export_trie.specs.Paths.{Member, Spells, Root, Edge, AreExports}
use Rattle.export_trie.specs.Reading.{Reaches, Start, Next, IsWalked}
use Rattle.export_trie.specs.Writing.{HasNoZero, FitsFlags, IsWritable, IsWritableExport}
use Rattle.export_trie.specs.Planning.{HasNumber}
use Rattle.export_trie.proofs.NodeLaws.{ok-value, bind_ok, guard_ok, pair-parts, child_at-parts, IsChild}
use Rattle.export_trie.proofs.PathLaws.{spelled}
use Rattle.export_trie.proofs.ListLaws.{exported-Member, Member-permutation}

-- texts have no 0, and numbers 64 bits
text_at-plain : (bytes : List ℕ) (text rest : List ℕ) → text_at bytes ≡ Ok (text, rest) → HasNoZero text
unfolding text_at
text_at-plain [] text rest read = absurd (cc)
text_at-plain (byte ∷ bytes) text rest read =
    elim (cases_Bool (nat_eq byte 0)) [
      | inl none' ↦
          let e = pair-parts [] text bytes rest (ok-value ([], bytes) (text, rest) (sym (cond-true (nat_eq byte 0) (Ok ([], bytes)) (text_at bytes >>= more) none') ∙ read)) in
          subst HasNoZero e.0 tt
      | inr some' ↦
          let later = bind_ok (text_at bytes) more (text, rest) (sym (cond-false (nat_eq byte 0) (Ok ([], bytes)) (text_at bytes >>= more) some') ∙ read) in
          let e = pair-parts (byte ∷ later.0.0) text later.0.1 rest (ok-value (byte ∷ later.0.0, later.0.1) (text, rest) later.1.1) in
          subst HasNoZero e.0 (let ne = eqb-false byte 0 some' in omega (arith, ne), text_at-plain bytes later.0.0 later.0.1 later.1.0)
    ]
  where
    more : List ℕ × List ℕ → Result (List ℕ × List ℕ) Rule
    more t = Ok (byte ∷ t.0, t.1)

pub number_at-small : (bytes : List ℕ) (value : ℕ) (rest : List ℕ) → number_at bytes ≡ Ok (value, rest) → value < 2 ^ 64
unfolding number_at
number_at-small bytes value rest read = go (uleb_at bytes 0) refl read
  where
    go : (r : Result (ℕ × ℕ) UlebFault) → uleb_at bytes 0 ≡ r → number_in bytes r ≡ Ok (value, rest) → value < 2 ^ 64
    go (Err fault) is read = absurd (cc)
    go (Ok p) is read =
        let e = pair-parts p.0 value (drop p.1 bytes) rest (ok-value (p.0, drop p.1 bytes) (value, rest) read) in
        omega (arith, e.0, uleb_at-fits bytes 0 p.0 p.1 is)

-- terminals
pub record IsKeptTerminal (flags : ℕ) (target : Target) : Type 0 where
  pub known : are_bad_flags flags ≡ false
  pub no_resolver : is_resolver flags ≡ false
  pub fits : FitsFlags flags target
  pub number : HasNumber target

target_at-kept : (flags : ℕ) (bytes : List ℕ) (target : Target) (rest : List ℕ) → target_at flags bytes ≡ Ok (target, rest) → FitsFlags flags target × HasNumber target
unfolding target_at
target_at-kept flags bytes target rest read =
    let number = bind_ok (number_at bytes) (λ (n : ℕ × List ℕ). cond (is_reexport flags) (text_at n.1 >>= named n.0) (Ok (value_of flags n.0, n.1))) (target, rest) read in
    let small = number_at-small bytes number.0.0 number.0.1 number.1.0 in
    elim (cases_Bool (is_reexport flags)) [
      | inl renamed ↦
          let text = bind_ok (text_at number.0.1) (named number.0.0) (target, rest) (sym (cond-true (is_reexport flags) (text_at number.0.1 >>= named number.0.0) (Ok (value_of flags number.0.0, number.0.1)) renamed) ∙ number.1.1) in
          let short = guard_ok (nat_lt name_limit (length text.0.0)) TrieBadNode (Ok (Reexport number.0.0 text.0.0, text.0.1)) (target, rest) text.1.1 in
          let e = pair-parts (Reexport number.0.0 text.0.0) target text.0.1 rest (ok-value (Reexport number.0.0 text.0.0, text.0.1) (target, rest) short.1) in
          subst (λ (t : Target). FitsFlags flags t × HasNumber t) e.0
          ((renamed, text_at-plain number.0.1 text.0.0 text.0.1 text.1.0, ltb-false name_limit (length text.0.0) short.0), small)
      | inr own ↦
          let e = pair-parts (value_of flags number.0.0) target number.0.1 rest
          (ok-value (value_of flags number.0.0, number.0.1) (target, rest) (sym (cond-false (is_reexport flags) (text_at number.0.1 >>= named number.0.0) (Ok (value_of flags number.0.0, number.0.1)) own) ∙ number.1.1)) in
          subst (λ (t : Target). FitsFlags flags t × HasNumber t) e.0 (kind number.0.0 own small)
    ]
  where
    named : ℕ → List ℕ × List ℕ → Result (Target × List ℕ) Rule
    named ordinal t = if nat_lt name_limit (length t.0) then Err TrieBadNode else Ok (Reexport ordinal t.0, t.1)

    kind : (value : ℕ) → is_reexport flags ≡ false → value < 2 ^ 64 → FitsFlags flags (value_of flags value) × HasNumber (value_of flags value)
    kind value own small =
        elim (cases_Bool (nat_eq (kind_of flags) 2)) [
          | inl absolute ↦
              subst (λ (t : Target). FitsFlags flags t × HasNumber t) (sym (cond-true (nat_eq (kind_of flags) 2) (Absolute value) (Offset value) absolute)) ((own, absolute), small)
          | inr other ↦
              subst (λ (t : Target). FitsFlags flags t × HasNumber t) (sym (cond-false (nat_eq (kind_of flags) 2) (Absolute value) (Offset value) other)) ((own, other), small)
        ]

terminal_at-kept : (size : ℕ) (bytes : List ℕ) (terminal : Terminal) → terminal_at size bytes ≡ Ok terminal → IsKeptTerminal terminal.0 terminal.1
unfolding terminal_at
terminal_at-kept size bytes terminal read =
    let flags = bind_ok (number_at bytes) _ terminal read in
    let known = guard_ok (are_bad_flags flags.0.0) _ _ terminal flags.1.1 in
    let no_resolver = guard_ok (is_resolver flags.0.0) _ _ terminal known.1 in
    let target = bind_ok (target_at flags.0.0 flags.0.1) _ terminal no_resolver.1 in
    let long = guard_ok (nat_lt size (length bytes - length target.0.1)) _ _ terminal target.1.1 in
    let e : ◌≡◌ {A = Terminal} (flags.0.0, target.0.0) terminal = ok-value (flags.0.0, target.0.0) terminal long.1 in
    let kept = target_at-kept flags.0.0 flags.0.1 target.0.0 target.0.1 target.1.0 in
    subst (λ (t : Terminal). IsKeptTerminal t.0 t.1) e
    (record { known = known.0; no_resolver = no_resolver.0; fits = kept.0; number = kept.1 })

abbrev IfKept : Option Terminal → Type 0
IfKept None = Unit {0}
IfKept (Some terminal) = IsKeptTerminal terminal.0 terminal.1

head_at-kept : (bytes : List ℕ) (terminal : Option Terminal) (rest : List ℕ) → head_at bytes ≡ Ok (terminal, rest) → IfKept terminal
unfolding head_at
head_at-kept bytes terminal rest read =
    let size = bind_ok (number_at bytes) _ (terminal, rest) read in
    let inside = guard_ok (nat_lt (length size.0.1) size.0.0) _ _ (terminal, rest) size.1.1 in
    elim (cases_Bool (nat_eq size.0.0 0)) [
      | inl none' ↦
          let e = pair-parts None terminal size.0.1 rest (ok-value (None, size.0.1) (terminal, rest) (sym (cond-true (nat_eq size.0.0 0) (Ok (None, size.0.1)) _ none') ∙ inside.1)) in
          subst IfKept e.0 tt
      | inr some' ↦
          let its = bind_ok (terminal_at size.0.0 size.0.1) (λ (t : Terminal). Ok (Some t, drop size.0.0 size.0.1)) (terminal, rest) (sym (cond-false (nat_eq size.0.0 0) (Ok (None, size.0.1)) _ some') ∙ inside.1) in
          let e = pair-parts (Some its.0) terminal (drop size.0.0 size.0.1) rest (ok-value (Some its.0, drop size.0.0 size.0.1) (terminal, rest) its.1.1) in
          subst IfKept e.0 (terminal_at-kept size.0.0 size.0.1 its.0 its.1.0)
    ]

terminal_of-kept : (trie : List ℕ) (offset : ℕ) → IfKept (terminal_of trie offset)
unfolding terminal_of node_at
terminal_of-kept trie offset = go (node_at trie offset) refl
  where
    go : (node : Result (Option Terminal × List Child) Rule) → node_at trie offset ≡ node → IfKept (terminal_in node)
    go (Err rule) is = tt
    go (Ok node) is =
        let head = bind_ok (head_at (drop offset trie)) _ node is in
        let edges = bind_ok (edges_at (length trie) head.0.1) _ node head.1.1 in
        subst (λ (n : Option Terminal × List Child). IfKept n.0) (ok-value (head.0.0, edges.0) node edges.1.1)
        (head_at-kept (drop offset trie) head.0.0 head.0.1 head.1.0)

-- names
HasNoZero-append : (a b : List ℕ) → HasNoZero a → HasNoZero b → HasNoZero (a ++ b)
HasNoZero-append [] b plain more = more
HasNoZero-append (x ∷ a) b plain more = (plain.0, HasNoZero-append a b plain.1 more)

abbrev ArePlain : List Child → Type 0
ArePlain children = (child : Child) → Member child children → HasNoZero child.0

children_at-plain : (total count : ℕ) (firsts bytes : List ℕ) (children : List Child) → children_at total count firsts bytes ≡ Ok children → ArePlain children
unfolding children_at
children_at-plain total zero firsts bytes children read child member =
    absurd (let none : Member child [] = subst (λ (l : List Child). Member child l) (sym (ok-value [] children read)) member in none)
children_at-plain total (suc count) firsts bytes children read child member =
    let first = bind_ok (child_at total firsts bytes) _ children read in
    let others = bind_ok (children_at total count (first_of first.0.0.0 ∷ firsts) first.0.1) _ children first.1.1 in
    go first.0.0 others.0 (child_at-parts total firsts bytes first.0.0 first.0.1 first.1.0)
    (λ c m. children_at-plain total count (first_of first.0.0.0 ∷ firsts) first.0.1 others.0 others.1.0 c m)
    (subst (λ (l : List Child). Member child l) (sym (ok-value (first.0.0 ∷ others.0) children others.1.1)) member)
  where
    go : {rest : List ℕ} (first : Child) (others : List Child) → IsChild total firsts bytes first rest → ArePlain others → Member child (first ∷ others) → HasNoZero child.0
    go first others its plain (inl is) = subst (λ (c : Child). HasNoZero c.0) (sym is) (text_at-plain bytes first.0 its.between its.edge)
    go first others its plain (inr later) = plain child later

children_of-plain : (trie : List ℕ) (offset : ℕ) → ArePlain (children_of trie offset)
unfolding children_of node_at edges_at
children_of-plain trie offset = go (node_at trie offset) refl
  where
    edges-plain : (bytes : List ℕ) (children : List Child) → edges_at (length trie) bytes ≡ Ok children → ArePlain children
    edges-plain [] children read = absurd (cc)
    edges-plain (count ∷ bytes) children read = children_at-plain (length trie) count [] bytes children read

    go : (node : Result (Option Terminal × List Child) Rule) → node_at trie offset ≡ node → ArePlain (children_in node)
    go (Err rule) is child member = absurd member
    go (Ok node) is child member =
        let head = bind_ok (head_at (drop offset trie)) _ node is in
        let edges = bind_ok (edges_at (length trie) head.0.1) _ node head.1.1 in
        subst (λ (n : Option Terminal × List Child). ArePlain n.1) (ok-value (head.0.0, edges.0) node edges.1.1)
        (edges-plain head.0.1 edges.0 edges.1.0)
        child member

Spells-plain : (trie : List ℕ) {name : List ℕ} {offset : ℕ} → Spells trie name offset → HasNoZero name
Spells-plain trie Root = tt
Spells-plain trie (Edge {name = name} {offset = offset} edge end path member) =
    HasNoZero-append name edge (Spells-plain trie path) (children_of-plain trie offset (edge, end) member)

entered-short : (trie : List ℕ) (made : List Visit) (visit : Visit) (children : List Child) → entered trie made visit ≡ Ok children → length visit.0 ≤ name_limit
unfolding entered
entered-short trie made visit children ok =
    let new = guard_ok (among visit.1 (visited made)) _ _ children ok in
    let short = guard_ok (nat_lt name_limit (length visit.0)) _ _ children new.1 in
    ltb-false name_limit (length visit.0) short.0

visits-short : (trie : List ℕ) {made coming : List Visit} → Reaches trie made coming → (visit : Visit) → Member visit made → length visit.0 ≤ name_limit
visits-short trie Start visit member = absurd member
visits-short trie (Next {made = made} {visit = here} {coming = rest} children before ok) visit (inl is) =
    subst (λ (v : Visit). length v.0 ≤ name_limit) (sym is) (entered-short trie made here children ok)
visits-short trie (Next {made = made} {visit = here} {coming = rest} children before ok) visit (inr member) = visits-short trie before visit member

-- the limits don't depend on the order
few-moved : (xs ys : List Export) → IsPermutation xs ys → too_many xs ≡ false → too_many ys ≡ false
unfolding too_many
few-moved xs ys moved few =
    let parts = or_parts (nat_lt record_limit (length xs)) (nat_lt export_names_limit (sum_by names_len xs)) few in
    or_from (nat_lt record_limit (length ys)) (nat_lt export_names_limit (sum_by names_len ys))
    (le-ltb record_limit (length ys) (omega (arith, ltb-false record_limit (length xs) parts.0, length_permutation xs ys moved)))
    (le-ltb export_names_limit (sum_by names_len ys) (omega (arith, ltb-false export_names_limit (sum_by names_len xs) parts.1, sum_by-IsPermutation names_len xs ys moved)))

pub kept_list : (trie : List ℕ) (walked exports : List Export) → IsWalked trie walked → IsPermutation walked exports → AreExports trie exports → IsWritable exports
kept_list trie walked exports all moved list = record { rises = list.rises; each = its; few = few-moved walked exports moved all.few }
  where
    its : (e : Export) → Member e exports → IsWritableExport e
    its e member =
        let before = Member-permutation e exports walked (IsPermutation-sym walked exports moved) member in
        let at = exported-Member trie all.made e (subst (λ (l : List Export). Member e l) all.listed before) in
        let kept : IfKept (Some (e.flags, e.target)) = subst IfKept at.terminal (terminal_of-kept trie at.node) in
        record {
          short = visits-short trie all.reached (e.name, at.node) at.visit;
          plain = Spells-plain trie (spelled trie all.reached (e.name, at.node) (inl at.visit));
          known = kept.known;
          no_resolver = kept.no_resolver;
          fits = kept.fits;
        }
