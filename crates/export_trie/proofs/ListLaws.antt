-- A whole walk in order of names is the list of exports.
use Rattle.std.proofs.Common.{◌≡◌, ◌≢◌, ◌≤◌, ◌<◌, ℕ, zero, suc, ◌+◌, List, [], ◌∷◌, ◌++◌, length, get_or, refl, sym, ap, subst, ◌∙◌, arith, inl, inr, Bool, false, cond, Ordering}
use Rattle.std.specs.Prelude.{Option, Some, None, nat_eq, sum_by}
use Rattle.std.specs.declared.cmp.Ordering.TheVariants.{Less, Equal, Greater}
use Rattle.std.specs.Ordering.{nat_cmp, is_lt, is_eq, ordering_reverse}
use Rattle.std.specs.Cmp.Lexicographic.{slice_cmp, pointwise, bytes_decides, texts_ties, nat_list_cmp_total}
use Rattle.std.specs.List.{Contains}
use Rattle.std.specs.List.Sorted.{IsPermutation, IsSortedBy}
use Rattle.std.proofs.lemmas.Bool.{cases_Bool, cases_lt, false≢true}
use Rattle.std.proofs.Math.Seq.{drop-nil}
use Rattle.std.proofs.lemmas.List.Sums.{sum_by-append, sum_by-cons}
use Rattle.std.proofs.lemmas.List.Sorted.{sum_by-IsPermutation, Contains-permutation, IsPermutation-sym}
use Rattle.export_trie.specs.declared.export.Export.{Export}
use Rattle.export_trie.specs.Nodes.{Terminal, number_at, head_at, node_at, terminal_of}
use Rattle.export_trie.specs.Order.{Visit, visited, exported, export_of}
use Rattle.export_trie.specs.Paths.{Member, Spells, HasExport, AreExports}
use Rattle.export_trie.specs.Reading.{Reaches, Start, Next, IsWalked}
use Rattle.dsc_base.specs.Uleb.{uleb_at}
use Rattle.export_trie.proofs.PathLaws.{Member-append, Member-left, Member-right, Member-map, among-Member, entered-unmarked, spelled, complete}
use Rattle.export_trie.proofs.NameLaws.{one_node}

-- exports and visits
pub record IsExportAt (trie : List ℕ) (made : List Visit) (export : Export) : Type 0 where
  pub node : ℕ
  pub visit : Member (export.name, node) made
  pub terminal : terminal_of trie node ≡ Some (export.flags, export.target)

pub exported-Member : (trie : List ℕ) (made : List Visit) (export : Export) → Member export (exported trie made) → IsExportAt trie made export
unfolding exported
exported-Member trie [] export member = absurd member
exported-Member trie (visit ∷ made) export member =
    elim (Member-append export (exported trie made) (export_of visit.0 (terminal_of trie visit.1)) member) [
      | inl before ↦ let at = exported-Member trie made export before in record { node = at.node; visit = inr at.visit; terminal = at.terminal }
      | inr here ↦ go (terminal_of trie visit.1) refl here
    ]
  where
    go : (terminal : Option Terminal) → terminal_of trie visit.1 ≡ terminal → Member export (export_of visit.0 terminal) → IsExportAt trie (visit ∷ made) export
    go None is here = absurd here
    go (Some t) is (inr none) = absurd none
    go (Some t) is (inl same) = record {
      node = visit.1;
      visit = inl (ap (λ (e : Export). let v : Visit = (e.name, visit.1) in v) same);
      terminal = is ∙ ap (λ (e : Export). let o : Option Terminal = Some (e.flags, e.target) in o) (sym same);
    }

pub Member-exported : (trie : List ℕ) (made : List Visit) (visit : Visit) (terminal : Terminal) → Member visit made → terminal_of trie visit.1 ≡ Some terminal → Member (record { name = visit.0; flags = terminal.0; target = terminal.1 }) (exported trie made)
unfolding exported
Member-exported trie [] visit terminal member is = absurd member
Member-exported trie (here ∷ made) visit terminal (inl same) is =
    let at : terminal_of trie here.1 ≡ Some terminal = ap (λ (v : Visit). terminal_of trie v.1) (sym same) ∙ is in
    Member-right _ (exported trie made) (export_of here.0 (terminal_of trie here.1))
    (subst (λ (t : Option Terminal). Member (record { name = visit.0; flags = terminal.0; target = terminal.1 }) (export_of here.0 t)) (sym at)
    (inl (ap (λ (v : Visit). let e : Export = record { name = v.0; flags = terminal.0; target = terminal.1 } in e) same)))
Member-exported trie (here ∷ made) visit terminal (inr member) is =
    Member-left _ (exported trie made) (export_of here.0 (terminal_of trie here.1)) (Member-exported trie made visit terminal member is)

-- how often a name is there
abbrev pub named : List ℕ → Export → ℕ
named name export = cond (pointwise nat_eq name export.name) 1 0

named-same : (name : List ℕ) (export : Export) → name ≡ export.name → named name export ≡ 1
named-same name export same = ap {B = ℕ} (λ (b : Bool). cond b 1 0) ((bytes_decides name export.name).1 same)

named-some : (name : List ℕ) (exports : List Export) → 0 < sum_by (named name) exports → (export : Export) × (Member export exports × (name ≡ export.name))
named-some name [] some = absurd (omega arith)
named-some name (export ∷ exports) some =
    elim (cases_Bool (pointwise nat_eq name export.name)) [
      | inl same ↦ (export, (inl refl, (bytes_decides name export.name).0 same))
      | inr other ↦
          let later = named-some name exports (omega (arith, some, sum_by-cons (named name) export exports, ap {B = ℕ} (λ (b : Bool). cond b 1 0) other)) in
          (later.0, (inr later.1.0, later.1.1))
    ]

names_once : (trie : List ℕ) {made coming : List Visit} → Reaches trie made coming → (name : List ℕ) → sum_by (named name) (exported trie made) ≤ 1
unfolding exported
names_once trie Start name = omega arith
names_once trie (Next {made = made} {visit = visit} {coming = rest} children before ok) name =
    go (names_once trie before name) (terminal_of trie visit.1) refl
  where
    twice : (export : Export) → Member export (exported trie made) → name ≡ export.name → name ≡ visit.0 → ⊥
    twice export member is here =
        let at = exported-Member trie made export member in
        let there : Spells trie name at.node = subst (λ (l : List ℕ). Spells trie l at.node) (sym is) (spelled trie before (export.name, at.node) (inl at.visit)) in
        let path : Spells trie name visit.1 = subst (λ (l : List ℕ). Spells trie l visit.1) (sym here) (spelled trie before visit (inr (inl refl))) in
        let same : at.node ≡ visit.1 = one_node trie name at.node visit.1 there path in
        let marked : Member visit.1 (visited made) = subst (λ (o : ℕ). Member o (visited made)) same (Member-map (λ (v : Visit). v.1) (export.name, at.node) made at.visit) in
        false≢true (sym (entered-unmarked trie made visit children ok) ∙ among-Member visit.1 (visited made) marked)

    with : sum_by (named name) (exported trie made) ≤ 1 → (t : Terminal) → terminal_of trie visit.1 ≡ Some t → sum_by (named name) (exported trie made ++ export_of visit.0 (Some t)) ≤ 1
    with old t is =
        let new : Export = record { name = visit.0; flags = t.0; target = t.1 } in
        let parts = sum_by-append (named name) (exported trie made) (new ∷ []) in
        let one = sum_by-cons (named name) new [] in
        elim (cases_Bool (pointwise nat_eq name visit.0)) [
          | inl same ↦
              elim (cases_lt 0 (sum_by (named name) (exported trie made))) [
                | inl some ↦
                    let found = named-some name (exported trie made) some in
                    absurd (twice found.0 found.1.0 found.1.1 ((bytes_decides name visit.0).0 same))
                | inr none ↦ omega (arith, parts, one, none, ap {B = ℕ} (λ (b : Bool). cond b 1 0) same)
              ]
          | inr other ↦ omega (arith, parts, one, old, ap {B = ℕ} (λ (b : Bool). cond b 1 0) other)
        ]

    go : sum_by (named name) (exported trie made) ≤ 1 → (terminal : Option Terminal) → terminal_of trie visit.1 ≡ terminal → sum_by (named name) (exported trie made ++ export_of visit.0 (terminal_of trie visit.1)) ≤ 1
    go old None is =
        subst (λ (t : Option Terminal). sum_by (named name) (exported trie made ++ export_of visit.0 t) ≤ 1) (sym is)
        (omega (arith, old, sum_by-append (named name) (exported trie made) []))
    go old (Some t) is =
        subst (λ (u : Option Terminal). sum_by (named name) (exported trie made ++ export_of visit.0 u) ≤ 1) (sym is) (with old t is)

named_one : (name : List ℕ) (exports : List Export) (k : ℕ) (d : Export) → k < length exports → name ≡ (get_or exports k d).name → 1 ≤ sum_by (named name) exports
named_one name [] k d inside here = absurd (omega arith)
named_one name (export ∷ exports) zero d inside here = omega (arith, sum_by-cons (named name) export exports, named-same name export here)
named_one name (export ∷ exports) (suc k) d inside here =
    omega (arith, sum_by-cons (named name) export exports, named_one name exports k d (omega arith) here)

named_two : (name : List ℕ) (exports : List Export) (k : ℕ) (d : Export) → suc k < length exports → name ≡ (get_or exports k d).name → name ≡ (get_or exports (suc k) d).name → 2 ≤ sum_by (named name) exports
named_two name [] k d inside here next = absurd (omega arith)
named_two name (export ∷ exports) zero d inside here next =
    omega (arith, sum_by-cons (named name) export exports, named-same name export here, named_one name exports zero d (omega arith) next)
named_two name (export ∷ exports) (suc k) d inside here next =
    omega (arith, sum_by-cons (named name) export exports, named_two name exports k d (omega arith) here next)

-- members by place
pub Member-Contains : (x : Export) (xs : List Export) → Member x xs → Contains xs x
Member-Contains x [] member = absurd member
Member-Contains x (y ∷ xs) (inl is) = (0, omega arith, sym is)
Member-Contains x (y ∷ xs) (inr member) = let at = Member-Contains x xs member in (suc at.0, omega (arith, at.1), at.2)

Contains-Member : (x : Export) (xs : List Export) (k : ℕ) → k < length xs → get_or xs k x ≡ x → Member x xs
Contains-Member x [] k inside is = absurd (omega arith)
Contains-Member x (y ∷ xs) zero inside is = inl (sym is)
Contains-Member x (y ∷ xs) (suc k) inside is = inr (Contains-Member x xs k (omega arith) is)

pub Member-permutation : (x : Export) (xs ys : List Export) → IsPermutation xs ys → Member x xs → Member x ys
Member-permutation x xs ys moved member =
    let at = Contains-permutation xs ys x moved (Member-Contains x xs member) in Contains-Member x ys at.0 at.1 at.2

-- a trie of no bytes has no terminal
pub nothing : (offset : ℕ) → terminal_of [] offset ≡ None
unfolding terminal_of node_at head_at number_at uleb_at
nothing offset = rw (drop-nil offset) refl

-- names that don't fall and differ rise
abbrev pub comes_before : Export → Export → Bool
comes_before a b = is_lt (slice_cmp nat_cmp a.name b.name)

rise : (a b : List ℕ) → is_lt (slice_cmp nat_cmp b a) ≡ false → a ≢ b → slice_cmp nat_cmp a b ≡ Less
rise a b no_less differ = go (slice_cmp nat_cmp b a) refl
  where
    go : (order : Ordering) → slice_cmp nat_cmp b a ≡ order → slice_cmp nat_cmp a b ≡ Less
    go Less is = absurd (false≢true (sym no_less ∙ ap is_lt is))
    go Equal is = absurd (differ (sym ((bytes_decides b a).0 (texts_ties b a ∙ ap is_eq is))))
    go Greater is = nat_list_cmp_total.antisymm a b ∙ ap ordering_reverse is

pub sorted_exports : (trie : List ℕ) (walked exports : List Export) → IsWalked trie walked → IsPermutation walked exports → IsSortedBy comes_before exports → AreExports trie exports
sorted_exports trie walked exports all moved sorted = record { rises = rises; only = only; all = every }
  where
    rises : (k : ℕ) (d : Export) → k + 1 < length exports → slice_cmp nat_cmp (get_or exports k d).name (get_or exports (k + 1) d).name ≡ Less
    rises k d inside =
        rise (get_or exports k d).name (get_or exports (k + 1) d).name (sorted k d (omega arith) inside)
        (λ same.
        let next : (get_or exports k d).name ≡ (get_or exports (suc k) d).name = same ∙ ap (λ (n : ℕ). (get_or exports n d).name) (omega arith) in
        let two = named_two (get_or exports k d).name exports k d (omega arith) refl next in
        let once = names_once trie all.reached (get_or exports k d).name in
        omega (arith, two, once, sum_by-IsPermutation (named (get_or exports k d).name) walked exports moved, ap (sum_by (named (get_or exports k d).name)) all.listed))

    only : (export : Export) → Member export exports → HasExport trie export
    only export member =
        let before = Member-permutation export exports walked (IsPermutation-sym walked exports moved) member in
        let at = exported-Member trie all.made export (subst (λ (l : List Export). Member export l) all.listed before) in
        record { node = at.node; path = spelled trie all.reached (export.name, at.node) (inl at.visit); terminal = at.terminal }

    every : (export : Export) → HasExport trie export → Member export exports
    every export has = Member-permutation export walked exports moved (subst (λ (l : List Export). Member export l) (sym all.listed) (here trie all.reached has))
      where
        here : (trie : List ℕ) → Reaches trie all.made [] → HasExport trie export → Member export (exported trie all.made)
        here [] reached has = absurd (let e = sym (nothing has.node) ∙ has.terminal in cc)
        here (byte ∷ bytes) reached has =
            Member-exported (byte ∷ bytes) all.made (export.name, has.node) (export.flags, export.target)
            (complete (byte ∷ bytes) all.made reached (omega arith) has.path) has.terminal
