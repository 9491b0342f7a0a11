-- The one node of a name in an accepted trie, and its entry in the list of exports.
use Rattle.std.proofs.Common.{◌≡◌, ◌<◌, ℕ, List, [], ◌∷◌, ◌++◌, drop, length, refl, sym, ap, subst, ◌∙◌, arith, inl, inr, false, append_assoc, length-append}
use Rattle.std.specs.Prelude.{Ok, Err, Option, Some, None, nat_eq, nat_lt}
use Rattle.std.specs.Cmp.Lexicographic.{pointwise, bytes_decides}
use Rattle.std.proofs.lemmas.Bool.{cond-true, cond-false, cases_Bool, cases_lt}
use Rattle.std.proofs.lemmas.List.{append-nil, nil_from_length, drop_all}
use Rattle.dsc_base.specs.Limits.{name_limit}
use Rattle.dsc_base.specs.declared.rule.Rule.TheVariants.{TrieBadUleb}
use Rattle.dsc_base.specs.Uleb.{uleb_at}
use Rattle.export_trie.specs.declared.export.Export.{Export}
use Rattle.export_trie.specs.declared.export.Target.{Target}
use Rattle.export_trie.specs.Nodes.{Terminal, Child, among, number_at, head_at, node_at, terminal_of, children_of}
use Rattle.export_trie.specs.Order.{Visit, visited, exported, export_of, too_many, opened, entered, trie_break}
use Rattle.export_trie.specs.Paths.{Member, Spells, Root, Edge, AreExports}
use Rattle.export_trie.specs.Reading.{Reaches, Start, Next}
use Rattle.export_trie.specs.Finding.{target_named, IsTargetOf, Follows, target_of}
use Rattle.export_trie.proofs.NodeLaws.{bind_ok, guard_ok}
use Rattle.export_trie.proofs.ReadLaws.{node_at-parts, node_at-reads, terminal_of-node, children_of-node}
use Rattle.export_trie.proofs.PathLaws.{children_of-apart, complete}
use Rattle.export_trie.proofs.NameLaws.{Leads, Here, Along, leads, one_node, same_child, no_empty}
use Rattle.export_trie.proofs.ListLaws.{nothing}
use Rattle.export_trie.proofs.FindLaws.{some-value}
use Rattle.export_trie.proofs.TreeLaws.{accepted_walk}

-- each of its nodes is read
pub record IsRead (trie : List ℕ) (offset : ℕ) : Type 0 where
  pub terminal : Option Terminal
  pub children : List Child
  pub node : node_at trie offset ≡ Ok (terminal, children)
  pub terminal_is : terminal_of trie offset ≡ terminal
  pub children_is : children_of trie offset ≡ children

read_node : (trie : List ℕ) (offset : ℕ) (terminal : Option Terminal) (children : List Child) → node_at trie offset ≡ Ok (terminal, children) → IsRead trie offset
read_node trie offset terminal children node = record {
  terminal = terminal;
  children = children;
  node = node;
  terminal_is = terminal_of-node trie offset (terminal, children) node;
  children_is = children_of-node trie offset (terminal, children) node;
}

entered_node : (trie : List ℕ) (made : List Visit) (visit : Visit) (children : List Child) → entered trie made visit ≡ Ok children → IsRead trie visit.1
unfolding entered opened
entered_node trie made visit children ok =
    let new = guard_ok (among visit.1 (visited made)) _ _ children ok in
    let short = guard_ok (nat_lt name_limit (length visit.0)) _ _ children new.1 in
    let head = bind_ok (head_at (drop visit.1 trie)) _ children short.1 in
    let few = guard_ok (too_many (exported trie made ++ export_of visit.0 head.0.0)) _ _ children head.1.1 in
    read_node trie visit.1 head.0.0 children (node_at-parts trie visit.1 head.0.0 head.0.1 children head.1.0 few.1)

visited_node : (trie : List ℕ) {made coming : List Visit} → Reaches trie made coming → (visit : Visit) → Member visit made → IsRead trie visit.1
visited_node trie Start visit member = absurd member
visited_node trie (Next {made = made} {visit = here} {coming = rest} children before ok) visit (inl is) =
    subst (λ (v : Visit). IsRead trie v.1) (sym is) (entered_node trie made here children ok)
visited_node trie (Next {made = made} {visit = here} {coming = rest} children before ok) visit (inr member) = visited_node trie before visit member

pub path_node : (trie : List ℕ) (name : List ℕ) (offset : ℕ) → trie_break trie ≡ None → 0 < length trie → Spells trie name offset → IsRead trie offset
path_node trie name offset none some path =
    let walk = accepted_walk trie none in visited_node trie walk.reached (name, offset) (complete trie walk.made walk.reached some path)

-- how far a name was followed
pub record IsFollowed (trie name : List ℕ) (offset : ℕ) (rest : List ℕ) : Type 0 where
  pub front : List ℕ
  pub whole : front ++ rest ≡ name
  pub path : Spells trie front offset
  pub only : (end : ℕ) → Spells trie name end → Leads trie offset rest end
  pub node : IsRead trie offset

pub followed_none : (trie name : List ℕ) → trie_break trie ≡ None → 0 < length trie → IsFollowed trie name 0 name
followed_none trie name none some = record {
  front = [];
  whole = refl;
  path = Root;
  only = λ end path. leads trie path;
  node = path_node trie [] 0 none some Root;
}

pub followed_more : (trie name : List ℕ) (offset : ℕ) (rest : List ℕ) (next : ℕ) (left : List ℕ) → trie_break trie ≡ None → 0 < length trie → (so : IsFollowed trie name offset rest) → Follows so.node.children rest (Some (next, left)) → IsFollowed trie name next left
followed_more trie name offset rest next left none some so step =
    let edge = step.0 in
    let member : Member (edge, next) (children_of trie offset) = subst (λ (l : List Child). Member (edge, next) l) (sym so.node.children_is) step.1.0 in
    let path : Spells trie (so.front ++ edge) next = Edge edge next so.path member in
    record {
      front = so.front ++ edge;
      whole = append_assoc so.front edge left ∙ (ap (λ (l : List ℕ). so.front ++ l) (sym step.1.1) ∙ so.whole);
      path = path;
      only = λ end other. along edge member step.1.1 (so.only end other);
      node = path_node trie (so.front ++ edge) next none some path;
    }
  where
    along : (edge : List ℕ) {end : ℕ} → Member (edge, next) (children_of trie offset) → rest ≡ edge ++ left → Leads trie offset rest end → Leads trie next left end
    along edge member front (Here {end = end} empty same) = absurd (no_empty edge left ((children_of-apart trie offset).some (edge, next) member) (sym empty ∙ front))
    along edge member front (Along {end = end} edge' rest' next' is step' more) =
        let same = same_child trie offset (edge, next) (edge', next') left rest' member step' (sym front ∙ is) in
        subst (λ (o : ℕ). Leads trie o left end) (ap (λ (c : Child). c.1) (sym same.0))
        (subst (λ (l : List ℕ). Leads trie next' l end) (sym same.1) more)

pub followed_shorter : (trie name : List ℕ) (offset : ℕ) (rest : List ℕ) (next : ℕ) (left : List ℕ) → (so : IsFollowed trie name offset rest) → Follows so.node.children rest (Some (next, left)) → length left < length rest
followed_shorter trie name offset rest next left so step =
    let member : Member (step.0, next) (children_of trie offset) = subst (λ (l : List Child). Member (step.0, next) l) (sym so.node.children_is) step.1.0 in
    omega (arith, (children_of-apart trie offset).some (step.0, next) member, ap length step.1.1, length-append step.0 left)

pub followed_absent : (trie name : List ℕ) (offset : ℕ) (rest : List ℕ) → (so : IsFollowed trie name offset rest) → 0 < length rest → Follows so.node.children rest None → IsTargetOf trie name None
followed_absent trie name offset rest so some step export has is =
    go (so.only has.node (subst (λ (l : List ℕ). Spells trie l has.node) (sym is) has.path))
  where
    go : {end : ℕ} → Leads trie offset rest end → ⊥
    go (Here {end = end} empty same) = omega (arith, ap length empty)
    go (Along {end = end} edge left next front member more) =
        step (edge, next) (subst (λ (l : List Child). Member (edge, next) l) so.node.children_is member) left front

pub followed_all : (trie name : List ℕ) (offset : ℕ) (rest : List ℕ) → (so : IsFollowed trie name offset rest) → length rest ≡ 0 → IsTargetOf trie name (target_of so.node.terminal)
followed_all trie name offset rest so none = go so.node.terminal so.node.terminal_is
  where
    path : Spells trie name offset
    path =
        subst (λ (l : List ℕ). Spells trie l offset)
        (sym (append-nil so.front) ∙ (ap (λ (l : List ℕ). so.front ++ l) (sym (nil_from_length rest none)) ∙ so.whole)) so.path

    go : (terminal : Option Terminal) → terminal_of trie offset ≡ terminal → IsTargetOf trie name (target_of terminal)
    go None is = λ export has same.
        let end : has.node ≡ offset = one_node trie name has.node offset (subst (λ (l : List ℕ). Spells trie l has.node) (sym same) has.path) path in
        let e = sym has.terminal ∙ (ap (terminal_of trie) end ∙ is) in cc
    go (Some t) is = (t.0, record { node = offset; path = path; terminal = is })

pub absent_from_nothing : (trie name : List ℕ) → length trie ≡ 0 → IsTargetOf trie name None
absent_from_nothing trie name none export has is =
    let e = sym (nothing has.node) ∙ (ap (λ (l : List ℕ). terminal_of l has.node) (sym (nil_from_length trie none)) ∙ has.terminal) in cc

-- and in the list
target_named-none : (exports : List Export) (name : List ℕ) → ((export : Export) → Member export exports → name ≡ export.name → ⊥) → target_named exports name ≡ None
unfolding target_named
target_named-none [] name apart = refl
target_named-none (export ∷ exports) name apart =
    elim (cases_Bool (pointwise nat_eq name export.name)) [
      | inl same ↦ absurd (apart export (inl refl) ((bytes_decides name export.name).0 same))
      | inr other ↦
          cond-false (pointwise nat_eq name export.name) (Some export.target) (target_named exports name) other
          ∙ target_named-none exports name (λ e member. apart e (inr member))
    ]

target_named-some : (exports : List Export) (export : Export) → Member export exports → ((other : Export) → Member other exports → export.name ≡ other.name → other.target ≡ export.target) → target_named exports export.name ≡ Some export.target
unfolding target_named
target_named-some [] export member one = absurd member
target_named-some (first ∷ exports) export member one =
    elim (cases_Bool (pointwise nat_eq export.name first.name)) [
      | inl same ↦
          cond-true (pointwise nat_eq export.name first.name) (Some first.target) (target_named exports export.name) same
          ∙ ap (λ (t : Target). let o : Option Target = Some t in o) (one first (inl refl) ((bytes_decides export.name first.name).0 same))
      | inr other ↦
          cond-false (pointwise nat_eq export.name first.name) (Some first.target) (target_named exports export.name) other
          ∙ (λ (member : Member export exports). target_named-some exports export member (λ e m. one e (inr m))) (later member other)
    ]
  where
    later : Member export (first ∷ exports) → pointwise nat_eq export.name first.name ≡ false → Member export exports
    later (inl is) other = absurd (let e = sym other ∙ (bytes_decides export.name first.name).1 (ap (λ (e : Export). e.name) is) in cc)
    later (inr m) other = m

pub entry_of_target : (trie name : List ℕ) (target : Option Target) (exports : List Export) → IsTargetOf trie name target → AreExports trie exports → target ≡ target_named exports name
entry_of_target trie name None exports is list =
    sym (target_named-none exports name (λ export member same. is export (list.only export member) same))
entry_of_target trie name (Some target) exports is list =
    let export : Export = record { name = name; flags = is.0; target = target } in
    sym (target_named-some exports export (list.all export is.1) same_target)
  where
    same_target : (other : Export) → Member other exports → name ≡ other.name → other.target ≡ target
    same_target other member same =
        let has = list.only other member in
        let node : has.node ≡ is.1.node = one_node trie name has.node is.1.node (subst (λ (l : List ℕ). Spells trie l has.node) (sym same) has.path) is.1.path in
        ap (λ (t : Terminal). t.1) (some-value (other.flags, other.target) (is.0, target) (sym has.terminal ∙ (ap (terminal_of trie) node ∙ is.1.terminal)))

-- a node that is read begins inside the trie
head_at-nothing : head_at [] ≡ Err TrieBadUleb
unfolding head_at number_at uleb_at
head_at-nothing = refl

pub read_inside : (trie : List ℕ) (offset : ℕ) → IsRead trie offset → offset < length trie
read_inside trie offset read =
    elim (cases_lt offset (length trie)) [
      | inl inside ↦ inside
      | inr past ↦
          let node = node_at-reads trie offset read.terminal read.children read.node in
          absurd (let e = sym head_at-nothing ∙ (ap head_at (sym (drop_all offset trie past)) ∙ node.head) in cc)
    ]
