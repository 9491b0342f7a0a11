-- Following a name along the edges of a trie.
use Rattle.std.proofs.Common.{◌≡◌, ◌≤◌, ◌<◌, ◌⊎◌, ℕ, zero, suc, ◌+◌, ◌-◌, List, [], ◌∷◌, ◌++◌, take, drop, length, get_or, refl, sym, ap, ap₂, subst, ◌∙◌, arith, inl, inr, true, false}
use Rattle.std.specs.Prelude.{Ok, Err, Option, Some, None, nat_eq}
use Rattle.std.specs.Cmp.Lexicographic.{pointwise, bytes_decides}
use Rattle.std.proofs.lemmas.Bool.{false≢true}
use Rattle.std.proofs.lemmas.List.{take_at, take-append-drop, take_rest}
use Rattle.dsc_base.specs.declared.rule.Rule.{Rule}
use Rattle.export_trie.specs.Nodes.{Terminal, Child, first_of, number_at, text_at, head_at, child_at, children_at, edges_at, node_at}
use Rattle.export_trie.specs.Paths.{Member}
use Rattle.export_trie.specs.Finding.{Follows}
use Rattle.export_trie.proofs.NodeLaws.{ok-value, bind_ok, pair-parts, child_at-parts}
use Rattle.export_trie.proofs.ReadLaws.{node_at-reads}

-- children that are still to be looked at; those before don't begin the name
pub record StillIn (total : ℕ) (children : List Child) (name rest : List ℕ) (count done : ℕ) : Type 0 where
  pub left : ℕ
  pub counted : left + done ≡ count
  pub firsts : List ℕ
  pub others : List Child
  pub read : children_at total left firsts rest ≡ Ok others
  pub passed : (child : Child) → Member child children → Member child others ⊎ ((more : List ℕ) → name ≡ child.0 ++ more → ⊥)
  pub inside : (child : Child) → Member child others → Member child children

abbrev pub Beyond : ℕ → List ℕ → List ℕ → ℕ → List ℕ → Type 0
Beyond count bytes name done rest =
    (total : ℕ) (firsts : List ℕ) (children : List Child) → children_at total count firsts bytes ≡ Ok children → StillIn total children name rest count done

pub beyond_none : (count : ℕ) (bytes name : List ℕ) → Beyond count bytes name 0 bytes
beyond_none count bytes name total firsts children read = record {
  left = count;
  counted = omega arith;
  firsts = firsts;
  others = children;
  read = read;
  passed = λ child member. inl member;
  inside = λ child member. member;
}

-- the next of them
pub record NextChild (total : ℕ) (children : List Child) (name rest : List ℕ) (count done : ℕ) : Type 0 where
  pub child : Child
  pub between : List ℕ
  pub after : List ℕ
  pub edge : text_at rest ≡ Ok (child.0, between)
  pub offset : number_at between ≡ Ok (child.1, after)
  pub member : Member child children
  pub then : ((more : List ℕ) → name ≡ child.0 ++ more → ⊥) → StillIn total children name after count (done + 1)

pub next_child : (total : ℕ) (children : List Child) (name rest : List ℕ) (count done : ℕ) → StillIn total children name rest count done → done < count → NextChild total children name rest count done
unfolding children_at
next_child total children name rest count done still lt = go still.left still.counted still.read
  where
    go : (left : ℕ) → left + done ≡ count → children_at total left still.firsts rest ≡ Ok still.others → NextChild total children name rest count done
    go zero counted read = absurd (omega arith)
    go (suc left) counted read =
        let first = bind_ok (child_at total still.firsts rest) _ still.others read in
        let others = bind_ok (children_at total left (first_of first.0.0.0 ∷ still.firsts) first.0.1) _ still.others first.1.1 in
        let child = child_at-parts total still.firsts rest first.0.0 first.0.1 first.1.0 in
        let all : first.0.0 ∷ others.0 ≡ still.others = ok-value (first.0.0 ∷ others.0) still.others others.1.1 in
        record {
          child = first.0.0;
          between = child.between;
          after = first.0.1;
          edge = child.edge;
          offset = child.offset;
          member = still.inside first.0.0 (subst (λ (l : List Child). Member first.0.0 l) all (inl refl));
          then = λ other.
              record {
                left = left;
                counted = omega arith;
                firsts = first_of first.0.0.0 ∷ still.firsts;
                others = others.0;
                read = others.1.0;
                passed = λ c member. after_first first.0.0 others.0 c other (subst (λ (l : List Child). Member c l ⊎ ((more : List ℕ) → name ≡ c.0 ++ more → ⊥)) (sym all) (still.passed c member));
                inside = λ c member. still.inside c (subst (λ (l : List Child). Member c l) all (inr member));
              };
        }
      where
        after_first : (first : Child) (others : List Child) (c : Child) → ((more : List ℕ) → name ≡ first.0 ++ more → ⊥) → Member c (first ∷ others) ⊎ ((more : List ℕ) → name ≡ c.0 ++ more → ⊥) → Member c others ⊎ ((more : List ℕ) → name ≡ c.0 ++ more → ⊥)
        after_first first others c other (inl (inl is)) = inr (λ more front. other more (front ∙ ap (λ (d : Child). d.0 ++ more) is))
        after_first first others c other (inl (inr member)) = inl member
        after_first first others c other (inr apart) = inr apart

-- what reading it gives
pub no_text_fault : (total : ℕ) (children : List Child) (name rest : List ℕ) (count done : ℕ) (rule : Rule) → StillIn total children name rest count done → done < count → text_at rest ≡ Err rule → ⊥
no_text_fault total children name rest count done rule still lt fault =
    let next = next_child total children name rest count done still lt in let e = sym next.edge ∙ fault in cc

pub text_is : (total : ℕ) (children : List Child) (name rest edge between : List ℕ) (count done : ℕ) (next : NextChild total children name rest count done) → text_at rest ≡ Ok (edge, between) → (next.child.0 ≡ edge) × (next.between ≡ between)
text_is total children name rest edge between count done next read =
    pair-parts next.child.0 edge next.between between (ok-value (next.child.0, next.between) (edge, between) (sym next.edge ∙ read))

pub no_number_fault : (total : ℕ) (children : List Child) (name rest edge between : List ℕ) (count done : ℕ) (rule : Rule) → StillIn total children name rest count done → done < count → text_at rest ≡ Ok (edge, between) → number_at between ≡ Err rule → ⊥
no_number_fault total children name rest edge between count done rule still lt read fault =
    let next = next_child total children name rest count done still lt in
    let is = text_is total children name rest edge between count done next read in
    let e = sym next.offset ∙ (ap number_at is.1 ∙ fault) in cc

pub number_is : (total : ℕ) (children : List Child) (name rest edge between after : List ℕ) (count done offset : ℕ) (next : NextChild total children name rest count done) → text_at rest ≡ Ok (edge, between) → number_at between ≡ Ok (offset, after) → (next.child.1 ≡ offset) × (next.after ≡ after)
number_is total children name rest edge between after count done offset next read number =
    let is = text_is total children name rest edge between count done next read in
    pair-parts next.child.1 offset next.after after (ok-value (next.child.1, next.after) (offset, after) (sym next.offset ∙ (ap number_at is.1 ∙ number)))

pub still_found : (total : ℕ) (children : List Child) (name rest edge between after : List ℕ) (count done offset : ℕ) → StillIn total children name rest count done → done < count → text_at rest ≡ Ok (edge, between) → number_at between ≡ Ok (offset, after) → Member (edge, offset) children
still_found total children name rest edge between after count done offset still lt read number =
    let next = next_child total children name rest count done still lt in
    let e = text_is total children name rest edge between count done next read in
    let n = number_is total children name rest edge between after count done offset next read number in
    subst (λ (c : Child). Member c children) (ap₂ (λ (l : List ℕ) (o : ℕ). let c : Child = (l, o) in c) e.0 n.0) next.member

pub still_more : (total : ℕ) (children : List Child) (name rest edge between after : List ℕ) (count done offset : ℕ) → StillIn total children name rest count done → done < count → text_at rest ≡ Ok (edge, between) → number_at between ≡ Ok (offset, after) → ((more : List ℕ) → name ≡ edge ++ more → ⊥) → StillIn total children name after count (done + 1)
still_more total children name rest edge between after count done offset still lt read number other =
    let next = next_child total children name rest count done still lt in
    let e = text_is total children name rest edge between count done next read in
    let n = number_is total children name rest edge between after count done offset next read number in
    subst (λ (l : List ℕ). StillIn total children name l count (done + 1)) n.1
    (next.then (λ more front. other more (front ∙ ap (λ (l : List ℕ). l ++ more) e.0)))

pub still_none : (total : ℕ) (children : List Child) (name rest : List ℕ) (count done : ℕ) → StillIn total children name rest count done → count ≤ done → Follows children name None
unfolding children_at
still_none total children name rest count done still le child member =
    elim (still.passed child member) [
      | inl left ↦
          let none : still.left ≡ 0 = omega (arith, still.counted) in
          let empty : [] ≡ still.others = ok-value [] still.others (sym (ap (λ (n : ℕ). children_at total n still.firsts rest) none) ∙ still.read) in
          absurd (let none : Member child [] = subst (λ (l : List Child). Member child l) (sym empty) left in none)
      | inr apart ↦ apart
    ]

-- an edge that begins the name
pub stripped : (name edge : List ℕ) → pointwise nat_eq (take (length edge) name) edge ≡ true → name ≡ edge ++ drop (length edge) name
stripped name edge same =
    sym (take-append-drop (length edge) name) ∙ ap (λ (l : List ℕ). l ++ drop (length edge) name) ((bytes_decides (take (length edge) name) edge).0 same)

pub not_stripped : (name edge : List ℕ) → pointwise nat_eq (take (length edge) name) edge ≡ false → (more : List ℕ) → name ≡ edge ++ more → ⊥
not_stripped name edge differ more front =
    false≢true (sym differ ∙ (bytes_decides (take (length edge) name) edge).1 (ap (λ (l : List ℕ). take (length edge) l) front ∙ take_at edge more (length edge) refl))

-- the count of children and the children
pub edges_at-some : (total : ℕ) (bytes : List ℕ) → 1 ≤ length bytes → edges_at total bytes ≡ children_at total (get_or bytes 0 0) [] (drop 1 bytes)
unfolding edges_at
edges_at-some total [] some = absurd (omega arith)
edges_at-some total (count ∷ bytes) some = refl

pub edges_at-none : (total : ℕ) (bytes : List ℕ) (children : List Child) → length bytes < 1 → edges_at total bytes ≡ Ok children → ⊥
unfolding edges_at
edges_at-none total [] children none is = cc
edges_at-none total (count ∷ bytes) children none is = omega arith

-- the bytes behind a node's terminal, where the node is read
pub behind_head : (trie : List ℕ) (offset : ℕ) (terminal : Option Terminal) (children : List Child) (found : Option (List ℕ)) → ((t : Option Terminal) (rest : List ℕ) → head_at (take (length trie - offset) (drop offset trie)) ≡ Ok (t, rest) → found ≡ Some rest) → node_at trie offset ≡ Ok (terminal, children) → (rest : List ℕ) × ((found ≡ Some rest) × (edges_at (length trie) rest ≡ Ok children))
behind_head trie offset terminal children found reads is =
    let node = node_at-reads trie offset terminal children is in
    (node.rest, (reads terminal node.rest (ap head_at (take_rest trie offset) ∙ node.head), node.edges))

pub some-value : {A : Type 0} (x y : A) → ◌≡◌ {A = Option A} (Some x) (Some y) → x ≡ y
some-value x y same = cc
