-- Laws of marks and of the list of children.
use Rattle.std.proofs.Common.{◌≡◌, ◌≤◌, ◌<◌, ℕ, zero, suc, ◌+◌, List, [], ◌∷◌, ◌++◌, take, drop, length, get_or, set, map, reverse, refl, sym, ap, ap₂, subst, ◌∙◌, arith, inl, inr, Bool, true, false, append_assoc, length-set, length-append}
use Rattle.std.specs.Prelude.{Result, Ok, Err, nat_eq, ◌||◌, replicate}
use Rattle.std.proofs.lemmas.Bool.{cases_eq, eq-eqb, ne_eqb}
use Rattle.std.proofs.lemmas.List.{append-nil, get_or-set_other, get_or-set_same, get_or-replicate, map-append, take_at, drop_at, reverse-append, reverse-reverse}
use Rattle.dsc_base.specs.declared.rule.Rule.{Rule}
use Rattle.export_trie.specs.Nodes.{◌>>=◌, Child, among, first_of, child_at, children_at}
use Rattle.export_trie.specs.Reading.{Marks, Pend, pend, Gives}

-- one more mark
pub Marks-set : (marks : List Bool) (numbers : List ℕ) (i : ℕ) → i < length marks → Marks marks numbers → Marks (set marks i true) (i ∷ numbers)
Marks-set marks numbers i inside marked k lt =
    let within : k < length marks = omega (arith, length-set marks i true) in
    elim (cases_eq k i) [
      | inl same ↦
          subst (λ (j : ℕ). get_or (set marks i true) j false ≡ (nat_eq j i || among j numbers)) (sym same)
          (get_or-set_same marks i true false inside ∙ ap (λ (b : Bool). b || among i numbers) (sym (eq-eqb i i refl)))
      | inr other ↦
          get_or-set_other marks i k true false other ∙ (marked k within ∙ ap (λ (b : Bool). b || among k numbers) (sym (ne_eqb k i other)))
    ]

-- children that were read, in front of those that are
abbrev pub join : List Child → Result (List Child) Rule → Result (List Child) Rule
join children (Ok others) = Ok (children ++ others)
join children (Err rule) = Err rule

pub record SoFar (total prefix count done : ℕ) (whole rest : List ℕ) (seen : List Bool) (old now : List Pend) : Type 0 where
  pub left : ℕ
  pub counted : left + done ≡ count
  pub children : List Child
  pub many : length now ≡ length old + done
  pub firsts : List ℕ
  pub wide : length seen ≡ 256
  pub marked : Marks seen firsts
  pub pushed : now ≡ old ++ map (pend prefix) children
  pub joined : join children (children_at total left firsts rest) ≡ children_at total count [] whole

join-none : (r : Result (List Child) Rule) → join [] r ≡ r
join-none (Ok others) = refl
join-none (Err rule) = refl

join-more : (children : List Child) (child : Child) (r : Result (List Child) Rule) → join children (r >>= (λ (others : List Child). Ok (child ∷ others))) ≡ join (children ++ child ∷ []) r
join-more children child (Ok others) = ap (λ (l : List Child). let r : Result (List Child) Rule = Ok l in r) (sym (append_assoc children (child ∷ []) others))
join-more children child (Err rule) = refl

pub so_far_none : (total prefix count : ℕ) (whole : List ℕ) (old : List Pend) → SoFar total prefix count 0 whole whole (replicate 256 false) old old
so_far_none total prefix count whole old = record {
  left = count;
  counted = omega arith;
  children = [];
  many = omega arith;
  firsts = [];
  wide = refl;
  marked = λ k lt. get_or-replicate 256 k false false lt;
  pushed = sym (append-nil old);
  joined = join-none (children_at total count [] whole);
}

-- the next child is read
pub children_at-more : (total left : ℕ) (firsts rest after : List ℕ) (child : Child) → child_at total firsts rest ≡ Ok (child, after) → children_at total (suc left) firsts rest ≡ (children_at total left (first_of child.0 ∷ firsts) after >>= (λ (others : List Child). Ok (child ∷ others)))
unfolding children_at
children_at-more total left firsts rest after child read = rw read refl

children_at-fault : (total left : ℕ) (firsts rest : List ℕ) (rule : Rule) → child_at total firsts rest ≡ Err rule → children_at total (suc left) firsts rest ≡ Err rule
unfolding children_at
children_at-fault total left firsts rest rule read = rw read refl

pub so_far_more : (total prefix count done : ℕ) (whole rest after : List ℕ) (seen : List Bool) (old now : List Pend) (child : Child) → SoFar total prefix count done whole rest seen old now → done < count → first_of child.0 < 256 → ((firsts : List ℕ) → Marks seen firsts → child_at total firsts rest ≡ Ok (child, after)) → SoFar total prefix count (done + 1) whole after (set seen (first_of child.0) true) old (now ++ pend prefix child ∷ [])
so_far_more total prefix count done whole rest after seen old now child so lt byte read = go so.left so.counted so.joined
  where
    go : (left : ℕ) → left + done ≡ count → join so.children (children_at total left so.firsts rest) ≡ children_at total count [] whole → SoFar total prefix count (done + 1) whole after (set seen (first_of child.0) true) old (now ++ pend prefix child ∷ [])
    go zero counted joined = absurd (omega arith)
    go (suc left) counted joined = record {
      left = left;
      counted = omega arith;
      children = so.children ++ child ∷ [];
      many = omega (arith, so.many, length-append now (pend prefix child ∷ []));
      firsts = first_of child.0 ∷ so.firsts;
      wide = length-set seen (first_of child.0) true ∙ so.wide;
      marked = Marks-set seen so.firsts (first_of child.0) (omega (arith, so.wide)) so.marked;
      pushed =
          ap (λ (l : List Pend). l ++ pend prefix child ∷ []) so.pushed
          ∙ (append_assoc old (map (pend prefix) so.children) (pend prefix child ∷ [])
          ∙ ap (λ (l : List Pend). old ++ l) (sym (map-append (pend prefix) so.children (child ∷ []))));
      joined =
          sym (ap (λ (r : Result (List Child) Rule). join so.children r) (children_at-more total left so.firsts rest after child (read so.firsts so.marked))
          ∙ join-more so.children child (children_at total left (first_of child.0 ∷ so.firsts) after)) ∙ joined;
    }

pub so_far_fault : (total prefix count done : ℕ) (whole rest : List ℕ) (seen : List Bool) (old now : List Pend) (rule : Rule) → SoFar total prefix count done whole rest seen old now → done < count → ((firsts : List ℕ) → Marks seen firsts → child_at total firsts rest ≡ Err rule) → children_at total count [] whole ≡ Err rule
so_far_fault total prefix count done whole rest seen old now rule so lt read = go so.left so.counted so.joined
  where
    go : (left : ℕ) → left + done ≡ count → join so.children (children_at total left so.firsts rest) ≡ children_at total count [] whole → children_at total count [] whole ≡ Err rule
    go zero counted joined = absurd (omega arith)
    go (suc left) counted joined =
        sym joined ∙ ap (λ (r : Result (List Child) Rule). join so.children r) (children_at-fault total left so.firsts rest rule (read so.firsts so.marked))

-- all of them, and the list of them turned round
pub record IsPushed (total prefix count : ℕ) (whole : List ℕ) (old now : List Pend) : Type 0 where
  pub children : List Child
  pub read : children_at total count [] whole ≡ Ok children
  pub pushed : now ≡ old ++ map (pend prefix) children

pub so_far_all : (total prefix count done : ℕ) (whole rest : List ℕ) (seen : List Bool) (old now : List Pend) → SoFar total prefix count done whole rest seen old now → count ≤ done → IsPushed total prefix count whole old now
unfolding children_at
so_far_all total prefix count done whole rest seen old now so le = record {
  children = so.children;
  read = sym so.joined ∙ (ap (λ (n : ℕ). join so.children (children_at total n so.firsts rest)) (let e : so.left ≡ 0 = omega (arith, so.counted) in e)
      ∙ last);
  pushed = so.pushed;
}
  where
    last : join so.children (children_at total 0 so.firsts rest) ≡ Ok so.children
    last = ap (λ (l : List Child). let r : Result (List Child) Rule = Ok l in r) (append-nil so.children)

-- the first of what was pushed is on top
pub pushed-turned : (prefix base : ℕ) (children : List Child) (old now turned : List Pend) → base ≡ length old → now ≡ old ++ map (pend prefix) children → turned ≡ take base now ++ reverse (drop base now) → reverse turned ≡ map (pend prefix) children ++ reverse old
pushed-turned prefix base children old now turned base_is now_is turned_is =
    let whole : turned ≡ old ++ reverse (map (pend prefix) children) =
    turned_is
    ∙ (ap (λ (l : List Pend). take base l ++ reverse (drop base l)) now_is
    ∙ ap₂ (λ (a b : List Pend). a ++ reverse b)
    (take_at old (map (pend prefix) children) base (sym base_is)) (drop_at old (map (pend prefix) children) base (sym base_is))) in
    ap reverse whole
    ∙ (reverse-append old (reverse (map (pend prefix) children))
    ∙ ap (λ (l : List Pend). l ++ reverse old) (reverse-reverse (map (pend prefix) children)))

pub gives_pushed : (total prefix count base : ℕ) (whole : List ℕ) (old now turned : List Pend) → IsPushed total prefix count whole old now → base ≡ length old → turned ≡ take base now ++ reverse (drop base now) → Gives {X = Unit {0}} (λ _ children. reverse turned ≡ map (pend prefix) children ++ reverse old) (Ok tt) (children_at total count [] whole)
gives_pushed total prefix count base whole old now turned all base_is turned_is =
    subst (λ (r : Result (List Child) Rule). Gives {X = Unit {0}} (λ _ children. reverse turned ≡ map (pend prefix) children ++ reverse old) (Ok tt) r)
    (sym all.read) (pushed-turned prefix base all.children old now turned base_is all.pushed turned_is)
