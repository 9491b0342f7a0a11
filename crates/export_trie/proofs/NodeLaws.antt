-- Laws of the readers of one node.
use Rattle.std.proofs.Common.{◌≡◌, ◌<◌, ℕ, zero, suc, List, [], ◌∷◌, take, drop, length, get_or, refl, ap, ap₂, cond, subst, ◌∙◌, arith, Bool, true, false}
use Rattle.std.specs.Prelude.{Result, Ok, Err, nat_eq, nat_le}
use Rattle.std.proofs.lemmas.Bool.{leb-false, eqb-false, false_from_ne_true}
use Rattle.dsc_base.specs.declared.rule.Rule.{Rule}
use Rattle.dsc_base.specs.declared.rule.Rule.TheVariants.{TrieEnded}
use Rattle.export_trie.specs.Nodes.{◌>>=◌, Child, among, first_of, number_at, text_at, child_at}

-- a text up to the first 0, and none where there is no 0
text_at-here : (byte : ℕ) (bytes : List ℕ) → nat_eq byte 0 ≡ true → text_at (byte ∷ bytes) ≡ Ok ([], bytes)
unfolding text_at
text_at-here byte bytes is = rw is refl

text_at-more : (byte : ℕ) (bytes : List ℕ) → nat_eq byte 0 ≡ false → text_at (byte ∷ bytes) ≡ (text_at bytes >>= (λ (text : List ℕ × List ℕ). Ok (byte ∷ text.0, text.1)))
unfolding text_at
text_at-more byte bytes is = rw is refl

pub text_at-some : (len : ℕ) (bytes : List ℕ) → len < length bytes → ((k : ℕ) → k < len → nat_eq (get_or bytes k 0) 0 ≡ true → ⊥) → nat_eq (get_or bytes len 0) 0 ≡ true → text_at bytes ≡ Ok (take len bytes, drop (suc len) bytes)
text_at-some len [] inside before here = absurd (omega arith)
text_at-some zero (byte ∷ bytes) inside before here = text_at-here byte bytes here
text_at-some (suc len) (byte ∷ bytes) inside before here =
    text_at-more byte bytes (false_from_ne_true (nat_eq byte 0) (before zero (omega arith)))
    ∙ ap (λ (r : Result (List ℕ × List ℕ) Rule). r >>= (λ (text : List ℕ × List ℕ). Ok (byte ∷ text.0, text.1)))
    (text_at-some len bytes (omega arith) (λ k lt. before (suc k) (omega arith)) here)

pub text_at-none : (bytes : List ℕ) → ((k : ℕ) → k < length bytes → nat_eq (get_or bytes k 0) 0 ≡ true → ⊥) → text_at bytes ≡ Err TrieEnded
unfolding text_at
text_at-none [] before = refl
text_at-none (byte ∷ bytes) before =
    text_at-more byte bytes (false_from_ne_true (nat_eq byte 0) (before zero (omega arith)))
    ∙ ap (λ (r : Result (List ℕ × List ℕ) Rule). r >>= (λ (text : List ℕ × List ℕ). Ok (byte ∷ text.0, text.1)))
    (text_at-none bytes (λ k lt. before (suc k) (omega arith)))

-- steps of reading that did not fail
pub ok-value : {A : Type 0} (x y : A) → ◌≡◌ {A = Result A Rule} (Ok x) (Ok y) → x ≡ y
ok-value x y same = cc

pub bind_ok : {A B : Type 0} (r : Result A Rule) (f : A → Result B Rule) (y : B) → (r >>= f) ≡ Ok y → (x : A) × ((r ≡ Ok x) × (f x ≡ Ok y))
bind_ok (Ok x) f y e = (x, (refl, e))
bind_ok (Err rule) f y e = absurd (cc)

pub guard_ok : {A : Type 0} (b : Bool) (rule : Rule) (r : Result A Rule) (y : A) → cond b (Err rule) r ≡ Ok y → (b ≡ false) × (r ≡ Ok y)
guard_ok true rule r y e = absurd (cc)
guard_ok false rule r y e = (refl, e)

pub pair-parts : {A B : Type 0} (a c : A) (b d : B) → ◌≡◌ {A = A × B} (a, b) (c, d) → (a ≡ c) × (b ≡ d)
pair-parts {A} {B} a c b d same = (ap (λ (p : A × B). p.0) same, ap (λ (p : A × B). p.1) same)

-- a child that was read
pub record IsChild (total : ℕ) (firsts bytes : List ℕ) (child : Child) (rest : List ℕ) : Type 0 where
  pub between : List ℕ
  pub edge : text_at bytes ≡ Ok (child.0, between)
  pub some : 0 < length child.0
  pub new : among (first_of child.0) firsts ≡ false
  pub offset : number_at between ≡ Ok (child.1, rest)
  pub inside : child.1 < total

pub child_at-parts : (total : ℕ) (firsts bytes : List ℕ) (child : Child) (rest : List ℕ) → child_at total firsts bytes ≡ Ok (child, rest) → IsChild total firsts bytes child rest
unfolding child_at
child_at-parts total firsts bytes child rest read =
    let text = bind_ok (text_at bytes) _ (child, rest) read in
    let filled = guard_ok (nat_eq (length text.0.0) 0) _ _ (child, rest) text.1.1 in
    let apart = guard_ok (among (first_of text.0.0) firsts) _ _ (child, rest) filled.1 in
    let number = bind_ok (number_at text.0.1) _ (child, rest) apart.1 in
    let bound = guard_ok (nat_le total number.0.0) _ _ (child, rest) number.1.1 in
    let whole : ◌≡◌ {A = Child × List ℕ} ((text.0.0, number.0.0), number.0.1) (child, rest) = ok-value _ (child, rest) bound.1 in
    let parts = pair-parts (text.0.0, number.0.0) child number.0.1 rest whole in
    let edge_is : text.0.0 ≡ child.0 = ap (λ (c : Child). c.0) parts.0 in
    let offset_is : number.0.0 ≡ child.1 = ap (λ (c : Child). c.1) parts.0 in
    record {
      between = text.0.1;
      edge = text.1.0 ∙ ap (λ (l : List ℕ). let r : Result (List ℕ × List ℕ) Rule = Ok (l, text.0.1) in r) edge_is;
      some = subst (λ (l : List ℕ). 0 < length l) edge_is (let ne = eqb-false (length text.0.0) 0 filled.0 in omega (arith, ne));
      new = subst (λ (l : List ℕ). among (first_of l) firsts ≡ false) edge_is apart.0;
      offset =
          number.1.0
          ∙ ap₂ (λ (n : ℕ) (l : List ℕ). let r : Result (ℕ × List ℕ) Rule = Ok (n, l) in r) offset_is parts.1;
      inside = subst (λ (n : ℕ). n < total) offset_is (leb-false total number.0.0 bound.0);
    }
