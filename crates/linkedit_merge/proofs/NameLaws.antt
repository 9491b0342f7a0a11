-- The names of a pool are read back at their indices.
use Rattle.std.proofs.Common.{◌≡◌, ◌≤◌, ℕ, ◌+◌, ◌∙◌, Bool, true, false, cond, List, [], ◌∷◌, ◌++◌, length, refl, sym, ap, ap₂, arith, Option, Some, None, append_assoc, All}
use Rattle.std.specs.Prelude.{nat_eq, ◌||◌, unwrap_or}
use Rattle.std.specs.List.{list_any, flat_map}
use Rattle.std.specs.Cmp.Lexicographic.{same_text, nat_list_eq_equiv}
use Rattle.std.proofs.lemmas.Bool.{cond-true, cond-false, eqb-true, or_right}
use Rattle.std.proofs.lemmas.List.{length-append, nil_from_length}
use Rattle.std.proofs.lemmas.List.Elements.{All-nil, All-cons}
use Rattle.macho_image.specs.Nlists.{name_at}
use Rattle.macho_image.specs.Rules.{same_bytes}
use Rattle.nlist_table.specs.Kept.{IsName}
use Rattle.nlist_table.proofs.NameLaws.{name_back}
use Rattle.linkedit_merge.specs.Pool.{is_pooled, put_name, pooled_behind, text_of, pool_bytes, found_from, index_in}
use Rattle.linkedit_merge.specs.Indices.{pool_len}

-- ---- where a name stands

pub record IsFound (at : ℕ) (pool : List (List ℕ)) (name : List ℕ) : Type 0 where
  pub index : ℕ
  pub found : found_from at pool name ≡ Some index
  pub front : List ℕ
  pub rest : List ℕ
  pub split : flat_map text_of pool ≡ front ++ (name ++ 0 ∷ rest)
  pub place : at + length front ≡ index

stands : (at : ℕ) (pool : List (List ℕ)) (name : List ℕ) → list_any (same_bytes name) pool ≡ true → IsFound at pool name
unfolding found_from
stands at [] name none = absurd (let e : false ≡ true = none in cc)
stands at (first ∷ pool) name some = go (same_bytes name first) refl (λ none. stands (at + (length first + 1)) pool name none)
  where
    go : (b : Bool) → same_bytes name first ≡ b → (list_any (same_bytes name) pool ≡ true → IsFound (at + (length first + 1)) pool name) → IsFound at (first ∷ pool) name
    go true same behind =
        let is : name ≡ first = same_text name first (sym same) in
        record {
          index = at;
          found = cond-true (same_bytes name first) (Some at) (found_from (at + (length first + 1)) pool name) same;
          front = [];
          rest = flat_map text_of pool;
          split = append_assoc first (0 ∷ []) (flat_map text_of pool) ∙ ap (λ (l : List ℕ). l ++ 0 ∷ flat_map text_of pool) (sym is);
          place = omega arith;
        }
    go false other behind =
        let later = behind (sym (ap (λ (b : Bool). b || list_any (same_bytes name) pool) other) ∙ some) in
        record {
          index = later.index;
          found = cond-false (same_bytes name first) (Some at) (found_from (at + (length first + 1)) pool name) other ∙ later.found;
          front = text_of first ++ later.front;
          rest = later.rest;
          split = ap (λ (l : List ℕ). text_of first ++ l) later.split ∙ sym (append_assoc (text_of first) later.front (name ++ 0 ∷ later.rest));
          place = omega (arith, later.place, length-append (text_of first) later.front, length-append first (0 ∷ []));
        }

nowhere : (at : ℕ) (pool : List (List ℕ)) (name : List ℕ) → list_any (same_bytes name) pool ≡ false → found_from at pool name ≡ None
unfolding found_from
nowhere at [] name none = refl
nowhere at (first ∷ pool) name none = go (same_bytes name first) refl (λ absent. nowhere (at + (length first + 1)) pool name absent)
  where
    go : (b : Bool) → same_bytes name first ≡ b → (list_any (same_bytes name) pool ≡ false → found_from (at + (length first + 1)) pool name ≡ None) → found_from at (first ∷ pool) name ≡ None
    go true same behind = absurd (let e : true ≡ false = sym (ap (λ (b : Bool). b || list_any (same_bytes name) pool) same) ∙ none in cc)
    go false other behind =
        cond-false (same_bytes name first) (Some at) (found_from (at + (length first + 1)) pool name) other
        ∙ behind (sym (ap (λ (b : Bool). b || list_any (same_bytes name) pool) other) ∙ none)

-- ---- what stands there

at_zero : (strings : List ℕ) (index : ℕ) → index ≡ 0 → name_at strings index ≡ Some []
unfolding name_at
at_zero strings index is = ap (λ (n : ℕ). name_at strings n) is

read_found : (pool : List (List ℕ)) (name : List ℕ) → IsName name → IsFound 1 pool name → name_at (pool_bytes pool) (index_in pool name) ≡ Some name
unfolding pool_bytes index_in
read_found pool name plain h =
    ap₂ (λ (l : List ℕ) (o : Option ℕ). name_at (0 ∷ l) (unwrap_or o 0)) h.split h.found
    ∙ name_back (0 ∷ h.front) name h.rest h.index (omega (arith, h.place)) (omega (arith, h.place)) plain

pub read_name : (pool : List (List ℕ)) (name : List ℕ) → IsName name → is_pooled pool name ≡ true → name_at (pool_bytes pool) (index_in pool name) ≡ Some name
unfolding index_in
read_name pool name plain there = go (list_any (same_bytes name) pool) refl
  where
    only_empty : (a b : Bool) → b ≡ false → a || b ≡ true → a ≡ true
    only_empty true b none some = refl
    only_empty false b none some = absurd (let e : false ≡ true = sym none ∙ some in cc)

    go : (b : Bool) → list_any (same_bytes name) pool ≡ b → name_at (pool_bytes pool) (index_in pool name) ≡ Some name
    go true some = read_found pool name plain (stands 1 pool name some)
    go false none =
        let empty : name ≡ [] = nil_from_length name (eqb-true (length name) 0 (only_empty (nat_eq (length name) 0) (list_any (same_bytes name) pool) none there)) in
        at_zero (pool_bytes pool) (index_in pool name) (ap (λ (o : Option ℕ). unwrap_or o 0) (nowhere 1 pool name none)) ∙ ap (λ (l : List ℕ). let o : Option (List ℕ) = Some l in o) (sym empty)

-- ---- each index lies in the pool

below_found : (at : ℕ) (pool : List (List ℕ)) (name : List ℕ) (b : Bool) → list_any (same_bytes name) pool ≡ b → unwrap_or (found_from at pool name) 0 ≤ at + length (flat_map text_of pool)
below_found at pool name true some =
    let h = stands at pool name some in
    omega (arith, ap (λ (o : Option ℕ). unwrap_or o 0) h.found, h.place, ap (λ (l : List ℕ). length l) h.split, length-append h.front (name ++ 0 ∷ h.rest))
below_found at pool name false none = omega (arith, ap (λ (o : Option ℕ). unwrap_or o 0) (nowhere at pool name none))

pub index_below : (pool : List (List ℕ)) (name : List ℕ) → index_in pool name ≤ pool_len pool
unfolding index_in pool_bytes
index_below pool name = omega (arith, below_found 1 pool name (list_any (same_bytes name) pool) refl)

-- ---- all names are in the pool

any_more : (f : List ℕ → Bool) (xs ys : List (List ℕ)) → list_any f xs ≡ true → list_any f (xs ++ ys) ≡ true
any_more f [] ys none = absurd (let e : false ≡ true = none in cc)
any_more f (x ∷ xs) ys some = go (f x) some (any_more f xs ys)
  where
    go : (b : Bool) → b || list_any f xs ≡ true → (list_any f xs ≡ true → list_any f (xs ++ ys) ≡ true) → b || list_any f (xs ++ ys) ≡ true
    go true some later = refl
    go false some later = later some

any_last : (f : List ℕ → Bool) (xs : List (List ℕ)) (x : List ℕ) → f x ≡ true → list_any f (xs ++ x ∷ []) ≡ true
any_last f [] x is = ap (λ (b : Bool). b || false) is
any_last f (y ∷ ys) x is = go (f y) (any_last f ys x is)
  where
    go : (b : Bool) → list_any f (ys ++ x ∷ []) ≡ true → b || list_any f (ys ++ x ∷ []) ≡ true
    go true later = refl
    go false later = later

or_more : (a b c : Bool) → (b ≡ true → c ≡ true) → a || b ≡ true → a || c ≡ true
or_more true b c more is = refl
or_more false b c more is = more is

put_keeps : (pool : List (List ℕ)) (name other : List ℕ) → is_pooled pool name ≡ true → is_pooled (put_name pool other) name ≡ true
put_keeps pool name other there = go (is_pooled pool other)
  where
    go : (b : Bool) → is_pooled (cond b pool (pool ++ other ∷ [])) name ≡ true
    go true = there
    go false = or_more (nat_eq (length name) 0) (list_any (same_bytes name) pool) (list_any (same_bytes name) (pool ++ other ∷ [])) (any_more (same_bytes name) pool (other ∷ [])) there

put_has : (pool : List (List ℕ)) (name : List ℕ) → is_pooled (put_name pool name) name ≡ true
put_has pool name = go (is_pooled pool name) refl
  where
    go : (b : Bool) → is_pooled pool name ≡ b → is_pooled (cond b pool (pool ++ name ∷ [])) name ≡ true
    go true there = there
    go false absent = or_right (nat_eq (length name) 0) (list_any (same_bytes name) (pool ++ name ∷ [])) (any_last (same_bytes name) pool name (nat_list_eq_equiv.refl name))

pooled_keeps : (pool names : List (List ℕ)) (name : List ℕ) → is_pooled pool name ≡ true → is_pooled (pooled_behind pool names) name ≡ true
unfolding pooled_behind
pooled_keeps pool [] name there = there
pooled_keeps pool (other ∷ names) name there = pooled_keeps (put_name pool other) names name (put_keeps pool name other there)

pub pooled_has : (pool names : List (List ℕ)) → All (λ (name : List ℕ). is_pooled (pooled_behind pool names) name ≡ true) names
unfolding pooled_behind
pooled_has pool [] = All-nil (λ (name : List ℕ). is_pooled pool name ≡ true)
pooled_has pool (name ∷ names) =
    All-cons (λ (n : List ℕ). is_pooled (pooled_behind (put_name pool name) names) n ≡ true) name names
    (pooled_keeps (put_name pool name) names name (put_has pool name)) (pooled_has (put_name pool name) names)
