-- Names in a pool: each has its index, and a new one goes last.
use Rattle.std.proofs.Common.{◌≡◌, ◌≤◌, ◌<◌, ℕ, drop, get_or, ◌+◌, ◌∙◌, Bool, true, false, cond, List, [], ◌∷◌, ◌++◌, length, refl, sym, ap, ap₂, arith, Option, Some, None}
use Rattle.std.specs.Prelude.{is_some, nat_eq, ◌||◌}
use Rattle.std.specs.List.{list_any, flat_map}
use Rattle.std.specs.Map.{lookup}
use Rattle.std.specs.Borrow.{Bor}
use Rattle.std.proofs.lemmas.List.{append-nil, length-append, map-append, drop_more, drop_all}
use Rattle.std.proofs.lemmas.List.Concat.{flat_map-append}
use Rattle.macho_image.specs.Rules.{same_bytes}
use Rattle.linkedit_merge.specs.Pool.{is_pooled, put_name, pooled_behind, text_of, pool_bytes, found_from}
use Rattle.linkedit_merge.specs.Indices.{Entry, names_in, AreIndexed, pool_len}

-- ---- looking up

looked_up : (at : ℕ) (es : List Entry) (name : List ℕ) → AreIndexed at es → lookup (λ (k : Bor (List ℕ)). same_bytes name k.now) es ≡ found_from at (names_in es) name
unfolding found_from
looked_up at [] name h = refl
looked_up at (e ∷ es) name h =
    ap₂ (λ (n : ℕ) (o : Option ℕ). cond (same_bytes name e.0.now) (Some n) o) h.0 (looked_up (at + (length e.0.now + 1)) es name h.1)

pub found_in : (es : List Entry) (name : List ℕ) → AreIndexed 1 es → lookup (λ (k : Bor (List ℕ)). same_bytes name k.now) es ≡ found_from 1 (names_in es) name
found_in es name h = looked_up 1 es name h

pub there : (es : List Entry) (name : List ℕ) → is_some (lookup (λ (k : Bor (List ℕ)). same_bytes name k.now) es) ≡ list_any (same_bytes name) (names_in es)
there [] name = refl
there (e ∷ es) name = go (same_bytes name e.0.now) (there es name)
  where
    go : (b : Bool) → is_some (lookup (λ (k : Bor (List ℕ)). same_bytes name k.now) es) ≡ list_any (same_bytes name) (names_in es)
        → is_some (cond b (Some e.1) (lookup (λ (k : Bor (List ℕ)). same_bytes name k.now) es)) ≡ b || list_any (same_bytes name) (names_in es)
    go true later = refl
    go false later = later

none_there : (o : Option ℕ) → is_some o ≡ false → o ≡ None
none_there None none = refl
none_there (Some n) none = absurd (let e : true ≡ false = none in cc)

pub not_there : (es : List Entry) (name : List ℕ) → list_any (same_bytes name) (names_in es) ≡ false → lookup (λ (k : Bor (List ℕ)). same_bytes name k.now) es ≡ None
not_there es name none = none_there (lookup (λ (k : Bor (List ℕ)). same_bytes name k.now) es) (there es name ∙ none)

-- ---- lengths

pub pool_len-nil : pool_len [] ≡ 1
unfolding pool_bytes
pool_len-nil = refl

pub pool_len-push : (names : List (List ℕ)) (name : List ℕ) → pool_len (names ++ name ∷ []) ≡ pool_len names + (length name + 1)
unfolding pool_bytes
pool_len-push names name =
    let joined : flat_map text_of (names ++ name ∷ []) ≡ flat_map text_of names ++ text_of name =
    flat_map-append text_of names (name ∷ []) ∙ ap (λ (l : List ℕ). flat_map text_of names ++ l) (append-nil (text_of name)) in
    omega (arith, ap (λ (l : List ℕ). length l) joined, length-append (flat_map text_of names) (text_of name), length-append name (0 ∷ []))

pooled_rises : (b : Bool) (pool : List (List ℕ)) (name : List ℕ) → pool_len pool ≤ pool_len (cond b pool (pool ++ name ∷ []))
pooled_rises true pool name = omega arith
pooled_rises false pool name = omega (arith, pool_len-push pool name)

pub put-rises : (pool : List (List ℕ)) (name : List ℕ) → pool_len pool ≤ pool_len (put_name pool name)
put-rises pool name = pooled_rises (is_pooled pool name) pool name

pub pooled-rises : (pool names : List (List ℕ)) → pool_len pool ≤ pool_len (pooled_behind pool names)
unfolding pooled_behind
pooled-rises pool [] = omega arith
pooled-rises pool (name ∷ names) = omega (arith, put-rises pool name, pooled-rises (put_name pool name) names)

pub pooled-append : (pool ns ms : List (List ℕ)) → pooled_behind pool (ns ++ ms) ≡ pooled_behind (pooled_behind pool ns) ms
unfolding pooled_behind
pooled-append pool [] ms = refl
pooled-append pool (n ∷ ns) ms = pooled-append (put_name pool n) ns ms

-- ---- one more

pub push_indexed : (at : ℕ) (es : List Entry) (key : Bor (List ℕ)) (index : ℕ) → AreIndexed at es → index ≡ at + length (flat_map text_of (names_in es)) → AreIndexed at (es ++ (key, index) ∷ [])
push_indexed at [] key index h is = (omega (arith, is), tt)
push_indexed at (e ∷ es) key index h is =
    let long : length (text_of e.0.now ++ flat_map text_of (names_in es)) ≡ length e.0.now + 1 + length (flat_map text_of (names_in es)) =
    omega (arith, length-append (text_of e.0.now) (flat_map text_of (names_in es)), length-append e.0.now (0 ∷ [])) in
    (h.0, push_indexed (at + (length e.0.now + 1)) es key index h.1 (omega (arith, is, long)))

pub indexed-push : (es : List Entry) (key : Bor (List ℕ)) (index : ℕ) → AreIndexed 1 es → index ≡ pool_len (names_in es) → AreIndexed 1 (es ++ (key, index) ∷ [])
unfolding pool_bytes
indexed-push es key index h is = push_indexed 1 es key index h (omega (arith, is))

pub names-push : (es : List Entry) (key : Bor (List ℕ)) (index : ℕ) → names_in (es ++ (key, index) ∷ []) ≡ names_in es ++ key.now ∷ []
names-push es key index = map-append (λ (e : Entry). e.0.now) es ((key, index) ∷ [])

-- ---- a name that is put

pub put_there : (pool : List (List ℕ)) (name : List ℕ) → is_pooled pool name ≡ true → put_name pool name ≡ pool
put_there pool name is = ap (λ (b : Bool). cond b pool (pool ++ name ∷ [])) is

pub put_last : (pool : List (List ℕ)) (name : List ℕ) → is_pooled pool name ≡ false → put_name pool name ≡ pool ++ name ∷ []
put_last pool name is = ap (λ (b : Bool). cond b pool (pool ++ name ∷ [])) is

pub not_pooled : (pool : List (List ℕ)) (name : List ℕ) → is_pooled pool name ≡ false → list_any (same_bytes name) pool ≡ false
not_pooled pool name is = no_other (nat_eq (length name) 0) (list_any (same_bytes name) pool) is
  where
    no_other : (a b : Bool) → a || b ≡ false → b ≡ false
    no_other true b none = absurd (let e : true ≡ false = none in cc)
    no_other false b none = none

-- ---- names in turn

pub names_more : {X : Type 0} (f : X → List (List ℕ)) (pool : List (List ℕ)) (xs : List X) (n : ℕ) (x : X) → n < length xs → x ≡ get_or xs n x
    → pooled_behind pool (flat_map f (drop n xs)) ≡ pooled_behind (pooled_behind pool (f x)) (flat_map f (drop (n + 1) xs))
names_more {X} f pool xs n x within is =
    ap (λ (l : List X). pooled_behind pool (flat_map f l)) (drop_more xs n x within)
    ∙ (ap (λ (y : X). pooled_behind pool (f y ++ flat_map f (drop (n + 1) xs))) (sym is)
    ∙ pooled-append pool (f x) (flat_map f (drop (n + 1) xs)))

pub names_all : {X : Type 0} (f : X → List (List ℕ)) (pool : List (List ℕ)) (xs : List X) (n : ℕ) → length xs ≤ n → pooled_behind pool (flat_map f (drop n xs)) ≡ pool
unfolding pooled_behind
names_all {X} f pool xs n past = ap (λ (l : List X). pooled_behind pool (flat_map f l)) (drop_all n xs past)

-- the names of tables are those of their symbols
pub names_within : {X Y : Type 0} (f : Y → List (List ℕ)) (g : X → List Y) (xs : List X) → flat_map f (flat_map g xs) ≡ flat_map (λ (x : X). flat_map f (g x)) xs
names_within f g [] = refl
names_within f g (x ∷ xs) = flat_map-append f (g x) (flat_map g xs) ∙ ap (λ (l : List (List ℕ)). flat_map f (g x) ++ l) (names_within f g xs)
