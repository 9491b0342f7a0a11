-- Tables that are spelled entry by entry are read back.
use Rattle.std.proofs.Common.{◌≡◌, ◌<◌, ℕ, zero, suc, ◌+◌, ◌-◌, ◌*◌, ◌/◌, ◌^◌, List, [], ◌∷◌, ◌++◌, length, map, get_or, refl, ap, ap₂, ◌∙◌, arith, append_assoc, length-append}
use Rattle.std.specs.List.{All, flat_map, range_with_len}
use Rattle.std.proofs.lemmas.List.{get_or-append_right}
use Rattle.std.proofs.lemmas.List.Elements.{All-head, All-tail}
use Rattle.dsc_base.specs.Numbers.{number_at, little_bytes}
use Rattle.dsc_base.proofs.NumberLaws.{number_at-append_right, number_at-little_bytes, length-little_bytes}
use Rattle.macho_image.specs.Nlists.{Nlist, nlist_at, nlists_of, indirect_of}
use Rattle.nlist_table.specs.Spelling.{nlist_bytes, FitsNlist}

map_further : {X : Type 0} (f g : ℕ → X) (a n : ℕ) → ((k : ℕ) → f (k + 1) ≡ g k) → map f (range_with_len (a + 1) n) ≡ map g (range_with_len a n)
map_further f g a zero same = refl
map_further f g a (suc n) same = ap₂ (λ x xs. x ∷ xs) (same a) (map_further f g (a + 1) n same)

-- an entry behind n bytes
nlist_behind : (front rest : List ℕ) (n at place : ℕ) → length front ≡ n → place ≡ n + at → nlist_at (front ++ rest) place ≡ nlist_at rest at
unfolding nlist_at
nlist_behind front rest n at place long is = λ i. record {
  strx = number 4 0 place at is i;
  kind = byte (place + 4) (at + 4) (omega arith) i;
  section = byte (place + 5) (at + 5) (omega arith) i;
  desc = number 2 6 (place + 6) (at + 6) (omega arith) i;
  value = number 8 8 (place + 8) (at + 8) (omega arith) i;
}
  where
    number : (w d p q : ℕ) → p ≡ n + q → number_at w (front ++ rest) p ≡ number_at w rest q
    number w d p q e =
        let back : p - n ≡ q = omega arith in
        number_at-append_right w front rest n p long (omega arith) ∙ ap (number_at w rest) back

    byte : (p q : ℕ) → p ≡ n + q → get_or (front ++ rest) p 0 ≡ get_or rest q 0
    byte p q e =
        let back : p - n ≡ q = omega arith in
        get_or-append_right front rest n p 0 long (omega arith) ∙ ap (λ (k : ℕ). get_or rest k 0) back

pub nlists_of-cons : (piece rest : List ℕ) → length piece ≡ 16 → nlists_of (piece ++ rest) ≡ nlist_at (piece ++ rest) 0 ∷ nlists_of rest
nlists_of-cons piece rest long =
    let total = length-append piece rest in
    let count : length (piece ++ rest) / 16 ≡ suc (length rest / 16) = omega (arith, total) in
    ap (λ (n : ℕ). map (λ k. nlist_at (piece ++ rest) (16 * k)) (range_with_len 0 n)) count
    ∙ ap (λ (es : List Nlist). nlist_at (piece ++ rest) 0 ∷ es)
    (map_further (λ k. nlist_at (piece ++ rest) (16 * k)) (λ k. nlist_at rest (16 * k)) 0 (length rest / 16)
    (λ k. nlist_behind piece rest 16 (16 * k) (16 * (k + 1)) long (omega arith)))

pub indirect_of-cons : (piece rest : List ℕ) → length piece ≡ 4 → indirect_of (piece ++ rest) ≡ number_at 4 (piece ++ rest) 0 ∷ indirect_of rest
indirect_of-cons piece rest long =
    let total = length-append piece rest in
    let count : length (piece ++ rest) / 4 ≡ suc (length rest / 4) = omega (arith, total) in
    ap (λ (n : ℕ). map (λ k. number_at 4 (piece ++ rest) (4 * k)) (range_with_len 0 n)) count
    ∙ ap (λ (xs : List ℕ). number_at 4 (piece ++ rest) 0 ∷ xs)
    (map_further (λ k. number_at 4 (piece ++ rest) (4 * k)) (λ k. number_at 4 rest (4 * k)) 0 (length rest / 4)
    (λ k.
    let back : 4 * (k + 1) - 4 ≡ 4 * k = omega arith in
    number_at-append_right 4 piece rest 4 (4 * (k + 1)) long (omega arith) ∙ ap (number_at 4 rest) back))

-- what is spelled is read back
pub length-nlist_bytes : (e : Nlist) → length (nlist_bytes e) ≡ 16
length-nlist_bytes e =
    let low = length-little_bytes 4 e.strx in
    let middle = length-little_bytes 2 e.desc in
    let high = length-little_bytes 8 e.value in
    let tail = length-append (little_bytes 2 e.desc) (little_bytes 8 e.value) in
    omega (arith, length-append (little_bytes 4 e.strx) (e.kind ∷ (e.section ∷ (little_bytes 2 e.desc ++ little_bytes 8 e.value))), low, middle, high, tail)

pub nlist_back : (e : Nlist) (rest : List ℕ) → FitsNlist e → nlist_at (nlist_bytes e ++ rest) 0 ≡ e
unfolding nlist_at
nlist_back e rest fits =
    let low = little_bytes 4 e.strx in
    let middle = little_bytes 2 e.desc in
    let high = little_bytes 8 e.value in
    let numbers = middle ++ (high ++ rest) in
    let bytes = e.kind ∷ (e.section ∷ numbers) in
    let whole : nlist_bytes e ++ rest ≡ low ++ bytes =
    append_assoc low (e.kind ∷ (e.section ∷ (middle ++ high))) rest ∙ ap (λ (l : List ℕ). low ++ (e.kind ∷ (e.section ∷ l))) (append_assoc middle high rest) in
    let long : length low ≡ 4 = length-little_bytes 4 e.strx in
    ap (λ (l : List ℕ). nlist_at l 0) whole ∙ (λ i. record {
      strx = number_at-little_bytes 4 e.strx bytes fits.strx i;
      kind = get_or-append_right low bytes 4 4 0 long (omega arith) i;
      section = get_or-append_right low bytes 4 5 0 long (omega arith) i;
      desc =
          (number_at-append_right 2 low bytes 4 6 long (omega arith)
          ∙ (number_at-append_right 2 (e.kind ∷ (e.section ∷ [])) numbers 2 2 refl (omega arith) ∙ number_at-little_bytes 2 e.desc (high ++ rest) fits.desc)) i;
      value =
          (number_at-append_right 8 low bytes 4 8 long (omega arith)
          ∙ (number_at-append_right 8 (e.kind ∷ (e.section ∷ [])) numbers 2 4 refl (omega arith)
          ∙ (number_at-append_right 8 middle (high ++ rest) 2 2 (length-little_bytes 2 e.desc) (omega arith) ∙ number_at-little_bytes 8 e.value rest fits.value))) i;
    })

pub nlists_back : (es : List Nlist) → All FitsNlist es → nlists_of (flat_map nlist_bytes es) ≡ es
nlists_back [] fit = refl
nlists_back (e ∷ es) fit =
    nlists_of-cons (nlist_bytes e) (flat_map nlist_bytes es) (length-nlist_bytes e)
    ∙ ap₂ (λ (x : Nlist) (xs : List Nlist). x ∷ xs) (nlist_back e (flat_map nlist_bytes es) (All-head FitsNlist e es fit)) (nlists_back es (All-tail FitsNlist e es fit))

pub indirect_back : (xs : List ℕ) → All (λ x. x < 2 ^ 32) xs → indirect_of (flat_map (little_bytes 4) xs) ≡ xs
indirect_back [] fit = refl
indirect_back (x ∷ xs) fit =
    indirect_of-cons (little_bytes 4 x) (flat_map (little_bytes 4) xs) (length-little_bytes 4 x)
    ∙ ap₂ (λ (y : ℕ) (ys : List ℕ). y ∷ ys) (number_at-little_bytes 4 x (flat_map (little_bytes 4) xs) (All-head (λ y. y < 2 ^ 32) x xs fit)) (indirect_back xs (All-tail (λ y. y < 2 ^ 32) x xs fit))
