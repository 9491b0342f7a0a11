-- Names of a string table end before a NUL, within 16,384 bytes.
use Rattle.std.proofs.Common.{◌≡◌, ◌≤◌, ◌<◌, ◌+◌, ◌-◌, ℕ, suc, Bool, true, false, cond, nat_eq, List, [], ◌∷◌, ◌++◌, take, drop, length, get_or, refl, sym, ap, subst, ◌∙◌, arith, length-append, Option, Some, None}
use Rattle.std.specs.Prelude.{option_map, is_none, unwrap_or}
use Rattle.std.specs.List.{All, position}
use Rattle.std.proofs.lemmas.Bool.Decides.{nat_tests}
use Rattle.std.proofs.lemmas.Bool.{cond-false, ne_eqb}
use Rattle.std.proofs.lemmas.List.{length-take, length-take-le, get_or-take, drop_at}
use Rattle.std.proofs.Math.ListN.{get_or-append}
use Rattle.std.proofs.Math.Seq.{get_or-append_seam, take-append_seam, take-append-add}
use Rattle.std.proofs.lemmas.List.Quantifiers.{position-Some}
use Rattle.memchr.specs.Find.{IsFirstByte, is_byte}
use Rattle.macho_image.specs.Nlists.{before_nul, name_at}
use Rattle.nlist_table.specs.Kept.{IsName}
use Rattle.nlist_table.proofs.ListLaws.{position_found, position_absent}

failed : (b : Bool) → ((b ≡ true) → ⊥) → b ≡ false
failed true h = absurd (h refl)
failed false h = refl

-- the answer of a search for a NUL
pub nul_position : (bytes : List ℕ) (r : Option ℕ) → IsFirstByte (is_byte 0) bytes r → r ≡ position (λ x. nat_eq x 0) bytes
nul_position bytes None h = sym (position_absent (λ x. nat_eq x 0) bytes 0 (λ k lt. failed (nat_eq (get_or bytes k 0) 0) (h k (omega arith) lt)))
nul_position bytes (Some i) h =
    sym (position_found (λ x. nat_eq x 0) bytes i 0 h.0.high (λ k lt. failed (nat_eq (get_or bytes k 0) 0) (h.0.before k (omega arith) lt)) h.1)

-- the text before a NUL is a name
some_text : (o : Option ℕ) (bytes name : List ℕ) → option_map (λ n. take n bytes) o ≡ Some name → (n : ℕ) × (o ≡ Some n) × (take n bytes ≡ name)
some_text None bytes name e = absurd (cc)
some_text (Some n) bytes name e = (n, refl, cc)

text_name : (bytes name : List ℕ) → length bytes ≤ 16384 → before_nul bytes ≡ Some name → IsName name
text_name bytes name short is =
    let text = some_text (position (λ x. nat_eq x 0) bytes) bytes name is in
    let found = position-Some (λ x. nat_eq x 0) bytes text.0 0 text.1 in
    let long : length (take text.0 bytes) ≡ text.0 = length-take-le text.0 bytes (omega (arith, found.0)) in
    subst IsName text.2 (record {
      short = omega (arith, found.0, long);
      plain =
          λ k d lt.
          let under : k < text.0 = omega (arith, long) in
          let inside : k < length bytes = omega (arith, found.0) in
          let here : nat_eq (get_or bytes k d) 0 ≡ false = (position-Some (λ x. nat_eq x 0) bytes text.0 d text.1).2 k under in
          let some : 0 < get_or bytes k d = grind (arith, nat_tests) in
          subst (λ (x : ℕ). 0 < x) (sym (get_or-take text.0 bytes k d under)) some;
    })

no_text : IsName []
no_text = record { short = omega arith; plain = λ k d lt. absurd (omega arith) }

by_index : (b : Bool) (bytes name : List ℕ) → length bytes ≤ 16384 → cond b (Some []) (before_nul bytes) ≡ Some name → IsName name
by_index true bytes name short e = let same : [] ≡ name = cc in subst IsName same no_text
by_index false bytes name short e = text_name bytes name short e

pub name_is : (strings : List ℕ) (index : ℕ) (name : List ℕ) → name_at strings index ≡ Some name → IsName name
unfolding name_at
name_is strings index name is =
    by_index (nat_eq index 0) (take 16384 (drop index strings)) name (omega (arith, length-take 16384 (drop index strings))) is

-- a name that isn't missing
pub found_name : (o : Option (List ℕ)) → is_none o ≡ false → o ≡ Some (unwrap_or o [])
found_name None e = absurd (cc)
found_name (Some name) e = refl

-- a name that stands in the strings before a NUL is read back
text_back : (name more : List ℕ) → All (λ x. 0 < x) name → before_nul (name ++ (0 ∷ more)) ≡ Some name
text_back name more plain =
    let bytes = name ++ (0 ∷ more) in
    let long : length bytes ≡ length name + suc (length more) = length-append name (0 ∷ more) in
    let seam : get_or bytes (length name) 0 ≡ 0 = get_or-append_seam name 0 more 0 in
    let found : position (λ x. nat_eq x 0) bytes ≡ Some (length name) =
    position_found (λ x. nat_eq x 0) bytes (length name) 0 (omega arith)
    (λ k lt.
    let same = get_or-append name (0 ∷ more) 0 k lt in
    let some = plain k 0 lt in
    ne_eqb (get_or bytes k 0) 0 (λ e. omega (arith, same, some, e)))
    (ap (λ (x : ℕ). nat_eq x 0) seam) in
    ap (λ (o : Option ℕ). option_map (λ n. take n bytes) o) found ∙ ap (λ (l : List ℕ). let o : Option (List ℕ) = Some l in o) (take-append_seam name (0 ∷ more))

pub name_back : (front name rest : List ℕ) (index : ℕ) → length front ≡ index → 0 < index → IsName name → name_at (front ++ (name ++ (0 ∷ rest))) index ≡ Some name
unfolding name_at
name_back front name rest index long some is =
    let left = 16384 - length name - 1 in
    let short = is.short in
    let room : 16384 ≡ length name + suc left = omega arith in
    let window : take 16384 (drop index (front ++ (name ++ (0 ∷ rest)))) ≡ name ++ (0 ∷ take left rest) =
    ap (λ (l : List ℕ). take 16384 l) (drop_at front (name ++ (0 ∷ rest)) index long)
    ∙ (ap (λ (n : ℕ). take n (name ++ (0 ∷ rest))) room ∙ take-append-add name (0 ∷ rest) (suc left)) in
    cond-false (nat_eq index 0) (Some []) (before_nul (take 16384 (drop index (front ++ (name ++ (0 ∷ rest)))))) (ne_eqb index 0 (λ e. omega (arith, e)))
    ∙ (ap before_nul window ∙ text_back name (take left rest) is.plain)
