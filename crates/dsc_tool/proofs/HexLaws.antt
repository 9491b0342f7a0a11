-- Hexadecimal digits, the last one behind the others.
use Rattle.std.proofs.Common.{◌≡◌, ◌<◌, ◌+◌, ◌-◌, ◌/◌, ◌%◌, ◌++◌, ◌==◌, ℕ, zero, suc, List, [], ◌∷◌, Bool, true, false, nat_lt, refl, ap, sym, ◌∙◌, arith, append_assoc}
use Rattle.std.proofs.lemmas.Bool.{ne_eqb}
use Rattle.std.specs.Fmt.{digit_glyph, digits, digits_onto}
use Rattle.std.specs.Prelude.{if◌then◌else◌}

abbrev last_digit : ℕ → ℕ
last_digit n = digit_glyph false (n % 16)

-- by whether a digit is the only one
onto_by : (k n : ℕ) (acc : List ℕ) (only : Bool) → (n / 16 == 0) ≡ only
    → digits_onto (suc k) 16 false n acc ≡ (if only then last_digit n ∷ acc else digits_onto k 16 false (n / 16) (last_digit n ∷ acc))
onto_by k n acc only is = ap (λ (b : Bool). if b then last_digit n ∷ acc else digits_onto k 16 false (n / 16) (last_digit n ∷ acc)) is

-- what stands behind the digits
onto_front : (k n : ℕ) (acc : List ℕ) → digits_onto k 16 false n acc ≡ digits_onto k 16 false n [] ++ acc
onto_front zero n acc = refl
onto_front (suc k) n acc =
    elim (n / 16 == 0) as (λ b. (n / 16 == 0) ≡ b → digits_onto (suc k) 16 false n acc ≡ digits_onto (suc k) 16 false n [] ++ acc) [
      | true ↦ λ is. onto_by k n acc true is ∙ ap (λ (l : List ℕ). l ++ acc) (sym (onto_by k n [] true is))
      | false ↦ λ is.
          onto_by k n acc false is
          ∙ (onto_front k (n / 16) (last_digit n ∷ acc)
          ∙ (sym (append_assoc (digits_onto k 16 false (n / 16) []) (last_digit n ∷ []) acc)
          ∙ ap (λ (l : List ℕ). l ++ acc) (sym (onto_front k (n / 16) (last_digit n ∷ [])) ∙ sym (onto_by k n [] false is))))
    ] refl

pub glyph_small : (d : ℕ) → d < 16 → digit_glyph false d < 128
glyph_small d less =
    elim (nat_lt d 10) as (λ b. nat_lt d 10 ≡ b → (if b then 48 + d else 87 + d) < 128) [
      | true ↦ λ is. omega (arith, less)
      | false ↦ λ is. omega (arith, less)
    ] refl

-- one digit alone
pub only_digit : (room n rest c : ℕ) (before middle after added : List ℕ) → 0 < room → rest ≡ n / 16 → rest ≡ 0 → c ≡ last_digit n → added ≡ c ∷ [] → middle ≡ before → after ≡ middle ++ added
    → after ≡ before ++ digits_onto room 16 false n []
only_digit zero n rest c before middle after added some is none same one so_far pushed = absurd (omega (arith, some))
only_digit (suc k) n rest c before middle after added some is none same one so_far pushed =
    let all : digits_onto (suc k) 16 false n [] ≡ last_digit n ∷ [] = onto_by k n [] true (ap (λ (x : ℕ). x == 0) (sym is ∙ none)) in
    pushed ∙ (ap (λ (l : List ℕ). l ++ added) so_far ∙ ap (λ (l : List ℕ). before ++ l) (one ∙ (ap (λ (x : ℕ). x ∷ []) same ∙ sym all)))

not_zero : (x : ℕ) → 0 < x → (x == 0) ≡ false
not_zero x some = ne_eqb x 0 (λ none. absurd (omega (arith, some, none)))

-- one behind others
pub next_digit : (room less n rest c : ℕ) (before middle after added : List ℕ) → less ≡ room - 1 → 0 < room → rest ≡ n / 16 → 0 < rest → c ≡ last_digit n → added ≡ c ∷ []
    → middle ≡ before ++ digits_onto less 16 false rest [] → after ≡ middle ++ added → after ≡ before ++ digits_onto room 16 false n []
next_digit zero less n rest c before middle after added lower some is more same one so_far pushed = absurd (omega (arith, some))
next_digit (suc k) less n rest c before middle after added lower some is more same one so_far pushed =
    let fewer : less ≡ k = omega (arith, lower) in
    let front : List ℕ = digits_onto less 16 false rest [] in
    let all : digits_onto (suc k) 16 false n [] ≡ front ++ (last_digit n ∷ []) =
    onto_by k n [] false (ap (λ (x : ℕ). x == 0) (sym is) ∙ not_zero rest more)
    ∙ (onto_front k (n / 16) (last_digit n ∷ [])
    ∙ ap (λ (l : List ℕ). l ++ (last_digit n ∷ [])) (ap (λ (j : ℕ). digits_onto j 16 false (n / 16) []) (sym fewer) ∙ ap (λ (x : ℕ). digits_onto less 16 false x []) (sym is))) in
    pushed ∙ (ap (λ (l : List ℕ). l ++ added) so_far
    ∙ (append_assoc before front added
    ∙ ap (λ (l : List ℕ). before ++ l) (ap (λ (l : List ℕ). front ++ l) (one ∙ ap (λ (x : ℕ). x ∷ []) same) ∙ sym all)))

pub all_digits : (n : ℕ) → digits_onto 64 16 false n [] ≡ digits 16 false n
unfolding digits
all_digits n = refl
