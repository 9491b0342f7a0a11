-- Numbers whose last bytes lie behind the end, which count as zeros.
use Rattle.std.proofs.Common.{◌≡◌, ◌≤◌, ◌<◌, ◌+◌, ◌-◌, ◌%◌, ◌^◌, ℕ, min, List, [], ◌∷◌, ◌++◌, length, get_or, take, drop, refl, sym, ap, subst, ◌∙◌, arith, inl, inr}
use Rattle.std.proofs.lemmas.Bool.{cases_lt}
use Rattle.std.proofs.lemmas.List.{get_or-take, get_or-drop, get_or_append_left, get_or-append_right, get_or-replicate, length-take, length-drop, take_rest}
use Rattle.std.proofs.Math.ListN.{get_or-eq_default}
use Rattle.dsc_base.specs.Numbers.{number_at}
use Rattle.dsc_base.proofs.NumberLaws.{number_at-same}

past_end : (xs : List ℕ) (k : ℕ) → length xs ≤ k → get_or xs k 0 ≡ 0
past_end xs k past = get_or-eq_default xs 0 {n = k} past

nothing : number_at 8 [] 0 ≡ 0
unfolding number_at
nothing = refl

-- a number behind the end
pub number_past : (bytes : List ℕ) (at : ℕ) → length bytes ≤ at → number_at 8 bytes at ≡ 0
number_past bytes at past = number_at-same 8 bytes [] at 0 (λ k lt. past_end bytes (at + k) (omega arith) ∙ sym (past_end [] (0 + k) (omega arith))) ∙ nothing

zeros : List ℕ
zeros = 0 ∷ 0 ∷ 0 ∷ 0 ∷ 0 ∷ 0 ∷ 0 ∷ 0 ∷ []

-- a number over the end: its first n bytes are there
pub number_over : (bytes part : List ℕ) (at n : ℕ) → at ≤ length bytes → n ≡ min (length (take (length bytes - at) (drop at bytes))) 8 → part ≡ take n (take (length bytes - at) (drop at bytes))
    → number_at 8 (part ++ drop n (0 ∷ 0 ∷ 0 ∷ 0 ∷ 0 ∷ 0 ∷ 0 ∷ 0 ∷ [])) 0 ≡ number_at 8 bytes at
unfolding zeros
number_over bytes part at n within few is =
    let rest : List ℕ = drop at bytes in
    let same : take (length bytes - at) (drop at bytes) ≡ rest = take_rest bytes at in
    let size : length rest ≡ length bytes - at = length-drop at bytes in
    let count : n ≡ min (length rest) 8 = few ∙ ap (λ (xs : List ℕ). min (length xs) 8) same in
    let front : part ≡ take n rest = is ∙ ap (λ (xs : List ℕ). take n xs) same in
    let long : length part ≡ n = ap length front ∙ (length-take n rest ∙ omega arith) in
    number_at-same 8 (part ++ drop n zeros) bytes 0 at (λ k lt.
    let first : 0 + k ≡ k = omega arith in
    ap (λ (i : ℕ). get_or (part ++ drop n zeros) i 0) first
    ∙ elim (cases_lt k n) [
      | inl inside ↦
          get_or_append_left part (drop n zeros) 0 k (omega arith)
          ∙ (ap (λ (xs : List ℕ). get_or xs k 0) front ∙ (get_or-take n rest k 0 inside ∙ get_or-drop at bytes k 0))
      | inr outside ↦
          let back : n + (k - n) ≡ k = omega arith in
          let ends : length bytes ≤ at + k = omega arith in
          get_or-append_right part (drop n zeros) n k 0 long outside
          ∙ (get_or-drop n zeros (k - n) 0
          ∙ (ap (λ (i : ℕ). get_or zeros i 0) back ∙ (get_or-replicate 8 k 0 0 lt ∙ sym (past_end bytes (at + k) ends))))
    ])

-- the low half of a number of 8 bytes
pub number_low : (bytes : List ℕ) (at : ℕ) → ((k : ℕ) → get_or bytes k 0 < 256) → number_at 8 bytes at % 2 ^ 32 ≡ number_at 4 bytes at
unfolding number_at
number_low bytes at small =
    let byte : (k : ℕ) → get_or (drop at bytes) k 0 < 256 = λ k. subst (λ (v : ℕ). v < 256) (sym (get_or-drop at bytes k 0)) (small (at + k)) in
    omega (arith, byte 0, byte 1, byte 2, byte 3)
