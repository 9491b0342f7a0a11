-- A part of bytes, or a number in them, spelled again before what follows it.
use Rattle.std.proofs.Common.{◌≡◌, ◌≤◌, ◌<◌, ℕ, zero, suc, ◌+◌, ◌*◌, ◌/◌, ◌%◌, ◌^◌, List, [], ◌∷◌, ◌++◌, take, drop, length, get_or, refl, sym, ap, ap₂, subst, ◌∙◌, arith, inl, inr}
use Rattle.std.proofs.lemmas.List.{get_or-drop, length-drop, take-append-drop, drop-drop}
use Rattle.dsc_base.specs.Numbers.{number_at, little_bytes}
use Rattle.dsc_base.proofs.NumberLaws.{number_at-drop_at}
use Rattle.dsc_base.proofs.SpeltLaws.{first_bytes}

-- a part of bytes before what follows it
pub part_again : (n at : ℕ) (b part rest : List ℕ) → part ≡ take n (drop at b) → rest ≡ drop (at + n) b → part ++ rest ≡ drop at b
part_again n at b part rest is follows =
    ap₂ (λ (x y : List ℕ). x ++ y) is (follows ∙ sym (drop-drop n at b)) ∙ take-append-drop n (drop at b)

-- a number that is read, spelled before what follows it
pub number_again : (w at : ℕ) (b rest : List ℕ) (v : ℕ) → at + w ≤ length b → ((k : ℕ) → get_or b k 0 < 256) → v ≡ number_at w b at → rest ≡ drop (at + w) b → little_bytes w v ++ rest ≡ drop at b
number_again w at b rest v le bytes is follows =
    part_again w at b (little_bytes w v) rest
    (ap (little_bytes w) (is ∙ sym (number_at-drop_at w at b)) ∙ first_bytes w (drop at b) (omega (arith, length-drop at b)) (λ k. subst (λ (n : ℕ). n < 256) (sym (get_or-drop at b k 0)) (bytes (at + k))))
    follows
