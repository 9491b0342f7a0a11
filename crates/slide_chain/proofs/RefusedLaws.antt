-- When more extras are needed than starts can lead to.
use Rattle.std.proofs.Common.{◌≡◌, ◌<◌, ◌≤◌, ℕ, List, length, sym, ap, refl, inl, inr, ◌∙◌, arith}
use Rattle.std.specs.Prelude.{nat_lt, Some, None, option_map}
use Rattle.std.proofs.lemmas.Bool.{lt-ltb, le-ltb, cond-true, cond-false, cases_lt}
use Rattle.dsc_base.specs.Refusals.{broken, in_image}
use Rattle.dsc_base.specs.declared.rule.Rule.TheVariants.{TooManyExtras}
use Rattle.slide_chain.specs.Making.{info_of, extras_over, extras_site, chains_break}
use Rattle.slide_chain.proofs.ApartLaws.{some_not_none}

-- more extras than starts can lead to are refused with their number
pub many_refused : (bits size n : ℕ) (ws : List ℕ) → n ≡ length (info_of bits size ws).extras → 0x4000 < n → extras_site bits size ws ≡ Some record { rule = TooManyExtras; at = n }
unfolding extras_over
many_refused bits size n ws is many =
    let count : ℕ = length (info_of bits size ws).extras in
    ap (broken TooManyExtras) (cond-true (nat_lt 0x4000 count) (Some count) None (lt-ltb 0x4000 count (omega (arith, is, many))) ∙ ap (λ (k : ℕ). Some k) (sym is))

-- and no others are
pub few_accepted : (bits size : ℕ) (ws : List ℕ) → length (info_of bits size ws).extras ≤ 0x4000 → extras_site bits size ws ≡ None
unfolding extras_over
few_accepted bits size ws few =
    let count : ℕ = length (info_of bits size ws).extras in
    ap (broken TooManyExtras) (cond-false (nat_lt 0x4000 count) (Some count) None (le-ltb 0x4000 count few))

-- nothing is refused only where starts can lead to all extras
pub accepted_few : (bits size : ℕ) (ws : List ℕ) → chains_break bits size ws ≡ None → length (info_of bits size ws).extras ≤ 0x4000
unfolding extras_over
accepted_few bits size ws none =
    let count : ℕ = length (info_of bits size ws).extras in
    elim (cases_lt 0x4000 count) [
      | inl many ↦ absurd (some_not_none (sym (ap (option_map (in_image 0)) (many_refused bits size count ws refl many)) ∙ none))
      | inr few ↦ few
    ]
