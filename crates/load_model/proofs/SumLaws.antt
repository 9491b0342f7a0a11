-- Sums that are no more than a number has room for decide as the sums do.
use Rattle.std.proofs.Common.{◌≡◌, ◌≤◌, ◌<◌, ℕ, ◌-◌, ◌^◌, Bool, ◌||◌, nat_lt, true, false, if◌then◌else◌, Some, None, sym, ap, ap₂, ◌∙◌, arith, inl, inr}
use Rattle.std.specs.Prelude.{min}
use Rattle.std.proofs.lemmas.Bool.{cases_lt, lt-ltb, le-ltb}
use Rattle.dsc_base.specs.declared.fault.Site.{Site}
use Rattle.dsc_base.specs.declared.rule.Rule.TheVariants.{SetTooLarge}
use Rattle.dsc_base.specs.Limits.{set_record_limit, export_names_limit}
use Rattle.load_model.specs.Sums.{sums_break}

capped_lt : (limit x y : ℕ) → limit < 2 ^ 64 - 1 → y ≡ min x (2 ^ 64 - 1) → nat_lt limit y ≡ nat_lt limit x
capped_lt limit x y low capped = elim (cases_lt limit x) [
  | inl over ↦ lt-ltb limit y (omega (arith, over, capped, low)) ∙ sym (lt-ltb limit x over)
  | inr within ↦ le-ltb limit y (omega (arith, within, capped)) ∙ sym (le-ltb limit x within)
]

pub capped_sums : (r n r' n' : ℕ) → r' ≡ min r (2 ^ 64 - 1) → n' ≡ min n (2 ^ 64 - 1) → sums_break r' n' ≡ sums_break r n
unfolding sums_break
capped_sums r n r' n' records names =
    ap₂ (λ (a b : Bool). if a || b then Some (record { rule = SetTooLarge; at = 0 }) else None)
    (capped_lt set_record_limit r r' (omega arith) records) (capped_lt export_names_limit n n' (omega arith) names)

-- sums that break no rule are within the limits
pub record AreFew (r n : ℕ) : Type 0 where
  pub records : r ≤ set_record_limit
  pub names : n ≤ export_names_limit

pub few_sums : (r n : ℕ) → sums_break r n ≡ None → AreFew r n
unfolding sums_break
few_sums r n none = elim (cases_lt set_record_limit r) [
  | inl over ↦
      let is : (if nat_lt set_record_limit r || nat_lt export_names_limit n then Some (record { rule = SetTooLarge; at = 0 }) else None) ≡ (if true || nat_lt export_names_limit n then Some (record { rule = SetTooLarge; at = 0 }) else None) =
      ap (λ (a : Bool). if a || nat_lt export_names_limit n then Some (record { rule = SetTooLarge; at = 0 }) else None) (lt-ltb set_record_limit r over) in
      absurd (some_none (record { rule = SetTooLarge; at = 0 }) (sym is ∙ none))
  | inr within ↦ elim (cases_lt export_names_limit n) [
    | inl over ↦
        let is : (if nat_lt set_record_limit r || nat_lt export_names_limit n then Some (record { rule = SetTooLarge; at = 0 }) else None) ≡ (if false || true then Some (record { rule = SetTooLarge; at = 0 }) else None) =
        ap₂ (λ (a b : Bool). if a || b then Some (record { rule = SetTooLarge; at = 0 }) else None) (le-ltb set_record_limit r within) (lt-ltb export_names_limit n over) in
        absurd (some_none (record { rule = SetTooLarge; at = 0 }) (sym is ∙ none))
    | inr short ↦ record { records = within; names = short }
  ]
]
  where
    some_none : (s : Site) → Some s ≡ None → ⊥
    some_none s e = cc

-- a capped sum that is small is the sum
pub exact_sum : (r x : ℕ) → r ≡ min x (2 ^ 64 - 1) → r ≤ 2 ^ 63 → r ≡ x
exact_sum r x capped small = omega arith
