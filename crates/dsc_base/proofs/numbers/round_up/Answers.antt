-- A multiple of the unit with less than a unit above n is the least one.
use Rattle.std.proofs.Common.{◌≤◌, ◌<◌, ◌+◌, ◌-◌, ◌%◌, ◌^◌, ℕ, sym, subst, arith}
use Rattle.std.specs.Prelude.{Option, Some, None, IfSome, IfNone}
use Rattle.std.specs.Option.{SomeIff}
use Rattle.dsc_base.specs.Numbers.{IsRoundedUp}
use Rattle.dsc_base.proofs.NumberLaws.{rounded_exact, rounded_above, rounded_least}
use Rattle.dsc_base.proofs.numbers.round_up.Goals as goal

-- what a checked sum that is the rounding says of the rounding
sum_is : (n unit m : ℕ) (sum : Option ℕ) → IsRoundedUp n unit m → SomeIff sum (m < 2 ^ 64) m → IfSome sum (λ v. IsRoundedUp n unit v)
sum_is n unit m None up is = tt
sum_is n unit m (Some v) up is = subst (λ (u : ℕ). IsRoundedUp n unit u) (sym is.1) up

none_is : (n unit m : ℕ) (sum : Option ℕ) → IsRoundedUp n unit m → SomeIff sum (m < 2 ^ 64) m → IfNone sum ((v : ℕ) → IsRoundedUp n unit v → 2 ^ 64 ≤ v)
none_is n unit m None up is = λ v other. omega (arith, is, rounded_least n unit m v up other)
none_is n unit m (Some v) up is = tt

pub returns-then-rest-eq0-clause-value : goal.returns-then-rest-eq0-clause-value
returns-then-rest-eq0-clause-value c = rounded_exact c.args.n c.args.unit c.if-rest-eq0.true

pub returns-else-rest-eq0-clause-value : goal.returns-else-rest-eq0-clause-value
returns-else-rest-eq0-clause-value c =
    sum_is c.args.n c.args.unit (c.args.n + (c.args.unit - c.args.n % c.args.unit)) c.checked_add.result
    (rounded_above c.args.n c.args.unit c.requires c.if-rest-eq0.false) c.checked_add.ensures

pub returns-else-rest-eq0-clause-none : goal.returns-else-rest-eq0-clause-none
returns-else-rest-eq0-clause-none c =
    none_is c.args.n c.args.unit (c.args.n + (c.args.unit - c.args.n % c.args.unit)) c.checked_add.result
    (rounded_above c.args.n c.args.unit c.requires c.if-rest-eq0.false) c.checked_add.ensures
