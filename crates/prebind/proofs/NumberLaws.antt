-- The number by which a word leads to its target leads there, wherever segments start.
use Rattle.std.proofs.Common.{◌≡◌, ◌<◌, ℕ, ◌+◌, ◌%◌, ◌^◌, true, refl, arith}
use Rattle.std.proofs.lemmas.Bool.Decides.{nat_tests}
use Rattle.macho_image.specs.Places.{wrap, above}
use Rattle.split_info.specs.declared.reference.RefKind.{RefKind}
use Rattle.split_info.specs.declared.reference.RefKind.TheVariants.{Pointer64, Delta32, Delta64, ImageOff32}
use Rattle.prebind.specs.declared.resolved.WordTarget.{WordTarget}
use Rattle.prebind.specs.declared.resolved.WordTarget.TheVariants.{Place, Constant}
use Rattle.prebind.specs.Numbers.{Starts, extended, led_to, LeadsTo, counted_to, cut_to, number_to, fits, CanLead}
use Rattle.macho_image.proofs.AboveLaws.{wrap_fits}

-- a distance that is counted is gone back
counted_back : (a x : ℕ) → a < 2 ^ 64 → x < 2 ^ 64 → wrap (a + above a x) ≡ x
unfolding above
counted_back a x low small = omega arith

-- and one in 4 bytes with a sign
signed_back : (a x : ℕ) → a < 2 ^ 64 → x < 2 ^ 64 → fits Delta32 (above a x) ≡ true → wrap (a + extended (above a x % 2 ^ 32)) ≡ x
unfolding fits above
signed_back a x low small fit = grind (arith, nat_tests)

unsigned_back : (a x : ℕ) → a < 2 ^ 64 → x < 2 ^ 64 → fits ImageOff32 (above a x) ≡ true → wrap (a + above a x % 2 ^ 32) ≡ x
unfolding fits above
unsigned_back a x low small fit = grind (arith, nat_tests)

pub number_leads : (starts : Starts) (location header : ℕ) (kind : RefKind) (target : WordTarget) → location < 2 ^ 64 → header < 2 ^ 64 → CanLead starts location header kind target → LeadsTo starts location header kind (number_to starts location header kind target) target
unfolding led_to counted_to cut_to number_to
number_leads starts location header Pointer64 (Place k g d) low low_header can = refl
number_leads starts location header Delta32 (Place k g d) low low_header can = signed_back location (wrap (starts k g + d)) low (wrap_fits (starts k g + d)) can
number_leads starts location header Delta64 (Place k g d) low low_header can = counted_back location (wrap (starts k g + d)) low (wrap_fits (starts k g + d))
number_leads starts location header ImageOff32 (Place k g d) low low_header can = unsigned_back header (wrap (starts k g + d)) low_header (wrap_fits (starts k g + d)) can
number_leads starts location header kind (Constant c) low low_header can = refl
