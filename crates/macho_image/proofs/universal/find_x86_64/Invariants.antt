use Rattle.std.proofs.Common.{◌≡◌, ◌≤◌, ◌-◌, ◌*◌, length}
use Rattle.std.specs.Prelude.{find}
use Rattle.macho_image.specs.Universal.{archs_in, is_x86_64}
use Rattle.macho_image.proofs.universal.find_x86_64.Given as goal

abbrev pub invariant-loop : goal.invariant-loop
invariant-loop l = (20 * (l.count - l.counter) ≤ length l.rest) × (find is_x86_64 (archs_in l.count l.table) ≡ find is_x86_64 (archs_in (l.count - l.counter) l.rest))
