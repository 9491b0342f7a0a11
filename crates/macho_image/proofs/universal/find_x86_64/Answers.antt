use Rattle.std.proofs.Common.{◌≡◌, ◌≤◌, ◌+◌, ◌-◌, ◌*◌, ap, arith, suc, false, length, length-drop}
use Rattle.std.proofs.lemmas.Bool.Decides.{nat_tests}
use Rattle.macho_image.specs.Universal.{is_x86_64}
use Rattle.macho_image.proofs.ArchLaws.{entry_passed}
use Rattle.macho_image.proofs.universal.find_x86_64.Goals as goal

pub loop-preserved : goal.loop-preserved
loop-preserved c =
    let more : c.args.count - c.loop.counter ≡ suc (c.args.count - (c.loop.counter + 1)) = omega arith in
    let room : 20 * (c.args.count - (c.loop.counter + 1)) ≤ length c.behind-rest.result.now = omega (arith, ap length c.behind-rest.ensures, length-drop 20 c.loop.rest.now, c.loop.invariant.0) in
    let no = c.if-arch-eq-CPU_TYPE_X86_64.false in
    let other : is_x86_64 c.arch_fields-arch.result ≡ false = grind (arith, nat_tests) in
    (room, entry_passed _ _ _ _ _ _ c.loop.invariant.1 more c.arch_fields-arch.ensures c.behind-rest.ensures other)
