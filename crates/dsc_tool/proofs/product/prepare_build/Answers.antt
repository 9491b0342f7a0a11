use Rattle.std.proofs.Common.{◌≡◌, ◌≤◌, length, arith}
use Rattle.dsc_tool.proofs.InputLaws.{read_count}
use Rattle.dsc_tool.proofs.product.prepare_build.Goals as goal

pub overflow_cast-len : goal.overflow_cast-len
overflow_cast-len g c =
    let few : length c.args.inputs.now ≤ 4096 = c.requires.few.1 in
    let count : length c.in_ok-files.files.items ≡ length c.args.inputs.now = read_count (g.S.Store.files c.args.store.now) c.args.inputs.now c.in_ok-files.files.items c.in_ok-files.ensures.read in
    omega (arith, few, count, c.len.ensures, c.in_ok-files.files.ok)
