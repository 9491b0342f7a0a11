use Rattle.std.proofs.Common.{◌≤◌, length, ap, arith}
use Rattle.cache_header.specs.Records.{Entry}
use Rattle.dsc_base.proofs.TextLaws.{IsPlain, plain_is}
use Rattle.cache_header.proofs.PathLaws.{length-path_bytes}
use Rattle.cache_header.proofs.tables.path_room.Goals as goal
use Rattle.cache_header.proofs.tables.path_room.Goals.{After-as_slice}

short : (c : After-as_slice) → length c.as_slice.result.now ≤ 1024
short c =
    let is : IsPlain c.args.image.now.path = plain_is c.args.image.now.path c.requires in
    omega (arith, is.short, ap length c.as_slice.ensures, ap (λ (e : Entry). length e.path) c.image.view_is)

pub overflow_cast-result : goal.overflow_cast-result
overflow_cast-result c = omega (arith, short c)

pub overflow_add-result : goal.overflow_add-result
overflow_add-result c = omega (arith, short c)

pub returns : goal.returns
returns c = omega (arith, length-path_bytes c.args.image.now, ap length c.as_slice.ensures, ap (λ (e : Entry). length e.path) c.image.view_is)
