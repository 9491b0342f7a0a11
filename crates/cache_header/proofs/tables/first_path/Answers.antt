use Rattle.std.proofs.Common.{arith}
use Rattle.cache_header.proofs.PathLaws.{path_place-first}
use Rattle.cache_header.proofs.tables.first_path.Goals as goal

pub returns : goal.returns
returns c = omega (arith, path_place-first c.args.images.now)
