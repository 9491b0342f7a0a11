use Rattle.std.proofs.Common.{◌≡◌, None}
use Rattle.cache_check.specs.Bytes.{stray_of}
use Rattle.cache_check.specs.Firsts.{first_below}
use Rattle.cache_check.specs.Steps.Sides.{chain_view, pair_view}
use Rattle.cache_check.proofs.strays.stray_in.Given as goal

abbrev pub invariant-loop-index : goal.invariant-loop-index
invariant-loop-index l = first_below (stray_of (chain_view l.chains) l.pointers l.number (pair_view l.pair)) l.index ≡ None
