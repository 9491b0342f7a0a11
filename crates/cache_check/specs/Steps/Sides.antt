-- What the code holds by references, as the definitions see it.
use Rattle.cache_check.specs.declared.chains.Chains.{Chains as HeldChains}
use Rattle.cache_check.specs.declared.pairs.Pair.{Pair as HeldPair}
use Rattle.cache_check.specs.Bytes.{Chains, Pair}

abbrev pub chain_view : HeldChains → Chains
chain_view c = record { words = c.words.now; start = c.start }

abbrev pub pair_view : HeldPair → Pair
pair_view p = record { own = p.own.now; here = p.here.now; cached = p.cached.now; there = p.there.now }
