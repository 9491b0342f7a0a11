-- The words of a file that is matched with its cached image.
use Rattle.std.specs.Prelude.{Option}
use Rattle.prebind.specs.Words.{Word}
use Rattle.cache_check.specs.declared.matching.Matching.{Matching}
use Rattle.cache_check.specs.declared.mismatch.Mismatch.{Mismatch}
use Rattle.cache_check.specs.Bytes.{earlier, word_mismatch}
use Rattle.cache_check.specs.Differences.{cached_starts}
use Rattle.cache_check.specs.Steps.Sides.{chain_view}

abbrev pub differs : Matching → Word → Option Mismatch
differs m w = word_mismatch (chain_view m.chains) (cached_starts m.all.now) m.file.now m.cached.now w

abbrev pub sooner : Matching → Option Mismatch → Word → Option Mismatch
sooner m best w = earlier best (differs m w)
