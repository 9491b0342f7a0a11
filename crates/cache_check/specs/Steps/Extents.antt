-- The bytes of words, by where they begin and how many they are.
use Rattle.std.specs.Prelude.{ℕ, ◌+◌, Bool, ◌&&◌, nat_le, nat_lt}
use Rattle.split_info.specs.declared.reference.Reference.{Reference}
use Rattle.split_info.specs.References.{width_of}
use Rattle.prebind.specs.declared.resolved.PlacedWord.{PlacedWord}
use Rattle.cache_check.specs.declared.extents.Extent.{Extent}

abbrev pub pointer_extent : PlacedWord → Extent
pointer_extent w = record { at = w.at.address; width = 8 }

abbrev pub reference_extent : Reference → Extent
reference_extent r = record { at = r.from; width = width_of r.kind }

abbrev pub holds : ℕ → Extent → Bool
holds address e = nat_le e.at address && nat_lt address (e.at + e.width)
