-- Offsets of exports, as they are moved by the segments of a file in an index.
use Rattle.std.specs.Prelude.{ℕ, ◌+◌}
use Rattle.macho_image.specs.Places.{wrap}
use Rattle.macho_image.specs.Index.{found_in}
use Rattle.cache_check.specs.declared.exports.Moving.{Moving}
use Rattle.cache_check.specs.Differences.{own_start, moved_place}

abbrev pub moved_by : Moving → ℕ → ℕ
moved_by m offset = moved_place (own_start m.segments.now) m.to offset (found_in m.places (wrap (m.from + offset)))
