-- Sets whose symbols lead to the same: what a resolution depends on.
use Rattle.std.specs.Prelude.{◌≡◌, ℕ, map, Option, Some, None, if◌then◌else◌}
use Rattle.macho_image.specs.Records.{Seg}
use Rattle.macho_image.specs.Rules.{is_linkedit_segment}
use Rattle.prebind.specs.Sets.{ImageSet}
use Rattle.prebind.specs.Places.{exports_in, export_break}
use Rattle.macho_image.specs.Segments.{header_address, segments_at}

-- the start and the size of a segment
abbrev pub extent : Seg → ℕ × ℕ
extent s = (s.vmaddr, s.vmsize)

-- those of a segment other than `__LINKEDIT`
abbrev pub body_extent : Seg → Option (ℕ × ℕ)
body_extent s = if is_linkedit_segment s then None else Some (extent s)

-- two sets have the same links, exports and header addresses
pub record AgreeOnExports (a b : ImageSet) : Type 0 where
  pub links : a.links ≡ b.links
  pub exports : exports_in a.streams ≡ exports_in b.streams
  pub headers : (k : ℕ) → header_address (segments_at a.images k) ≡ header_address (segments_at b.images k)

-- and each image's segments start at the same addresses and have the same sizes
abbrev pub HaveSameSegments : ImageSet → ImageSet → Type 0
HaveSameSegments a b = (k : ℕ) → map extent (segments_at a.images k) ≡ map extent (segments_at b.images k)

-- or all of them but `__LINKEDIT` do
abbrev pub HaveSameBodies : ImageSet → ImageSet → Type 0
HaveSameBodies a b = (k : ℕ) → map body_extent (segments_at a.images k) ≡ map body_extent (segments_at b.images k)

-- rule 131 holds nowhere
abbrev pub HaveExportsInside : ImageSet → Type 0
HaveExportsInside set = (k : ℕ) → export_break set k ≡ None
