-- Where the chain words of a cache lie: in which image, and in which segment and section of it.
use Rattle.std.specs.Prelude.{ℕ, ◌+◌, Bool, ◌&&◌, nat_eq, List, [], ◌∷◌, Option, Some, None, if◌then◌else◌}
use Rattle.std.specs.List.{list_any}
use Rattle.macho_image.specs.Records.{Seg, Img}
use Rattle.macho_image.specs.Segments.{contains}
use Rattle.bind_ops.specs.Records.{BoundWord}
use Rattle.bind_ops.specs.Clash.{is_skew}
use Rattle.cache_check.specs.Shape.{data_mapping}
use Rattle.cache_check.specs.Views.{View}
use Rattle.extractor.specs.declared.homes.Home.{Home}

-- offsets of chain words count from the start of the data
abbrev pub data_start : View → ℕ
data_start v = (data_mapping v.head.mappings).address

-- a segment of data, which may be read and written, has an address
abbrev pub has_data : ℕ → Seg → Bool
has_data address s = nat_eq s.initprot 3 && contains s address

-- the segment of data in which an address lies, by the numbers of its image and of the segment in it
abbrev pub home_in : ℕ → ℕ → List Seg → ℕ → Option Home
home_in k g [] address = None
home_in k g (s ∷ ss) address = if has_data address s then Some (record { image = k; segment = g }) else home_in k (g + 1) ss address

-- the first of an option and what stands behind it
abbrev pub or_else : Option Home → Option Home → Option Home
or_else None other = other
or_else (Some h) other = Some h

abbrev pub home_from : ℕ → List Img → ℕ → Option Home
home_from k [] address = None
home_from k (i ∷ is) address = or_else (home_in k 0 i.segments address) (home_from (k + 1) is address)

unfoldable pub home_of : List Img → ℕ → Option Home
home_of images address = home_from 0 images address

-- ---- binds

-- a bind shares a byte with the 8 bytes at an address without being there
abbrev pub crosses : ℕ → BoundWord → Bool
crosses address b = is_skew b.at.address address

abbrev pub is_crossed : List BoundWord → ℕ → Bool
is_crossed binds address = list_any (crosses address) binds
