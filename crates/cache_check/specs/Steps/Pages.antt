-- The pages of a cache that segments lie in, counted from the start of the shared region.
use Rattle.std.specs.Prelude.{◌≡◌, ◌<◌, ℕ, ◌+◌, ◌-◌, ◌*◌, ◌/◌, ◌%◌, min, Bool, true, false, not, ◌&&◌, ◌||◌, nat_le, nat_lt, List, ◌++◌, length, take, drop, replicate, slice_index_or}
use Rattle.std.specs.List.{list_any, AllByRecursion}
use Rattle.dsc_base.specs.Region.{region_start}
use Rattle.macho_image.specs.Records.{Seg}
use Rattle.macho_image.specs.Rules.{is_linkedit_segment}
use Rattle.cache_header.specs.declared.head.Mapping.{Mapping}
use Rattle.cache_check.specs.Images.{is_placed}

-- a segment has the first address of a page
abbrev pub covers : ℕ → Seg → Bool
covers p s = nat_le s.vmaddr (region_start + 4096 * p) && nat_lt (region_start + 4096 * p) (s.vmaddr + s.vmsize)

-- of n pages, the first one in which a segment lies, and the one behind the last
unfoldable pub first_page : ℕ → Seg → ℕ
first_page n s = min n ((s.vmaddr - region_start) / 4096)

unfoldable pub end_page : ℕ → Seg → ℕ
end_page n s = min n ((s.vmaddr + s.vmsize - region_start + 4095) / 4096)

-- one of these pages is marked
unfoldable pub is_marked : List Bool → Seg → Bool
is_marked marks s =
    list_any (λ (m : Bool). m) (take (end_page (length marks) s - first_page (length marks) s) (drop (first_page (length marks) s) marks))

-- the marks with these pages marked
unfoldable pub marked : List Bool → Seg → List Bool
marked marks s =
    take (first_page (length marks) s) marks
    ++ (replicate (end_page (length marks) s - first_page (length marks) s) true ++ drop (end_page (length marks) s) marks)

-- each page is marked that one of the segments covers
abbrev pub AreMarked : List Bool → List Seg → Type 0
AreMarked marks segments = (p : ℕ) → p < length marks → slice_index_or marks p false ≡ list_any (covers p) segments

-- a segment besides `__LINKEDIT` that isn't placed or lies in a marked page
unfoldable pub is_taken : List Mapping → List Bool → Seg → Bool
is_taken mappings marks s = not (is_linkedit_segment s) && (not (is_placed mappings s) || is_marked marks s)

-- segments begin at the start of a page
abbrev pub AreAligned : List Seg → Type 0
AreAligned segments = AllByRecursion (λ (s : Seg). s.vmaddr % 4096 ≡ 0) segments
