-- The shared region of x86_64, after <mach/shared_region.h>, and its pages.
use Rattle.std.specs.Prelude.{ℕ, ◌+◌, ◌-◌, ◌*◌, ◌/◌, List, ◌++◌, replicate, length}

-- where the region starts, an address; the file offset of every byte of a cache is its address less this
abbrev pub region_start : ℕ
region_start = 0x7FFF20000000

abbrev pub region_size : ℕ
region_size = 0xDFE00000

-- the least multiple of a page that is not below n
unfoldable pub paged : ℕ → ℕ
paged n = (n + 4095) / 4096 * 4096

-- bytes with zeros up to a size
abbrev pub padded : ℕ → List ℕ → List ℕ
padded size bytes = bytes ++ replicate (size - length bytes) 0
