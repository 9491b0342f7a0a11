-- What the parts of a cache need of their images and layout.
use Rattle.std.specs.Prelude.{◌≡◌, ◌≤◌, ◌<◌, ℕ, ◌^◌, true, Some, List, length, All, slice_get}
use Rattle.macho_image.specs.Records.{Seg, Img}
use Rattle.dsc_base.specs.Texts.{is_plain_text}
use Rattle.cache_build.specs.Head.{text_size}

-- the text segment has room for the header
abbrev pub HasRoom : List ℕ → List Seg → Type 0
HasRoom header ss = (s : Seg) → slice_get ss 0 ≡ Some s → length header ≤ length s.bytes

-- a segment that can be written in whole pages
abbrev pub IsLow : Seg → Type 0
IsLow s = s.vmsize ≤ 0x800000000000

-- an image that a cache takes: its segments are low, its text segment begins with its header, and its path is plain
pub record Fits (image : Img) : Type 0 where
  pub low : All IsLow image.segments
  pub begins : HasRoom image.header image.segments
  pub path : is_plain_text image.install_name ≡ true
  pub text : text_size image.segments < 2 ^ 32
