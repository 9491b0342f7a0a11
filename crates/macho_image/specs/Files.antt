-- The dylibs of files: of a universal file the slice that is picked, and another file whole.
use Rattle.std.specs.Prelude.{ℕ, Option, unwrap_or, option_map, List, [], map, Vec}
use Rattle.std.specs.declared.alloc.Global.{Global}
use Rattle.std.specs.Option.{option_or}
use Rattle.dsc_base.specs.declared.fault.Site.{Site}
use Rattle.macho_image.specs.declared.form.Form.TheVariants.{Standalone}
use Rattle.macho_image.specs.Records.{Img}
use Rattle.macho_image.specs.Macho.{image_of}
use Rattle.macho_image.specs.Universal.{slice_of, bytes_of, slice_break}
use Rattle.macho_image.specs.Breaks.{image_break}

-- the bytes of files
abbrev pub contents : List (Vec ℕ Global) → List (List ℕ)
contents files = map (λ (f : Vec ℕ Global). f.items) files

-- the dylib of a file: the bytes of its slice, and none where it has no slice
unfoldable pub dylib_of : List ℕ → List ℕ
dylib_of file = unwrap_or (option_map (bytes_of file) (slice_of file)) []

-- the images that the dylibs of files spell
abbrev pub images_of : List (List ℕ) → List Img
images_of files = map (λ (file : List ℕ). image_of (dylib_of file) 0) files

-- the first rule that a file breaks: of its slice, and then of the shape of the dylib there
unfoldable pub shape_break : List ℕ → Option Site
shape_break file = option_or (slice_break file) (image_break Standalone (dylib_of file) 0)
