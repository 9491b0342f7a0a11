-- What a run prints. Each line ends with a line feed.
use Rattle.std.specs.Prelude.{ℕ, false, List, [], ◌∷◌, ◌++◌, length, codes}
use Rattle.std.specs.Fmt.{decimal, digits}
use Rattle.std.specs.List.{flat_map}
use Rattle.uuid.specs.Text.{hyphenated_text, lower}
use Rattle.dsc_base.specs.RuleNames.{number_of, name_of}
use Rattle.dsc_base.specs.FindingNames.{number_of as finding_number, name_of as finding_name}
use Rattle.dsc_base.specs.declared.fault.Break.{Break}
use Rattle.dsc_base.specs.declared.fault.Finding.{Finding}
use Rattle.dsc_base.specs.declared.fault.Span.{Span}
use Rattle.cache_header.specs.declared.head.Mapping.{Mapping}
use Rattle.cache_header.specs.Records.{Entry, Head}
use Rattle.dsc_tool.specs.declared.stop.Stop.{Stop}
use Rattle.dsc_tool.specs.declared.stop.Stop.TheVariants.{BadWords, Unread, Refused, Flawed, NoImage, Memory}

abbrev pub line_feed : List ℕ
line_feed = 10 ∷ []

-- lower-case hexadecimal
abbrev pub hex : ℕ → List ℕ
hex n = digits 16 false n

-- ---- on standard output

-- so many images were built to a cache of this span
unfoldable pub built_line : ℕ → ℕ → List ℕ
built_line images span = codes "built " ++ (decimal images ++ (codes " images, span 0x" ++ (hex span ++ line_feed)))

-- so many images were extracted
unfoldable pub extracted_line : ℕ → List ℕ
extracted_line images = codes "extracted " ++ (decimal images ++ (codes " images" ++ line_feed))

-- `list`: where each image is, and its path
unfoldable pub image_line : Entry → List ℕ
image_line e = codes "0x" ++ (hex e.address ++ (codes " " ++ (e.path ++ line_feed)))

abbrev pub image_lines : List Entry → List ℕ
image_lines images = flat_map image_line images

abbrev pub list_text : Head → List ℕ
list_text h = image_lines h.images

-- `info`: the mappings, with the protections that they may have and that they have, and then what else the head says
unfoldable pub mapping_line : Mapping → List ℕ
mapping_line m =
    codes "mapping 0x" ++ (hex m.address ++ (codes " size 0x" ++ (hex m.size ++ (codes " file 0x" ++ (hex m.file
    ++ (codes " prot " ++ (decimal m.max_prot ++ (codes "/" ++ (decimal m.init_prot ++ line_feed)))))))))

abbrev pub mapping_lines : List Mapping → List ℕ
mapping_lines mappings = flat_map mapping_line mappings

unfoldable pub images_line : ℕ → List ℕ
images_line images = codes "images " ++ (decimal images ++ line_feed)

unfoldable pub slide_info_line : Span → List ℕ
slide_info_line s = codes "slide info at 0x" ++ (hex s.at ++ (codes " size 0x" ++ (hex s.len ++ line_feed)))

unfoldable pub uuid_line : List ℕ → List ℕ
uuid_line uuid = codes "uuid " ++ (hyphenated_text lower uuid ++ line_feed)

unfoldable pub max_slide_line : ℕ → List ℕ
max_slide_line slide = codes "max slide 0x" ++ (hex slide ++ line_feed)

abbrev pub info_text : Head → List ℕ
info_text h =
    mapping_lines h.mappings ++ images_line (length h.images) ++ slide_info_line h.slide_info ++ uuid_line h.uuid ++ max_slide_line h.max_slide

-- `trial`: so many images were built to a cache of this span, in which so many words slide, and whose bytes come to this sum
unfoldable pub trial_line : ℕ → ℕ → ℕ → ℕ → List ℕ
trial_line images words span bytes_sum =
    codes "trial: " ++ (decimal images ++ (codes " images, " ++ (decimal words ++ (codes " words, span 0x" ++ (hex span ++ (codes ", sum " ++ (decimal bytes_sum ++ line_feed)))))))

-- ---- on standard error

-- the commands that there are
unfoldable pub usage_text : List ℕ
usage_text =
    codes "usage: dsc build [--jobs N] OUT IN..." ++ (line_feed ++ (codes "       dsc check CACHE IN..." ++ (line_feed ++ (codes "       dsc extract [--image PATH] CACHE PREFIX"
    ++ (line_feed ++ (codes "       dsc list CACHE" ++ (line_feed ++ (codes "       dsc info CACHE" ++ (line_feed ++ (codes "       dsc trial [--jobs N] SEED COUNT" ++ line_feed))))))))))

unfoldable pub refused_line : Break → List ℕ
refused_line b =
    codes "dsc: refused " ++ (decimal (number_of b.rule) ++ (codes " " ++ (name_of b.rule
    ++ (codes " image " ++ (decimal b.image ++ (codes " at 0x" ++ (hex b.at ++ line_feed)))))))

unfoldable pub flawed_line : Finding → List ℕ
flawed_line f =
    codes "dsc: cache broken " ++ (decimal (finding_number f.kind) ++ (codes " " ++ (finding_name f.kind
    ++ (codes " image " ++ (decimal f.image ++ (codes " at 0x" ++ (hex f.at ++ line_feed)))))))

unfoldable pub cannot_read_line : ℕ → List ℕ
cannot_read_line input = codes "dsc: cannot read input " ++ (decimal input ++ line_feed)

unfoldable pub no_image_line : List ℕ
no_image_line = codes "dsc: no such image" ++ line_feed

unfoldable pub cannot_write_line : List ℕ
cannot_write_line = codes "dsc: cannot write" ++ line_feed

unfoldable pub no_memory_line : List ℕ
no_memory_line = codes "dsc: no memory" ++ line_feed

-- what says why a run stopped
abbrev pub text_of : Stop → List ℕ
text_of BadWords = usage_text
text_of (Unread input) = cannot_read_line input
text_of (Refused b) = refused_line b
text_of (Flawed f) = flawed_line f
text_of NoImage = no_image_line
text_of Memory = no_memory_line
