-- The first rule that a dylib breaks, and the image of one that breaks none.
use Rattle.std.specs.Prelude.{◌≡◌, ℕ, List, [], ◌∷◌, length, map, Option, Some, None, is_some, if◌then◌else◌}
use Rattle.std.specs.List.{filter_map}
use Rattle.dsc_base.specs.Numbers.{number_at}
use Rattle.dsc_base.specs.declared.fault.Site.{Site}
use Rattle.dsc_base.specs.declared.rule.Rule.TheVariants.{NotMachO, WrongKind, CommandShape, UnknownCommand, CommandTwice, NoInstallName, SegmentShape, SegmentProt, SectionShape, Interposing, HasRelocations, NameText, UnsafeName, LinkeditRange}
use Rattle.macho_image.specs.declared.form.Form.{Form}
use Rattle.macho_image.specs.declared.form.Form.TheVariants.{Standalone, Cached}
use Rattle.macho_image.specs.Records.{Seg, Img, Load, SegmentLoad}
use Rattle.macho_image.specs.Macho.{header_size, header_in, commands_of, loads_of, segment_loads, segment_with, sections_from, dependency_of, command_where, is_install_name, install_name_of, is_dysymtab, groups_of, is_uuid, uuid_of, is_dyld_info, image_of}
use Rattle.macho_image.specs.Rules.{says_cached, breaks_not_mach_o, breaks_wrong_kind, breaks_command_shape, breaks_unknown_command, breaks_command_twice, breaks_no_install_name, breaks_segment_shape, breaks_segment_place, starts_elsewhere, breaks_segment_prot, breaks_section_shape, breaks_interposing, breaks_has_relocations, breaks_name_text, breaks_unsafe_name, breaks_linkedit_range}
use Rattle.dsc_base.specs.Refusals.{least, broken, first_break}

-- rules 3 to 6
unfoldable pub kind_break : Form → List ℕ → Option Site
kind_break form header =
    first_break (broken NotMachO (breaks_not_mach_o header) ∷ broken WrongKind (breaks_wrong_kind form header) ∷ broken CommandShape (breaks_command_shape header) ∷ [])

-- rules 7 to 9
unfoldable pub command_break : List Load → Option Site
command_break ls =
    first_break (broken UnknownCommand (breaks_unknown_command ls) ∷ broken CommandTwice (breaks_command_twice ls) ∷ broken NoInstallName (breaks_no_install_name ls) ∷ [])

-- rules 11 to 14
unfoldable pub section_break : ℕ → List SegmentLoad → List Load → Option Site
section_break size ss ls =
    first_break (broken SegmentProt (breaks_segment_prot ss) ∷ broken SectionShape (breaks_section_shape size ss) ∷ broken Interposing (breaks_interposing ss) ∷ broken HasRelocations (breaks_has_relocations ss ls) ∷ [])

-- rules 15 and 16
unfoldable pub name_break : List Load → Option Site
name_break ls = first_break (broken NameText (breaks_name_text ls) ∷ broken UnsafeName (breaks_unsafe_name ls) ∷ [])

-- the first of rules 3 and 5 to 16 that a header breaks, as far as these speak of the header
unfoldable pub header_break : Form → List ℕ → Option Site
header_break form header =
    let ls = loads_of header in
    let ss = segment_loads ls in
    first_break (kind_break form header ∷ command_break ls ∷ broken SegmentShape (breaks_segment_shape (header_size header) ss)
    ∷ section_break (header_size header) ss ls ∷ name_break ls ∷ [])

-- rules 10 to 17 of a dylib whose header is at place h of a file of n bytes
unfoldable pub load_break : ℕ → ℕ → ℕ → List SegmentLoad → List Load → Option Site
load_break size n h ss ls =
    first_break (broken SegmentShape (least (breaks_segment_shape size ss) (breaks_segment_place n h ss))
    ∷ section_break size ss ls ∷ name_break ls ∷ broken LinkeditRange (breaks_linkedit_range ss ls) ∷ [])

-- the first of rules 3 and 5 to 17 that the dylib breaks whose header is at place h of the bytes
unfoldable pub image_break : Form → List ℕ → ℕ → Option Site
image_break form b h =
    let header = header_in b h in
    let ls = loads_of header in
    first_break (kind_break form header ∷ command_break ls ∷ load_break (header_size header) (length b) h (segment_loads ls) ls ∷ [])

-- the image where none is broken, and nothing where one is
abbrev pub image_unless : Option Site → Img → Option Img
image_unless None image = Some image
image_unless (Some site) image = None

-- the image that the bytes spell with its header at place h
abbrev pub image_at : Form → List ℕ → ℕ → Option Img
image_at form b h = image_unless (image_break form b h) (image_of b h)

-- the form that a header's flags tell
abbrev pub form_of : List ℕ → Form
form_of header = if says_cached (number_at 4 header 24) then Cached else Standalone

-- a segment without its bytes
abbrev pub unread : Seg → Seg
unread s = record s { bytes = [] }

-- what is true of every image: its header breaks none of rules 3 and 5 to 16 and is as long as it says, a file of its own begins with its first segment, all but its streams and its segments' bytes is what the header spells, and each segment has as many bytes as its filesize
pub record IsSound (image : Img) : Type 0 where
  pub unbroken : header_break (form_of image.header) image.header ≡ None
  pub whole : length image.header ≡ header_size image.header
  pub begins : form_of image.header ≡ Standalone → starts_elsewhere 0 (segment_loads (loads_of image.header)) ≡ None
  pub segments : map unread image.segments ≡ map (segment_with []) (segment_loads (loads_of image.header))
  pub sizes : map (λ s. length s.bytes) image.segments ≡ map (λ s. s.filesize) image.segments
  pub sections : image.sections ≡ sections_from 0 (segment_loads (loads_of image.header))
  pub dependencies : image.dependencies ≡ filter_map dependency_of (commands_of image.header)
  pub install_name : image.install_name ≡ install_name_of (command_where is_install_name (commands_of image.header))
  pub groups : image.groups ≡ groups_of (command_where is_dysymtab (commands_of image.header))
  pub uuid : image.uuid ≡ uuid_of (command_where is_uuid (commands_of image.header))
  pub has_dyld_info : image.has_dyld_info ≡ is_some (command_where is_dyld_info (commands_of image.header))
