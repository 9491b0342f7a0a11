-- The images of a cache, and what may be wrong with them.
use Rattle.std.specs.Prelude.{ℕ, ◌+◌, ◌-◌, max, min, Bool, not, ◌&&◌, ◌||◌, nat_eq, nat_le, nat_lt, List, [], ◌∷◌, length, map, take, position, Option, Some, None, option_map, if◌then◌else◌}
use Rattle.std.specs.List.{flat_map, list_any}
use Rattle.std.specs.Option.{option_or}
use Rattle.dsc_base.specs.Region.{region_start}
use Rattle.dsc_base.specs.Refusals.{first_break}
use Rattle.dsc_base.specs.RuleNames.{number_of}
use Rattle.dsc_base.specs.declared.fault.Finding.{Finding}
use Rattle.dsc_base.specs.declared.fault.Site.{Site}
use Rattle.dsc_base.specs.declared.finding_kind.FindingKind.{FindingKind}
use Rattle.dsc_base.specs.declared.finding_kind.FindingKind.TheVariants.{ImageBroken, NameDiffers, SegmentOutside, NameTwice, StreamBroken}
use Rattle.dsc_base.specs.declared.rule.Rule.TheVariants.{RebaseBadUleb}
use Rattle.macho_image.specs.Records.{Img, Seg}
use Rattle.macho_image.specs.declared.form.Form.TheVariants.{Cached}
use Rattle.macho_image.specs.Macho.{image_of}
use Rattle.macho_image.specs.Rules.{same_bytes, is_linkedit_segment}
use Rattle.macho_image.specs.Breaks.{image_break, image_at}
use Rattle.macho_image.specs.Order.{addresses_of}
use Rattle.macho_image.specs.Places.{above}
use Rattle.macho_image.specs.TableRules.{table_break}
use Rattle.bind_ops.specs.declared.kind.StreamKind.TheVariants.{Bind, Lazy}
use Rattle.bind_ops.specs.Binds.{binds_of, bind_break, places_of}
use Rattle.bind_ops.specs.Clash.{clash_break}
use Rattle.bind_ops.specs.Weak.{weak_break}
use Rattle.export_trie.specs.Order.{trie_break}
use Rattle.cache_header.specs.declared.head.Mapping.{Mapping}
use Rattle.cache_header.specs.Findings.{finding}
use Rattle.cache_header.specs.Records.{Entry}
use Rattle.cache_check.specs.Views.{View}

-- where the header of an image of the tables stands in the file
abbrev pub header_place : Entry → ℕ
header_place e = above region_start e.address

-- the image with its header there, in the bytes at slide 0
abbrev pub image_in : List ℕ → Entry → Img
image_in bytes e = image_of bytes (header_place e)

abbrev pub images_of : View → List Img
images_of v = map (image_in v.flat) v.head.images

-- the same where nothing is wrong with it
abbrev pub cached_images : View → List (Option Img)
cached_images v = map (λ (e : Entry). image_at Cached v.flat (header_place e)) v.head.images

-- ---- which finding comes first

-- the first finding of some from number k on, where each is tried by itself
unfoldable pub each_of : {X : Type 0} → (ℕ → X → Option Finding) → ℕ → List X → Option Finding
each_of finds k [] = None
each_of finds k (x ∷ xs) = option_or (finds k x) (each_of finds (k + 1) xs)

-- a rule that image k breaks, as a finding: its place is the rule's number
abbrev pub rule_finding : FindingKind → ℕ → Option Site → Option Finding
rule_finding kind k site = option_map (λ (s : Site). finding kind k (number_of s.rule)) site

-- ---- its shape and its name

unfoldable pub broken_finding : List ℕ → ℕ → Entry → Option Finding
broken_finding bytes k e = rule_finding ImageBroken k (image_break Cached bytes (header_place e))

unfoldable pub name_finding : List ℕ → ℕ → Entry → Option Finding
name_finding bytes k e = if same_bytes (image_in bytes e).install_name e.path then None else Some (finding NameDiffers k (header_place e))

-- an earlier image has its path
unfoldable pub twice_finding : List Entry → ℕ → Entry → Option Finding
twice_finding entries k e = option_map (λ (j : ℕ). finding NameTwice k j) (position (λ (d : Entry). same_bytes e.path d.path) (take k entries))

-- ---- its segments

-- a segment's addresses are in a mapping of its protection, and its bytes at the same distance from the mapping's
abbrev pub is_within : Seg → Mapping → Bool
is_within s m =
    nat_eq m.init_prot s.initprot
    && (nat_le m.address s.vmaddr && (nat_le (s.vmaddr + s.vmsize) (m.address + m.size) && nat_eq s.fileoff (m.file + (s.vmaddr - m.address))))

unfoldable pub is_placed : List Mapping → Seg → Bool
is_placed mappings s = list_any (is_within s) mappings && nat_eq s.filesize s.vmsize

-- two segments have an address in common
abbrev pub shares : Seg → Seg → Bool
shares s t = nat_lt (max s.vmaddr t.vmaddr) (min (s.vmaddr + s.vmsize) (t.vmaddr + t.vmsize))

-- a segment besides `__LINKEDIT` that isn't placed, or shares an address with one of earlier images
unfoldable pub is_misplaced : List Mapping → List Seg → Seg → Bool
is_misplaced mappings earlier s = not (is_linkedit_segment s) && (not (is_placed mappings s) || list_any (shares s) earlier)

abbrev pub segments_of : List Img → List Seg
segments_of images = flat_map (λ (i : Img). i.segments) images

unfoldable pub segment_finding : List Mapping → List Img → ℕ → Img → Option Finding
segment_finding mappings images k i =
    option_map (λ (g : ℕ). finding SegmentOutside k g) (position (is_misplaced mappings (segments_of (take k images))) i.segments)

-- ---- its streams

-- the first rule that they break, in the order in which they are read; nothing is rebased
unfoldable pub linkedit_break : Img → Option Site
linkedit_break i =
    first_break (bind_break Bind i.streams.bind i ∷ bind_break Lazy i.streams.lazy i ∷ weak_break i.streams.weak
    ∷ clash_break [] (addresses_of (places_of (binds_of Bind i.streams.bind i))) (addresses_of (places_of (binds_of Lazy i.streams.lazy i)))
    ∷ trie_break i.streams.exports ∷ table_break i ∷ [])

-- a rebase stream that isn't empty counts as the first rule of such streams
unfoldable pub stream_finding : ℕ → Img → Option Finding
stream_finding k i =
    if nat_eq (length i.streams.rebase) 0 then rule_finding StreamBroken k (linkedit_break i)
    else Some (finding StreamBroken k (number_of RebaseBadUleb))

-- ---- all images

unfoldable pub images_finding : View → Option Finding
images_finding v =
    let entries = v.head.images in
    let images = images_of v in
    first_break (each_of (broken_finding v.flat) 0 entries ∷ each_of (name_finding v.flat) 0 entries
    ∷ each_of (segment_finding v.head.mappings images) 0 images ∷ each_of (twice_finding entries) 0 entries ∷ each_of stream_finding 0 images ∷ [])
