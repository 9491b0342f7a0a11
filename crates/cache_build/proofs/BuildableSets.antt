-- Sets of images that break no rule, and the parts of their caches.
use Rattle.std.proofs.Common.{◌≡◌, ◌≤◌, ◌<◌, ℕ, ◌+◌, ◌%◌, ◌^◌, Some, None, List, length, map, get_or, All}
use Rattle.std.specs.Prelude.{slice_get, nat_eq, if◌then◌else◌}
use Rattle.std.specs.List.{list_any}
use Rattle.dsc_base.specs.declared.edits.Edit.{Edit}
use Rattle.dsc_base.specs.Edits.{put_all}
use Rattle.dsc_base.specs.Region.{paged, padded}
use Rattle.macho_image.specs.declared.form.Form.TheVariants.{Standalone}
use Rattle.macho_image.specs.Records.{Seg, Img}
use Rattle.macho_image.specs.Macho.{commands_of, command_where, is_dysymtab, streams_of, groups_of}
use Rattle.macho_image.specs.Breaks.{form_of}
use Rattle.macho_image.specs.TableRules.{table_break}
use Rattle.macho_edit.specs.declared.spots.LinkSpots.{LinkSpots}
use Rattle.cache_header.specs.Records.{Head}
use Rattle.cache_header.specs.Spelling.{head_bytes}
use Rattle.cache_layout.specs.declared.mapping.Mapping.{Mapping}
use Rattle.cache_layout.specs.declared.mapping.Mapping.TheVariants.{Text, Writable, Fixed}
use Rattle.cache_layout.specs.Layouts.{layout_of, layout_break}
use Rattle.cache_layout.specs.Apart.{IsSegment, range_in}
use Rattle.cache_layout.specs.Parts.{mapping_part}
use Rattle.slide_chain.specs.Linked.{raised}
use Rattle.slide_chain.specs.Making.{chains_break}
use Rattle.prebind.specs.Sets.{IsSoundSet, image_set}
use Rattle.prebind.specs.Places.{export_break}
use Rattle.prebind.specs.WordRules.{place_break}
use Rattle.prebind.proofs.SetLaws.{HaveStreams}
use Rattle.load_model.proofs.FirstLaws.{AreUnbroken}
use Rattle.ref_rewrite.specs.Breaks.{rewrite_break}
use Rattle.ref_rewrite.specs.Pages.{all_pages}
use Rattle.ref_rewrite.specs.Rewritten.{edits_in}
use Rattle.linkedit_merge.specs.Shares.{Share}
use Rattle.linkedit_merge.specs.Linkedit.{linkedit_start, linkedit_size, linkedit_of, merge_break, spots_of}
use Rattle.cache_build.specs.declared.frame.Frame.{Frame}
use Rattle.cache_build.specs.Edits.{edits_of, chained_of}
use Rattle.cache_build.specs.Places.{slide_bytes, shares_in, frame_of}
use Rattle.cache_build.specs.Head.{head_of}
use Rattle.cache_build.specs.Cache.{headers_of, edited, tail_of, parts_joined}
use Rattle.cache_build.proofs.FitsLaws.{AreSound}

-- the streams and groups of an image are what the commands of its header name in the bytes of a file
pub record IsReadOf (i : Img) : Type 0 where
  pub bytes : List ℕ
  pub plain : All (λ (b : ℕ). b < 256) bytes
  pub streams : i.streams ≡ streams_of bytes (commands_of i.header)
  pub groups : i.groups ≡ groups_of (command_where is_dysymtab (commands_of i.header))

-- images that were read, linked and laid out
pub record IsAccepted (is : List Img) : Type 0 where
  pub few : length is ≤ 4096
  pub sound : AreSound is
  pub alone : (k : ℕ) (i : Img) → k < length is → i ≡ get_or is k i → form_of i.header ≡ Standalone
  pub streams : HaveStreams is
  pub tables : (k : ℕ) (i : Img) → slice_get is k ≡ Some i → table_break i ≡ None
  pub set : IsSoundSet (image_set is)
  pub exports : AreUnbroken (export_break (image_set is)) (length is)
  pub words : AreUnbroken (place_break (image_set is)) (length is)
  pub layout : layout_break is ≡ None
  pub bytes : (k g : ℕ) (i : Img) (s : Seg) → IsSegment is k g i s → (n : ℕ) → get_or s.bytes n 0 < 256
  pub read : (k : ℕ) (i : Img) → k < length is → i ≡ get_or is k i → IsReadOf i

-- ---- what their words become

abbrev pub set_edits : List Img → List Edit
set_edits is = edits_of (layout_of is) (image_set is)

abbrev pub set_chained : List Img → List ℕ
set_chained is = chained_of (layout_of is) (image_set is)

-- ---- what stands behind their segments, where distances have so many bits

abbrev pub set_slide : ℕ → List Img → List ℕ
set_slide bits is = slide_bytes bits (layout_of is) (image_set is)

abbrev pub set_shares : List Img → List Share
set_shares is = shares_in (layout_of is) is

abbrev pub set_start : ℕ → List Img → ℕ
set_start bits is = linkedit_start (layout_of is) (length (set_slide bits is))

abbrev pub set_span : ℕ → List Img → ℕ
set_span bits is = set_start bits is + paged (linkedit_size (set_shares is))

abbrev pub set_frame : ℕ → List Img → Frame
set_frame bits is = frame_of (layout_of is) (length (set_slide bits is)) (set_shares is)

abbrev pub set_spots : ℕ → List Img → List LinkSpots
set_spots bits is = spots_of (set_start bits is) (set_shares is)

-- ---- their segments and their head

abbrev pub set_headers : ℕ → List Img → List (List ℕ)
set_headers bits is = headers_of (layout_of is) (set_spots bits is) is

abbrev pub set_pages : ℕ → List Img → ℕ → ℕ → List ℕ
set_pages bits is = all_pages (set_headers bits is) is

abbrev pub set_mapping : ℕ → List Img → Mapping → List ℕ
set_mapping bits is m = mapping_part m (set_pages bits is) is

abbrev pub set_head : ℕ → List Img → Head
set_head bits is = head_of (layout_of is) (set_frame bits is) is

-- the cache with these bytes in its three ranges; with no word set; and with its words set and slid
abbrev pub cache_around : ℕ → List Img → List ℕ → List ℕ → List ℕ → List ℕ
cache_around bits is text writable fixed =
    parts_joined (padded (layout_of is).text.at (head_bytes (set_head bits is))) text writable fixed
    (tail_of (set_frame bits is) (set_slide bits is) (linkedit_of (set_shares is)))

abbrev pub plain_of : ℕ → List Img → List ℕ
plain_of bits is = cache_around bits is (set_mapping bits is Text) (set_mapping bits is Writable) (set_mapping bits is Fixed)

abbrev pub set_range : ℕ → List Img → Mapping → List ℕ
set_range bits is m = edited (range_in (layout_of is) m) (set_edits is) (set_mapping bits is m)

abbrev pub slid_range : ℕ → List Img → ℕ → List ℕ
slid_range bits is slide = put_all (map (raised slide (set_chained is)) (edits_in (layout_of is).writable (set_edits is))) (set_mapping bits is Writable)

abbrev pub slid_of : ℕ → List Img → ℕ → List ℕ
slid_of bits is slide = cache_around bits is (set_range bits is Text) (slid_range bits is slide) (set_range bits is Fixed)

-- the value of a word under a slide, which is added where the word is chained
abbrev pub slid_value : List Img → ℕ → Edit → ℕ
slid_value is slide e = if list_any (λ a. nat_eq e.at ((layout_of is).writable.at + a)) (set_chained is) then (e.value + slide) % 2 ^ 64 else e.value

-- ---- sets that break no rule at all

pub record IsBuildable (bits : ℕ) (is : List Img) : Type 0 where
  pub some : 1 ≤ bits
  pub most : bits ≤ 16
  pub accepted : IsAccepted is
  pub rewritten : rewrite_break (layout_of is) (image_set is) ≡ None
  pub chains : chains_break bits (layout_of is).writable.len (set_chained is) ≡ None
  pub merged : merge_break (layout_of is) (length (set_slide bits is)) (set_shares is) ≡ None
