-- What is shown of the cache of a set that breaks no rule: of its words, and of its bytes in the file and in memory.
use Rattle.std.proofs.Common.{◌≡◌, ◌≤◌, ◌<◌, ℕ, ◌+◌, ◌-◌, false, Some, None, List, [], length, get_or}
use Rattle.std.specs.Prelude.{slice_index_or}
use Rattle.dsc_base.specs.declared.edits.Edit.{Edit}
use Rattle.dsc_base.specs.Numbers.{little_bytes}
use Rattle.dsc_base.specs.Edits.{AllApart, AllFit, ApartFrom, IsAmong}
use Rattle.dsc_base.specs.Region.{region_start, region_size, paged}
use Rattle.macho_image.specs.Records.{Seg, Img}
use Rattle.macho_image.specs.Rules.{is_linkedit_segment}
use Rattle.macho_image.specs.Places.{wrap}
use Rattle.macho_edit.specs.MovedImage.{moved_image}
use Rattle.export_trie.specs.Exports.{exports_of}
use Rattle.export_trie.specs.Order.{trie_break}
use Rattle.cache_header.specs.Reading.{image_count, image_address, image_path, max_slide}
use Rattle.cache_layout.specs.declared.mapping.Mapping.{Mapping}
use Rattle.cache_layout.specs.Layouts.{layout_of}
use Rattle.cache_layout.specs.Apart.{IsSegment, range_in, move_at}
use Rattle.slide_chain.specs.Linked.{CanLink}
use Rattle.load_model.specs.Mapped.{flat, mapped, cached_image}
use Rattle.load_model.specs.Corresponds.{shape_of, SameExports}
use Rattle.ref_rewrite.specs.Pages.{pages_of}
use Rattle.ref_rewrite.specs.Rewritten.{edits_in}
use Rattle.linkedit_merge.specs.Linkedit.{linkedit_of}
use Rattle.cache_build.specs.Cache.{no_spots, header_of, cache_of}
use Rattle.cache_build.proofs.BuildableSets.{set_edits, set_chained, set_shares, set_start, set_span, set_spots, plain_of, slid_of, slid_value}

-- the words as edits of the file: they keep apart, each lies in one range and in front of none of the images' headers, and those that are chained can be linked
pub record HasEdits (bits : ℕ) (is : List Img) : Type 0 where
  pub apart : AllApart (set_edits is)
  pub fit : AllFit (set_edits is)
  pub within : (e : Edit) → IsAmong e (set_edits is) → (m : Mapping) × ((range_in (layout_of is) m).at ≤ e.at) × (e.at + e.width ≤ (range_in (layout_of is) m).at + (range_in (layout_of is) m).len)
  pub linked : CanLink bits (layout_of is).writable.len (set_chained is) (edits_in (layout_of is).writable (set_edits is))
  pub headers : (k : ℕ) (i : Img) → k < length is → i ≡ get_or is k i → ApartFrom (move_at (layout_of is) k 0).file (length i.header) (set_edits is)

-- the cache: how long it is, what its head says, and its bytes in memory, which are those of its pages but for its words
pub record IsCache (bits : ℕ) (is : List Img) : Type 0 where
  pub low : set_span bits is ≤ 0x20000000
  pub long : length (cache_of bits is) ≡ set_span bits is
  pub slid_long : (slide : ℕ) → length (slid_of bits is slide) ≡ set_span bits is
  pub count : image_count (cache_of bits is) ≡ length is
  pub path : (k : ℕ) (i : Img) → k < length is → i ≡ get_or is k i → image_path (cache_of bits is) k ≡ i.install_name
  pub address : (k : ℕ) (i : Img) → k < length is → i ≡ get_or is k i → image_address (cache_of bits is) k ≡ (move_at (layout_of is) k 0).address
  pub most : max_slide (cache_of bits is) ≡ region_size - set_span bits is
  pub flat_is : flat (cache_of bits is) ≡ slid_of bits is 0
  pub mapped_byte : (slide f : ℕ) → f < set_span bits is → mapped (cache_of bits is) slide (wrap (region_start + f + slide)) ≡ Some (get_or (slid_of bits is slide) f 0)
  pub free_byte : (slide f : ℕ) → ApartFrom f 1 (set_edits is) → get_or (slid_of bits is slide) f 0 ≡ get_or (plain_of bits is) f 0
  pub word_byte : (slide k : ℕ) (e : Edit) → IsAmong e (set_edits is) → k < e.width → get_or (slid_of bits is slide) (e.at + k) 0 ≡ get_or (little_bytes e.width (slid_value is slide e)) k 0
  pub page_byte : (k g : ℕ) (i : Img) (s : Seg) → IsSegment is k g i s → is_linkedit_segment s ≡ false → (d : ℕ) → d < paged s.vmsize
      → get_or (plain_of bits is) ((move_at (layout_of is) k g).file + d) 0 ≡ get_or (pages_of (header_of (layout_of is) (set_spots bits is) k i) g s) d 0
  pub sized : (k : ℕ) (i : Img) → k < length is → i ≡ get_or is k i → length (header_of (layout_of is) (set_spots bits is) k i) ≡ length i.header
  pub linkedit : (slide n : ℕ) → n < length (linkedit_of (set_shares is)) → get_or (slid_of bits is slide) (set_start bits is + n) 0 ≡ get_or (linkedit_of (set_shares is)) n 0

-- image k as it is read of the cache: the file's image with its segments moved, its streams and tables where they stand in the merged linkedit
abbrev pub moved_in : ℕ → List Img → ℕ → Img → Img
moved_in bits is k i = moved_image i (slice_index_or (layout_of is).moves k []) (slice_index_or (set_spots bits is) k no_spots) (slid_of bits is 0)

pub record IsCachedImage (bits : ℕ) (is : List Img) (k : ℕ) (i : Img) : Type 0 where
  pub found : cached_image (cache_of bits is) k ≡ Some (moved_in bits is k i)
  pub shape : shape_of (moved_in bits is k i) ≡ shape_of i
  pub trie : trie_break (moved_in bits is k i).streams.exports ≡ None
  pub exports : SameExports i (moved_in bits is k i) (exports_of i.streams.exports) (exports_of (moved_in bits is k i).streams.exports)
