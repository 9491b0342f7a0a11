-- What a cache is filled with, part by part, and what that needs.
use Rattle.std.specs.Prelude.{◌≡◌, ◌≤◌, ◌<◌, ℕ, ◌+◌, ◌-◌, ◌*◌, ◌/◌, ◌%◌, ◌^◌, None, List, [], ◌++◌, length, map, All, slice_index_or}
use Rattle.dsc_base.specs.Region.{padded}
use Rattle.dsc_base.specs.Edits.{put_all, change_all}
use Rattle.slide_chain.specs.Chains.{Slide}
use Rattle.slide_chain.specs.Making.{linking, AreWords, AllBelow, AreOutside, IsMade}
use Rattle.macho_image.specs.Records.{Img}
use Rattle.macho_edit.specs.declared.spots.LinkSpots.{LinkSpots}
use Rattle.macho_edit.specs.Conditions.{CanMove}
use Rattle.nlist_table.specs.Symbols.{Tabs, tables_of}
use Rattle.prebind.specs.declared.resolved.PlacedWord.{PlacedWord}
use Rattle.prebind.specs.Sets.{ImageSet, IsSoundSet}
use Rattle.prebind.specs.Agree.{HaveExportsInside}
use Rattle.cache_layout.specs.declared.mapping.Mapping.TheVariants.{Writable}
use Rattle.cache_layout.specs.Layouts.{Laid}
use Rattle.cache_layout.specs.Parts.{mapping_part}
use Rattle.ref_rewrite.specs.Breaks.{rewrite_break}
use Rattle.ref_rewrite.specs.Pages.{all_pages}
use Rattle.ref_rewrite.specs.Planned.{AreSplitRead, IsLayout, AreSized}
use Rattle.ref_rewrite.specs.Plans.{Plan, Fit}
use Rattle.ref_rewrite.specs.Rewritten.{edits_in, joined}
use Rattle.linkedit_merge.specs.Conditions.{HaveTables}
use Rattle.linkedit_merge.specs.Linkedit.{linkedit_start, merge_break, spots_of}
use Rattle.cache_build.specs.declared.filling.Parts.{Parts}
use Rattle.cache_build.specs.declared.frame.Frame.{Frame}
use Rattle.cache_build.specs.Cache.{no_spots, tail_of}
use Rattle.cache_build.specs.Edits.{edits_of, chained_of}
use Rattle.cache_build.specs.Fits.{Fits}
use Rattle.cache_build.specs.Places.{slide_bytes, shares_in}
use Rattle.prebind.specs.Placed.{AreListsPlaced}

-- the segments of all mappings, by the plans of the images, with the words at these places of the data linked
abbrev pub segments_of : List Plan → Slide → List ℕ → List ℕ
segments_of plans info words =
    joined (λ (p : Plan). p.text) plans ++ (change_all (linking (info.mask / 2 ^ 48) words) (joined (λ (p : Plan). p.writable) plans) ++ joined (λ (p : Plan). p.fixed) plans)

-- the plans are for the ranges of the layout, and the words they leave at these places can be linked
pub record CanFill (l : Laid) (plans : List Plan) (info : Slide) (words : List ℕ) : Type 0 where
  pub fit : Fit l.text.len l.writable.len l.fixed.len plans
  pub pages : l.writable.len % 4096 ≡ 0
  pub made : IsMade info l.writable.len words
  pub rising : AreWords 0 words
  pub below : AllBelow l.writable.len words
  pub outside : AreOutside info.mask (joined (λ (p : Plan). p.writable) plans) words

-- head, segments, slide information and linkedit follow one another in a file
abbrev pub filled : Laid → Frame → List ℕ → List ℕ → List ℕ → List ℕ → List ℕ
filled l frame head segments slide_info linkedit = padded l.text.at head ++ (segments ++ tail_of frame slide_info linkedit)

-- and each has room
pub record HasRooms (l : Laid) (frame : Frame) (head slide_info linkedit : List ℕ) : Type 0 where
  pub front : length head ≤ l.text.at
  pub segments : l.text.at + (l.text.len + (l.writable.len + l.fixed.len)) ≡ frame.slide_at
  pub middle : frame.slide_at + length slide_info ≤ frame.linkedit_at
  pub last : frame.linkedit_at + length linkedit ≤ frame.span
  pub small : frame.span ≤ 0x20000000

-- parts of a cache: each has room in it, its segments can be filled, and then it's this one
pub record ArePartsOf (cache : List ℕ) (l : Laid) (frame : Frame) (p : Parts) : Type 0 where
  pub rooms : HasRooms l frame p.head.items p.slide_info.items p.linkedit.items
  pub fills : CanFill l p.plans.items p.info p.words.items
  pub is : filled l frame p.head.items (segments_of p.plans.items p.info p.words.items) p.slide_info.items p.linkedit.items ≡ cache

-- the header of each image can be moved, by where it finds its streams and tables
abbrev pub CanMoveEach : Laid → List LinkSpots → List Img → Type 0
CanMoveEach l spots images =
    (k : ℕ) (image : Img) → k < length images → image ≡ slice_index_or images k image → CanMove image (slice_index_or l.moves k []) (slice_index_or spots k no_spots)

-- ---- a set that was read and laid out

-- what was read of it, and its layout
pub record IsPrepared (set : ImageSet) (tables : List Tabs) (placed : List (List PlacedWord)) (l : Laid) : Type 0 where
  pub sound : IsSoundSet set
  pub split : AreSplitRead set
  pub exports : HaveExportsInside set
  pub tables_are : tables ≡ map tables_of set.images
  pub have_tables : HaveTables set.images tables
  pub layout : IsLayout l set.images
  pub placed_all : AreListsPlaced set placed
  pub few : length set.images ≤ 4096
  pub fits : All Fits set.images
  pub identified : All (λ (i : Img). length i.uuid ≡ 16) set.images

-- once its words are set, those that are chained have nothing in the bits of the distance; and each image's header can be moved
pub record CanBuild (bits : ℕ) (l : Laid) (set : ImageSet) : Type 0 where
  pub outside : rewrite_break l set ≡ None → (headers : List (List ℕ)) → AreSized headers set.images
      → AreOutside ((2 ^ bits - 1) * 2 ^ 48) (put_all (edits_in l.writable (edits_of l set)) (mapping_part Writable (all_pages headers set.images) set.images)) (chained_of l set)
  pub moves : merge_break l (length (slide_bytes bits l set)) (shares_in l set.images) ≡ None
      → CanMoveEach l (spots_of (linkedit_start l (length (slide_bytes bits l set))) (shares_in l set.images)) set.images
