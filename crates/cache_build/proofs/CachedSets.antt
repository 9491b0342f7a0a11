-- Each image of a set that can be built is found in its cache, with the shape and the exports of its file.
use Rattle.std.proofs.Common.{◌≡◌, ◌<◌, ℕ, None, List, length, get_or, sym, ap, subst, arith}
use Rattle.macho_image.specs.Records.{Seg, Img}
use Rattle.macho_image.specs.Breaks.{IsSound}
use Rattle.macho_image.specs.declared.place.Moved.{Moved}
use Rattle.cache_layout.specs.Layouts.{layout_of, layout_break}
use Rattle.cache_layout.specs.Apart.{IsSegment, move_at}
use Rattle.cache_layout.proofs.PlaceLaws.{length-moves-of, are_within}
use Rattle.cache_layout.proofs.RoomLaws.{paged-covers}
use Rattle.cache_build.proofs.BuildableSets.{IsBuildable, slid_of}
use Rattle.cache_build.proofs.CacheFacts.{HasEdits, IsCache, IsCachedImage}
use Rattle.cache_build.proofs.CachedHeaders.{image_found, image_sound}
use Rattle.cache_build.proofs.MovedExports.{trie_accepted, exports_kept}
use Rattle.cache_build.proofs.MovedLaws.{GoLow, moved_shape}
use Rattle.cache_build.proofs.MovedSpots.{own_moves, own_spots}
use Rattle.cache_build.proofs.MovedTargets.{IsMoved}
use Rattle.cache_build.proofs.PlacedImages.{there_at, move_is}

-- segments other than `__LINKEDIT` end low where they go
go_low : (is : List Img) → layout_break is ≡ None → (k : ℕ) (i : Img) → k < length is → i ≡ get_or is k i → GoLow (own_moves is k) i.segments
go_low is none k i lt at g m s below owned =
    let t : Seg = get_or i.segments g s in
    let inside : g < length i.segments = omega (arith, below, length-moves-of is k i lt at) in
    let there : IsSegment is k g i (get_or i.segments g s) = there_at is k g i s lt at inside in
    let placed = are_within is none k g i (get_or i.segments g s) there owned in
    let same : (move_at (layout_of is) k g).address ≡ (get_or (own_moves is k) g m).address = ap (λ (v : Moved). v.address) (move_is is k g i m lt at inside) in
    omega (arith, same, placed.2.address, placed.2.end, placed.2.span, paged-covers t.vmsize)

-- and it can be moved
pub own_moved : (bits : ℕ) (is : List Img) → IsBuildable bits is → HasEdits bits is → IsCache bits is → (k : ℕ) (i : Img) → k < length is → i ≡ get_or is k i → IsMoved i (own_moves is k) (own_spots bits is k) (slid_of bits is 0)
own_moved bits is able edits cache k i lt at = record {
  sound = subst IsSound (sym at) (able.accepted.sound k i lt);
  moved = image_sound bits is able edits cache k i lt at;
  one_each = length-moves-of is k i lt at;
  low = go_low is able.accepted.layout k i lt at;
}

pub cached_images : (bits : ℕ) (is : List Img) → IsBuildable bits is → HasEdits bits is → IsCache bits is → (k : ℕ) (i : Img) → k < length is → i ≡ get_or is k i → IsCachedImage bits is k i
cached_images bits is able edits cache k i lt at =
    let moved : IsMoved i (own_moves is k) (own_spots bits is k) (slid_of bits is 0) = own_moved bits is able edits cache k i lt at in
    record {
      found = image_found bits is able edits cache k i lt at;
      shape = moved_shape i (own_moves is k) (own_spots bits is k) (slid_of bits is 0) moved.sound moved.one_each moved.low;
      trie = trie_accepted bits is able cache k i lt at;
      exports = exports_kept bits is able cache k i lt at moved;
    }
