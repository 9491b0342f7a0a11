-- The head of a cache: it can be written, its numbers fit, and it ends in the pages that the layout leaves for it.
use Rattle.std.proofs.Common.{◌≡◌, ◌≤◌, ℕ, ◌+◌, List, length, get_or, All, ap, ◌∙◌, arith}
use Rattle.std.proofs.lemmas.List.{get_or_default}
use Rattle.dsc_base.specs.Region.{paged, padded}
use Rattle.macho_image.specs.Records.{Img}
use Rattle.cache_header.specs.Records.{Entry}
use Rattle.cache_header.specs.Spelling.{head_bytes, IsWritable}
use Rattle.cache_header.specs.Widths.{FitsHead}
use Rattle.cache_layout.specs.Places.{numbered}
use Rattle.cache_layout.specs.Layouts.{layout_of}
use Rattle.cache_layout.specs.Apart.{AreInTurn}
use Rattle.cache_layout.proofs.NumberedLaws.{length-numbered}
use Rattle.cache_layout.proofs.RoomLaws.{paged-covers}
use Rattle.cache_build.specs.Places.{frame_of}
use Rattle.cache_build.specs.Head.{entry_of}
use Rattle.cache_build.specs.Fits.{Fits}
use Rattle.cache_build.proofs.FitsLaws.{image_fits}
use Rattle.cache_build.proofs.SoundIdentifiers.{identifier_long}
use Rattle.cache_build.proofs.HeadRooms.{CanTell, IsLowFrame, head_fits as numbers_fit, head_writable as writable, entries_are as entries_told, head_room as room}
use Rattle.cache_build.proofs.BuildableSets.{IsAccepted, IsBuildable, set_slide, set_start, set_span, set_frame, set_head}
use Rattle.cache_build.proofs.CachePlaces.{in_turn, span_low, starts_at}
use Rattle.ref_rewrite.proofs.PageLaws.{padded_long}

-- ---- what it tells of images

all_fit : (is : List Img) → IsAccepted is → All Fits is
all_fit is accepted k d lt = image_fits is k (get_or is k d) accepted.layout lt (get_or_default is k d (get_or is k d) lt) (accepted.sound k d lt)

can_tell : (is : List Img) → IsAccepted is → CanTell is
can_tell is accepted = record { none = accepted.layout; few = accepted.few; fits = all_fit is accepted; identified = λ k d lt. identifier_long (get_or is k d) (accepted.sound k d lt) }

-- ---- the numbers fit

-- the linkedit ends where the cache does, and slide information ends before it
pub record IsFramed (bits : ℕ) (is : List Img) : Type 0 where
  pub turn : AreInTurn is (layout_of is)
  pub low : set_span bits is ≤ 0x20000000
  pub segments : (layout_of is).fixed.at + (layout_of is).fixed.len + paged (length (set_slide bits is)) ≤ set_span bits is
  pub slide : length (set_slide bits is) ≤ paged (length (set_slide bits is))

pub framed : (bits : ℕ) (is : List Img) → IsBuildable bits is → IsFramed bits is
framed bits is buildable =
    let start : set_start bits is ≡ (layout_of is).fixed.at + (layout_of is).fixed.len + paged (length (set_slide bits is)) = starts_at bits is buildable.accepted in
    record {
      turn = in_turn is buildable.accepted;
      low = span_low bits is buildable;
      segments = omega (arith, start);
      slide = paged-covers (length (set_slide bits is));
    }

low_frame : (bits : ℕ) (is : List Img) → IsBuildable bits is → IsLowFrame is (set_frame bits is)
unfolding frame_of
low_frame bits is buildable =
    let frame : IsFramed bits is = framed bits is buildable in
    record {
      slide_at = omega (arith, frame.segments, frame.low);
      slide_size = omega (arith, frame.segments, frame.slide, frame.low);
      within = omega (arith, frame.turn.fixed, frame.segments);
      span = frame.low;
    }

pub head_fits : (bits : ℕ) (is : List Img) → IsBuildable bits is → FitsHead (set_head bits is)
head_fits bits is buildable = numbers_fit is (set_frame bits is) (can_tell is buildable.accepted) (low_frame bits is buildable)

-- ---- it can be written

pub head_writable : (bits : ℕ) (is : List Img) → IsAccepted is → IsWritable (set_head bits is)
head_writable bits is accepted = writable is (set_frame bits is) (can_tell is accepted)

-- ---- its size

pub entries_are : (bits : ℕ) (is : List Img) → (set_head bits is).images ≡ numbered (entry_of (layout_of is)) is
entries_are bits is = entries_told (layout_of is) (set_frame bits is) is

pub entries_long : (bits : ℕ) (is : List Img) → length (set_head bits is).images ≡ length is
entries_long bits is = ap (λ (es : List Entry). length es) (entries_are bits is) ∙ length-numbered (entry_of (layout_of is)) is

-- the head ends in the pages that the layout leaves for it
head_room : (bits : ℕ) (is : List Img) → IsBuildable bits is → length (head_bytes (set_head bits is)) ≤ (layout_of is).text.at
head_room bits is buildable = room is (set_frame bits is) (can_tell is buildable.accepted) (low_frame bits is buildable)

pub head_long : (bits : ℕ) (is : List Img) → IsBuildable bits is → length (padded (layout_of is).text.at (head_bytes (set_head bits is))) ≡ (layout_of is).text.at
head_long bits is buildable = padded_long (layout_of is).text.at (head_bytes (set_head bits is)) (head_room bits is buildable)
