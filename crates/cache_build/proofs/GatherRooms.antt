-- Where slide information and linkedit of a set end that breaks no rule: each has room, and the whole has 512 MiB at most.
use Rattle.std.proofs.Common.{◌≡◌, ◌≤◌, ℕ, ◌+◌, None, List, length, sym, ap, ◌∙◌, subst, arith}
use Rattle.dsc_base.specs.Limits.{span_limit}
use Rattle.dsc_base.specs.Region.{paged}
use Rattle.macho_image.specs.Records.{Img}
use Rattle.nlist_table.specs.Symbols.{Tabs}
use Rattle.cache_header.specs.Spelling.{head_bytes}
use Rattle.cache_layout.specs.Layouts.{Laid, layout_of}
use Rattle.cache_layout.specs.Apart.{AreInTurn}
use Rattle.cache_layout.proofs.NumberedLaws.{length-numbered}
use Rattle.cache_layout.proofs.PlaceLaws.{length-moves}
use Rattle.cache_layout.proofs.RoomLaws.{paged-covers}
use Rattle.prebind.specs.declared.resolved.PlacedWord.{PlacedWord}
use Rattle.prebind.specs.Sets.{ImageSet}
use Rattle.ref_rewrite.specs.Planned.{IsLayout, plan_in, plans_of}
use Rattle.linkedit_merge.specs.Shares.{Share, shares_of}
use Rattle.linkedit_merge.specs.Linkedit.{linkedit_of, linkedit_size, linkedit_start, merge_break, spots_in, spots_of}
use Rattle.linkedit_merge.proofs.ShareLaws.{many_shares}
use Rattle.cache_build.specs.declared.frame.Frame.{Frame}
use Rattle.cache_build.specs.Filling.{HasRooms, IsPrepared}
use Rattle.cache_build.specs.Head.{head_of}
use Rattle.cache_build.specs.Places.{frame_of}
use Rattle.cache_build.proofs.GatherLaws.{in_turn}
use Rattle.cache_build.proofs.HeadRooms.{CanTell, IsLowFrame, head_room}
use Rattle.linkedit_merge.proofs.MergeLaws.{length-linkedit_of, unbroken_fits}

-- ---- how many there are of each

pub many_plans : (l : Laid) (set : ImageSet) (placed : List (List PlacedWord)) → length (plans_of l set placed) ≡ length set.images
unfolding plans_of
many_plans l set placed = length-numbered (plan_in l set placed) set.images

pub many_spots : (start : ℕ) (images : List Img) (tables : List Tabs) (l : Laid) → length (spots_of start (shares_of images tables l.moves)) ≡ length images
unfolding spots_of
many_spots start images tables l = length-numbered (spots_in start (shares_of images tables l.moves)) (shares_of images tables l.moves) ∙ many_shares images tables l.moves

pub many_moves : (l : Laid) (images : List Img) → IsLayout l images → length l.moves ≡ length images
many_moves l images layout = ap (λ (m : Laid). length m.moves) layout.is ∙ length-moves images

-- ---- the linkedit

pub linkedit_low : (l : Laid) (slide : ℕ) (shares : List Share) (linkedit : List ℕ) → merge_break l slide shares ≡ None → linkedit ≡ linkedit_of shares → length linkedit ≤ 0x20000000
linkedit_low l slide shares linkedit none is =
    let long : length linkedit ≡ linkedit_size shares = ap (λ (b : List ℕ). length b) is ∙ length-linkedit_of shares in
    omega (arith, long, unbroken_fits l slide shares none, paged-covers (linkedit_size shares))

starts_behind : (l : Laid) (slide : ℕ) → l.fixed.at + l.fixed.len + slide ≤ linkedit_start l slide
unfolding linkedit_start
starts_behind l slide = paged-covers (l.fixed.at + l.fixed.len + slide)

-- ---- the frame

-- the linkedit of images stands behind their segments and so much slide information, and breaks no rule
pub record IsFramed (l : Laid) (is : List Img) (slide : ℕ) (shares : List Share) (linkedit : List ℕ) (frame : Frame) : Type 0 where
  pub layout : IsLayout l is
  pub bytes : linkedit ≡ linkedit_of shares
  pub fits : merge_break l slide shares ≡ None
  pub framed : frame ≡ frame_of l slide shares

-- a frame that was made of the size of so many bytes
pub is_framed : (l : Laid) (is : List Img) (slide : ℕ) (shares : List Share) (linkedit : List ℕ) (frame : Frame) (size : ℕ) → IsLayout l is → linkedit ≡ linkedit_of shares → merge_break l slide shares ≡ None → size ≡ length linkedit
    → ((given : List Share) → size ≡ linkedit_size given → frame ≡ frame_of l slide given) → IsFramed l is slide shares linkedit frame
is_framed l is slide shares linkedit frame size layout bytes fits long framed = record {
  layout = layout;
  bytes = bytes;
  fits = fits;
  framed = framed shares (long ∙ (ap (λ (b : List ℕ). length b) bytes ∙ length-linkedit_of shares));
}

record Stands (l : Laid) (slide : ℕ) (shares : List Share) (frame : Frame) : Type 0 where
  slide_at : frame.slide_at ≡ l.fixed.at + l.fixed.len
  slide_size : frame.slide_size ≡ slide
  linkedit_at : frame.linkedit_at ≡ linkedit_start l slide
  span : frame.span ≡ linkedit_start l slide + paged (linkedit_size shares)

stands : (l : Laid) (slide : ℕ) (shares : List Share) (frame : Frame) → frame ≡ frame_of l slide shares → Stands l slide shares frame
unfolding frame_of
stands l slide shares frame is = record {
  slide_at = ap (λ (f : Frame). f.slide_at) is;
  slide_size = ap (λ (f : Frame). f.slide_size) is;
  linkedit_at = ap (λ (f : Frame). f.linkedit_at) is;
  span = ap (λ (f : Frame). f.span) is;
}

pub span_low : (l : Laid) (is : List Img) (slide : ℕ) (shares : List Share) (linkedit : List ℕ) (frame : Frame) → IsFramed l is slide shares linkedit frame → frame.span ≤ 0x20000000
span_low l is slide shares linkedit frame f = omega (arith, (stands l slide shares frame f.framed).span, unbroken_fits l slide shares f.fits)

pub data_within : (l : Laid) (is : List Img) (slide : ℕ) (shares : List Share) (linkedit : List ℕ) (frame : Frame) → IsFramed l is slide shares linkedit frame → l.writable.at + l.writable.len ≤ frame.span
data_within l is slide shares linkedit frame f =
    let turn : AreInTurn is l = in_turn l is f.layout in
    omega (arith, turn.fixed, starts_behind l slide, (stands l slide shares frame f.framed).span)

-- ---- the parts

front_room : (l : Laid) (is : List Img) (slide : ℕ) (shares : List Share) (linkedit head : List ℕ) (frame : Frame) → IsFramed l is slide shares linkedit frame → CanTell is → head ≡ head_bytes (head_of l frame is) → length head ≤ l.text.at
front_room l is slide shares linkedit head frame f tell told =
    let own = stands l slide shares frame f.framed in
    let turn : AreInTurn is l = in_turn l is f.layout in
    let limit : linkedit_start l slide + paged (linkedit_size shares) ≤ span_limit = unbroken_fits l slide shares f.fits in
    let same : layout_of is ≡ l = sym f.layout.is in
    let low : IsLowFrame is frame = record {
      slide_at = omega (arith, own.slide_at, turn.span);
      slide_size = omega (arith, own.slide_size, starts_behind l slide, limit);
      within = subst (λ (m : Laid). m.writable.at + m.writable.len ≤ frame.span) f.layout.is (data_within l is slide shares linkedit frame f);
      span = span_low l is slide shares linkedit frame f;
    } in
    let room : length (head_bytes (head_of l frame is)) ≤ l.text.at = subst (λ (m : Laid). length (head_bytes (head_of m frame is)) ≤ m.text.at) same (head_room is frame tell low) in
    omega (arith, ap (λ (b : List ℕ). length b) told, room)

pub have_rooms : (l : Laid) (is : List Img) (slide : ℕ) (shares : List Share) (linkedit head slide_info : List ℕ) (frame : Frame) → IsFramed l is slide shares linkedit frame → CanTell is
    → head ≡ head_bytes (head_of l frame is) → slide ≡ length slide_info → HasRooms l frame head slide_info linkedit
have_rooms l is slide shares linkedit head slide_info frame f tell told long =
    let own = stands l slide shares frame f.framed in
    let turn : AreInTurn is l = in_turn l is f.layout in
    let size : length linkedit ≡ linkedit_size shares = ap (λ (b : List ℕ). length b) f.bytes ∙ length-linkedit_of shares in
    record {
      front = front_room l is slide shares linkedit head frame f tell told;
      segments = omega (arith, own.slide_at, turn.writable, turn.fixed);
      middle = omega (arith, own.slide_at, own.linkedit_at, starts_behind l slide, long);
      last = omega (arith, own.linkedit_at, own.span, size, paged-covers (linkedit_size shares));
      small = span_low l is slide shares linkedit frame f;
    }

-- what was read tells enough
pub can_tell : (set : ImageSet) (tables : List Tabs) (placed : List (List PlacedWord)) (l : Laid) → IsPrepared set tables placed l → CanTell set.images
can_tell set tables placed l prepared = record { none = prepared.layout.fits; few = prepared.few; fits = prepared.fits; identified = prepared.identified }
