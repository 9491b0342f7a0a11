-- Each image of a set that can be built has in its cache the bind streams of its file, and they break no rule there.
use Rattle.std.proofs.Common.{◌≡◌, ◌<◌, ℕ, ◌+◌, ◌*◌, ◌%◌, false, Option, Some, None, List, [], take, drop, length, map, get_or, refl, sym, ap, ◌∙◌, arith}
use Rattle.std.specs.Prelude.{slice_get}
use Rattle.std.proofs.lemmas.Option.{slice_get_read, slice_get_within, get_or_from_slice_get}
use Rattle.dsc_base.specs.declared.fault.Span.{Span}
use Rattle.macho_image.specs.Records.{Seg, StreamBytes, Img}
use Rattle.macho_image.specs.Format.{dyld_info_bind_off, dyld_info_bind_size, dyld_info_lazy_bind_off, dyld_info_lazy_bind_size}
use Rattle.macho_image.specs.Macho.{commands_of, command_where, is_dyld_info, part_in, streams_of}
use Rattle.macho_image.specs.Order.{addresses_of}
use Rattle.macho_image.specs.Rules.{is_linkedit_segment}
use Rattle.macho_image.specs.declared.place.Moved.{Moved}
use Rattle.macho_image.proofs.SoundSegments.{segments_keep_apart}
use Rattle.macho_edit.specs.MovedImage.{named_by, moved_image}
use Rattle.macho_edit.specs.declared.spots.LinkSpots.{LinkSpots}
use Rattle.bind_ops.specs.Binds.{binds_of, places_of, bind_break}
use Rattle.bind_ops.specs.Clash.{clash_break}
use Rattle.bind_ops.specs.declared.kind.StreamKind.TheVariants.{Bind, Lazy}
use Rattle.bind_ops.proofs.BindLaws.{accepted_binds}
use Rattle.nlist_table.specs.Symbols.{tables_of}
use Rattle.prebind.specs.Sets.{lists_of}
use Rattle.prebind.proofs.SetLaws.{streams_of_image}
use Rattle.cache_layout.specs.Layouts.{layout_of}
use Rattle.cache_layout.specs.Apart.{IsSegment, move_at}
use Rattle.linkedit_merge.specs.Linkedit.{parts_of, linkedit_of, spots_in}
use Rattle.linkedit_merge.specs.Parts.{lens_of, span_of, bytes_in}
use Rattle.linkedit_merge.specs.Shares.{Share, share_of}
use Rattle.linkedit_merge.proofs.ReadLaws.{own_read}
use Rattle.linkedit_merge.proofs.SpanLaws.{spots_within}
use Rattle.cache_build.proofs.BuildableSets.{IsReadOf, IsBuildable, set_shares, set_start, slid_of}
use Rattle.cache_build.proofs.CacheFacts.{HasEdits, IsCache, moved_in}
use Rattle.cache_build.proofs.CachedSets.{own_moved}
use Rattle.cache_build.proofs.MovedBinds.{gone_bind, binds_go, clash_goes}
use Rattle.cache_build.proofs.MovedExports.{spotted_bytes}
use Rattle.cache_build.proofs.MovedSpots.{own_moves, own_share, own_spots, share_in, share_is, spots_are}
use Rattle.cache_build.proofs.MovedStreams.{have_gone}
use Rattle.cache_build.proofs.MovedTargets.{IsMoved}
use Rattle.cache_build.proofs.MovedWords.{HaveGone}
use Rattle.cache_build.proofs.PlacedImages.{IsHeld, held_at, there_at, move_is}

-- ---- the bytes of the streams

bind_span : (start : ℕ) (shares : List Share) (k : ℕ) (share : Share) → (spots_in start shares k share).bind ≡ span_of start (lens_of (parts_of shares)) (5 * k)
unfolding spots_in
bind_span start shares k share = refl

lazy_span : (start : ℕ) (shares : List Share) (k : ℕ) (share : Share) → (spots_in start shares k share).lazy ≡ span_of start (lens_of (parts_of shares)) (5 * k + 1)
unfolding spots_in
lazy_span start shares k share = refl

bind_share : (i : Img) (m : List Moved) → (share_of i (tables_of i) m).bind ≡ i.streams.bind
unfolding share_of
bind_share i m = refl

lazy_share : (i : Img) (m : List Moved) → (share_of i (tables_of i) m).lazy ≡ i.streams.lazy
unfolding share_of
lazy_share i m = refl

module _ (bits : ℕ) (is : List Img) (cache : IsCache bits is) (k : ℕ) (i : Img) (lt : k < length is) (at : i ≡ get_or is k i) where
  bind_there : take (own_spots bits is k).bind.len (drop (own_spots bits is k).bind.at (slid_of bits is 0)) ≡ i.streams.bind
  bind_there =
      let start : ℕ = set_start bits is in
      let shares : List Share = set_shares is in
      let share : Share = own_share is k i in
      let here : get_or (set_shares is) k (own_share is k i) ≡ own_share is k i = share_is is k i (own_share is k i) lt at in
      let within : k < length (set_shares is) = share_in is k lt in
      let span : (own_spots bits is k).bind ≡ (spots_in start shares k share).bind = ap (λ (s : LinkSpots). s.bind) (spots_are bits is k i lt at) in
      let number : 5 * k ≡ 5 * k + 0 = omega arith in
      ap (λ (s : Span). take s.len (drop s.at (slid_of bits is 0))) span
      ∙ (spotted_bytes bits is cache (spots_in start shares k share).bind (spots_within start shares k share within here).bind
      ∙ (ap (λ (s : Span). bytes_in start (linkedit_of shares) s) (bind_span start shares k share)
      ∙ (ap (λ (n : ℕ). bytes_in start (linkedit_of shares) (span_of start (lens_of (parts_of shares)) n)) number
      ∙ (own_read start shares k 0 share within here (omega arith) ∙ bind_share i (own_moves is k)))))

  lazy_there : take (own_spots bits is k).lazy.len (drop (own_spots bits is k).lazy.at (slid_of bits is 0)) ≡ i.streams.lazy
  lazy_there =
      let start : ℕ = set_start bits is in
      let shares : List Share = set_shares is in
      let share : Share = own_share is k i in
      let here : get_or (set_shares is) k (own_share is k i) ≡ own_share is k i = share_is is k i (own_share is k i) lt at in
      let within : k < length (set_shares is) = share_in is k lt in
      let span : (own_spots bits is k).lazy ≡ (spots_in start shares k share).lazy = ap (λ (s : LinkSpots). s.lazy) (spots_are bits is k i lt at) in
      ap (λ (s : Span). take s.len (drop s.at (slid_of bits is 0))) span
      ∙ (spotted_bytes bits is cache (spots_in start shares k share).lazy (spots_within start shares k share within here).lazy
      ∙ (ap (λ (s : Span). bytes_in start (linkedit_of shares) s) (lazy_span start shares k share)
      ∙ (own_read start shares k 1 share within here (omega arith) ∙ lazy_share i (own_moves is k))))

-- where no command names them there are none, in the file and in the cache
named_bind : (i : Img) (moves : List Moved) (spots : LinkSpots) (b : List ℕ) → (moved_image i moves spots b).streams.bind ≡ named_by (command_where is_dyld_info (commands_of i.header)) b spots.bind
unfolding moved_image
named_bind i moves spots b = refl

named_lazy : (i : Img) (moves : List Moved) (spots : LinkSpots) (b : List ℕ) → (moved_image i moves spots b).streams.lazy ≡ named_by (command_where is_dyld_info (commands_of i.header)) b spots.lazy
unfolding moved_image
named_lazy i moves spots b = refl

unbound : (i : Img) → IsReadOf i → command_where is_dyld_info (commands_of i.header) ≡ None → (i.streams.bind ≡ []) × (i.streams.lazy ≡ [])
unfolding streams_of
unbound i read none = (
  ap (λ (s : StreamBytes). s.bind) read.streams ∙ ap (λ (o : Option (List ℕ)). part_in read.bytes o 1 dyld_info_bind_off dyld_info_bind_size) none,
  ap (λ (s : StreamBytes). s.lazy) read.streams ∙ ap (λ (o : Option (List ℕ)). part_in read.bytes o 1 dyld_info_lazy_bind_off dyld_info_lazy_bind_size) none,
)

by_command : (command : Option (List ℕ)) (b stream : List ℕ) (s : Span) → (command ≡ None → stream ≡ []) → take s.len (drop s.at b) ≡ stream → named_by command b s ≡ stream
by_command None b stream s none there = sym (none refl)
by_command (Some c) b stream s none there = there

-- ---- each image's

-- the streams of an image in the cache are those of its file, and its binds are the same where their words go
pub record KeepsBinds (i moved : Img) : Type 0 where
  pub bind : moved.streams.bind ≡ i.streams.bind
  pub lazy : moved.streams.lazy ≡ i.streams.lazy
  pub bound : binds_of Bind moved.streams.bind moved ≡ map (gone_bind i moved) (binds_of Bind i.streams.bind i)
  pub lazily : binds_of Lazy moved.streams.lazy moved ≡ map (gone_bind i moved) (binds_of Lazy i.streams.lazy i)
  pub bind_none : bind_break Bind moved.streams.bind moved ≡ None
  pub lazy_none : bind_break Lazy moved.streams.lazy moved ≡ None
  pub apart : clash_break [] (addresses_of (places_of (binds_of Bind moved.streams.bind moved))) (addresses_of (places_of (binds_of Lazy moved.streams.lazy moved))) ≡ None

module _ (bits : ℕ) (is : List Img) (able : IsBuildable bits is) (edits : HasEdits bits is) (cache : IsCache bits is) (k : ℕ) (i : Img) (lt : k < length is) (at : i ≡ get_or is k i) where
  page_at : (g : ℕ) (m : Moved) (s : Seg) → slice_get (own_moves is k) g ≡ Some m → slice_get i.segments g ≡ Some s → is_linkedit_segment s ≡ false → m.address % 4096 ≡ 0
  page_at g m s to from other =
      let inside : g < length i.segments = slice_get_within i.segments g s from in
      let own : get_or i.segments g s ≡ s = get_or_from_slice_get i.segments g s s from in
      let there : IsSegment is k g i (get_or i.segments g s) = there_at is k g i s lt at inside in
      let held : IsHeld (layout_of is) _ (move_at (layout_of is) k g) = held_at is able.accepted.layout k g i (get_or i.segments g s) there (ap (λ (x : Seg). is_linkedit_segment x) own ∙ other) in
      let goes : move_at (layout_of is) k g ≡ m = move_is is k g i m lt at inside ∙ get_or_from_slice_get (own_moves is k) g m m to in
      let address : m.address ≡ (move_at (layout_of is) k g).address = sym (ap (λ (x : Moved). x.address) goes) in
      omega (arith, address, held.address, held.pages)

  pub keeps_binds : KeepsBinds i (moved_in bits is k i)
  keeps_binds =
      let m : Img = moved_in bits is k i in
      let moved : IsMoved i (own_moves is k) (own_spots bits is k) (slid_of bits is 0) = own_moved bits is able edits cache k i lt at in
      let gone : HaveGone i (moved_in bits is k i) = have_gone i (own_moves is k) (own_spots bits is k) (slid_of bits is 0) moved page_at in
      let apart = segments_keep_apart (moved_in bits is k i) moved.moved in
      let streams = streams_of_image i (able.accepted.streams k i (slice_get_read is (length is) k i refl lt at)) in
      let none = unbound i (able.accepted.read k i lt at) in
      let bind : m.streams.bind ≡ i.streams.bind =
      named_bind i (own_moves is k) (own_spots bits is k) (slid_of bits is 0)
      ∙ by_command (command_where is_dyld_info (commands_of i.header)) (slid_of bits is 0) i.streams.bind (own_spots bits is k).bind (λ no. (none no).0) (bind_there bits is cache k i lt at) in
      let lazy : m.streams.lazy ≡ i.streams.lazy =
      named_lazy i (own_moves is k) (own_spots bits is k) (slid_of bits is 0)
      ∙ by_command (command_where is_dyld_info (commands_of i.header)) (slid_of bits is 0) i.streams.lazy (own_spots bits is k).lazy (λ no. (none no).1) (lazy_there bits is cache k i lt at) in
      let first = binds_go i m gone apart Bind i.streams.bind streams.binds_accepted in
      let second = binds_go i m gone apart Lazy i.streams.lazy streams.lazy_accepted in
      let bound : binds_of Bind m.streams.bind m ≡ map (gone_bind i m) (binds_of Bind i.streams.bind i) = ap (λ (l : List ℕ). binds_of Bind l m) bind ∙ first.1 in
      let lazily : binds_of Lazy m.streams.lazy m ≡ map (gone_bind i m) (binds_of Lazy i.streams.lazy i) = ap (λ (l : List ℕ). binds_of Lazy l m) lazy ∙ second.1 in
      let far = clash_goes i m gone apart (addresses_of (lists_of i).rebases) (binds_of Bind i.streams.bind i) (binds_of Lazy i.streams.lazy i) streams.apart
      (accepted_binds Bind i i.streams.bind streams.binds_accepted) (accepted_binds Lazy i i.streams.lazy streams.lazy_accepted) in
      record {
        bind = bind;
        lazy = lazy;
        bound = bound;
        lazily = lazily;
        bind_none = ap (λ (l : List ℕ). bind_break Bind l m) bind ∙ first.0;
        lazy_none = ap (λ (l : List ℕ). bind_break Lazy l m) lazy ∙ second.0;
        apart = (λ j. clash_break [] (addresses_of (places_of (bound j))) (addresses_of (places_of (lazily j)))) ∙ far;
      }
