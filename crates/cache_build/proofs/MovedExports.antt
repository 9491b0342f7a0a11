-- The export trie of an image in the cache: it breaks no rule, and its exports lead to the same places as those of the file.
use Rattle.std.proofs.Common.{◌≡◌, ◌≤◌, ◌<◌, ℕ, ◌+◌, ◌-◌, ◌*◌, Option, Some, None, List, [], take, drop, length, get_or, refl, sym, ap, ◌∙◌, subst, arith, inl, inr}
use Rattle.std.specs.Prelude.{slice_get}
use Rattle.std.proofs.lemmas.Bool.{cases_lt}
use Rattle.std.proofs.lemmas.List.{get_or_default, get_or-take, get_or-drop, length-take-le, length-drop, same_lists}
use Rattle.std.proofs.lemmas.Option.{slice_get_read}
use Rattle.dsc_base.specs.declared.fault.Span.{Span}
use Rattle.macho_image.specs.Records.{StreamBytes, Img}
use Rattle.macho_image.specs.declared.place.Moved.{Moved}
use Rattle.macho_image.specs.Format.{dyld_info_export_off, dyld_info_export_size}
use Rattle.macho_image.specs.Macho.{commands_of, command_where, is_dyld_info, part_in, streams_of}
use Rattle.macho_edit.specs.MovedImage.{named_by, moved_image}
use Rattle.macho_edit.specs.declared.spots.LinkSpots.{LinkSpots}
use Rattle.nlist_table.specs.Symbols.{tables_of}
use Rattle.export_trie.specs.Exports.{tree_exports, exports_of}
use Rattle.export_trie.specs.Order.{trie_break}
use Rattle.export_trie.specs.declared.export.Export.{Export}
use Rattle.prebind.specs.Sets.{streams_break}
use Rattle.prebind.proofs.SetLaws.{streams_of_image}
use Rattle.linkedit_merge.specs.Exports.{moved_exports}
use Rattle.linkedit_merge.specs.Linkedit.{parts_of, linkedit_of, linkedit_size, spots_in}
use Rattle.linkedit_merge.specs.Parts.{lens_of, span_of, bytes_in}
use Rattle.linkedit_merge.specs.ReadBack.{IsTrie}
use Rattle.linkedit_merge.specs.Shares.{Share, moved_trie, share_of}
use Rattle.linkedit_merge.proofs.ReadLaws.{own_read}
use Rattle.linkedit_merge.proofs.SpanLaws.{IsWithin, spots_within}
use Rattle.linkedit_merge.proofs.TrieLaws.{moved_is_trie}
use Rattle.cache_layout.proofs.RoomLaws.{paged-covers}
use Rattle.load_model.specs.Corresponds.{SameExports}
use Rattle.cache_build.proofs.BuildableSets.{IsReadOf, IsBuildable, set_shares, set_start, set_span, slid_of}
use Rattle.cache_build.proofs.CacheFacts.{IsCache, moved_in}
use Rattle.cache_build.proofs.MovedSpots.{own_moves, own_share, own_spots, share_in, share_is, spots_are}
use Rattle.cache_build.proofs.MovedTargets.{IsMoved, same_exports, none_strays}
use Rattle.linkedit_merge.proofs.MergeLaws.{length-linkedit_of}

-- ---- a range of the linkedit, in the file

span_bytes : (b linkedit : List ℕ) (start : ℕ) (s : Span) → IsWithin start (length linkedit) s → start + length linkedit ≤ length b
    → ((n : ℕ) → n < length linkedit → get_or b (start + n) 0 ≡ get_or linkedit n 0) → take s.len (drop s.at b) ≡ bytes_in start linkedit s
span_bytes b linkedit start s within fits same =
    let here : length (take s.len (drop s.at b)) ≡ s.len = length-take-le s.len (drop s.at b) (omega (arith, within.inside, fits, length-drop s.at b)) in
    let there : length (take s.len (drop (s.at - start) linkedit)) ≡ s.len = length-take-le s.len (drop (s.at - start) linkedit) (inside s linkedit start within) in
    same_lists (take s.len (drop s.at b)) (take s.len (drop (s.at - start) linkedit)) (here ∙ sym there)
    (λ k d lt.
    let less : k < s.len = omega (arith, lt, here) in
    let first : start ≤ s.at = within.behind (omega (arith, less)) in
    let n : ℕ = s.at - start + k in
    let end : s.at - start + k < length linkedit = omega (arith, less, first, within.inside) in
    let at : s.at + k ≡ start + (s.at - start + k) = omega (arith, first) in
    get_or-take s.len (drop s.at b) k d less
    ∙ (get_or-drop s.at b k d
    ∙ (ap (λ (m : ℕ). get_or b m d) at
    ∙ (get_or_default b (start + n) d 0 (omega (arith, end, fits))
    ∙ (same n end
    ∙ (get_or_default linkedit n 0 d end
    ∙ sym (get_or-take s.len (drop (s.at - start) linkedit) k d less ∙ get_or-drop (s.at - start) linkedit k d)))))))
  where
    inside : (s : Span) (linkedit : List ℕ) (start : ℕ) → IsWithin start (length linkedit) s → s.len ≤ length (drop (s.at - start) linkedit)
    inside s linkedit start within = elim (cases_lt 0 s.len) [
      | inl some ↦ let first : start ≤ s.at = within.behind some in omega (arith, first, within.inside, length-drop (s.at - start) linkedit)
      | inr none ↦ omega (arith, none)
    ]

-- ---- the bytes of the trie

-- the bytes of a range of the linkedit, where the cache has it
pub spotted_bytes : (bits : ℕ) (is : List Img) → IsCache bits is → (s : Span) → IsWithin (set_start bits is) (linkedit_size (set_shares is)) s
    → take s.len (drop s.at (slid_of bits is 0)) ≡ bytes_in (set_start bits is) (linkedit_of (set_shares is)) s
spotted_bytes bits is cache s within =
    let long : length (linkedit_of (set_shares is)) ≡ linkedit_size (set_shares is) = length-linkedit_of (set_shares is) in
    let whole : length (slid_of bits is 0) ≡ set_span bits is = cache.slid_long 0 in
    let inside : IsWithin (set_start bits is) (length (linkedit_of (set_shares is))) s = subst (λ (n : ℕ). IsWithin (set_start bits is) n s) (sym long) within in
    span_bytes (slid_of bits is 0) (linkedit_of (set_shares is)) (set_start bits is) s inside (omega (arith, long, whole, paged-covers (linkedit_size (set_shares is)))) (λ n less. cache.linkedit 0 n less)

exports_span : (start : ℕ) (shares : List Share) (k : ℕ) (share : Share) → (spots_in start shares k share).exports ≡ span_of start (lens_of (parts_of shares)) (5 * k + 2)
unfolding spots_in
exports_span start shares k share = refl

exports_share : (i : Img) (m : List Moved) → (share_of i (tables_of i) m).exports ≡ moved_trie i m
unfolding share_of
exports_share i m = refl

trie_there : (bits : ℕ) (is : List Img) → IsCache bits is → (k : ℕ) (i : Img) → k < length is → i ≡ get_or is k i
    → take (own_spots bits is k).exports.len (drop (own_spots bits is k).exports.at (slid_of bits is 0)) ≡ moved_trie i (own_moves is k)
trie_there bits is cache k i lt at =
    let start : ℕ = set_start bits is in
    let shares : List Share = set_shares is in
    let share : Share = own_share is k i in
    let b : List ℕ = slid_of bits is 0 in
    let here : get_or (set_shares is) k (own_share is k i) ≡ own_share is k i = share_is is k i (own_share is k i) lt at in
    let within : k < length (set_shares is) = share_in is k lt in
    let span : (own_spots bits is k).exports ≡ (spots_in start shares k share).exports = ap (λ (s : LinkSpots). s.exports) (spots_are bits is k i lt at) in
    ap (λ (s : Span). take s.len (drop s.at b)) span
    ∙ (spotted_bytes bits is cache (spots_in start shares k share).exports (spots_within start shares k share within here).exports
    ∙ (ap (λ (s : Span). bytes_in start (linkedit_of shares) s) (exports_span start shares k share)
    ∙ (own_read start shares k 2 share within here (omega arith) ∙ exports_share i (own_moves is k))))

-- ---- with the command that names it, and without

named_exports : (i : Img) (moves : List Moved) (spots : LinkSpots) (b : List ℕ) → (moved_image i moves spots b).streams.exports ≡ named_by (command_where is_dyld_info (commands_of i.header)) b spots.exports
unfolding moved_image
named_exports i moves spots b = refl

none_exported : exports_of [] ≡ []
unfolding exports_of tree_exports
none_exported = refl

none_broken : trie_break [] ≡ None
unfolding trie_break
none_broken = refl

-- what is shown of the trie in the cache
pub record HasTrie (i : Img) (moves : List Moved) (trie : List ℕ) : Type 0 where
  pub accepted : trie_break trie ≡ None
  pub back : exports_of trie ≡ moved_exports i.segments moves (exports_of i.streams.exports)

by_command : (command : Option (List ℕ)) (i : Img) (moves : List Moved) (b : List ℕ) (s : Span) → (command ≡ None → i.streams.exports ≡ []) → take s.len (drop s.at b) ≡ moved_trie i moves
    → IsTrie (moved_exports i.segments moves (exports_of i.streams.exports)) → HasTrie i moves (named_by command b s)
by_command None i moves b s none there trie = record {
  accepted = none_broken;
  back = none_exported ∙ sym (ap (λ (l : List ℕ). moved_exports i.segments moves (exports_of l)) (none refl) ∙ ap (λ (es : List Export). moved_exports i.segments moves es) none_exported);
}
by_command (Some c) i moves b s none there trie = record {
  accepted = ap trie_break there ∙ trie.accepted;
  back = ap exports_of there ∙ trie.back;
}

-- an image has no exports where no command names them
unnamed : (i : Img) → IsReadOf i → command_where is_dyld_info (commands_of i.header) ≡ None → i.streams.exports ≡ []
unfolding streams_of
unnamed i read none = ap (λ (s : StreamBytes). s.exports) read.streams ∙ ap (λ (o : Option (List ℕ)). part_in read.bytes o 1 dyld_info_export_off dyld_info_export_size) none

own_trie : (i : Img) → streams_break i ≡ None → trie_break i.streams.exports ≡ None
own_trie i none = let read = streams_of_image i none in ap trie_break (sym read.exports) ∙ read.exports_accepted

has_trie : (bits : ℕ) (is : List Img) → IsBuildable bits is → IsCache bits is → (k : ℕ) (i : Img) → k < length is → i ≡ get_or is k i → HasTrie i (own_moves is k) (moved_in bits is k i).streams.exports
has_trie bits is able cache k i lt at =
    let found : slice_get is k ≡ Some i = slice_get_read is (length is) k i refl lt at in
    let named = named_exports i (own_moves is k) (own_spots bits is k) (slid_of bits is 0) in
    subst (λ (l : List ℕ). HasTrie i (own_moves is k) l) (sym named)
    (by_command (command_where is_dyld_info (commands_of i.header)) i (own_moves is k) (slid_of bits is 0) (own_spots bits is k).exports (unnamed i (able.accepted.read k i lt at)) (trie_there bits is cache k i lt at)
    (moved_is_trie i.segments (own_moves is k) i.streams.exports (own_trie i (able.accepted.streams k i found))))

pub trie_accepted : (bits : ℕ) (is : List Img) → IsBuildable bits is → IsCache bits is → (k : ℕ) (i : Img) → k < length is → i ≡ get_or is k i → trie_break (moved_in bits is k i).streams.exports ≡ None
trie_accepted bits is able cache k i lt at = (has_trie bits is able cache k i lt at).accepted

pub exports_kept : (bits : ℕ) (is : List Img) → IsBuildable bits is → IsCache bits is → (k : ℕ) (i : Img) → k < length is → i ≡ get_or is k i → IsMoved i (own_moves is k) (own_spots bits is k) (slid_of bits is 0)
    → SameExports i (moved_in bits is k i) (exports_of i.streams.exports) (exports_of (moved_in bits is k i).streams.exports)
exports_kept bits is able cache k i lt at moved =
    subst (λ (es : List Export). SameExports i (moved_in bits is k i) (exports_of i.streams.exports) es) (sym (has_trie bits is able cache k i lt at).back)
    (same_exports i (own_moves is k) (own_spots bits is k) (slid_of bits is 0) moved (exports_of i.streams.exports) (none_strays is k i lt at (able.accepted.exports k lt)))
