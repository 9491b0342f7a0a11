-- What a sound set and its layout give to a linkedit.
use Rattle.std.proofs.Common.{◌≡◌, ◌≤◌, ◌<◌, ℕ, ◌+◌, List, [], length, take, get_or, sym, subst, ap, ◌∙◌, refl, arith, Some, None, All}
use Rattle.std.specs.Prelude.{slice_get}
use Rattle.std.proofs.lemmas.Option.{slice_get_read, slice_get_within, get_or_from_slice_get}
use Rattle.std.proofs.lemmas.List.{get_or_default}
use Rattle.dsc_base.specs.Limits.{span_limit}
use Rattle.macho_image.specs.Records.{Img}
use Rattle.macho_image.specs.declared.place.Moved.{Moved}
use Rattle.export_trie.specs.Order.{trie_break}
use Rattle.prebind.specs.Sets.{StreamLists, ImageSet, IsSoundSet}
use Rattle.cache_layout.specs.Places.{image_start, moves_at, segment_move, all_moves}
use Rattle.cache_layout.specs.Layouts.{Laid, layout_of, layout_break}
use Rattle.cache_layout.proofs.NumberedLaws.{numbered-get, length-numbered}
use Rattle.cache_layout.proofs.BreakLaws.{none-fits}
use Rattle.linkedit_merge.specs.Conditions.{HaveMoves}

-- the tries of a sound set are accepted
accepted_at : (set : ImageSet) (k : ℕ) (image : Img) → IsSoundSet set → k < length set.images → image ≡ get_or set.images k image → trie_break image.streams.exports ≡ None
accepted_at set k image sound within is =
    let none : StreamLists = record { rebases = []; binds = []; references = []; exports = [] } in
    let s = get_or set.streams k none in
    let here : k < length set.streams = omega (arith, sound.many) in
    let own = sound.streams k image s (slice_get_read set.images (length set.images) k image refl within is)
    (slice_get_read set.streams (length set.streams) k s refl here (get_or_default set.streams k none s here)) in
    subst (λ (bytes : List ℕ). trie_break bytes ≡ None) own.exports own.exports_accepted

pub accepted : (set : ImageSet) → IsSoundSet set → All (λ (i : Img). trie_break i.streams.exports ≡ None) set.images
accepted set sound = λ k d within. accepted_at set k (get_or set.images k d) sound within (get_or_default set.images k d (get_or set.images k d) within)

-- a layout has a move for each segment
moved_each : (images : List Img) (k : ℕ) (image : Img) → slice_get images k ≡ Some image → length (get_or (all_moves images) k []) ≡ length image.segments
unfolding all_moves
moved_each images k image found =
    let within = slice_get_within images k image found in
    ap (λ (m : List Moved). length m) (numbered-get (moves_at images) images k image [] within (sym (get_or_from_slice_get images k image image found)))
    ∙ length-numbered (segment_move (image_start images (take k images)) image.segments) image.segments

all_moved : (images : List Img) → HaveMoves images (all_moves images)
unfolding all_moves
all_moved images = record { many = length-numbered (moves_at images) images; each = moved_each images }

pub have_moves : (layout : Laid) (images : List Img) → layout ≡ layout_of images → HaveMoves images layout.moves
unfolding layout_of
have_moves layout images is = subst (λ (l : Laid). HaveMoves images l.moves) (sym is) (all_moved images)

-- and its segments end within the limit
pub segments_within : (layout : Laid) (images : List Img) → layout ≡ layout_of images → layout_break images ≡ None → layout.fixed.at + layout.fixed.len ≤ span_limit
unfolding layout_of
segments_within layout images is fits = subst (λ (l : Laid). l.fixed.at + l.fixed.len ≤ span_limit) (sym is) (none-fits images fits)
