-- The words of an image in a cache file: where each stands there, and the number by which it leads to its target. Images and segments count from 0.
use Rattle.std.specs.Prelude.{ℕ, ◌+◌, Bool, true, List, position, Option, Some, None, slice_get}
use Rattle.dsc_base.specs.declared.edits.Edit.{Edit}
use Rattle.macho_image.specs.Records.{Seg}
use Rattle.macho_image.specs.declared.place.Moved.{Moved}
use Rattle.macho_image.specs.Places.{wrap, above}
use Rattle.macho_image.specs.Segments.{start_of, is_text_segment}
use Rattle.split_info.specs.References.{width_of}
use Rattle.prebind.specs.declared.resolved.WordTarget.{WordTarget}
use Rattle.prebind.specs.declared.resolved.WordTarget.TheVariants.{Place, Constant}
use Rattle.prebind.specs.Numbers.{Starts, counted_to, number_to, fits}
use Rattle.prebind.specs.Words.{Word}
use Rattle.split_info.specs.declared.reference.RefKind.{RefKind}
use Rattle.cache_layout.specs.Layouts.{Laid}
use Rattle.cache_layout.specs.Apart.{move_at}

-- where the segments of a set start in the cache
abbrev pub new_starts : Laid → Starts
new_starts l k g = (move_at l k g).address

-- the header of image k goes where its segment `__TEXT` does, by that name
abbrev pub move_or_none : Laid → ℕ → Option ℕ → Moved
move_or_none l k None = record { address = 0; file = 0 }
move_or_none l k (Some g) = move_at l k g

unfoldable pub header_move : Laid → ℕ → List Seg → Moved
header_move l k ss = move_or_none l k (position is_text_segment ss)

-- an address of segment g is as far behind the segment's start in the cache as it is in the image's own file
abbrev pub distance_in : List Seg → ℕ → ℕ → ℕ
distance_in ss g address = above (start_of (slice_get ss g)) address

unfoldable pub new_address : Laid → ℕ → List Seg → ℕ → ℕ → ℕ
new_address l k ss g address = wrap ((move_at l k g).address + distance_in ss g address)

unfoldable pub new_offset : Laid → ℕ → List Seg → ℕ → ℕ → ℕ
new_offset l k ss g address = wrap ((move_at l k g).file + distance_in ss g address)

-- the number by which a word of image k leads to its target in the cache
unfoldable pub new_number : Laid → ℕ → List Seg → Word → ℕ
new_number l k ss w =
    number_to (new_starts l) (new_address l k ss w.at.segment w.at.address) (header_move l k ss).address w.kind w.target

-- the word set to it
abbrev pub edit_of : Laid → ℕ → List Seg → Word → Edit
edit_of l k ss w = record { at = new_offset l k ss w.at.segment w.at.address; width = width_of w.kind; value = new_number l k ss w }

-- whether a word has bytes for the number that leads to a target
abbrev pub has_bytes : Starts → ℕ → ℕ → RefKind → WordTarget → Bool
has_bytes starts location header kind (Place k g distance) = fits kind (counted_to kind location header (wrap (starts k g + distance)))
has_bytes starts location header kind (Constant c) = true

unfoldable pub can_lead : Laid → ℕ → List Seg → Word → Bool
can_lead l k ss w =
    has_bytes (new_starts l) (new_address l k ss w.at.segment w.at.address) (header_move l k ss).address w.kind w.target
