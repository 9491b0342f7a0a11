-- Loading files separately: each image at a slide of its own, its pointers rebased and bound.
use Rattle.std.specs.Prelude.{◌≡◌, ℕ, ◌+◌, ◌-◌, ◌*◌, List, [], ◌∷◌, ◌++◌, replicate, slice_get}
use Rattle.macho_image.specs.Records.{Seg}
use Rattle.macho_image.specs.Order.{addresses_of}
use Rattle.macho_image.specs.Places.{wrap}
use Rattle.macho_image.specs.Segments.{start_of, segments_at}
use Rattle.split_info.specs.declared.reference.RefKind.TheVariants.{Pointer64}
use Rattle.prebind.specs.declared.resolved.PlacedWord.{PlacedWord}
use Rattle.prebind.specs.Sets.{ImageSet}
use Rattle.prebind.specs.Numbers.{Starts, number_to}
use Rattle.prebind.specs.Words.{streams_at, bound_words}
use Rattle.load_model.specs.Memory.{Cells, nowhere, with_bytes, with_number, number_from}

-- one slide for each image, a multiple of the page size; the slides needn't keep the images apart
abbrev pub IsPlacement : (ℕ → ℕ) → Type 0
IsPlacement slides = (k : ℕ) → (pages : ℕ) × (slides k ≡ pages * 4096)

-- where each segment of a set starts once it is loaded
abbrev pub loaded_starts : ImageSet → (ℕ → ℕ) → Starts
loaded_starts set slides k g = wrap (start_of (slice_get (segments_at set.images k) g) + slides k)

-- a segment's bytes in memory: the file's, and zeros to its size
abbrev pub in_memory : Seg → List ℕ
in_memory s = s.bytes ++ replicate (s.vmsize - s.filesize) 0

unfoldable pub segment_cells : ℕ → List Seg → Cells
segment_cells slide [] = nowhere
segment_cells slide (s ∷ ss) = with_bytes (wrap (s.vmaddr + slide)) (in_memory s) (segment_cells slide ss)

-- the slide added to the number at each rebased address
unfoldable pub rebased : ℕ → List ℕ → Cells → Cells
rebased slide [] cells = cells
rebased slide (a ∷ rest) cells =
    let at = wrap (a + slide) in rebased slide rest (with_number 8 at (wrap (number_from 8 cells at + slide)) cells)

-- each bound word set to the number that leads to its target
unfoldable pub bound_to : Starts → ℕ → List PlacedWord → Cells → Cells
bound_to starts slide [] cells = cells
bound_to starts slide (w ∷ ws) cells =
    let at = wrap (w.at.address + slide) in bound_to starts slide ws (with_number 8 at (number_to starts at 0 Pointer64 w.target) cells)

-- image k of a set in memory
unfoldable pub loaded : ImageSet → (ℕ → ℕ) → ℕ → Cells
loaded set slides k =
    bound_to (loaded_starts set slides) (slides k) (bound_words set k)
    (rebased (slides k) (addresses_of (streams_at set k).rebases) (segment_cells (slides k) (segments_at set.images k)))
