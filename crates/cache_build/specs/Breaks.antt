-- The first rule that a set of files breaks: up to where its exports and words lead, then on its layout, and then behind the layout.
use Rattle.std.specs.Prelude.{ℕ, Option, List, [], ◌∷◌, length}
use Rattle.dsc_base.specs.declared.fault.Break.{Break}
use Rattle.dsc_base.specs.Refusals.{first_break}
use Rattle.slide_chain.specs.Making.{chains_break}
use Rattle.prebind.specs.Sets.{ImageSet, image_set}
use Rattle.cache_layout.specs.Layouts.{Laid, layout_of, layout_break}
use Rattle.ref_rewrite.specs.Breaks.{rewrite_break}
use Rattle.linkedit_merge.specs.Linkedit.{merge_break}
use Rattle.load_model.specs.Phases.{images_of, files_break}
use Rattle.cache_build.specs.Edits.{chained_of}
use Rattle.cache_build.specs.Places.{slide_bytes, shares_in}

-- the first rule that a set breaks behind its layout: on the numbers that lead to targets, then on chains, and then on the linkedit
unfoldable pub behind_layout : ℕ → Laid → ImageSet → Option Break
behind_layout bits l set =
    first_break (rewrite_break l set ∷ chains_break bits l.writable.len (chained_of l set) ∷ merge_break l (length (slide_bytes bits l set)) (shares_in l set.images) ∷ [])

-- and the first of all, where the distance to the next word of a chain has so many bits
unfoldable pub set_break : ℕ → List (List ℕ) → Option Break
set_break bits files =
    first_break (files_break files ∷ layout_break (images_of files) ∷ behind_layout bits (layout_of (images_of files)) (image_set (images_of files)) ∷ [])
