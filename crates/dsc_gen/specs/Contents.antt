-- The sections of an image: code with deltas into the data, and data with pointers.
use Rattle.std.specs.Prelude.{ℕ, suc, ◌+◌, ◌-◌, ◌*◌, ◌%◌, List, [], ◌∷◌, replicate}
use Rattle.std.specs.List.{flat_map}
use Rattle.dsc_base.specs.Numbers.{little_bytes}
use Rattle.dsc_base.specs.Edits.{put_all}
use Rattle.dsc_base.specs.declared.edits.Edit.{Edit}
use Rattle.dsc_gen.specs.Draws.{text_start}

-- words as bytes
unfoldable pub words_bytes : List ℕ → List ℕ
words_bytes words = flat_map (little_bytes 4) words

-- where delta i stands in the text's section, and pointer i in the data's
abbrev pub delta_place : ℕ → ℕ
delta_place i = 16 * i

abbrev pub pointer_place : ℕ → ℕ
pointer_place i = 32 * i

-- the place in the data to which a delta leads, by its word, where segments have `size` bytes
abbrev pub target : ℕ → ℕ → ℕ
target size word = word % size

-- the distances from deltas i and up to their targets, where the data segment lies at the address `size`
abbrev pub delta_edits : ℕ → ℕ → List ℕ → List Edit
delta_edits size i [] = []
delta_edits size i (word ∷ more) =
    record { at = delta_place i; width = 4; value = size + target size word - (text_start + delta_place i) } ∷ delta_edits size (suc i) more

-- pointers i and up, each to a place from the text's section on, up to the end of the data
abbrev pub pointer_edits : ℕ → ℕ → List ℕ → List Edit
pointer_edits size i [] = []
pointer_edits size i (word ∷ more) =
    record { at = pointer_place i; width = 8; value = text_start + word % (2 * size - text_start) } ∷ pointer_edits size (suc i) more

-- the section `__text`
unfoldable pub text_bytes : ℕ → List ℕ → List ℕ → List ℕ
text_bytes size code targets = put_all (delta_edits size 0 targets) (words_bytes code)

-- the section `__data`
unfoldable pub data_bytes : ℕ → List ℕ → List ℕ
data_bytes size pointers = put_all (pointer_edits size 0 pointers) (replicate size 0)
