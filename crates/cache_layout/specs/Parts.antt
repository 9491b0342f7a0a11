-- The bytes of the segments, joined in the order of a layout.
use Rattle.std.specs.Prelude.{◌≡◌, ℕ, false, Option, Some, None, if◌then◌else◌, List, [], ◌++◌, length}
use Rattle.std.specs.List.{flat_map, enumerate_from}
use Rattle.dsc_base.specs.Region.{paged}
use Rattle.macho_image.specs.Records.{Seg, Img}
use Rattle.macho_image.specs.Rules.{is_linkedit_segment}
use Rattle.cache_layout.specs.declared.mapping.Mapping.{Mapping}
use Rattle.cache_layout.specs.declared.mapping.Mapping.TheVariants.{Text, Writable, Fixed}
use Rattle.cache_layout.specs.Places.{mapping_of, is_same}
use Rattle.cache_layout.specs.Layouts.{Laid}
use Rattle.cache_layout.specs.Apart.{IsSegment, move_at}

-- the bytes of a segment where it belongs to a mapping, and none elsewhere
abbrev pub part_in : Mapping → Option Mapping → List ℕ → List ℕ
part_in m None bytes = []
part_in m (Some n) bytes = if is_same m n then bytes else []

-- the segments of an image that belong to a mapping, by the bytes of each segment
abbrev pub image_part : Mapping → (ℕ → List ℕ) → List Seg → List ℕ
image_part m bytes ss = flat_map (λ p. part_in m (mapping_of p.1) (bytes p.0)) (enumerate_from 0 ss)

-- all segments of a mapping, by the bytes of each image and segment
abbrev pub mapping_part : Mapping → (ℕ → ℕ → List ℕ) → List Img → List ℕ
mapping_part m bytes is = flat_map (λ p. image_part m (bytes p.0) (p.1).segments) (enumerate_from 0 is)

-- the bytes of each segment other than `__LINKEDIT` are its size in memory in whole pages
abbrev pub AreWholePages : (ℕ → ℕ → List ℕ) → List Img → Type 0
AreWholePages bytes is = (k g : ℕ) (i : Img) (s : Seg) → IsSegment is k g i s → is_linkedit_segment s ≡ false → length (bytes k g) ≡ paged s.vmsize

-- the head's pages, the segments of each mapping, and what follows
abbrev pub joined : List ℕ → (ℕ → ℕ → List ℕ) → List Img → List ℕ → List ℕ
joined head bytes is rest =
    head ++ (mapping_part Text bytes is ++ (mapping_part Writable bytes is ++ (mapping_part Fixed bytes is ++ rest)))

-- bytes that stand in a list at a place
abbrev pub StandsAt : List ℕ → ℕ → List ℕ → Type 0
StandsAt all at bytes = (front : List ℕ) × (after : List ℕ) × (all ≡ front ++ (bytes ++ after)) × (length front ≡ at)

-- The joined segments of the mappings have no gaps: behind the head's pages, each segment other than `__LINKEDIT` stands where the layout puts it.
abbrev pub AreJoined : List Img → Laid → Type 0
AreJoined is l = (head : List ℕ) (bytes : ℕ → ℕ → List ℕ) (rest : List ℕ) → length head ≡ l.text.at → AreWholePages bytes is
    → (k g : ℕ) (i : Img) (s : Seg) → IsSegment is k g i s → is_linkedit_segment s ≡ false → StandsAt (joined head bytes is rest) (move_at l k g).file (bytes k g)
