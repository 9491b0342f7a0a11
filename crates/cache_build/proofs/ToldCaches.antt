-- What the head of a set's cache says: its images, its mappings, where its slide information stands, and how far it can slide.
use Rattle.std.proofs.Common.{◌≡◌, ◌<◌, ℕ, ◌+◌, ◌-◌, None, List, [], ◌++◌, take, drop, length, get_or, replicate, sym, ap, ◌∙◌, arith}
use Rattle.dsc_base.specs.Region.{region_size}
use Rattle.macho_image.specs.Records.{Img}
use Rattle.cache_header.specs.Records.{Entry}
use Rattle.cache_header.specs.Spelling.{head_bytes}
use Rattle.cache_header.specs.Reading.{mappings_of, slide_info_bytes, slide_place, image_count, image_address, image_path, max_slide}
use Rattle.cache_header.specs.Findings.{head_finding}
use Rattle.cache_header.proofs.Back.{padded_head, head_sound}
use Rattle.cache_header.proofs.BackHead.{image_count_is, mappings_are, max_slide_is, slide_place_is, slide_info_bytes_is}
use Rattle.cache_header.proofs.BackImages.{image_address_is, image_path_is}
use Rattle.cache_layout.specs.declared.mapping.Mapping.TheVariants.{Text, Writable, Fixed}
use Rattle.cache_layout.specs.Layouts.{layout_of}
use Rattle.cache_layout.specs.Apart.{move_at}
use Rattle.cache_layout.proofs.NumberedLaws.{numbered-get}
use Rattle.load_model.specs.Mapped.{three_mappings}
use Rattle.cache_build.specs.Places.{frame_of}
use Rattle.cache_build.specs.Head.{entry_of, head_of}
use Rattle.cache_build.specs.Cache.{cache_of}
use Rattle.cache_build.proofs.BuildableSets.{IsBuildable, set_slide, set_span, set_head}
use Rattle.cache_build.proofs.CacheHeads.{head_fits, head_writable, entries_are, entries_long}
use Rattle.cache_build.proofs.CacheParts.{linked_part, set_tail, cache_parts}

-- what stands behind the head
abbrev pub behind_head : ℕ → List Img → List ℕ
behind_head bits is =
    replicate ((layout_of is).text.at - length (head_bytes (set_head bits is))) 0
    ++ (linked_part bits is Text ++ (linked_part bits is Writable ++ (linked_part bits is Fixed ++ set_tail bits is)))

pub head_first : (bits : ℕ) (is : List Img) → cache_of bits is ≡ head_bytes (set_head bits is) ++ behind_head bits is
head_first bits is =
    cache_parts bits is ∙ padded_head (layout_of is).text.at (set_head bits is) (linked_part bits is Text ++ (linked_part bits is Writable ++ (linked_part bits is Fixed ++ set_tail bits is)))

-- nothing is wrong with the head
pub head_none : (bits : ℕ) (is : List Img) → IsBuildable bits is → head_finding (cache_of bits is) ≡ None
head_none bits is buildable = ap head_finding (head_first bits is) ∙ head_sound (set_head bits is) (behind_head bits is) (head_writable bits is buildable.accepted) (head_fits bits is buildable)

-- ---- images

pub count_is : (bits : ℕ) (is : List Img) → IsBuildable bits is → image_count (cache_of bits is) ≡ length is
count_is bits is buildable =
    ap image_count (head_first bits is)
    ∙ (image_count_is (set_head bits is) (behind_head bits is) (head_writable bits is buildable.accepted) (head_fits bits is buildable) ∙ entries_long bits is)

no_entry : Entry
no_entry = record { address = 0; path = []; uuid = []; text_size = 0 }

entry_there : (bits : ℕ) (is : List Img) (k : ℕ) (i : Img) → k < length is → i ≡ get_or is k i → get_or (set_head bits is).images k no_entry ≡ entry_of (layout_of is) k i
entry_there bits is k i lt at = ap (λ (es : List Entry). get_or es k no_entry) (entries_are bits is) ∙ numbered-get (entry_of (layout_of is)) is k i no_entry lt at

pub path_is : (bits : ℕ) (is : List Img) → IsBuildable bits is → (k : ℕ) (i : Img) → k < length is → i ≡ get_or is k i → image_path (cache_of bits is) k ≡ i.install_name
path_is bits is buildable k i lt at =
    ap (λ (c : List ℕ). image_path c k) (head_first bits is)
    ∙ (image_path_is (set_head bits is) (behind_head bits is) k no_entry (head_writable bits is buildable.accepted) (head_fits bits is buildable) (omega (arith, lt, entries_long bits is))
    ∙ ap (λ (e : Entry). e.path) (entry_there bits is k i lt at))

pub address_is : (bits : ℕ) (is : List Img) → IsBuildable bits is → (k : ℕ) (i : Img) → k < length is → i ≡ get_or is k i → image_address (cache_of bits is) k ≡ (move_at (layout_of is) k 0).address
address_is bits is buildable k i lt at =
    ap (λ (c : List ℕ). image_address c k) (head_first bits is)
    ∙ (image_address_is (set_head bits is) (behind_head bits is) k no_entry (head_writable bits is buildable.accepted) (head_fits bits is buildable) (omega (arith, lt, entries_long bits is))
    ∙ ap (λ (e : Entry). e.address) (entry_there bits is k i lt at))

-- ---- the file

pub place_is : (bits : ℕ) (is : List Img) → IsBuildable bits is
    → slide_place (cache_of bits is) ≡ record { at = (layout_of is).fixed.at + (layout_of is).fixed.len; len = length (set_slide bits is) }
unfolding head_of frame_of
place_is bits is buildable = ap slide_place (head_first bits is) ∙ slide_place_is (set_head bits is) (behind_head bits is) (head_fits bits is buildable)

pub most_is : (bits : ℕ) (is : List Img) → IsBuildable bits is → max_slide (cache_of bits is) ≡ region_size - set_span bits is
unfolding head_of frame_of
most_is bits is buildable = ap max_slide (head_first bits is) ∙ max_slide_is (set_head bits is) (behind_head bits is) (head_fits bits is buildable)

-- how much stands behind the data
abbrev pub rest_of : ℕ → List Img → ℕ
rest_of bits is = set_span bits is - ((layout_of is).writable.at + (layout_of is).writable.len)

pub mappings_is : (bits : ℕ) (is : List Img) → IsBuildable bits is → mappings_of (cache_of bits is) ≡ three_mappings (layout_of is).writable.at (layout_of is).writable.len (rest_of bits is)
unfolding head_of frame_of
mappings_is bits is buildable =
    ap mappings_of (head_first bits is) ∙ mappings_are (set_head bits is) (behind_head bits is) (head_writable bits is buildable.accepted) (head_fits bits is buildable)

pub slide_there : (bits : ℕ) (is : List Img) → IsBuildable bits is
    → slide_info_bytes (cache_of bits is) ≡ take (length (set_slide bits is)) (drop ((layout_of is).fixed.at + (layout_of is).fixed.len) (cache_of bits is))
unfolding head_of frame_of
slide_there bits is buildable =
    ap slide_info_bytes (head_first bits is)
    ∙ (slide_info_bytes_is (set_head bits is) (behind_head bits is) (head_fits bits is buildable)
    ∙ ap (λ (c : List ℕ). take (length (set_slide bits is)) (drop ((layout_of is).fixed.at + (layout_of is).fixed.len) c)) (sym (head_first bits is)))
