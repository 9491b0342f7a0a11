-- What a cache says as a whole: its head, its slide information, the words that slide, and its bytes at slide 0; and what is wrong with it first.
use Rattle.std.specs.Prelude.{◌≡◌, ◌≤◌, ℕ, ◌+◌, List, [], ◌∷◌, ◌++◌, take, drop, map, length, Option, None}
use Rattle.dsc_base.specs.Numbers.{number_at}
use Rattle.dsc_base.specs.Refusals.{first_break}
use Rattle.dsc_base.specs.declared.fault.Finding.{Finding}
use Rattle.slide_chain.specs.Chains.{Slide, chain_words, chain_finding, slid_area}
use Rattle.slide_chain.specs.Info.{info_read, info_finding}
use Rattle.slide_chain.specs.Making.{AreWords, AllBelow}
use Rattle.slide_chain.specs.declared.words.ChainWord.{ChainWord}
use Rattle.cache_header.specs.Records.{Head}
use Rattle.cache_header.specs.Reading.{head_read}
use Rattle.cache_header.specs.Findings.{head_finding}
use Rattle.load_model.specs.Mapped.{flat}
use Rattle.cache_check.specs.Shape.{data_mapping, mapping_finding, shape_finding}

pub record View : Type 0 where
  pub head : Head
  pub info : Slide
  pub words : List ChainWord
  pub flat : List ℕ

-- the bytes of slide information, and those of the data, where the head has them
abbrev pub slide_bytes : Head → List ℕ → List ℕ
slide_bytes head cache = take head.slide_info.len (drop head.slide_info.at cache)

abbrev pub data_bytes : Head → List ℕ → List ℕ
data_bytes head cache = take (data_mapping head.mappings).size (drop (data_mapping head.mappings).file cache)

unfoldable pub view_of : List ℕ → View
view_of cache =
    let head = head_read cache in
    let info = info_read (slide_bytes head cache) in
    record { head = head; info = info; words = chain_words info (data_bytes head cache); flat = flat cache }

-- what is wrong with slide information and then with the chains, in a cache with this head
unfoldable pub slide_finding : Head → List ℕ → Option Finding
slide_finding head cache =
    first_break (info_finding (data_mapping head.mappings).size (slide_bytes head cache)
    ∷ chain_finding (info_read (slide_bytes head cache)) (data_bytes head cache) ∷ [])

-- the first finding that a cache has: of its head, of its shape, and of what slides
unfoldable pub view_finding : List ℕ → Option Finding
view_finding cache =
    let head = head_read cache in
    first_break (head_finding cache ∷ shape_finding (length cache) head ∷ slide_finding head cache ∷ [])

-- the bytes of a cache with this head, with the data as they are at slide 0
unfoldable pub flat_with : Slide → Head → List ℕ → List ℕ
flat_with info head cache =
    take (data_mapping head.mappings).file cache
    ++ (slid_area info 0 (data_bytes head cache) ++ drop ((data_mapping head.mappings).file + (data_mapping head.mappings).size) cache)

-- ---- what is true of every view

abbrev pub offsets_of : List ChainWord → List ℕ
offsets_of words = map (λ (w : ChainWord). w.offset) words

-- bytes have each word's value at its offset from a place on
abbrev pub HaveValues : List ℕ → ℕ → List ChainWord → Type 0
HaveValues bytes place [] = Unit {0}
HaveValues bytes place (w ∷ words) = (number_at 8 bytes (place + w.offset) ≡ w.value) × HaveValues bytes place words

-- at most 4,096 images; mappings that nothing is wrong with; and words in the data that rise by eight or more, at multiples of four, none across a page's end, each with its value in the bytes
pub record IsSoundView (v : View) : Type 0 where
  pub few : length v.head.images ≤ 4096
  pub mapped : mapping_finding (length v.flat) v.head ≡ None
  pub words : AreWords 0 (offsets_of v.words)
  pub inside : AllBelow (data_mapping v.head.mappings).size (offsets_of v.words)
  pub values : HaveValues v.flat (data_mapping v.head.mappings).file v.words
