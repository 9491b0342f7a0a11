-- Which words of the data slide with the cache: slide information of version 2, as Apple's dyld_cache_format.h has it.
-- The data are whole pages of 4096 bytes. A place is an offset in them.
use Rattle.std.specs.Prelude.{◌≡◌, ◌≤◌, ℕ, zero, suc, ◌+◌, ◌-◌, ◌*◌, ◌/◌, ◌%◌, ◌^◌, min, Bool, true, ◌&&◌, List, [], ◌∷◌, ◌++◌, map, length, drop, filter, nat_eq, nat_lt, nat_le, Option, Some, None, option_map, unwrap_or, bit_and, if◌then◌else◌}
use Rattle.std.specs.Int.{trailing_zeros, w64}
use Rattle.std.specs.List.{flat_map, list_any}
use Rattle.dsc_base.specs.Numbers.{number_at}
use Rattle.dsc_base.specs.Edits.{Change, change_all}
use Rattle.dsc_base.specs.Refusals.{first_break}
use Rattle.dsc_base.specs.declared.fault.Finding.{Finding}
use Rattle.dsc_base.specs.declared.finding_kind.FindingKind.{FindingKind}
use Rattle.dsc_base.specs.declared.finding_kind.FindingKind.TheVariants.{ExtrasEnd, ChainLeavesPage, ChainsOverlap}
use Rattle.slide_chain.specs.declared.words.ChainWord.{ChainWord}

-- what slide information says: one start for each page, and the extras that starts may lead to
pub record Slide : Type 0 where
  pub mask : ℕ
  pub value_add : ℕ
  pub starts : List ℕ
  pub extras : List ℕ

-- the same by its parts
abbrev pub slide_of : ℕ → ℕ → List ℕ → List ℕ → Slide
slide_of mask value_add starts extras = record { mask = mask; value_add = value_add; starts = starts; extras = extras }

-- ---- one word

-- how many bytes the next word of the chain is away: the mask's bits count in units of four
unfoldable pub delta_of : ℕ → ℕ → ℕ
delta_of mask raw = bit_and raw mask / 2 ^ (trailing_zeros w64 mask - 2)

-- the word without the mask's bits
unfoldable pub kept : ℕ → ℕ → ℕ
kept mask raw = raw - bit_and raw mask

-- the value of a chain word at slide 0
unfoldable pub unslid : ℕ → ℕ → ℕ → ℕ
unslid mask value_add raw = (kept mask raw + value_add) % 2 ^ 64

-- what the word becomes under a slide: 0 stays 0
unfoldable pub moved : ℕ → ℕ → ℕ → ℕ → ℕ
moved mask value_add slide raw = if nat_eq (kept mask raw) 0 then 0 else (unslid mask value_add raw + slide) % 2 ^ 64

abbrev pub slid : Slide → ℕ → ℕ → ℕ
slid s slide raw = moved s.mask s.value_add slide raw

-- ---- which words are reached

-- The words of a chain in its page, in which a word begins at `last` or before. A step has four bytes or more, so 1024 reach the page's end.
unfoldable pub chain : ℕ → List ℕ → ℕ → ℕ → ℕ → List ℕ
chain mask area last zero at = []
chain mask area last (suc steps) at =
    if nat_lt last at then []
    else at ∷ (if nat_eq (delta_of mask (number_at 8 area at)) 0 then [] else chain mask area last steps (at + delta_of mask (number_at 8 area at)))

-- a start or an extra with its highest bit
unfoldable pub is_marked : ℕ → Bool
is_marked half = nat_le 0x8000 half

-- the first words that a run of extras leads to, up to the extra that is marked
unfoldable pub extra_heads : ℕ → List ℕ → List ℕ
extra_heads page [] = []
extra_heads page (e ∷ es) = (page + e % 0x4000 * 4) ∷ (if is_marked e then [] else extra_heads page es)

-- the first words of a page's chains, by its start
unfoldable pub heads : List ℕ → ℕ → ℕ → List ℕ
heads extras page start =
    if nat_eq start 0x4000 then []
    else (if is_marked start then extra_heads page (drop (start % 0x4000) extras) else (page + start * 4) ∷ [])

-- the words that are reached in the page that begins at a place
unfoldable pub page_reached : ℕ → List ℕ → List ℕ → ℕ → ℕ → List ℕ
page_reached mask extras area page start = flat_map (chain mask area (page + 0xFF8) 1024) (heads extras page start)

-- what each page gives, page by page from a place on
unfoldable pub each_page : (ℕ → ℕ → List ℕ) → ℕ → List ℕ → List ℕ
each_page gives page [] = []
each_page gives page (x ∷ xs) = gives page x ++ each_page gives (page + 4096) xs

-- the places of all words that are reached, chain after chain
unfoldable pub reached : Slide → List ℕ → List ℕ
reached s area = each_page (page_reached s.mask s.extras area) 0 s.starts

-- those of `places` among the first n multiples of four from a place on, rising
unfoldable pub in_order : List ℕ → ℕ → ℕ → List ℕ
in_order places zero at = []
in_order places (suc n) at = if list_any (nat_eq at) places then at ∷ in_order places n (at + 4) else in_order places n (at + 4)

-- the words at the places that are chain words: those whose value isn't 0
unfoldable pub words_at : ℕ → ℕ → List ℕ → List ℕ → List ChainWord
words_at mask value_add area [] = []
words_at mask value_add area (a ∷ places) =
    if nat_eq (kept mask (number_at 8 area a)) 0 then words_at mask value_add area places
    else record { offset = a; value = unslid mask value_add (number_at 8 area a) } ∷ words_at mask value_add area places

-- all chain words by rising offset, with their values at slide 0
unfoldable pub chain_words : Slide → List ℕ → List ChainWord
chain_words s area = words_at s.mask s.value_add area (in_order (reached s area) (length area / 4) 0)

-- ---- the data under a slide

-- the change of the word at a place under a slide
abbrev pub moving : ℕ → ℕ → ℕ → ℕ → Change
moving mask value_add slide at = record { at = at; width = 8; becomes = moved mask value_add slide }

abbrev pub sliding : Slide → ℕ → ℕ → Change
sliding s slide at = moving s.mask s.value_add slide at

-- the data under a slide: each word that is reached becomes the word after sliding
unfoldable pub slid_area : Slide → ℕ → List ℕ → List ℕ
slid_area s slide area = change_all (map (sliding s slide) (reached s area)) area

-- ---- what may be wrong

-- whether a start's run of extras has an extra that ends it
unfoldable pub run_ends : List ℕ → ℕ → Bool
run_ends extras start = if is_marked start then list_any is_marked (drop (start % 0x4000) extras) else true

-- the number of the first page whose run of extras has no end, counted from a number on
unfoldable pub endless_page : List ℕ → ℕ → List ℕ → Option ℕ
endless_page extras number [] = None
endless_page extras number (x ∷ xs) = if run_ends extras x then endless_page extras (number + 1) xs else Some number

-- where chains leave the page that begins at a place: at its own place by a first word, or at the word before
unfoldable pub page_leaving : ℕ → List ℕ → List ℕ → ℕ → ℕ → List ℕ
page_leaving mask extras area page start =
    map (λ h. page) (filter (nat_lt (page + 0xFF8)) (heads extras page start))
    ++ filter (λ a. nat_lt (page + 0xFF8) (a + delta_of mask (number_at 8 area a))) (page_reached mask extras area page start)

unfoldable pub leaving : Slide → List ℕ → List ℕ
leaving s area = each_page (page_leaving s.mask s.extras area) 0 s.starts

-- the places from whose eight bytes on more than one word is reached
unfoldable pub overlapping : List ℕ → List ℕ
overlapping places = filter (λ a. nat_lt 1 (length (filter (λ b. nat_le a b && nat_lt b (a + 8)) places))) places

unfoldable pub lowest : List ℕ → Option ℕ
lowest [] = None
lowest (x ∷ xs) = Some (min x (unwrap_or (lowest xs) x))

-- a finding at a place, if there is one
abbrev pub found : FindingKind → Option ℕ → Option Finding
found kind place = option_map (λ at. record { kind = kind; image = 0; at = at }) place

-- what is wrong with the chains: what no run ends goes before what leaves its page, and that before what overlaps
unfoldable pub chain_finding : Slide → List ℕ → Option Finding
chain_finding s area =
    first_break (found ExtrasEnd (endless_page s.extras 0 s.starts) ∷ found ChainLeavesPage (lowest (leaving s area)) ∷ found ChainsOverlap (lowest (overlapping (reached s area))) ∷ [])

-- ---- what callers owe

-- one run of ones whose lowest bit is 2 or more
pub record IsRun (mask : ℕ) : Type 0 where
  pub low : ℕ
  pub count : ℕ
  pub above : 2 ≤ low
  pub some : 1 ≤ count
  pub within : low + count ≤ 64
  pub ones : mask ≡ 2 ^ (count + low) - 2 ^ low

-- data of whole pages with one start for each, and a mask that is a run of ones
pub record Suits (s : Slide) (area : List ℕ) : Type 0 where
  pub pages : length s.starts * 4096 ≡ length area
  pub run : IsRun s.mask
