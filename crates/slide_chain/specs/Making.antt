-- How words of the data are linked into chains: which word leads to which, the starts and extras, and the delta bits.
-- The words are places in the data, rising. A delta has as many bits as an option says, from bit 48 up.
use Rattle.std.specs.Prelude.{◌≡◌, ◌≤◌, ◌<◌, ℕ, zero, suc, ◌+◌, ◌-◌, ◌*◌, ◌/◌, ◌%◌, ◌^◌, ◌&&◌, List, [], ◌∷◌, ◌++◌, length, nat_eq, nat_lt, nat_le, Option, Some, None, option_map, bit_and, if◌then◌else◌}
use Rattle.dsc_base.specs.Numbers.{number_at}
use Rattle.dsc_base.specs.Edits.{Change}
use Rattle.dsc_base.specs.Refusals.{broken, in_image}
use Rattle.dsc_base.specs.declared.fault.Break.{Break}
use Rattle.dsc_base.specs.declared.fault.Site.{Site}
use Rattle.dsc_base.specs.declared.rule.Rule.TheVariants.{TooManyExtras}
use Rattle.slide_chain.specs.declared.words.ChainWord.{ChainWord}
use Rattle.slide_chain.specs.Chains.{Slide}

-- The distance from a word to the next one, in units of four bytes, where both lie in one page and it is at most the limit that the bits can hold. Else 0.
unfoldable pub step : ℕ → ℕ → ℕ → ℕ
step limit a b = if nat_eq (a / 4096) (b / 4096) && nat_le ((b - a) / 4) limit then (b - a) / 4 else 0

-- from a word to the first of those behind it
unfoldable pub step_to : ℕ → ℕ → List ℕ → ℕ
step_to limit a [] = 0
step_to limit a (b ∷ words) = step limit a b

-- each word gets its step in the bits from 48 up
unfoldable pub linking : ℕ → List ℕ → List Change
linking limit [] = []
linking limit (a ∷ words) = record { at = a; width = 8; becomes = λ v. v + step_to limit a words * 2 ^ 48 } ∷ linking limit words

-- the words that begin a chain: the first one, and each one behind a word whose step is 0
unfoldable pub firsts_after : ℕ → ℕ → List ℕ → List ℕ
firsts_after limit a [] = []
firsts_after limit a (b ∷ words) = if nat_eq (step limit a b) 0 then b ∷ firsts_after limit b words else firsts_after limit b words

unfoldable pub firsts : ℕ → List ℕ → List ℕ
firsts limit [] = []
firsts limit (a ∷ words) = a ∷ firsts_after limit a words

-- the words below a place, which stand first, and the others
unfoldable pub front : ℕ → List ℕ → List ℕ
front end [] = []
front end (w ∷ words) = if nat_lt w end then w ∷ front end words else []

unfoldable pub rest : ℕ → List ℕ → List ℕ
rest end [] = []
rest end (w ∷ words) = if nat_lt w end then rest end words else w ∷ words

-- for each of n pages from a place on, the words that begin a chain in it
unfoldable pub page_firsts : ℕ → ℕ → ℕ → List ℕ → List (List ℕ)
page_firsts limit page zero words = []
page_firsts limit page (suc n) words = firsts limit (front (page + 4096) words) ∷ page_firsts limit (page + 4096) n (rest (page + 4096) words)

-- an extra for each first word, a quarter of its place in the page, the last one with the highest bit
unfoldable pub marked_last : List ℕ → List ℕ
marked_last [] = []
marked_last (f ∷ []) = (0x8000 + f % 4096 / 4) ∷ []
marked_last (f ∷ g ∷ fs) = (f % 4096 / 4) ∷ marked_last (g ∷ fs)

-- a page with two first words or more needs extras
unfoldable pub extras_for : List ℕ → List ℕ
extras_for [] = []
extras_for (f ∷ []) = []
extras_for (f ∷ g ∷ fs) = marked_last (f ∷ g ∷ fs)

-- a page's start, by its first words and the number of extras so far
unfoldable pub start_for : ℕ → List ℕ → ℕ
start_for count [] = 0x4000
start_for count (f ∷ []) = f % 4096 / 4
start_for count (f ∷ g ∷ fs) = 0x8000 + count

unfoldable pub starts_of : ℕ → List (List ℕ) → List ℕ
starts_of count [] = []
starts_of count (fs ∷ pages) = start_for count fs ∷ starts_of (count + length (extras_for fs)) pages

unfoldable pub extras_of : List (List ℕ) → List ℕ
extras_of [] = []
extras_of (fs ∷ pages) = extras_for fs ++ extras_of pages

-- the slide information of data of so many bytes with these words, for deltas of so many bits
unfoldable pub info_of : ℕ → ℕ → List ℕ → Slide
info_of bits size words = record {
  mask = (2 ^ bits - 1) * 2 ^ 48;
  value_add = 0;
  starts = starts_of 0 (page_firsts (2 ^ bits - 1) 0 (size / 4096) words);
  extras = extras_of (page_firsts (2 ^ bits - 1) 0 (size / 4096) words);
}

-- ---- what callers owe

-- the words rise from a place on by eight or more, at multiples of four, none of them across a page's end
abbrev pub AreWords : ℕ → List ℕ → Type 0
AreWords from [] = Unit {0}
AreWords from (a ∷ words) = (from ≤ a) × (a % 4 ≡ 0) × (a % 4096 ≤ 0xFF8) × AreWords (a + 8) words

-- each word begins below a place
abbrev pub AllBelow : ℕ → List ℕ → Type 0
AllBelow end [] = Unit {0}
AllBelow end (a ∷ words) = (a < end) × AllBelow end words

-- the number at each word has no bit in the mask
abbrev pub AreOutside : ℕ → List ℕ → List ℕ → Type 0
AreOutside mask area [] = Unit {0}
AreOutside mask area (a ∷ words) = (bit_and (number_at 8 area a) mask ≡ 0) × AreOutside mask area words

-- the information is what was made of these words and of data of so many bytes, for some number of bits
pub record IsMade (s : Slide) (size : ℕ) (words : List ℕ) : Type 0 where
  pub bits : ℕ
  pub some : 1 ≤ bits
  pub most : bits ≤ 16
  pub made : s ≡ info_of bits size words
  pub few : length s.extras ≤ 0x4000

-- ---- what was given

-- the words whose number isn't 0, with their numbers
unfoldable pub given : List ℕ → List ℕ → List ChainWord
given area [] = []
given area (a ∷ words) = if nat_eq (number_at 8 area a) 0 then given area words else record { offset = a; value = number_at 8 area a } ∷ given area words

-- what a slide does to the number of a word that was given: 0 stays 0
abbrev pub raising : ℕ → ℕ → Change
raising slide at = record { at = at; width = 8; becomes = λ v. if nat_eq v 0 then 0 else (v + slide) % 2 ^ 64 }

-- ---- what is refused

-- more extras than starts can lead to: how many these words need
unfoldable pub extras_over : ℕ → ℕ → List ℕ → Option ℕ
extras_over bits size words = if nat_lt 0x4000 (length (info_of bits size words).extras) then Some (length (info_of bits size words).extras) else None

-- the same as a broken rule, shown at their number
abbrev pub extras_site : ℕ → ℕ → List ℕ → Option Site
extras_site bits size words = broken TooManyExtras (extras_over bits size words)

-- and as the first break of a set, which is shown at image 0: bits of a delta, bytes of data, words
abbrev pub chains_break : ℕ → ℕ → List ℕ → Option Break
chains_break bits size words = option_map (in_image 0) (extras_site bits size words)
