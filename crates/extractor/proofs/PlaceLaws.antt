-- Where the chain words of a view are: they rise, at multiples of four, in the data.
use Rattle.std.proofs.Common.{◌≡◌, ◌≤◌, ◌<◌, ℕ, zero, suc, ◌+◌, ◌%◌, List, [], ◌∷◌, length, get_or, sym, subst, arith, inl, inr}
use Rattle.std.proofs.lemmas.Bool.{cases_lt}
use Rattle.dsc_base.specs.Region.{region_start}
use Rattle.slide_chain.specs.declared.words.ChainWord.{ChainWord}
use Rattle.slide_chain.specs.Making.{AreWords, AllBelow}
use Rattle.cache_header.specs.declared.head.Mapping.{Mapping}
use Rattle.cache_check.specs.Shape.{data_mapping}
use Rattle.cache_check.specs.Views.{View, offsets_of, IsSoundView}
use Rattle.cache_check.proofs.ShapeLaws.{AreThree, three_are, whole_tests}
use Rattle.extractor.specs.Placing.{data_start}
use Rattle.extractor.specs.Homes.{Rise}
use Rattle.extractor.specs.Chained.{HaveAddresses}

-- one word
pub record IsWordAt (from end offset : ℕ) : Type 0 where
  pub above : from ≤ offset
  pub below : offset < end
  pub aligned : offset % 4 ≡ 0
  pub in_page : offset % 4096 ≤ 0xFF8

pub word_at : (from end : ℕ) (ws : List ChainWord) (k : ℕ) (d : ChainWord) → AreWords from (offsets_of ws) → AllBelow end (offsets_of ws) → k < length ws → IsWordAt from end (get_or ws k d).offset
word_at from end [] k d are below lt = absurd (omega (arith, lt))
word_at from end (w ∷ ws) zero d are below lt = record { above = are.0; below = below.0; aligned = are.1; in_page = are.2 }
word_at from end (w ∷ ws) (suc k) d are below lt =
    let later = word_at (w.offset + 8) end ws k d are.3 below.1 (omega (arith, lt)) in
    record { above = omega (arith, are.0, later.above); below = later.below; aligned = later.aligned; in_page = later.in_page }

-- two words
pub apart : (from end : ℕ) (ws : List ChainWord) (i j : ℕ) (d : ChainWord) → AreWords from (offsets_of ws) → AllBelow end (offsets_of ws) → i < j → j < length ws → (get_or ws i d).offset + 8 ≤ (get_or ws j d).offset
apart from end [] i j d are below lt within = absurd (omega (arith, within))
apart from end (w ∷ ws) i zero d are below lt within = absurd (omega (arith, lt))
apart from end (w ∷ ws) zero (suc j) d are below lt within = (word_at (w.offset + 8) end ws j d are.3 below.1 (omega (arith, within))).above
apart from end (w ∷ ws) (suc i) (suc j) d are below lt within = apart (w.offset + 8) end ws i j d are.3 below.1 (omega (arith, lt)) (omega (arith, within))

pub words_rise : (v : View) → IsSoundView v → Rise v.words
words_rise v sound i j d le within = elim (cases_lt i j) [
  | inl lt ↦ let up = apart 0 (data_mapping v.head.mappings).size v.words i j d sound.words sound.inside lt within in omega (arith, up)
  | inr same ↦ let is : i ≡ j = omega (arith, le, same) in subst (λ (k : ℕ). (get_or v.words i d).offset ≤ (get_or v.words k d).offset) is (omega arith)
]

-- ---- the data

pub record IsData (start size : ℕ) : Type 0 where
  pub low : region_start ≤ start
  pub aligned : start % 4096 ≡ 0
  pub high : start + size ≤ region_start + 0x20000000

pub data_is : (v : View) → IsSoundView v → IsData (data_start v) (data_mapping v.head.mappings).size
data_is v sound =
    let tests = whole_tests (length v.flat) v.head sound.mapped in
    let three : AreThree (length v.flat) v.head.mappings = three_are (length v.flat) v.head.mappings tests.1 in
    let a : ℕ = three.text in
    let b : ℕ = three.writable in
    subst (λ (ms : List Mapping). IsData (data_mapping ms).address (data_mapping ms).size) (sym three.are)
    (record { low = omega arith; aligned = omega (arith, three.text_pages); high = omega (arith, three.long, tests.0) })

pub addresses : (v : View) → IsSoundView v → HaveAddresses (data_start v) v.words
addresses v sound k d lt =
    let area = data_is v sound in
    let word = word_at 0 (data_mapping v.head.mappings).size v.words k d sound.words sound.inside lt in
    record { low = omega (arith, area.low); high = omega (arith, area.high, word.below); aligned = omega (arith, area.aligned, word.aligned) }
