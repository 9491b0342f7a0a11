-- The words of a view rise, and lie low.
use Rattle.std.proofs.Common.{◌≡◌, ◌≤◌, ◌<◌, ℕ, zero, suc, ◌+◌, ◌^◌, List, [], ◌∷◌, length, get_or, ap, arith}
use Rattle.dsc_base.specs.Region.{region_start}
use Rattle.slide_chain.specs.Making.{AreWords, AllBelow}
use Rattle.slide_chain.specs.declared.words.ChainWord.{ChainWord}
use Rattle.cache_header.specs.declared.head.Mapping.{Mapping}
use Rattle.cache_check.specs.Shape.{data_mapping}
use Rattle.cache_check.specs.Views.{View, IsSoundView, offsets_of}
use Rattle.cache_check.proofs.ShapeLaws.{AreThree, three_are, count_three, data_is, whole_tests}

from_below : (from : ℕ) (ws : List ChainWord) → AreWords from (offsets_of ws) → (j : ℕ) (d : ChainWord) → j < length ws → from ≤ (get_or ws j d).offset
from_below from [] words j d lt = absurd (omega (arith, lt))
from_below from (w ∷ ws) words zero d lt = words.0
from_below from (w ∷ ws) words (suc j) d lt = omega (arith, words.0, from_below (w.offset + 8) ws words.3 j d (omega (arith, lt)))

pub words_rise : (from : ℕ) (ws : List ChainWord) → AreWords from (offsets_of ws) → (i j : ℕ) (d : ChainWord) → i < j → j < length ws → (get_or ws i d).offset + 8 ≤ (get_or ws j d).offset
words_rise from ws words i zero d lt inside = absurd (omega (arith, lt))
words_rise from [] words i (suc j) d lt inside = absurd (omega (arith, inside))
words_rise from (w ∷ ws) words zero (suc j) d lt inside = from_below (w.offset + 8) ws words.3 j d (omega (arith, inside))
words_rise from (w ∷ ws) words (suc i) (suc j) d lt inside = words_rise (w.offset + 8) ws words.3 i j d (omega (arith, lt)) (omega (arith, inside))

below_end : (end : ℕ) (ws : List ChainWord) → AllBelow end (offsets_of ws) → (i : ℕ) (d : ChainWord) → i < length ws → (get_or ws i d).offset < end
below_end end [] below i d lt = absurd (omega (arith, lt))
below_end end (w ∷ ws) below zero d lt = below.0
below_end end (w ∷ ws) below (suc i) d lt = below_end end ws below.1 i d (omega (arith, lt))

three_of : (v : View) → IsSoundView v → AreThree (length v.flat) v.head.mappings
three_of v sound = three_are (length v.flat) v.head.mappings (whole_tests (length v.flat) v.head sound.mapped).1

pub three_mappings : (v : View) → IsSoundView v → length v.head.mappings ≡ 3
three_mappings v sound = count_three (length v.flat) v.head.mappings (three_of v sound)

pub words_low : (v : View) → IsSoundView v → (i : ℕ) (d : ChainWord) → i < length v.words → (data_mapping v.head.mappings).address + (get_or v.words i d).offset < 2 ^ 63
words_low v sound i d lt =
    let three : AreThree (length v.flat) v.head.mappings = three_of v sound in
    let size = (whole_tests (length v.flat) v.head sound.mapped).0 in
    let under = below_end (data_mapping v.head.mappings).size v.words sound.inside i d lt in
    let address : (data_mapping v.head.mappings).address ≡ region_start + three.text = ap (λ (m : Mapping). m.address) (data_is (length v.flat) v.head.mappings three) in
    let wide : (data_mapping v.head.mappings).size ≡ three.writable = ap (λ (m : Mapping). m.size) (data_is (length v.flat) v.head.mappings three) in
    omega (arith, three.long, size, under, address, wide)
