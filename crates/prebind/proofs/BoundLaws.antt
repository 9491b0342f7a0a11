-- The images that are asked for the names of an image's binds, and its placed words as a whole.
use Rattle.std.proofs.Common.{◌≡◌, ◌<◌, ◌+◌, ℕ, suc, List, ◌∷◌, drop, length, get_or, sym, ap, refl, subst, ◌∙◌, arith}
use Rattle.std.specs.Prelude.{option_map}
use Rattle.std.proofs.Math.Seq.{drop-cons}
use Rattle.std.proofs.lemmas.List.Sums.{sum_by-cons}
use Rattle.std.proofs.lemmas.Option.{get_or_from_slice_get}
use Rattle.dsc_base.specs.Refusals.{in_image}
use Rattle.macho_image.specs.Segments.{segments_at}
use Rattle.bind_ops.specs.Records.{BoundWord}
use Rattle.prebind.specs.declared.resolved.PlacedWord.{PlacedWord}
use Rattle.prebind.specs.Sets.{ImageSet, IsSoundSet}
use Rattle.prebind.specs.Words.{AreOrdered, ArePlaced, streams_at, pointers_of}
use Rattle.prebind.specs.WordRules.{word_fault, symbol_break, linkedit_pointer_break, stray_pointer_break, recorded_pointer_break, place_break}
use Rattle.prebind.specs.Probes.{probes, bind_probes}
use Rattle.prebind.proofs.PlaceLaws.{words_here, placed_here}
use Rattle.prebind.proofs.ImageLaws.{has_at}

-- the images that are asked for the names of some binds
pub probes_here : (set : ImageSet) (k i : ℕ) (binds : List BoundWord) (b : BoundWord) → i < length binds → b ≡ get_or binds i b → bind_probes set k (drop i binds) ≡ probes set k b.ordinal b.name + bind_probes set k (drop (i + 1) binds)
unfolding bind_probes
probes_here set k i binds b lt is =
    let next : suc i ≡ i + 1 = omega arith in
    let asked : BoundWord → ℕ = λ c. probes set k c.ordinal c.name in
    ap (λ (l : List BoundWord). bind_probes set k l) (drop-cons binds i b lt)
    ∙ (ap (λ (c : BoundWord). bind_probes set k (c ∷ drop (suc i) binds)) (sym is)
    ∙ (sum_by-cons asked b (drop (suc i) binds) ∙ ap (λ (n : ℕ). probes set k b.ordinal b.name + bind_probes set k (drop n binds)) next))

-- words in order are placed
pub placed_all : (set : ImageSet) (k : ℕ) (words : List PlacedWord) → IsSoundSet set → k < length set.images → AreOrdered (pointers_of set k) words → ArePlaced (pointers_of set k) words
placed_all set k words sound lt ordered =
    let image = has_at set.images k lt in
    let streams = has_at set.streams k (omega (arith, lt, sound.many)) in
    let image_is : image.0 ≡ get_or set.images k image.0 = sym (get_or_from_slice_get set.images k image.0 image.0 image.1) in
    let streams_is : streams.0 ≡ get_or set.streams k streams.0 = sym (get_or_from_slice_get set.streams k streams.0 streams.0 streams.1) in
    placed_here set k image.0 streams.0 words sound lt image_is streams_is (subst (λ (all : List PlacedWord). AreOrdered all words) (sym (words_here set k image.0 streams.0 sound lt image_is streams_is)) ordered)

-- the first rule that an image breaks
pub break_is : (set : ImageSet) (k : ℕ) → place_break set k ≡ option_map (in_image k) (word_fault set k (segments_at set.images k) (streams_at set k))
unfolding place_break symbol_break linkedit_pointer_break stray_pointer_break recorded_pointer_break
break_is set k = refl
