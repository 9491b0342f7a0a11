-- The parts of a view of which nothing is found.
use Rattle.std.proofs.Common.{◌≡◌, ◌<◌, ℕ, zero, suc, ◌+◌, Some, None, List, [], ◌∷◌, map, length, get_or, refl, ap, ap₂, ◌∙◌, arith}
use Rattle.std.specs.Prelude.{slice_get}
use Rattle.macho_image.specs.Records.{Img}
use Rattle.macho_image.specs.declared.place.Location.{Location}
use Rattle.dep_closure.specs.Linked.{links_of}
use Rattle.slide_chain.specs.declared.words.ChainWord.{ChainWord}
use Rattle.cache_check.specs.Images.{images_of}
use Rattle.cache_check.specs.Views.{View, IsSoundView}
use Rattle.extractor.specs.ExtractOf.{free_words}
use Rattle.extractor.specs.Free.{AreFree}
use Rattle.extractor.specs.Placing.{data_start}
use Rattle.extractor.specs.Vets.{Parts, IsVetted}
use Rattle.extractor.specs.Vetting.{cached_lists, vet_finding}
use Rattle.extractor.proofs.ExtractedLaws.{linked_none}
use Rattle.extractor.proofs.ReadLaws.{images_read}
use Rattle.extractor.proofs.ReadyLaws.{all_none}
use Rattle.extractor.proofs.SetLaws.{cached_sound}
use Rattle.extractor.proofs.VetLaws.{all_writable, few_images}

-- of each image from number k on, the words that slide and aren't bound
abbrev free_from : ℕ → List ChainWord → List Img → ℕ → List Img → List (List Location)
free_from start words images k [] = []
free_from start words images k (i ∷ is) = free_words start words images k i ∷ free_from start words images (k + 1) is

length-free : (start : ℕ) (words : List ChainWord) (images : List Img) (k : ℕ) (is : List Img) → length (free_from start words images k is) ≡ length is
length-free start words images k [] = refl
length-free start words images k (i ∷ is) = ap suc (length-free start words images (k + 1) is)

free_at : (start : ℕ) (words : List ChainWord) (images : List Img) (k n : ℕ) (is : List Img) (i : Img) → slice_get is n ≡ Some i → get_or (free_from start words images k is) n [] ≡ free_words start words images (k + n) i
free_at start words images k n [] i got = absurd (cc)
free_at start words images k zero (j ∷ js) i got =
    let same : j ≡ i = cc in
    let first : k ≡ k + 0 = omega arith in
    ap₂ (λ (m : ℕ) (x : Img). free_words start words images m x) first same
free_at start words images k (suc n) (j ∷ js) i got =
    let next : k + 1 + n ≡ k + suc n = omega arith in
    free_at start words images (k + 1) n js i got ∙ ap (λ (m : ℕ). free_words start words images m i) next

abbrev pub parts_in : View → Parts
parts_in v = record { view = v; images = images_of v; streams = map cached_lists (images_of v); links = links_of (images_of v); free = free_from (data_start v) v.words (images_of v) 0 (images_of v) }

all_free : (v : View) → AreFree (data_start v) v.words (images_of v) (free_from (data_start v) v.words (images_of v) 0 (images_of v))
all_free v = record {
  count = length-free (data_start v) v.words (images_of v) 0 (images_of v);
  each = λ k i got.
      let first : 0 + k ≡ k = omega arith in
      free_at (data_start v) v.words (images_of v) 0 k (images_of v) i got ∙ ap (λ (m : ℕ). free_words (data_start v) v.words (images_of v) m i) first;
}

pub vetted_in : (v : View) → IsSoundView v → ((n : ℕ) → get_or v.flat n 0 < 256) → vet_finding v ≡ None → IsVetted (parts_in v)
vetted_in v sound bytes none =
    let all = all_none v none in
    let images : List Img = images_of v in
    record {
      none = none;
      view = sound;
      bytes = bytes;
      images_are = refl;
      streams_are = refl;
      links_are = refl;
      sound = cached_sound images (map cached_lists images) (links_of images) (few_images v images sound refl) (images_read v all.images) refl refl (linked_none images all.links);
      free_are = all_free v;
      writable = all_writable v images (data_start v) v.words (free_from (data_start v) v.words (images_of v) 0 (images_of v)) sound (record { images_are = refl; start_is = refl; words_are = refl }) all.words (all_free v);
    }
