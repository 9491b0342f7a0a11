-- The cache of a set that breaks no rule corresponds to its files, wherever they are loaded and at every permitted slide.
use Rattle.std.proofs.Common.{◌≡◌, ◌<◌, ℕ, ◌+◌, ◌-◌, Some, List, [], length, get_or, sym, ◌∙◌, subst, arith}
use Rattle.std.specs.Prelude.{slice_get, slice_index_or}
use Rattle.std.proofs.lemmas.Option.{slice_get_within, get_or_from_slice_get}
use Rattle.macho_image.specs.Records.{Img}
use Rattle.macho_image.specs.declared.section.Section.{Section}
use Rattle.macho_image.specs.Segments.{header_address}
use Rattle.cache_layout.specs.Layouts.{layout_of}
use Rattle.prebind.specs.Sets.{image_set}
use Rattle.prebind.specs.Words.{Word, words_of}
use Rattle.load_model.specs.Loading.{in_memory}
use Rattle.load_model.specs.Phases.{images_of}
use Rattle.load_model.specs.Corresponds.{Leads, loaded_side, mapped_side, IsWordOf, WordCorresponds, ImageCorresponds, Corresponds}
use Rattle.load_model.proofs.LoadedReferences.{HaveBytes}
use Rattle.load_model.proofs.LoadedSides.{IsLoadedWord, IsLoaded, image_loaded}
use Rattle.load_model.proofs.LoadedBytes.{IsLoadedByte}
use Rattle.ref_rewrite.proofs.FitLaws.{segment_there}
use Rattle.cache_build.specs.Always.{CorrespondsAlways}
use Rattle.cache_build.specs.Cache.{no_spots, cache_of}
use Rattle.cache_build.proofs.BuildableSets.{IsAccepted, set_spots, slid_of}
use Rattle.cache_build.proofs.CacheFacts.{IsCachedImage, moved_in}
use Rattle.cache_build.proofs.MovedLaws.{moved_section}
use Rattle.cache_build.proofs.SetWords.{SetWord, in_set}
use Rattle.cache_build.proofs.CachedWords.{Stands, word_stands_at, image_sound}
use Rattle.cache_build.proofs.MappedWords.{IsCachedSet, word_mapped}
use Rattle.cache_build.proofs.OtherBytes.{byte_mapped}
use Rattle.macho_image.proofs.SectionLaws.{numbered}

-- a word leads to its target on both sides
word_corresponds : (bits : ℕ) (is : List Img) → IsCachedSet bits is → (slides : ℕ → ℕ) (slide k : ℕ) (i : Img) → slice_get is k ≡ Some i → IsLoaded (image_set is) slides k i → (w : Word) → IsWordOf (words_of (image_set is) k) w
    → WordCorresponds i (moved_in bits is k i) (loaded_side (image_set is) slides k) (mapped_side (cache_of bits is) slide) w
word_corresponds bits is set slides slide k i got loaded w among =
    let x : SetWord = record { number = k; image = i; word = w } in
    let there = in_set is k i w got among in
    let stands : Stands is (record { number = k; image = i; word = w }) = word_stands_at is set.ready.accepted (record { number = k; image = i; word = w }) there in
    let own : IsLoadedWord (image_set is) slides k i w = loaded.words w among in
    let u : Section = stands.in_section.section in
    let v = moved_section i (slice_index_or (layout_of is).moves k []) (slice_index_or (set_spots bits is) k no_spots) (slid_of bits is 0) (w.at.section - 1) u stands.in_section.found in
    let same : own.stands.section.addr + own.stands.offset ≡ stands.in_section.section.addr + stands.in_section.offset = sym own.stands.place ∙ stands.in_section.place in
    record {
      section = u;
      section_is = stands.in_section.section_is;
      same = _;
      same_is = numbered (moved_in bits is k i).sections w.at.section _ stands.in_section.counts v;
      offset = stands.in_section.offset;
      place = stands.in_section.place;
      loaded = subst (λ (a : ℕ). Leads (loaded_side (image_set is) slides k) a (header_address i.segments) w.kind w.target) same own.loaded;
      mapped = word_mapped bits is set slide x there _ stands v;
    }

image_corresponds : (bits : ℕ) (is : List Img) → IsCachedSet bits is → (slides : ℕ → ℕ) (slide k : ℕ) (i : Img) → slice_get is k ≡ Some i → k < length is → i ≡ get_or is k i → IsLoaded (image_set is) slides k i → IsCachedImage bits is k i
    → ImageCorresponds i (moved_in bits is k i) (words_of (image_set is) k) (loaded_side (image_set is) slides k) (mapped_side (cache_of bits is) slide)
image_corresponds bits is set slides slide k i got lt at loaded image = record {
  shape = image.shape;
  words = λ w among. word_corresponds bits is set slides slide k i got loaded w among;
  bytes = λ j offset u first inside free.
      let v = moved_section i (slice_index_or (layout_of is).moves k []) (slice_index_or (set_spots bits is) k no_spots) (slid_of bits is 0) j u first in
      let byte : IsLoadedByte (image_set is) slides k i u offset = loaded.bytes j offset u first inside free in
      (_, v, get_or (in_memory byte.home) byte.distance 0, byte.there, byte_mapped bits is set slides slide k j offset i u _ lt at (image_sound is set.ready.accepted k i got) first v inside free byte);
  trie = image.trie;
  exports = image.exports;
}

loaded_image : (is : List Img) → IsAccepted is → (slides : ℕ → ℕ) (k : ℕ) (i : Img) → slice_get is k ≡ Some i → slice_get (image_set is).images k ≡ Some i → IsLoaded (image_set is) slides k i
loaded_image is accepted slides k i got image =
    let lt : k < length is = slice_get_within is k i got in
    let at : i ≡ get_or is k i = sym (get_or_from_slice_get is k i i got) in
    let bytes : HaveBytes i.segments = λ g t there. accepted.bytes k g i t (segment_there is k g i t lt at there) in
    image_loaded (image_set is) slides k i accepted.set image (image_sound is accepted k i got) bytes (accepted.words k lt)

pub set_corresponds : (bits : ℕ) (is : List Img) → IsCachedSet bits is → (slides : ℕ → ℕ) (slide : ℕ) → Corresponds (image_set is) slides (cache_of bits is) slide
unfolding image_set
set_corresponds bits is set slides slide = record {
  count = set.cache.count;
  paths = λ k i got. set.cache.path k i (slice_get_within is k i got) (sym (get_or_from_slice_get is k i i got));
  images = λ k i got.
      let lt : k < length is = slice_get_within is k i got in
      let at : i ≡ get_or is k i = sym (get_or_from_slice_get is k i i got) in
      let image : IsCachedImage bits is k i = set.images k i lt at in
      (moved_in bits is k i, image.found, image_corresponds bits is set slides slide k i got lt at (loaded_image is set.ready.accepted slides k i got got) image);
}

-- the header permits slides that leave room for 512 MiB
pub always : (bits : ℕ) (files : List (List ℕ)) → IsCachedSet bits (images_of files) → CorrespondsAlways files (cache_of bits (images_of files))
always bits files set = record {
  slides = omega (arith, set.cache.most, set.cache.low);
  corresponds = λ placement placed slide permitted. set_corresponds bits (images_of files) set placement slide;
}
