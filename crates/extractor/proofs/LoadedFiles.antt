-- The file that is made of an image of such a cache, as it is loaded together with those of the others.
use Rattle.std.proofs.Common.{◌≡◌, ◌≤◌, ◌<◌, ◌⊎◌, ℕ, suc, ◌+◌, ◌^◌, Option, Some, List, [], ◌∷◌, map, length, get_or, sym, ap, ap₂, ◌∙◌, subst, arith}
use Rattle.std.specs.Prelude.{slice_get, option_map}
use Rattle.std.specs.List.{All}
use Rattle.std.proofs.lemmas.Option.{slice_get-map}
use Rattle.dsc_base.specs.Numbers.{little_bytes}
use Rattle.macho_image.specs.Records.{Img}
use Rattle.macho_image.specs.Order.{addresses_of}
use Rattle.macho_image.specs.Places.{wrap, IsWord}
use Rattle.macho_image.specs.declared.place.Location.{Location}
use Rattle.bind_ops.specs.Records.{BoundWord}
use Rattle.split_info.specs.declared.reference.RefKind.TheVariants.{Pointer64}
use Rattle.prebind.specs.declared.resolved.PlacedWord.{PlacedWord}
use Rattle.prebind.specs.Numbers.{Starts, number_to}
use Rattle.prebind.specs.Sets.{ImageSet, all_binds, lists_of, image_set}
use Rattle.prebind.specs.Targets.{bound_target, outcome_of}
use Rattle.prebind.specs.Words.{placed_bind}
use Rattle.slide_chain.specs.declared.words.ChainWord.{ChainWord}
use Rattle.slide_chain.specs.Making.{AreWords, AllBelow}
use Rattle.load_model.specs.Loading.{loaded, loaded_starts, segment_cells, rebased, bound_to}
use Rattle.load_model.specs.Memory.{Cells, number_from}
use Rattle.load_model.proofs.BoundLaws.{places_of, AreSpread, bound_free, bound_word}
use Rattle.load_model.proofs.LoadedWords.{loaded_is}
use Rattle.load_model.proofs.LoadingLaws.{AreApart}
use Rattle.load_model.proofs.NumberLaws.{address_on}
use Rattle.load_model.proofs.RebasedLaws.{free_byte, raised_word}
use Rattle.load_model.proofs.SoundApart.{sound_apart}
use Rattle.load_model.proofs.SpreadLaws.{free_of_binds, free_of_rebases, binds_spread, binds_low, word_low}
use Rattle.load_model.proofs.WordCases.{IsIn, in_map, IsImageOf}
use Rattle.cache_check.specs.Images.{images_of}
use Rattle.cache_check.specs.Views.{view_of}
use Rattle.cache_check.proofs.CachedBytes.{held}
use Rattle.extractor.specs.ExtractOf.{free_words}
use Rattle.extractor.specs.Extracted.{extracted_images, extracted_set}
use Rattle.extractor.specs.Loads.{all_at}
use Rattle.extractor.specs.Placing.{data_start}
use Rattle.extractor.specs.Vetting.{cached_lists}
use Rattle.extractor.proofs.ExtractedLaws.{IsFile, one_file, file_binds, file_rebases, file_image}
use Rattle.extractor.proofs.NearLaws.{AreClear, IsOfWord, of_free}
use Rattle.extractor.proofs.OwnStreams.{own_image}
use Rattle.extractor.proofs.SectionBytes.{IsMade, word_cell}
use Rattle.extractor.proofs.SetLaws.{streams_sound}
use Rattle.extractor.proofs.VettedCaches.{first_in, words_in, images_in, parts_at, word_place, IsUnfound, can_read, vetted, nones, word_number}

abbrev pub files_in : List ℕ → List Img
files_in cache = extracted_images (view_of cache)

abbrev pub set_in : List ℕ → ImageSet
set_in cache = extracted_set (view_of cache)

-- where segments start, with each file at the one slide
abbrev pub starts_in : List ℕ → ℕ → Starts
starts_in cache slide = loaded_starts (extracted_set (view_of cache)) (all_at slide)

-- the words of image k that slide and aren't bound
abbrev pub free_in : List ℕ → ℕ → Img → List Location
free_in cache k i = free_words (data_start (view_of cache)) (view_of cache).words (images_of (view_of cache)) k i

abbrev pub bind_place : BoundWord → ℕ
bind_place b = b.at.address

-- ---- lists of words

words_from : (i : Img) (from : ℕ) (ls : List Location) → ((d : Location) → 0 < length ls → from ≤ (get_or ls 0 d).address)
    → ((n : ℕ) (d : Location) → n + 1 < length ls → (get_or ls n d).address + 8 ≤ (get_or ls (n + 1) d).address) → All (IsWord i) ls → AreWords from (addresses_of ls)
words_from i from [] first apart all = tt
words_from i from (l ∷ ls) first apart all =
    let word : IsWord i l = all 0 l (omega arith) in (
      first l (omega arith),
      word.aligned,
      word.in_page,
      words_from i (l.address + 8) ls (λ d some. apart 0 d (omega (arith, some)))
          (λ n d lt. let next : suc n + 1 ≡ suc (n + 1) = omega arith in
          subst (λ (m : ℕ). (get_or ls n d).address + 8 ≤ (get_or (l ∷ ls) m d).address) next (apart (suc n) d (omega (arith, lt))))
          (λ n d lt. all (suc n) d (omega (arith, lt))),
    )

words_low : (i : Img) (ls : List Location) → AreApart i.segments → All (IsWord i) ls → AllBelow (2 ^ 47) (addresses_of ls)
words_low i [] apart all = tt
words_low i (l ∷ ls) apart all =
    let low = word_low i l apart (all 0 l (omega arith)) in
    (omega (arith, low), words_low i ls apart (λ n d lt. all (suc n) d (omega (arith, lt))))

-- ---- an image

module _ (cache : List ℕ) (unfound : IsUnfound cache) (k : ℕ) (i : Img) (got : slice_get (images_in cache) k ≡ Some i) where
  pub file : IsFile (parts_at cache) k i
  file = one_file (parts_at cache) k i (vetted cache unfound) got

  pub made : IsMade cache k i file.words
  made = record { held = held cache unfound.bytes (can_read cache unfound) (nones cache unfound).images k i got; own_sound = file.own_sound; placed = file.ready.bodies; sized = file.sized }

  of : IsImageOf (set_in cache) k (own_image k i file.words) (lists_of (own_image k i file.words))
  unfolding image_set
  of = record {
    image_is = file_image (parts_at cache) k i file got;
    streams_are = slice_get-map lists_of (files_in cache) k ∙ ap (λ (o : Option Img). option_map lists_of o) (file_image (parts_at cache) k i file got);
  }

  -- ---- the file in memory

  loaded_by : (slide : ℕ) → loaded (set_in cache) (all_at slide) k
      ≡ bound_to (starts_in cache slide) slide (map (placed_bind (set_in cache) k) (all_binds i))
      (rebased slide (addresses_of (free_in cache k i)) (segment_cells slide (own_image k i file.words).segments))
  unfolding lists_of
  loaded_by slide =
      let set : ImageSet = set_in cache in
      let own : Img = own_image k i file.words in
      loaded_is set (all_at slide) k own (lists_of own) of
      ∙ ap₂ (λ (bs : List BoundWord) (ls : List Location). bound_to (starts_in cache slide) slide (map (placed_bind (set_in cache) k) bs)
      (rebased slide (addresses_of ls) (segment_cells slide (own_image k i file.words).segments)))
      (file_binds (parts_at cache) k i file) (file_rebases (parts_at cache) k i file)

  pub before_binds : ℕ → Cells
  before_binds slide = rebased slide (addresses_of (free_in cache k i)) (segment_cells slide (own_image k i file.words).segments)

  binds_below : AllBelow (2 ^ 47) (places_of (map (placed_bind (set_in cache) k) (all_binds i)))
  binds_below = binds_low (set_in cache) k i (cached_lists i) (streams_sound i file.ready.read) (sound_apart i file.sound)

  pub bound_cell : (slide n : ℕ) (b : BoundWord) → IsIn (all_binds i) b → n < 8 → loaded (set_in cache) (all_at slide) k (wrap (b.at.address + n + slide))
      ≡ Some (get_or (little_bytes 8 (number_to (starts_in cache slide) (wrap (b.at.address + slide)) 0 Pointer64 (bound_target b.addend (outcome_of (set_in cache) k b)))) n 0)
  unfolding before_binds
  bound_cell slide n b there lt =
      let set : ImageSet = set_in cache in
      let starts : Starts = starts_in cache slide in
      let ws : List PlacedWord = map (placed_bind (set_in cache) k) (all_binds i) in
      let own : IsIn (map (placed_bind (set_in cache) k) (all_binds i)) (placed_bind (set_in cache) k b) = in_map (placed_bind set k) (all_binds i) b there in
      let spread : AreSpread (places_of (map (placed_bind (set_in cache) k) (all_binds i))) = binds_spread set k i (cached_lists i) (streams_sound i file.ready.read) in
      ap (λ (cells : Cells). cells (wrap (b.at.address + n + slide))) (loaded_by slide)
      ∙ (ap (bound_to starts slide ws (before_binds slide)) (sym (address_on b.at.address slide n))
      ∙ bound_word starts slide own.number (placed_bind set k b) ws (before_binds slide) binds_below spread own.found n lt)

  pub unbound_cell : (slide y : ℕ) → y < 2 ^ 63 → AreClear bind_place (all_binds i) y → loaded (set_in cache) (all_at slide) k (wrap (y + slide)) ≡ before_binds slide (wrap (y + slide))
  unfolding before_binds
  unbound_cell slide y low clear =
      let set : ImageSet = set_in cache in
      let ws : List PlacedWord = map (placed_bind (set_in cache) k) (all_binds i) in
      ap (λ (cells : Cells). cells (wrap (y + slide))) (loaded_by slide)
      ∙ bound_free (starts_in cache slide) slide y ws (before_binds slide) low binds_below (free_of_binds set k y (all_binds i) clear)

  written_words : All (IsWord i) (free_in cache k i)
  written_words = subst (λ (ls : List Location). All (IsWord i) ls) file.words_are file.ready.written.all

  written_low : AllBelow (2 ^ 47) (addresses_of (free_in cache k i))
  written_low = words_low i (free_in cache k i) (sound_apart i file.sound) written_words

  written_apart : AreWords 0 (addresses_of (free_in cache k i))
  written_apart =
      subst (λ (ls : List Location). AreWords 0 (addresses_of ls)) file.words_are
      (words_from i 0 file.words (λ d some. omega arith) file.ready.written.apart file.ready.written.all)

  -- a word that slides and isn't bound
  pub free_cell : (slide n : ℕ) (l : Location) (w : ChainWord) → IsIn (free_in cache k i) l → IsIn (words_in cache) w → l.address ≡ first_in cache + w.offset → IsWord i l → n < 8
      → before_binds slide (wrap (l.address + n + slide)) ≡ Some (get_or (little_bytes 8 (wrap (w.value + slide))) n 0)
  unfolding before_binds
  free_cell slide n l w there chained at word lt =
      let ls : List Location = free_in cache k i in
      let cells : Cells = segment_cells slide (own_image k i file.words).segments in
      let place : slice_get (addresses_of (free_in cache k i)) there.number ≡ Some l.address =
      slice_get-map (λ (m : Location). m.address) ls there.number ∙ ap (λ (o : Option Location). option_map (λ (m : Location). m.address) o) there.found in
      let value : number_from 8 (segment_cells slide (own_image k i file.words).segments) (wrap (l.address + slide)) ≡ w.value = word_cell cache k slide i file.words l made word ∙ word_number cache unfound l.address w chained at in
      ap (before_binds slide) (sym (address_on l.address slide n))
      ∙ (raised_word slide 0 there.number l.address (addresses_of ls) cells written_apart written_low place n lt
      ∙ ap (λ (v : ℕ). Some (get_or (little_bytes 8 (wrap (v + slide))) n 0)) value)

  -- and a byte of no such word
  pub still_cell : (slide y : ℕ) → y < 2 ^ 63 → AreClear (word_place cache) (words_in cache) y → before_binds slide (wrap (y + slide)) ≡ segment_cells slide (own_image k i file.words).segments (wrap (y + slide))
  unfolding before_binds
  still_cell slide y low clear =
      let ls : List Location = free_in cache k i in
      free_byte slide y (addresses_of ls) (segment_cells slide (own_image k i file.words).segments) low written_low
      (free_of_rebases y ls (λ l there.
      let from : IsOfWord (first_in cache) (words_in cache) l = of_free (first_in cache) (words_in cache) (images_in cache) k i l there in
      subst (λ (a : ℕ). (y < a) ⊎ (a + 8 ≤ y)) (sym from.at) (clear from.word from.there)))
