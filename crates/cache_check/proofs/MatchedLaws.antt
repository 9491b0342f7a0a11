-- A file and its cached image, where the cache agrees with the files: what stands at each word, and the bytes that are mapped.
use Rattle.std.proofs.Common.{◌≡◌, ◌≤◌, ◌<◌, ℕ, ◌+◌, ◌-◌, Bool, true, false, Option, Some, None, List, get_or, refl, sym, ap, ◌∙◌, subst, arith, if◌then◌else◌}
use Rattle.std.specs.Prelude.{slice_get}
use Rattle.std.specs.Option.{option_and_then}
use Rattle.dsc_base.specs.Region.{region_start}
use Rattle.dsc_base.proofs.SpeltLaws.{spelt_byte}
use Rattle.macho_image.specs.Records.{Seg, Img}
use Rattle.macho_image.specs.Breaks.{IsSound}
use Rattle.macho_image.specs.declared.section.Section.{Section}
use Rattle.macho_image.specs.Places.{wrap, above, numbered_section}
use Rattle.macho_image.specs.Segments.{start_of, segments_in, segments_at, header_address, number_of}
use Rattle.macho_image.proofs.AboveLaws.{above_plain}
use Rattle.split_info.specs.References.{width_of}
use Rattle.prebind.specs.Sets.{ImageSet}
use Rattle.prebind.specs.Places.{is_linkedit_at}
use Rattle.prebind.specs.Words.{Word}
use Rattle.load_model.specs.Memory.{HasNumber}
use Rattle.load_model.specs.Mapped.{mapped, cached_image}
use Rattle.load_model.specs.Corresponds.{mapped_starts}
use Rattle.load_model.proofs.NumberLaws.{address_on}
use Rattle.load_model.proofs.WordCases.{IsIn}
use Rattle.load_model.proofs.WordPlaces.{StandsIn}
use Rattle.cache_check.specs.declared.mismatch.Mismatch.{Mismatch}
use Rattle.cache_check.specs.declared.verdict.Seen.{Seen}
use Rattle.cache_check.specs.Bytes.{Pair, same_seen, unlike, seen_at, wanted_at, word_in, word_mismatch, pair_of, words_by_address}
use Rattle.cache_check.specs.Differences.{start_besides, own_start, cached_starts}
use Rattle.cache_check.specs.Images.{images_of}
use Rattle.cache_check.specs.Verdict.{chains_of}
use Rattle.cache_check.specs.Views.{view_of}
use Rattle.cache_check.proofs.AgreedLaws.{IsAgreed}
use Rattle.cache_check.proofs.AlikeLaws.{AreAlike, IsAlike}
use Rattle.cache_check.proofs.AwayLaws.{IsBesides}
use Rattle.cache_check.proofs.CachedBytes.{IsHeld, IsHome}
use Rattle.cache_check.proofs.PairedLaws.{HasPair, has_pair}
use Rattle.cache_check.proofs.SteadyLaws.{IsSteady, steady_cell}
use Rattle.cache_check.proofs.ViewLaws.{IsReadable}

pub record IsMatched (cache : List ℕ) (set : ImageSet) (k : ℕ) (file image : Img) : Type 0 where
  pub file_is : slice_get set.images k ≡ Some file
  pub image_is : slice_get (images_of (view_of cache)) k ≡ Some image
  pub sound : IsSound file
  pub held : IsHeld cache k image
  pub alike : AreAlike file image
  pub agreed : IsAgreed cache set k file image

-- each file of a set has its image
abbrev pub AreMatched : List ℕ → ImageSet → Type 0
AreMatched cache set = (k : ℕ) (file : Img) → slice_get set.images k ≡ Some file → (image : Img) × IsMatched cache set k file image

-- ---- what stands at a word

abbrev cached_of : List ℕ → List Img
cached_of cache = images_of (view_of cache)

pub record IsSeen (cache : List ℕ) (file image : Img) (w : Word) : Type 0 where
  pub section : Section
  pub section_is : numbered_section file.sections w.at.section ≡ Some section
  pub index : ℕ
  pub number : w.at.section ≡ index + 1
  pub found : slice_get file.sections index ≡ Some section
  pub pair : HasPair file image index section
  pub offset : ℕ
  pub place : w.at.address ≡ section.addr + offset
  pub within : offset + width_of w.kind ≤ section.size
  pub seen : same_seen (seen_at (chains_of (view_of cache)) pair.cached w.kind (pair.there.addr + offset)) (wanted_at (cached_starts (images_of (view_of cache))) (header_address image.segments) w.kind (pair.there.addr + offset) w.target) ≡ true

pub alike_seen : (section offset : ℕ) (found wanted : Seen) → unlike section offset found wanted ≡ None → same_seen found wanted ≡ true
unfolding unlike
alike_seen section offset found wanted none = at (same_seen found wanted) none
  where
    at : (b : Bool) → (if b then None else Some (let m : Mismatch = record { section = section; offset = offset; found = found; wanted = wanted } in m)) ≡ None → b ≡ true
    at true none = refl
    at false none = absurd (cc)

word_alike : (cache : List ℕ) (file image : Img) (w : Word) (j : ℕ) (u : Section) (pair : HasPair file image j u) (offset : ℕ)
    → w.at.section ≡ j + 1 → w.at.address ≡ u.addr + offset → offset ≤ u.size → word_mismatch (chains_of (view_of cache)) (cached_starts (images_of (view_of cache))) file image w ≡ None
    → same_seen (seen_at (chains_of (view_of cache)) pair.cached w.kind (pair.there.addr + offset)) (wanted_at (cached_starts (images_of (view_of cache))) (header_address image.segments) w.kind (pair.there.addr + offset) w.target) ≡ true
unfolding word_mismatch
word_alike cache file image w j u pair offset number place within none =
    let p : Pair = record { own = pair.own; here = u; cached = pair.cached; there = pair.there } in
    let paired : pair_of file image w.at.section ≡ Some p = ap (λ (n : ℕ). pair_of file image n) number ∙ pair.pair in
    let here : word_in (chains_of (view_of cache)) (cached_starts (images_of (view_of cache))) (header_address image.segments) w p ≡ None =
    sym (ap (λ (o : Option Pair). option_and_then (word_in (chains_of (view_of cache)) (cached_starts (images_of (view_of cache))) (header_address image.segments) w) o) paired) ∙ none in
    let far : above u.addr w.at.address ≡ offset = above_plain u.addr w.at.address (omega (arith, place)) (omega (arith, place, within, pair.own_to, pair.own_low)) ∙ omega (arith, place) in
    let at : wrap (pair.there.addr + above u.addr w.at.address) ≡ pair.there.addr + offset = omega (arith, far, within, pair.size, pair.to, pair.low) in
    subst (λ (a : ℕ). same_seen (seen_at (chains_of (view_of cache)) pair.cached w.kind a) (wanted_at (cached_starts (images_of (view_of cache))) (header_address image.segments) w.kind a w.target) ≡ true) at
    (alike_seen w.at.section (above u.addr w.at.address) _ _ here)

pub word_seen : (cache : List ℕ) (set : ImageSet) (k : ℕ) (file image : Img) (w : Word) → IsMatched cache set k file image → IsIn (words_by_address set k file) w → StandsIn file w.at (width_of w.kind) → IsSeen cache file image w
word_seen cache set k file image w matched there stands =
    let j : ℕ = w.at.section - 1 in
    let number : w.at.section ≡ w.at.section - 1 + 1 = omega (arith, stands.counts) in
    let pair : HasPair file image (w.at.section - 1) stands.section = has_pair file image matched.sound matched.held.sound matched.alike (w.at.section - 1) stands.section stands.found in
    record {
      section = stands.section;
      section_is = stands.section_is;
      index = j;
      number = number;
      found = stands.found;
      pair = pair;
      offset = stands.offset;
      place = stands.place;
      within = stands.within;
      seen = word_alike cache file image w (w.at.section - 1) stands.section pair stands.offset number stands.place (omega (arith, stands.within)) (matched.agreed.words w there);
    }

-- ---- where segments start

record StartsAt (cache : List ℕ) (slide k g : ℕ) : Type 0 where
  start : ℕ
  before : cached_starts (images_of (view_of cache)) k g ≡ start
  after : mapped_starts (cached_image cache) slide k g ≡ wrap (start + slide)

starts_at : (cache : List ℕ) (set : ImageSet) → AreMatched cache set → (slide k g : ℕ) → IsBesides (segments_at set.images k) g → StartsAt cache slide k g
unfolding own_start
starts_at cache set matched slide k g besides = by_image (slice_get set.images k) refl besides
  where
    by_image : (o : Option Img) → slice_get set.images k ≡ o → IsBesides (segments_in o) g → StartsAt cache slide k g
    by_image None is other = absurd (cc)
    by_image (Some file) is other = by_segment (slice_get file.segments g) refl other
      where
        by_segment : (o : Option Seg) → slice_get file.segments g ≡ o → is_linkedit_at o ≡ false → StartsAt cache slide k g
        by_segment None got other = absurd (cc)
        by_segment (Some s) got other =
            let own = matched k file is in
            let alike : IsAlike file own.0 0 s own.0.segments g = own.1.alike.segments g s got other in
            record {
              start = alike.segment.vmaddr;
              before =
                  ap (λ (o : Option Img). start_besides (slice_get (segments_in o) g)) own.1.image_is
                  ∙ (ap start_besides alike.segment_is ∙ ap (λ (b : Bool). if b then 0 else alike.segment.vmaddr) alike.other);
              after =
                  ap (λ (o : Option Img). wrap (start_of (slice_get (segments_in o) g) + slide)) own.1.held.found
                  ∙ ap (λ (o : Option Seg). wrap (start_of o + slide)) alike.segment_is;
            }

pub slid_place : (cache : List ℕ) (set : ImageSet) → AreMatched cache set → (slide k g distance : ℕ) → IsBesides (segments_at set.images k) g
    → wrap (wrap (cached_starts (images_of (view_of cache)) k g + distance) + slide) ≡ wrap (mapped_starts (cached_image cache) slide k g + distance)
slid_place cache set matched slide k g distance besides =
    let at : StartsAt cache slide k g = starts_at cache set matched slide k g besides in
    omega (arith, at.before, at.after)

-- ---- bytes that stay

pub home_of : (cache : List ℕ) (k : ℕ) (file image : Img) (j : ℕ) (u : Section) → IsHeld cache k image → (pair : HasPair file image j u) → IsHome cache pair.cached
home_of cache k file image j u held pair = held.homes pair.there.segment pair.cached pair.cached_is pair.other

module _ (cache : List ℕ) (readable : IsReadable cache) (file image : Img) (j : ℕ) (u : Section) (pair : HasPair file image j u) (home : IsHome cache pair.cached) where
  pub still_cell : (slide o : ℕ) → o < u.size → IsSteady cache (pair.there.addr + o - region_start) → mapped cache slide (wrap (pair.there.addr + o + slide)) ≡ Some (get_or pair.cached.bytes (pair.there.addr + o - pair.cached.vmaddr) 0)
  still_cell slide o lt steady =
      let a : ℕ = pair.there.addr + o in
      let place : pair.there.addr + o ≡ region_start + (pair.there.addr + o - region_start) = omega (arith, home.low, pair.from) in
      ap (λ (x : ℕ). mapped cache slide (wrap (x + slide))) place
      ∙ (steady_cell cache readable slide (pair.there.addr + o - region_start) (omega (arith, lt, home.low, home.high, pair.from, pair.to, pair.size)) steady
      ∙ ap (λ (b : ℕ). Some b) (sym (home.byte (pair.there.addr + o) (omega (arith, pair.from)) (omega (arith, lt, pair.to, pair.size)))))

  -- a number in such bytes
  pub still_number : (slide w o : ℕ) → o + w ≤ u.size → ((n : ℕ) → n < w → IsSteady cache (pair.there.addr + (o + n) - region_start)) → HasNumber w (mapped cache slide) (wrap (pair.there.addr + o + slide)) (number_of w pair.cached (pair.there.addr + o))
  unfolding number_of
  still_number slide w o within steady n lt =
      let next : pair.there.addr + o + n ≡ pair.there.addr + (o + n) = omega arith in
      let place : pair.there.addr + (o + n) - pair.cached.vmaddr ≡ pair.there.addr + o - pair.cached.vmaddr + n = omega (arith, pair.from) in
      ap (mapped cache slide) (address_on (pair.there.addr + o) slide n)
      ∙ (ap (λ (x : ℕ). mapped cache slide (wrap (x + slide))) next
      ∙ (still_cell slide (o + n) (omega (arith, within, lt)) (steady n lt)
      ∙ ap (λ (b : ℕ). Some b)
      (ap (λ (x : ℕ). get_or pair.cached.bytes x 0) place
      ∙ sym (spelt_byte w (pair.there.addr + o - pair.cached.vmaddr) n pair.cached.bytes (omega (arith, within, pair.from, pair.to, pair.size, home.long)) home.bytes lt))))
