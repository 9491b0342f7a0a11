-- The files that are made of the images of a cache of which nothing is found load to the bytes of the mapped cache.
use Rattle.std.proofs.Common.{◌≡◌, ◌≤◌, ◌<◌, ◌⊎◌, ℕ, ◌+◌, ◌-◌, Bool, true, not, ◌&&◌, nat_eq, Option, Some, None, List, [], ◌∷◌, get_or, refl, sym, ap, ap₂, ◌∙◌, subst, arith, inl, inr}
use Rattle.std.specs.Prelude.{slice_get}
use Rattle.std.proofs.lemmas.Bool.{eqb-true, eq-eqb, and_parts, false≢true}
use Rattle.std.proofs.lemmas.Option.{same_Some}
use Rattle.dsc_base.specs.Numbers.{number_at, little_bytes}
use Rattle.dsc_base.specs.Region.{region_start}
use Rattle.dsc_base.proofs.SpeltLaws.{spelt_byte}
use Rattle.macho_image.specs.Records.{Img}
use Rattle.macho_image.specs.Places.{wrap}
use Rattle.macho_image.specs.Segments.{start_of, segments_at, value_of}
use Rattle.macho_image.specs.declared.place.Location.{Location}
use Rattle.macho_image.specs.declared.section.Section.{Section}
use Rattle.bind_ops.specs.Records.{BoundWord}
use Rattle.split_info.specs.declared.reference.RefKind.TheVariants.{Pointer64}
use Rattle.prebind.specs.declared.resolved.Resolved.{Resolved}
use Rattle.prebind.specs.declared.resolved.WordTarget.{WordTarget}
use Rattle.prebind.specs.declared.resolved.WordTarget.TheVariants.{Place, Constant}
use Rattle.prebind.specs.Numbers.{Starts, number_to}
use Rattle.prebind.specs.Sets.{all_binds}
use Rattle.prebind.specs.Targets.{bound_target, outcome_of}
use Rattle.slide_chain.specs.declared.words.ChainWord.{ChainWord}
use Rattle.load_model.specs.Loading.{loaded}
use Rattle.load_model.specs.Mapped.{flat, mapped}
use Rattle.load_model.proofs.SpreadLaws.{bound_is_word}
use Rattle.load_model.proofs.WordCases.{IsIn, in_first, in_none, in_cases}
use Rattle.cache_check.specs.Views.{view_of}
use Rattle.cache_check.proofs.AwayLaws.{LeadsBesides}
use Rattle.cache_check.proofs.SteadyLaws.{flat_bytes}
use Rattle.cache_check.proofs.ViewLaws.{length-flat}
use Rattle.extractor.specs.ExtractOf.{is_home, is_free, location_of}
use Rattle.extractor.specs.Loads.{all_at, IsSameByte, LoadsAsMapped, IsExtraction}
use Rattle.extractor.specs.Placing.{home_of}
use Rattle.extractor.specs.Vetting.{cached_lists, cached_set, is_chained, is_number_of, start_at}
use Rattle.extractor.proofs.ExtractedLaws.{one_file, file_image, no_file_image, resolved, extracted}
use Rattle.extractor.proofs.NearLaws.{IsOver, AreClear, over_or_clear, IsNear, near, in_free}
use Rattle.extractor.proofs.OwnSections.{own_sections}
use Rattle.extractor.proofs.OwnSegments.{writable_other}
use Rattle.extractor.proofs.OwnStreams.{own_image}
use Rattle.extractor.proofs.ReadLaws.{clean}
use Rattle.extractor.proofs.SectionBytes.{IsSpot, spot, value_there, section_cell}
use Rattle.extractor.proofs.SetLaws.{streams_sound}
use Rattle.extractor.proofs.WritableLaws.{address_is}
use Rattle.extractor.proofs.BoundSpots.{unbound, one_place, IsChainedAt, chained_at, is_there, pointers_none, chains_none, set_there, besides, starts_same, place_number, constant_number, raised}
use Rattle.extractor.proofs.VettedCaches.{first_in, words_in, images_in, parts_at, word_place, IsUnfound, can_read, view_sound, vetted, nones, mapped_word, mapped_still, word_number}
use Rattle.extractor.proofs.LoadedFiles.{files_in, set_in, starts_in, bind_place, file, made, before_binds, bound_cell, unbound_cell, free_cell, still_cell}

only : (w x : ChainWord) → IsIn (w ∷ []) x → w ≡ x
only w x there = elim (in_cases w [] x there) [ inl same ↦ same | inr later ↦ absurd (in_none x later) ]

-- ---- one byte of a section

module _ (cache : List ℕ) (unfound : IsUnfound cache) (k : ℕ) (i : Img) (got : slice_get (images_in cache) k ≡ Some i) (slide j offset : ℕ) (u : Section) (at : slice_get i.sections j ≡ Some u) (lt : offset < u.size) where
  place : IsSpot cache i u offset
  place = spot cache k j offset i u (made cache unfound k i got).held at lt

  near_word : (w : ChainWord) → IsIn (words_in cache) w → first_in cache + w.offset ≤ u.addr + offset → u.addr + offset < first_in cache + w.offset + 8 → IsNear (first_in cache) (images_in cache) k i w
  near_word w there from to =
      near (view_of cache) (view_sound cache unfound) (clean (view_of cache) (nones cache unfound).images) (chains_none (first_in cache) (words_in cache) (images_in cache) (nones cache unfound).words)
      (λ n m here. (one_file (parts_at cache) n m (vetted cache unfound) here).sound) k u.segment i place.segment (u.addr + offset) w got place.found place.other (omega (arith, place.from)) place.to there from to

  still : AreClear (word_place cache) (words_in cache) (u.addr + offset) → mapped cache slide (wrap (u.addr + offset + slide)) ≡ Some (get_or (flat cache) (u.addr + offset - region_start) 0)
  still clear = mapped_still cache unfound slide (u.addr + offset) (omega (arith, place.home.low, place.from)) (omega (arith, place.home.high, place.to)) clear

  -- a byte of a bound word
  module _ (b : BoundWord) (there : IsIn (all_binds i) b) (from : b.at.address ≤ u.addr + offset) (to : u.addr + offset < b.at.address + 8) where
    bound_here : (t : WordTarget) → bound_target b.addend (outcome_of (cached_set (images_in cache)) k b) ≡ t → loaded (set_in cache) (all_at slide) k (wrap (u.addr + offset + slide))
        ≡ Some (get_or (little_bytes 8 (number_to (starts_in cache slide) (wrap (b.at.address + slide)) 0 Pointer64 t)) (u.addr + offset - b.at.address) 0)
    bound_here t is =
        let starts : Starts = starts_in cache slide in
        let n : ℕ = u.addr + offset - b.at.address in
        let same : u.addr + offset ≡ b.at.address + (u.addr + offset - b.at.address) = omega (arith, from) in
        let target : bound_target b.addend (outcome_of (set_in cache) k b) ≡ t = ap (λ (o : Resolved). bound_target b.addend o) (resolved (parts_at cache) k b.ordinal b.name (vetted cache unfound)) ∙ is in
        ap (λ (x : ℕ). loaded (set_in cache) (all_at slide) k (wrap (x + slide))) same
        ∙ (bound_cell cache unfound k i got slide n b there (omega (arith, from, to))
        ∙ ap (λ (x : WordTarget). Some (get_or (little_bytes 8 (number_to starts (wrap (b.at.address + slide)) 0 Pointer64 x)) n 0)) target)

    value_here : value_of i.segments b.at ≡ number_at 8 (flat cache) (b.at.address - region_start)
    value_here = value_there cache k i b.at (made cache unfound k i got).held (bound_is_word i (cached_lists i) b (streams_sound i (file cache unfound k i got).ready.read) there)

    set_here : is_number_of (images_in cache) (is_chained (first_in cache) (words_in cache) b.at.address) (value_of i.segments b.at) (bound_target b.addend (outcome_of (cached_set (images_in cache)) k b)) ≡ true
    set_here = set_there (first_in cache) (words_in cache) (images_in cache) k i b (pointers_none (first_in cache) (words_in cache) (images_in cache) (nones cache unfound).words) got there

    place_here : (m g distance : ℕ) → bound_target b.addend (outcome_of (cached_set (images_in cache)) k b) ≡ Place m g distance
        → IsSameByte (loaded (set_in cache) (all_at slide) k) (mapped cache slide) (wrap (u.addr + offset + slide))
    place_here m g distance is =
        let starts : Starts = starts_in cache slide in
        let tests = and_parts (is_chained (first_in cache) (words_in cache) b.at.address) (nat_eq (value_of i.segments b.at) (wrap (start_at (images_in cache) m g + distance)))
        (sym (ap (λ (t : WordTarget). is_number_of (images_in cache) (is_chained (first_in cache) (words_in cache) b.at.address) (value_of i.segments b.at) t) is) ∙ set_here) in
        let chained : IsChainedAt (first_in cache) (words_in cache) b.at.address = chained_at (first_in cache) (words_in cache) b.at.address tests.0 in
        let w : ChainWord = chained.word in
        let value : chained.word.value ≡ wrap (start_at (images_in cache) m g + distance) =
        sym (word_number cache unfound b.at.address w chained.there chained.at) ∙ (sym value_here ∙ eqb-true (value_of i.segments b.at) (wrap (start_at (images_in cache) m g + distance)) tests.1) in
        let other = subst (λ (t : WordTarget). LeadsBesides (images_in cache) t) is (besides (parts_at cache) k i b (vetted cache unfound) (file cache unfound k i got) got there) in
        let same = starts_same (parts_at cache) m g (vetted cache unfound) other in
        let number : number_to (starts_in cache slide) (wrap (b.at.address + slide)) 0 Pointer64 (Place m g distance) ≡ wrap (chained.word.value + slide) =
        place_number starts (wrap (b.at.address + slide)) m g distance
        ∙ raised (start_at (images_in cache) m g) (start_of (slice_get (segments_at (set_in cache).images m) g)) distance slide chained.word.value same value in
        let far : u.addr + offset - b.at.address ≡ u.addr + offset - (first_in cache + chained.word.offset) = omega (arith, chained.at) in
        record {
          byte = get_or (little_bytes 8 (wrap (w.value + slide))) (u.addr + offset - (first_in cache + w.offset)) 0;
          here = bound_here (Place m g distance) is ∙ ap₂ (λ (v n : ℕ). Some (get_or (little_bytes 8 v) n 0)) number far;
          there = mapped_word cache unfound slide (u.addr + offset) w chained.there (omega (arith, from, chained.at)) (omega (arith, to, chained.at));
        }

    constant_here : (c : ℕ) → bound_target b.addend (outcome_of (cached_set (images_in cache)) k b) ≡ Constant c
        → IsSameByte (loaded (set_in cache) (all_at slide) k) (mapped cache slide) (wrap (u.addr + offset + slide))
    constant_here c is =
        let starts : Starts = starts_in cache slide in
        let n : ℕ = u.addr + offset - b.at.address in
        let tests = and_parts (not (is_chained (first_in cache) (words_in cache) b.at.address)) (nat_eq (value_of i.segments b.at) c)
        (sym (ap (λ (t : WordTarget). is_number_of (images_in cache) (is_chained (first_in cache) (words_in cache) b.at.address) (value_of i.segments b.at) t) is) ∙ set_here) in
        let value : number_at 8 (flat cache) (b.at.address - region_start) ≡ c = sym value_here ∙ eqb-true (value_of i.segments b.at) c tests.1 in
        let clear : AreClear (word_place cache) (words_in cache) (u.addr + offset) = λ w own.
        apart w own (over_or_clear (word_place cache) (w ∷ []) (u.addr + offset)) tests.0 in
        let word = bound_is_word i (cached_lists i) b (streams_sound i (file cache unfound k i got).ready.read) there in
        let home = (made cache unfound k i got).held.homes b.at.segment word.segment word.segment_is (writable_other i b.at.segment word.segment (file cache unfound k i got).sound word.segment_is word.writable) in
        let spelt : get_or (little_bytes 8 (number_at 8 (flat cache) (b.at.address - region_start))) (u.addr + offset - b.at.address) 0 ≡ get_or (flat cache) (b.at.address - region_start + (u.addr + offset - b.at.address)) 0 =
        spelt_byte 8 (b.at.address - region_start) n (flat cache) (omega (arith, home.low, home.high, word.from, word.to, length-flat cache (can_read cache unfound))) (flat_bytes cache (can_read cache unfound) unfound.bytes) (omega (arith, from, to)) in
        let where_is : b.at.address - region_start + (u.addr + offset - b.at.address) ≡ u.addr + offset - region_start = omega (arith, home.low, word.from, from) in
        record {
          byte = get_or (flat cache) (u.addr + offset - region_start) 0;
          here =
              bound_here (Constant c) is
              ∙ ap (λ (x : ℕ). Some x)
              (ap (λ (v : ℕ). get_or (little_bytes 8 v) n 0) (constant_number starts (wrap (b.at.address + slide)) c ∙ sym value) ∙ (spelt ∙ ap (λ (x : ℕ). get_or (flat cache) x 0) where_is));
          there = still clear;
        }
      where
        apart : (w : ChainWord) → IsIn (words_in cache) w → IsOver (word_place cache) (w ∷ []) (u.addr + offset) ⊎ AreClear (word_place cache) (w ∷ []) (u.addr + offset)
            → not (is_chained (first_in cache) (words_in cache) b.at.address) ≡ true → (u.addr + offset < first_in cache + w.offset) ⊎ (first_in cache + w.offset + 8 ≤ u.addr + offset)
        apart w own (inr clear) unchained = clear w (in_first w [])
        apart w own (inl over) unchained =
            let is : over.one ≡ w = sym (only w over.one over.there) in
            let low : first_in cache + w.offset ≤ u.addr + offset = subst (λ (x : ChainWord). first_in cache + x.offset ≤ u.addr + offset) is over.from in
            let high : u.addr + offset < first_in cache + w.offset + 8 = subst (λ (x : ChainWord). u.addr + offset < first_in cache + x.offset + 8) is over.to in
            let near_it = near_word w own low high in
            let one : b.at.address ≡ first_in cache + w.offset = one_place (all_binds i) b (first_in cache + w.offset) (u.addr + offset) near_it.clear there from to low high in
            absurd (false≢true (sym (ap not (is_there (first_in cache) (words_in cache) b.at.address w own one)) ∙ unchained))

    bound_same : (t : WordTarget) → bound_target b.addend (outcome_of (cached_set (images_in cache)) k b) ≡ t → IsSameByte (loaded (set_in cache) (all_at slide) k) (mapped cache slide) (wrap (u.addr + offset + slide))
    bound_same (Place m g distance) is = place_here m g distance is
    bound_same (Constant c) is = constant_here c is

  -- a byte of no bound word, in a chain word
  free_same : AreClear bind_place (all_binds i) (u.addr + offset) → IsOver (word_place cache) (words_in cache) (u.addr + offset)
      → IsSameByte (loaded (set_in cache) (all_at slide) k) (mapped cache slide) (wrap (u.addr + offset + slide))
  free_same clear over =
      let w : ChainWord = over.one in
      let near_it = near_word over.one over.there over.from over.to in
      let a : ℕ = first_in cache + over.one.offset in
      let n : ℕ = u.addr + offset - (first_in cache + over.one.offset) in
      let home_is : is_home k (home_of (images_in cache) (first_in cache + over.one.offset)) ≡ true = ap (is_home k) near_it.is ∙ eq-eqb near_it.home.image k near_it.image in
      let free : is_free (first_in cache) (images_in cache) k (all_binds i) over.one ≡ true = ap₂ (λ (p q : Bool). p && not q) home_is (unbound (all_binds i) a (u.addr + offset) clear over.from over.to) in
      let l : Location = location_of (first_in cache) (images_in cache) i over.one in
      let there = in_free (first_in cache) (words_in cache) (images_in cache) k i over.one over.there free in
      let own : (location_of (first_in cache) (images_in cache) i over.one).address ≡ first_in cache + over.one.offset = address_is i a (home_of (images_in cache) a) in
      let same : u.addr + offset ≡ (location_of (first_in cache) (images_in cache) i over.one).address + (u.addr + offset - (first_in cache + over.one.offset)) = omega (arith, own, over.from) in
      record {
        byte = get_or (little_bytes 8 (wrap (w.value + slide))) n 0;
        here =
            unbound_cell cache unfound k i got slide (u.addr + offset) place.low clear
            ∙ (ap (λ (x : ℕ). before_binds cache unfound k i got slide (wrap (x + slide))) same ∙ free_cell cache unfound k i got slide n l w there over.there own near_it.word (omega (arith, over.from, over.to)));
        there = mapped_word cache unfound slide (u.addr + offset) w over.there over.from over.to;
      }

  -- and in none
  still_same : AreClear bind_place (all_binds i) (u.addr + offset) → AreClear (word_place cache) (words_in cache) (u.addr + offset)
      → IsSameByte (loaded (set_in cache) (all_at slide) k) (mapped cache slide) (wrap (u.addr + offset + slide))
  still_same clear none_over = record {
    byte = get_or (flat cache) (u.addr + offset - region_start) 0;
    here = unbound_cell cache unfound k i got slide (u.addr + offset) place.low clear ∙ (still_cell cache unfound k i got slide (u.addr + offset) place.low none_over ∙ section_cell cache k j offset slide i (file cache unfound k i got).words u (made cache unfound k i got) at lt);
    there = still none_over;
  }

  section_same : IsSameByte (loaded (set_in cache) (all_at slide) k) (mapped cache slide) (wrap (u.addr + offset + slide))
  section_same = elim (over_or_clear bind_place (all_binds i) (u.addr + offset)) [
    | inl over ↦ bound_same over.one over.there over.from over.to (bound_target over.one.addend (outcome_of (cached_set (images_in cache)) k over.one)) refl
    | inr clear ↦ elim (over_or_clear (word_place cache) (words_in cache) (u.addr + offset)) [
      | inl over ↦ free_same clear over
      | inr none_over ↦ still_same clear none_over
    ]
  ]

-- ---- all images

missing : (m : Img) → None ≡ Some m → ⊥
missing m e = cc

module _ (cache : List ℕ) (unfound : IsUnfound cache) where
  file_same : (slide k j offset : ℕ) (own : Img) (u : Section) (o : Option Img) → slice_get (images_in cache) k ≡ o → slice_get (files_in cache) k ≡ Some own → slice_get own.sections j ≡ Some u → offset < u.size
      → IsSameByte (loaded (set_in cache) (all_at slide) k) (mapped cache slide) (wrap (u.addr + offset + slide))
  file_same slide k j offset own u None is got at lt = absurd (missing own (sym (no_file_image (view_of cache) k is) ∙ got))
  file_same slide k j offset own u (Some i) is got at lt =
      let made_of = file cache unfound k i is in
      let same : own ≡ own_image k i made_of.words = same_Some own (own_image k i made_of.words) (sym got ∙ file_image (parts_at cache) k i made_of is) in
      let there : slice_get i.sections j ≡ Some u = ap (λ (us : List Section). slice_get us j) (sym (own_sections k i made_of.words made_of.sound)) ∙ (ap (λ (m : Img). slice_get m.sections j) (sym same) ∙ at) in
      section_same cache unfound k i is slide j offset u there lt

  -- they do at every slide
  pub loads_as_mapped : (slide : ℕ) → LoadsAsMapped cache slide
  loads_as_mapped slide k j offset own u got at lt = file_same slide k j offset own u (slice_get (images_in cache) k) refl got at lt

  pub extraction : IsExtraction cache
  extraction = record { files = extracted (parts_at cache) (vetted cache unfound); loads = λ slide permitted. loads_as_mapped slide }
