-- Each word of a file leads in the mapped cache to where it leads in the file.
use Rattle.std.proofs.Common.{◌≡◌, ◌≤◌, ◌<◌, ◌⊎◌, ℕ, ◌+◌, ◌-◌, ◌^◌, true, false, nat_eq, Option, Some, None, List, get_or, refl, sym, ap, ◌∙◌, subst, arith, inl, inr}
use Rattle.std.specs.Prelude.{slice_get, find}
use Rattle.std.proofs.lemmas.Bool.{eqb-true}
use Rattle.std.proofs.lemmas.Option.{slice_get_within}
use Rattle.dsc_base.specs.Region.{region_start}
use Rattle.dsc_base.proofs.NumberLaws.{number_at-lt}
use Rattle.macho_image.specs.Records.{Seg, Img}
use Rattle.macho_image.specs.Breaks.{IsSound}
use Rattle.macho_image.specs.declared.section.Section.{Section}
use Rattle.macho_image.specs.Places.{wrap, above}
use Rattle.macho_image.specs.Segments.{header_address, number_of, value_of}
use Rattle.macho_image.proofs.AboveLaws.{added_above}
use Rattle.macho_image.proofs.HeaderLaws.{header_first}
use Rattle.slide_chain.specs.declared.words.ChainWord.{ChainWord}
use Rattle.split_info.specs.declared.reference.RefKind.{RefKind}
use Rattle.split_info.specs.declared.reference.RefKind.TheVariants.{Pointer64, Delta32, Delta64, ImageOff32}
use Rattle.split_info.specs.Overlap.{is_pointer}
use Rattle.split_info.specs.References.{width_of}
use Rattle.prebind.specs.declared.resolved.PlacedWord.{PlacedWord}
use Rattle.prebind.specs.declared.resolved.WordTarget.{WordTarget}
use Rattle.prebind.specs.declared.resolved.WordTarget.TheVariants.{Place, Constant}
use Rattle.prebind.specs.Sets.{StreamLists, ImageSet}
use Rattle.prebind.specs.Numbers.{Starts, extended, led_to, counted_to}
use Rattle.prebind.specs.Targets.{pointer_at, rebase_target, bound_target, outcome_of}
use Rattle.prebind.specs.WordRules.{breaks_135, breaks_136, place_break}
use Rattle.prebind.specs.Words.{Word, ordered_pointers, words_of}
use Rattle.cache_header.specs.Reading.{head_read}
use Rattle.load_model.specs.Mapped.{mapped}
use Rattle.load_model.specs.Corresponds.{Leads, mapped_side, IsWordOf}
use Rattle.load_model.proofs.LoadedReferences.{kind_leads, width_holds}
use Rattle.load_model.proofs.LoadedWords.{IsReadImage, start_low}
use Rattle.load_model.proofs.NumberLaws.{address_on}
use Rattle.load_model.proofs.RuledWords.{kept, KeepsRules, keeps_rules}
use Rattle.load_model.proofs.SoundApart.{sound_apart}
use Rattle.load_model.proofs.WordCases.{IsIn, IsBound, IsRebased, IsOther, word_cases}
use Rattle.cache_check.specs.declared.verdict.Seen.TheVariants.{Number, Address}
use Rattle.cache_check.specs.Bytes.{Chains, same_seen, shown, chain_at, seen_at, wanted_at, leads_to_place}
use Rattle.cache_check.specs.Differences.{cached_starts}
use Rattle.cache_check.specs.Images.{images_of}
use Rattle.cache_check.specs.Shape.{data_mapping}
use Rattle.cache_check.specs.Verdict.{chains_of}
use Rattle.cache_check.specs.Views.{view_of}
use Rattle.cache_check.proofs.ApartLaws.{pointer_low, bound_apart, free_place, reference_apart}
use Rattle.cache_check.proofs.AwayLaws.{LeadsBesides}
use Rattle.cache_check.proofs.CachedBytes.{IsHome}
use Rattle.cache_check.proofs.MatchedLaws.{IsMatched, AreMatched, IsSeen, slid_place, home_of, still_number}
use Rattle.cache_check.proofs.PairedLaws.{HasPair}
use Rattle.cache_check.proofs.StandingLaws.{find_in, chain_start, chain_low, stands_still}
use Rattle.cache_check.proofs.SteadyLaws.{IsSteady, chain_cell, word_inside}
use Rattle.cache_check.proofs.ViewLaws.{IsReadable}

-- ---- what is seen

record IsShown (chains : Chains) (address shows : ℕ) : Type 0 where
  word : ChainWord
  there : IsIn chains.words word
  offset : word.offset ≡ above chains.start address
  value : word.value ≡ shows

shown_address : (chains : Chains) (address n value : ℕ) → same_seen (shown (chain_at chains address) n) (Address value) ≡ true → IsShown chains address value
unfolding chain_at
shown_address chains address n value same = at (find (λ (w : ChainWord). nat_eq w.offset (above chains.start address)) chains.words) refl same
  where
    at : (o : Option ChainWord) → find (λ (w : ChainWord). nat_eq w.offset (above chains.start address)) chains.words ≡ o → same_seen (shown o n) (Address value) ≡ true → IsShown chains address value
    at None found same = absurd (cc)
    at (Some w) found same =
        let own = find_in (λ (v : ChainWord). nat_eq v.offset (above chains.start address)) chains.words w found in
        record { word = w; there = own.0; offset = eqb-true w.offset (above chains.start address) own.1; value = eqb-true w.value value same }

shown_number : (o : Option ChainWord) (n c : ℕ) → same_seen (shown o n) (Number c) ≡ true → n ≡ c
shown_number None n c same = eqb-true n c same
shown_number (Some w) n c same = absurd (cc)

-- the number of a word that is no pointer
other_led : (chains : Chains) (starts : Starts) (cached : Seg) (kind : RefKind) (address header k g distance : ℕ) → is_pointer kind ≡ false → address < 2 ^ 64 → header < 2 ^ 64
    → same_seen (seen_at chains cached kind address) (wanted_at starts header kind address (Place k g distance)) ≡ true → led_to kind address header (number_of (width_of kind) cached address) ≡ wrap (starts k g + distance)
unfolding led_to counted_to
other_led chains starts cached Pointer64 address header k g distance other low high same = absurd (cc)
other_led chains starts cached Delta32 address header k g distance other low high same =
    let n : ℕ = number_of 4 cached address in
    let x : ℕ = wrap (starts k g + distance) in
    let is : extended n ≡ above address x = eqb-true (extended n) (above address x) same in
    ap (λ (m : ℕ). wrap (address + m)) is ∙ added_above address x (omega (arith, low)) (omega arith)
other_led chains starts cached Delta64 address header k g distance other low high same =
    let n : ℕ = number_of 8 cached address in
    let x : ℕ = wrap (starts k g + distance) in
    let is : n ≡ above address x = eqb-true n (above address x) same in
    ap (λ (m : ℕ). wrap (address + m)) is ∙ added_above address x (omega (arith, low)) (omega arith)
other_led chains starts cached ImageOff32 address header k g distance other low high same =
    let n : ℕ = number_of 4 cached address in
    let x : ℕ = wrap (starts k g + distance) in
    let is : n ≡ above header x = eqb-true n (above header x) same in
    ap (λ (m : ℕ). wrap (header + m)) is ∙ added_above header x (omega (arith, high)) (omega arith)

header_low : (i : Img) → IsSound i → header_address i.segments < 2 ^ 64
header_low i sound =
    let start = start_low i.segments 0 (sound_apart i sound) in
    omega (arith, header_first i sound, start)

number_fits : (w : ℕ) (s : Seg) (address : ℕ) → ((n : ℕ) → get_or s.bytes n 0 < 256) → number_of w s address < 256 ^ w
unfolding number_of
number_fits w s address bytes = number_at-lt w s.bytes (address - s.vmaddr) bytes

-- ---- pointers

module _ (cache : List ℕ) (readable : IsReadable cache) (set : ImageSet) (matched : AreMatched cache set) (slide : ℕ) (file image : Img) where
  -- one that leads to a place
  place_led : (j k g distance header : ℕ) (u : Section) (pair : HasPair file image j u) (offset : ℕ) → IsHome cache pair.cached → LeadsBesides set.images (Place k g distance) → offset + 8 ≤ u.size
      → same_seen (seen_at (chains_of (view_of cache)) pair.cached Pointer64 (pair.there.addr + offset)) (wanted_at (cached_starts (images_of (view_of cache))) header Pointer64 (pair.there.addr + offset) (Place k g distance)) ≡ true
      → Leads (mapped_side cache slide) (pair.there.addr + offset) header Pointer64 (Place k g distance)
  unfolding led_to
  place_led j k g distance header u pair offset home besides within same =
      let chains : Chains = chains_of (view_of cache) in
      let a : ℕ = pair.there.addr + offset in
      let own : IsShown chains (pair.there.addr + offset) (wrap (cached_starts (images_of (view_of cache)) k g + distance)) =
      shown_address chains (pair.there.addr + offset) (number_of 8 pair.cached (pair.there.addr + offset)) (wrap (cached_starts (images_of (view_of cache)) k g + distance)) same in
      let start : (chains_of (view_of cache)).start ≡ region_start + (data_mapping (head_read cache).mappings).file = chain_start cache readable in
      let low : (chains_of (view_of cache)).start + own.word.offset < 2 ^ 63 = chain_low cache readable own.word own.there in
      let back : wrap ((chains_of (view_of cache)).start + above (chains_of (view_of cache)).start (pair.there.addr + offset)) ≡ pair.there.addr + offset =
      added_above (chains_of (view_of cache)).start (pair.there.addr + offset) (omega (arith, low)) (omega (arith, within, pair.size, pair.to, pair.low)) in
      let at : pair.there.addr + offset ≡ region_start + ((data_mapping (head_read cache).mappings).file + own.word.offset) = omega (arith, back, own.offset, low, start) in
      record {
        number = wrap (own.word.value + slide);
        fits = omega arith;
        there = λ n lt.
            let place : pair.there.addr + offset + n ≡ region_start + ((data_mapping (head_read cache).mappings).file + own.word.offset + n) = omega (arith, at) in
            ap (mapped cache slide) (address_on (pair.there.addr + offset) slide n)
            ∙ (ap (λ (x : ℕ). mapped cache slide (wrap (x + slide))) place
            ∙ chain_cell cache readable slide n own.word own.there (word_inside cache readable own.word own.there) lt);
        leads = ap (λ (v : ℕ). wrap (v + slide)) own.value ∙ slid_place cache set matched slide k g distance besides;
      }

  -- one that is a number
  constant_led : (j c header : ℕ) (u : Section) (pair : HasPair file image j u) (offset : ℕ) → IsHome cache pair.cached → offset + 8 ≤ u.size
      → same_seen (seen_at (chains_of (view_of cache)) pair.cached Pointer64 (pair.there.addr + offset)) (wanted_at (cached_starts (images_of (view_of cache))) header Pointer64 (pair.there.addr + offset) (Constant c)) ≡ true
      → ((n : ℕ) → n < 8 → IsSteady cache (pair.there.addr + (offset + n) - region_start)) → Leads (mapped_side cache slide) (pair.there.addr + offset) header Pointer64 (Constant c)
  constant_led j c header u pair offset home within same steady = record {
    number = number_of 8 pair.cached (pair.there.addr + offset);
    fits = width_holds Pointer64 (number_of 8 pair.cached (pair.there.addr + offset)) (number_fits 8 pair.cached (pair.there.addr + offset) home.bytes);
    there = still_number cache readable file image j u pair home slide 8 offset within steady;
    leads = shown_number (chain_at (chains_of (view_of cache)) (pair.there.addr + offset)) (number_of 8 pair.cached (pair.there.addr + offset)) c same;
  }

  -- a difference, or an offset from the header
  other_kind_led : (j k g distance : ℕ) (kind : RefKind) (u : Section) (pair : HasPair file image j u) (offset : ℕ) → IsHome cache pair.cached → IsSound image → LeadsBesides set.images (Place k g distance) → is_pointer kind ≡ false
      → offset + width_of kind ≤ u.size
      → same_seen (seen_at (chains_of (view_of cache)) pair.cached kind (pair.there.addr + offset)) (wanted_at (cached_starts (images_of (view_of cache))) (header_address image.segments) kind (pair.there.addr + offset) (Place k g distance)) ≡ true
      → ((n : ℕ) → n < width_of kind → IsSteady cache (pair.there.addr + (offset + n) - region_start)) → Leads (mapped_side cache slide) (pair.there.addr + offset) (header_address image.segments) kind (Place k g distance)
  other_kind_led j k g distance kind u pair offset home sound besides other within same steady =
      let a : ℕ = pair.there.addr + offset in
      let number : ℕ = number_of (width_of kind) pair.cached (pair.there.addr + offset) in
      record {
        number = number;
        fits = width_holds kind number (number_fits (width_of kind) pair.cached (pair.there.addr + offset) home.bytes);
        there = still_number cache readable file image j u pair home slide (width_of kind) offset within steady;
        leads =
            kind_leads kind (pair.there.addr + offset) (header_address image.segments) number slide other
            ∙ (ap (λ (x : ℕ). wrap (x + slide))
            (other_led (chains_of (view_of cache)) (cached_starts (images_of (view_of cache))) pair.cached kind (pair.there.addr + offset) (header_address image.segments) k g distance other
            (omega (arith, within, pair.size, pair.to, pair.low)) (header_low image sound) same)
            ∙ slid_place cache set matched slide k g distance besides);
      }

-- ---- each word

module _ (cache : List ℕ) (readable : IsReadable cache) (set : ImageSet) (matched : AreMatched cache set) (slide k : ℕ) (file image : Img) (s : StreamLists) (own : IsMatched cache set k file image) (read : IsReadImage set k file s) where
  -- no chain word is at a byte of a section that no pointer to a place has
  pub steady_there : (j : ℕ) (u : Section) (pair : HasPair file image j u) (o : ℕ) → slice_get file.sections j ≡ Some u → o < u.size
      → ((v : PlacedWord) → IsIn (ordered_pointers set k) v → leads_to_place (Some v) ≡ true → (u.addr + o < v.at.address) ⊎ (v.at.address + 8 ≤ u.addr + o)) → IsSteady cache (pair.there.addr + o - region_start)
  steady_there j u pair o got lt apart =
      let home : IsHome cache pair.cached = home_of cache k file image j u own.held pair in
      stands_still cache readable (ordered_pointers set k) file image j u pair
      (own.agreed.strays j (record { own = pair.own; here = u; cached = pair.cached; there = pair.there }) (slice_get_within file.sections j u got) pair.pair)
      (λ v there. pointer_low set k file s v read there) o lt (omega (arith, home.low, pair.from)) apart

  bound_led : (w : Word) → LeadsBesides set.images w.target → IsBound set k s w → (seen : IsSeen cache file image w) → Leads (mapped_side cache slide) (seen.pair.there.addr + seen.offset) (header_address image.segments) w.kind w.target
  bound_led w besides bound seen = at w.target refl
    where
      home : IsHome cache seen.pair.cached
      home = home_of cache k file image seen.index seen.section own.held seen.pair

      kind_is : w.kind ≡ Pointer64
      kind_is = ap (λ (x : Word). x.kind) bound.is

      wide : seen.offset + 8 ≤ seen.section.size
      wide = subst (λ (kind : RefKind). seen.offset + width_of kind ≤ seen.section.size) kind_is seen.within

      same : (t : WordTarget) → w.target ≡ t
          → same_seen (seen_at (chains_of (view_of cache)) seen.pair.cached Pointer64 (seen.pair.there.addr + seen.offset)) (wanted_at (cached_starts (images_of (view_of cache))) (header_address image.segments) Pointer64 (seen.pair.there.addr + seen.offset) t) ≡ true
      same t is =
          subst (λ (x : WordTarget). same_seen (seen_at (chains_of (view_of cache)) seen.pair.cached Pointer64 (seen.pair.there.addr + seen.offset)) (wanted_at (cached_starts (images_of (view_of cache))) (header_address image.segments) Pointer64 (seen.pair.there.addr + seen.offset) x) ≡ true) is
          (subst (λ (kind : RefKind). same_seen (seen_at (chains_of (view_of cache)) seen.pair.cached kind (seen.pair.there.addr + seen.offset)) (wanted_at (cached_starts (images_of (view_of cache))) (header_address image.segments) kind (seen.pair.there.addr + seen.offset) w.target) ≡ true) kind_is seen.seen)

      back : (t : WordTarget) → w.target ≡ t → Leads (mapped_side cache slide) (seen.pair.there.addr + seen.offset) (header_address image.segments) Pointer64 t → Leads (mapped_side cache slide) (seen.pair.there.addr + seen.offset) (header_address image.segments) w.kind w.target
      back t is leads =
          subst (λ (kind : RefKind). Leads (mapped_side cache slide) (seen.pair.there.addr + seen.offset) (header_address image.segments) kind w.target) (sym kind_is)
          (subst (λ (x : WordTarget). Leads (mapped_side cache slide) (seen.pair.there.addr + seen.offset) (header_address image.segments) Pointer64 x) (sym is) leads)

      at : (t : WordTarget) → w.target ≡ t → Leads (mapped_side cache slide) (seen.pair.there.addr + seen.offset) (header_address image.segments) w.kind w.target
      at (Place m g distance) is =
          back (Place m g distance) is
          (place_led cache readable set matched slide file image seen.index m g distance (header_address image.segments) seen.section seen.pair seen.offset home (subst (LeadsBesides set.images) is besides) wide (same (Place m g distance) is))
      at (Constant c) is =
          let constant : bound_target bound.bind.addend (outcome_of set k bound.bind) ≡ Constant c = sym (ap (λ (x : Word). x.target) bound.is) ∙ is in
          let address : bound.bind.at.address ≡ seen.section.addr + seen.offset = sym (ap (λ (x : Word). x.at.address) bound.is) ∙ seen.place in
          back (Constant c) is
          (constant_led cache readable set matched slide file image seen.index c (header_address image.segments) seen.section seen.pair seen.offset home wide (same (Constant c) is)
          (λ n lt. steady_there seen.index seen.section seen.pair (seen.offset + n) seen.found (omega (arith, wide, lt)) (λ v there leads. elim (bound_apart set k file s bound.bind c read bound.there constant v there leads) [
            | inl before ↦ inr (omega (arith, before, address))
            | inr behind ↦ inl (omega (arith, behind, address, lt))
          ])))

  free_led : (w : Word) → LeadsBesides set.images w.target → place_break set k ≡ None → IsRebased k file s w → (seen : IsSeen cache file image w) → Leads (mapped_side cache slide) (seen.pair.there.addr + seen.offset) (header_address image.segments) w.kind w.target
  free_led w besides none free seen = at w.target refl
    where
      kind_is : w.kind ≡ Pointer64
      kind_is = ap (λ (x : Word). x.kind) free.is

      wide : seen.offset + 8 ≤ seen.section.size
      wide = subst (λ (kind : RefKind). seen.offset + width_of kind ≤ seen.section.size) kind_is seen.within

      at : (t : WordTarget) → w.target ≡ t → Leads (mapped_side cache slide) (seen.pair.there.addr + seen.offset) (header_address image.segments) w.kind w.target
      at (Place m g distance) is =
          subst (λ (kind : RefKind). Leads (mapped_side cache slide) (seen.pair.there.addr + seen.offset) (header_address image.segments) kind w.target) (sym kind_is)
          (subst (λ (x : WordTarget). Leads (mapped_side cache slide) (seen.pair.there.addr + seen.offset) (header_address image.segments) Pointer64 x) (sym is)
          (place_led cache readable set matched slide file image seen.index m g distance (header_address image.segments) seen.section seen.pair seen.offset (home_of cache k file image seen.index seen.section own.held seen.pair) (subst (LeadsBesides set.images) is besides) wide
          (subst (λ (x : WordTarget). same_seen (seen_at (chains_of (view_of cache)) seen.pair.cached Pointer64 (seen.pair.there.addr + seen.offset)) (wanted_at (cached_starts (images_of (view_of cache))) (header_address image.segments) Pointer64 (seen.pair.there.addr + seen.offset) x) ≡ true) is
          (subst (λ (kind : RefKind). same_seen (seen_at (chains_of (view_of cache)) seen.pair.cached kind (seen.pair.there.addr + seen.offset)) (wanted_at (cached_starts (images_of (view_of cache))) (header_address image.segments) kind (seen.pair.there.addr + seen.offset) w.target) ≡ true) kind_is seen.seen))))
      at (Constant c) is =
          let rules : KeepsRules file s = keeps_rules set k file s read.of none in
          let target : rebase_target k file.segments (value_of file.segments free.place) (pointer_at s.references free.place.address) ≡ Constant c = sym (ap (λ (x : Word). x.target) free.is) ∙ is in
          absurd (free_place k file (value_of file.segments free.place) c (pointer_at s.references free.place.address)
          (kept breaks_135 file.segments s free.place rules.linkedit free.there free.free) (kept breaks_136 file.segments s free.place rules.nowhere free.there free.free) target)

  other_led_there : (w : Word) → LeadsBesides set.images w.target → IsOther k file s w → (seen : IsSeen cache file image w) → Leads (mapped_side cache slide) (seen.pair.there.addr + seen.offset) (header_address image.segments) w.kind w.target
  other_led_there w besides other seen = at w.target refl
    where
      kind_is : w.kind ≡ other.reference.kind
      kind_is = ap (λ (x : Word). x.kind) other.is

      no_pointer : is_pointer w.kind ≡ false
      no_pointer = ap is_pointer kind_is ∙ other.other

      at : (t : WordTarget) → w.target ≡ t → Leads (mapped_side cache slide) (seen.pair.there.addr + seen.offset) (header_address image.segments) w.kind w.target
      at (Constant c) is = absurd (let none : ◌≡◌ {A = WordTarget} _ (Constant c) = sym (ap (λ (x : Word). x.target) other.is) ∙ is in cc)
      at (Place m g distance) is =
          let address : other.reference.from ≡ seen.section.addr + seen.offset = sym (ap (λ (x : Word). x.at.address) other.is) ∙ seen.place in
          subst (λ (x : WordTarget). Leads (mapped_side cache slide) (seen.pair.there.addr + seen.offset) (header_address image.segments) w.kind x) (sym is)
          (other_kind_led cache readable set matched slide file image seen.index m g distance w.kind seen.section seen.pair seen.offset (home_of cache k file image seen.index seen.section own.held seen.pair) own.held.sound (subst (LeadsBesides set.images) is besides) no_pointer seen.within
          (subst (λ (x : WordTarget). same_seen (seen_at (chains_of (view_of cache)) seen.pair.cached w.kind (seen.pair.there.addr + seen.offset)) (wanted_at (cached_starts (images_of (view_of cache))) (header_address image.segments) w.kind (seen.pair.there.addr + seen.offset) x) ≡ true) is seen.seen)
          (λ n lt. steady_there seen.index seen.section seen.pair (seen.offset + n) seen.found (omega (arith, seen.within, lt)) (λ v there leads.
          elim (reference_apart set k file s other.reference n read own.sound other.there other.other (subst (λ (kind : RefKind). n < width_of kind) kind_is lt) v there) [
            | inl before ↦ inl (omega (arith, before, address))
            | inr behind ↦ inr (omega (arith, behind, address))
          ])))

  pub word_led : (w : Word) → place_break set k ≡ None → IsWordOf (words_of set k) w → LeadsBesides set.images w.target → (seen : IsSeen cache file image w) → Leads (mapped_side cache slide) (seen.pair.there.addr + seen.offset) (header_address image.segments) w.kind w.target
  word_led w none is besides seen = elim (word_cases set k file s w read.of is) [
    | inl bound ↦ bound_led w besides bound seen
    | inr unbound ↦ elim unbound [
      | inl free ↦ free_led w besides none free seen
      | inr other ↦ other_led_there w besides other seen
    ]
  ]
