-- A cache that agrees with files corresponds to them, wherever they are loaded and at every slide that its header permits.
use Rattle.std.proofs.Common.{◌≡◌, ◌≤◌, ◌<◌, ℕ, ◌+◌, ◌-◌, All, Vec, Global, Option, Some, None, List, [], length, map, get_or, refl, sym, ap, ap₂, ◌∙◌, subst, arith, inl, inr}
use Rattle.std.specs.Prelude.{slice_get, option_map, position}
use Rattle.std.specs.List.{range_with_len}
use Rattle.std.proofs.lemmas.Bool.{cases_lt}
use Rattle.std.proofs.lemmas.List.{length-map, get_or_past}
use Rattle.std.proofs.lemmas.List.FromFn.{get_or-range_with_len, length-range_with_len, length-map-range_with_len}
use Rattle.std.proofs.lemmas.List.Elements.{All-take, All-drop}
use Rattle.std.proofs.lemmas.Option.{same_Some, slice_get-map, slice_get_within, slice_get-get_or, get_or_from_slice_get}
use Rattle.dsc_base.specs.Refusals.{broken, in_image}
use Rattle.dsc_base.specs.declared.rule.Rule.TheVariants.{ExportOutside}
use Rattle.macho_image.specs.Records.{Seg, Img, SegmentLoad}
use Rattle.macho_image.specs.Breaks.{IsSound}
use Rattle.macho_image.specs.Macho.{header_in, image_of, image_from, segment_of, segment_loads, loads_of}
use Rattle.macho_image.specs.declared.section.Section.{Section}
use Rattle.macho_image.specs.Places.{wrap, numbered_section}
use Rattle.macho_image.specs.Segments.{header_address, segments_in, segments_at}
use Rattle.export_trie.specs.declared.export.Export.{Export}
use Rattle.export_trie.specs.Exports.{exports_of}
use Rattle.prebind.specs.Agree.{HaveExportsInside}
use Rattle.prebind.specs.Places.{exports_in, strays, export_break}
use Rattle.prebind.specs.Sets.{StreamLists, ImageSet, IsSoundSet, lists_of, image_set}
use Rattle.prebind.specs.Words.{Word, words_of}
use Rattle.prebind.specs.WordRules.{place_break}
use Rattle.prebind.proofs.SetLaws.{sound_set}
use Rattle.cache_header.specs.Records.{Entry}
use Rattle.cache_header.specs.Reading.{head_read, image_count, image_path, image_at as entry_at, images_of as entries_of}
use Rattle.load_model.specs.Loading.{in_memory}
use Rattle.load_model.specs.Mapped.{mapped}
use Rattle.load_model.specs.Corresponds.{IsWordOf, InWord, Leads, loaded_side, mapped_side, WordCorresponds, ImageCorresponds}
use Rattle.load_model.specs.Phases.{contents, dylib_of, images_of as file_images, files_break}
use Rattle.load_model.proofs.AcceptedFiles.{AreAccepted, accepted_files}
use Rattle.load_model.proofs.LoadedBytes.{IsLoadedByte}
use Rattle.load_model.proofs.LoadedReferences.{HaveBytes}
use Rattle.load_model.proofs.LoadedSides.{IsLoadedWord, IsLoaded, image_loaded}
use Rattle.load_model.proofs.LoadingLaws.{in_memory-byte}
use Rattle.load_model.proofs.RuledWords.{HasStreams, read_image}
use Rattle.macho_image.proofs.SliceLaws.{dylib_bytes}
use Rattle.load_model.proofs.SoundApart.{sound_apart}
use Rattle.load_model.proofs.SoundSets.{sound_images}
use Rattle.load_model.proofs.WordCases.{IsOf, of_map, word_in}
use Rattle.cache_check.specs.declared.verdict.Verdict.{Verdict}
use Rattle.cache_check.specs.declared.verdict.Verdict.TheVariants.{Agrees}
use Rattle.cache_check.specs.Agreeing.{CorrespondsEverywhere}
use Rattle.cache_check.specs.Bytes.{byte_in}
use Rattle.cache_check.specs.Images.{image_in, images_of}
use Rattle.cache_check.specs.Verdict.{verdict_of}
use Rattle.cache_check.specs.Views.{View, view_of}
use Rattle.cache_check.proofs.AgreedLaws.{IsAgreed, Agreement, agreement}
use Rattle.cache_check.proofs.AlikeLaws.{alike_where}
use Rattle.cache_check.proofs.AwayLaws.{none_strays, word_besides}
use Rattle.cache_check.proofs.CachedBytes.{IsHeld, held}
use Rattle.cache_check.proofs.LedLaws.{word_led}
use Rattle.cache_check.proofs.MatchedLaws.{IsMatched, AreMatched, IsSeen, word_seen}
use Rattle.cache_check.proofs.OtherLaws.{byte_there}
use Rattle.cache_check.proofs.PairedLaws.{HasPair, numbered, has_pair}
use Rattle.cache_check.proofs.ReadableLaws.{AreBytes, readable}
use Rattle.cache_check.proofs.SameExportLaws.{same_exports}
use Rattle.cache_check.proofs.ViewLaws.{IsReadable}
use Rattle.cache_check.proofs.WordOrder.{word_by_address}

-- ---- files of bytes

abbrev pub ArePlain : List ℕ → Type 0
ArePlain xs = All (λ (b : ℕ). b < 256) xs

pub plain_bytes : (xs : List ℕ) → ArePlain xs → AreBytes xs
plain_bytes xs plain k = elim (cases_lt k (length xs)) [
  | inl inside ↦ plain k 0 inside
  | inr past ↦ subst (λ (b : ℕ). b < 256) (sym (get_or_past xs k 0 past)) (omega arith)
]

filed : (file : List ℕ) (l : SegmentLoad) → ArePlain file → AreBytes (segment_of file l).bytes
unfolding segment_of
filed file l plain = plain_bytes _ (All-take (λ (b : ℕ). b < 256) l.filesize _ (All-drop (λ (b : ℕ). b < 256) l.fileoff file plain))

image_bytes : (file : List ℕ) → ArePlain file → HaveBytes (image_of file 0).segments
unfolding image_from
image_bytes file plain g t got =
    let from : IsOf (segment_of file) (segment_loads (loads_of (header_in file 0))) t = of_map (segment_of file) (segment_loads (loads_of (header_in file 0))) t (record { number = g; found = got }) in
    subst (λ (x : Seg). AreBytes x.bytes) (sym from.is) (filed file from.from plain)

abbrev pub ArePlainFiles : List (List ℕ) → Type 0
ArePlainFiles files = All (λ (f : List ℕ). ArePlain f) files

segments_are_bytes : (files : List (List ℕ)) → ArePlainFiles files → (k : ℕ) (i : Img) → slice_get (file_images files) k ≡ Some i → HaveBytes i.segments
segments_are_bytes files plain k i got =
    let from : IsOf (λ (file : List ℕ). image_of (dylib_of file) 0) files i = of_map (λ (file : List ℕ). image_of (dylib_of file) 0) files i (record { number = k; found = got }) in
    let own : ArePlain from.from = subst ArePlain (get_or_from_slice_get files from.there.number from.from from.from from.there.found) (plain from.there.number from.from (slice_get_within files from.there.number from.from from.there.found)) in
    subst (λ (j : Img). HaveBytes j.segments) (sym from.is) (image_bytes (dylib_of from.from) (dylib_bytes from.from own))

-- ---- what files have that break no rule

pub record AreSoundFiles (files : List (List ℕ)) : Type 0 where
  pub sound : (k : ℕ) (i : Img) → slice_get (file_images files) k ≡ Some i → IsSound i
  pub set : IsSoundSet (image_set (file_images files))
  pub bytes : (k : ℕ) (i : Img) → slice_get (file_images files) k ≡ Some i → HaveBytes i.segments
  pub exports : HaveExportsInside (image_set (file_images files))
  pub words : (k : ℕ) (i : Img) → slice_get (file_images files) k ≡ Some i → place_break (image_set (file_images files)) k ≡ None

no_export : (set : ImageSet) (k : ℕ) → length set.streams ≤ k → export_break set k ≡ None
unfolding export_break
no_export set k past =
    let none : get_or (exports_in set.streams) k [] ≡ [] =
    get_or_past (exports_in set.streams) k [] (let long : length (exports_in set.streams) ≡ length set.streams = length-map set.streams _ in omega (arith, past, long)) in
    ap (λ (es : List Export). option_map (in_image k) (broken ExportOutside (position (λ (e : Export). strays (segments_at set.images k) e.target) es))) none

streams_long : (js : List Img) → length (image_set js).streams ≡ length js
unfolding image_set
streams_long js = length-map js lists_of

set_images : (js : List Img) → (image_set js).images ≡ js
unfolding image_set
set_images js = refl

sound_files : (files : List (List ℕ)) → length files ≤ 4096 → ArePlainFiles files → files_break files ≡ None → AreSoundFiles files
sound_files files few plain none =
    let is : List Img = file_images files in
    let accepted : AreAccepted files = accepted_files files none in
    let long : length (file_images files) ≡ length files = length-map files (λ (f : List ℕ). image_of (dylib_of f) 0) in
    record {
      sound = λ k i got. subst IsSound (get_or_from_slice_get (file_images files) k i i got) (sound_images 0 files accepted.shapes k i (slice_get_within (file_images files) k i got));
      set = sound_set (file_images files) (omega (arith, few, long)) accepted.streams accepted.linked;
      bytes = segments_are_bytes files plain;
      exports = λ k. elim (cases_lt k (length (file_images files))) [
        | inl inside ↦ accepted.exports k inside
        | inr past ↦ no_export (image_set is) k (omega (arith, past, streams_long (file_images files)))
      ];
      words = λ k i got. accepted.words k (slice_get_within (file_images files) k i got);
    }

-- ---- each file has its image

image_there : (cache : List ℕ) (k n : ℕ) → length (view_of cache).head.images ≡ n → k < n → (image : Img) × (slice_get (images_of (view_of cache)) k ≡ Some image)
image_there cache k n count lt =
    let v : View = view_of cache in
    let long : length (images_of (view_of cache)) ≡ length (view_of cache).head.images = length-map (view_of cache).head.images (image_in (view_of cache).flat) in
    let d : Img = image_in [] (record { address = 0; path = []; uuid = []; text_size = 0 }) in
    (get_or (images_of (view_of cache)) k d, slice_get-get_or (images_of (view_of cache)) k d (omega (arith, long, count, lt)))

entry_there : (cache : List ℕ) (k : ℕ) → k < image_count cache → slice_get (entries_of cache) k ≡ Some (entry_at cache k)
unfolding entries_of
entry_there cache k lt =
    let all : List ℕ = range_with_len 0 (image_count cache) in
    let number : slice_get all k ≡ Some k =
    slice_get-get_or all k 0 (omega (arith, lt, length-range_with_len 0 (image_count cache))) ∙ ap (λ (n : ℕ). Some n) (get_or-range_with_len 0 (image_count cache) k 0 lt ∙ omega arith) in
    slice_get-map (entry_at cache) all k ∙ ap (λ (o : Option ℕ). option_map (entry_at cache) o) number

entry_path : (cache : List ℕ) (k : ℕ) → (entry_at cache k).path ≡ image_path cache k
unfolding entry_at
entry_path cache k = refl

entries_counted : (cache : List ℕ) → length (entries_of cache) ≡ image_count cache
unfolding entries_of
entries_counted cache = length-map-range_with_len (entry_at cache) 0 (image_count cache)

head_images : (cache : List ℕ) → (view_of cache).head.images ≡ entries_of cache
unfolding view_of head_read
head_images cache = refl

exported : (i : Img) → exports_of (lists_of i).exports ≡ exports_of i.streams.exports
unfolding lists_of
exported i = refl

exports_are : (is : List Img) (k : ℕ) (i : Img) → slice_get is k ≡ Some i → get_or (exports_in (map lists_of is)) k [] ≡ exports_of i.streams.exports
exports_are is k i got =
    let streams : slice_get (map lists_of is) k ≡ Some (lists_of i) = slice_get-map lists_of is k ∙ ap (λ (o : Option Img). option_map lists_of o) got in
    let there : slice_get (exports_in (map lists_of is)) k ≡ Some (exports_of (lists_of i).exports) =
    slice_get-map (λ (s : StreamLists). exports_of s.exports) (map lists_of is) k ∙ ap (λ (o : Option StreamLists). option_map (λ (s : StreamLists). exports_of s.exports) o) streams in
    get_or_from_slice_get (exports_in (map lists_of is)) k (exports_of (lists_of i).exports) [] there ∙ exported i

set_exports : (is : List Img) (k : ℕ) (i : Img) → slice_get is k ≡ Some i → get_or (exports_in (image_set is).streams) k [] ≡ exports_of i.streams.exports
unfolding image_set
set_exports is k i got = exports_are is k i got

module _ (cache : List ℕ) (files : List (List ℕ)) (bytes : AreBytes cache) (sound : AreSoundFiles files) (agrees : Agreement cache files) where
  read : IsReadable cache
  read = readable cache bytes agrees.read

  matched : AreMatched cache (image_set (file_images files))
  unfolding read
  matched k file got =
      let set : ImageSet = image_set (file_images files) in
      let there = image_there cache k (length set.images) agrees.agreed.count (slice_get_within set.images k file got) in
      let in_cache : IsHeld cache k there.0 = held cache bytes (readable cache bytes agrees.read) agrees.images k there.0 there.1 in
      let own : IsSound file = sound.sound k file (sym (ap (λ (is : List Img). slice_get is k) (set_images (file_images files))) ∙ got) in
      let agreed : IsAgreed cache set k file there.0 = agrees.agreed.images k file there.0 got there.1 in
      (there.0, record { file_is = got; image_is = there.1; sound = own; held = in_cache; alike = alike_where k file there.0 own in_cache.sound agreed.shape; agreed = agreed })

  module _ (slides : ℕ → ℕ) (slide k : ℕ) (file image : Img) (own : IsMatched cache (image_set (file_images files)) k file image) where
    at_file : slice_get (file_images files) k ≡ Some file
    at_file = sym (ap (λ (is : List Img). slice_get is k) (set_images (file_images files))) ∙ own.file_is

    streams : HasStreams (image_set (file_images files)) k file
    streams = read_image (image_set (file_images files)) k file sound.set own.file_is (sound_apart file own.sound)

    loaded : IsLoaded (image_set (file_images files)) slides k file
    unfolding at_file
    loaded = image_loaded (image_set (file_images files)) slides k file sound.set own.file_is own.sound (sound.bytes k file at_file) (sound.words k file at_file)

    word_corresponds : (w : Word) → IsWordOf (words_of (image_set (file_images files)) k) w
        → WordCorresponds file image (loaded_side (image_set (file_images files)) slides k) (mapped_side cache slide) w
    word_corresponds w among =
        let set : ImageSet = image_set (file_images files) in
        let here : IsLoadedWord set slides k file w = loaded.words w among in
        let seen : IsSeen cache file image w = word_seen cache set k file image w own (word_by_address set k file w own.file_is (word_in (words_of set k) w among)) here.stands in
        let same : here.stands.section.addr + here.stands.offset ≡ seen.section.addr + seen.offset = sym here.stands.place ∙ seen.place in
        record {
          section = seen.section;
          section_is = seen.section_is;
          same = seen.pair.there;
          same_is = ap (λ (n : ℕ). numbered_section image.sections n) seen.number ∙ numbered image.sections seen.index seen.pair.there seen.pair.there_is;
          offset = seen.offset;
          place = seen.place;
          loaded = subst (λ (a : ℕ). Leads (loaded_side set slides k) a (header_address file.segments) w.kind w.target) same here.loaded;
          mapped = word_led cache read set matched slide k file image streams.streams own streams.read w (sound.words k file at_file) among
              (word_besides set k file streams.streams w sound.exports streams.read own.sound among) seen;
        }

    byte_corresponds : (j offset : ℕ) (u : Section) → slice_get file.sections j ≡ Some u → offset < u.size → (InWord (words_of (image_set (file_images files)) k) (j + 1) u offset → ⊥)
        → (t : Section) × (slice_get image.sections j ≡ Some t) × (b : ℕ) × ((loaded_side (image_set (file_images files)) slides k).cells (wrap (u.addr + offset + slides k)) ≡ Some b) × (mapped cache slide (wrap (t.addr + offset + slide)) ≡ Some b)
    byte_corresponds j offset u got lt free =
        let set : ImageSet = image_set (file_images files) in
        let here : IsLoadedByte set slides k file u offset = loaded.bytes j offset u got lt free in
        let pair : HasPair file image j u = has_pair file image own.sound own.held.sound own.alike j u got in
        let home : here.home ≡ pair.own = same_Some here.home pair.own (sym here.found ∙ pair.own_is) in
        let far : u.addr + offset - pair.own.vmaddr ≡ here.distance = (let at : here.home.vmaddr ≡ pair.own.vmaddr = ap (λ (s : Seg). s.vmaddr) home in omega (arith, at, here.far, pair.own_from)) in
        let byte : byte_in pair.own (u.addr + offset) ≡ get_or (in_memory here.home) here.distance 0 =
        ap₂ (λ (s : Seg) (n : ℕ). get_or s.bytes n 0) (sym home) far ∙ sym (in_memory-byte here.home here.distance) in (
          pair.there,
          pair.there_is,
          get_or (in_memory here.home) here.distance 0,
          here.there,
          byte_there cache read set matched slide k file image streams.streams own streams.read j offset u got lt free pair ∙ ap (λ (b : ℕ). Some b) byte,
        )

    stays : position (λ (e : Export). strays file.segments e.target) (exports_of file.streams.exports) ≡ None
    stays =
        let set : ImageSet = image_set (file_images files) in
        ap (λ (es : List Export). position (λ (e : Export). strays file.segments e.target) es) (sym (set_exports (file_images files) k file at_file))
        ∙ (ap (λ (o : Option Img). position (λ (e : Export). strays (segments_in o) e.target) (get_or (exports_in set.streams) k [])) (sym own.file_is) ∙ none_strays set k (sound.exports k))

    image_corresponds : ImageCorresponds file image (words_of (image_set (file_images files)) k) (loaded_side (image_set (file_images files)) slides k) (mapped_side cache slide)
    image_corresponds = record {
      shape = sym own.alike.shapes;
      words = word_corresponds;
      bytes = byte_corresponds;
      trie = own.held.trie;
      exports = same_exports k file image own.sound own.held.sound own.alike own.agreed.exports stays;
    }

  count : image_count cache ≡ length (image_set (file_images files)).images
  count = sym (entries_counted cache) ∙ (sym (ap (λ (es : List Entry). length es) (head_images cache)) ∙ agrees.agreed.count)

  path_at : (k : ℕ) (file : Img) → slice_get (image_set (file_images files)).images k ≡ Some file → image_path cache k ≡ file.install_name
  path_at k file got =
      let lt : k < image_count cache = omega (arith, count, slice_get_within (image_set (file_images files)).images k file got) in
      sym (entry_path cache k) ∙ agrees.agreed.paths k (entry_at cache k) file (ap (λ (es : List Entry). slice_get es k) (head_images cache) ∙ entry_there cache k lt) got

  pub corresponds : CorrespondsEverywhere files cache
  corresponds placement placed slide permitted =
      let set : ImageSet = image_set (file_images files) in
      record {
        count = count;
        paths = path_at;
        images = λ k file got.
            let own = matched k file got in
            (own.0, own.1.held.found, image_corresponds placement slide k file own.0 own.1);
      }

-- ---- what is checked

few_of : (files : List (Vec ℕ Global)) → length files ≤ 4096 → length (contents files) ≤ 4096
few_of files few = omega (arith, few, length-map files (λ (f : Vec ℕ Global). f.items))

pub agrees_everywhere : (cache : List ℕ) (files : List (Vec ℕ Global)) (v : Verdict) → length files ≤ 4096 → ArePlain cache → ArePlainFiles (contents files) → files_break (contents files) ≡ None → v ≡ verdict_of cache (contents files)
    → v ≡ Agrees → CorrespondsEverywhere (contents files) cache
agrees_everywhere cache files v few plain plain_files none is agrees =
    corresponds cache (contents files) (plain_bytes cache plain) (sound_files (contents files) (few_of files few) plain_files none) (agreement cache (contents files) (sym is ∙ agrees))
