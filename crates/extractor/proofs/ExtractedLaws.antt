-- The files that are made of the images of a vetted cache are what is promised.
use Rattle.std.proofs.Common.{◌≡◌, ◌≤◌, ◌<◌, ℕ, zero, suc, ◌+◌, Bool, true, false, Option, Some, None, List, [], ◌∷◌, ◌++◌, map, take, drop, length, get_or, refl, sym, ap, ap₂, ◌∙◌, subst, arith, if◌then◌else◌}
use Rattle.std.specs.Prelude.{slice_get, slice_index_or, position, option_map}
use Rattle.std.specs.List.{range_with_len}
use Rattle.std.proofs.lemmas.List.{get_or-drop, length-map}
use Rattle.std.proofs.lemmas.Option.{slice_get-map, slice_get_within}
use Rattle.dsc_base.proofs.NumberLaws.{number_at-lt}
use Rattle.dsc_base.specs.Refusals.{broken, in_image}
use Rattle.dsc_base.specs.declared.fault.Break.{Break}
use Rattle.dsc_base.specs.declared.fault.Site.{Site}
use Rattle.dsc_base.specs.declared.rule.Rule.TheVariants.{ExportOutside}
use Rattle.dsc_base.specs.declared.finding_kind.FindingKind.TheVariants.{ImageBroken}
use Rattle.macho_image.specs.Records.{Img}
use Rattle.macho_image.specs.Macho.{header_size, header_in, image_from, image_of}
use Rattle.macho_image.specs.Breaks.{IsSound, image_break, image_at}
use Rattle.macho_image.specs.Segments.{segments_at, segments_in}
use Rattle.macho_image.specs.declared.form.Form.TheVariants.{Standalone, Cached}
use Rattle.macho_image.specs.declared.place.Location.{Location}
use Rattle.macho_image.proofs.Unbroken.{image_sound, image_at-some}
use Rattle.dep_closure.specs.Breaks.{link_break}
use Rattle.dep_closure.proofs.PositionLaws.{position-cons}
use Rattle.bind_ops.specs.Binds.{binds_of}
use Rattle.bind_ops.specs.Records.{BoundWord}
use Rattle.bind_ops.specs.declared.kind.StreamKind.TheVariants.{Bind, Lazy}
use Rattle.export_trie.specs.declared.export.Export.{Export}
use Rattle.export_trie.specs.declared.export.Target.{Target}
use Rattle.export_trie.specs.Exports.{exports_of}
use Rattle.rebase_ops.specs.Rebases.{rebases_of}
use Rattle.prebind.specs.Agree.{AgreeOnExports, HaveSameBodies, HaveExportsInside}
use Rattle.prebind.specs.Places.{exports_in, strays, export_break}
use Rattle.prebind.specs.Resolves.{resolves}
use Rattle.prebind.specs.Sets.{all_binds, lists_of, image_set}
use Rattle.prebind.proofs.SameLaws.{same_outcomes_inside}
use Rattle.load_model.specs.Phases.{first_of}
use Rattle.load_model.proofs.FirstLaws.{first_each}
use Rattle.cache_check.specs.Images.{header_place, image_in, images_of, cached_images, rule_finding, broken_finding}
use Rattle.cache_check.specs.Views.{View}
use Rattle.cache_check.proofs.CachedLaws.{cached_are}
use Rattle.extractor.specs.ExtractOf.{free_words, header_of, file_of, extract_of}
use Rattle.extractor.specs.Extracted.{extracted_images, extracted_set, IsExtracted, AreExtracted}
use Rattle.extractor.specs.Files.{CanExtract}
use Rattle.extractor.specs.Placing.{data_start}
use Rattle.extractor.specs.Vets.{Parts, IsVetted}
use Rattle.extractor.specs.Vetting.{cached_lists, cached_set, sums_from, symbols_break, set_break, break_finding, link_finding, words_finding, chain_finding}
use Rattle.extractor.proofs.AgreeLaws.{IsAlike, AreAlike, same_links, same_exports, same_headers, same_bodies}
use Rattle.extractor.proofs.AlikeLaws.{binds_same}
use Rattle.extractor.proofs.BodyLaws.{header_fits}
use Rattle.extractor.proofs.OwnAlike.{own_alike, target_stays}
use Rattle.extractor.proofs.OwnRebases.{rebases_back}
use Rattle.extractor.proofs.OwnSections.{own_like}
use Rattle.extractor.proofs.OwnStreams.{IsOf, own_image, HasStreams, own_streams}
use Rattle.extractor.proofs.PlacedLaws.{header_long, image_accepted}
use Rattle.extractor.proofs.PlaceLaws.{addresses}
use Rattle.extractor.proofs.ReadLaws.{neither, AreClean, clean}
use Rattle.extractor.proofs.ReadyLaws.{all_none, each_none, there, own_words, can_extract, file_is}
use Rattle.extractor.proofs.WritableLaws.{without_info}

-- ---- an image of the cache

no_rule : (k : ℕ) (o : Option Site) → rule_finding ImageBroken k o ≡ None → o ≡ None
no_rule k None none = refl
no_rule k (Some s) none = absurd (cc)

-- it breaks no rule of its shape, and the cache's bytes spell it
record IsThere (bytes : List ℕ) (i : Img) : Type 0 where
  sound : IsSound i
  of : IsOf bytes i

image_there : (v : View) (k : ℕ) (i : Img) → AreClean v → slice_get (images_of v) k ≡ Some i → IsThere v.flat i
unfolding broken_finding
image_there v k i found got =
    let entry = there (image_in v.flat) (slice_get v.head.images k) i (sym (slice_get-map (image_in v.flat) v.head.images k) ∙ got) in
    let e = entry.0 in
    let spelt : ◌≡◌ {A = Option Img} (Some (image_in v.flat entry.0)) (Some i) = ap (option_map (image_in v.flat)) (sym entry.1) ∙ (sym (slice_get-map (image_in v.flat) v.head.images k) ∙ got) in
    let is : image_in v.flat entry.0 ≡ i = cc in
    let none = no_rule (0 + k) (image_break Cached v.flat (header_place e)) (each_none (broken_finding v.flat) 0 k v.head.images e found.broken entry.1) in
    record {
      sound = subst IsSound is (image_sound Cached v.flat (header_place e) (λ (f : Cached ≡ Standalone). cc) none);
      of = record { place = header_place e; is = sym is };
    }

-- ---- bytes of its header

taken_bytes : (n : ℕ) (l : List ℕ) → ((m : ℕ) → get_or l m 0 < 256) → (m : ℕ) → get_or (take n l) m 0 < 256
taken_bytes zero l bytes m = omega arith
taken_bytes (suc n) [] bytes m = omega arith
taken_bytes (suc n) (x ∷ xs) bytes zero = bytes 0
taken_bytes (suc n) (x ∷ xs) bytes (suc m) = taken_bytes n xs (λ k. bytes (suc k)) m

header_bytes : (b : List ℕ) (i : Img) → IsOf b i → ((m : ℕ) → get_or b m 0 < 256) → (m : ℕ) → get_or i.header m 0 < 256
unfolding image_from header_in
header_bytes b i of bytes m =
    subst (λ (l : List ℕ). get_or l m 0 < 256) (sym (ap (λ (j : Img). j.header) of.is))
    (taken_bytes (header_size (drop of.place b)) (drop of.place b) (λ n. subst (λ (x : ℕ). x < 256) (sym (get_or-drop of.place b n 0)) (bytes (of.place + n))) m)

-- ---- the file of one image

pub record IsFile (p : Parts) (k : ℕ) (i : Img) : Type 0 where
  pub words : List Location
  pub words_are : words ≡ free_words (data_start p.view) p.view.words (images_of p.view) k i
  pub sound : IsSound i
  pub ready : CanExtract i words
  pub sized : length (header_of k i words) ≡ length i.header
  pub is : extract_of p.view k ≡ file_of k i words
  pub accepted : image_at Standalone (extract_of p.view k) 0 ≡ Some (own_image k i words)
  pub own_sound : IsSound (own_image k i words)
  pub streams : HasStreams i (own_image k i words) words

chains_none : (start : ℕ) (p : Parts) → words_finding start p.view.words (cached_set (images_of p.view)) ≡ None → chain_finding start p.view.words (cached_set (images_of p.view)) ≡ None
unfolding words_finding
chains_none start p none = (neither (chain_finding start p.view.words (cached_set (images_of p.view))) _ none).0

accepted_as : (file : List ℕ) (own : Img) → image_at Standalone file 0 ≡ Some own → IsSound own
accepted_as file own accepted =
    let parts = image_at-some Standalone file 0 own accepted in
    subst IsSound (sym parts.1) (image_sound Standalone file 0 (λ (f : Standalone ≡ Standalone). refl) parts.0)

pub one_file : (p : Parts) (k : ℕ) (i : Img) → IsVetted p → slice_get (images_of p.view) k ≡ Some i → IsFile p k i
unfolding own_image
one_file p k i vetted got =
    let none = all_none p.view vetted.none in
    let found = clean p.view none.images in
    let held : slice_get p.images k ≡ Some i = ap (λ (is : List Img). slice_get is k) vetted.images_are ∙ got in
    let words = slice_index_or p.free k [] in
    let words_are : slice_index_or p.free k [] ≡ free_words (data_start p.view) p.view.words (images_of p.view) k i = own_words p k i vetted held in
    let image = image_there p.view k i found got in
    let ready = can_extract p k i words vetted held refl in
    let bytes = header_bytes p.view.flat i image.of vetted.bytes in
    let within : k < length (images_of p.view) = slice_get_within (images_of p.view) k i got in
    let few : k ≤ 4096 = omega (arith, within, length-map p.view.head.images (image_in p.view.flat), vetted.view.few) in
    let is = sym (file_is p k i words (file_of k i words) vetted held refl refl) in
    let accepted = image_accepted k i words image.sound ready few bytes in
    let narrow = number_at-lt 4 i.header 24 bytes in
    let lacks : i.has_dyld_info ≡ false → slice_index_or p.free k [] ≡ [] =
    λ info. words_are ∙ without_info (data_start p.view) p.view.words (images_of p.view) k i got vetted.view.words (addresses p.view vetted.view) (chains_none (data_start p.view) p none.words) info in
    let sized = header_long k i words image.sound ready few narrow in
    record {
      words = words;
      words_are = words_are;
      sound = image.sound;
      ready = ready;
      sized = sized;
      is = is;
      accepted = ap (λ (l : List ℕ). image_at Standalone l 0) is ∙ accepted;
      own_sound = accepted_as (file_of k i words) _ accepted;
      streams = own_streams k i words p.view.flat image.of lacks (omega (arith, sized, header_fits i image.sound));
    }

-- ---- binds

own_binds : (k : ℕ) (i : Img) (words : List Location) → IsSound i → CanExtract i words → HasStreams i (own_image k i words) words → all_binds (own_image k i words) ≡ all_binds i
own_binds k i words sound ready streams =
    let own = own_image k i words in
    let like = own_like k i words sound in
    let bind = binds_same i own like Bind i.streams.bind ready.read.binds in
    let lazy = binds_same i own like Lazy i.streams.lazy ready.read.lazy in
    ap₂ (λ (b c : List ℕ). binds_of Bind b own ++ binds_of Lazy c own) streams.bind streams.lazy
    ∙ ap₂ (λ (b c : List BoundWord). b ++ c) bind.1 lazy.1

pub file_binds : (p : Parts) (k : ℕ) (i : Img) (file : IsFile p k i) → all_binds (own_image k i file.words) ≡ all_binds i
file_binds p k i file = own_binds k i file.words file.sound file.ready file.streams

pub file_rebases : (p : Parts) (k : ℕ) (i : Img) (file : IsFile p k i) → rebases_of (own_image k i file.words).streams.rebase (own_image k i file.words) ≡ free_words (data_start p.view) p.view.words (images_of p.view) k i
file_rebases p k i file =
    let own = own_image k i file.words in
    ap (λ (b : List ℕ). rebases_of b own) file.streams.rebase ∙ (rebases_back i own (own_like k i file.words file.sound) file.words file.own_sound file.ready.written ∙ file.words_are)

pub is_extracted : (p : Parts) (k : ℕ) (i : Img) → IsVetted p → slice_get (images_of p.view) k ≡ Some i → (own : Img) × IsExtracted p.view k i own
is_extracted p k i vetted got =
    let file = one_file p k i vetted got in
    let own = own_image k i file.words in (
      own,
      record {
        accepted = file.accepted;
        binds = file_binds p k i file;
        exports = ap exports_of file.streams.exports;
        rebases = file_rebases p k i file;
      },
    )

-- ---- all files

alike_from : (v : View) (a : ℕ) (is : List Img) → ((k : ℕ) (i : Img) → slice_get is k ≡ Some i → IsAlike i (image_of (extract_of v (a + k)) 0))
    → AreAlike is (map (λ (file : List ℕ). image_of file 0) (map (extract_of v) (range_with_len a (length is))))
alike_from v a [] each = tt
alike_from v a (i ∷ is) each =
    let first : a + 0 ≡ a = omega arith in (
      subst (λ (n : ℕ). IsAlike i (image_of (extract_of v n) 0)) first (each 0 i refl),
      alike_from v (a + 1) is (λ k j got. let next : a + suc k ≡ a + 1 + k = omega arith in subst (λ (n : ℕ). IsAlike j (image_of (extract_of v n) 0)) next (each (suc k) j got)),
    )

one_alike : (p : Parts) (k : ℕ) (i : Img) → IsVetted p → slice_get (images_of p.view) k ≡ Some i → IsAlike i (image_of (extract_of p.view k) 0)
one_alike p k i vetted got =
    let file = one_file p k i vetted got in
    let same = (image_at-some Standalone (extract_of p.view k) 0 (own_image k i file.words) file.accepted).1 in
    subst (IsAlike i) same (own_alike k i file.words file.streams)

all_alike : (p : Parts) → IsVetted p → AreAlike (images_of p.view) (extracted_images p.view)
all_alike p vetted =
    let many : length (images_of p.view) ≡ length p.view.head.images = length-map p.view.head.images (image_in p.view.flat) in
    subst (λ (n : ℕ). AreAlike (images_of p.view) (map (λ (file : List ℕ). image_of file 0) (map (extract_of p.view) (range_with_len 0 n)))) many
    (alike_from p.view 0 (images_of p.view) (λ k i got. let first : k ≡ 0 + k = omega arith in subst (λ (n : ℕ). IsAlike i (image_of (extract_of p.view n) 0)) first (one_alike p k i vetted got)))

file_at : (v : View) (a : ℕ) (is : List Img) (k : ℕ) (i : Img) → slice_get is k ≡ Some i
    → slice_get (map (λ (file : List ℕ). image_of file 0) (map (extract_of v) (range_with_len a (length is)))) k ≡ Some (image_of (extract_of v (a + k)) 0)
file_at v a [] k i got = absurd (cc)
file_at v a (j ∷ js) zero i got = let first : a ≡ a + 0 = omega arith in ap (λ (n : ℕ). let o : Option Img = Some (image_of (extract_of v n) 0) in o) first
file_at v a (j ∷ js) (suc k) i got = let next : a + 1 + k ≡ a + suc k = omega arith in file_at v (a + 1) js k i got ∙ ap (λ (n : ℕ). let o : Option Img = Some (image_of (extract_of v n) 0) in o) next

file_past : (v : View) (a : ℕ) (is : List Img) (k : ℕ) → slice_get is k ≡ None → slice_get (map (λ (file : List ℕ). image_of file 0) (map (extract_of v) (range_with_len a (length is)))) k ≡ None
file_past v a [] k past = past
file_past v a (j ∷ js) zero past = absurd (cc)
file_past v a (j ∷ js) (suc k) past = file_past v (a + 1) js k past

many_images : (v : View) → length (images_of v) ≡ length v.head.images
many_images v = length-map v.head.images (image_in v.flat)

-- the image that the file of one has
pub file_image : (p : Parts) (k : ℕ) (i : Img) (file : IsFile p k i) → slice_get (images_of p.view) k ≡ Some i → slice_get (extracted_images p.view) k ≡ Some (own_image k i file.words)
file_image p k i file got =
    let same = (image_at-some Standalone (extract_of p.view k) 0 (own_image k i file.words) file.accepted).1 in
    let first : 0 + k ≡ k = omega arith in
    subst (λ (n : ℕ). slice_get (map (λ (f : List ℕ). image_of f 0) (map (extract_of p.view) (range_with_len 0 n))) k ≡ Some (image_of (extract_of p.view k) 0)) (many_images p.view)
    (file_at p.view 0 (images_of p.view) k i got ∙ ap (λ (n : ℕ). let o : Option Img = Some (image_of (extract_of p.view n) 0) in o) first)
    ∙ ap (λ (j : Img). let o : Option Img = Some j in o) (sym same)

-- there is none where the cache has none
pub no_file_image : (v : View) (k : ℕ) → slice_get (images_of v) k ≡ None → slice_get (extracted_images v) k ≡ None
no_file_image v k past =
    subst (λ (n : ℕ). slice_get (map (λ (file : List ℕ). image_of file 0) (map (extract_of v) (range_with_len 0 n))) k ≡ None) (many_images v) (file_past v 0 (images_of v) k past)

-- ---- no export strays

no_break : (o : Option Break) → option_map break_finding o ≡ None → o ≡ None
no_break None none = refl
no_break (Some b) none = absurd (cc)

symbols_none : (images : List Img) → link_finding images ≡ None → symbols_break (cached_set images) ≡ None
unfolding link_finding set_break
symbols_none images none =
    let sums = neither (sums_from 0 0 0 images) _ (no_break (set_break images) none) in
    let links = neither (link_break images) _ sums.1 in
    (neither (symbols_break (cached_set images)) None links.1).0

pub linked_none : (images : List Img) → link_finding images ≡ None → link_break images ≡ None
unfolding link_finding set_break
linked_none images none =
    let sums = neither (sums_from 0 0 0 images) _ (no_break (set_break images) none) in
    (neither (link_break images) _ sums.1).0

exports_none : (images : List Img) → link_finding images ≡ None → first_of (export_break (cached_set images)) (length images) ≡ None
unfolding symbols_break cached_set
exports_none images none = (neither (first_of (export_break (cached_set images)) (length images)) _ (symbols_none images none)).0

no_place : (k : ℕ) (o : Option ℕ) → option_map (in_image k) (broken ExportOutside o) ≡ None → o ≡ None
no_place k None none = refl
no_place k (Some n) none = absurd (cc)

none_behind : (b : Bool) (o : Option ℕ) → (if b then Some 0 else option_map (λ (k : ℕ). k + 1) o) ≡ None → (b ≡ false) × (o ≡ None)
none_behind true o is = absurd (cc)
none_behind false None is = (refl, refl)
none_behind false (Some n) is = absurd (cc)

none_strays : (f g : Target → Bool) (es : List Export) → ((t : Target) → f t ≡ false → g t ≡ false) → position (λ (e : Export). f e.target) es ≡ None → position (λ (e : Export). g e.target) es ≡ None
none_strays f g [] from none = refl
none_strays f g (e ∷ es) from none =
    let parts = none_behind (f e.target) (position (λ (d : Export). f d.target) es) (sym (position-cons (λ (d : Export). f d.target) e es) ∙ none) in
    position-cons (λ (d : Export). g d.target) e es
    ∙ ap₂ (λ (b : Bool) (o : Option ℕ). if b then Some 0 else option_map (λ (k : ℕ). k + 1) o) (from e.target parts.0) (none_strays f g es from parts.1)

-- where no image has a number, no export of its is there
past_exports : (images : List Img) (k : ℕ) → slice_get images k ≡ None → get_or (exports_in (map cached_lists images)) k [] ≡ []
past_exports [] k past = refl
past_exports (i ∷ is) zero past = absurd (cc)
past_exports (i ∷ is) (suc k) past = past_exports is k past

pub cached_inside : (images : List Img) → link_finding images ≡ None → HaveExportsInside (cached_set images)
unfolding export_break cached_set
cached_inside images none k = go (slice_get images k) refl
  where
    go : (o : Option Img) → slice_get images k ≡ o → export_break (cached_set images) k ≡ None
    go (Some i) got = first_each (export_break (cached_set images)) (length images) (exports_none images none) k (slice_get_within images k i got)
    go None past = ap (λ (es : List Export). option_map (in_image k) (broken ExportOutside (position (λ (e : Export). strays (segments_at images k) e.target) es))) (past_exports images k past)

lists_exports : (j : Img) → (lists_of j).exports ≡ j.streams.exports
unfolding lists_of
lists_exports j = refl

set_exports : (p : Parts) → IsVetted p → exports_in (extracted_set p.view).streams ≡ exports_in (cached_set (images_of p.view)).streams
unfolding image_set cached_set
set_exports p vetted = same_exports cached_lists lists_of (images_of p.view) (extracted_images p.view) (λ i. refl) lists_exports (all_alike p vetted)

stays_at : (p : Parts) (k : ℕ) (t : Target) → IsVetted p → strays (segments_at (images_of p.view) k) t ≡ false → strays (segments_at (extracted_images p.view) k) t ≡ false
stays_at p k t vetted = go (slice_get (images_of p.view) k) refl
  where
    go : (o : Option Img) → slice_get (images_of p.view) k ≡ o → strays (segments_at (images_of p.view) k) t ≡ false → strays (segments_at (extracted_images p.view) k) t ≡ false
    go None past stays =
        ap (λ (o : Option Img). strays (segments_in o) t) (no_file_image p.view k past) ∙ (sym (ap (λ (o : Option Img). strays (segments_in o) t) past) ∙ stays)
    go (Some i) got stays =
        let file = one_file p k i vetted got in
        ap (λ (o : Option Img). strays (segments_in o) t) (file_image p k i file got)
        ∙ (target_stays k i file.words t file.own_sound (own_alike k i file.words file.streams) (sym (ap (λ (o : Option Img). strays (segments_in o) t) got) ∙ stays))

extracted_inside : (p : Parts) → IsVetted p → HaveExportsInside (extracted_set p.view)
unfolding export_break image_set cached_set
extracted_inside p vetted k =
    let none = all_none p.view vetted.none in
    let es = get_or (exports_in (cached_set (images_of p.view)).streams) k [] in
    let before = no_place k (position (λ (e : Export). strays (segments_at (images_of p.view) k) e.target) es) (cached_inside (images_of p.view) none.links k) in
    let after = none_strays (strays (segments_at (images_of p.view) k)) (strays (segments_at (extracted_images p.view) k)) es (λ t stays. stays_at p k t vetted stays) before in
    ap (λ (l : List (List Export)). option_map (in_image k) (broken ExportOutside (position (λ (e : Export). strays (segments_at (extracted_images p.view) k) e.target) (get_or l k [])))) (set_exports p vetted)
    ∙ ap (λ (o : Option ℕ). option_map (in_image k) (broken ExportOutside o)) after

agree : (p : Parts) → IsVetted p → AgreeOnExports (extracted_set p.view) (cached_set (images_of p.view))
unfolding image_set cached_set
agree p vetted = record {
  links = same_links (images_of p.view) (extracted_images p.view) (all_alike p vetted);
  exports = set_exports p vetted;
  headers = same_headers (images_of p.view) (extracted_images p.view) (all_alike p vetted);
}

pub bodies : (p : Parts) → IsVetted p → HaveSameBodies (extracted_set p.view) (cached_set (images_of p.view))
unfolding image_set cached_set
bodies p vetted n = same_bodies (images_of p.view) (extracted_images p.view) (all_alike p vetted) n

pub resolved : (p : Parts) (k ordinal : ℕ) (name : List ℕ) → IsVetted p → resolves (extracted_set p.view) k ordinal name ≡ resolves (cached_set (images_of p.view)) k ordinal name
resolved p k ordinal name vetted =
    same_outcomes_inside (extracted_set p.view) (cached_set (images_of p.view)) (agree p vetted) (bodies p vetted) (extracted_inside p vetted) (cached_inside (images_of p.view) (all_none p.view vetted.none).links) k ordinal name

-- ---- the promise

some_there : (images : List Img) (os : List (Option Img)) (k : ℕ) (i : Img) → map Some images ≡ os → slice_get os k ≡ Some (Some i) → slice_get images k ≡ Some i
some_there images os k i same got = go (slice_get images k) (sym (slice_get-map Some images k) ∙ (ap (λ (l : List (Option Img)). slice_get l k) same ∙ got))
  where
    go : (o : Option Img) → option_map Some o ≡ Some (Some i) → o ≡ Some i
    go None is = absurd (cc)
    go (Some j) is = cc

pub extracted : (p : Parts) → IsVetted p → AreExtracted p.view
extracted p vetted =
    let found = clean p.view (all_none p.view vetted.none).images in
    record {
      each = λ k i got. is_extracted p k i vetted (some_there (images_of p.view) (cached_images p.view) k i (cached_are p.view (images_of p.view) refl found.broken) got);
      resolved = λ k ordinal name. resolved p k ordinal name vetted;
    }
