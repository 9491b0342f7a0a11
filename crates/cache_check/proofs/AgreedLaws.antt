-- What it says that a cache agrees with files: nothing is found, and nothing differs.
use Rattle.std.proofs.Common.{◌≡◌, ◌<◌, ℕ, ◌+◌, Bool, true, false, Option, Some, None, List, [], ◌∷◌, length, refl, sym, ap, ap₂, ◌∙◌, if◌then◌else◌, inl, inr}
use Rattle.std.specs.Prelude.{slice_get, option_map}
use Rattle.std.specs.List.{fold}
use Rattle.std.specs.Option.{option_or, option_and_then}
use Rattle.std.specs.Cmp.Lexicographic.{same_text}
use Rattle.std.proofs.lemmas.Option.{slice_get_within}
use Rattle.dsc_base.specs.declared.fault.Finding.{Finding}
use Rattle.macho_image.specs.Records.{Img}
use Rattle.macho_image.specs.Rules.{same_bytes}
use Rattle.prebind.specs.declared.resolved.PlacedWord.{PlacedWord}
use Rattle.prebind.specs.Sets.{ImageSet, image_set}
use Rattle.prebind.specs.Numbers.{Starts}
use Rattle.prebind.specs.Words.{Word, ordered_pointers}
use Rattle.load_model.specs.Corresponds.{shape_of}
use Rattle.load_model.specs.Phases.{images_of as file_images}
use Rattle.load_model.proofs.WordCases.{IsIn, in_cases, in_none}
use Rattle.cache_header.specs.Records.{Entry}
use Rattle.cache_check.specs.declared.mismatch.Mismatch.{Mismatch}
use Rattle.cache_check.specs.declared.verdict.Difference.{Difference}
use Rattle.cache_check.specs.declared.verdict.Difference.TheVariants.{Path}
use Rattle.cache_check.specs.declared.verdict.Verdict.TheVariants.{Agrees}
use Rattle.cache_check.specs.Bytes.{Chains, Pair, is_before, earlier, earliest, word_mismatch, pair_of, stray_in, byte_mismatch, in_section, in_sections, words_by_address, first_mismatch, bytes_of, bytes_difference}
use Rattle.cache_check.specs.Differences.{count_difference, path_of, path_difference, shape_difference, cached_starts, exports_difference}
use Rattle.cache_check.specs.Firsts.{first_below}
use Rattle.cache_check.specs.Images.{images_of, images_finding}
use Rattle.cache_check.specs.Verdict.{chains_of, pair_difference, image_difference, difference_by, difference_of, finding_of, verdict_by, verdict_of}
use Rattle.cache_check.specs.Views.{View, view_of, view_finding}
use Rattle.cache_check.proofs.CachedLaws.{neither}
use Rattle.cache_check.proofs.FirstLaws.{none_each}
use Rattle.cache_check.proofs.VerdictLaws.{same_count}

-- ---- one place of several

earlier_none : (a b : Option Mismatch) → earlier a b ≡ None → (a ≡ None) × (b ≡ None)
earlier_none None b none = (refl, none)
earlier_none (Some a) None none = absurd (cc)
earlier_none (Some a) (Some b) none = either (is_before b a) none
  where
    either : (c : Bool) → (if c then Some b else Some a) ≡ None → ((let x : Option Mismatch = Some a in x) ≡ None) × ((let y : Option Mismatch = Some b in y) ≡ None)
    either true none = absurd (cc)
    either false none = absurd (cc)

-- the earliest of some that begins with one that is there is there
none_from : (differs : Word → Option Mismatch) (best : Option Mismatch) (words : List Word) → fold (λ (b : Option Mismatch) (w : Word). earlier b (differs w)) best words ≡ None → (best ≡ None) × ((w : Word) → IsIn words w → differs w ≡ None)
none_from differs best [] none = (none, λ w there. absurd (in_none w there))
none_from differs best (v ∷ vs) none =
    let later = none_from differs (earlier best (differs v)) vs none in
    let both = earlier_none best (differs v) later.0 in (
      both.0,
      λ w there. elim (in_cases v vs w there) [
        | inl is ↦ ap differs (sym is) ∙ both.1
        | inr rest ↦ later.1 w rest
      ],
    )

none_earliest : (differs : Word → Option Mismatch) (words : List Word) → earliest differs words ≡ None → (w : Word) → IsIn words w → differs w ≡ None
none_earliest differs words none = (none_from differs None words none).1

no_more : {X Y : Type 0} (f : X → Y) (o : Option X) → option_map f o ≡ None → o ≡ None
no_more f None none = refl
no_more f (Some x) none = absurd (cc)

in_one : (differs : ℕ → Pair → Option Mismatch) (file cached : Img) (j : ℕ) (p : Pair) → in_sections differs file cached ≡ None → j < length file.sections → pair_of file cached (j + 1) ≡ Some p → differs (j + 1) p ≡ None
unfolding in_section
in_one differs file cached j p none lt pair =
    sym (ap (λ (o : Option Pair). option_and_then (differs (j + 1)) o) pair) ∙ none_each (in_section differs file cached) (length file.sections) j none lt

-- ---- one image

pub record IsAgreed (cache : List ℕ) (set : ImageSet) (k : ℕ) (file image : Img) : Type 0 where
  pub shape : shape_difference k (shape_of image) (shape_of file) ≡ None
  pub words : (w : Word) → IsIn (words_by_address set k file) w → word_mismatch (chains_of (view_of cache)) (cached_starts (images_of (view_of cache))) file image w ≡ None
  pub strays : (j : ℕ) (p : Pair) → j < length file.sections → pair_of file image (j + 1) ≡ Some p → stray_in (chains_of (view_of cache)) (ordered_pointers set k) (j + 1) p ≡ None
  pub others : (j : ℕ) (p : Pair) → j < length file.sections → pair_of file image (j + 1) ≡ Some p → byte_mismatch (words_by_address set k file) (j + 1) p ≡ None
  pub exports : exports_difference k file image ≡ None

agreed_image : (cache : List ℕ) (set : ImageSet) (k : ℕ) (file image : Img) → slice_get set.images k ≡ Some file → slice_get (images_of (view_of cache)) k ≡ Some image
    → image_difference (chains_of (view_of cache)) (images_of (view_of cache)) set k ≡ None → IsAgreed cache set k file image
unfolding image_difference bytes_difference first_mismatch
agreed_image cache set k file image got found none =
    let chains : Chains = chains_of (view_of cache) in
    let cached : List Img = images_of (view_of cache) in
    let starts : Starts = cached_starts (images_of (view_of cache)) in
    let words : List Word = words_by_address set k file in
    let pointers : List PlacedWord = ordered_pointers set k in
    let whole : pair_difference chains cached set k (Some file) (Some image) ≡ None = sym (ap₂ (λ (a b : Option Img). pair_difference (chains_of (view_of cache)) (images_of (view_of cache)) set k a b) got found) ∙ none in
    let one = neither (shape_difference k (shape_of image) (shape_of file)) _ whole in
    let two = neither (bytes_difference chains starts set k file image) _ one.1 in
    let three = neither (exports_difference k file image) None two.1 in
    let places = no_more (bytes_of k) (first_mismatch chains starts pointers words file image) two.0 in
    let front = earlier_none (earlier (earliest (word_mismatch chains starts file image) words) (in_sections (stray_in chains pointers) file image)) (in_sections (byte_mismatch words) file image) places in
    let first = earlier_none (earliest (word_mismatch chains starts file image) words) (in_sections (stray_in chains pointers) file image) front.0 in
    record {
      shape = one.0;
      words = none_earliest (word_mismatch chains starts file image) words first.0;
      strays = λ j p lt pair. in_one (stray_in chains pointers) file image j p first.1 lt pair;
      others = λ j p lt pair. in_one (byte_mismatch words) file image j p front.1 lt pair;
      exports = three.0;
    }

-- ---- all of them

same_path : (k : ℕ) (e : Entry) (file : Img) → path_of k (Some e) (Some file) ≡ None → e.path ≡ file.install_name
same_path k e file none = same_text e.path file.install_name (sym (at (same_bytes e.path file.install_name) none))
  where
    at : (b : Bool) → (if b then None else Some (Path k e.path file.install_name)) ≡ None → b ≡ true
    at true none = refl
    at false none = absurd (cc)

path_at : (entries : List Entry) (files : List Img) (k : ℕ) (e : Entry) (file : Img) → path_difference entries files k ≡ None → slice_get entries k ≡ Some e → slice_get files k ≡ Some file → e.path ≡ file.install_name
unfolding path_difference
path_at entries files k e file none first second = same_path k e file (sym (ap₂ (λ (a : Option Entry) (b : Option Img). path_of k a b) first second) ∙ none)

-- a cache that agrees with a set
pub record AreAgreed (cache : List ℕ) (set : ImageSet) : Type 0 where
  pub count : length (view_of cache).head.images ≡ length set.images
  pub paths : (k : ℕ) (e : Entry) (file : Img) → slice_get (view_of cache).head.images k ≡ Some e → slice_get set.images k ≡ Some file → e.path ≡ file.install_name
  pub images : (k : ℕ) (file image : Img) → slice_get set.images k ≡ Some file → slice_get (images_of (view_of cache)) k ≡ Some image → IsAgreed cache set k file image

agreed_by : (cache : List ℕ) (set : ImageSet) → difference_of (view_of cache) set ≡ None → AreAgreed cache set
unfolding difference_by
agreed_by cache set none =
    let v : View = view_of cache in
    let one = neither (count_difference (length v.head.images) (length set.images)) _ none in
    let two = neither (first_below (path_difference v.head.images set.images) (length set.images)) _ one.1 in
    let three = neither (first_below (image_difference (chains_of v) (images_of v) set) (length set.images)) None two.1 in
    record {
      count = same_count (length v.head.images) (length set.images) one.0;
      paths = λ k e file first second. path_at v.head.images set.images k e file (none_each (path_difference v.head.images set.images) (length set.images) k two.0 (slice_get_within set.images k file second)) first second;
      images = λ k file image got found.
          agreed_image cache set k file image got found (none_each (image_difference (chains_of v) (images_of v) set) (length set.images) k three.0 (slice_get_within set.images k file got));
    }

by_verdict : (f : Option Finding) (d : Option Difference) → verdict_by f d ≡ Agrees → (f ≡ None) × (d ≡ None)
by_verdict None None is = (refl, refl)
by_verdict None (Some d) is = absurd (cc)
by_verdict (Some f) d is = absurd (cc)

pub record Agreement (cache : List ℕ) (files : List (List ℕ)) : Type 0 where
  pub read : view_finding cache ≡ None
  pub images : images_finding (view_of cache) ≡ None
  pub agreed : AreAgreed cache (image_set (file_images files))

pub agreement : (cache : List ℕ) (files : List (List ℕ)) → verdict_of cache files ≡ Agrees → Agreement cache files
unfolding verdict_of finding_of
agreement cache files is =
    let two = by_verdict (option_or (view_finding cache) (images_finding (view_of cache))) (difference_of (view_of cache) (image_set (file_images files))) is in
    let found = neither (view_finding cache) (images_finding (view_of cache)) two.0 in
    record { read = found.0; images = found.1; agreed = agreed_by cache (image_set (file_images files)) two.1 }
