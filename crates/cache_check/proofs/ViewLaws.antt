-- What is true of the view of a cache in which nothing is found.
use Rattle.std.proofs.Common.{◌≡◌, ◌≤◌, ℕ, ◌+◌, ◌*◌, ◌%◌, List, [], ◌∷◌, ◌++◌, length, take, drop, None, sym, ap, ap₂, subst, ◌∙◌, arith, length-drop}
use Rattle.std.proofs.lemmas.List.{length-take-le, take_all}
use Rattle.std.proofs.lemmas.List.FromFn.{length-map-range_with_len}
use Rattle.slide_chain.specs.Chains.{Slide, Suits, IsRun, chain_words, chain_finding, slid_area}
use Rattle.slide_chain.specs.Info.{info_read, info_finding}
use Rattle.slide_chain.specs.declared.words.ChainWord.{ChainWord}
use Rattle.dsc_base.specs.Refusals.{first_break}
use Rattle.slide_chain.specs.Making.{AllBelow}
use Rattle.cache_header.specs.declared.head.Mapping.{Mapping}
use Rattle.cache_header.specs.Records.{Head}
use Rattle.cache_header.specs.Reading.{head_read, mappings_of, images_of, image_at, image_count}
use Rattle.cache_header.specs.Findings.{head_finding}
use Rattle.cache_header.proofs.SoundLaws.{sound_head}
use Rattle.load_model.specs.Mapped.{flat}
use Rattle.load_model.proofs.MappedLaws.{IsThree, slid_data, flat_three, length-slid_cache}
use Rattle.cache_check.specs.Shape.{data_mapping, mapping_finding, place_finding, shape_finding}
use Rattle.cache_check.specs.Views.{slide_bytes, data_bytes, view_of, flat_with, slide_finding, view_finding, offsets_of, HaveValues, IsSoundView}
use Rattle.cache_check.proofs.ShapeLaws.{AreThree, IsShaped, shaped, first_none, count_three, data_is}
use Rattle.cache_check.proofs.ReachedLaws.{chain_words-rise}
use Rattle.cache_check.proofs.SlidLaws.{length-slid, slid-values}

-- ---- the ranges that a shape tells

pub mappings_count : (size : ℕ) (head : Head) → shape_finding size head ≡ None → length head.mappings ≡ 3
mappings_count size head none = count_three size head.mappings (shaped size head none).three

pub data_inside : (size : ℕ) (head : Head) → shape_finding size head ≡ None → (data_mapping head.mappings).file + (data_mapping head.mappings).size ≤ size
data_inside size head none =
    let shape : IsShaped size head = shaped size head none in
    subst (λ (m : Mapping). m.file + m.size ≤ size) (sym (data_is size head.mappings shape.three)) (omega (arith, shape.three.long))

pub data_pages : (size : ℕ) (head : Head) → shape_finding size head ≡ None → (data_mapping head.mappings).size % 4096 ≡ 0
data_pages size head none =
    let shape : IsShaped size head = shaped size head none in
    subst (λ (m : Mapping). m.size % 4096 ≡ 0) (sym (data_is size head.mappings shape.three)) shape.three.pages

pub slide_inside : (size : ℕ) (head : Head) → shape_finding size head ≡ None → head.slide_info.at + head.slide_info.len ≤ size
slide_inside size head none = (shaped size head none).within

pub length-data : (head : Head) (cache : List ℕ) → shape_finding (length cache) head ≡ None → length (data_bytes head cache) ≡ (data_mapping head.mappings).size
length-data head cache none =
    length-take-le (data_mapping head.mappings).size (drop (data_mapping head.mappings).file cache)
    (omega (arith, data_inside (length cache) head none, length-drop (data_mapping head.mappings).file cache))

-- ---- the whole

-- the head of a cache, its data and its chains are as they should be
pub record IsReadable (cache : List ℕ) : Type 0 where
  pub head : head_finding cache ≡ None
  pub shape : shape_finding (length cache) (head_read cache) ≡ None
  pub suits : Suits (info_read (slide_bytes (head_read cache) cache)) (data_bytes (head_read cache) cache)
  pub chains : chain_finding (info_read (slide_bytes (head_read cache) cache)) (data_bytes (head_read cache) cache) ≡ None

pub three_of : (cache : List ℕ) → IsReadable cache → AreThree (length cache) (mappings_of cache)
unfolding head_read
three_of cache readable = (shaped (length cache) (head_read cache) readable.shape).three

pub data_part : (cache : List ℕ) (three : AreThree (length cache) (mappings_of cache)) → data_bytes (head_read cache) cache ≡ take three.writable (drop three.text cache)
unfolding head_read
data_part cache three = ap (λ (m : Mapping). take m.size (drop m.file cache)) (data_is (length cache) (mappings_of cache) three)

long_data : (cache : List ℕ) (slide : ℕ) (readable : IsReadable cache) (three : AreThree (length cache) (mappings_of cache)) → length (slid_data cache three.text three.writable slide) ≡ three.writable
unfolding head_read
long_data cache slide readable three =
    let info : Slide = info_read (slide_bytes (head_read cache) cache) in
    ap (λ (area : List ℕ). length (slid_area info slide area)) (sym (data_part cache three))
    ∙ (length-slid info slide (data_bytes (head_read cache) cache) readable.suits readable.chains
    ∙ (ap (λ (area : List ℕ). length area) (data_part cache three)
    ∙ length-take-le three.writable (drop three.text cache) (omega (arith, three.long, length-drop three.text cache))))

pub is_three : (cache : List ℕ) (readable : IsReadable cache) (three : AreThree (length cache) (mappings_of cache)) → IsThree cache three.text three.writable three.linkedit
is_three cache readable three = record {
  mappings = three.are;
  long = sym three.long;
  low = omega (arith, three.long, (shaped (length cache) (head_read cache) readable.shape).low);
  slid = λ slide. long_data cache slide readable three;
}

-- the bytes at slide 0, by their parts
pub flat-parts : (cache : List ℕ) → IsReadable cache → flat cache ≡ flat_with (info_read (slide_bytes (head_read cache) cache)) (head_read cache) cache
unfolding flat_with head_read
flat-parts cache readable =
    let three : AreThree (length cache) (mappings_of cache) = three_of cache readable in
    let info : Slide = info_read (slide_bytes (head_read cache) cache) in
    let rest : take three.linkedit (drop (three.text + three.writable) cache) ≡ drop (three.text + three.writable) cache =
    take_all three.linkedit (drop (three.text + three.writable) cache) (omega (arith, three.long, length-drop (three.text + three.writable) cache)) in
    flat_three cache three.text three.writable three.linkedit (is_three cache readable three)
    ∙ (ap (λ (l : List ℕ). take three.text cache ++ (slid_data cache three.text three.writable 0 ++ l)) rest
    ∙ ap (λ (m : Mapping). take m.file cache ++ (slid_area info 0 (take m.size (drop m.file cache)) ++ drop (m.file + m.size) cache)) (sym (data_is (length cache) (mappings_of cache) three)))

pub length-flat : (cache : List ℕ) → IsReadable cache → length (flat cache) ≡ length cache
length-flat cache readable =
    let three : AreThree (length cache) (mappings_of cache) = three_of cache readable in
    ap (λ (l : List ℕ). length l) (flat_three cache three.text three.writable three.linkedit (is_three cache readable three))
    ∙ (length-slid_cache cache three.text three.writable three.linkedit 0 (is_three cache readable three) ∙ three.long)

few_images : (cache : List ℕ) → head_finding cache ≡ None → length (head_read cache).images ≤ 4096
unfolding head_read images_of
few_images cache none =
    let count : length (images_of cache) ≡ image_count cache = length-map-range_with_len (image_at cache) 0 (image_count cache) in
    omega (arith, count, (sound_head cache none).few_images)

flat_values : (cache : List ℕ) → IsReadable cache
    → HaveValues (flat cache) (data_mapping (head_read cache).mappings).file (chain_words (info_read (slide_bytes (head_read cache) cache)) (data_bytes (head_read cache) cache))
unfolding flat_with
flat_values cache readable =
    let head : Head = head_read cache in
    let info : Slide = info_read (slide_bytes (head_read cache) cache) in
    let room : (data_mapping (head_read cache).mappings).file ≤ length cache = omega (arith, data_inside (length cache) (head_read cache) readable.shape) in
    subst (λ (l : List ℕ). HaveValues l (data_mapping (head_read cache).mappings).file (chain_words (info_read (slide_bytes (head_read cache) cache)) (data_bytes (head_read cache) cache))) (sym (flat-parts cache readable))
    (slid-values (info_read (slide_bytes (head_read cache) cache)) (data_bytes (head_read cache) cache) (take (data_mapping (head_read cache).mappings).file cache)
    (drop ((data_mapping (head_read cache).mappings).file + (data_mapping (head_read cache).mappings).size) cache) (data_mapping (head_read cache).mappings).file readable.suits readable.chains
    (length-take-le (data_mapping (head_read cache).mappings).file cache room))

pub sound_view : (cache : List ℕ) → IsReadable cache → IsSoundView (view_of cache)
unfolding view_of shape_finding
sound_view cache readable =
    let info : Slide = info_read (slide_bytes (head_read cache) cache) in
    let area : List ℕ = data_bytes (head_read cache) cache in
    let rise = chain_words-rise (info_read (slide_bytes (head_read cache) cache)) (data_bytes (head_read cache) cache) readable.suits readable.chains in
    record {
      few = few_images cache readable.head;
      mapped =
          ap (λ (n : ℕ). mapping_finding n (head_read cache)) (length-flat cache readable)
          ∙ (first_none (mapping_finding (length cache) (head_read cache)) (place_finding (head_read cache)) readable.shape).0;
      words = rise.0;
      inside = subst (λ (n : ℕ). AllBelow n (offsets_of (chain_words info area))) (length-data (head_read cache) cache readable.shape) rise.1;
      values = flat_values cache readable;
    }

-- information with a start for each page of the data, and a mask that is a run
pub suits_of : (info : Slide) (head : Head) (cache : List ℕ) → shape_finding (length cache) head ≡ None → length info.starts * 4096 ≡ (data_mapping head.mappings).size → IsRun info.mask → Suits info (data_bytes head cache)
suits_of info head cache none pages run = record { pages = pages ∙ sym (length-data head cache none); run = run }

-- ---- what is read in parts

-- the parts that were read of a cache
pub record AreParts (cache : List ℕ) (head : Head) (info : Slide) (words : List ChainWord) (bytes : List ℕ) : Type 0 where
  pub head_is : head ≡ head_read cache
  pub heads : head_finding cache ≡ None
  pub shape : shape_finding (length cache) head ≡ None
  pub info_is : info ≡ info_read (slide_bytes head cache)
  pub suits : Suits (info_read (slide_bytes head cache)) (data_bytes head cache)
  pub slides : slide_finding head cache ≡ None
  pub words_is : words ≡ chain_words (info_read (slide_bytes head cache)) (data_bytes head cache)
  pub bytes_is : bytes ≡ flat_with info head cache

pub chains_none : (head : Head) (cache : List ℕ) → slide_finding head cache ≡ None → chain_finding (info_read (slide_bytes head cache)) (data_bytes head cache) ≡ None
unfolding slide_finding
chains_none head cache none = (first_none (info_finding (data_mapping head.mappings).size (slide_bytes head cache)) (chain_finding (info_read (slide_bytes head cache)) (data_bytes head cache)) none).1

parts_readable : (cache : List ℕ) (head : Head) (info : Slide) (words : List ChainWord) (bytes : List ℕ) → AreParts cache head info words bytes → IsReadable cache
parts_readable cache head info words bytes parts = record {
  head = parts.heads;
  shape = subst (λ (h : Head). shape_finding (length cache) h ≡ None) parts.head_is parts.shape;
  suits = subst (λ (h : Head). Suits (info_read (slide_bytes h cache)) (data_bytes h cache)) parts.head_is parts.suits;
  chains = subst (λ (h : Head). chain_finding (info_read (slide_bytes h cache)) (data_bytes h cache) ≡ None) parts.head_is (chains_none head cache parts.slides);
}

pub parts_are : (cache : List ℕ) (head : Head) (info : Slide) (words : List ChainWord) (bytes : List ℕ) → AreParts cache head info words bytes → record { head = head; info = info; words = words; flat = bytes } ≡ view_of cache
unfolding view_of
parts_are cache head info words bytes parts =
    let info_is : info ≡ info_read (slide_bytes (head_read cache) cache) = parts.info_is ∙ ap (λ (h : Head). info_read (slide_bytes h cache)) parts.head_is in
    let words_are : words ≡ chain_words (info_read (slide_bytes (head_read cache) cache)) (data_bytes (head_read cache) cache) =
    parts.words_is ∙ ap (λ (h : Head). chain_words (info_read (slide_bytes h cache)) (data_bytes h cache)) parts.head_is in
    let bytes_are : bytes ≡ flat cache =
    parts.bytes_is ∙ (ap₂ (λ (s : Slide) (h : Head). flat_with s h cache) info_is parts.head_is ∙ sym (flat-parts cache (parts_readable cache head info words bytes parts))) in
    λ i. record { head = parts.head_is i; info = info_is i; words = words_are i; flat = bytes_are i }

pub parts_sound : (cache : List ℕ) (head : Head) (info : Slide) (words : List ChainWord) (bytes : List ℕ) → AreParts cache head info words bytes → IsSoundView (record { head = head; info = info; words = words; flat = bytes })
parts_sound cache head info words bytes parts =
    subst IsSoundView (sym (parts_are cache head info words bytes parts)) (sound_view cache (parts_readable cache head info words bytes parts))

pub nothing_found : (cache : List ℕ) (head : Head) → head ≡ head_read cache → head_finding cache ≡ None → shape_finding (length cache) head ≡ None → slide_finding head cache ≡ None → view_finding cache ≡ None
unfolding view_finding
nothing_found cache head is heads shape slides =
    let shape_none : shape_finding (length cache) (head_read cache) ≡ None = subst (λ (h : Head). shape_finding (length cache) h ≡ None) is shape in
    let slides_none : slide_finding (head_read cache) cache ≡ None = subst (λ (h : Head). slide_finding h cache ≡ None) is slides in
    λ i. first_break (heads i ∷ shape_none i ∷ slides_none i ∷ [])
