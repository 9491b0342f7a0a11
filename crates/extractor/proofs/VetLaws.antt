-- A cache that is vetted: which finding comes first, and what is true where there is none.
use Rattle.std.proofs.Common.{◌≡◌, ◌≤◌, ℕ, Option, None, List, length, refl, sym, ap, ap₂, ◌∙◌, subst, arith}
use Rattle.std.specs.Option.{option_or}
use Rattle.dsc_base.specs.Refusals.{IsViewRefusal}
use Rattle.dsc_base.specs.declared.fault.Finding.{Finding}
use Rattle.dsc_base.specs.declared.fault.ViewFault.{ViewFault}
use Rattle.dsc_base.specs.declared.fault.ViewFault.TheVariants.{Broken, Memory}
use Rattle.macho_image.specs.Records.{Img}
use Rattle.macho_image.specs.declared.place.Location.{Location}
use Rattle.rebase_ops.specs.Writing.{CanBeWritten}
use Rattle.slide_chain.specs.declared.words.ChainWord.{ChainWord}
use Rattle.cache_header.specs.Records.{Entry}
use Rattle.std.proofs.lemmas.List.{length-map}
use Rattle.cache_check.specs.Images.{image_in, images_of, images_finding, each_of}
use Rattle.cache_check.specs.Views.{View, IsSoundView}
use Rattle.extractor.specs.ExtractOf.{free_words}
use Rattle.extractor.specs.Free.{AreFree, AllWritable}
use Rattle.extractor.specs.Placing.{data_start}
use Rattle.extractor.specs.Reading.{AreRead}
use Rattle.extractor.specs.Vetting.{cached_set, link_finding, chain_finding, words_finding, large_finding, size_finding, vet_finding}
use Rattle.extractor.proofs.PlaceLaws.{addresses}
use Rattle.extractor.proofs.ReadLaws.{neither, images_read}
use Rattle.extractor.proofs.WritableLaws.{can_be_written}

-- the parts of a view as they are held
pub record AreHeld (v : View) (images : List Img) (start : ℕ) (words : List ChainWord) : Type 0 where
  pub images_are : images ≡ images_of v
  pub start_is : start ≡ data_start v
  pub words_are : words ≡ v.words

-- what is tried behind the images, by these parts
rest_of : List Img → ℕ → List ChainWord → Option Finding → Option Finding
rest_of images start words sizes = option_or (link_finding images) (option_or (words_finding start words (cached_set images)) (option_or sizes None))

after_images : (v : View) (images : List Img) (start : ℕ) (words : List ChainWord) → AreHeld v images start words → images_finding v ≡ None → vet_finding v ≡ rest_of images start words (size_finding v)
unfolding vet_finding rest_of
after_images v images start words held none =
    ap (λ (o : Option Finding). option_or o (option_or (link_finding (images_of v)) (option_or (words_finding (data_start v) v.words (cached_set (images_of v))) (option_or (size_finding v) None)))) none
    ∙ (ap (λ (is : List Img). rest_of is (data_start v) v.words (size_finding v)) (sym held.images_are)
    ∙ ap₂ (λ (s : ℕ) (ws : List ChainWord). rest_of images s ws (size_finding v)) (sym held.start_is) (sym held.words_are))

pub images_refused : (v : View) (fault : ViewFault) → IsViewRefusal (images_finding v) fault → IsViewRefusal (vet_finding v) fault
unfolding vet_finding
images_refused v (Broken f) found =
    ap (λ (o : Option Finding). option_or o (option_or (link_finding (images_of v)) (option_or (words_finding (data_start v) v.words (cached_set (images_of v))) (option_or (size_finding v) None)))) found
images_refused v Memory found = tt

pub link_refused : (v : View) (images : List Img) (fault : ViewFault) → images ≡ images_of v → images_finding v ≡ None → IsViewRefusal (link_finding images) fault → IsViewRefusal (vet_finding v) fault
unfolding rest_of
link_refused v images (Broken f) are none found =
    after_images v images (data_start v) v.words (record { images_are = are; start_is = refl; words_are = refl }) none
    ∙ ap (λ (o : Option Finding). option_or o (option_or (words_finding (data_start v) v.words (cached_set images)) (option_or (size_finding v) None))) found
link_refused v images Memory are none found = tt

after_link : (v : View) (images : List Img) (start : ℕ) (words : List ChainWord) → AreHeld v images start words → images_finding v ≡ None → link_finding images ≡ None
    → vet_finding v ≡ option_or (words_finding start words (cached_set images)) (option_or (size_finding v) None)
unfolding rest_of
after_link v images start words held none linked =
    after_images v images start words held none ∙ ap (λ (o : Option Finding). option_or o (option_or (words_finding start words (cached_set images)) (option_or (size_finding v) None))) linked

pub words_refused : (v : View) (images : List Img) (start : ℕ) (words : List ChainWord) (fault : ViewFault) → AreHeld v images start words → images_finding v ≡ None → link_finding images ≡ None
    → IsViewRefusal (words_finding start words (cached_set images)) fault → IsViewRefusal (vet_finding v) fault
words_refused v images start words (Broken f) held none linked found =
    after_link v images start words held none linked ∙ ap (λ (o : Option Finding). option_or o (option_or (size_finding v) None)) found
words_refused v images start words Memory held none linked found = tt

-- sizes by the parts
sizes_are : (v : View) (images : List Img) (start : ℕ) (words : List ChainWord) (entries : List Entry) → AreHeld v images start words → entries ≡ v.head.images → each_of (large_finding start words images) 0 entries ≡ size_finding v
unfolding size_finding
sizes_are v images start words entries held same =
    ap₂ (λ (is : List Img) (es : List Entry). each_of (large_finding start words is) 0 es) held.images_are same
    ∙ ap₂ (λ (s : ℕ) (ws : List ChainWord). each_of (large_finding s ws (images_of v)) 0 v.head.images) held.start_is held.words_are

after_words : (v : View) (images : List Img) (start : ℕ) (words : List ChainWord) → AreHeld v images start words → images_finding v ≡ None → link_finding images ≡ None → words_finding start words (cached_set images) ≡ None
    → vet_finding v ≡ option_or (size_finding v) None
after_words v images start words held none linked placed =
    after_link v images start words held none linked ∙ ap (λ (o : Option Finding). option_or o (option_or (size_finding v) None)) placed

pub sizes_refused : (v : View) (images : List Img) (start : ℕ) (words : List ChainWord) (entries : List Entry) (fault : ViewFault) → AreHeld v images start words → entries ≡ v.head.images → images_finding v ≡ None → link_finding images ≡ None
    → words_finding start words (cached_set images) ≡ None → IsViewRefusal (each_of (large_finding start words images) 0 entries) fault → IsViewRefusal (vet_finding v) fault
sizes_refused v images start words entries (Broken f) held same none linked placed found =
    after_words v images start words held none linked placed ∙ ap (λ (o : Option Finding). option_or o None) (sym (sizes_are v images start words entries held same) ∙ found)
sizes_refused v images start words entries Memory held same none linked placed found = tt

pub vet_none : (v : View) (images : List Img) (start : ℕ) (words : List ChainWord) (entries : List Entry) → AreHeld v images start words → entries ≡ v.head.images → images_finding v ≡ None → link_finding images ≡ None
    → words_finding start words (cached_set images) ≡ None → each_of (large_finding start words images) 0 entries ≡ None → vet_finding v ≡ None
vet_none v images start words entries held same none linked placed small =
    after_words v images start words held none linked placed ∙ ap (λ (o : Option Finding). option_or o None) (sym (sizes_are v images start words entries held same) ∙ small)

-- ---- what is true of the parts

pub read_images : (v : View) (images : List Img) → images ≡ images_of v → images_finding v ≡ None → AreRead images
read_images v images are none = subst AreRead (sym are) (images_read v none)

chain_none : (start : ℕ) (words : List ChainWord) (images : List Img) → words_finding start words (cached_set images) ≡ None → chain_finding start words (cached_set images) ≡ None
unfolding words_finding
chain_none start words images none = (neither (chain_finding start words (cached_set images)) _ none).0

pub all_writable : (v : View) (images : List Img) (start : ℕ) (words : List ChainWord) (free : List (List Location)) → IsSoundView v → AreHeld v images start words → words_finding start words (cached_set images) ≡ None → AreFree start words images free
    → AllWritable images free
all_writable v images start words free sound held none are k i got =
    subst (λ (ls : List Location). CanBeWritten i ls) (sym (are.each k i got))
    (subst (λ (ws : List ChainWord). CanBeWritten i (free_words start ws images k i)) (sym held.words_are)
    (subst (λ (s : ℕ). CanBeWritten i (free_words s v.words images k i)) (sym held.start_is)
    (can_be_written (data_start v) v.words images k i got sound.words (addresses v sound)
    (sym (ap₂ (λ (s : ℕ) (ws : List ChainWord). chain_finding s ws (cached_set images)) held.start_is held.words_are) ∙ chain_none start words images none))))

pub few_images : (v : View) (images : List Img) → IsSoundView v → images ≡ images_of v → length images ≤ 4096
few_images v images sound are =
    let long : length images ≡ length v.head.images = ap (λ (is : List Img). length is) are ∙ length-map v.head.images (image_in v.flat) in
    omega (arith, long, sound.few)
