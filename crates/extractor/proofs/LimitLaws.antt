-- Images whose linkedit would be too large in a file of its own.
use Rattle.std.proofs.Common.{◌≡◌, ◌≤◌, ◌<◌, ℕ, Bool, Option, Some, None, List, length, get_or, Vec, Global, refl, sym, ap, ◌∙◌, arith, if◌then◌else◌}
use Rattle.std.specs.Prelude.{slice_get}
use Rattle.std.proofs.lemmas.Bool.{lt-ltb, le-ltb}
use Rattle.std.proofs.lemmas.Option.{slice_get_read}
use Rattle.dsc_base.specs.declared.finding_kind.FindingKind.TheVariants.{ExtractTooLarge}
use Rattle.macho_image.specs.Records.{Img}
use Rattle.macho_image.specs.declared.place.Location.{Location}
use Rattle.slide_chain.specs.declared.words.ChainWord.{ChainWord}
use Rattle.cache_header.specs.Findings.{finding}
use Rattle.cache_header.specs.Records.{Entry}
use Rattle.cache_check.specs.Images.{header_place}
use Rattle.extractor.specs.ExtractOf.{linkedit_of, linkedit_limit, size_in, free_words}
use Rattle.extractor.specs.Free.{AreFree, lists}
use Rattle.extractor.specs.Vetting.{large_finding}
use Rattle.extractor.proofs.FreeLaws.{lists_at}

-- the words of image k that were gathered
pub own_words : (start : ℕ) (words : List ChainWord) (images : List Img) (free : List (Vec Location Global)) (k : ℕ) (i : Img) (own : Vec Location Global) → AreFree start words images (lists free) → k < length images → k < length free
    → i ≡ get_or images k i → own ≡ get_or free k own → own.items ≡ free_words start words images k i
own_words start words images free k i own are lt within image_is own_is =
    ap (λ (v : Vec Location Global). v.items) own_is ∙ (sym (lists_at free k own within) ∙ are.each k i (slice_get_read images (length images) k i refl lt image_is))

-- how large its linkedit is
size_is : (start : ℕ) (words : List ChainWord) (images : List Img) (k : ℕ) (i : Img) (own : List Location) → k < length images → i ≡ get_or images k i → own ≡ free_words start words images k i
    → size_in start words images k (slice_get images k) ≡ length (linkedit_of i own)
size_is start words images k i own lt image_is own_is =
    ap (λ (o : Option Img). size_in start words images k o) (slice_get_read images (length images) k i refl lt image_is) ∙ ap (λ (l : List Location). length (linkedit_of i l)) (sym own_is)

pub large : (start : ℕ) (words : List ChainWord) (images : List Img) (k : ℕ) (i : Img) (own : List Location) (e : Entry) → k < length images → i ≡ get_or images k i → own ≡ free_words start words images k i
    → linkedit_limit < length (linkedit_of i own) → large_finding start words images k e ≡ Some (finding ExtractTooLarge k (header_place e))
unfolding large_finding
large start words images k i own e lt image_is own_is over =
    let size = size_is start words images k i own lt image_is own_is in
    ap (λ (b : Bool). if b then Some (finding ExtractTooLarge k (header_place e)) else None) (lt-ltb linkedit_limit (size_in start words images k (slice_get images k)) (omega (arith, size, over)))

pub small : (start : ℕ) (words : List ChainWord) (images : List Img) (k : ℕ) (i : Img) (own : List Location) (e : Entry) → k < length images → i ≡ get_or images k i → own ≡ free_words start words images k i
    → length (linkedit_of i own) ≤ linkedit_limit → large_finding start words images k e ≡ None
unfolding large_finding
small start words images k i own e lt image_is own_is within =
    let size = size_is start words images k i own lt image_is own_is in
    ap (λ (b : Bool). if b then Some (finding ExtractTooLarge k (header_place e)) else None) (le-ltb linkedit_limit (size_in start words images k (slice_get images k)) (omega (arith, size, within)))
