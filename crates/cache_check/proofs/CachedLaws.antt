-- The images of a view in which nothing is found.
use Rattle.std.proofs.Common.{◌≡◌, ℕ, ◌+◌, Option, Some, None, List, [], ◌∷◌, map, refl, sym, ap, ap₂, ◌∙◌}
use Rattle.std.specs.List.{range_with_len}
use Rattle.std.specs.Option.{option_or}
use Rattle.dsc_base.specs.declared.fault.Site.{Site}
use Rattle.dsc_base.specs.declared.finding_kind.FindingKind.{FindingKind}
use Rattle.dsc_base.specs.declared.finding_kind.FindingKind.TheVariants.{ImageBroken}
use Rattle.macho_image.specs.Records.{Img}
use Rattle.macho_image.specs.declared.form.Form.TheVariants.{Cached}
use Rattle.macho_image.specs.Breaks.{image_break, image_at, image_unless}
use Rattle.cache_header.specs.Records.{Entry}
use Rattle.cache_header.specs.Reading.{head_read, image_count, image_at as entry_at, images_of as entries_of}
use Rattle.load_model.specs.Mapped.{flat, cached_image}
use Rattle.cache_check.specs.Views.{View, view_of}
use Rattle.cache_check.specs.Images.{header_place, image_in, images_of, cached_images, each_of, rule_finding, broken_finding}

pub neither : {X : Type 0} (a b : Option X) → option_or a b ≡ None → (a ≡ None) × (b ≡ None)
neither None b none = (refl, none)
neither (Some x) b none = absurd (cc)

pub no_rule : (kind : FindingKind) (k : ℕ) (o : Option Site) → rule_finding kind k o ≡ None → o ≡ None
no_rule kind k None none = refl
no_rule kind k (Some s) none = absurd (cc)

unbroken : (bytes : List ℕ) (k : ℕ) (e : Entry) → broken_finding bytes k e ≡ None → Some (image_in bytes e) ≡ image_at Cached bytes (header_place e)
unfolding broken_finding
unbroken bytes k e none = sym (ap (λ (o : Option Site). image_unless o (image_in bytes e)) (no_rule ImageBroken k (image_break Cached bytes (header_place e)) none))

all_unbroken : (bytes : List ℕ) (k : ℕ) (entries : List Entry) → each_of (broken_finding bytes) k entries ≡ None
    → map Some (map (image_in bytes) entries) ≡ map (λ (e : Entry). image_at Cached bytes (header_place e)) entries
unfolding each_of
all_unbroken bytes k [] none = refl
all_unbroken bytes k (e ∷ es) none =
    let parts = neither (broken_finding bytes k e) (each_of (broken_finding bytes) (k + 1) es) none in
    ap₂ (λ (o : Option Img) (os : List (Option Img)). o ∷ os) (unbroken bytes k e parts.0) (all_unbroken bytes (k + 1) es parts.1)

pub cached_are : (v : View) (images : List Img) → images ≡ images_of v → each_of (broken_finding v.flat) 0 v.head.images ≡ None → map Some images ≡ cached_images v
cached_are v images are none = ap (λ (is : List Img). map Some is) are ∙ all_unbroken v.flat 0 v.head.images none

-- the same by the parts of a view
pub parts_cached : (v : View) (images : List Img) (bytes : List ℕ) (entries : List Entry) → bytes ≡ v.flat → entries ≡ v.head.images → images ≡ map (image_in bytes) entries → each_of (broken_finding bytes) 0 entries ≡ None
    → map Some images ≡ cached_images v
parts_cached v images bytes entries bytes_are entries_are are none =
    cached_are v images (are ∙ ap₂ (λ (b : List ℕ) (es : List Entry). map (image_in b) es) bytes_are entries_are)
    (sym (ap₂ (λ (b : List ℕ) (es : List Entry). each_of (broken_finding b) 0 es) bytes_are entries_are) ∙ none)

-- ---- the images of a mapped cache

each_cached : (cache : List ℕ) (ks : List ℕ) → map (λ (e : Entry). image_at Cached (flat cache) (header_place e)) (map (entry_at cache) ks) ≡ map (cached_image cache) ks
unfolding entry_at cached_image
each_cached cache [] = refl
each_cached cache (k ∷ ks) = ap (λ (os : List (Option Img)). cached_image cache k ∷ os) (each_cached cache ks)

pub view_images : (cache : List ℕ) → cached_images (view_of cache) ≡ map (cached_image cache) (range_with_len 0 (image_count cache))
unfolding view_of head_read entries_of
view_images cache = each_cached cache (range_with_len 0 (image_count cache))
