-- What comes of comparing, by its parts.
use Rattle.std.proofs.Common.{◌≡◌, ℕ, Bool, true, false, nat_eq, Option, Some, None, List, [], ◌∷◌, length, refl, sym, ap, ap₂, ◌∙◌, if◌then◌else◌}
use Rattle.std.specs.Option.{option_or}
use Rattle.std.proofs.lemmas.Bool.{eqb-true}
use Rattle.dsc_base.specs.declared.fault.Finding.{Finding}
use Rattle.dsc_base.specs.Refusals.{first_break}
use Rattle.macho_image.specs.Records.{Img}
use Rattle.prebind.specs.Sets.{ImageSet, image_set}
use Rattle.load_model.specs.declared.set.FileSet.{FileSet}
use Rattle.cache_header.specs.Records.{Entry}
use Rattle.cache_check.specs.declared.verdict.Difference.{Difference}
use Rattle.cache_check.specs.declared.verdict.Difference.TheVariants.{Images}
use Rattle.cache_check.specs.declared.verdict.Verdict.TheVariants.{Agrees, Differs}
use Rattle.cache_check.specs.Bytes.{Chains}
use Rattle.cache_check.specs.Differences.{count_difference, path_difference}
use Rattle.cache_check.specs.Firsts.{first_below}
use Rattle.cache_check.specs.Steps.Files.{AreRead, file_set}
use Rattle.cache_check.specs.Verdict.{chains_of, image_difference, difference_by, difference_of, verdict_by}
use Rattle.cache_check.specs.Images.{images_of}
use Rattle.cache_check.specs.Views.{View}

pub same_count : (found wanted : ℕ) → count_difference found wanted ≡ None → found ≡ wanted
unfolding count_difference
same_count found wanted none = eqb-true found wanted (at (nat_eq found wanted) none)
  where
    at : (b : Bool) → (if b then None else Some (Images found wanted)) ≡ None → b ≡ true
    at true none = refl
    at false none = absurd (cc)

or_none : {X : Type 0} (o : Option X) → option_or o None ≡ o
or_none None = refl
or_none (Some x) = refl

module _ (entries : List Entry) (chains : Chains) (cached : List Img) (set : ImageSet) (count paths images : Option Difference) where
  pub by_count : (d : Difference) → count ≡ count_difference (length entries) (length set.images) → count ≡ Some d → Some d ≡ difference_by entries chains cached set
  unfolding difference_by
  by_count d count_is is =
      sym (ap (λ (o : Option Difference). option_or o (first_break (first_below (path_difference entries set.images) (length set.images) ∷ first_below (image_difference chains cached set) (length set.images) ∷ []))) (sym count_is ∙ is))

  pub by_path : (d : Difference) → count ≡ count_difference (length entries) (length set.images) → count ≡ None → paths ≡ first_below (path_difference entries set.images) (length set.images) → paths ≡ Some d
      → Some d ≡ difference_by entries chains cached set
  unfolding difference_by
  by_path d count_is none paths_are is =
      sym (ap₂ (λ (a b : Option Difference). option_or a (option_or b (first_break (first_below (image_difference chains cached set) (length set.images) ∷ [])))) (sym count_is ∙ none) (sym paths_are ∙ is))

  pub by_images : count ≡ count_difference (length entries) (length set.images) → count ≡ None → paths ≡ first_below (path_difference entries set.images) (length set.images) → paths ≡ None
      → images ≡ first_below (image_difference chains cached set) (length set.images) → images ≡ difference_by entries chains cached set
  unfolding difference_by
  by_images count_is none paths_are no_path images_are =
      images_are
      ∙ (sym (or_none (first_below (image_difference chains cached set) (length set.images)))
      ∙ sym (ap₂ (λ (a b : Option Difference). option_or a (option_or b (option_or (first_below (image_difference chains cached set) (length set.images)) None))) (sym count_is ∙ none) (sym paths_are ∙ no_path)))

-- ---- files

pub set_is : (f : FileSet) → AreRead f → file_set f ≡ image_set f.images.items
unfolding image_set
set_is f read = ap₂ (λ s l. record { images = f.images.items; streams = s; links = l }) read.streams read.links

-- ---- a view

pub difference_is : (v : View) (entries : List Entry) (chains : Chains) (cached : List Img) (set other : ImageSet) (o : Option Difference) → entries ≡ v.head.images → chains ≡ chains_of v → cached ≡ images_of v → set ≡ other
    → o ≡ difference_by entries chains cached set → o ≡ difference_of v other
difference_is v entries chains cached set other o entries_are chains_are cached_are set_is is =
    is ∙ (ap₂ (λ (e : List Entry) (c : Chains). difference_by e c cached set) entries_are chains_are ∙ ap₂ (λ (i : List Img) (s : ImageSet). difference_by v.head.images (chains_of v) i s) cached_are set_is)

pub differs_by : (finding : Option Finding) (difference o : Option Difference) (d : Difference) → finding ≡ None → o ≡ difference → o ≡ Some d → Differs d ≡ verdict_by finding difference
differs_by finding difference o d none is found = sym (ap₂ (λ (f : Option Finding) (e : Option Difference). verdict_by f e) none (sym is ∙ found))

pub agrees_by : (finding : Option Finding) (difference o : Option Difference) → finding ≡ None → o ≡ difference → o ≡ None → Agrees ≡ verdict_by finding difference
agrees_by finding difference o none is found = sym (ap₂ (λ (f : Option Finding) (e : Option Difference). verdict_by f e) none (sym is ∙ found))
