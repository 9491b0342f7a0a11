-- What the images of a cache have together, counted one by one.
use Rattle.std.proofs.Common.{◌≡◌, ◌≤◌, ◌<◌, ℕ, ◌+◌, Option, None, List, [], ◌∷◌, ◌++◌, map, take, drop, length, get_or, refl, sym, ap, ap₂, ◌∙◌, subst, arith}
use Rattle.std.specs.Prelude.{option_map}
use Rattle.std.specs.Option.{option_or}
use Rattle.std.proofs.lemmas.List.{drop_more, drop_all, take_all}
use Rattle.dsc_base.specs.declared.fault.Site.{Site}
use Rattle.dsc_base.specs.declared.fault.Break.{Break}
use Rattle.dsc_base.specs.declared.fault.Fault.{Fault}
use Rattle.dsc_base.specs.declared.fault.Fault.TheVariants.{Broken, Memory}
use Rattle.dsc_base.specs.declared.fault.SetFault.{SetFault}
use Rattle.dsc_base.specs.Limits.{set_record_limit, export_names_limit}
use Rattle.dsc_base.specs.Refusals.{in_image, in_set, IsRefusal, IsSetRefusal}
use Rattle.macho_image.specs.Records.{Img}
use Rattle.prebind.specs.Sets.{StreamLists}
use Rattle.load_model.specs.Sums.{count_in, name_bytes, sums_break}
use Rattle.cache_check.proofs.EachLaws.{grown}
use Rattle.extractor.specs.Vetting.{cached_lists, sums_from}

-- n images are counted
pub record AreCounted (images : List Img) (streams : List StreamLists) (records names n : ℕ) : Type 0 where
  pub streams_are : streams ≡ map cached_lists (take n images)
  pub few : records ≤ set_record_limit
  pub short : names ≤ export_names_limit
  pub rest : sums_from n records names (drop n images) ≡ sums_from 0 0 0 images

pub counted_start : (images : List Img) (streams : List StreamLists) → streams ≡ [] → AreCounted images streams 0 0 0
counted_start images streams none = record { streams_are = none; few = omega arith; short = omega arith; rest = refl }

-- what the images up to this one have
abbrev records_with : ℕ → Img → ℕ
records_with records i = records + count_in (cached_lists i)

abbrev names_with : ℕ → Img → ℕ
names_with names i = names + name_bytes i

-- the next image decides
step : (images : List Img) (streams : List StreamLists) (records names n : ℕ) (i : Img) → AreCounted images streams records names n → n < length images → i ≡ get_or images n i
    → option_or (option_map (in_image n) (sums_break (records_with records i) (names_with names i))) (sums_from (n + 1) (records_with records i) (names_with names i) (drop (n + 1) images)) ≡ sums_from 0 0 0 images
unfolding sums_from
step images streams records names n i read lt at =
    sym (ap (λ (is : List Img). sums_from n records names is) (drop_more images n i lt ∙ ap (λ (j : Img). j ∷ drop (n + 1) images) (sym at))) ∙ read.rest

pub counted_more : (images : List Img) (streams streams' : List StreamLists) (records names records' names' n : ℕ) (i : Img) (s : StreamLists)
    → AreCounted images streams records names n → n < length images → i ≡ get_or images n i → sums_break (records_with records i) (names_with names i) ≡ None → s ≡ cached_lists i
    → records' ≡ records_with records i → names' ≡ names_with names i → records' ≤ set_record_limit → names' ≤ export_names_limit → streams' ≡ streams ++ s ∷ []
    → AreCounted images streams' records' names' (n + 1)
counted_more images streams streams' records names records' names' n i s read lt at none s_is counted named few short streams_grown =
    record {
      streams_are = grown cached_lists images n i streams streams' s lt at read.streams_are s_is streams_grown;
      few = few;
      short = short;
      rest =
          ap₂ (λ (r m : ℕ). sums_from (n + 1) r m (drop (n + 1) images)) counted named
          ∙ (sym (ap (λ (o : Option Site). option_or {T = Break} (option_map {T = Site} {U = Break} (in_image n) o) (sums_from (n + 1) (records_with records i) (names_with names i) (drop (n + 1) images))) none)
          ∙ step images streams records names n i read lt at);
    }

pub counted_all : (images : List Img) (streams : List StreamLists) (records names n : ℕ) → AreCounted images streams records names n → length images ≤ n → streams ≡ map cached_lists images
counted_all images streams records names n read all = read.streams_are ∙ ap (λ (is : List Img). map cached_lists is) (take_all n images all)

pub counted_none : (images : List Img) (streams : List StreamLists) (records names n : ℕ) → AreCounted images streams records names n → length images ≤ n → sums_from 0 0 0 images ≡ None
unfolding sums_from
counted_none images streams records names n read all = sym read.rest ∙ ap (λ (is : List Img). sums_from n records names is) (drop_all n images all)

pub counted_refused : (images : List Img) (streams : List StreamLists) (records names n : ℕ) (i : Img) (fault : Fault) (answer : SetFault) → AreCounted images streams records names n → n < length images → i ≡ get_or images n i
    → IsRefusal (sums_break (records_with records i) (names_with names i)) fault → answer ≡ in_set n fault → IsSetRefusal (sums_from 0 0 0 images) answer
counted_refused images streams records names n i (Broken site) answer read lt at found is =
    subst (λ (a : SetFault). IsSetRefusal (sums_from 0 0 0 images) a) (sym is)
    (sym (step images streams records names n i read lt at)
    ∙ ap (λ (o : Option Site). option_or {T = Break} (option_map {T = Site} {U = Break} (in_image n) o) (sums_from (n + 1) (records_with records i) (names_with names i) (drop (n + 1) images))) found)
counted_refused images streams records names n i Memory answer read lt at found is = subst (λ (a : SetFault). IsSetRefusal (sums_from 0 0 0 images) a) (sym is) tt
