-- The linkedits of images, read one by one.
use Rattle.std.proofs.Common.{◌≡◌, ◌≤◌, ◌<◌, ℕ, zero, suc, ◌+◌, Option, Some, None, List, [], ◌∷◌, ◌++◌, map, take, drop, length, get_or, refl, sym, ap, ap₂, ◌∙◌, subst}
use Rattle.std.specs.Prelude.{option_map, slice_get}
use Rattle.std.specs.Option.{option_or}
use Rattle.std.proofs.lemmas.List.{drop_more, drop_all}
use Rattle.dsc_base.specs.declared.fault.Site.{Site}
use Rattle.dsc_base.specs.declared.fault.Break.{Break}
use Rattle.dsc_base.specs.declared.fault.Fault.{Fault}
use Rattle.dsc_base.specs.declared.fault.Fault.TheVariants.{Broken, Memory}
use Rattle.dsc_base.specs.declared.fault.SetFault.{SetFault}
use Rattle.dsc_base.specs.Limits.{set_record_limit, export_names_limit}
use Rattle.dsc_base.specs.Refusals.{in_image, in_set, IsRefusal, IsSetRefusal}
use Rattle.macho_image.specs.Records.{Img}
use Rattle.macho_image.specs.TableRules.{table_break}
use Rattle.nlist_table.specs.Symbols.{Tabs, tables_of}
use Rattle.prebind.specs.Sets.{StreamLists, lists_of, streams_break}
use Rattle.prebind.proofs.ListLaws.{mapped_more}
use Rattle.prebind.proofs.SetLaws.{HaveStreams}
use Rattle.load_model.specs.Sums.{record_count, name_bytes, sums_break}
use Rattle.load_model.specs.Phases.{linkedit_break, linkedits_from}
use Rattle.macho_image.proofs.Unbroken.{or_none}

-- the linkedits of n images are read
pub record AreLinkedits (images : List Img) (streams : List StreamLists) (tables : List Tabs) (records names n : ℕ) : Type 0 where
  pub streams_are : streams ≡ map lists_of (take n images)
  pub tables_are : tables ≡ map tables_of (take n images)
  pub few : records ≤ set_record_limit
  pub short : names ≤ export_names_limit
  pub rest : linkedits_from n records names (drop n images) ≡ linkedits_from 0 0 0 images

-- the next image decides
step : (images : List Img) (streams : List StreamLists) (tables : List Tabs) (records names n : ℕ) (i : Img) → AreLinkedits images streams tables records names n → n < length images → i ≡ get_or images n i
    → option_or (option_map (in_image n) (linkedit_break records names i)) (linkedits_from (n + 1) (records + record_count i) (names + name_bytes i) (drop (n + 1) images)) ≡ linkedits_from 0 0 0 images
unfolding linkedits_from
step images streams tables records names n i read lt at =
    sym (ap (λ (is : List Img). linkedits_from n records names is) (drop_more images n i lt ∙ ap (λ (j : Img). j ∷ drop (n + 1) images) (sym at))) ∙ read.rest

pub linkedits_more : (images : List Img) (streams streams' : List StreamLists) (tables tables' : List Tabs) (records names records' names' n : ℕ) (i : Img) (s : StreamLists) (t : Tabs)
    → AreLinkedits images streams tables records names n → n < length images → i ≡ get_or images n i → linkedit_break records names i ≡ None → s ≡ lists_of i → t ≡ tables_of i
    → records' ≡ records + record_count i → names' ≡ names + name_bytes i → records' ≤ set_record_limit → names' ≤ export_names_limit → streams' ≡ streams ++ s ∷ [] → tables' ≡ tables ++ t ∷ []
    → AreLinkedits images streams' tables' records' names' (n + 1)
linkedits_more images streams streams' tables tables' records names records' names' n i s t read lt at none s_is t_is counted named few short streams_grown tables_grown =
    let rest : List Img = drop (n + 1) images in
    record {
      streams_are = mapped_more lists_of images n i streams streams' s lt at read.streams_are s_is streams_grown;
      tables_are = mapped_more tables_of images n i tables tables' t lt at read.tables_are t_is tables_grown;
      few = few;
      short = short;
      rest =
          ap₂ (λ (r m : ℕ). linkedits_from (n + 1) r m (drop (n + 1) images)) counted named
          ∙ (sym (ap (λ (o : Option Site). option_or {T = Break} (option_map {T = Site} {U = Break} (in_image n) o) (linkedits_from (n + 1) (records + record_count i) (names + name_bytes i) (drop (n + 1) images))) none)
          ∙ step images streams tables records names n i read lt at);
    }

pub linkedits_none : (images : List Img) (streams : List StreamLists) (tables : List Tabs) (records names n : ℕ) → AreLinkedits images streams tables records names n → length images ≤ n → linkedits_from 0 0 0 images ≡ None
unfolding linkedits_from
linkedits_none images streams tables records names n read all = sym read.rest ∙ ap (λ (is : List Img). linkedits_from n records names is) (drop_all n images all)

pub linkedits_refused : (images : List Img) (streams : List StreamLists) (tables : List Tabs) (records names n : ℕ) (i : Img) (fault : Fault) (answer : SetFault) → AreLinkedits images streams tables records names n → n < length images → i ≡ get_or images n i
    → IsRefusal (linkedit_break records names i) fault → answer ≡ in_set n fault → IsSetRefusal (linkedits_from 0 0 0 images) answer
linkedits_refused images streams tables records names n i (Broken site) answer read lt at found is =
    subst (λ (a : SetFault). IsSetRefusal (linkedits_from 0 0 0 images) a) (sym is)
    (sym (step images streams tables records names n i read lt at)
    ∙ ap (λ (o : Option Site). option_or {T = Break} (option_map {T = Site} {U = Break} (in_image n) o) (linkedits_from (n + 1) (records + record_count i) (names + name_bytes i) (drop (n + 1) images))) found)
linkedits_refused images streams tables records names n i Memory answer read lt at found is = subst (λ (a : SetFault). IsSetRefusal (linkedits_from 0 0 0 images) a) (sym is) tt

site_none : (k : ℕ) (o : Option Site) → option_map {T = Site} {U = Break} (in_image k) o ≡ None → o ≡ None
site_none k None none = refl
site_none k (Some s) none = absurd (cc)

-- images whose linkedits break no rule have streams that break none
pub streams_unbroken : (n records names : ℕ) (images : List Img) → linkedits_from n records names images ≡ None → HaveStreams images
unfolding linkedits_from linkedit_break
streams_unbroken n records names [] none k image got = absurd (cc)
streams_unbroken n records names (i ∷ is) none zero image got =
    let own = or_none (option_map {T = Site} {U = Break} (in_image n) (linkedit_break records names i)) (linkedits_from (n + 1) (records + record_count i) (names + name_bytes i) is) none in
    let same : i ≡ image = cc in
    ap streams_break (sym same) ∙ (or_none (streams_break i) _ (site_none n (linkedit_break records names i) own.0)).0
streams_unbroken n records names (i ∷ is) none (suc k) image got =
    let own = or_none (option_map {T = Site} {U = Break} (in_image n) (linkedit_break records names i)) (linkedits_from (n + 1) (records + record_count i) (names + name_bytes i) is) none in
    streams_unbroken (n + 1) (records + record_count i) (names + name_bytes i) is own.1 k image got

-- and tables that break none
pub tables_unbroken : (n records names : ℕ) (images : List Img) → linkedits_from n records names images ≡ None → (k : ℕ) (image : Img) → slice_get images k ≡ Some image → table_break image ≡ None
unfolding linkedits_from linkedit_break
tables_unbroken n records names [] none k image got = absurd (cc)
tables_unbroken n records names (i ∷ is) none zero image got =
    let own = or_none (option_map {T = Site} {U = Break} (in_image n) (linkedit_break records names i)) (linkedits_from (n + 1) (records + record_count i) (names + name_bytes i) is) none in
    let same : i ≡ image = cc in
    let streams = or_none (streams_break i) _ (site_none n (linkedit_break records names i) own.0) in
    ap table_break (sym same) ∙ (or_none (table_break i) _ streams.1).0
tables_unbroken n records names (i ∷ is) none (suc k) image got =
    let own = or_none (option_map {T = Site} {U = Break} (in_image n) (linkedit_break records names i)) (linkedits_from (n + 1) (records + record_count i) (names + name_bytes i) is) none in
    tables_unbroken (n + 1) (records + record_count i) (names + name_bytes i) is own.1 k image got

-- ---- one linkedit, whose streams and tables break no rule

linkedit_rest : (records names : ℕ) (i : Img) → streams_break i ≡ None → table_break i ≡ None
    → linkedit_break records names i ≡ option_or (sums_break (records + record_count i) (names + name_bytes i)) None
unfolding linkedit_break
linkedit_rest records names i streams tables =
    ap₂ (λ (a b : Option Site). option_or a (option_or b (option_or (sums_break (records + record_count i) (names + name_bytes i)) None))) streams tables

pub linkedit_none : (records names r n : ℕ) (i : Img) → streams_break i ≡ None → table_break i ≡ None → r ≡ records + record_count i → n ≡ names + name_bytes i → sums_break r n ≡ None → linkedit_break records names i ≡ None
linkedit_none records names r n i streams tables counted named none =
    linkedit_rest records names i streams tables
    ∙ ap (λ (o : Option Site). option_or o None) (sym (ap₂ (λ (a b : ℕ). sums_break a b) counted named) ∙ none)

pub linkedit_refused : (records names : ℕ) (i : Img) (fault : Fault) → streams_break i ≡ None → table_break i ≡ None → IsRefusal (sums_break (records + record_count i) (names + name_bytes i)) fault → IsRefusal (linkedit_break records names i) fault
linkedit_refused records names i (Broken site) streams tables found = linkedit_rest records names i streams tables ∙ ap (λ (o : Option Site). option_or o None) found
linkedit_refused records names i Memory streams tables found = tt
