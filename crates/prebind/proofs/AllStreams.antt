-- The streams of the images of a set, read one image after another.
use Rattle.std.proofs.Common.{◌≡◌, ◌<◌, ◌≤◌, ℕ, ◌+◌, Option, None, List, [], ◌∷◌, ◌++◌, take, drop, map, length, get_or, sym, ap, ◌∙◌, subst}
use Rattle.std.specs.Prelude.{All}
use Rattle.std.specs.Option.{option_or, option_map}
use Rattle.std.proofs.lemmas.List.{drop_more, drop_all, take_all}
use Rattle.dsc_base.specs.declared.fault.Site.{Site}
use Rattle.dsc_base.specs.declared.fault.Break.{Break}
use Rattle.dsc_base.specs.declared.fault.Fault.{Fault}
use Rattle.dsc_base.specs.declared.fault.Fault.TheVariants.{Broken, Memory}
use Rattle.dsc_base.specs.declared.fault.SetFault.{SetFault}
use Rattle.dsc_base.specs.Refusals.{in_image, IsRefusal, in_set, IsSetRefusal, in_each}
use Rattle.macho_image.specs.Records.{Img}
use Rattle.prebind.specs.Sets.{StreamLists, lists_of, streams_break}
use Rattle.prebind.proofs.ListLaws.{mapped_more, all_more}

-- the streams of so many images break no rule, and this is what they spell
pub record AreStreamsTo (images : List Img) (streams : List StreamLists) (n : ℕ) : Type 0 where
  pub lists : streams ≡ map lists_of (take n images)
  pub unbroken : All (λ (i : Img). streams_break i ≡ None) (take n images)
  pub rest : in_each streams_break n (drop n images) ≡ in_each streams_break 0 images

-- the next image decides
next : (images : List Img) (streams : List StreamLists) (n : ℕ) (image : Img) → AreStreamsTo images streams n → n < length images → image ≡ get_or images n image
    → option_or {T = Break} (option_map {T = Site} {U = Break} (in_image n) (streams_break image)) (in_each streams_break (n + 1) (drop (n + 1) images)) ≡ in_each streams_break 0 images
unfolding in_each
next images streams n image are lt at =
    sym (ap (λ (is : List Img). in_each streams_break n is) (drop_more images n image lt ∙ ap (λ (i : Img). i ∷ drop (n + 1) images) (sym at))) ∙ are.rest

pub streams_more : (images : List Img) (streams streams' : List StreamLists) (n : ℕ) (image : Img) (own : StreamLists) → AreStreamsTo images streams n → n < length images → image ≡ get_or images n image
    → streams_break image ≡ None → own ≡ lists_of image → streams' ≡ streams ++ own ∷ [] → AreStreamsTo images streams' (n + 1)
streams_more images streams streams' n image own are lt at none own_is grown = record {
  lists = mapped_more lists_of images n image streams streams' own lt at are.lists own_is grown;
  unbroken = all_more (λ (i : Img). streams_break i ≡ None) images n image lt at are.unbroken none;
  rest =
      sym (ap (λ (o : Option Site). option_or {T = Break} (option_map {T = Site} {U = Break} (in_image n) o) (in_each streams_break (n + 1) (drop (n + 1) images))) none)
      ∙ next images streams n image are lt at;
}

pub streams_refused : (images : List Img) (streams : List StreamLists) (n : ℕ) (image : Img) (fault : Fault) (answer : SetFault) → AreStreamsTo images streams n → n < length images → image ≡ get_or images n image
    → IsRefusal (streams_break image) fault → answer ≡ in_set n fault → IsSetRefusal (in_each streams_break 0 images) answer
streams_refused images streams n image (Broken site) answer are lt at found is =
    subst (λ (a : SetFault). IsSetRefusal (in_each streams_break 0 images) a) (sym is)
    (sym (next images streams n image are lt at)
    ∙ ap (λ (o : Option Site). option_or {T = Break} (option_map {T = Site} {U = Break} (in_image n) o) (in_each streams_break (n + 1) (drop (n + 1) images))) found)
streams_refused images streams n image Memory answer are lt at found is = subst (λ (a : SetFault). IsSetRefusal (in_each streams_break 0 images) a) (sym is) tt

pub streams_all : (images : List Img) (streams : List StreamLists) (n : ℕ) → AreStreamsTo images streams n → length images ≤ n → streams ≡ map lists_of images
streams_all images streams n are all = are.lists ∙ ap (λ (is : List Img). map lists_of is) (take_all n images all)

pub streams_accepted : (images : List Img) (streams : List StreamLists) (n : ℕ) → AreStreamsTo images streams n → length images ≤ n → All (λ (i : Img). streams_break i ≡ None) images
streams_accepted images streams n are all = subst (λ (is : List Img). All (λ (i : Img). streams_break i ≡ None) is) (take_all n images all) are.unbroken

pub streams_none : (images : List Img) (streams : List StreamLists) (n : ℕ) → AreStreamsTo images streams n → length images ≤ n → in_each streams_break 0 images ≡ None
unfolding in_each
streams_none images streams n are all = sym are.rest ∙ ap (λ (is : List Img). in_each streams_break n is) (drop_all n images all)
