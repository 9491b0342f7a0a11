-- Of images whose streams break no rule, the split-segment information is read.
use Rattle.std.proofs.Common.{◌≡◌, List, [], ◌∷◌, refl, sym, ap, ◌∙◌, subst, Option, None}
use Rattle.std.specs.Prelude.{option_map}
use Rattle.std.proofs.lemmas.Option.{same_Some, slice_get-map}
use Rattle.dsc_base.specs.declared.fault.Site.{Site}
use Rattle.dsc_base.specs.Refusals.{first_break}
use Rattle.macho_image.specs.Records.{Img}
use Rattle.macho_image.proofs.Unbroken.{or_none}
use Rattle.rebase_ops.specs.Rebases.{rebase_break}
use Rattle.bind_ops.specs.Binds.{bind_break}
use Rattle.bind_ops.specs.Weak.{weak_break}
use Rattle.bind_ops.specs.declared.kind.StreamKind.TheVariants.{Bind, Lazy}
use Rattle.export_trie.specs.Order.{trie_break}
use Rattle.prebind.specs.Sets.{StreamLists, IsSplitRead, clash_of, split_of, streams_break, lists_of, image_set}
use Rattle.prebind.proofs.SetLaws.{HaveStreams}
use Rattle.ref_rewrite.specs.Planned.{AreSplitRead}

last_none : (a b c d e f g : Option Site) → first_break (a ∷ b ∷ c ∷ d ∷ e ∷ f ∷ g ∷ []) ≡ None → g ≡ None
last_none a b c d e f g none =
    let one = or_none a (first_break (b ∷ c ∷ d ∷ e ∷ f ∷ g ∷ [])) none in
    let two = or_none b (first_break (c ∷ d ∷ e ∷ f ∷ g ∷ [])) one.1 in
    let three = or_none c (first_break (d ∷ e ∷ f ∷ g ∷ [])) two.1 in
    let four = or_none d (first_break (e ∷ f ∷ g ∷ [])) three.1 in
    let five = or_none e (first_break (f ∷ g ∷ [])) four.1 in
    let six = or_none f (first_break (g ∷ [])) five.1 in
    (or_none g None six.1).0

pub split_read : (image : Img) → streams_break image ≡ None → IsSplitRead image (lists_of image)
unfolding streams_break lists_of
split_read image none = record {
  is = refl;
  accepted =
      last_none (rebase_break image.streams.rebase image) (bind_break Bind image.streams.bind image) (bind_break Lazy image.streams.lazy image) (weak_break image.streams.weak) (clash_of image) (trie_break image.streams.exports) (split_of image) none;
}

pub set_read : (images : List Img) → HaveStreams images → AreSplitRead (image_set images)
unfolding image_set
set_read images have k image s image_is streams_is =
    let same : lists_of image ≡ s = same_Some (lists_of image) s (sym (slice_get-map lists_of images k ∙ ap (λ (o : Option Img). option_map lists_of o) image_is) ∙ streams_is) in
    subst (λ (t : StreamLists). IsSplitRead image t) same (split_read image (have k image image_is))
