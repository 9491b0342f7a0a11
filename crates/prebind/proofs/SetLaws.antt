-- The set that images make is sound where their streams break no rule, and or_none do their links.
use Rattle.std.proofs.Common.{◌≡◌, ◌≤◌, ℕ, Option, Some, None, List, length, map, All, refl, sym, ap, ◌∙◌, subst, inl}
use Rattle.std.specs.Prelude.{slice_get, option_map}
use Rattle.std.proofs.lemmas.List.{length-map}
use Rattle.std.proofs.lemmas.List.Elements.{All-get_or}
use Rattle.std.proofs.lemmas.Option.{slice_get-map, slice_get_within, get_or_from_slice_get}
use Rattle.macho_image.specs.Records.{Img}
use Rattle.dep_closure.specs.Linked.{Linked, links_of}
use Rattle.dep_closure.specs.Breaks.{link_break}
use Rattle.prebind.specs.Sets.{StreamLists, streams_break, lists_of, image_set, AreStreamsOf, IsSoundSet}
use Rattle.macho_image.proofs.Unbroken.{or_none}

pub streams_of_image : (image : Img) → streams_break image ≡ None → AreStreamsOf image (lists_of image)
unfolding streams_break lists_of
streams_of_image image none =
    let rebase = or_none _ _ none in
    let bind = or_none _ _ rebase.1 in
    let lazy = or_none _ _ bind.1 in
    let weak = or_none _ _ lazy.1 in
    let clash = or_none _ _ weak.1 in
    let trie = or_none _ _ clash.1 in
    let split = or_none _ _ trie.1 in
    record {
      rebases = refl;
      rebases_accepted = rebase.0;
      binds = refl;
      binds_accepted = bind.0;
      lazy_accepted = lazy.0;
      weak_accepted = weak.0;
      apart = clash.0;
      exports = refl;
      exports_accepted = trie.0;
      references = inl (record { is = refl; accepted = split.0 });
    }

-- each image of some breaks no rule of its streams
abbrev pub HaveStreams : List Img → Type 0
HaveStreams images = (k : ℕ) (image : Img) → slice_get images k ≡ Some image → streams_break image ≡ None

pub sound_set : (images : List Img) → length images ≤ 4097 → HaveStreams images → link_break images ≡ None → IsSoundSet (image_set images)
unfolding image_set
sound_set images few streams linked = record {
  few = few;
  many = length-map images lists_of;
  streams = λ k image s image_is streams_is.
      let own : Some s ≡ Some (lists_of image) = sym streams_is ∙ (slice_get-map lists_of images k ∙ ap (λ (o : Option Img). option_map lists_of o) image_is) in
      subst (λ (t : StreamLists). AreStreamsOf image t) (same s (lists_of image) own) (streams_of_image image (streams k image image_is));
  links = refl;
  linked = linked;
}
  where
    same : (s t : StreamLists) → Some s ≡ Some t → t ≡ s
    same s t e = cc

pub have_streams : (images : List Img) → All (λ (i : Img). streams_break i ≡ None) images → HaveStreams images
have_streams images all k image found =
    subst (λ (i : Img). streams_break i ≡ None) (get_or_from_slice_get images k image image found)
    (All-get_or (λ (i : Img). streams_break i ≡ None) images k image (slice_get_within images k image found) all)

-- what is read and linked of images is the set that they make
pub set_made : (images : List Img) (streams : List StreamLists) (links : Linked) → streams ≡ map lists_of images → links ≡ links_of images → image_set images ≡ record { images = images; streams = streams; links = links }
unfolding image_set
set_made images streams links streams_are links_are = λ j. record { images = images; streams = sym streams_are j; links = sym links_are j }

pub sound_read : (images : List Img) (streams : List StreamLists) (links : Linked) → streams ≡ map lists_of images → links ≡ links_of images → length images ≤ 4097 → HaveStreams images → link_break images ≡ None
    → IsSoundSet (record { images = images; streams = streams; links = links })
sound_read images streams links streams_are links_are few unbroken linked = subst IsSoundSet (set_made images streams links streams_are links_are) (sound_set images few unbroken linked)
