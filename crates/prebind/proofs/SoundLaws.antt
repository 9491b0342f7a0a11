-- What is true of a sound set: its tries are accepted, and its links are those of its images.
use Rattle.std.proofs.Common.{◌≡◌, ◌<◌, ◌-◌, ℕ, Bool, true, false, nat_eq, List, [], length, get_or, refl, sym, ap, ap₂, subst, ◌∙◌, arith, if◌then◌else◌, inl, inr, Option, Some, None}
use Rattle.std.specs.Prelude.{slice_get, unwrap_or, option_map, position}
use Rattle.std.specs.List.{All}
use Rattle.std.proofs.lemmas.Option.{slice_get-get_or, slice_get_read, slice_get_cases, slice_get_within, get_or_from_slice_get}
use Rattle.dsc_base.specs.declared.rule.Rule.TheVariants.{ExportOutside}
use Rattle.macho_image.specs.Records.{Seg, Img}
use Rattle.dsc_base.specs.Refusals.{broken, in_image}
use Rattle.export_trie.specs.declared.export.Export.{Export}
use Rattle.export_trie.specs.Order.{trie_break}
use Rattle.dep_closure.specs.declared.dep.Dep.{Dep}
use Rattle.dep_closure.specs.declared.dep.Dep.TheVariants.{Image, BadOrdinal}
use Rattle.dep_closure.specs.Linked.{Linked, dependency_at, IsOneOf, AreLinks}
use Rattle.export_trie.proofs.FindLaws.{some-value}
use Rattle.dep_closure.proofs.LinkedLaws.{links_sound}
use Rattle.export_trie.specs.Exports.{exports_of}
use Rattle.prebind.specs.Sets.{StreamLists, ImageSet, AreStreamsOf, IsSoundSet}
use Rattle.prebind.specs.Places.{strays, export_break}
use Rattle.macho_image.specs.Segments.{segments_in, segments_at}
use Rattle.prebind.specs.Steps.{HaveTries}
use Rattle.prebind.proofs.OrderLaws.{exports_at}

pub sound_links : (set : ImageSet) → IsSoundSet set → AreLinks (length set.images) set.links
sound_links set sound = subst (λ (l : Linked). AreLinks (length set.images) l) (sym sound.links) (links_sound set.images)

pub sound_streams : (set : ImageSet) (k : ℕ) (image : Img) (s : StreamLists) → IsSoundSet set → k < length set.images → image ≡ get_or set.images k image → s ≡ get_or set.streams k s → AreStreamsOf image s
sound_streams set k image s sound lt image_is streams_is =
    sound.streams k image s (slice_get_read set.images (length set.images) k image refl lt image_is) (slice_get_read set.streams (length set.images) k s (sym sound.many) lt streams_is)

pub sound_trie : (set : ImageSet) (k : ℕ) (s : StreamLists) → IsSoundSet set → k < length set.images → s ≡ get_or set.streams k s → trie_break s.exports ≡ None
sound_trie set k s sound lt streams_is = at (slice_get set.images k) refl
  where
    at : (o : Option Img) → slice_get set.images k ≡ o → trie_break s.exports ≡ None
    at None is = absurd (elim ((slice_get_cases set.images k).1) [
      | inl found ↦ let e : ◌≡◌ {A = Option Img} None (Some found.0) = sym is ∙ found.2 in cc
      | inr past ↦ omega (arith, past.0, lt)
    ])
    at (Some image) is = (sound.streams k image s is (slice_get_read set.streams (length set.images) k s (sym sound.many) lt streams_is)).exports_accepted

pub sound_tries : (set : ImageSet) → IsSoundSet set → HaveTries set.streams
sound_tries set sound k d lt = sound_trie set k (get_or set.streams k d) sound (omega (arith, sound.many)) (same_default set.streams k d (get_or set.streams k d) lt)
  where
    same_default : (xs : List StreamLists) (k : ℕ) (d e : StreamLists) → k < length xs → get_or xs k d ≡ get_or xs k e
    same_default xs k d e lt = some-value (get_or xs k d) (get_or xs k e) (sym (slice_get-get_or xs k d lt) ∙ slice_get-get_or xs k e lt)

-- each ordinal of an image names one of the set, or none
one_of : (n : ℕ) (ds : List Dep) (o : Option Dep) (k : ℕ) → All (IsOneOf n) ds → slice_get ds k ≡ o → IsOneOf n (unwrap_or o BadOrdinal)
one_of n ds None k all is = tt
one_of n ds (Some d) k all is =
    subst (λ (e : Dep). IsOneOf n e) (get_or_from_slice_get ds k d d is) (all k d (slice_get_within ds k d is))

pub dependency_named : (n : ℕ) (links : Linked) (image ordinal : ℕ) → AreLinks n links → image < n → IsOneOf n (dependency_at links image ordinal)
dependency_named n links image ordinal sound lt =
    by (nat_eq ordinal 0)
    (one_of n (get_or links.dependencies image []) (slice_get (get_or links.dependencies image []) (ordinal - 1)) (ordinal - 1) (sound.named image [] (omega (arith, sound.dependencies))) refl)
  where
    by : (b : Bool) → IsOneOf n (unwrap_or (slice_get (get_or links.dependencies image []) (ordinal - 1)) BadOrdinal) → IsOneOf n (if b then Image image else unwrap_or (slice_get (get_or links.dependencies image []) (ordinal - 1)) BadOrdinal)
    by true other = lt
    by false other = other

pub dependency_within : (n : ℕ) (links : Linked) (image ordinal first : ℕ) → AreLinks n links → image < n → Image first ≡ dependency_at links image ordinal → first < n
dependency_within n links image ordinal first sound lt is = subst (λ (d : Dep). IsOneOf n d) (sym is) (dependency_named n links image ordinal sound lt)

pub order_within : (n m : ℕ) (links : Linked) (first : ℕ) → AreLinks n links → n ≡ m → first < n → All (λ (k : ℕ). k < m) (get_or links.orders first [])
order_within n m links first sound same lt = subst (λ (k : ℕ). All (λ (i : ℕ). i < k) (get_or links.orders first [])) same (sound.searched first lt).within

-- rule 131 of one image, by its segments and its trie
pub break_at : (set : ImageSet) (k : ℕ) (image : Img) (s : StreamLists) (o : Option ℕ) → length set.streams ≡ length set.images → k < length set.images → image ≡ get_or set.images k image → s ≡ get_or set.streams k s
    → o ≡ position (λ (e : Export). strays image.segments e.target) (exports_of s.exports) → export_break set k ≡ option_map (in_image k) (broken ExportOutside o)
unfolding export_break
break_at set k image s o many lt image_is streams_is found =
    let segments : segments_at set.images k ≡ image.segments = ap segments_in (slice_get_read set.images (length set.images) k image refl lt image_is) in
    let exports = exports_at set.streams k s (omega (arith, many)) streams_is in
    ap (λ (p : Option ℕ). option_map (in_image k) (broken ExportOutside p))
    (ap₂ (λ (ss : List Seg) (es : List Export). position (λ (e : Export). strays ss e.target) es) segments exports ∙ sym found)
