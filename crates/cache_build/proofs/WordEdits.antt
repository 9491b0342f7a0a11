-- The words of a set as edits of the cache: each lies in its segment's range, and they keep apart and fit.
use Rattle.std.proofs.Common.{◌≡◌, ◌≤◌, ◌<◌, ◌⊎◌, ℕ, ◌+◌, ◌-◌, ◌^◌, false, Some, List, ◌∷◌, [], map, sym, ap, ◌∙◌, subst, arith, inl, inr}
use Rattle.std.specs.Prelude.{slice_get}
use Rattle.std.proofs.lemmas.Bool.{cases_lt}
use Rattle.std.proofs.lemmas.Option.{same_Some}
use Rattle.dsc_base.specs.declared.edits.Edit.{Edit}
use Rattle.dsc_base.specs.Edits.{AllApart, AllFit, IsAmong}
use Rattle.macho_image.specs.Records.{Seg, Img}
use Rattle.macho_image.specs.Rules.{is_linkedit_segment}
use Rattle.prebind.specs.Sets.{StreamLists, ImageSet}
use Rattle.prebind.specs.Words.{Word, streams_in, streams_at, ordered_pointers}
use Rattle.cache_layout.specs.declared.mapping.Mapping.{Mapping}
use Rattle.cache_layout.specs.Layouts.{layout_of}
use Rattle.cache_layout.specs.Apart.{IsSegment, move_at, range_in}
use Rattle.cache_layout.proofs.PlaceLaws.{are_within, are_apart}
use Rattle.cache_layout.proofs.RoomLaws.{paged-covers}
use Rattle.ref_rewrite.specs.Moving.{new_offset, edit_of}
use Rattle.ref_rewrite.specs.Planned.{words_with}
use Rattle.ref_rewrite.proofs.FitLaws.{IsAt, segment_there, offset_is}
use Rattle.load_model.proofs.WordCases.{IsIn, IsOf, IsImageOf, in_first, in_rest, in_map}
use Rattle.cache_build.specs.Edits.{image_edits, edits_of}
use Rattle.cache_build.proofs.AmongLaws.{IsOf as IsOfItem, among_of, among_given}
use Rattle.cache_build.proofs.ImageWords.{IsReadSet, IsOne, one_of, Stands, word_stands, image_words, Far, AreFar, words_far}
use Rattle.cache_build.proofs.Memberships.{in_among}
use Rattle.cache_build.proofs.JoinedEdits.{KeepApart, among_of_map, fit_each, apart_each, apart_joined}
use Rattle.cache_build.proofs.WordNumbers.{word_fits}

-- ---- where an edit lies

-- so far behind the start of a segment of image k other than `__LINKEDIT`
pub record IsSeated (is : List Img) (k : ℕ) (i : Img) (e : Edit) : Type 0 where
  pub number : ℕ
  pub segment : Seg
  pub there : IsSegment is k number i segment
  pub owned : is_linkedit_segment segment ≡ false
  pub distance : ℕ
  pub place : e.at ≡ (move_at (layout_of is) k number).file + distance
  pub fits : distance + e.width ≤ segment.vmsize

abbrev pub own_edit : ImageSet → ℕ → Img → Word → Edit
own_edit set k i w = edit_of (layout_of set.images) k i.segments w

abbrev seat_of : (is : List Img) (k : ℕ) (i : Img) (w : Word) → IsAt is k i → Stands i w → IsSeated is k i (edit_of (layout_of is) k i.segments w)
seat_of is k i w at stands = record {
  number = w.at.segment;
  segment = stands.segment;
  there = segment_there is k w.at.segment i stands.segment at.lt at.at stands.segment_is;
  owned = stands.owned;
  distance = w.at.address - stands.segment.vmaddr;
  place = offset_is is k w.at.segment i stands.segment w.at.address at.none at.sound at.lt at.at stands.segment_is stands.owned stands.from (omega (arith, stands.to));
  fits = omega (arith, stands.from, stands.to);
}

-- edits in two segments
pub seats_apart : (is : List Img) (k k' : ℕ) (i i' : Img) (d e : Edit) (one : IsSeated is k i d) (other : IsSeated is k' i' e) → (k ≡ k' → one.number ≡ other.number → ⊥) → KeepApart d e
seats_apart is k k' i i' d e one other differ = elim (are_apart is k one.number i one.segment k' other.number i' other.segment one.there other.there one.owned other.owned differ) [
  | inl before ↦ inl (omega (arith, before, one.place, one.fits, other.place, paged-covers one.segment.vmsize))
  | inr behind ↦ inr (omega (arith, behind, other.place, other.fits, one.place, paged-covers other.segment.vmsize))
]

pub same_or_not : (a b : ℕ) → (a ≡ b) ⊎ (a ≡ b → ⊥)
same_or_not a b = elim (cases_lt a b) [
  | inl less ↦ inr (λ e. omega (arith, less, e))
  | inr from ↦ elim (cases_lt b a) [
    | inl more ↦ inr (λ e. omega (arith, more, e))
    | inr to ↦ inl (omega (arith, from, to))
  ]
]

-- two words of an image
far_edits : (is : List Img) (k : ℕ) (i : Img) (v w : Word) → IsAt is k i → Stands i v → Stands i w → Far v w → KeepApart (edit_of (layout_of is) k i.segments v) (edit_of (layout_of is) k i.segments w)
far_edits is k i v w at one other far = elim (same_or_not v.at.segment w.at.segment) [
  | inr differ ↦ seats_apart is k k i i (edit_of (layout_of is) k i.segments v) (edit_of (layout_of is) k i.segments w) (seat_of is k i v at one) (seat_of is k i w at other) (λ image segment. differ segment)
  | inl same ↦
      let segment : one.segment ≡ other.segment = same_Some one.segment other.segment (sym one.segment_is ∙ (ap (λ (g : ℕ). slice_get i.segments g) same ∙ other.segment_is)) in
      let start : one.segment.vmaddr ≡ other.segment.vmaddr = ap (λ (s : Seg). s.vmaddr) segment in
      let file : (move_at (layout_of is) k v.at.segment).file ≡ (move_at (layout_of is) k w.at.segment).file = ap (λ (g : ℕ). (move_at (layout_of is) k g).file) same in
      let first : new_offset (layout_of is) k i.segments v.at.segment v.at.address ≡ (move_at (layout_of is) k v.at.segment).file + (v.at.address - one.segment.vmaddr) = (seat_of is k i v at one).place in
      let second : new_offset (layout_of is) k i.segments w.at.segment w.at.address ≡ (move_at (layout_of is) k w.at.segment).file + (w.at.address - other.segment.vmaddr) = (seat_of is k i w at other).place in
      elim far [
        | inl before ↦ inl (omega (arith, before, first, second, file, start, one.from, other.from))
        | inr behind ↦ inr (omega (arith, behind, first, second, file, start, one.from, other.from))
      ]
]

-- ---- the edits of an image

-- an edit of the set is that of a word of one of its images
pub record IsEditOf (set : ImageSet) (k : ℕ) (i : Img) (e : Edit) : Type 0 where
  pub streams : StreamLists
  pub one : IsOne set k i streams
  pub word : Word
  pub there : IsIn (image_words set k i streams) word
  pub is : e ≡ own_edit set k i word

pub edit_from : (set : ImageSet) (k : ℕ) (i : Img) (e : Edit) → IsReadSet set → slice_get set.images k ≡ Some i → IsAmong e (image_edits (layout_of set.images) set k i) → IsEditOf set k i e
edit_from set k i e given image among =
    let one = one_of set k i given image in
    let w : IsOf (own_edit set k i) (words_with k i (streams_at set k) (ordered_pointers set k)) e = among_of_map (own_edit set k i) (words_with k i (streams_at set k) (ordered_pointers set k)) e among in
    record {
      streams = one.0;
      one = one.1;
      word = w.from;
      there = subst (λ (s : StreamLists). IsIn (image_words set k i s) w.from) one.1.streams w.there;
      is = w.is;
    }

pub edit_seated : (set : ImageSet) (k : ℕ) (i : Img) (e : Edit) → IsEditOf set k i e → IsSeated set.images k i e
edit_seated set k i e of =
    subst (λ (d : Edit). IsSeated set.images k i d) (sym of.is) (seat_of set.images k i of.word of.one.at (word_stands set k i of.streams of.word of.one of.there))

apart_from : (f : Word → Edit) (ws : List Word) → AreFar ws → ((v w : Word) → IsIn ws v → IsIn ws w → Far v w → KeepApart (f v) (f w)) → AllApart (map f ws)
apart_from f [] far clear = tt
apart_from f (w ∷ ws) far clear = (
  apart_each (f w).at (f w).width (map f ws)
      (λ e among.
      let o : IsOf f ws e = among_of_map f ws e among in
      subst (λ (d : Edit). KeepApart (f w) d) (sym o.is) (clear w o.from (in_first w ws) (in_rest w ws o.from o.there) (far.0 o.from o.there))),
  apart_from f ws far.1 (λ u v in_u in_v. clear u v (in_rest w ws u in_u) (in_rest w ws v in_v)),
)

image_apart : (set : ImageSet) (k : ℕ) (i : Img) → IsReadSet set → slice_get set.images k ≡ Some i → AllApart (image_edits (layout_of set.images) set k i)
image_apart set k i given image =
    let one = one_of set k i given image in
    let s : StreamLists = one.0 in
    subst (λ (t : StreamLists). AllApart (map (own_edit set k i) (words_with k i t (ordered_pointers set k)))) (sym one.1.streams)
    (apart_from (own_edit set k i) (image_words set k i s) (words_far set k i s one.1)
    (λ v w in_v in_w far. far_edits set.images k i v w one.1.at (word_stands set k i s v one.1 in_v) (word_stands set k i s w one.1 in_w) far))

-- ---- the edits of all images

pub all_apart : (set : ImageSet) → IsReadSet set → AllApart (edits_of (layout_of set.images) set)
unfolding edits_of
all_apart set given =
    apart_joined (image_edits (layout_of set.images) set) 0 set.images
    (λ k m i at got. let same : k ≡ m = omega (arith, at) in image_apart set m i given (ap (λ (n : ℕ). slice_get set.images n) (sym same) ∙ got))
    (λ j k a b i i' lt at_a at_b got got' d e in_d in_e.
    let here : slice_get set.images a ≡ Some i = (let same : a ≡ j = omega (arith, at_a) in ap (λ (n : ℕ). slice_get set.images n) same ∙ got) in
    let later : slice_get set.images b ≡ Some i' = (let same : b ≡ k = omega (arith, at_b) in ap (λ (n : ℕ). slice_get set.images n) same ∙ got') in
    seats_apart set.images a b i i' d e (edit_seated set a i d (edit_from set a i d given here in_d)) (edit_seated set b i' e (edit_from set b i' e given later in_e))
    (λ image segment. omega (arith, lt, at_a, at_b, image)))

-- an edit of the set is one of an image's
pub record IsSetEdit (set : ImageSet) (e : Edit) : Type 0 where
  pub number : ℕ
  pub image : Img
  pub image_is : slice_get set.images number ≡ Some image
  pub of : IsEditOf set number image e

pub set_edit : (set : ImageSet) (e : Edit) → IsReadSet set → IsAmong e (edits_of (layout_of set.images) set) → IsSetEdit set e
unfolding edits_of
set_edit set e given among =
    let o : IsOfItem (image_edits (layout_of set.images) set) set.images e = among_of (image_edits (layout_of set.images) set) set.images e among in
    record { number = o.number; image = o.item; image_is = o.item_is; of = edit_from set o.number o.item e given o.item_is o.among }

-- each word of an image is one of them
pub edit_among : (set : ImageSet) (k : ℕ) (i : Img) (s : StreamLists) (w : Word) → IsImageOf set k i s → IsIn (image_words set k i s) w → IsAmong (own_edit set k i w) (edits_of (layout_of set.images) set)
unfolding edits_of
edit_among set k i s w of there =
    let streams : streams_at set k ≡ s = ap streams_in of.streams_are in
    let own : IsIn (words_with k i (streams_at set k) (ordered_pointers set k)) w = subst (λ (t : StreamLists). IsIn (image_words set k i t) w) (sym streams) there in
    among_given (image_edits (layout_of set.images) set) set.images k i (own_edit set k i w) of.image_is
    (in_among (image_edits (layout_of set.images) set k i) (own_edit set k i w) (in_map (own_edit set k i) (words_with k i (streams_at set k) (ordered_pointers set k)) w own))

edit_fits : (set : ImageSet) (e : Edit) → IsReadSet set → IsSetEdit set e → e.value < 256 ^ e.width
edit_fits set e given of =
    let w : Word = of.of.word in
    subst (λ (d : Edit). d.value < 256 ^ d.width) (sym of.of.is) (word_fits set of.number of.image of.of.streams w given of.of.one of.of.there)

pub image_fit : (set : ImageSet) (k : ℕ) (i : Img) → IsReadSet set → slice_get set.images k ≡ Some i → AllFit (image_edits (layout_of set.images) set k i)
image_fit set k i given image =
    fit_each (image_edits (layout_of set.images) set k i) (λ e among. edit_fits set e given (record { number = k; image = i; image_is = image; of = edit_from set k i e given image among }))

pub all_fit : (set : ImageSet) → IsReadSet set → AllFit (edits_of (layout_of set.images) set)
all_fit set given = fit_each (edits_of (layout_of set.images) set) (λ e among. edit_fits set e given (set_edit set e given among))

pub edit_within : (set : ImageSet) (e : Edit) → IsReadSet set → IsAmong e (edits_of (layout_of set.images) set)
    → (m : Mapping) × ((range_in (layout_of set.images) m).at ≤ e.at) × (e.at + e.width ≤ (range_in (layout_of set.images) m).at + (range_in (layout_of set.images) m).len)
edit_within set e given among =
    let of : IsSetEdit set e = set_edit set e given among in
    let seat : IsSeated set.images of.number of.image e = edit_seated set of.number of.image e of.of in
    let within = are_within set.images given.none of.number seat.number of.image seat.segment seat.there seat.owned in
    (within.0, omega (arith, within.2.start, seat.place), omega (arith, within.2.end, seat.place, seat.fits, paged-covers seat.segment.vmsize))
