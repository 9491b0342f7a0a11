-- The pointers of an image of a sound set: each is a word of its segment, which alone contains it.
use Rattle.std.proofs.Common.{◌≡◌, ◌<◌, ℕ, ◌-◌, true, false, Option, Some, None, List, ◌++◌, map, filter, length, get_or, sym, ap, subst, ◌∙◌, true≢false, arith, inl, inr}
use Rattle.std.specs.Prelude.{nat_eq, slice_get}
use Rattle.std.specs.List.{All, Contains}
use Rattle.std.proofs.lemmas.Bool.{cases_Bool, eq-eqb, eqb-true}
use Rattle.std.proofs.lemmas.List.Elements.{All-append, All-map, All-filter, All-same, Contains-append_left}
use Rattle.std.proofs.lemmas.List.{length-map, get_or-map}
use Rattle.std.proofs.lemmas.List.Sorted.{All-permutation, Contains-permutation}
use Rattle.macho_image.specs.Records.{Seg, Img}
use Rattle.macho_image.specs.Breaks.{IsSound}
use Rattle.macho_image.specs.declared.place.Location.{Location}
use Rattle.macho_image.specs.Places.{IsWord}
use Rattle.macho_image.specs.Segments.{contains, inside, segments_in}
use Rattle.macho_image.specs.declared.places.segment_index.Inside.{Inside}
use Rattle.macho_image.specs.Index.{AreApart}
use Rattle.macho_image.proofs.SegmentLaws.{contains_yes, contains_low, contains_high, inside_here}
use Rattle.macho_image.proofs.SoundSegments.{segments_keep_apart}
use Rattle.rebase_ops.specs.Rebases.{rebases_of}
use Rattle.rebase_ops.proofs.RebaseLaws.{accepted_rebases}
use Rattle.bind_ops.specs.Records.{BoundWord}
use Rattle.bind_ops.specs.Binds.{binds_of}
use Rattle.bind_ops.specs.declared.kind.StreamKind.TheVariants.{Bind, Lazy}
use Rattle.bind_ops.proofs.BindLaws.{accepted_binds}
use Rattle.prebind.specs.declared.resolved.PlacedWord.{PlacedWord}
use Rattle.prebind.specs.Sets.{StreamLists, ImageSet, AreStreamsOf}
use Rattle.prebind.specs.Targets.{pointer_at}
use Rattle.prebind.specs.Words.{placed_bind, is_bound, is_free, rebased_word, streams_in, pointers_of, ArePlaced}
use Rattle.ref_rewrite.specs.Steps.{Belong}

-- ---- each is a word

all_binds_words : (image : Img) (s : StreamLists) → AreStreamsOf image s → All (λ (b : BoundWord). IsWord image b.at) s.binds
all_binds_words image s sound =
    let first = accepted_binds Bind image image.streams.bind sound.binds_accepted in
    let last = accepted_binds Lazy image image.streams.lazy sound.lazy_accepted in
    let P : BoundWord → Type 0 = λ b. IsWord image b.at in
    All-same P s.binds (binds_of Bind image.streams.bind image ++ binds_of Lazy image.streams.lazy image) sound.binds
    (All-append P (binds_of Bind image.streams.bind image) (binds_of Lazy image.streams.lazy image) first.all last.all)

all_rebases_words : (image : Img) (s : StreamLists) → AreStreamsOf image s → All (IsWord image) s.rebases
all_rebases_words image s sound =
    All-same (IsWord image) s.rebases (rebases_of image.streams.rebase image) sound.rebases (accepted_rebases image image.streams.rebase sound.rebases_accepted).all

pub pointers_words : (set : ImageSet) (k : ℕ) (image : Img) (s : StreamLists) → AreStreamsOf image s → slice_get set.streams k ≡ Some s → All (λ (w : PlacedWord). IsWord image w.at) (pointers_of set k)
unfolding pointers_of
pointers_words set k image s sound streams =
    let P : PlacedWord → Type 0 = λ w. IsWord image w.at in
    let ss : List Seg = segments_in (slice_get set.images k) in
    let t : StreamLists = streams_in (slice_get set.streams k) in
    let same : t ≡ s = ap streams_in streams in
    let here : AreStreamsOf image t = subst (λ (u : StreamLists). AreStreamsOf image u) (sym same) sound in
    let free : List Location = filter (is_free (is_bound t.binds)) t.rebases in
    All-append P (map (placed_bind set k) t.binds) (map (rebased_word k ss (pointer_at t.references)) free)
    (All-map P (placed_bind set k) t.binds (all_binds_words image t here))
    (All-map P (rebased_word k ss (pointer_at t.references)) free (All-filter (is_free (is_bound t.binds)) (IsWord image) t.rebases (all_rebases_words image t here)))

pub placed_words : (set : ImageSet) (k : ℕ) (image : Img) (s : StreamLists) (words : List PlacedWord) → AreStreamsOf image s → slice_get set.streams k ≡ Some s → ArePlaced (pointers_of set k) words
    → All (λ (w : PlacedWord). IsWord image w.at) words
placed_words set k image s words sound streams placed =
    All-permutation (λ (w : PlacedWord). IsWord image w.at) (pointers_of set k) words placed.moved (pointers_words set k image s sound streams)

-- the bound words are among them
pub bound_placed : (set : ImageSet) (k i : ℕ) (words : List PlacedWord) (b : BoundWord) → ArePlaced (pointers_of set k) words → i < length (streams_in (slice_get set.streams k)).binds → b ≡ get_or (streams_in (slice_get set.streams k)).binds i b
    → Contains words (placed_bind set k b)
unfolding pointers_of
bound_placed set k i words b placed lt is =
    let t : StreamLists = streams_in (slice_get set.streams k) in
    let ss : List Seg = segments_in (slice_get set.images k) in
    let bound : List PlacedWord = map (placed_bind set k) t.binds in
    let w : PlacedWord = placed_bind set k b in
    let here : Contains bound w = (i, omega (arith, lt, length-map t.binds (placed_bind set k)), get_or-map (placed_bind set k) t.binds i b w lt ∙ ap (placed_bind set k) (sym is)) in
    Contains-permutation (pointers_of set k) words w placed.moved
    (Contains-append_left bound (map (rebased_word k ss (pointer_at t.references)) (filter (is_free (is_bound t.binds)) t.rebases)) w here)

-- ---- and belongs to one segment

same_segment : (a b : Option Seg) (s t : Seg) → a ≡ b → a ≡ Some s → b ≡ Some t → s ≡ t
same_segment a b s t same first second = some_same (sym first ∙ (same ∙ second))
  where
    some_same : Some s ≡ Some t → s ≡ t
    some_same e = cc

abbrev number_found : Option Inside → ℕ
number_found None = 0
number_found (Some p) = p.segment

word_belongs : (image : Img) (w : Location) (g : ℕ) (s : Seg) → AreApart image.segments → IsWord image w → slice_get image.segments g ≡ Some s → nat_eq w.segment g ≡ contains s w.address
word_belongs image w g s apart word at = elim (cases_Bool (nat_eq w.segment g)) [
  | inl own ↦
      let number : w.segment ≡ g = eqb-true w.segment g own in
      let same : word.segment ≡ s = same_segment (slice_get image.segments w.segment) (slice_get image.segments g) word.segment s (ap (λ (n : ℕ). slice_get image.segments n) number) word.segment_is at in
      own ∙ sym (subst (λ (t : Seg). contains t w.address ≡ true) same (contains_yes word.segment w.address word.from (omega (arith, word.to))))
  | inr other ↦
      elim (cases_Bool (contains s w.address)) [
        | inl both ↦
            let here : inside image.segments w.address ≡ Some (record { segment = g; distance = w.address - s.vmaddr }) =
            inside_here image.segments g s w.address apart at (contains_low s w.address both) (contains_high s w.address both) in
            let there : inside image.segments w.address ≡ Some (record { segment = w.segment; distance = w.address - word.segment.vmaddr }) =
            inside_here image.segments w.segment word.segment w.address apart word.segment_is word.from (omega (arith, word.to)) in
            let number : w.segment ≡ g = numbers w.segment g (w.address - word.segment.vmaddr) (w.address - s.vmaddr) (sym there ∙ here) in
            absurd (true≢false (sym (eq-eqb w.segment g number) ∙ other))
        | inr none ↦ other ∙ sym none
      ]
]
  where
    numbers : (a b c d : ℕ) → ◌≡◌ {A = Option Inside} (Some (record { segment = a; distance = c })) (Some (record { segment = b; distance = d })) → a ≡ b
    numbers a b c d e = ap number_found e

pub words_belong : (image : Img) (words : List PlacedWord) → IsSound image → All (λ (w : PlacedWord). IsWord image w.at) words → Belong words image.segments
words_belong image words sound all g s at i d lt = word_belongs image (get_or words i d).at g s (segments_keep_apart image sound) (all i d lt) at
