-- An image by its segments other than `__LINKEDIT`: its words lead where those of the whole image do.
use Rattle.std.proofs.Common.{◌≡◌, ◌<◌, ◌+◌, ◌^◌, ℕ, Bool, true, List, [], ◌∷◌, ◌++◌, length, map, get_or, refl, sym, ap, subst, ◌∙◌, arith, inl, inr, Option, Some, None, length-append}
use Rattle.std.specs.Prelude.{slice_get}
use Rattle.std.specs.List.{All, AllByRecursion}
use Rattle.std.specs.Option.{option_or}
use Rattle.std.proofs.lemmas.List.{length-map, get_or-map, map-append}
use Rattle.std.proofs.lemmas.List.Elements.{All-weaker, filter_passes}
use Rattle.std.proofs.lemmas.Option.{slice_get_cases, get_or_from_slice_get, slice_get_read}
use Rattle.dsc_base.specs.declared.fault.Site.{Site}
use Rattle.dsc_base.specs.declared.fault.Span.{Span}
use Rattle.macho_image.specs.Records.{Seg, Img}
use Rattle.macho_image.specs.Rules.{is_linkedit_segment}
use Rattle.macho_image.specs.declared.place.Location.{Location}
use Rattle.macho_image.specs.Places.{IsWord}
use Rattle.macho_image.specs.Segments.{number_within, value_of, segments_in, segments_at}
use Rattle.macho_image.specs.Index.{IsApart, AreApart}
use Rattle.macho_image.proofs.SoundSegments.{few_segments, segments_keep_apart}
use Rattle.rebase_ops.specs.Rebases.{rebases_of}
use Rattle.rebase_ops.proofs.RebaseLaws.{accepted_rebases}
use Rattle.bind_ops.specs.Records.{BoundWord}
use Rattle.split_info.specs.declared.reference.Reference.{Reference}
use Rattle.dep_closure.specs.Linked.{Linked}
use Rattle.prebind.specs.declared.resolved.PlacedWord.{PlacedWord}
use Rattle.prebind.specs.Sets.{StreamLists, ImageSet, IsSoundSet}
use Rattle.prebind.specs.Targets.{pointer_at}
use Rattle.prebind.specs.Words.{is_bound, placed_bind, rebased_words, streams_in, streams_at, pointers_of, AreOrdered}
use Rattle.prebind.specs.WordRules.{bind_fault_from, rebase_fault, word_fault}
use Rattle.prebind.specs.Indexed.{span_of, FrameOf, frame_of, WasRead, IndexOf, AreOf}
use Rattle.prebind.specs.Bodies.{linkedit_at, whole_of, is_body, body_of, AreOfImage}
use Rattle.prebind.proofs.BodyLaws.{get_last, get_other, value_in_body}
use Rattle.prebind.proofs.LinkeditLaws.{ends_in_linkedit}
use Rattle.prebind.proofs.OutlineLaws.{HaveSameOutline, HaveSameValues, same_fault, same_rebased}

-- an element of a list by its number
pub has_at : {X : Type 0} (xs : List X) (k : ℕ) → k < length xs → (x : X) × (slice_get xs k ≡ Some x)
has_at xs k lt = elim ((slice_get_cases xs k).1) [
  | inl found ↦ (found.0, found.2)
  | inr past ↦ absurd (omega (arith, past.0, lt))
]

-- image k of a set, its frame, and its segments with `__LINKEDIT` behind the others
pub record OwnImage (set : ImageSet) (k : ℕ) (segments : List Seg) (frame : FrameOf) : Type 0 where
  pub image : Img
  pub image_is : slice_get set.images k ≡ Some image
  pub frame_is : frame ≡ frame_of image
  pub linkedit : Seg
  pub split : image.segments ≡ segments ++ linkedit ∷ []
  pub named : is_linkedit_segment linkedit ≡ true
  pub read_only : linkedit.initprot ≡ 1
  pub few : length image.segments < 2 ^ 32
  pub apart : AreApart image.segments

pub own_image : (set : ImageSet) (links : Linked) (indexed : IndexOf) (k : ℕ) (segments : List Seg) (rebases : List Location) (binds : List BoundWord) (references : List Reference) (frame : FrameOf) → AreOf set links indexed
    → AreOfImage set k segments rebases binds references → k < length set.images → frame ≡ get_or indexed.frames k frame → OwnImage set k segments frame
own_image set links indexed k segments rebases binds references frame are own lt is =
    let there = has_at set.images k lt in
    let image : Img = there.0 in
    let at : get_or set.images k image ≡ image = get_or_from_slice_get set.images k image image there.1 in
    let read = subst WasRead at (are.index.read k image lt) in
    let ends = ends_in_linkedit image read.sound in
    let body : segments ≡ body_of image.segments = own.body ∙ ap (λ (o : Option Img). body_of (segments_in o)) there.1 in
    record {
      image = image;
      image_is = there.1;
      frame_is = is ∙ (ap (λ (fs : List FrameOf). get_or fs k frame) are.index.frames ∙ (get_or-map frame_of set.images k image frame lt ∙ ap frame_of at));
      linkedit = ends.linkedit;
      split = ends.split ∙ ap (λ (ss : List Seg). ss ++ ends.linkedit ∷ []) (sym body);
      named = ends.named;
      read_only = ends.read_only;
      few = few_segments image read.sound read.bytes;
      apart = segments_keep_apart image read.sound;
    }

-- the frame has one segment more
pub frame_long : (set : ImageSet) (k : ℕ) (segments : List Seg) (frame : FrameOf) → OwnImage set k segments frame → length frame.segments ≡ length segments + 1
frame_long set k segments frame own =
    omega (arith, ap (λ (f : FrameOf). length f.segments) own.frame_is, length-map own.image.segments span_of, ap (λ (ss : List Seg). length ss) own.split, length-append segments (own.linkedit ∷ []))

pub body_few : (set : ImageSet) (k : ℕ) (segments : List Seg) (frame : FrameOf) → OwnImage set k segments frame → length segments < 2 ^ 32
body_few set k segments frame own = omega (arith, own.few, ap (λ (ss : List Seg). length ss) own.split, length-append segments (own.linkedit ∷ []))

-- none of which is `__LINKEDIT`
pub body_others : (set : ImageSet) (k : ℕ) (segments : List Seg) (rebases : List Location) (binds : List BoundWord) (references : List Reference) → AreOfImage set k segments rebases binds references → All (λ (s : Seg). is_body s ≡ true) segments
body_others set k segments rebases binds references own = subst (λ (ss : List Seg). All (λ (s : Seg). is_body s ≡ true) ss) (sym own.body) (filter_passes is_body (segments_at set.images k))

-- which share no address
before_apart : (s : Seg) (ss ts : List Seg) → AllByRecursion (IsApart s) (ss ++ ts) → AllByRecursion (IsApart s) ss
before_apart s [] ts all = tt
before_apart s (t ∷ ss) ts all = (all.0, before_apart s ss ts all.1)

all_apart : (ss ts : List Seg) → AreApart (ss ++ ts) → AreApart ss
all_apart [] ts apart = tt
all_apart (s ∷ ss) ts apart = (before_apart s ss ts apart.0, all_apart ss ts apart.1)

pub body_apart : (set : ImageSet) (k : ℕ) (segments : List Seg) (frame : FrameOf) → OwnImage set k segments frame → AreApart segments
body_apart set k segments frame own = all_apart segments (own.linkedit ∷ []) (subst (λ (ss : List Seg). AreApart ss) own.split own.apart)

-- whose last one is `__LINKEDIT`
last_span : (set : ImageSet) (k : ℕ) (segments : List Seg) (frame : FrameOf) (span : Span) (own : OwnImage set k segments frame) → span ≡ get_or frame.segments (length segments) span → span ≡ span_of own.linkedit
last_span set k segments frame span own is =
    let all : frame.segments ≡ map span_of segments ++ span_of own.linkedit ∷ [] =
    ap (λ (f : FrameOf). f.segments) own.frame_is ∙ (ap (map span_of) own.split ∙ map-append span_of segments (own.linkedit ∷ [])) in
    is
    ∙ (ap (λ (ss : List Span). get_or ss (length segments) span) all
    ∙ get_or_from_slice_get (map span_of segments ++ span_of own.linkedit ∷ []) (length segments) (span_of own.linkedit) span
    (get_last (map span_of segments) (span_of own.linkedit) (length segments) (sym (length-map segments span_of))))

here : (set : ImageSet) (k : ℕ) (segments : List Seg) (frame : FrameOf) (own : OwnImage set k segments frame) → segments_at set.images k ≡ segments ++ own.linkedit ∷ []
here set k segments frame own = ap segments_in own.image_is ∙ own.split

pub outline : (set : ImageSet) (k : ℕ) (segments : List Seg) (frame : FrameOf) (span : Span) → OwnImage set k segments frame → span ≡ get_or frame.segments (length segments) span → HaveSameOutline (whole_of segments span) (segments_at set.images k)
outline set k segments frame span own is = record {
  spans =
      map-append span_of segments (linkedit_at span ∷ [])
      ∙ (ap (λ (s : Span). map span_of segments ++ s ∷ []) (last_span set k segments frame span own is)
      ∙ (sym (map-append span_of segments (own.linkedit ∷ [])) ∙ ap (map span_of) (sym (here set k segments frame own))));
  named =
      map-append is_linkedit_segment segments (linkedit_at span ∷ [])
      ∙ (ap (λ (b : Bool). map is_linkedit_segment segments ++ b ∷ []) (sym own.named)
      ∙ (sym (map-append is_linkedit_segment segments (own.linkedit ∷ [])) ∙ ap (map is_linkedit_segment) (sym (here set k segments frame own))));
}

-- no rebase is in `__LINKEDIT`
word_elsewhere : (image : Img) (segments : List Seg) (linkedit : Seg) (l : Location) → image.segments ≡ segments ++ linkedit ∷ [] → linkedit.initprot ≡ 1 → IsWord image l → l.segment ≡ length segments → ⊥
word_elsewhere image segments linkedit l split reads word at =
    let found : Some word.segment ≡ Some linkedit = sym word.segment_is ∙ (ap (λ (ss : List Seg). slice_get ss l.segment) split ∙ get_last segments linkedit l.segment at) in
    let same : word.segment ≡ linkedit = cc in
    let three : 3 ≡ 1 = sym word.writable ∙ (ap (λ (s : Seg). s.initprot) same ∙ reads) in
    absurd (omega (arith, three))

same_value : (image : Img) (segments : List Seg) (linkedit : Seg) (span : Span) (l : Location) → image.segments ≡ segments ++ linkedit ∷ [] → linkedit.initprot ≡ 1 → IsWord image l → value_of (whole_of segments span) l ≡ value_of image.segments l
unfolding value_of
same_value image segments linkedit span l split reads word =
    value_in_body segments span l
    ∙ sym (ap (λ (ss : List Seg). number_within 8 (slice_get ss l.segment) l.address) split
    ∙ ap (λ (o : Option Seg). number_within 8 o l.address) (get_other segments linkedit l.segment (word_elsewhere image segments linkedit l split reads word)))

pub same_values : (set : ImageSet) (links : Linked) (indexed : IndexOf) (k : ℕ) (segments : List Seg) (rebases : List Location) (binds : List BoundWord) (references : List Reference) (frame : FrameOf) (span : Span) → AreOf set links indexed
    → AreOfImage set k segments rebases binds references → k < length set.images → OwnImage set k segments frame → HaveSameValues (whole_of segments span) (segments_at set.images k) rebases
same_values set links indexed k segments rebases binds references frame span are own lt image =
    let there = has_at set.streams k (omega (arith, lt, are.index.sound.many)) in
    let streams : StreamLists = there.0 in
    let spelled = are.index.sound.streams k image.image streams image.image_is there.1 in
    let all = accepted_rebases image.image image.image.streams.rebase spelled.rebases_accepted in
    let are_all : rebases_of image.image.streams.rebase image.image ≡ rebases = sym (own.rebased ∙ (ap (λ (o : Option StreamLists). (streams_in o).rebases) there.1 ∙ spelled.rebases)) in
    let words : All (IsWord image.image) rebases = subst (λ (ls : List Location). All (IsWord image.image) ls) are_all all.all in
    let whole : image.image.segments ≡ segments_at set.images k = sym (ap segments_in image.image_is) in
    All-weaker (IsWord image.image) (λ (l : Location). value_of (whole_of segments span) l ≡ value_of (segments_at set.images k) l)
    (λ l word. same_value image.image segments image.linkedit span l image.split image.read_only word ∙ ap (λ (ss : List Seg). value_of ss l) whole) rebases words

-- the words of the image, and the first rule that they break
pub words_are : (set : ImageSet) (k : ℕ) (segments : List Seg) (rebases : List Location) (binds : List BoundWord) (references : List Reference) (whole : List Seg) → AreOfImage set k segments rebases binds references → HaveSameOutline whole (segments_at set.images k)
    → HaveSameValues whole (segments_at set.images k) rebases → map (placed_bind set k) binds ++ rebased_words k whole (is_bound binds) (pointer_at references) rebases ≡ pointers_of set k
unfolding pointers_of
words_are set k segments rebases binds references whole own same values =
    ap (λ (ws : List PlacedWord). map (placed_bind set k) binds ++ ws) (same_rebased whole (segments_at set.images k) same k (is_bound binds) (pointer_at references) rebases values)
    ∙ (λ i. map (placed_bind set k) (own.bound i) ++ rebased_words k (segments_at set.images k) (is_bound (own.bound i)) (pointer_at (own.recorded i)) (own.rebased i))

pub fault_is : (set : ImageSet) (k : ℕ) (segments : List Seg) (rebases : List Location) (binds : List BoundWord) (references : List Reference) (whole : List Seg) → AreOfImage set k segments rebases binds references → HaveSameOutline whole (segments_at set.images k)
    → HaveSameValues whole (segments_at set.images k) rebases → option_or (bind_fault_from set k 0 binds) (rebase_fault whole (is_bound binds) (pointer_at references) rebases) ≡ word_fault set k (segments_at set.images k) (streams_at set k)
fault_is set k segments rebases binds references whole own same values =
    ap (λ (o : Option Site). option_or (bind_fault_from set k 0 binds) o) (same_fault whole (segments_at set.images k) same (is_bound binds) (pointer_at references) rebases values)
    ∙ (λ i. option_or (bind_fault_from set k 0 (own.bound i)) (rebase_fault (segments_at set.images k) (is_bound (own.bound i)) (pointer_at (own.recorded i)) (own.rebased i)))

-- all of it at once: the words by a frame, in order
pub ordered_words : (set : ImageSet) (links : Linked) (indexed : IndexOf) (k : ℕ) (segments : List Seg) (rebases : List Location) (binds : List BoundWord) (references : List Reference) (frame : FrameOf) (span : Span) (whole : List Seg) (placed words : List PlacedWord) → AreOf set links indexed
    → AreOfImage set k segments rebases binds references → k < length set.images → frame ≡ get_or indexed.frames k frame → span ≡ get_or frame.segments (length segments) span → whole ≡ whole_of segments span → placed ≡ map (placed_bind set k) binds
    → AreOrdered (placed ++ rebased_words k whole (is_bound binds) (pointer_at references) rebases) words → AreOrdered (pointers_of set k) words
ordered_words set links indexed k segments rebases binds references frame span whole placed words are own lt frame_is span_is whole_is placed_is ordered =
    let image = own_image set links indexed k segments rebases binds references frame are own lt frame_is in
    let all : placed ++ rebased_words k whole (is_bound binds) (pointer_at references) rebases ≡ pointers_of set k =
    (λ i. placed_is i ++ rebased_words k (whole_is i) (is_bound binds) (pointer_at references) rebases)
    ∙ words_are set k segments rebases binds references (whole_of segments span) own (outline set k segments frame span image span_is) (same_values set links indexed k segments rebases binds references frame span are own lt image) in
    subst (λ (ws : List PlacedWord). AreOrdered ws words) all ordered

-- and the first rule that they break
pub words_fault : (set : ImageSet) (links : Linked) (indexed : IndexOf) (k : ℕ) (segments : List Seg) (rebases : List Location) (binds : List BoundWord) (references : List Reference) (frame : FrameOf) (span : Span) (whole : List Seg) → AreOf set links indexed
    → AreOfImage set k segments rebases binds references → k < length set.images → frame ≡ get_or indexed.frames k frame → span ≡ get_or frame.segments (length segments) span → whole ≡ whole_of segments span → bind_fault_from set k 0 binds ≡ None
    → rebase_fault whole (is_bound binds) (pointer_at references) rebases ≡ word_fault set k (segments_at set.images k) (streams_at set k)
words_fault set links indexed k segments rebases binds references frame span whole are own lt frame_is span_is whole_is none =
    let image = own_image set links indexed k segments rebases binds references frame are own lt frame_is in
    ap (λ (ss : List Seg). rebase_fault ss (is_bound binds) (pointer_at references) rebases) whole_is
    ∙ (sym (ap (λ (o : Option Site). option_or o (rebase_fault (whole_of segments span) (is_bound binds) (pointer_at references) rebases)) none)
    ∙ fault_is set k segments rebases binds references (whole_of segments span) own (outline set k segments frame span image span_is) (same_values set links indexed k segments rebases binds references frame span are own lt image))

-- what an image and its streams have is what its set has of it
pub parts_of : (set : ImageSet) (k : ℕ) (image : Img) (s : StreamLists) (segments : List Seg) (rebases : List Location) (binds : List BoundWord) (references : List Reference) → IsSoundSet set → k < length set.images → image ≡ get_or set.images k image → s ≡ get_or set.streams k s
    → segments ≡ body_of image.segments → rebases ≡ s.rebases → binds ≡ s.binds → references ≡ s.references → AreOfImage set k segments rebases binds references
parts_of set k image s segments rebases binds references sound lt image_is streams_is body rebased bound recorded =
    let there : slice_get set.images k ≡ Some image = slice_get_read set.images (length set.images) k image refl lt image_is in
    let spelled : slice_get set.streams k ≡ Some s = slice_get_read set.streams (length set.images) k s (sym sound.many) lt streams_is in
    record {
      body = body ∙ ap (λ (o : Option Img). body_of (segments_in o)) (sym there);
      rebased = rebased ∙ ap (λ (o : Option StreamLists). (streams_in o).rebases) (sym spelled);
      bound = bound ∙ ap (λ (o : Option StreamLists). (streams_in o).binds) (sym spelled);
      recorded = recorded ∙ ap (λ (o : Option StreamLists). (streams_in o).references) (sym spelled);
    }
