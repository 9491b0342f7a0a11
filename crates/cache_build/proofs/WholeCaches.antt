-- What plans of a set are filled in to is the cache of the set.
use Rattle.std.proofs.Common.{◌≡◌, ◌≤◌, ◌<◌, ℕ, ◌+◌, ◌/◌, ◌^◌, List, [], ◌∷◌, ◌++◌, map, length, refl, ap, ap₂, ◌∙◌, arith, append_assoc}
use Rattle.std.specs.Prelude.{slice_index_or}
use Rattle.std.specs.List.{flat_map, enumerate_from}
use Rattle.dsc_base.specs.Region.{padded}
use Rattle.dsc_base.specs.declared.edits.Edit.{Edit}
use Rattle.dsc_base.specs.Edits.{put_all, change_all}
use Rattle.macho_image.specs.Records.{Img}
use Rattle.cache_header.specs.Spelling.{head_bytes}
use Rattle.cache_layout.specs.declared.mapping.Mapping.{Mapping}
use Rattle.cache_layout.specs.declared.mapping.Mapping.TheVariants.{Text, Writable, Fixed}
use Rattle.cache_layout.specs.Layouts.{Laid}
use Rattle.cache_layout.specs.Apart.{range_in}
use Rattle.cache_layout.specs.Parts.{mapping_part}
use Rattle.slide_chain.specs.Chains.{Slide}
use Rattle.slide_chain.specs.Info.{info_bytes}
use Rattle.slide_chain.specs.Making.{linking, info_of}
use Rattle.slide_chain.specs.Linked.{linked_data}
use Rattle.slide_chain.proofs.LinkedLaws.{data-linked}
use Rattle.prebind.specs.declared.resolved.PlacedWord.{PlacedWord}
use Rattle.prebind.specs.Sets.{ImageSet}
use Rattle.prebind.specs.Words.{streams_at, ordered_pointers}
use Rattle.prebind.proofs.OrderedWords.{placed_pointers}
use Rattle.ref_rewrite.specs.Moving.{edit_of}
use Rattle.ref_rewrite.specs.Plans.{Plan}
use Rattle.ref_rewrite.specs.Planned.{words_with, chained_words, plan_of, plan_in, plans_of, with_headers}
use Rattle.ref_rewrite.specs.Rewritten.{edits_in, joined}
use Rattle.ref_rewrite.specs.Pages.{all_pages, part_of, all_edits}
use Rattle.linkedit_merge.specs.Shares.{Share}
use Rattle.linkedit_merge.specs.Linkedit.{linkedit_start, linkedit_of, spots_of}
use Rattle.cache_build.specs.declared.frame.Frame.{Frame}
use Rattle.cache_build.specs.Edits.{image_edits, image_chained, edits_of, chained_of}
use Rattle.cache_build.specs.Places.{slide_bytes, shares_in, frame_of}
use Rattle.cache_build.specs.Head.{head_of}
use Rattle.cache_build.specs.Cache.{headers_of, edited, tail_of, cache_with, cache_by, cache_from}
use Rattle.cache_build.specs.Filling.{segments_of, filled}
use Rattle.prebind.specs.Placed.{AreListsPlaced}
use Rattle.prebind.proofs.PlacedLists.{placed_at}

-- ---- what plans have together

joined_from : {X : Type 0} (f : Plan → List X) (made : ℕ → Img → Plan) (h : ℕ → Img → List X) (n : ℕ) (is : List Img) → ((k : ℕ) (i : Img) → n ≤ k → k < n + length is → f (made k i) ≡ h k i)
    → flat_map f (map (λ (q : ℕ × Img). made q.0 q.1) (enumerate_from n is)) ≡ flat_map (λ (q : ℕ × Img). h q.0 q.1) (enumerate_from n is)
joined_from f made h n [] same = refl
joined_from {X} f made h n (i ∷ is) same =
    ap₂ (λ (a b : List X). a ++ b) (same n i (omega arith) (omega arith)) (joined_from f made h (n + 1) is (λ k j from lt. same k j (omega (arith, from)) (omega (arith, lt))))

-- the words that are placed are those in the order of their addresses
placed_is : (set : ImageSet) (placed : List (List PlacedWord)) → AreListsPlaced set placed → (k : ℕ) → k < length set.images → slice_index_or placed k [] ≡ ordered_pointers set k
placed_is set placed are k lt = placed_pointers set k (slice_index_or placed k []) (placed_at set placed are k lt)

pub edits_are : (l : Laid) (set : ImageSet) (placed : List (List PlacedWord)) → AreListsPlaced set placed → all_edits (plans_of l set placed) ≡ edits_of l set
unfolding plans_of plan_of edits_of
edits_are l set placed are =
    joined_from (λ (p : Plan). p.edits) (plan_in l set placed) (image_edits l set) 0 set.images
    (λ k i from lt. ap (λ (ws : List PlacedWord). map (edit_of l k i.segments) (words_with k i (streams_at set k) ws)) (placed_is set placed are k (omega (arith, lt))))

pub chained_are : (l : Laid) (set : ImageSet) (placed : List (List PlacedWord)) → AreListsPlaced set placed → flat_map (λ (p : Plan). p.words) (plans_of l set placed) ≡ chained_of l set
unfolding plans_of plan_of chained_of
chained_are l set placed are =
    joined_from (λ (p : Plan). p.words) (plan_in l set placed) (image_chained l set) 0 set.images
    (λ k i from lt. ap (λ (ws : List PlacedWord). chained_words l k i.segments ws) (placed_is set placed are k (omega (arith, lt))))

-- ---- the cache

-- what is gathered of a set, by its layout: plans, and the headers that they get
pub record IsGathered (bits : ℕ) (l : Laid) (set : ImageSet) (plans : List Plan) (headers : List (List ℕ)) (frame : Frame) (head : List ℕ) (info : Slide) (words slide_info linkedit : List ℕ) : Type 0 where
  pub edits_all : all_edits plans ≡ edits_of l set
  pub words_all : words ≡ chained_of l set
  pub info_made : info ≡ info_of bits l.writable.len words
  pub info_told : slide_info ≡ info_bytes (info_of bits l.writable.len words)
  pub linkedit_is : linkedit ≡ linkedit_of (shares_in l set.images)
  pub framed : frame ≡ frame_of l (length slide_info) (shares_in l set.images)
  pub headers_are : headers ≡ headers_of l (spots_of (linkedit_start l (length slide_info)) (shares_in l set.images)) set.images
  pub head_is : head ≡ head_bytes (head_of l frame set.images)
  pub ranges : (m : Mapping) → joined (part_of m) (with_headers headers plans) ≡ put_all (edits_in (range_in l m) (all_edits plans)) (mapping_part m (all_pages headers set.images) set.images)

-- a mapping with the edits of all images
range_is : (l : Laid) (set : ImageSet) (plans : List Plan) (headers : List (List ℕ)) (m : Mapping) → all_edits plans ≡ edits_of l set
    → joined (part_of m) (with_headers headers plans) ≡ put_all (edits_in (range_in l m) (all_edits plans)) (mapping_part m (all_pages headers set.images) set.images)
    → joined (part_of m) (with_headers headers plans) ≡ put_all (edits_in (range_in l m) (edits_of l set)) (mapping_part m (all_pages headers set.images) set.images)
range_is l set plans headers m are range = range ∙ ap (λ (es : List Edit). put_all (edits_in (range_in l m) es) (mapping_part m (all_pages headers set.images) set.images)) are

pub cache_is : (bits : ℕ) (l : Laid) (set : ImageSet) (plans : List Plan) (headers : List (List ℕ)) (frame : Frame) (head : List ℕ) (info : Slide) (words slide_info linkedit : List ℕ)
    → IsGathered bits l set plans headers frame head info words slide_info linkedit
    → filled l frame head (segments_of (with_headers headers plans) info words) slide_info linkedit ≡ cache_from bits l set
unfolding cache_from frame_of
cache_is bits l set plans headers frame head info words slide_info linkedit is =
    let shares : List Share = shares_in l set.images in
    let range : (m : Mapping) → joined (part_of m) (with_headers headers plans) ≡ put_all (edits_in (range_in l m) (edits_of l set)) (mapping_part m (all_pages headers set.images) set.images) =
    λ m. range_is l set plans headers m is.edits_all (is.ranges m) in
    let text : List ℕ = edited l.text (edits_of l set) (mapping_part Text (all_pages headers set.images) set.images) in
    let fixed : List ℕ = edited l.fixed (edits_of l set) (mapping_part Fixed (all_pages headers set.images) set.images) in
    let bytes : List ℕ = mapping_part Writable (all_pages headers set.images) set.images in
    let area : List ℕ = linked_data bits (chained_of l set) (edits_in l.writable (edits_of l set)) bytes in
    let linked : change_all (linking (info.mask / 2 ^ 48) words) (joined (λ (p : Plan). p.writable) (with_headers headers plans)) ≡ area =
    data-linked info bits l.writable.len (edits_in l.writable (edits_of l set)) bytes (joined (λ (p : Plan). p.writable) (with_headers headers plans)) _ words is.info_made (range Writable) refl
    ∙ ap (λ (ws : List ℕ). linked_data bits ws (edits_in l.writable (edits_of l set)) bytes) is.words_all in
    let segments : segments_of (with_headers headers plans) info words ≡ text ++ (area ++ fixed) =
    ap₂ (λ (a b : List ℕ). a ++ b) (range Text) (ap₂ (λ (a b : List ℕ). a ++ b) linked (range Fixed)) in
    let told : slide_info ≡ slide_bytes bits l set = is.info_told ∙ ap (λ (ws : List ℕ). info_bytes (info_of bits l.writable.len ws)) is.words_all in
    let rest : List ℕ = tail_of frame slide_info linkedit in
    ap₂ (λ (a b : List ℕ). padded l.text.at a ++ (b ++ rest)) is.head_is segments
    ∙ (ap (λ (b : List ℕ). padded l.text.at (head_bytes (head_of l frame set.images)) ++ b) (append_assoc text (area ++ fixed) rest ∙ ap (λ (b : List ℕ). text ++ b) (append_assoc area fixed rest))
    ∙ (ap₂ (λ (hs : List (List ℕ)) (b : List ℕ). cache_with bits l set frame (all_pages hs set.images) (tail_of frame slide_info b)) is.headers_are is.linkedit_is
    ∙ (ap (λ (f : Frame). cache_with bits l set f (all_pages (headers_of l (spots_of (linkedit_start l (length slide_info)) shares) set.images) set.images) (tail_of f slide_info (linkedit_of shares))) is.framed
    ∙ ap (λ (b : List ℕ). cache_by bits l set b shares) told)))
