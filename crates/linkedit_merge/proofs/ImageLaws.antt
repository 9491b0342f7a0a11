-- The streams of images in turn.
use Rattle.std.proofs.Common.{◌≡◌, ◌≤◌, ◌<◌, ℕ, ◌+◌, List, [], ◌∷◌, ◌++◌, Vec, Global, length, map, take, drop, get_or, sym, ap, ap₂, ◌∙◌, arith, subst, below_more}
use Rattle.linkedit_merge.specs.ReadBack.{IsTrie, AreTries}
use Rattle.std.specs.List.{flat_map}
use Rattle.std.proofs.lemmas.List.{append-nil, map-append, drop_more, drop_all, get_or-map}
use Rattle.std.proofs.lemmas.List.Concat.{flat_map-append}
use Rattle.dsc_base.specs.declared.fault.Span.{Span}
use Rattle.macho_image.specs.Records.{Img, StreamBytes}
use Rattle.export_trie.specs.declared.export.Export.{Export}
use Rattle.cache_layout.specs.Places.{numbered}
use Rattle.cache_layout.proofs.NumberedLaws.{numbered-step, numbered-get, length-numbered}
use Rattle.linkedit_merge.specs.Parts.{joined_behind, end_behind, lens_of, spans_behind}
use Rattle.linkedit_merge.specs.declared.streams.StreamSpots.{StreamSpots}
use Rattle.linkedit_merge.specs.Sizes.{own_streams, own_at, all_streams, spans_of}
use Rattle.linkedit_merge.proofs.PartLaws.{end-append, joined-append, spans-append, length-joined}

-- the exports of a number
exports_there : (vs : List (Vec Export Global)) (n : ℕ) (v : Vec Export Global) → n < length vs → v ≡ get_or vs n v → v.items ≡ get_or (map (λ e. e.items) vs) n []
exports_there vs n v within is = sym (get_or-map (λ (e : Vec Export Global). e.items) vs n v [] within ∙ ap (λ (e : Vec Export Global). e.items) (sym is))

-- ---- ends

abbrev flat : List (List (List ℕ)) → List (List ℕ)
flat xs = flat_map (λ (parts : List (List ℕ)). parts) xs

pub ends_more : (end : ℕ) (xs : List (List (List ℕ))) (n : ℕ) (x : List (List ℕ)) → n < length xs → get_or xs n x ≡ x
    → end_behind end (lens_of (flat (drop n xs))) ≡ end_behind (end_behind end (lens_of x)) (lens_of (flat (drop (n + 1) xs)))
ends_more end xs n x within is =
    ap (λ (l : List (List (List ℕ))). end_behind end (lens_of (flat l))) (drop_more xs n x within ∙ ap (λ (y : List (List ℕ)). y ∷ drop (n + 1) xs) is)
    ∙ (ap (λ (l : List ℕ). end_behind end l) (map-append (λ (part : List ℕ). length part) x (flat (drop (n + 1) xs)))
    ∙ end-append end (lens_of x) (lens_of (flat (drop (n + 1) xs))))

pub ends_all : (end : ℕ) (xs : List (List (List ℕ))) (n : ℕ) → length xs ≤ n → end_behind end (lens_of (flat (drop n xs))) ≡ end
unfolding end_behind
ends_all end xs n past = ap (λ (l : List (List (List ℕ))). end_behind end (lens_of (flat l))) (drop_all n xs past)

pub own_there : (exports : List (List Export)) (images : List Img) (n : ℕ) (image : Img) (streams : StreamBytes) (own : List Export)
    → n < length images → image ≡ get_or images n image → streams ≡ image.streams → own ≡ get_or exports n []
    → get_or (numbered (own_at exports) images) n (own_streams streams own) ≡ own_streams streams own
own_there exports images n image streams own within is streams_is own_is =
    numbered-get (own_at exports) images n image (own_streams streams own) within is
    ∙ sym (ap₂ (λ (s : StreamBytes) (e : List Export). own_streams s e) streams_is own_is)

pub many_own : (exports : List (List Export)) (images : List Img) → length (numbered (own_at exports) images) ≡ length images
many_own exports images = length-numbered (own_at exports) images

-- ---- bytes and ranges

next_streams : (exports : List (List Export)) (images : List Img) (n : ℕ) (image : Img) → n < length images → image ≡ get_or images n image
    → all_streams exports (take (n + 1) images) ≡ all_streams exports (take n images) ++ own_at exports n image
next_streams exports images n image within is =
    ap (λ (l : List (List (List ℕ))). flat l) (numbered-step (own_at exports) images n image within is)
    ∙ (flat_map-append (λ (parts : List (List ℕ)). parts) (numbered (own_at exports) (take n images)) (own_at exports n image ∷ [])
    ∙ ap (λ (l : List (List ℕ)). all_streams exports (take n images) ++ l) (append-nil (own_at exports n image)))

-- the streams of one image more are put
pub record IsNext (exports : List (List Export)) (images : List Img) (n : ℕ) (streams : StreamBytes) (own : List Export) : Type 0 where
  pub image : Img
  pub within : n < length images
  pub image_is : image ≡ get_or images n image
  pub streams_is : streams ≡ image.streams
  pub own_is : own ≡ get_or exports n []

-- what a loop over images and their exports has at a number
pub is_next : (vs : List (Vec Export Global)) (images : List Img) (n : ℕ) (image : Img) (v : Vec Export Global) (streams : StreamBytes) (own : List Export) → length vs ≡ length images → n < length images
    → image ≡ get_or images n image → v ≡ get_or vs n v → streams ≡ image.streams → own ≡ v.items → IsNext (map (λ e. e.items) vs) images n streams own
is_next vs images n image v streams own one_each within image_is v_is streams_is own_is = record {
  image = image;
  within = within;
  image_is = image_is;
  streams_is = streams_is;
  own_is = own_is ∙ exports_there vs n v (omega (arith, one_each, within)) v_is;
}

whole_next : (exports : List (List Export)) (images : List Img) (n : ℕ) (streams : StreamBytes) (own : List Export) → IsNext exports images n streams own
    → all_streams exports (take (n + 1) images) ≡ all_streams exports (take n images) ++ own_streams streams own
whole_next exports images n streams own h =
    next_streams exports images n h.image h.within h.image_is
    ∙ ap (λ (l : List (List ℕ)). all_streams exports (take n images) ++ l) (sym (ap₂ (λ (s : StreamBytes) (e : List Export). own_streams s e) h.streams_is h.own_is))

pub bytes_next : (exports : List (List Export)) (images : List Img) (n : ℕ) (streams : StreamBytes) (own : List Export) (start old new : List ℕ) → IsNext exports images n streams own
    → old ≡ joined_behind start (all_streams exports (take n images)) → new ≡ joined_behind old (own_streams streams own)
    → new ≡ joined_behind start (all_streams exports (take (n + 1) images))
bytes_next exports images n streams own start old new h so_far put =
    put
    ∙ (ap (λ (l : List ℕ). joined_behind l (own_streams streams own)) so_far
    ∙ (sym (joined-append start (all_streams exports (take n images)) (own_streams streams own))
    ∙ ap (λ (l : List (List ℕ)). joined_behind start l) (sym (whole_next exports images n streams own h))))

pub spots_next : (exports : List (List Export)) (images : List Img) (n : ℕ) (streams : StreamBytes) (own : List Export) (start : ℕ) (first old : List ℕ) (olds news : List StreamSpots) (s : StreamSpots)
    → IsNext exports images n streams own → old ≡ joined_behind first (all_streams exports (take n images))
    → flat_map spans_of olds ≡ spans_behind start (length first) (lens_of (all_streams exports (take n images)))
    → spans_of s ≡ spans_behind start (length old) (lens_of (own_streams streams own)) → news ≡ olds ++ s ∷ []
    → flat_map spans_of news ≡ spans_behind start (length first) (lens_of (all_streams exports (take (n + 1) images)))
spots_next exports images n streams own start first old olds news s h bytes so_far put pushed =
    let before = all_streams exports (take n images) in
    let end : length old ≡ end_behind (length first) (lens_of before) = ap (λ (l : List ℕ). length l) bytes ∙ length-joined first before in
    ap (λ (l : List StreamSpots). flat_map spans_of l) pushed
    ∙ (flat_map-append spans_of olds (s ∷ [])
    ∙ (ap₂ (λ (a b : List Span). a ++ b) so_far (append-nil (spans_of s) ∙ (put ∙ ap (λ (k : ℕ). spans_behind start k (lens_of (own_streams streams own))) end))
    ∙ (sym (spans-append start (length first) (lens_of before) (lens_of (own_streams streams own)))
    ∙ (ap (λ (l : List ℕ). spans_behind start (length first) l) (sym (map-append (λ (part : List ℕ). length part) before (own_streams streams own)))
    ∙ ap (λ (l : List (List ℕ)). spans_behind start (length first) (lens_of l)) (sym (whole_next exports images n streams own h))))))

pub end_next : (exports : List (List Export)) (images : List Img) (n : ℕ) (streams : StreamBytes) (own : List Export) (end : ℕ) → IsNext exports images n streams own
    → end_behind end (lens_of (flat (drop n (numbered (own_at exports) images)))) ≡ end_behind (end_behind end (lens_of (own_streams streams own))) (lens_of (flat (drop (n + 1) (numbered (own_at exports) images))))
end_next exports images n streams own end h =
    let within = h.within in
    ends_more end (numbered (own_at exports) images) n (own_streams streams own) (omega (arith, many_own exports images))
    (own_there exports images n h.image streams own h.within h.image_is h.streams_is h.own_is)

pub end_last : (exports : List (List Export)) (images : List Img) (n end : ℕ) → length images ≤ n → end_behind end (lens_of (flat (drop n (numbered (own_at exports) images)))) ≡ end
end_last exports images n end past = ends_all end (numbered (own_at exports) images) n (omega (arith, many_own exports images))

-- one trie more
pub tries_next : (exports : List (List Export)) (n : ℕ) (own : List Export) → AreTries exports n → own ≡ get_or exports n [] → IsTrie own → AreTries exports (n + 1)
tries_next exports n own so_far is trie = below_more (λ (k : ℕ). IsTrie (get_or exports k [])) n so_far (subst IsTrie is trie)
