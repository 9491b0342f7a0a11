-- A mapping once the plans of all images are carried out: the pages of its segments with the words of all images set.
use Rattle.std.proofs.Common.{◌≡◌, ◌≤◌, ◌<◌, ◌⊎◌, ℕ, ◌+◌, ◌-◌, Bool, cond, Option, Some, List, [], ◌∷◌, ◌++◌, length, map, filter, take, get_or, refl, sym, ap, ap₂, ◌∙◌, subst, arith, inl, inr, append_assoc, length-append}
use Rattle.std.specs.Prelude.{slice_get, slice_index_or}
use Rattle.std.specs.List.{All, flat_map, enumerate_from}
use Rattle.std.proofs.lemmas.Bool.{cases_Bool}
use Rattle.std.proofs.lemmas.List.{take_at}
use Rattle.std.proofs.lemmas.List.Elements.{All-head, All-tail}
use Rattle.std.proofs.lemmas.List.Sums.{sum_by_push, sum_by-cons, sum_by-append}
use Rattle.std.proofs.lemmas.Option.{slice_get_read}
use Rattle.dsc_base.specs.declared.edits.Edit.{Edit}
use Rattle.dsc_base.specs.declared.fault.Span.{Span}
use Rattle.dsc_base.specs.Edits.{put_all, AllInside, further}
use Rattle.dsc_base.proofs.EditLaws.{length-put_all, put_all-append, put_all-append_left, put_all-append_right}
use Rattle.macho_image.specs.Records.{Img}
use Rattle.macho_image.specs.Segments.{segments_in}
use Rattle.prebind.specs.declared.resolved.PlacedWord.{PlacedWord}
use Rattle.prebind.specs.Sets.{ImageSet}
use Rattle.prebind.specs.Words.{streams_at}
use Rattle.cache_layout.specs.declared.mapping.Mapping.{Mapping}
use Rattle.cache_layout.specs.declared.mapping.Mapping.TheVariants.{Text, Writable, Fixed}
use Rattle.cache_layout.specs.Places.{is_same, segments_room, images_room, mapping_start, image_start}
use Rattle.cache_layout.specs.Layouts.{Laid, layout_of}
use Rattle.cache_layout.specs.Apart.{range_in}
use Rattle.cache_layout.specs.Parts.{image_part, mapping_part}
use Rattle.cache_layout.proofs.PlaceLaws.{range_in-is}
use Rattle.cache_layout.proofs.SpanLaws.{image_ends}
use Rattle.ref_rewrite.specs.Plans.{Plan, IsInside, IsOwn, IsSoundPlan}
use Rattle.ref_rewrite.specs.Planned.{IsLayout, span_in, plan_of, plan_in, plans_of, with_header, with_headers}
use Rattle.ref_rewrite.specs.Pages.{segment_pages, all_pages, part_of, all_edits}
use Rattle.ref_rewrite.specs.Rewritten.{lies_in, edits_in, rewritten, joined}
use Rattle.ref_rewrite.proofs.SpanLaws.{inside, edits_in-append}
use Rattle.ref_rewrite.proofs.RewrittenLaws.{laid, length-laid, edits_inside}
use Rattle.ref_rewrite.proofs.FitLaws.{IsAt, IsPlanned, headed, each_sound, numbered_twice}
use Rattle.ref_rewrite.proofs.PageLaws.{away, lies_yes, same_mapping, pages_laid, rewritten_pages}

-- ---- edits counted from another place

-- each edit lies in one span where it lies in another
abbrev SameIn : Span → Span → List Edit → Type 0
SameIn u v [] = Unit {0}
SameIn u v (e ∷ es) = (lies_in v e.at e.width ≡ lies_in u e.at e.width) × SameIn u v es

same_append : (u v : Span) (xs ys : List Edit) → SameIn u v xs → SameIn u v ys → SameIn u v (xs ++ ys)
same_append u v [] ys front back = back
same_append u v (x ∷ xs) ys front back = (front.0, same_append u v xs ys front.1 back)

edits_shift : (u v : Span) (d : ℕ) (es : List Edit) → u.at ≡ v.at + d → SameIn u v es → edits_in v es ≡ map (further d) (edits_in u es)
edits_shift u v d [] place same = refl
edits_shift u v d (e ∷ es) place same =
    let shift_u : Edit → Edit = λ x. record { at = x.at - u.at; width = x.width; value = x.value } in
    let shift_v : Edit → Edit = λ x. record { at = x.at - v.at; width = x.width; value = x.value } in
    let rest_u : List Edit = filter (λ x. lies_in u x.at x.width) es in
    let rest_v : List Edit = filter (λ x. lies_in v x.at x.width) es in
    let later : map shift_v rest_v ≡ map (further d) (map shift_u rest_u) = edits_shift u v d es place same.1 in
    elim (cases_Bool (lies_in u e.at e.width)) [
      | inl yes' ↦
          let within : IsInside u e.at e.width = inside u e.at e.width yes' in
          let at : e.at - v.at ≡ d + (e.at - u.at) = omega (arith, place, within.0) in
          ap (λ (t : Bool). map shift_v (cond t (e ∷ rest_v) rest_v)) (same.0 ∙ yes')
          ∙ (ap₂ (λ (x : ℕ) (xs : List Edit). record { at = x; width = e.width; value = e.value } ∷ xs) at later
          ∙ sym (ap (λ (t : Bool). map (further d) (map shift_u (cond t (e ∷ rest_u) rest_u))) yes'))
      | inr no' ↦
          ap (λ (t : Bool). map shift_v (cond t (e ∷ rest_v) rest_v)) (same.0 ∙ no')
          ∙ (later ∙ sym (ap (λ (t : Bool). map (further d) (map shift_u (cond t (e ∷ rest_u) rest_u))) no'))
    ]

no_further : (es : List Edit) → map (further 0) es ≡ es
no_further [] = refl
no_further (e ∷ es) = (let at : 0 + e.at ≡ e.at = omega arith in ap₂ (λ (x : ℕ) (xs : List Edit). record { at = x; width = e.width; value = e.value } ∷ xs) at (no_further es))

-- ---- an image's own edits

-- a part of a mapping's range that holds the image's part
record Holds (is : List Img) (m : Mapping) (k : ℕ) (i : Img) (t : Span) : Type 0 where
  low : mapping_start m is ≤ t.at
  high : t.at + t.len ≤ mapping_start m is + images_room m is
  from : t.at ≤ (span_in m is k i).at
  to : (span_in m is k i).at + (span_in m is k i).len ≤ t.at + t.len

lies_as : (is : List Img) (m n : Mapping) (k : ℕ) (i : Img) (t : Span) (at w : ℕ) → IsAt is k i → Holds is m k i t → IsInside (span_in n is k i) at w → 0 < w → lies_in t at w ≡ is_same m n
lies_as is m n k i t at w there holds own some =
    let other = image_ends n is k i there.lt there.at in
    elim (cases_Bool (is_same m n)) [
      | inl same ↦
          let here : IsInside (span_in m is k i) at w = subst (λ (x : Mapping). IsInside (span_in x is k i) at w) (same_mapping m n same) own in
          lies_yes t at w (omega (arith, holds.from, here.0)) (omega (arith, here.1, holds.to)) ∙ sym same
      | inr apart ↦ elim (cases_Bool (lies_in t at w)) [
        | inr out ↦ out ∙ sym apart
        | inl lies ↦
            let within : IsInside t at w = inside t at w lies in
            let none : w ≡ 0 = away is m n at w apart (omega (arith, within.0, holds.low)) (omega (arith, within.1, holds.high)) (omega (arith, own.0)) (omega (arith, own.1, other)) in
            absurd (omega (arith, none, some))
      ]
    ]

own_part : (set : ImageSet) (placed : List (List PlacedWord)) (headers : List (List ℕ)) (k : ℕ) (i : Img) (at w : ℕ) → IsOwn (headed set placed headers k i) at w → (n : Mapping) × IsInside (span_in n set.images k i) at w
unfolding plan_of
own_part set placed headers k i at w (inl text) = (Text, text)
own_part set placed headers k i at w (inr (inl writable)) = (Writable, writable)
own_part set placed headers k i at w (inr (inr fixed)) = (Fixed, fixed)

some_wide : (w : ℕ) → (w ≡ 4) ⊎ (w ≡ 8) → 0 < w
some_wide w (inl four) = omega (arith, four)
some_wide w (inr eight) = omega (arith, eight)

same_own : (set : ImageSet) (placed : List (List PlacedWord)) (headers : List (List ℕ)) (m : Mapping) (k : ℕ) (i : Img) (u v : Span) (es : List Edit) → IsAt set.images k i → Holds set.images m k i u → Holds set.images m k i v
    → All (λ (e : Edit). IsOwn (headed set placed headers k i) e.at e.width) es → All (λ (e : Edit). (e.width ≡ 4) ⊎ (e.width ≡ 8)) es → SameIn u v es
same_own set placed headers m k i u v [] at one two own wide = tt
same_own set placed headers m k i u v (e ∷ es) at one two own wide =
    let is : List Img = set.images in
    let P : Edit → Type 0 = λ x. IsOwn (headed set placed headers k i) x.at x.width in
    let W : Edit → Type 0 = λ x. (x.width ≡ 4) ⊎ (x.width ≡ 8) in
    let part = own_part set placed headers k i e.at e.width (All-head P e es own) in
    let some : 0 < e.width = some_wide e.width (All-head W e es wide) in (
      lies_as is m part.0 k i v e.at e.width at two part.1 some ∙ sym (lies_as is m part.0 k i u e.at e.width at one part.1 some),
      same_own set placed headers m k i u v es at one two (All-tail P e es own) (All-tail W e es wide),
    )

-- ---- the images from one on

get_there : (before rest : List Img) (i : Img) → get_or (before ++ i ∷ rest) (length before) i ≡ i
get_there [] rest i = refl
get_there (b ∷ before) rest i = get_there before rest i

-- image i behind some others
pub record IsNext (set : ImageSet) (m : Mapping) (before rest : List Img) (i : Img) : Type 0 where
  pub at : IsAt set.images (length before) i
  pub start : (span_in m set.images (length before) i).at ≡ image_start set.images before m
  pub next : image_start set.images (before ++ i ∷ []) m ≡ image_start set.images before m + segments_room m i.segments
  pub ends : image_start set.images (before ++ i ∷ []) m ≤ mapping_start m set.images + images_room m set.images
  pub count : length (before ++ i ∷ []) ≡ length before + 1
  pub rest_all : set.images ≡ (before ++ i ∷ []) ++ rest

pub next_of : (set : ImageSet) (placed : List (List PlacedWord)) (headers : List (List ℕ)) (m : Mapping) (before rest : List Img) (i : Img) → IsPlanned set placed headers → set.images ≡ before ++ i ∷ rest → IsNext set m before rest i
next_of set placed headers m before rest i given all =
    let is : List Img = set.images in
    let k : ℕ = length before in
    let lt : k < length is = omega (arith, ap (λ (xs : List Img). length xs) all, length-append before (i ∷ rest)) in
    let at : i ≡ get_or is k i = sym (ap (λ (xs : List Img). get_or xs k i) all ∙ get_there before rest i) in
    let taken : take k is ≡ before = ap (take k) all ∙ take_at before (i ∷ rest) k refl in
    let more : images_room m (before ++ i ∷ []) ≡ images_room m before + segments_room m i.segments = sum_by_push (λ (j : Img). segments_room m j.segments) before i in
    let next : image_start is (before ++ i ∷ []) m ≡ image_start is before m + segments_room m i.segments = omega (arith, more) in
    let start : image_start is (take k is) m ≡ image_start is before m = ap (λ (xs : List Img). image_start is xs m) taken in
    record {
      at = record { none = given.none; lt = lt; at = at; sound = given.images k i lt at };
      start = start;
      next = next;
      ends = omega (arith, next, start, image_ends m is k i lt at);
      count = omega (arith, length-append before (i ∷ []));
      rest_all = all ∙ sym (append_assoc before (i ∷ []) rest);
    }

abbrev pub plans_from : ImageSet → List (List PlacedWord) → ℕ → List Img → List Plan
plans_from set placed n is = map (λ (q : ℕ × Img). plan_in (layout_of set.images) set placed q.0 q.1) (enumerate_from n is)

abbrev headed_from : ImageSet → List (List PlacedWord) → List (List ℕ) → ℕ → List Img → List Plan
headed_from set placed headers n is = map (λ (q : ℕ × Img). headed set placed headers q.0 q.1) (enumerate_from n is)

abbrev pages_in : List (List ℕ) → Mapping → ℕ × Img → List ℕ
pages_in headers m q = image_part m (segment_pages (slice_index_or headers q.0 []) (q.1).segments) (q.1).segments

pages_long : (set : ImageSet) (placed : List (List PlacedWord)) (headers : List (List ℕ)) (m : Mapping) (k : ℕ) (i : Img) → IsAt set.images k i → length (slice_index_or headers k []) ≡ length i.header → length (pages_in headers m (k, i)) ≡ segments_room m i.segments
unfolding laid plan_of
pages_long set placed headers m k i at long =
    ap (λ (b : List ℕ). length b) (sym (pages_laid set.images k i m (slice_index_or headers k []) at long)) ∙ length-laid (headed set placed headers k i) (span_in m set.images k i)

sized_at : (set : ImageSet) (placed : List (List PlacedWord)) (headers : List (List ℕ)) (k : ℕ) (i : Img) → IsPlanned set placed headers → IsAt set.images k i → length (slice_index_or headers k []) ≡ length i.header
sized_at set placed headers k i given at = given.sized k i (slice_get_read set.images (length set.images) k i refl at.lt at.at)

all_long : (set : ImageSet) (placed : List (List PlacedWord)) (headers : List (List ℕ)) (m : Mapping) (before rest : List Img) → IsPlanned set placed headers → set.images ≡ before ++ rest
    → length (flat_map (pages_in headers m) (enumerate_from (length before) rest)) ≡ images_room m rest
all_long set placed headers m before [] given all = refl
all_long set placed headers m before (i ∷ rest) given all =
    let n : IsNext set m before rest i = next_of set placed headers m before rest i given all in
    let k : ℕ = length before in
    let own = pages_long set placed headers m k i n.at (sized_at set placed headers k i given n.at) in
    let later : length (flat_map (pages_in headers m) (enumerate_from (k + 1) rest)) ≡ images_room m rest =
    subst (λ (c : ℕ). length (flat_map (pages_in headers m) (enumerate_from c rest)) ≡ images_room m rest) n.count (all_long set placed headers m (before ++ i ∷ []) rest given n.rest_all) in
    length-append (pages_in headers m (k, i)) (flat_map (pages_in headers m) (enumerate_from (k + 1) rest))
    ∙ (omega (arith, own, later, sum_by-cons (λ (j : Img). segments_room m j.segments) i rest))

-- the rest of a mapping's range, from a place on
record IsRest (is : List Img) (m : Mapping) (t : Span) : Type 0 where
  low : mapping_start m is ≤ t.at
  end : t.at + t.len ≡ mapping_start m is + images_room m is

holds_next : (set : ImageSet) (m : Mapping) (before rest : List Img) (i : Img) (t : Span) → IsNext set m before rest i → IsRest set.images m t → t.at ≤ image_start set.images before m → Holds set.images m (length before) i t
holds_next set m before rest i t n rest_is from =
    record { low = rest_is.low; high = omega (arith, rest_is.end); from = omega (arith, from, n.start); to = omega (arith, n.start, n.next, n.ends, rest_is.end) }

same_rest : (set : ImageSet) (placed : List (List PlacedWord)) (headers : List (List ℕ)) (m : Mapping) (u v : Span) (before rest : List Img) → IsPlanned set placed headers → set.images ≡ before ++ rest → IsRest set.images m u → IsRest set.images m v
    → u.at ≤ image_start set.images before m → v.at ≤ image_start set.images before m → SameIn u v (all_edits (plans_from set placed (length before) rest))
same_rest set placed headers m u v before [] given all one two from from' = tt
same_rest set placed headers m u v before (i ∷ rest) given all one two from from' =
    let n : IsNext set m before rest i = next_of set placed headers m before rest i given all in
    let k : ℕ = length before in
    let es : List Edit = (plan_in (layout_of set.images) set placed k i).edits in
    let sound : IsSoundPlan (headed set placed headers k i) = each_sound set placed headers given k i n.at.lt n.at.at in
    let later : SameIn u v (all_edits (plans_from set placed (k + 1) rest)) =
    subst (λ (c : ℕ). SameIn u v (all_edits (plans_from set placed c rest))) n.count (same_rest set placed headers m u v (before ++ i ∷ []) rest given n.rest_all one two (omega (arith, from, n.next)) (omega (arith, from', n.next))) in
    same_append u v es (all_edits (plans_from set placed (k + 1) rest))
    (same_own set placed headers m k i u v es n.at (holds_next set m before rest i u n one from) (holds_next set m before rest i v n two from') sound.edits sound.widths) later

-- an image's part holds itself
own_holds : (is : List Img) (m : Mapping) (k : ℕ) (i : Img) → IsAt is k i → Holds is m k i (span_in m is k i)
own_holds is m k i at = record { low = omega arith; high = image_ends m is k i at.lt at.at; from = omega arith; to = omega arith }

-- ---- the mapping

part_is : (set : ImageSet) (placed : List (List PlacedWord)) (headers : List (List ℕ)) (m : Mapping) (k : ℕ) (i : Img) → part_of m (headed set placed headers k i) ≡ span_in m set.images k i
unfolding plan_of
part_is set placed headers Text k i = refl
part_is set placed headers Writable k i = refl
part_is set placed headers Fixed k i = refl

-- edits of a first part and of the rest, each in its own bytes
two_parts : (t : Span) (s u : Span) (es fs : List Edit) (a c : List ℕ) → s.at ≡ t.at → u.at ≡ t.at + length a → length a ≡ s.len → length c ≡ u.len → SameIn s t es → SameIn u t fs
    → put_all (edits_in s es) a ++ put_all (edits_in u fs) c ≡ put_all (edits_in t (es ++ fs)) (a ++ c)
two_parts t s u es fs a c start place long rest_long first later =
    let own : edits_in t es ≡ edits_in s es = edits_shift s t 0 es (omega (arith, start)) first ∙ no_further (edits_in s es) in
    let fits : AllInside (length a) (edits_in s es) = subst (λ (n : ℕ). AllInside n (edits_in s es)) (sym long) (edits_inside s es) in
    let fits' : AllInside (length c) (edits_in u fs) = subst (λ (n : ℕ). AllInside n (edits_in u fs)) (sym rest_long) (edits_inside u fs) in
    let x : List ℕ = put_all (edits_in s es) a in
    let same : length x ≡ length a = length-put_all (edits_in s es) a fits in
    let moved : edits_in t fs ≡ map (further (length x)) (edits_in u fs) = edits_shift u t (length x) fs (omega (arith, place, same)) later in
    sym (ap (λ (xs : List Edit). put_all xs (a ++ c)) (edits_in-append t es fs)
    ∙ (put_all-append (edits_in t es) (edits_in t fs) (a ++ c)
    ∙ (ap₂ (λ (xs ys : List Edit). put_all ys (put_all xs (a ++ c))) own moved
    ∙ (ap (put_all (map (further (length x)) (edits_in u fs))) (put_all-append_left (edits_in s es) a c fits)
    ∙ put_all-append_right (edits_in u fs) x c fits'))))

from_image : (set : ImageSet) (placed : List (List PlacedWord)) (headers : List (List ℕ)) (m : Mapping) (t : Span) (before rest : List Img) → IsPlanned set placed headers → set.images ≡ before ++ rest → IsRest set.images m t → t.at ≡ image_start set.images before m
    → joined (part_of m) (headed_from set placed headers (length before) rest) ≡ put_all (edits_in t (all_edits (plans_from set placed (length before) rest))) (flat_map (pages_in headers m) (enumerate_from (length before) rest))
unfolding joined put_all
from_image set placed headers m t before [] given all tail place = refl
from_image set placed headers m t before (i ∷ rest) given all tail place =
    let is : List Img = set.images in
    let k : ℕ = length before in
    let n : IsNext set m before rest i = next_of set placed headers m before rest i given all in
    let s : Span = span_in m is k i in
    let after : List Img = before ++ i ∷ [] in
    let u : Span = record { at = image_start is after m; len = mapping_start m is + images_room m is - image_start is after m } in
    let tail_u : IsRest is m u = record { low = omega arith; end = omega (arith, n.ends) } in
    let long = sized_at set placed headers k i given n.at in
    let sound : IsSoundPlan (headed set placed headers k i) = each_sound set placed headers given k i n.at.lt n.at.at in
    let own : rewritten (headed set placed headers k i) (part_of m (headed set placed headers k i)) ≡ put_all (edits_in s (plan_in (layout_of is) set placed k i).edits) (pages_in headers m (k, i)) =
    ap (rewritten (headed set placed headers k i)) (part_is set placed headers m k i) ∙ rewritten_pages is k i (streams_at set k) (slice_index_or placed k []) headers m n.at long in
    let later : joined (part_of m) (headed_from set placed headers (k + 1) rest) ≡ put_all (edits_in u (all_edits (plans_from set placed (k + 1) rest))) (flat_map (pages_in headers m) (enumerate_from (k + 1) rest)) =
    subst (λ (c : ℕ). joined (part_of m) (headed_from set placed headers c rest) ≡ put_all (edits_in u (all_edits (plans_from set placed c rest))) (flat_map (pages_in headers m) (enumerate_from c rest))) n.count
    (from_image set placed headers m u after rest given n.rest_all tail_u refl) in
    let size : length (pages_in headers m (k, i)) ≡ segments_room m i.segments = pages_long set placed headers m k i n.at long in
    let left : length (flat_map (pages_in headers m) (enumerate_from (k + 1) rest)) ≡ images_room m rest =
    subst (λ (c : ℕ). length (flat_map (pages_in headers m) (enumerate_from c rest)) ≡ images_room m rest) n.count (all_long set placed headers m after rest given n.rest_all) in
    let whole : images_room m is ≡ images_room m after + images_room m rest = ap (images_room m) n.rest_all ∙ sum_by-append (λ (j : Img). segments_room m j.segments) after rest in
    let same : SameIn u t (all_edits (plans_from set placed (k + 1) rest)) =
    subst (λ (c : ℕ). SameIn u t (all_edits (plans_from set placed c rest))) n.count (same_rest set placed headers m u t after rest given n.rest_all tail_u tail (omega arith) (omega (arith, place, n.next))) in
    ap₂ (λ (a b : List ℕ). a ++ b) own later
    ∙ two_parts t s u (plan_in (layout_of is) set placed k i).edits (all_edits (plans_from set placed (k + 1) rest)) (pages_in headers m (k, i)) (flat_map (pages_in headers m) (enumerate_from (k + 1) rest))
    (omega (arith, n.start, place)) (omega (arith, n.next, place, size)) size (omega (arith, left, whole))
    (same_own set placed headers m k i s t (plan_in (layout_of is) set placed k i).edits n.at (own_holds is m k i n.at) (holds_next set m before rest i t n tail (omega (arith, place))) sound.edits sound.widths) same

all_pages_are : (is : List Img) (headers : List (List ℕ)) (m : Mapping) (before rest : List Img) → is ≡ before ++ rest
    → flat_map (pages_in headers m) (enumerate_from (length before) rest) ≡ flat_map (λ (p : ℕ × Img). image_part m (all_pages headers is p.0) (p.1).segments) (enumerate_from (length before) rest)
all_pages_are is headers m before [] all = refl
all_pages_are is headers m before (i ∷ rest) all =
    let k : ℕ = length before in
    let h : List ℕ = slice_index_or headers k [] in
    let found : slice_get is k ≡ Some i = ap (λ (xs : List Img). slice_get xs k) all ∙ image_there before rest i in
    let pages : ℕ × Img → List ℕ = λ p. image_part m (all_pages headers is p.0) (p.1).segments in
    let count : length (before ++ i ∷ []) ≡ k + 1 = omega (arith, length-append before (i ∷ [])) in
    let own : pages_in headers m (k, i) ≡ pages (k, i) = ap (λ (o : Option Img). image_part m (segment_pages h (segments_in o)) i.segments) (sym found) in
    let later : flat_map (pages_in headers m) (enumerate_from (k + 1) rest) ≡ flat_map pages (enumerate_from (k + 1) rest) =
    subst (λ (c : ℕ). flat_map (pages_in headers m) (enumerate_from c rest) ≡ flat_map pages (enumerate_from c rest)) count (all_pages_are is headers m (before ++ i ∷ []) rest (all ∙ sym (append_assoc before (i ∷ []) rest))) in
    ap₂ (λ (a b : List ℕ). a ++ b) own later
  where
    image_there : (before rest : List Img) (i : Img) → slice_get (before ++ i ∷ rest) (length before) ≡ Some i
    image_there [] rest i = refl
    image_there (b ∷ before) rest i = image_there before rest i

-- A mapping once all plans are carried out: the pages of its segments, in the order of the layout, with the words of all images set.
pub mapping_rewritten : (set : ImageSet) (placed : List (List PlacedWord)) (headers : List (List ℕ)) (m : Mapping) → IsPlanned set placed headers
    → joined (part_of m) (with_headers headers (plans_of (layout_of set.images) set placed))
    ≡ put_all (edits_in (range_in (layout_of set.images) m) (all_edits (plans_of (layout_of set.images) set placed))) (mapping_part m (all_pages headers set.images) set.images)
unfolding plans_of
mapping_rewritten set placed headers m given =
    let is : List Img = set.images in
    let l : Laid = layout_of is in
    let range : range_in l m ≡ record { at = mapping_start m is; len = images_room m is } = range_in-is is m in
    let t : Span = range_in l m in
    let at : t.at ≡ mapping_start m is = ap (λ (s : Span). s.at) range in
    let len : t.len ≡ images_room m is = ap (λ (s : Span). s.len) range in
    ap (λ (ps : List Plan). joined (part_of m) ps) (numbered_twice (with_header headers) (plan_in l set placed) is)
    ∙ (from_image set placed headers m t [] is given refl (record { low = omega (arith, at); end = omega (arith, at, len) }) (omega (arith, at))
    ∙ ap (put_all (edits_in t (all_edits (plans_from set placed 0 is)))) (all_pages_are is headers m [] is refl))

pub made_rewritten : (l : Laid) (set : ImageSet) (placed : List (List PlacedWord)) (plans : List Plan) (headers : List (List ℕ)) (m : Mapping) → IsLayout l set.images → plans ≡ plans_of l set placed → IsPlanned set placed headers
    → joined (part_of m) (with_headers headers plans) ≡ put_all (edits_in (range_in l m) (all_edits plans)) (mapping_part m (all_pages headers set.images) set.images)
made_rewritten l set placed plans headers m layout made given =
    let pages : List ℕ = mapping_part m (all_pages headers set.images) set.images in
    let same : plans ≡ plans_of (layout_of set.images) set placed = made ∙ ap (λ (laid : Laid). plans_of laid set placed) layout.is in
    subst (λ (laid : Laid). joined (part_of m) (with_headers headers plans) ≡ put_all (edits_in (range_in laid m) (all_edits plans)) pages) (sym layout.is)
    (subst (λ (ps : List Plan). joined (part_of m) (with_headers headers ps) ≡ put_all (edits_in (range_in (layout_of set.images) m) (all_edits ps)) pages) (sym same) (mapping_rewritten set placed headers m given))
