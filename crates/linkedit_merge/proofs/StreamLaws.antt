-- The five streams of an image put one behind the other.
use Rattle.std.proofs.Common.{◌≡◌, ℕ, List, [], ◌∷◌, length, refl, ap, ◌∙◌, ◌++◌, ap₂, sym}
use Rattle.std.proofs.lemmas.List.{map-append}
use Rattle.dsc_base.specs.declared.fault.Span.{Span}
use Rattle.linkedit_merge.specs.Parts.{with_part, joined_behind, joined, end_with, end_behind, lens_of, span_behind, spans_behind}
use Rattle.linkedit_merge.specs.declared.streams.StreamSpots.{StreamSpots}
use Rattle.linkedit_merge.specs.Sizes.{spans_of}
use Rattle.linkedit_merge.proofs.PartLaws.{length-with_part, length-joined, joined-append, spans-append}

-- a part put behind bytes: what comes of them, and the part's range
pub record IsPut (start : ℕ) (before part after : List ℕ) (at : Span) : Type 0 where
  pub bytes : after ≡ with_part before part
  pub span : at ≡ span_behind start (length before) (length part)

pub put_bytes : (start : ℕ) (before a b c d e m n o p q : List ℕ) (s : StreamSpots)
    → IsPut start before a m s.bind → IsPut start m b n s.lazy → IsPut start n c o s.exports → IsPut start o d p s.function_starts → IsPut start p e q s.data_in_code
    → q ≡ joined_behind before (a ∷ b ∷ c ∷ d ∷ e ∷ [])
unfolding joined_behind
put_bytes start before a b c d e m n o p q s first second third fourth fifth =
    fifth.bytes ∙ ap (λ (l : List ℕ). with_part l e)
    (fourth.bytes ∙ ap (λ (l : List ℕ). with_part l d)
    (third.bytes ∙ ap (λ (l : List ℕ). with_part l c)
    (second.bytes ∙ ap (λ (l : List ℕ). with_part l b) first.bytes)))

-- the range behind a part that was put
later : (start : ℕ) (before part after next : List ℕ) (end : ℕ) → length before ≡ end → after ≡ with_part before part → length after ≡ end_with end (length part)
later start before part after next end at put = ap (λ (l : List ℕ). length l) put ∙ (length-with_part before part ∙ ap (λ (n : ℕ). end_with n (length part)) at)

five : (s t : StreamSpots) → s.bind ≡ t.bind → s.lazy ≡ t.lazy → s.exports ≡ t.exports → s.function_starts ≡ t.function_starts → s.data_in_code ≡ t.data_in_code → spans_of s ≡ spans_of t
five s t a b c d e = cc

pub put_spots : (start : ℕ) (before a b c d e m n o p q : List ℕ) (s : StreamSpots)
    → IsPut start before a m s.bind → IsPut start m b n s.lazy → IsPut start n c o s.exports → IsPut start o d p s.function_starts → IsPut start p e q s.data_in_code
    → spans_of s ≡ spans_behind start (length before) (lens_of (a ∷ b ∷ c ∷ d ∷ e ∷ []))
unfolding spans_behind
put_spots start before a b c d e m n o p q s first second third fourth fifth =
    let one = later start before a m b (length before) refl first.bytes in
    let two = later start m b n c (end_with (length before) (length a)) one second.bytes in
    let three = later start n c o d (end_with (end_with (length before) (length a)) (length b)) two third.bytes in
    let four = later start o d p e (end_with (end_with (end_with (length before) (length a)) (length b)) (length c)) three fourth.bytes in
    let t : StreamSpots = record {
      bind = span_behind start (length before) (length a);
      lazy = span_behind start (end_with (length before) (length a)) (length b);
      exports = span_behind start (end_with (end_with (length before) (length a)) (length b)) (length c);
      function_starts = span_behind start (end_with (end_with (end_with (length before) (length a)) (length b)) (length c)) (length d);
      data_in_code = span_behind start (end_with (end_with (end_with (end_with (length before) (length a)) (length b)) (length c)) (length d)) (length e);
    } in
    five s t first.span
    (second.span ∙ ap (λ (k : ℕ). span_behind start k (length b)) one)
    (third.span ∙ ap (λ (k : ℕ). span_behind start k (length c)) two)
    (fourth.span ∙ ap (λ (k : ℕ). span_behind start k (length d)) three)
    (fifth.span ∙ ap (λ (k : ℕ). span_behind start k (length e)) four)

-- the three parts that all images share, behind those of the images
pub record ArePut (start : ℕ) (own : List (List ℕ)) (a b c before m n after : List ℕ) (spans : List Span) (x y z : Span) : Type 0 where
  pub own_bytes : before ≡ joined own
  pub own_spans : spans ≡ spans_behind start 0 (lens_of own)
  pub first : IsPut start before a m x
  pub second : IsPut start m b n y
  pub third : IsPut start n c after z

pub shared_bytes : (start : ℕ) (own : List (List ℕ)) (a b c before m n after : List ℕ) (spans : List Span) (x y z : Span) → ArePut start own a b c before m n after spans x y z
    → after ≡ joined (own ++ (a ∷ b ∷ c ∷ []))
unfolding joined_behind
shared_bytes start own a b c before m n after spans x y z h =
    h.third.bytes ∙ ap (λ (l : List ℕ). with_part l c)
    (h.second.bytes ∙ ap (λ (l : List ℕ). with_part l b)
    (h.first.bytes ∙ ap (λ (l : List ℕ). with_part l a) h.own_bytes))
    ∙ sym (joined-append [] own (a ∷ b ∷ c ∷ []))

three : (p q r s t u : Span) → p ≡ s → q ≡ t → r ≡ u → ◌≡◌ {A = List Span} (p ∷ q ∷ r ∷ []) (s ∷ t ∷ u ∷ [])
three p q r s t u a b c = cc

pub shared_spans : (start : ℕ) (own : List (List ℕ)) (a b c before m n after : List ℕ) (spans : List Span) (x y z : Span) → ArePut start own a b c before m n after spans x y z
    → spans ++ (x ∷ y ∷ z ∷ []) ≡ spans_behind start 0 (lens_of (own ++ (a ∷ b ∷ c ∷ [])))
unfolding spans_behind
shared_spans start own a b c before m n after spans x y z h =
    let end = end_behind 0 (lens_of own) in
    let zero : length before ≡ end = ap (λ (l : List ℕ). length l) h.own_bytes ∙ length-joined [] own in
    let one = later start before a m b end zero h.first.bytes in
    let two = later start m b n c (end_with end (length a)) one h.second.bytes in
    ap₂ (λ (l r : List Span). l ++ r) h.own_spans
    (three x y z (span_behind start end (length a)) (span_behind start (end_with end (length a)) (length b)) (span_behind start (end_with (end_with end (length a)) (length b)) (length c))
    (h.first.span ∙ ap (λ (k : ℕ). span_behind start k (length a)) zero)
    (h.second.span ∙ ap (λ (k : ℕ). span_behind start k (length b)) one)
    (h.third.span ∙ ap (λ (k : ℕ). span_behind start k (length c)) two))
    ∙ (sym (spans-append start 0 (lens_of own) (length a ∷ length b ∷ length c ∷ []))
    ∙ ap (λ (l : List ℕ). spans_behind start 0 l) (sym (map-append (λ (part : List ℕ). length part) own (a ∷ b ∷ c ∷ []))))
