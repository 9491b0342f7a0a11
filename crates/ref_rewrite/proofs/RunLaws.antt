-- Laws of runs of images: where the bytes of a run are cut, and that two halves make the whole.
use Rattle.std.proofs.Common.{◌≡◌, ◌≤◌, ◌<◌, ℕ, ◌+◌, ◌-◌, List, [], ◌∷◌, ◌++◌, take, drop, length, get_or, replicate, flat_map, refl, sym, ap, subst, ◌∙◌, arith, length-append}
use Rattle.std.proofs.lemmas.List.{take-replicate, drop-replicate, take-append-drop, append-nil}
use Rattle.std.proofs.lemmas.Grind.{flat_map-append}
use Rattle.std.proofs.Math.Seq.{take-append_seam, drop-append_seam}
use Rattle.dsc_base.specs.declared.fault.Span.{Span}
use Rattle.ref_rewrite.specs.Plans.{Plan, Follows}
use Rattle.ref_rewrite.specs.Rewritten.{rewritten, joined}
use Rattle.ref_rewrite.proofs.FollowsLaws.{span_lens, Follows-end, Follows-at, Follows-front, Follows-back, Follows-within}
use Rattle.ref_rewrite.specs.Runs.{IsRun, IsBlankRun}

-- a later span begins as far behind the first as those before it are long
pub span_start : (span : Plan → Span) (ps : List Plan) (n : ℕ) (x y : Plan) → IsRun span ps → n < length ps → x ≡ get_or ps 0 x → y ≡ get_or ps n y → (span y).at ≡ (span x).at + span_lens span (take n ps)
span_start span ps n x y run lt first later =
    let there : (span y).at ≡ run.0 + span_lens span (take n ps) = ap (λ (p : Plan). (span p).at) later ∙ Follows-at span run.0 run.1.0 ps n y run.1.1 lt in
    let here : (span x).at ≡ run.0 + span_lens span (take 0 ps) = ap (λ (p : Plan). (span p).at) first ∙ Follows-at span run.0 run.1.0 ps 0 x run.1.1 (omega (arith, lt)) in
    let none : span_lens span (take 0 ps) ≡ 0 = refl in
    omega (arith, there, here, none)

pub is_run : (span : Plan → Span) (bytes : List ℕ) (ps : List Plan) → IsBlankRun span bytes ps → IsRun span ps
is_run span bytes ps blank = (blank.from, (blank.from + length bytes, blank.spans))

-- the spans of a run have as many bytes as its buffer
pub run_len : (span : Plan → Span) (bytes : List ℕ) (ps : List Plan) → IsBlankRun span bytes ps → length bytes ≡ span_lens span ps
run_len span bytes ps blank =
    let end : blank.from + length bytes ≡ blank.from + span_lens span ps = Follows-end span blank.from (blank.from + length bytes) ps blank.spans in
    omega (arith, end)

pub cut_within : (span : Plan → Span) (bytes : List ℕ) (ps : List Plan) (n : ℕ) → IsBlankRun span bytes ps → span_lens span (take n ps) ≤ length bytes
cut_within span bytes ps n blank =
    let within : blank.from + span_lens span (take n ps) ≤ blank.from + length bytes = Follows-within span ps n blank.from (blank.from + length bytes) blank.spans in
    omega (arith, within)

-- each half of the zeros is for its half of the images
pub blank_front : (span : Plan → Span) (bytes front back : List ℕ) (ps : List Plan) (n : ℕ) → IsBlankRun span bytes ps → bytes ≡ front ++ back → length front ≡ span_lens span (take n ps) → IsBlankRun span front (take n ps)
blank_front span bytes front back ps n blank cut len =
    let whole : length bytes ≡ length front + length back = ap length cut ∙ length-append front back in
    let same : front ≡ replicate (length front) 0 =
    sym (take-append_seam front back) ∙ (ap (take (length front)) (sym cut ∙ blank.zeros) ∙ take-replicate (length front) (length bytes) 0 (omega (arith, whole))) in
    record {
      zeros = same;
      from = blank.from;
      spans = subst (λ (m : ℕ). Follows span blank.from (blank.from + m) (take n ps)) (sym len) (Follows-front span blank.from (blank.from + length bytes) ps n blank.spans);
    }

pub blank_back : (span : Plan → Span) (bytes front back : List ℕ) (ps : List Plan) (n : ℕ) → IsBlankRun span bytes ps → bytes ≡ front ++ back → length front ≡ span_lens span (take n ps) → IsBlankRun span back (drop n ps)
blank_back span bytes front back ps n blank cut len =
    let whole : length bytes ≡ length front + length back = ap length cut ∙ length-append front back in
    let same : back ≡ replicate (length bytes - length front) 0 =
    sym (drop-append_seam front back) ∙ (ap (drop (length front)) (sym cut ∙ blank.zeros) ∙ drop-replicate (length front) (length bytes) 0) in
    let end : blank.from + length bytes ≡ blank.from + span_lens span (take n ps) + length back = omega (arith, whole, len) in
    record {
      zeros = same ∙ ap (λ (m : ℕ). replicate m 0) (omega (arith, whole));
      from = blank.from + span_lens span (take n ps);
      spans = subst (λ (m : ℕ). Follows span (blank.from + span_lens span (take n ps)) m (drop n ps)) end (Follows-back span blank.from (blank.from + length bytes) ps n blank.spans);
    }

-- the only image of a run
pub only : (ps : List Plan) (x : Plan) → length ps ≡ 1 → x ≡ get_or ps 0 x → x ∷ [] ≡ ps
only [] x one is = absurd (omega (arith, one))
only (p ∷ []) x one is = ap (λ (q : Plan). q ∷ []) is
only (p ∷ (q ∷ ps)) x one is = absurd (omega (arith, one))

pub joined_halves : (span : Plan → Span) (ps : List Plan) (n : ℕ) → joined span (take n ps) ++ joined span (drop n ps) ≡ joined span ps
unfolding joined
joined_halves span ps n =
    sym (flat_map-append (λ (p : Plan). rewritten p (span p)) (take n ps) (drop n ps))
    ∙ ap (flat_map (λ (p : Plan). rewritten p (span p))) (take-append-drop n ps)

pub joined_one : (span : Plan → Span) (bytes : List ℕ) (ps : List Plan) (x : Plan) → length ps ≡ 1 → x ≡ get_or ps 0 x → bytes ≡ rewritten x (span x) → bytes ≡ joined span ps
unfolding joined
joined_one span bytes ps x one is done =
    done ∙ (sym (append-nil (rewritten x (span x))) ∙ ap (flat_map (λ (p : Plan). rewritten p (span p))) (only ps x one is))

-- no image has no bytes
pub joined_none : (span : Plan → Span) (bytes : List ℕ) (ps : List Plan) → length ps ≡ 0 → IsBlankRun span bytes ps → bytes ≡ joined span ps
unfolding joined
joined_none span bytes [] none blank =
    let len : length bytes ≡ 0 = run_len span bytes [] blank in
    blank.zeros ∙ ap (λ (m : ℕ). replicate m 0) len
joined_none span bytes (p ∷ ps) none blank = absurd (omega (arith, none))
