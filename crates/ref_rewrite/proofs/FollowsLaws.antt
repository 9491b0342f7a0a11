-- Laws of spans that follow one another: where each begins, and runs of them that are cut or joined.
use Rattle.std.proofs.Common.{◌≡◌, ◌≤◌, ◌<◌, ℕ, zero, suc, ◌+◌, List, [], ◌∷◌, take, drop, length, get_or, sum_by, subst, ◌∙◌, arith}
use Rattle.std.proofs.lemmas.List.Sums.{sum_by-cons}
use Rattle.dsc_base.specs.declared.fault.Span.{Span}
use Rattle.ref_rewrite.specs.Plans.{Plan, Follows}

-- how many bytes the spans are together
abbrev pub span_lens : (Plan → Span) → List Plan → ℕ
span_lens span ps = sum_by (λ p. (span p).len) ps

pub span_lens-cons : (span : Plan → Span) (p : Plan) (ps : List Plan) → span_lens span (p ∷ ps) ≡ (span p).len + span_lens span ps
span_lens-cons span p ps = sum_by-cons (λ (q : Plan). (span q).len) p ps

-- where the last span ends
pub Follows-end : (span : Plan → Span) (from end : ℕ) (ps : List Plan) → Follows span from end ps → end ≡ from + span_lens span ps
Follows-end span from end [] follows = omega (arith, follows)
Follows-end span from end (p ∷ ps) follows =
    let rest : end ≡ from + (span p).len + span_lens span ps = Follows-end span (from + (span p).len) end ps follows.1 in
    let all : span_lens span (p ∷ ps) ≡ (span p).len + span_lens span ps = span_lens-cons span p ps in
    omega (arith, rest, all)

-- where a span begins
pub Follows-at : (span : Plan → Span) (from end : ℕ) (ps : List Plan) (n : ℕ) (d : Plan) → Follows span from end ps → n < length ps → (span (get_or ps n d)).at ≡ from + span_lens span (take n ps)
Follows-at span from end [] n d follows lt = absurd (omega (arith, lt))
Follows-at span from end (p ∷ ps) zero d follows lt = omega (arith, follows.0)
Follows-at span from end (p ∷ ps) (suc n) d follows lt =
    let rest : (span (get_or ps n d)).at ≡ from + (span p).len + span_lens span (take n ps) = Follows-at span (from + (span p).len) end ps n d follows.1 (omega (arith, lt)) in
    let all : span_lens span (p ∷ take n ps) ≡ (span p).len + span_lens span (take n ps) = span_lens-cons span p (take n ps) in
    let sum : from + (span p).len + span_lens span (take n ps) ≡ from + span_lens span (p ∷ take n ps) = omega (arith, all) in
    rest ∙ sum

-- the first of the spans, and those behind them
pub Follows-front : (span : Plan → Span) (from end : ℕ) (ps : List Plan) (n : ℕ) → Follows span from end ps → Follows span from (from + span_lens span (take n ps)) (take n ps)
Follows-front span from end [] zero follows = omega arith
Follows-front span from end [] (suc n) follows = omega arith
Follows-front span from end (p ∷ ps) zero follows = omega arith
Follows-front span from end (p ∷ ps) (suc n) follows =
    let all : span_lens span (p ∷ take n ps) ≡ (span p).len + span_lens span (take n ps) = span_lens-cons span p (take n ps) in
    let sum : from + (span p).len + span_lens span (take n ps) ≡ from + span_lens span (p ∷ take n ps) = omega (arith, all) in
    (follows.0, subst (λ (m : ℕ). Follows span (from + (span p).len) m (take n ps)) sum (Follows-front span (from + (span p).len) end ps n follows.1))

pub Follows-back : (span : Plan → Span) (from end : ℕ) (ps : List Plan) (n : ℕ) → Follows span from end ps → Follows span (from + span_lens span (take n ps)) end (drop n ps)
Follows-back span from end [] zero follows = omega (arith, follows)
Follows-back span from end [] (suc n) follows = omega (arith, follows)
Follows-back span from end (p ∷ ps) zero follows = subst (λ (m : ℕ). Follows span m end (p ∷ ps)) (omega arith) follows
Follows-back span from end (p ∷ ps) (suc n) follows =
    let all : span_lens span (p ∷ take n ps) ≡ (span p).len + span_lens span (take n ps) = span_lens-cons span p (take n ps) in
    let sum : from + (span p).len + span_lens span (take n ps) ≡ from + span_lens span (p ∷ take n ps) = omega (arith, all) in
    subst (λ (m : ℕ). Follows span m end (drop n ps)) sum (Follows-back span (from + (span p).len) end ps n follows.1)

-- the first spans end where the range ends, or before
pub Follows-within : (span : Plan → Span) (ps : List Plan) (n : ℕ) (from end : ℕ) → Follows span from end ps → from + span_lens span (take n ps) ≤ end
Follows-within span ps n from end follows =
    let rest : end ≡ from + span_lens span (take n ps) + span_lens span (drop n ps) =
    Follows-end span (from + span_lens span (take n ps)) end (drop n ps) (Follows-back span from end ps n follows) in
    omega (arith, rest)
