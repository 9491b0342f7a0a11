-- The spans of the three images follow one another in three ranges.
use Rattle.std.proofs.Common.{◌≡◌, ◌≤◌, ℕ, ◌+◌, [], ◌∷◌, All, sym, ap, subst, arith, lit≤}
use Rattle.std.proofs.lemmas.List.Elements.{All-cons}
use Rattle.dsc_base.specs.declared.fault.Span.{Span}
use Rattle.ref_rewrite.specs.Plans.{Plan, Follows, IsSoundPlan, ShareNone, Fit}
use Rattle.ref_rewrite.proofs.tests.three.Goals as goal

follow : (span : Plan → Span) (from la lb lc : ℕ) (a b c : Plan) → span a ≡ record { at = from; len = la } → span b ≡ record { at = from + la; len = lb } → span c ≡ record { at = from + la + lb; len = lc } → Follows span from (from + la + lb + lc) (a ∷ b ∷ c ∷ [])
follow span from la lb lc a b c is_a is_b is_c =
    let at_a : (span a).at ≡ from = ap (λ (s : Span). s.at) is_a in
    let at_b : (span b).at ≡ from + la = ap (λ (s : Span). s.at) is_b in
    let at_c : (span c).at ≡ from + la + lb = ap (λ (s : Span). s.at) is_c in
    let len_a : (span a).len ≡ la = ap (λ (s : Span). s.len) is_a in
    let len_b : (span b).len ≡ lb = ap (λ (s : Span). s.len) is_b in
    let len_c : (span c).len ≡ lc = ap (λ (s : Span). s.len) is_c in
    (at_a, (omega (arith, at_b, len_a), (omega (arith, at_c, len_a, len_b), omega (arith, len_a, len_b, len_c))))

apart : (a m b n : ℕ) → a + m ≤ b → ShareNone a m b n
apart a m b n le at low high from to = omega arith

apart_other : (a m b n : ℕ) → b + n ≤ a → ShareNone a m b n
apart_other a m b n le at low high from to = omega arith

pub returns : goal.returns
returns c =
    let a = c.in_ok-first in
    let b = c.in_ok-second in
    let d = c.in_ok-third in
    let none : All IsSoundPlan [] = λ k e lt. absurd (omega (arith, lt)) in
    subst (Fit 24 16 20) (sym c.in_ok-from_array.ensures.items)
    (record {
      text_at = 0x1000;
      writable_at = 0x3000;
      fixed_at = 0x2000;
      text_spans = follow (λ (p : Plan). p.text) 0x1000 8 12 4 a.field-0 b.field-0 d.field-0 a.ensures.text b.ensures.text d.ensures.text;
      writable_spans = follow (λ (p : Plan). p.writable) 0x3000 8 0 8 a.field-0 b.field-0 d.field-0 a.ensures.writable b.ensures.writable d.ensures.writable;
      fixed_spans = follow (λ (p : Plan). p.fixed) 0x2000 4 8 8 a.field-0 b.field-0 d.field-0 a.ensures.fixed b.ensures.fixed d.ensures.fixed;
      text_end = lit≤ tt;
      writable_end = lit≤ tt;
      fixed_end = lit≤ tt;
      text_from_writable = apart 0x1000 24 0x3000 16 (lit≤ tt);
      text_from_fixed = apart 0x1000 24 0x2000 20 (lit≤ tt);
      writable_from_fixed = apart_other 0x3000 16 0x2000 20 (lit≤ tt);
      each = All-cons IsSoundPlan a.field-0 (b.field-0 ∷ d.field-0 ∷ []) a.ensures.sound (All-cons IsSoundPlan b.field-0 (d.field-0 ∷ []) b.ensures.sound (All-cons IsSoundPlan d.field-0 [] d.ensures.sound none));
    })
