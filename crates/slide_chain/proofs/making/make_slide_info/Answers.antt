-- The pages give the starts and extras, and the mask has as many ones as there are bits.
use Rattle.std.proofs.Common.{◌≡◌, ◌-◌, ◌*◌, ◌/◌, ◌^◌, ◌≤◌, ◌<◌, ◌%◌, ◌∙◌, List, length, ℕ, sym, ap, ap₂, subst, arith, rules, vec_len}
use Rattle.slide_chain.specs.Chains.{Slide}
use Rattle.slide_chain.specs.Making.{info_of, page_firsts, extras_of, starts_of}
use Rattle.slide_chain.proofs.MakeLaws.{ones_of, mask_of}
use Rattle.slide_chain.proofs.RefusedLaws.{many_refused, few_accepted}
use Rattle.slide_chain.proofs.making.make_slide_info.Goals as goal

pub returns-then-len-gt-EXTRAS_LIMIT-clause-cause : goal.returns-then-len-gt-EXTRAS_LIMIT-clause-cause
unfolding info_of
returns-then-len-gt-EXTRAS_LIMIT-clause-cause c =
    let few : c.args.bits ≤ 16 = omega arith in
    let extras : c.in_ok-starts.extras.items ≡ extras_of (page_firsts (2 ^ c.args.bits - 1) 0 (c.args.data_size / 4096) c.args.words.now) =
    c.in_ok-starts.ensures.extras ∙ ap (λ (l : ℕ). extras_of (page_firsts l 0 (c.args.data_size / 4096) c.args.words.now)) (ones_of c.args.bits few) in
    let sized : vec_len c.in_ok-starts.extras ≡ length c.in_ok-starts.extras.items = search rules in
    let count : c.len-then-len-gt-EXTRAS_LIMIT.result ≡ length (extras_of (page_firsts (2 ^ c.args.bits - 1) 0 (c.args.data_size / 4096) c.args.words.now)) =
    c.len-then-len-gt-EXTRAS_LIMIT.ensures ∙ (sized ∙ ap (λ (l : List ℕ). length l) extras) in
    let first : c.len.result ≡ c.len-then-len-gt-EXTRAS_LIMIT.result = c.len.ensures ∙ sym c.len-then-len-gt-EXTRAS_LIMIT.ensures in
    let many : 0x4000 < c.len.result = c.if-len-gt-EXTRAS_LIMIT.true in
    many_refused c.args.bits c.args.data_size c.len-then-len-gt-EXTRAS_LIMIT.result c.args.words.now count (omega (arith, first, many))

pub returns-clause-info : goal.returns-clause-info
unfolding info_of
returns-clause-info c =
    let few : c.args.bits ≤ 16 = omega arith in
    let ones : 1 * 2 ^ c.args.bits % 2 ^ 64 - 1 ≡ 2 ^ c.args.bits - 1 = ones_of c.args.bits few in
    let extras : c.in_ok-starts.extras.items ≡ extras_of (page_firsts (2 ^ c.args.bits - 1) 0 (c.args.data_size / 4096) c.args.words.now) =
    c.in_ok-starts.ensures.extras ∙ ap (λ (l : ℕ). extras_of (page_firsts l 0 (c.args.data_size / 4096) c.args.words.now)) ones in
    let sized : vec_len c.in_ok-starts.extras ≡ length c.in_ok-starts.extras.items = search rules in
    let fit : c.len.result ≤ 0x4000 = c.if-len-gt-EXTRAS_LIMIT.false in
    let starts : c.in_ok-starts.starts.items ≡ starts_of 0 (page_firsts (2 ^ c.args.bits - 1) 0 (c.args.data_size / 4096) c.args.words.now) =
    c.in_ok-starts.ensures.starts (omega (arith, fit, sized, c.len.ensures)) ∙ ap (λ (l : ℕ). starts_of 0 (page_firsts l 0 (c.args.data_size / 4096) c.args.words.now)) ones in
    ap (λ (m : ℕ). let s : Slide = record { mask = m; value_add = 0; starts = c.in_ok-starts.starts.items; extras = c.in_ok-starts.extras.items } in s) (mask_of c.args.bits few)
    ∙ ap₂ (λ (a b : List ℕ). let s : Slide = record { mask = (2 ^ c.args.bits - 1) * 2 ^ 48; value_add = 0; starts = a; extras = b } in s) starts extras

pub returns-clause-made : goal.returns-clause-made
returns-clause-made c =
    let sized : vec_len c.in_ok-starts.extras ≡ length c.in_ok-starts.extras.items = search rules in
    let fit : c.len.result ≤ 0x4000 = c.if-len-gt-EXTRAS_LIMIT.false in
    record {
      bits = c.args.bits;
      some = omega arith;
      most = omega arith;
      made = returns-clause-info c;
      few = omega (arith, fit, sized, c.len.ensures);
    }

pub returns-clause-cause : goal.returns-clause-cause
returns-clause-cause c =
    few_accepted c.args.bits c.args.data_size c.args.words.now
    (subst (λ (s : Slide). length s.extras ≤ 0x4000) (returns-clause-info c) (returns-clause-made c).few)
