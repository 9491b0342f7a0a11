-- The extras are kept or not, one by one.
use Rattle.std.proofs.Common.{◌≡◌, ◌∙◌, ◌++◌, ◌∷◌, [], List, ℕ, sym, ap, subst, rules, length, drop, get_or, vec_len, arith}
use Rattle.std.specs.Prelude.{nat_lt, ◌≤◌, if◌then◌else◌}
use Rattle.slide_chain.specs.Steps.Thinning.{kept_extras}
use Rattle.slide_chain.proofs.ThinLaws.{keeping-none, keeping-more, keeping-all}
use Rattle.slide_chain.proofs.thinning.keep_others.Goals as goal

pub loop-i-init : goal.loop-i-init
loop-i-init c = keeping-none c.args.extras.now c.args.repeated.now c.args.few.now.items c.args.places.now.items c.requires.empty c.requires.none

pub loop-i-preserved : goal.loop-i-preserved
loop-i-preserved c =
    let sized : vec_len c.loop-i.few ≡ length c.loop-i.few.items = search rules in
    keeping-more c.args.extras.now c.args.repeated.now c.loop-i.few.items c.push_extra.new.few.items c.loop-i.places.items c.push_place.new.places.items c.loop-i.i c.loop-i-test.true c.requires.flags
    (c.in_ok-push_place.ensures {u = tt} ∙ ap (λ (n : ℕ). c.loop-i.places.items ++ (if nat_lt c.loop-i.i 0x4000 then n ∷ [] else [])) (c.len.ensures ∙ sized))
    (c.in_ok-push_extra.ensures {u = tt}) c.loop-i.invariant

pub push_place-requires : goal.push_place-requires
push_place-requires c =
    let sized : vec_len c.loop-i.few ≡ length c.loop-i.few.items = search rules in
    omega (arith, sized, c.len.ensures, c.loop-i.invariant.short)

pub returns-clause-kept : goal.returns-clause-kept
returns-clause-kept c =
    keeping-all c.args.extras.now c.args.repeated.now c.loop-i.few.items c.loop-i.places.items c.loop-i.i c.loop-i-test.false (omega (arith, c.requires.flags, c.loop-i-test.false)) c.loop-i.invariant

pub returns-clause-count : goal.returns-clause-count
returns-clause-count c = omega (arith, c.loop-i.invariant.count, c.loop-i.auto.i-end, c.loop-i-test.false)

pub returns-clause-places : goal.returns-clause-places
returns-clause-places c = λ k within.
    let all : c.loop-i.few.items ≡ kept_extras c.args.repeated.now c.args.extras.now = returns-clause-kept c in
    subst (λ (l : List ℕ). (get_or c.loop-i.places.items k 0 ≤ k) × (drop (get_or c.loop-i.places.items k 0) l ≡ kept_extras (drop k c.args.repeated.now) (drop k c.args.extras.now))) (sym all)
    (c.loop-i.invariant.stand k within)
