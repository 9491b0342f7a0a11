-- Each start is moved by itself.
use Rattle.std.proofs.Common.{◌≡◌, ◌∙◌, List, Bool, length, sym, ap, subst}
use Rattle.slide_chain.specs.Steps.Thinning.{Repeats}
use Rattle.slide_chain.proofs.ThinLaws.{moved-same}
use Rattle.slide_chain.proofs.thinning.thin.Goals as goal

pub keep_others-requires-clause-flags : goal.keep_others-requires-clause-flags
keep_others-requires-clause-flags c = ap (λ (l : List Bool). length l) c.deref.ensures.value ∙ c.in_ok-repeated.ensures.flags

pub returns : goal.returns
returns c =
    let flags : c.deref.result.now ≡ c.in_ok-repeated.repeated.items = c.deref.ensures.value in
    let repeats : Repeats c.deref.result.now c.args.extras.now = subst (λ (l : List Bool). Repeats l c.args.extras.now) (sym flags) c.in_ok-repeated.ensures.repeats in
    moved-same c.args.extras.now c.deref.result.now c.keep_others.new.few.items c.keep_others.new.places.items c.args.starts.now c.loop-start.moved.items c.loop-start.start-index
    c.loop-start-test.false c.loop-start.auto.start-index-end repeats c.in_ok-keep_others.ensures.kept c.in_ok-keep_others.ensures.count c.in_ok-keep_others.ensures.places c.loop-start.invariant
