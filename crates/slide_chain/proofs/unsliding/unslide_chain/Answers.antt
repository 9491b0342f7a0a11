-- Each turn sets one word, and the words behind are as they were.
use Rattle.std.proofs.Common.{◌≡◌, ◌∙◌, ◌+◌, ◌-◌, ℕ, sym, ap, arith}
use Rattle.dsc_base.specs.Numbers.{number_at, put_number}
use Rattle.slide_chain.specs.Chains.{delta_of, moved, chain}
use Rattle.slide_chain.proofs.MovingLaws.{moving-none}
use Rattle.slide_chain.proofs.SlideLaws.{ChainFits, WordAt, following-word, following-more, following-ends, following-over}
use Rattle.slide_chain.proofs.unsliding.unslide_chain.Goals as goal

pub loop-step-init : goal.loop-step-init
loop-step-init c = record { inside = c.requires.head; state = moving-none c.args.mask c.args.value_add c.args.area.now (chain c.args.mask c.args.area.now (c.args.page + 0xFF8) 1024 c.args.head) }

pub get_u64-raw-requires : goal.get_u64-raw-requires
get_u64-raw-requires c = omega (arith, c.loop-step.invariant.inside, c.requires.inside)

pub overflow_add-at : goal.overflow_add-at
overflow_add-at c =
    let fits : ChainFits c.args.mask c.args.page c.args.area.now c.args.head = record { room = c.requires.inside; stays = c.requires.stays; apart = c.requires.apart } in
    let word : WordAt c.args.mask c.args.page c.args.area.now c.loop-step.area c.loop-step.at =
    following-word c.args.mask c.args.value_add c.args.page c.args.area.now c.loop-step.area c.args.head c.loop-step.at (1024 - c.loop-step._step) (1023 - c.loop-step._step) (omega arith) fits c.loop-step.invariant in
    let delta : c.delta-delta.result ≡ delta_of c.args.mask (number_at 8 c.args.area.now c.loop-step.at) = c.delta-delta.ensures ∙ ap (delta_of c.args.mask) (c.get_u64-raw.ensures ∙ word.same) in
    omega (arith, word.stays, delta, c.requires.inside)

pub loop-step-preserved : goal.loop-step-preserved
loop-step-preserved c =
    let fits : ChainFits c.args.mask c.args.page c.args.area.now c.args.head = record { room = c.requires.inside; stays = c.requires.stays; apart = c.requires.apart } in
    let put : c.put_u64.new.bytes ≡ put_number 8 c.loop-step.area c.loop-step.at (moved c.args.mask c.args.value_add 0 (number_at 8 c.loop-step.area c.loop-step.at)) =
    c.put_u64.ensures.put ∙ ap (put_number 8 c.loop-step.area c.loop-step.at) (c.slid.ensures ∙ ap (moved c.args.mask c.args.value_add 0) c.get_u64-raw.ensures) in
    let delta : c.delta-delta.result ≡ delta_of c.args.mask (number_at 8 c.loop-step.area c.loop-step.at) = c.delta-delta.ensures ∙ ap (delta_of c.args.mask) c.get_u64-raw.ensures in
    following-more c.args.mask c.args.value_add c.args.page c.args.area.now c.loop-step.area c.put_u64.new.bytes c.args.head c.loop-step.at (c.loop-step.at + c.delta-delta.result)
    (1024 - c.loop-step._step) (1024 - (c.loop-step._step + 1)) (omega arith) fits put (λ none. c.if-delta-eq0.false (delta ∙ none)) (ap (λ (d : ℕ). c.loop-step.at + d) delta) c.loop-step.invariant

pub returns-then-delta-eq0 : goal.returns-then-delta-eq0
returns-then-delta-eq0 c =
    let fits : ChainFits c.args.mask c.args.page c.args.area.now c.args.head = record { room = c.requires.inside; stays = c.requires.stays; apart = c.requires.apart } in
    let put : c.put_u64.new.bytes ≡ put_number 8 c.loop-step.area c.loop-step.at (moved c.args.mask c.args.value_add 0 (number_at 8 c.loop-step.area c.loop-step.at)) =
    c.put_u64.ensures.put ∙ ap (put_number 8 c.loop-step.area c.loop-step.at) (c.slid.ensures ∙ ap (moved c.args.mask c.args.value_add 0) c.get_u64-raw.ensures) in
    let delta : c.delta-delta.result ≡ delta_of c.args.mask (number_at 8 c.loop-step.area c.loop-step.at) = c.delta-delta.ensures ∙ ap (delta_of c.args.mask) c.get_u64-raw.ensures in
    following-ends c.args.mask c.args.value_add c.args.page c.args.area.now c.loop-step.area c.put_u64.new.bytes c.args.head c.loop-step.at
    (1024 - c.loop-step._step) (1023 - c.loop-step._step) (omega arith) fits put (sym delta ∙ c.if-delta-eq0.true) c.loop-step.invariant

pub returns : goal.returns
returns c = following-over c.args.mask c.args.value_add c.args.page c.args.area.now c.loop-step.area c.args.head c.loop-step.at (1024 - c.loop-step._step) (omega arith) c.loop-step.invariant
