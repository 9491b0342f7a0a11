use Rattle.std.proofs.Common.{arith, ◌≡◌, ◌≤◌, ◌+◌, ◌-◌, ◌∙◌, ap, sym, suc, ℕ, length, length-drop, Option}
use Rattle.dsc_base.specs.declared.rule.Rule.TheVariants.{CommandShape}
use Rattle.macho_image.specs.Macho.{header_size}
use Rattle.dsc_base.specs.Refusals.{broken}
use Rattle.macho_image.proofs.Refusals.{refuses_broken}
use Rattle.macho_image.proofs.Splitting.{split_start, split_more, size_answered, size_refused, whole_piece, shape_at}
use Rattle.macho_image.proofs.command.read_commands.Goals as goal

pub loop-init : goal.loop-init
loop-init c =
    let rest = c.behind-rest.ensures in
    (omega (arith, ap length rest, length-drop 32 c.args.header.now), split_start _ _ _ _ _ c.new-commands.ensures.items (omega arith) rest)

pub returns-in_default-clause-cause : goal.returns-in_default-clause-cause
returns-in_default-clause-cause c =
    let inside : header_size c.args.header.now ≤ length c.args.header.now = omega (arith, c.number32.ensures) in
    let more : c.number32-count.result - c.loop.counter ≡ suc (c.number32-count.result - (c.loop.counter + 1)) = omega arith in
    let not_whole = size_refused _ _ (sym c.in_default.is ∙ c.whole_size.ensures) in
    refuses_broken _ _ _ c.misshapen-in_default.ensures
    (ap (λ (place : Option ℕ). broken CommandShape place) (shape_at _ _ _ _ _ _ _ inside c.number32-count.ensures c.loop.invariant.1 more not_whole))

pub invariant_of-push : goal.invariant_of-push
invariant_of-push c =
    let sized = size_answered _ _ _ (sym c.in-Some.is ∙ c.whole_size.ensures) in
    whole_piece _ _ _ _ sized.0 sized.1 c.split_at.ensures.front c.number32-in-loop.ensures

pub loop-preserved : goal.loop-preserved
loop-preserved c =
    let len : c.loop.at + c.in-Some.size + length c.split_at.result.1.now ≡ length c.args.header.now = omega (arith, c.split_at.ensures.back_len) in
    let more : c.number32-count.result - c.loop.counter ≡ suc (c.number32-count.result - (c.loop.counter + 1)) = omega arith in
    let sized = size_answered _ _ _ (sym c.in-Some.is ∙ c.whole_size.ensures) in
    (len, split_more _ _ _ _ _ _ _ _ _ _ _ c.loop.invariant.1 more sized.0 sized.1 c.split_at.ensures.front c.split_at.ensures.back c.in_ok-push.ensures.items)
