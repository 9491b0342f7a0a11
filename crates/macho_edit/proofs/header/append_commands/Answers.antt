use Rattle.std.proofs.Common.{◌≡◌, ◌∙◌, true, false, arith}
use Rattle.macho_edit.specs.Cached.{is_kept}
use Rattle.macho_edit.proofs.CopyLaws.{kept_by_number, copied_start, copied_dropped, copied_kept, copied_end, count_fits}
use Rattle.macho_edit.proofs.header.append_commands.Goals as goal

pub loop-command-init : goal.loop-command-init
loop-command-init c =
    copied_start c.args.spots.now c.args.header.now c.args.moves.now c.args.out.now.items c.into_iter-command-iterator.result
    (c.into_iter-command-iterator.ensures.into_iter_gives ∙ c.new-command-items.ensures)

pub overflow_add-count : goal.overflow_add-count
overflow_add-count c =
    let kept : is_kept c.in-Some.command.bytes ≡ true =
    kept_by_number c.command.inside.number (record { at = c.command.inside.at; bytes = c.command.inside.bytes.now }) c.in-Some.command c.is_kept.result true c.command.invariant.number c.command.view_is c.is_kept.ensures c.if-is_kept.true in
    omega (
      arith,
      count_fits c.args.spots.now c.args.header.now c.args.moves.now c.args.out.now.items c.loop-command.out.items c.loop-command.left.now c.loop-command.count
          c.loop-command.command-iterator c.next.new.self c.in-Some.command c.loop-command.invariant c.in-Some.ensures.steps kept (λ k. omega (arith, c.type_inv.header k)),
    )

pub loop-command-preserved-then-is_kept : goal.loop-command-preserved-then-is_kept
loop-command-preserved-then-is_kept c =
    let kept : is_kept c.in-Some.command.bytes ≡ true =
    kept_by_number c.command.inside.number (record { at = c.command.inside.at; bytes = c.command.inside.bytes.now }) c.in-Some.command c.is_kept.result true c.command.invariant.number c.command.view_is c.is_kept.ensures c.if-is_kept.true in
    copied_kept c.args.spots.now c.args.header.now c.args.moves.now c.args.out.now.items c.loop-command.out.items c.append_command.new.out.items c.loop-command.left.now c.in_ok-left.left.now
    c.loop-command.count c.loop-command.command-iterator c.next.new.self c.in-Some.command c.loop-command.invariant c.in-Some.ensures.steps kept
    c.in_ok-left.ensures.appended c.in_ok-left.ensures.behind

pub loop-command-preserved : goal.loop-command-preserved
loop-command-preserved c =
    let dropped : is_kept c.in-Some.command.bytes ≡ false =
    kept_by_number c.command.inside.number (record { at = c.command.inside.at; bytes = c.command.inside.bytes.now }) c.in-Some.command c.is_kept.result false c.command.invariant.number c.command.view_is c.is_kept.ensures c.if-is_kept.false in
    copied_dropped c.args.spots.now c.args.header.now c.args.moves.now c.args.out.now.items c.loop-command.out.items c.loop-command.left.now
    c.loop-command.count c.loop-command.command-iterator c.next.new.self c.in-Some.command c.loop-command.invariant c.in-Some.ensures.steps dropped

pub returns-clause-appended : goal.returns-clause-appended
returns-clause-appended c =
    (copied_end c.args.spots.now c.args.header.now c.args.moves.now c.args.out.now.items c.loop-command.out.items c.loop-command.left.now c.loop-command.count
    c.loop-command.command-iterator c.loop-command.invariant c.in-None.ensures.steps.0).0

pub returns-clause-counted : goal.returns-clause-counted
returns-clause-counted c =
    (copied_end c.args.spots.now c.args.header.now c.args.moves.now c.args.out.now.items c.loop-command.out.items c.loop-command.left.now c.loop-command.count
    c.loop-command.command-iterator c.loop-command.invariant c.in-None.ensures.steps.0).1
