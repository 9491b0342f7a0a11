use Rattle.std.proofs.Common.{◌+◌, ◌%◌, ◌^◌, ◌∙◌, refl, ap, Option, arith}
use Rattle.std.specs.Prelude.{option_map}
use Rattle.dsc_base.specs.declared.rule.Rule.{Rule}
use Rattle.macho_image.specs.Places.{location}
use Rattle.macho_image.proofs.RunLaws.{running_start, running_step, running_fault}
use Rattle.rebase_ops.specs.Rebases.{record_fault, site_of}
use Rattle.rebase_ops.proofs.run.record.Goals as goal

pub loop-init : goal.loop-init
loop-init c =
    running_start (location c.args.image.now c.args.cursor.segment) (record_fault c.args.image.now c.args.cursor.segment) c.args.cursor.offset c.args.step c.args.count c.args.out.now.items (omega arith)

pub returns-in-Err-clause-cause : goal.returns-in-Err-clause-cause
returns-in-Err-clause-cause c =
    ap (λ (o : Option Rule). option_map (site_of c.args.at) o)
    (running_fault (location c.args.image.now c.args.cursor.segment) (record_fault c.args.image.now c.args.cursor.segment) c.args.cursor.offset c.args.step c.args.count c.args.out.now.items c.loop.counter c.loop.offset c.loop.out.items c.len.result c.in-Err.rule
    c.loop.invariant c.loop-test.true (c.len.ensures ∙ c.loop.out.ok.0) c.in-Err.ensures)

pub loop-preserved : goal.loop-preserved
loop-preserved c =
    running_step (location c.args.image.now c.args.cursor.segment) (record_fault c.args.image.now c.args.cursor.segment) c.args.cursor.offset c.args.step c.args.count c.args.out.now.items c.loop.counter c.loop.offset c.loop.out.items c.len.result
    ((c.loop.offset + c.args.step) % 2 ^ 64) c.in-Ok.location c.push.new.self.items
    c.loop.invariant c.loop-test.true (c.len.ensures ∙ c.loop.out.ok.0) c.in-Ok.ensures c.in_ok-push-in-Ok.ensures.items refl
