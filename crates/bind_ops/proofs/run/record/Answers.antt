use Rattle.std.proofs.Common.{◌+◌, ◌%◌, ◌^◌, ◌∙◌, length, refl, sym, ap, Option, arith}
use Rattle.std.specs.Prelude.{option_map, Result}
use Rattle.macho_image.specs.Runs.{progression, first_fault}
use Rattle.macho_image.specs.Streams.{site_in}
use Rattle.macho_image.proofs.RunLaws.{running_start, running_step, running_fault}
use Rattle.bind_ops.specs.declared.fault.BindFault.{BindFault}
use Rattle.bind_ops.specs.Binds.{bound_at, record_fault}
use Rattle.bind_ops.specs.Records.{BoundWord}
use Rattle.bind_ops.specs.Faults.{Reason, rule_in}
use Rattle.bind_ops.specs.Steps.Effects.{reason_of, because, settings_of}
use Rattle.bind_ops.proofs.BindLaws.{refused_as}
use Rattle.bind_ops.proofs.run.record.Goals as goal

pub loop-init : goal.loop-init
loop-init c =
    running_start (bound_at c.args.image.now (settings_of c.args.state.now)) (record_fault c.args.image.now (settings_of c.args.state.now)) c.args.state.now.offset c.args.step c.args.count c.args.out.now.items (omega arith)

pub returns-in-Err-clause-cause : goal.returns-in-Err-clause-cause
returns-in-Err-clause-cause c =
    let s = settings_of c.args.state.now in
    let found = running_fault (bound_at c.args.image.now s) (record_fault c.args.image.now s) s.offset c.args.step c.args.count c.args.out.now.items c.loop.counter c.loop.offset c.loop.out.items c.len.result (reason_of c.in-Err.fault)
    c.loop.invariant c.loop-test.true (c.len.ensures ∙ c.loop.out.ok.0) (ap (λ (r : Result BoundWord BindFault). because r) (sym c.in-Err.is) ∙ c.bind_at.ensures) in
    refused_as (option_map (site_in (rule_in c.args.kind) c.args.at) (first_fault (record_fault c.args.image.now s) (length c.args.out.now.items) (progression s.offset c.args.step c.args.count)))
    c.broken.result (site_in (rule_in c.args.kind) c.args.at (reason_of c.in-Err.fault)) c.broken.ensures
    (ap (λ (o : Option Reason). option_map (site_in (rule_in c.args.kind) c.args.at) o) found)

pub loop-preserved : goal.loop-preserved
loop-preserved c =
    running_step (bound_at c.args.image.now (settings_of c.args.state.now)) (record_fault c.args.image.now (settings_of c.args.state.now)) c.args.state.now.offset c.args.step c.args.count c.args.out.now.items c.loop.counter c.loop.offset c.loop.out.items c.len.result
    ((c.loop.offset + c.args.step) % 2 ^ 64) c.in-Ok.bind c.push.new.self.items
    c.loop.invariant c.loop-test.true (c.len.ensures ∙ c.loop.out.ok.0) c.in-Ok.ensures c.in_ok-push-in-Ok.ensures.items refl
