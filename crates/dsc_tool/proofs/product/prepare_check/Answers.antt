-- The cache is read and then the files behind it, or it isn't read.
use Rattle.std.proofs.Common.{sym}
use Rattle.std.proofs.lemmas.Result.{IfErr-weaker, IfOk-weaker}
use Rattle.dsc_tool.specs.Steps.{made_of}
use Rattle.dsc_tool.proofs.CheckLaws.{checked_behind, halted_stops, halted_works, stopped_behind}
use Rattle.dsc_tool.proofs.product.prepare_check.Goals as goal

pub returns-in-Ok-clause-product : goal.returns-in-Ok-clause-product
returns-in-Ok-clause-product g c =
    IfOk-weaker c.check_files.result _ _
    (λ p checked. checked_behind (g.S.Store.files c.args.store.now) (g.S.Store.files c.read_cache.new.store) (g.S.Store.get_faults c.args.store.now) (g.S.Store.get_faults c.check_files.new.store)
    c.args.name.now c.args.inputs.now c.in-Ok.cache.items c.deref.result.now (made_of p) c.in-Ok.ensures.files (sym c.deref.ensures.value) c.in-Ok.ensures.there c.in-Ok.ensures.within checked)
    c.check_files.ensures.product

pub returns-in-Ok-clause-stop : goal.returns-in-Ok-clause-stop
returns-in-Ok-clause-stop g c =
    IfErr-weaker c.check_files.result _ _
    (λ stop stops. stopped_behind (g.S.Store.files c.args.store.now) (g.S.Store.files c.read_cache.new.store) (g.S.Store.get_faults c.args.store.now) (g.S.Store.get_faults c.read_cache.new.store)
    (g.S.Store.get_faults c.check_files.new.store) c.args.name.now c.args.inputs.now c.in-Ok.cache.items c.deref.result.now stop c.in-Ok.ensures.files (sym c.deref.ensures.value) c.in-Ok.ensures.there
    c.in-Ok.ensures.within c.in-Ok.ensures.get_count stops)
    c.check_files.ensures.stop

pub returns-in-Err-clause-product : goal.returns-in-Err-clause-product
returns-in-Err-clause-product g c =
    IfOk-weaker c.check_halted.result _ _ (λ p is. halted_works _ _ _ c.args.name.now c.args.inputs.now c.in-Err.stop (made_of p) c.in-Err.ensures.cause is) c.check_halted.ensures.product

pub returns-in-Err-clause-stop : goal.returns-in-Err-clause-stop
returns-in-Err-clause-stop g c =
    IfErr-weaker c.check_halted.result _ _ (λ s is. halted_stops _ _ _ c.args.name.now c.args.inputs.now c.in-Err.stop s c.in-Err.ensures.cause is) c.check_halted.ensures.stop
