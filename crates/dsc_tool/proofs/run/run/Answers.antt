-- A run is its preparation, and then the putting of its product or the telling of its stop.
use Rattle.std.proofs.Common.{refl}
use Rattle.dsc_tool.proofs.DoneLaws.{check-says, done-built, done-taken}
use Rattle.dsc_tool.proofs.EndLaws.{ends-delivered, ends-stopped}
use Rattle.dsc_tool.proofs.ToldLaws.{ran}
use Rattle.dsc_tool.proofs.run.run.Goals as goal

pub returns-in-Ok-clause-ran : goal.returns-in-Ok-clause-ran
returns-in-Ok-clause-ran g c =
    ran _ _ _ _ (ends-delivered _ _ _ (g.S.Store.files c.prepare.new.store) (g.S.Store.get_faults c.prepare.new.store) (g.S.Store.put_faults c.prepare.new.store)
    c.in-Ok.product _ c.in-Ok.ensures.files c.in-Ok.ensures.put_count c.deliver.ensures.get_count c.in-Ok.ensures.product c.deliver.ensures.delivers)

pub returns-in-Err-clause-ran : goal.returns-in-Err-clause-ran
returns-in-Err-clause-ran g c =
    ran _ _ _ _ (ends-stopped _ _ _ c.in-Err.stop _ c.in-Err.ensures.stop c.in-Err.ensures.files refl c.tell_stop.ensures)

pub returns-in-Ok-clause-built : goal.returns-in-Ok-clause-built
returns-in-Ok-clause-built g c = λ files options name inputs told spelled done. done-built _ files _ _ options name inputs _ told spelled done (returns-in-Ok-clause-ran g c).ends

pub returns-in-Ok-clause-checked : goal.returns-in-Ok-clause-checked
returns-in-Ok-clause-checked g c = λ files name inputs told spelled. check-says _ files _ _ name inputs _ told spelled (returns-in-Ok-clause-ran g c).ends

pub returns-in-Err-clause-checked : goal.returns-in-Err-clause-checked
returns-in-Err-clause-checked g c = λ files name inputs told spelled. check-says _ files _ _ name inputs _ told spelled (returns-in-Err-clause-ran g c).ends

pub returns-in-Ok-clause-extracted : goal.returns-in-Ok-clause-extracted
returns-in-Ok-clause-extracted g c = λ files name prefix image told spelled done. done-taken _ files _ _ name prefix image _ told spelled done (returns-in-Ok-clause-ran g c).ends
