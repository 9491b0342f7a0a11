-- The cache is read whole, and then what is asked for is made of it.
use Rattle.std.proofs.lemmas.Result.{IfErr-weaker, err_from_is_err_and}
use Rattle.dsc_tool.proofs.ExtractLaws.{extract_if, extract_stops, plain_paths, view_stops}
use Rattle.dsc_tool.proofs.extraction.prepare_extract.Goals as goal

pub returns-in_err-view-clause-stop : goal.returns-in_err-view-clause-stop
returns-in_err-view-clause-stop g c =
    let p = err_from_is_err_and c.from_residual.result c.from_residual.ensures.1 in
    rw (p.1, p.2)
    (view_stops (g.S.Store.files c.args.store.now) (g.S.Store.get_faults c.args.store.now) (g.S.Store.get_faults c.read_view.new.store) c.args.name.now c.args.prefix.now c.args.image
    c.in_err-view.field-0.0 c.in_err-view.ensures.stop)

pub extract_from-requires : goal.extract_from-requires
extract_from-requires g c = plain_paths (g.S.Store.files c.args.store.now) c.args.name.now c.in_ok-view.view c.in_ok-view.ensures.view

pub returns-clause-product : goal.returns-clause-product
returns-clause-product g c =
    extract_if c.extract_from.result (g.S.Store.files c.args.store.now) c.args.name.now c.args.prefix.now c.args.image c.in_ok-view.view c.in_ok-view.ensures.view c.extract_from.ensures.product
    c.extract_from.ensures.extracted

pub returns-clause-stop : goal.returns-clause-stop
returns-clause-stop g c =
    IfErr-weaker c.extract_from.result _ _
    (λ stop is. extract_stops (g.S.Store.files c.args.store.now) (g.S.Store.get_faults c.args.store.now) (g.S.Store.get_faults c.read_view.new.store) c.args.name.now c.args.prefix.now c.args.image
    c.in_ok-view.view stop c.in_ok-view.ensures.view is)
    c.extract_from.ensures.stop
