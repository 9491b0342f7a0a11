use Rattle.std.proofs.Common.{length, sym, ◌∙◌}
use Rattle.prebind.specs.Steps.{set_of}
use Rattle.cache_check.specs.Steps.Sides.{chain_view}
use Rattle.cache_check.proofs.VerdictLaws.{same_count, by_count, by_path, by_images}
use Rattle.cache_check.proofs.checking.compare.Goals as goal

pub returns-in-Some : goal.returns-in-Some
returns-in-Some c =
    by_count c.args.entries.now (chain_view c.args.chains) c.args.images.now (set_of c.args.set.now) c.compare_counts.result c.compare_counts.result c.compare_counts.result c.in-Some.count c.compare_counts.ensures c.in-Some.is

pub compare_paths-requires-clause-same : goal.compare_paths-requires-clause-same
compare_paths-requires-clause-same c =
    same_count (length c.args.entries.now) (length c.args.set.now.images.now) (sym c.compare_counts.ensures ∙ c.in_default.is)

pub returns-in-Some-2 : goal.returns-in-Some-2
returns-in-Some-2 c =
    by_path c.args.entries.now (chain_view c.args.chains) c.args.images.now (set_of c.args.set.now) c.compare_counts.result c.in_ok-path.field-0 c.in_ok-path.field-0 c.in-Some-2.path c.compare_counts.ensures c.in_default.is c.in_ok-path.ensures c.in-Some-2.is

pub compare_images-requires-clause-same : goal.compare_images-requires-clause-same
compare_images-requires-clause-same c =
    c.requires.same ∙ same_count (length c.args.entries.now) (length c.args.set.now.images.now) (sym c.compare_counts.ensures ∙ c.in_default.is)

pub returns : goal.returns
returns c =
    by_images c.args.entries.now (chain_view c.args.chains) c.args.images.now (set_of c.args.set.now) c.compare_counts.result c.in_ok-path.field-0 c.in_ok-found.found c.compare_counts.ensures c.in_default.is c.in_ok-path.ensures c.in_default-2.is
    c.in_ok-found.ensures
