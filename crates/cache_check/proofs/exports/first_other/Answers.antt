use Rattle.std.proofs.Common.{ℕ, length, map, max, sym, ap, ◌∙◌}
use Rattle.std.proofs.lemmas.List.{length-map}
use Rattle.cache_check.specs.Differences.{moved_export, other_at}
use Rattle.cache_check.specs.Firsts.{first_below}
use Rattle.cache_check.specs.Steps.Moving.{moved_by}
use Rattle.cache_check.proofs.ExportLaws.{same_none, other_some}
use Rattle.cache_check.proofs.FirstLaws.{none_below, none_more, found_below}
use Rattle.cache_check.proofs.exports.first_other.Goals as goal

pub loop-index-init : goal.loop-index-init
loop-index-init c = none_below (other_at c.args.found.now (map (moved_export (moved_by c.args.moving.now)) c.args.wanted.now))

pub returns-then-not-same_at-clause-first : goal.returns-then-not-same_at-clause-first
returns-then-not-same_at-clause-first c =
    sym (ap (λ (n : ℕ). first_below (other_at c.args.found.now (map (moved_export (moved_by c.args.moving.now)) c.args.wanted.now)) (max (length c.args.found.now) n)) (length-map c.args.wanted.now (moved_export (moved_by c.args.moving.now)))
    ∙ (ap (λ (n : ℕ). first_below (other_at c.args.found.now (map (moved_export (moved_by c.args.moving.now)) c.args.wanted.now)) n) (sym c.max-index-end.ensures)
    ∙ found_below (other_at c.args.found.now (map (moved_export (moved_by c.args.moving.now)) c.args.wanted.now)) c.loop-index.index c.max-index-end.result c.loop-index.index c.loop-index.invariant
    (other_some (moved_export (moved_by c.args.moving.now)) c.args.found.now c.args.wanted.now c.loop-index.index c.same_at.result c.same_at.ensures c.if-not-same_at.true) c.loop-index-test.true))

pub loop-index-preserved : goal.loop-index-preserved
loop-index-preserved c =
    none_more (other_at c.args.found.now (map (moved_export (moved_by c.args.moving.now)) c.args.wanted.now)) c.loop-index.index c.loop-index.invariant
    (same_none (moved_export (moved_by c.args.moving.now)) c.args.found.now c.args.wanted.now c.loop-index.index c.same_at.result c.same_at.ensures c.if-not-same_at.false)
