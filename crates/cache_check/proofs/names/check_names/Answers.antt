use Rattle.std.proofs.Common.{sym, ◌∙◌}
use Rattle.dsc_base.specs.declared.finding_kind.FindingKind.TheVariants.{NameDiffers}
use Rattle.cache_check.specs.Images.{header_place, name_finding}
use Rattle.cache_check.proofs.EachLaws.{clear_more, clear_refused, clear_none, found_at}
use Rattle.cache_check.proofs.ImageLaws.{differs, same_name}
use Rattle.cache_check.proofs.names.check_names.Goals as goal

pub loop-number-preserved : goal.loop-number-preserved
loop-number-preserved c =
    clear_more (name_finding c.args.flat.now) c.args.entries.now c.loop-number.number c.index-entries-number.result c.loop-number.invariant c.loop-number-test.true c.index-entries-number.is
    (same_name c.args.flat.now c.args.entries.now c.args.images.now c.loop-number.number c.index-entries-number.result c.index-images-number.result c.requires.images c.loop-number-test.true c.index-entries-number.is c.index-images-number.is
    (sym c.has_path.ensures ∙ c.if-not-has_path.false))

pub returns-then-not-has_path : goal.returns-then-not-has_path
returns-then-not-has_path c =
    clear_refused (name_finding c.args.flat.now) c.args.entries.now c.loop-number.number c.index-entries-number.result c.found.result c.loop-number.invariant c.loop-number-test.true c.index-entries-number.is
    (found_at (name_finding c.args.flat.now c.loop-number.number c.index-entries-number.result) NameDiffers c.loop-number.number (header_place c.index-entries-number.result) c.header_place.result c.found.result
    (differs c.args.flat.now c.args.entries.now c.args.images.now c.loop-number.number c.index-entries-number.result c.index-images-number.result c.requires.images c.loop-number-test.true c.index-entries-number.is c.index-images-number.is
    (sym c.has_path.ensures ∙ c.if-not-has_path.true)) c.header_place.ensures c.found.ensures)

pub returns : goal.returns
returns c = clear_none (name_finding c.args.flat.now) c.args.entries.now c.loop-number.number c.loop-number.invariant c.loop-number-test.false
