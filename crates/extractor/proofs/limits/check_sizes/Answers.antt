use Rattle.std.proofs.Common.{◌<◌, length, arith, subst, ◌∙◌}
use Rattle.dsc_base.specs.declared.finding_kind.FindingKind.TheVariants.{ExtractTooLarge}
use Rattle.cache_check.specs.Images.{header_place}
use Rattle.cache_check.proofs.EachLaws.{clear_more, clear_refused, clear_none, found_at}
use Rattle.extractor.specs.ExtractOf.{linkedit_of}
use Rattle.linkedit_merge.specs.Sizes.{Exceeds}
use Rattle.extractor.specs.ExtractOf.{linkedit_limit}
use Rattle.extractor.specs.Vetting.{large_finding}
use Rattle.extractor.proofs.FreeLaws.{lists_long}
use Rattle.extractor.proofs.LimitLaws.{own_words, large, small}
use Rattle.extractor.proofs.limits.check_sizes.Goals as goal

pub returns-in-Err-TooLarge : goal.returns-in-Err-TooLarge
returns-in-Err-TooLarge c =
    let lt : c.loop-number.number < length c.args.images.now = omega (arith, c.loop-number-test.true, c.requires.many) in
    let within : c.loop-number.number < length c.args.free.now = omega (arith, lt, c.requires.free.count, lists_long c.args.free.now) in
    let own = c.deref.ensures.value ∙ own_words c.args.start c.args.words.now c.args.images.now c.args.free.now c.loop-number.number c.index-images-number.result c.index-free-number.result c.requires.free lt within c.index-images-number.is c.index-free-number.is in
    let over = subst (Exceeds linkedit_limit (length (linkedit_of c.index-images-number.result c.deref.result.now))) c.in-Err-TooLarge.field-0-is c.in-Err-TooLarge.ensures.cause in
    clear_refused (large_finding c.args.start c.args.words.now c.args.images.now) c.args.entries.now c.loop-number.number c.index-entries-number.result c.found.result c.loop-number.invariant c.loop-number-test.true c.index-entries-number.is
    (found_at (large_finding c.args.start c.args.words.now c.args.images.now c.loop-number.number c.index-entries-number.result) ExtractTooLarge c.loop-number.number (header_place c.index-entries-number.result) c.header_place-at.result c.found.result
    (large c.args.start c.args.words.now c.args.images.now c.loop-number.number c.index-images-number.result c.deref.result.now c.index-entries-number.result lt c.index-images-number.is own over) c.header_place-at.ensures c.found.ensures)

pub loop-number-preserved : goal.loop-number-preserved
loop-number-preserved c =
    let lt : c.loop-number.number < length c.args.images.now = omega (arith, c.loop-number-test.true, c.requires.many) in
    let within : c.loop-number.number < length c.args.free.now = omega (arith, lt, c.requires.free.count, lists_long c.args.free.now) in
    let own = c.deref.ensures.value ∙ own_words c.args.start c.args.words.now c.args.images.now c.args.free.now c.loop-number.number c.index-images-number.result c.index-free-number.result c.requires.free lt within c.index-images-number.is c.index-free-number.is in
    clear_more (large_finding c.args.start c.args.words.now c.args.images.now) c.args.entries.now c.loop-number.number c.index-entries-number.result c.loop-number.invariant c.loop-number-test.true c.index-entries-number.is
    (small c.args.start c.args.words.now c.args.images.now c.loop-number.number c.index-images-number.result c.deref.result.now c.index-entries-number.result lt c.index-images-number.is own c.in-Ok.ensures.small)

pub returns : goal.returns
returns c = clear_none (large_finding c.args.start c.args.words.now c.args.images.now) c.args.entries.now c.loop-number.number c.loop-number.invariant c.loop-number-test.false
