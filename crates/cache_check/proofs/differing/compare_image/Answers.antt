use Rattle.std.proofs.Common.{◌∙◌}
use Rattle.cache_check.proofs.ComparingLaws.{by_shape, by_bytes, by_exports}
use Rattle.cache_check.proofs.differing.compare_image.Goals as goal

pub returns-in-Some : goal.returns-in-Some
returns-in-Some c =
    by_shape c.args.matching.now c.args.number c.args.pointers.now c.args.references.now c.deref.result.now c.deref-2.result.now c.compare_shapes.result
    (c.deref.ensures.value ∙ c.in_ok-found.ensures.shape) (c.deref-2.ensures.value ∙ c.in_ok-wanted.ensures.shape) c.compare_shapes.ensures c.in-Some.shape c.in-Some.is

pub returns-in-Some-2 : goal.returns-in-Some-2
returns-in-Some-2 c =
    by_bytes c.args.matching.now c.args.number c.args.pointers.now c.args.references.now c.deref.result.now c.deref-2.result.now c.compare_shapes.result
    (c.deref.ensures.value ∙ c.in_ok-found.ensures.shape) (c.deref-2.ensures.value ∙ c.in_ok-wanted.ensures.shape) c.compare_shapes.ensures c.in-Some-2.place c.in_ok-place.field-0 c.bytes_of.result c.in_default.is c.in_ok-place.ensures c.in-Some-2.is c.bytes_of.ensures

pub returns : goal.returns
returns c =
    by_exports c.args.matching.now c.args.number c.args.pointers.now c.args.references.now c.deref.result.now c.deref-2.result.now c.compare_shapes.result
    (c.deref.ensures.value ∙ c.in_ok-found.ensures.shape) (c.deref-2.ensures.value ∙ c.in_ok-wanted.ensures.shape) c.compare_shapes.ensures c.in_ok-place.field-0 c.in_ok-exports.exports c.in_default.is c.in_ok-place.ensures c.in_default-2.is c.in_ok-exports.ensures
