use Rattle.std.proofs.Common.{◌++◌, Some, None}
use Rattle.macho_image.specs.Order.{addresses_of}
use Rattle.bind_ops.specs.Binds.{places_of}
use Rattle.bind_ops.proofs.ClashLaws.{ascending, ascending_alone, clash_least}
use Rattle.bind_ops.proofs.clash.words_clash.Goals as goal

pub returns-in-Some : goal.returns-in-Some
returns-in-Some c =
    let rebases = addresses_of c.args.rebases.now in
    let binds = addresses_of (places_of c.args.binds.now) in
    let lazy = addresses_of (places_of c.args.lazy.now) in
    clash_least rebases binds lazy c.deref.result.now c.deref-2.result.now c.deref-3.result.now c.deref-4.result.now
    (ascending rebases c.in_ok-rebased.rebased.items c.deref.result.now c.in_ok-rebased.ensures.moved c.in_ok-rebased.ensures.rises c.deref.ensures.value)
    (ascending_alone binds c.in_ok-bound.bound.items c.deref-2.result.now c.in_ok-bound.ensures.moved c.in_ok-bound.ensures.rises c.deref-2.ensures.value)
    (ascending_alone lazy c.in_ok-lazily.lazily.items c.deref-3.result.now c.in_ok-lazily.ensures.moved c.in_ok-lazily.ensures.rises c.deref-3.ensures.value)
    (ascending (binds ++ lazy) c.in_ok-all.all.items c.deref-4.result.now c.in_ok-all.ensures.moved c.in_ok-all.ensures.rises c.deref-4.ensures.value)
    (Some c.in-Some.at) c.in-Some.ensures

pub returns : goal.returns
returns c =
    let rebases = addresses_of c.args.rebases.now in
    let binds = addresses_of (places_of c.args.binds.now) in
    let lazy = addresses_of (places_of c.args.lazy.now) in
    clash_least rebases binds lazy c.deref.result.now c.deref-2.result.now c.deref-3.result.now c.deref-4.result.now
    (ascending rebases c.in_ok-rebased.rebased.items c.deref.result.now c.in_ok-rebased.ensures.moved c.in_ok-rebased.ensures.rises c.deref.ensures.value)
    (ascending_alone binds c.in_ok-bound.bound.items c.deref-2.result.now c.in_ok-bound.ensures.moved c.in_ok-bound.ensures.rises c.deref-2.ensures.value)
    (ascending_alone lazy c.in_ok-lazily.lazily.items c.deref-3.result.now c.in_ok-lazily.ensures.moved c.in_ok-lazily.ensures.rises c.deref-3.ensures.value)
    (ascending (binds ++ lazy) c.in_ok-all.all.items c.deref-4.result.now c.in_ok-all.ensures.moved c.in_ok-all.ensures.rises c.deref-4.ensures.value)
    None c.in-None.ensures
