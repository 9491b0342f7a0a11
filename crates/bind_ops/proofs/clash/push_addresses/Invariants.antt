use Rattle.std.proofs.Common.{◌≡◌, ◌++◌, take}
use Rattle.macho_image.specs.Order.{addresses_of}
use Rattle.bind_ops.specs.Binds.{places_of}
use Rattle.bind_ops.proofs.clash.push_addresses.Given as goal

abbrev pub invariant-loop-bind : goal.invariant-loop-bind
invariant-loop-bind l = l.out.items ≡ l.initial.out.items ++ addresses_of (places_of (take l.bind-index l.binds))
