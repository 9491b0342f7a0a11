use Rattle.std.proofs.Common.{◌≡◌, take}
use Rattle.macho_image.specs.Order.{addresses_of}
use Rattle.bind_ops.proofs.clash.rebased_addresses.Given as goal

abbrev pub invariant-loop-rebase : goal.invariant-loop-rebase
invariant-loop-rebase l = l.addresses.items ≡ addresses_of (take l.rebase-index l.rebases)
