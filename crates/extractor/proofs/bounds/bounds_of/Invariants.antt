use Rattle.std.proofs.Common.{◌≡◌, ℕ, take, nat_eq}
use Rattle.indexmap.specs.IndexSet.{contains}
use Rattle.prebind.specs.Words.{is_bound}
use Rattle.extractor.proofs.bounds.bounds_of.Given as goal

abbrev pub invariant-loop-bind : goal.invariant-loop-bind
invariant-loop-bind l = (address : ℕ) → contains nat_eq l.addresses address ≡ is_bound (take l.bind-index l.binds) address
