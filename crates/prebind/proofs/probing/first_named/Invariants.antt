use Rattle.std.proofs.Common.{◌≡◌, ◌+◌, drop}
use Rattle.prebind.specs.Resolves.{first_exporting}
use Rattle.prebind.specs.Probes.{searched}
use Rattle.prebind.proofs.probing.first_named.Given as goal

abbrev pub invariant-loop-image : goal.invariant-loop-image
invariant-loop-image g l = record {
  first : first_exporting l.names l.name (drop l.image-index l.order) ≡ first_exporting l.names l.name l.order;
  counted : l.steps + searched l.names l.name (drop l.image-index l.order) ≡ l.initial.steps + searched l.names l.name l.order;
}
