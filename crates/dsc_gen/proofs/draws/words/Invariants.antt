-- The words so far and those that are left.
use Rattle.std.proofs.Common.{◌≡◌, ◌-◌, ◌++◌}
use Rattle.dsc_gen.specs.Draws as spec
use Rattle.dsc_gen.proofs.draws.words.Given as goal

abbrev pub invariant-loop : goal.invariant-loop
invariant-loop l = record {
  made : l.words.items ++ spec.words (l.count - l.counter) l.generator ≡ spec.words l.count l.fn.generator;
  state : spec.after (l.count - l.counter) l.generator ≡ spec.after l.count l.fn.generator;
}
