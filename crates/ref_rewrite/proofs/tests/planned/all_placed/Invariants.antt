use Rattle.std.proofs.Common.{◌≡◌, ◌<◌, ℕ, [], length, get_or, map}
use Rattle.prebind.specs.Steps.{set_of}
use Rattle.prebind.specs.Words.{pointers_of, ArePlaced}
use Rattle.ref_rewrite.proofs.tests.planned.all_placed.Given as goal

abbrev pub invariant-loop-number : goal.invariant-loop-number
invariant-loop-number l = record {
  many : length l.placed.items ≡ l.number;
  each : (k : ℕ) → k < l.number → ArePlaced (pointers_of (set_of l.set) k) (get_or (map (λ w. w.items) l.placed.items) k []);
}
