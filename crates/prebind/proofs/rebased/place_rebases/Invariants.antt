use Rattle.std.proofs.Common.{◌≡◌, ◌++◌, take, nat_eq, false}
use Rattle.indexmap.specs.IndexMap.{get}
use Rattle.indexmap.specs.IndexSet.{contains}
use Rattle.prebind.specs.Kept.{any_breaks}
use Rattle.prebind.specs.Words.{rebased_words}
use Rattle.prebind.proofs.rebased.place_rebases.Given as goal

abbrev pub invariant-loop-word : goal.invariant-loop-word
invariant-loop-word l =
    (l.words.items ≡ l.initial.words.items ++ rebased_words l.image l.segments (contains nat_eq l.bound) (get nat_eq l.pointers) (take l.word-index l.rebases))
    × (any_breaks l.segments (contains nat_eq l.bound) (get nat_eq l.pointers) (take l.word-index l.rebases) ≡ false)
