use Rattle.std.proofs.Common.{◌≡◌, ◌++◌, map, filter, take}
use Rattle.ref_rewrite.specs.Planned.{leads_to_place, data_offset}
use Rattle.ref_rewrite.proofs.chained.push_chained.Given as goal

abbrev pub invariant-loop-word : goal.invariant-loop-word
invariant-loop-word l =
    l.offsets.items ≡ l.initial.offsets.items ++ map (data_offset l.moving.layout.now l.moving.number l.moving.segments.now) (filter (λ w. leads_to_place w.target) (take l.word-index l.words))
