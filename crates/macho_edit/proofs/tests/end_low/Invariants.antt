use Rattle.std.proofs.Common.{◌≡◌, ◌<◌, ◌+◌, ◌^◌, false, ℕ, get_or}
use Rattle.macho_image.specs.declared.place.Moved.{Moved}
use Rattle.macho_image.specs.Records.{Seg}
use Rattle.macho_image.specs.Rules.{is_linkedit_segment}
use Rattle.macho_edit.proofs.tests.end_low.Given as goal

-- each segment before the index ends low
abbrev pub invariant-loop-i : goal.invariant-loop-i
invariant-loop-i l =
    (k : ℕ) (m : Moved) (s : Seg) → k < l.i → is_linkedit_segment (get_or l.segments k s) ≡ false → (get_or l.moves k m).file + (get_or l.segments k s).vmsize < 2 ^ 32
