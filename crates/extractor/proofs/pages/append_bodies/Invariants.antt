-- The pages so far.
use Rattle.std.proofs.Common.{◌≡◌, ◌++◌, not, filter, take}
use Rattle.std.specs.List.{flat_map}
use Rattle.macho_image.specs.Rules.{is_linkedit_segment}
use Rattle.extractor.specs.ExtractOf.{page_bytes}
use Rattle.extractor.proofs.pages.append_bodies.Given as goal

abbrev pub invariant-loop-segment : goal.invariant-loop-segment
invariant-loop-segment l = l.out.items ≡ l.initial.out.items ++ flat_map page_bytes (filter (λ s. not (is_linkedit_segment s)) (take l.segment-index l.segments))
