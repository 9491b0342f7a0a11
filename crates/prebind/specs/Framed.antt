-- The steps of a resolution by the addresses of headers and segments alone.
use Rattle.std.specs.Prelude.{ℕ, ◌+◌, List, [], map, Option, Some, None, slice_get}
use Rattle.macho_image.specs.Places.{wrap}
use Rattle.macho_image.specs.Segments.{inside}
use Rattle.export_trie.specs.declared.export.Entry.{Entry}
use Rattle.export_trie.specs.declared.export.Target.{Target}
use Rattle.export_trie.specs.declared.export.Target.TheVariants.{Offset, Absolute, Reexport}
use Rattle.export_trie.specs.Finding.{target_in}
use Rattle.prebind.specs.declared.resolved.Resolved.{Resolved}
use Rattle.prebind.specs.declared.resolved.Resolved.TheVariants.{Constant, Absent}
use Rattle.prebind.specs.Resolves.{Step, Ends, Reexports, place_of}
use Rattle.prebind.specs.Indexed.{FrameOf, bare_segment}

-- where an export leads
abbrev pub place_in : ℕ → FrameOf → ℕ → Resolved
place_in k frame address = place_of k address (inside (map bare_segment frame.segments) address)

abbrev pub framed_place : FrameOf → ℕ → ℕ → Resolved
framed_place frame k offset = place_in k frame (wrap (frame.header + offset))

abbrev pub framed_step : FrameOf → ℕ → Target → Step
framed_step frame k (Offset offset) = Ends (framed_place frame k offset)
framed_step frame k (Absolute value) = Ends (Constant value)
framed_step frame k (Reexport ordinal name) = Reexports k ordinal name

abbrev pub frame_in : Option FrameOf → FrameOf
frame_in None = record { header = 0; segments = [] }
frame_in (Some frame) = frame

abbrev pub frame_at : List FrameOf → ℕ → FrameOf
frame_at frames k = frame_in (slice_get frames k)

abbrev pub framed_found : List FrameOf → Option (ℕ × Target) → Step
framed_found frames None = Ends Absent
framed_found frames (Some (k, target)) = framed_step (frame_at frames k) k target

-- what was found by a name
abbrev pub entry_seen : Option (ℕ × Entry) → Option (ℕ × Target)
entry_seen None = None
entry_seen (Some (k, entry)) = Some (k, target_in entry)
