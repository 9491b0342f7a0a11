-- Parts of a linkedit one behind the other. A part that has bytes stands at the next multiple of 8, counted from the linkedit's start, with zeros before it; one that has none takes no room.
use Rattle.std.specs.Prelude.{ℕ, ◌+◌, ◌-◌, ◌*◌, ◌/◌, nat_eq, if◌then◌else◌, List, [], ◌∷◌, ◌++◌, length, map, take, drop, slice_index}
use Rattle.dsc_base.specs.Region.{padded}
use Rattle.dsc_base.specs.declared.fault.Span.{Span}

abbrev pub eight_up : ℕ → ℕ
eight_up n = (n + 7) / 8 * 8

-- a part behind bytes
unfoldable pub with_part : List ℕ → List ℕ → List ℕ
with_part before part = if nat_eq (length part) 0 then before else padded (eight_up (length before)) before ++ part

-- parts behind bytes, one after another
unfoldable pub joined_behind : List ℕ → List (List ℕ) → List ℕ
joined_behind before [] = before
joined_behind before (part ∷ parts) = joined_behind (with_part before part) parts

abbrev pub joined : List (List ℕ) → List ℕ
joined parts = joined_behind [] parts

-- the same by lengths alone
unfoldable pub end_with : ℕ → ℕ → ℕ
end_with before len = if nat_eq len 0 then before else eight_up before + len

unfoldable pub end_behind : ℕ → List ℕ → ℕ
end_behind before [] = before
end_behind before (len ∷ lens) = end_behind (end_with before len) lens

abbrev pub lens_of : List (List ℕ) → List ℕ
lens_of parts = map (λ (part : List ℕ). length part) parts

-- the range of so many bytes behind others, in a file where the linkedit starts at a place; 0 and 0 for none
unfoldable pub span_behind : ℕ → ℕ → ℕ → Span
span_behind start before len = if nat_eq len 0 then record { at = 0; len = 0 } else record { at = start + eight_up before; len = len }

-- the ranges of parts, one after another
unfoldable pub spans_behind : ℕ → ℕ → List ℕ → List Span
spans_behind start before [] = []
spans_behind start before (len ∷ lens) = span_behind start before len ∷ spans_behind start (end_with before len) lens

-- the range of part n
abbrev pub span_of : ℕ → List ℕ → ℕ → Span
span_of start lens n = span_behind start (end_behind 0 (take n lens)) (slice_index lens n)

-- the bytes of a linkedit that a range has
abbrev pub bytes_in : ℕ → List ℕ → Span → List ℕ
bytes_in start linkedit span = take span.len (drop (span.at - start) linkedit)
