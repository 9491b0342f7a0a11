-- What the spans of an image hold once its plan is carried out, and three ranges of images joined.
use Rattle.std.specs.Prelude.{ℕ, ◌+◌, ◌-◌, Bool, ◌&&◌, nat_le, List, [], ◌∷◌, ◌++◌, map, filter, flat_map, take, drop, replicate, length}
use Rattle.dsc_base.specs.declared.edits.Edit.{Edit}
use Rattle.dsc_base.specs.declared.fault.Span.{Span}
use Rattle.dsc_base.specs.Edits.{put_all}
use Rattle.ref_rewrite.specs.Plans.{Part, Plan, header_of}

-- whether n bytes from an offset lie wholly in the span
abbrev pub lies_in : Span → ℕ → ℕ → Bool
lies_in span at n = nat_le span.at at && nat_le (at + n) (span.at + span.len)

-- the edits that lie in the span, their places counted from its start
abbrev pub edits_in : Span → List Edit → List Edit
edits_in span es =
    map (λ e. record { at = e.at - span.at; width = e.width; value = e.value }) (filter (λ e. lies_in span e.at e.width) es)

-- the parts that lie in the span, their places counted from its start
abbrev pub parts_in : Span → List Part → List Part
parts_in span cs =
    map (λ c. record { at = c.at - span.at; bytes = c.bytes }) (filter (λ c. lies_in span c.at (length c.bytes)) cs)

-- the bytes with others written over them from a place on
unfoldable pub put_bytes : List ℕ → ℕ → List ℕ → List ℕ
put_bytes bytes at new = take at bytes ++ (new ++ drop (at + length new) bytes)

-- the bytes after all the parts, in order
unfoldable pub put_parts : List Part → List ℕ → List ℕ
put_parts [] bytes = bytes
put_parts (c ∷ cs) bytes = put_parts cs (put_bytes bytes c.at c.bytes)

-- a span of the image: zeros, over them the copies in order, over these the header, and over it the edits
unfoldable pub rewritten : Plan → Span → List ℕ
rewritten p span =
    put_all (edits_in span p.edits) (put_parts (parts_in span (p.copies ++ header_of p ∷ [])) (replicate span.len 0))

-- one span of each image, one after another
unfoldable pub joined : (Plan → Span) → List Plan → List ℕ
joined span plans = flat_map (λ p. rewritten p (span p)) plans
