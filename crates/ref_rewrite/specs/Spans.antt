-- The part that an image has of each mapping.
use Rattle.std.specs.Prelude.{ℕ, ◌+◌}
use Rattle.dsc_base.specs.declared.fault.Span.{Span}
use Rattle.cache_layout.specs.declared.mapping.Mapping.{Mapping}
use Rattle.cache_layout.specs.declared.mapping.Mapping.TheVariants.{Text, Writable, Fixed}
use Rattle.ref_rewrite.specs.declared.spans.Parts.{Parts}

abbrev pub span_of : Parts → Mapping → Span
span_of p Text = p.text
span_of p Writable = p.writable
span_of p Fixed = p.fixed

abbrev pub end_of : Parts → Mapping → ℕ
end_of p m = (span_of p m).at + (span_of p m).len
