-- Plans of images as contracts see them, and which plans fit three buffers. All places are offsets in a cache file.
use Rattle.std.specs.Prelude.{◌≡◌, ◌≤◌, ◌<◌, ◌⊎◌, ℕ, ◌+◌, ◌^◌, List, [], ◌∷◌, All, length}
use Rattle.dsc_base.specs.declared.edits.Edit.{Edit}
use Rattle.dsc_base.specs.declared.fault.Span.{Span}
use Rattle.dsc_base.specs.Edits.{AllFit}

-- bytes to be copied to an offset
pub record Part : Type 0 where
  pub at : ℕ
  pub bytes : List ℕ

pub record Plan : Type 0 where
  pub copies : List Part
  pub edits : List Edit
  pub header : List ℕ
  pub header_at : ℕ
  pub text : Span
  pub writable : Span
  pub fixed : Span
  pub words : List ℕ

-- the header as one more part to be copied
abbrev pub header_of : Plan → Part
header_of p = record { at = p.header_at; bytes = p.header }

-- the first span begins at an offset, each next one where the one before it ends, and the last ends at `end`
abbrev pub Follows : (Plan → Span) → ℕ → ℕ → List Plan → Type 0
Follows span from end [] = from ≡ end
Follows span from end (p ∷ ps) = ((span p).at ≡ from) × Follows span (from + (span p).len) end ps

-- n bytes from an offset lie wholly in the span
abbrev pub IsInside : Span → ℕ → ℕ → Type 0
IsInside span at n = (span.at ≤ at) × (at + n ≤ span.at + span.len)

-- n bytes from an offset lie wholly in one of the image's spans
abbrev pub IsOwn : Plan → ℕ → ℕ → Type 0
IsOwn p at n = IsInside p.text at n ⊎ (IsInside p.writable at n ⊎ IsInside p.fixed at n)

-- all that is written for one image lies in its spans, and its edits are 4 or 8 bytes wide with values that fit
pub record IsSoundPlan (p : Plan) : Type 0 where
  pub copies : All (λ c. IsOwn p c.at (length c.bytes)) p.copies
  pub header : IsOwn p p.header_at (length p.header)
  pub edits : All (λ e. IsOwn p e.at e.width) p.edits
  pub widths : All (λ e. (e.width ≡ 4) ⊎ (e.width ≡ 8)) p.edits
  pub values : AllFit p.edits

-- no offset is in both ranges, each given by its start and its length
abbrev pub ShareNone : ℕ → ℕ → ℕ → ℕ → Type 0
ShareNone a m b n = (at : ℕ) → a ≤ at → at < a + m → b ≤ at → at < b + n → ⊥

-- the plans are for three buffers of these lengths, which stand for three ranges of the cache file
pub record Fit (text writable fixed : ℕ) (plans : List Plan) : Type 0 where
  pub text_at : ℕ
  pub writable_at : ℕ
  pub fixed_at : ℕ
  pub text_spans : Follows (λ p. p.text) text_at (text_at + text) plans
  pub writable_spans : Follows (λ p. p.writable) writable_at (writable_at + writable) plans
  pub fixed_spans : Follows (λ p. p.fixed) fixed_at (fixed_at + fixed) plans
  pub text_end : text_at + text ≤ 2 ^ 64
  pub writable_end : writable_at + writable ≤ 2 ^ 64
  pub fixed_end : fixed_at + fixed ≤ 2 ^ 64
  pub text_from_writable : ShareNone text_at text writable_at writable
  pub text_from_fixed : ShareNone text_at text fixed_at fixed
  pub writable_from_fixed : ShareNone writable_at writable fixed_at fixed
  pub each : All IsSoundPlan plans
