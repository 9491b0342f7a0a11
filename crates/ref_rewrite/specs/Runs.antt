-- A run of images whose buffers are still zeros, as the halves of all images are.
use Rattle.std.specs.Prelude.{◌≡◌, ℕ, ◌+◌, List, replicate, length}
use Rattle.dsc_base.specs.declared.fault.Span.{Span}
use Rattle.ref_rewrite.specs.Plans.{Plan, Follows}

-- the spans follow one another from some offset on
abbrev pub IsRun : (Plan → Span) → List Plan → Type 0
IsRun span plans = (from : ℕ) × ((end : ℕ) × Follows span from end plans)

-- the bytes are zeros, as many as the spans of the run are long
pub record IsBlankRun (span : Plan → Span) (bytes : List ℕ) (plans : List Plan) : Type 0 where
  pub zeros : bytes ≡ replicate (length bytes) 0
  pub from : ℕ
  pub spans : Follows span from (from + length bytes) plans
