-- So many parts of a stream, and what is true between the reading of a part and of the rest, which the contracts of private functions cite: Stream.antt says what a stream spells.
use Rattle.std.specs.Prelude.{◌≡◌, ℕ, List, ◌++◌, length}
use Rattle.dsc_base.specs.declared.fault.Fault.{Fault}
use Rattle.dsc_base.specs.Refusals.{IsRefusal}
use Rattle.macho_image.specs.declared.place.Location.{Location}
use Rattle.split_info.specs.declared.reference.Reference.{Reference}
use Rattle.macho_image.specs.Records.{Img}
use Rattle.split_info.specs.declared.reference.RefKind.{RefKind}
use Rattle.split_info.specs.declared.extent.Extent.{Extent}
use Rattle.split_info.specs.declared.extent.Target.{Target}
use Rattle.split_info.specs.Stream.{Spelled, times, from_offset, group, to_offset, from_to}
use Rattle.split_info.specs.Split.{references, reading_break}

-- the rest of a list of each kind, with so many left and the sum so far
abbrev pub offsets : List ℕ → RefKind → Extent → Target → ℕ → ℕ → ℕ → (ℕ → Spelled) → Spelled
offsets bytes kind from target n sum at rest = times (from_offset bytes kind from target) n sum at rest

abbrev pub groups : List ℕ → Extent → Target → ℕ → ℕ → (ℕ → Spelled) → Spelled
groups bytes from target n at rest = times (group bytes from target) n 0 at rest

abbrev pub targets : List ℕ → Extent → Extent → ℕ → ℕ → ℕ → (ℕ → Spelled) → Spelled
targets bytes from to n sum at rest = times (to_offset bytes from to) n sum at rest

abbrev pub pairs : List ℕ → Img → ℕ → ℕ → (ℕ → Spelled) → Spelled
pairs bytes image n at rest = times (from_to bytes image) n 0 at rest

-- what was read before the rest, and the rest, make the whole
pub record IsRead (rebases : List Location) (old new : List Reference) (whole rest : Spelled) : Type 0 where
  pub added : new ++ references rest ≡ old ++ references whole
  pub sound : reading_break rebases (length new) rest ≡ reading_break rebases (length old) whole

-- a part of a stream was read up to a place, whatever the rest
abbrev pub ReadsTo : List Location → List Reference → List Reference → ((ℕ → Spelled) → Spelled) → ℕ → Type 0
ReadsTo rebases old new part next = (rest : ℕ → Spelled) → IsRead rebases old new (part rest) (rest next)

-- a part of a stream is refused, whatever the rest
abbrev pub RefusesPart : List Location → List Reference → ((ℕ → Spelled) → Spelled) → Fault → Type 0
RefusesPart rebases old part fault = (rest : ℕ → Spelled) → IsRefusal (reading_break rebases (length old) (part rest)) fault
