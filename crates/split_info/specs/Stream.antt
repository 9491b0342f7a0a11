-- What a split-segment stream spells: nested lists of variable-length numbers, each list behind its count. The grammar is that of DYLD_CACHE_ADJ_V2.
use Rattle.std.specs.Prelude.{ℕ, zero, suc, ◌+◌, nat_eq, if◌then◌else◌, List, slice_index, Option, Some, None, Result, Ok, Err}
use Rattle.dsc_base.specs.declared.fault.Site.{Site}
use Rattle.dsc_base.specs.declared.fault.UlebFault.{UlebFault}
use Rattle.dsc_base.specs.declared.rule.Rule.{Rule}
use Rattle.dsc_base.specs.declared.rule.Rule.TheVariants.{SplitNotV2, SplitBadUleb, SplitBadKind, SplitBadSection, SplitOutsideSection}
use Rattle.dsc_base.specs.Uleb.{uleb_at}
use Rattle.macho_image.specs.Records.{Img}
use Rattle.split_info.specs.declared.reference.RefKind.{RefKind}
use Rattle.split_info.specs.declared.reference.Reference.{Reference}
use Rattle.split_info.specs.declared.extent.Extent.{Extent}
use Rattle.split_info.specs.declared.extent.Target.{Target}
use Rattle.split_info.specs.References.{kind_of, from_section, to_section, target_in, reference_in}

-- References in reading order, each with the place of the number that completes it. They end with the lists, or at the first number that breaks a rule.
pub data Spelled : Type 0 where
  End : Spelled
  Refused : Site → Spelled
  Next : ℕ → Reference → Spelled → Spelled

-- what follows from a number and the place behind it, unless there is none
abbrev pub read : ℕ → Result (ℕ × ℕ) UlebFault → (ℕ → ℕ → Spelled) → Spelled
read at (Err fault) more = Refused (record { rule = SplitBadUleb; at = at })
read at (Ok (value, next)) more = more value next

abbrev pub number : List ℕ → ℕ → (ℕ → ℕ → Spelled) → Spelled
number bytes at more = read at (uleb_at bytes at) more

-- what follows from what a number stands for, unless it stands for nothing
abbrev pub known : {X : Type 0} → Rule → ℕ → Option X → (X → Spelled) → Spelled
known rule at None more = Refused (record { rule = rule; at = at })
known rule at (Some x) more = more x

-- A part of a stream: with the sum of the offsets so far and its place, what it spells and then what follows from the next sum and the place behind it.
abbrev pub Part : Type 0
Part = ℕ → ℕ → (ℕ → ℕ → Spelled) → Spelled

-- so many parts, one behind the other
unfoldable pub times : Part → ℕ → ℕ → ℕ → (ℕ → Spelled) → Spelled
times part zero sum at rest = rest at
times part (suc n) sum at rest = part sum at (λ more next. times part n more next rest)

-- a list: its count, and as many parts; its offsets add up from 0
abbrev pub counted : List ℕ → Part → ℕ → (ℕ → Spelled) → Spelled
counted bytes part at rest = number bytes at (λ count first. times part count 0 first rest)

-- FromOffset = from-offset-delta
abbrev pub from_offset : List ℕ → RefKind → Extent → Target → Part
from_offset bytes kind from target sum at more =
    number bytes at (λ delta next.
    known SplitOutsideSection at (reference_in kind from target (sum + delta)) (λ reference.
    Next at reference (more (sum + delta) next)))

-- Group = kind count FromOffset*
abbrev pub group : List ℕ → Extent → Target → Part
group bytes from target sum at more =
    number bytes at (λ code next.
    known SplitBadKind at (kind_of code) (λ kind.
    counted bytes (from_offset bytes kind from target) next (more sum)))

-- ToOffset = to-offset-delta count Group*
abbrev pub to_offset : List ℕ → Extent → Extent → Part
to_offset bytes from to sum at more =
    number bytes at (λ delta next.
    known SplitOutsideSection at (target_in to (sum + delta)) (λ target.
    counted bytes (group bytes from target) next (more (sum + delta))))

-- FromTo = from-section to-section count ToOffset*
abbrev pub from_to : List ℕ → Img → Part
from_to bytes image sum at more =
    number bytes at (λ one second.
    known SplitBadSection at (from_section image one) (λ from.
    number bytes second (λ other next.
    known SplitBadSection second (to_section image other) (λ to.
    counted bytes (to_offset bytes from to) next (more sum)))))

-- Whole = count FromTo*
abbrev pub whole : List ℕ → Img → ℕ → Spelled
whole bytes image at = counted bytes (from_to bytes image) at (λ next. End)

-- the stream: Whole behind DYLD_CACHE_ADJ_V2_FORMAT. What is behind the lists isn't read.
unfoldable pub spelled : List ℕ → Img → Spelled
spelled bytes image = if nat_eq (slice_index bytes 0) 0x7F then whole bytes image 1 else Refused (record { rule = SplitNotV2; at = 0 })
