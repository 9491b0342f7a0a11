-- The references that the split-segment information of an image spells, and the first rule that it breaks.
use Rattle.std.specs.Prelude.{◌≡◌, ◌≤◌, ℕ, ◌+◌, Bool, true, false, not, ◌&&◌, nat_lt, nat_le, nat_eq, if◌then◌else◌, List, [], ◌∷◌, length, count_by, Option, Some, None, option_map, slice_get}
use Rattle.std.specs.List.{list_any, All, AllPairs}
use Rattle.std.specs.Option.{option_or}
use Rattle.dsc_base.specs.declared.fault.Site.{Site}
use Rattle.dsc_base.specs.declared.rule.Rule.{Rule}
use Rattle.dsc_base.specs.declared.rule.Rule.TheVariants.{NoSplitInfo, SplitPointerNotRebased, SplitTooMany, SplitOverlap}
use Rattle.macho_image.specs.Records.{Img, Seg}
use Rattle.macho_image.specs.Rules.{is_linkedit_segment}
use Rattle.dsc_base.specs.Refusals.{broken}
use Rattle.macho_image.specs.declared.section.Section.{Section}
use Rattle.macho_image.specs.declared.place.Location.{Location}
use Rattle.split_info.specs.declared.reference.Reference.{Reference}
use Rattle.split_info.specs.declared.extent.Extent.{Extent}
use Rattle.split_info.specs.References.{width_of, to_section}
use Rattle.split_info.specs.Stream.{Spelled, End, Refused, Next, spelled}
use Rattle.split_info.specs.Overlap.{is_pointer, meets, strays, overlap_at}
use Rattle.dsc_base.specs.Limits.{record_limit}

-- rule 101: segments besides `__LINKEDIT` can move apart, and no command tells what leads from one to another
abbrev pub is_unsplit : Img → Bool
is_unsplit image = nat_lt 1 (count_by (λ (s : Seg). not (is_linkedit_segment s)) image.segments)

unfoldable pub spelled_of : Option (List ℕ) → Img → Spelled
spelled_of None image = if is_unsplit image then Refused (record { rule = NoSplitInfo; at = 0 }) else End
spelled_of (Some bytes) image = spelled bytes image

abbrev pub references : Spelled → List Reference
references End = []
references (Refused site) = []
references (Next at r more) = r ∷ references more

-- the references of an image, in reading order
unfoldable pub references_of : Option (List ℕ) → Img → List Reference
references_of stream image = references (spelled_of stream image)

abbrev pub is_rebased : List Location → Reference → Bool
is_rebased rebases r = list_any (λ (l : Location). nat_eq l.address r.from) rebases

-- rules 107 and 108 of a reference, after so many
abbrev pub reference_fault : List Location → ℕ → Reference → Option Rule
reference_fault rebases before r =
    if is_pointer r.kind && not (is_rebased rebases r) then Some SplitPointerNotRebased else
    (if nat_le record_limit before then Some SplitTooMany else None)

abbrev pub site_at : ℕ → Rule → Site
site_at at rule = record { rule = rule; at = at }

-- the first of rules 101 to 108 that is broken, after so many references
abbrev pub reading_break : List Location → ℕ → Spelled → Option Site
reading_break rebases before End = None
reading_break rebases before (Refused site) = Some site
reading_break rebases before (Next at r more) = option_or (option_map (site_at at) (reference_fault rebases before r)) (reading_break rebases (before + 1) more)

-- the first of rules 101 to 109 that the split-segment information of an image breaks, by where its rebases and binds are
unfoldable pub split_break : Option (List ℕ) → Img → List Location → List Location → Option Site
split_break stream image rebases bound =
    option_or (reading_break rebases 0 (spelled_of stream image)) (broken SplitOverlap (overlap_at rebases bound (references_of stream image)))

-- what is true of a reference that was accepted: it lies in one section of its segment, leads into a section or to its end, and is a rebase if it's a pointer
pub record IsReference (image : Img) (rebases : List Location) (r : Reference) : Type 0 where
  pub segment : Seg
  pub segment_is : slice_get image.segments r.from_segment ≡ Some segment
  pub from : segment.vmaddr ≤ r.from
  pub to : r.from + width_of r.kind ≤ segment.vmaddr + segment.vmsize
  pub section : Section
  pub index : ℕ
  pub section_is : slice_get image.sections index ≡ Some section
  pub in_segment : section.segment ≡ r.from_segment
  pub section_from : section.addr ≤ r.from
  pub section_to : r.from + width_of r.kind ≤ section.addr + section.size
  pub target : Extent
  pub target_is : to_section image r.to_section ≡ Some target
  pub to_segment : target.segment ≡ r.to_segment
  pub offset : r.to_offset ≤ target.size
  pub rebased : is_pointer r.kind ≡ true → is_rebased rebases r ≡ true

-- and of all of them: no two share a byte, and those that aren't pointers share none with a rebase or a bind
pub record AreReferences (image : Img) (rebases bound : List Location) (rs : List Reference) : Type 0 where
  pub few : length rs ≤ record_limit
  pub all : All (IsReference image rebases) rs
  pub apart : AllPairs (λ r s. meets r s ≡ false) rs
  pub off_words : All (λ r. strays rebases bound r ≡ false) rs
