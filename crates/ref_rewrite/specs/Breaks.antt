-- The rules on numbers that lead to targets in a cache: 151 of differences in 4 bytes, 152 of offsets from the header, and 153 of bound words, each by the least index at which it is broken.
use Rattle.std.specs.Prelude.{ℕ, ◌+◌, Bool, true, false, not, ◌&&◌, ◌||◌, nat_lt, List, [], ◌∷◌, position, Option, slice_get}
use Rattle.std.specs.List.{enumerate_from}
use Rattle.dsc_base.specs.declared.fault.Site.{Site}
use Rattle.dsc_base.specs.declared.fault.Break.{Break}
use Rattle.dsc_base.specs.declared.rule.Rule.TheVariants as rules
use Rattle.dsc_base.specs.Refusals.{broken, first_break, in_each}
use Rattle.dsc_base.specs.Region.{region_start}
use Rattle.macho_image.specs.Records.{Seg, Img}
use Rattle.macho_image.specs.Places.{wrap}
use Rattle.macho_image.specs.Segments.{segments_at}
use Rattle.macho_image.specs.declared.section.Section.{Section}
use Rattle.split_info.specs.declared.reference.Reference.{Reference}
use Rattle.split_info.specs.declared.reference.RefKind.{RefKind}
use Rattle.split_info.specs.declared.reference.RefKind.TheVariants.{Delta32, ImageOff32}
use Rattle.prebind.specs.declared.resolved.WordTarget.{WordTarget}
use Rattle.prebind.specs.declared.resolved.WordTarget.TheVariants.{Place, Constant}
use Rattle.prebind.specs.declared.resolved.PlacedWord.{PlacedWord}
use Rattle.prebind.specs.Sets.{ImageSet}
use Rattle.prebind.specs.Words.{sections_in, streams_at, reference_word, bound_words}
use Rattle.cache_layout.specs.Layouts.{Laid}
use Rattle.cache_layout.specs.Apart.{move_at}
use Rattle.ref_rewrite.specs.Moving.{can_lead}

-- ---- rules 151 and 152: references

abbrev pub is_delta : RefKind → Bool
is_delta Delta32 = true
is_delta kind = false

abbrev pub is_offset : RefKind → Bool
is_offset ImageOff32 = true
is_offset kind = false

-- a reference of some kinds without bytes for its new number, in image k
abbrev pub is_out_of_range : (RefKind → Bool) → Laid → ℕ → List Section → List Seg → Reference → Bool
is_out_of_range kinds l k sections segments r = kinds r.kind && not (can_lead l k segments (reference_word k sections segments r))

-- the least index of one
abbrev pub out_of_range : (RefKind → Bool) → Laid → ImageSet → ℕ → Option ℕ
out_of_range kinds l set k =
    position (is_out_of_range kinds l k (sections_in (slice_get set.images k)) (segments_at set.images k)) (streams_at set k).references

-- rule 151: a difference that isn't from - 2 ^ 31 to 2 ^ 31 - 1
unfoldable pub delta_break : Laid → ImageSet → ℕ → Option Site
delta_break l set k = broken rules.DeltaOutOfRange (out_of_range is_delta l set k)

-- rule 152: an offset from the header that isn't below 2 ^ 32
unfoldable pub offset_break : Laid → ImageSet → ℕ → Option Site
offset_break l set k = broken rules.OffsetOutOfRange (out_of_range is_offset l set k)

-- ---- rule 153: a bound word that leads to a place below the region's start or behind the end of the read-only segments
abbrev pub is_beyond : Laid → ℕ → Bool
is_beyond l address = nat_lt address region_start || nat_lt (region_start + (l.fixed.at + l.fixed.len)) address

abbrev pub leads_beyond : Laid → WordTarget → Bool
leads_beyond l (Place k g distance) = is_beyond l (wrap ((move_at l k g).address + distance))
leads_beyond l (Constant c) = false

unfoldable pub bound_break : Laid → ImageSet → ℕ → Option Site
bound_break l set k = broken rules.BoundOutOfRange (position (λ (w : PlacedWord). leads_beyond l w.target) (bound_words set k))

-- ---- the first that image k breaks, and the first of all images
unfoldable pub image_break : Laid → ImageSet → ℕ → Option Site
image_break l set k = first_break (delta_break l set k ∷ offset_break l set k ∷ bound_break l set k ∷ [])

unfoldable pub rewrite_break : Laid → ImageSet → Option Break
rewrite_break l set = in_each (λ (p : ℕ × Img). image_break l set p.0) 0 (enumerate_from 0 set.images)
