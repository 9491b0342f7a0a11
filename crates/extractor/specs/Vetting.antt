-- What may be wrong with a cache whose images keep the rules by themselves: how they are linked, where chain words lie and where words lead.
use Rattle.std.specs.Prelude.{ℕ, ◌+◌, Bool, true, not, ◌&&◌, ◌||◌, nat_eq, nat_le, nat_lt, is_some, if◌then◌else◌, List, [], ◌∷◌, length, map, Option, Some, None, option_map, position, slice_get}
use Rattle.std.specs.List.{list_any}
use Rattle.std.specs.Option.{option_or}
use Rattle.dsc_base.specs.Refusals.{first_break, in_image}
use Rattle.dsc_base.specs.RuleNames.{number_of}
use Rattle.dsc_base.specs.declared.fault.Break.{Break}
use Rattle.dsc_base.specs.declared.fault.Finding.{Finding}
use Rattle.dsc_base.specs.declared.finding_kind.FindingKind.TheVariants.{LinkBroken, ChainOutside, PointerNotSymbol, ForeignPointer, ExtractTooLarge}
use Rattle.macho_image.specs.Records.{Seg, Img}
use Rattle.macho_image.specs.Rules.{is_linkedit_segment}
use Rattle.macho_image.specs.Places.{wrap, place_fault}
use Rattle.macho_image.specs.Segments.{start_of, segments_at, value_of}
use Rattle.bind_ops.specs.Records.{BoundWord}
use Rattle.rebase_ops.specs.Writing.{offset_in}
use Rattle.dep_closure.specs.Linked.{links_of}
use Rattle.dep_closure.specs.Breaks.{link_break}
use Rattle.prebind.specs.declared.resolved.WordTarget.{WordTarget}
use Rattle.prebind.specs.declared.resolved.WordTarget.TheVariants.{Place, Constant}
use Rattle.prebind.specs.Sets.{StreamLists, ImageSet, all_binds}
use Rattle.prebind.specs.Places.{export_break}
use Rattle.prebind.specs.declared.resolved.PlacedWord.{PlacedWord}
use Rattle.prebind.specs.Words.{streams_at, is_bound, bound_words}
use Rattle.prebind.specs.WordRules.{symbol_break}
use Rattle.slide_chain.specs.declared.words.ChainWord.{ChainWord}
use Rattle.cache_header.specs.Findings.{finding}
use Rattle.cache_header.specs.Records.{Entry}
use Rattle.load_model.specs.Phases.{first_of}
use Rattle.load_model.specs.Sums.{count_in, name_bytes, sums_break}
use Rattle.cache_check.specs.Images.{images_of, images_finding, each_of, header_place}
use Rattle.cache_check.specs.Views.{View}
use Rattle.extractor.specs.declared.homes.Home.{Home}
use Rattle.extractor.specs.Placing.{data_start, home_of, is_crossed}
use Rattle.extractor.specs.ExtractOf.{linkedit_limit, size_in}

-- ---- the set that cached images make: binds and exports alone, since the cache has done the rebases and keeps no references

abbrev pub cached_lists : Img → StreamLists
cached_lists i = record { rebases = []; binds = all_binds i; references = []; exports = i.streams.exports }

unfoldable pub cached_set : List Img → ImageSet
cached_set images = record { images = images; streams = map cached_lists images; links = links_of images }

-- ---- `LinkBroken`: rules 119 to 134, by phase

-- rule 119 of the images from number k on, behind so many records and names of so many bytes
unfoldable pub sums_from : ℕ → ℕ → ℕ → List Img → Option Break
sums_from k records names [] = None
sums_from k records names (i ∷ is) =
    let records = records + count_in (cached_lists i) in
    let names = names + name_bytes i in
    option_or (option_map (in_image k) (sums_break records names)) (sums_from (k + 1) records names is)

abbrev pub symbol_break_in : ImageSet → ℕ → Option Break
symbol_break_in set k = option_map (in_image k) (symbol_break set k)

-- rule 131 of all images, and then rules 132 to 134
unfoldable pub symbols_break : ImageSet → Option Break
symbols_break set = first_break (first_of (export_break set) (length set.images) ∷ first_of (symbol_break_in set) (length set.images) ∷ [])

unfoldable pub set_break : List Img → Option Break
set_break images = first_break (sums_from 0 0 0 images ∷ link_break images ∷ symbols_break (cached_set images) ∷ [])

-- a rule that an image of the set breaks has the rule's number for its place
abbrev pub break_finding : Break → Finding
break_finding b = finding LinkBroken b.image (number_of b.rule)

unfoldable pub link_finding : List Img → Option Finding
link_finding images = option_map break_finding (set_break images)

-- ---- findings of chain words, which belong to the image in whose data they begin, and to image 0 where there is none

-- of findings in the order of their places, the first of the least image
abbrev pub earlier : Option Finding → Option Finding → Option Finding
earlier None others = others
earlier (Some f) None = Some f
earlier (Some f) (Some g) = if nat_lt g.image f.image then Some g else Some f

unfoldable pub by_image : List (Option Finding) → Option Finding
by_image [] = None
by_image (found ∷ others) = earlier found (by_image others)

-- `ChainOutside`: a chain word isn't wholly in one section of a segment of data with a number up to 15, where a rebase could name it, or it crosses a bind, or its image has no dyld info
abbrev pub is_outside : Img → List BoundWord → ℕ → ℕ → Bool
is_outside i binds g address = nat_lt 15 g || (not i.has_dyld_info || (is_some (place_fault i (Some g) (offset_in i g address) 0) || is_crossed binds address))

abbrev pub outside_in : List BoundWord → Option Img → ℕ → ℕ → Bool
outside_in binds None g address = true
outside_in binds (Some i) g address = is_outside i binds g address

abbrev pub outside_at : ImageSet → ChainWord → ℕ → Option Home → Option Finding
outside_at set w address None = Some (finding ChainOutside 0 w.offset)
outside_at set w address (Some h) =
    if outside_in (streams_at set h.image).binds (slice_get set.images h.image) h.segment address then Some (finding ChainOutside h.image w.offset) else None

abbrev pub outside_of : ℕ → ImageSet → ChainWord → Option Finding
outside_of start set w = outside_at set w (start + w.offset) (home_of set.images (start + w.offset))

unfoldable pub chain_finding : ℕ → List ChainWord → ImageSet → Option Finding
chain_finding start words set = by_image (map (outside_of start set) words)

-- ---- `PointerNotSymbol`: what the bound words have at slide 0

abbrev pub is_chained : ℕ → List ChainWord → ℕ → Bool
is_chained start words address = list_any (λ (w : ChainWord). nat_eq address (start + w.offset)) words

-- where a segment of an image starts
abbrev pub start_at : List Img → ℕ → ℕ → ℕ
start_at images k g = start_of (slice_get (segments_at images k) g)

-- a number and whether it slides are those of a target: the address of a place slides, and a constant doesn't
abbrev pub is_number_of : List Img → Bool → ℕ → WordTarget → Bool
is_number_of images slides number (Place k g distance) = slides && nat_eq number (wrap (start_at images k g + distance))
is_number_of images slides number (Constant c) = not slides && nat_eq number c

abbrev pub is_set : ℕ → List ChainWord → List Img → List Seg → PlacedWord → Bool
is_set start words images segments w = is_number_of images (is_chained start words w.at.address) (value_of segments w.at) w.target

unfoldable pub pointer_in : ℕ → List ChainWord → ImageSet → ℕ → Img → Option Finding
pointer_in start words set k i =
    option_map (λ (j : ℕ). finding PointerNotSymbol k j) (position (λ (w : PlacedWord). not (is_set start words set.images i.segments w)) (bound_words set k))

unfoldable pub pointer_finding : ℕ → List ChainWord → ImageSet → Option Finding
pointer_finding start words set = each_of (pointer_in start words set) 0 set.images

-- ---- `ForeignPointer`: a chain word that isn't bound leads out of its own image

-- a value is from the start to the end of a segment other than `__LINKEDIT`
abbrev pub reaches : ℕ → Seg → Bool
reaches value s = not (is_linkedit_segment s) && (nat_le s.vmaddr value && nat_le value (s.vmaddr + s.vmsize))

abbrev pub is_foreign : List Seg → List BoundWord → ℕ → ℕ → Bool
is_foreign segments binds address value = not (is_bound binds address) && not (list_any (reaches value) segments)

abbrev pub foreign_in : List BoundWord → Option Img → ℕ → ℕ → Bool
foreign_in binds None address value = true
foreign_in binds (Some i) address value = is_foreign i.segments binds address value

abbrev pub foreign_at : ImageSet → ChainWord → ℕ → Option Home → Option Finding
foreign_at set w address None = None
foreign_at set w address (Some h) =
    if foreign_in (streams_at set h.image).binds (slice_get set.images h.image) address w.value then Some (finding ForeignPointer h.image w.offset) else None

abbrev pub foreign_of : ℕ → ImageSet → ChainWord → Option Finding
foreign_of start set w = foreign_at set w (start + w.offset) (home_of set.images (start + w.offset))

unfoldable pub foreign_finding : ℕ → List ChainWord → ImageSet → Option Finding
foreign_finding start words set = by_image (map (foreign_of start set) words)

-- ---- `ExtractTooLarge`: the linkedit of the file that is made of an image

unfoldable pub large_finding : ℕ → List ChainWord → List Img → ℕ → Entry → Option Finding
large_finding start words images k e = if nat_lt linkedit_limit (size_in start words images k (slice_get images k)) then Some (finding ExtractTooLarge k (header_place e)) else None

unfoldable pub size_finding : View → Option Finding
size_finding v = each_of (large_finding (data_start v) v.words (images_of v)) 0 v.head.images

-- ---- all of them, in their order

-- those of chain words whose offsets count from a start, in a set
unfoldable pub words_finding : ℕ → List ChainWord → ImageSet → Option Finding
words_finding start words set = first_break (chain_finding start words set ∷ pointer_finding start words set ∷ foreign_finding start words set ∷ [])

unfoldable pub vet_finding : View → Option Finding
vet_finding v =
    first_break (images_finding v ∷ link_finding (images_of v) ∷ words_finding (data_start v) v.words (cached_set (images_of v)) ∷ size_finding v ∷ [])
