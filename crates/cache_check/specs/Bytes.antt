-- How the sections of an image of a cache differ from those of its file, where the cache is mapped at slide 0. Each word should lead to where it leads in the file, no other word should slide, and each other byte should be the same.
use Rattle.std.specs.Prelude.{ℕ, ◌+◌, ◌-◌, max, min, Bool, true, false, not, ◌&&◌, ◌||◌, nat_eq, nat_lt, nat_le, if◌then◌else◌, List, ◌++◌, find, length, map, filter, slice_get, slice_index, Option, Some, None, option_map}
use Rattle.std.specs.List.{list_any, fold}
use Rattle.std.specs.Option.{option_and_then}
use Rattle.macho_image.specs.Records.{Seg, Img}
use Rattle.macho_image.specs.declared.section.Section.{Section}
use Rattle.macho_image.specs.Places.{wrap, above, numbered_section}
use Rattle.macho_image.specs.Segments.{header_address, number_of, number_in}
use Rattle.split_info.specs.declared.reference.RefKind.{RefKind}
use Rattle.split_info.specs.declared.reference.RefKind.TheVariants.{Pointer64, Delta32}
use Rattle.split_info.specs.References.{width_of}
use Rattle.slide_chain.specs.declared.words.ChainWord.{ChainWord}
use Rattle.prebind.specs.declared.resolved.PlacedWord.{PlacedWord}
use Rattle.prebind.specs.declared.resolved.WordTarget.{WordTarget}
use Rattle.prebind.specs.declared.resolved.WordTarget.TheVariants.{Place, Constant}
use Rattle.prebind.specs.Sets.{ImageSet}
use Rattle.prebind.specs.Numbers.{Starts, extended, counted_to}
use Rattle.prebind.specs.Words.{Word, pointer_word, reference_word, is_no_pointer, ordered_pointers, streams_at}
use Rattle.cache_check.specs.declared.verdict.Seen.{Seen}
use Rattle.cache_check.specs.declared.verdict.Seen.TheVariants.{Number, Address}
use Rattle.cache_check.specs.declared.verdict.Difference.{Difference}
use Rattle.cache_check.specs.declared.verdict.Difference.TheVariants.{Bytes}
use Rattle.cache_check.specs.declared.mismatch.Mismatch.{Mismatch}
use Rattle.cache_check.specs.Firsts.{first_below}

-- ---- which comes first

-- sections in order, and in one of them by rising offset
abbrev pub is_before : Mismatch → Mismatch → Bool
is_before a b = nat_lt a.section b.section || (nat_eq a.section b.section && nat_lt a.offset b.offset)

-- the earlier of two, the first one where they stand at one offset
abbrev pub earlier : Option Mismatch → Option Mismatch → Option Mismatch
earlier None other = other
earlier (Some a) None = Some a
earlier (Some a) (Some b) = if is_before b a then Some b else Some a

abbrev pub same_seen : Seen → Seen → Bool
same_seen (Number m) (Number n) = nat_eq m n
same_seen (Address a) (Address b) = nat_eq a b
same_seen _ _ = false

-- what is found and what is wanted at an offset of a section differ
unfoldable pub unlike : ℕ → ℕ → Seen → Seen → Option Mismatch
unlike section offset found wanted =
    if same_seen found wanted then None else Some (record { section = section; offset = offset; found = found; wanted = wanted })

-- ---- a section on both sides

-- a section of a file with the segment around it, and the same of the cached image
pub record Pair : Type 0 where
  pub own : Seg
  pub here : Section
  pub cached : Seg
  pub there : Section

abbrev pub pair_in : Section → Section → Option Seg → Option Seg → Option Pair
pair_in here there (Some own) (Some cached) = Some (record { own = own; here = here; cached = cached; there = there })
pair_in here there _ _ = None

abbrev pub pair_with : List Seg → List Seg → Option Section → Option Section → Option Pair
pair_with own cached (Some here) (Some there) = pair_in here there (slice_get own here.segment) (slice_get cached there.segment)
pair_with own cached _ _ = None

-- the sections of a number, which counts from 1
unfoldable pub pair_of : Img → Img → ℕ → Option Pair
pair_of file cached number = pair_with file.segments cached.segments (numbered_section file.sections number) (numbered_section cached.sections number)

-- ---- words of the file

-- the words of a cache that slide, with the address at which its data start
pub record Chains : Type 0 where
  pub words : List ChainWord
  pub start : ℕ

-- the word that slides at an address
unfoldable pub chain_at : Chains → ℕ → Option ChainWord
chain_at chains address = find (λ (w : ChainWord). nat_eq w.offset (above chains.start address)) chains.words

-- a word that slides shows its address at slide 0, and another one its number
abbrev pub shown : Option ChainWord → ℕ → Seen
shown None n = Number n
shown (Some w) n = Address w.value

-- a difference of 4 bytes has a sign
abbrev pub spread : RefKind → ℕ → ℕ
spread Delta32 n = extended n
spread kind n = n

-- what stands at an address: pointers may slide, and words of other kinds are numbers
abbrev pub seen_at : Chains → Seg → RefKind → ℕ → Seen
seen_at chains cached Pointer64 address = shown (chain_at chains address) (number_in cached address)
seen_at chains cached kind address = Number (spread kind (number_of (width_of kind) cached address))

-- what should stand there, in an image whose header is at an address: a pointer to a place slides
abbrev pub wanted_at : Starts → ℕ → RefKind → ℕ → WordTarget → Seen
wanted_at starts header Pointer64 address (Place k g distance) = Address (wrap (starts k g + distance))
wanted_at starts header kind address (Place k g distance) = Number (counted_to kind address header (wrap (starts k g + distance)))
wanted_at starts header kind address (Constant c) = Number c

abbrev pub word_in : Chains → Starts → ℕ → Word → Pair → Option Mismatch
word_in chains starts header w p =
    let offset = above p.here.addr w.at.address in
    let address = wrap (p.there.addr + offset) in
    unlike w.at.section offset (seen_at chains p.cached w.kind address) (wanted_at starts header w.kind address w.target)

-- a word of a file that doesn't lead in the cached image to where it should
unfoldable pub word_mismatch : Chains → Starts → Img → Img → Word → Option Mismatch
word_mismatch chains starts file cached w = option_and_then (word_in chains starts (header_address cached.segments) w) (pair_of file cached w.at.section)

abbrev pub earliest : (Word → Option Mismatch) → List Word → Option Mismatch
earliest differs words = fold (λ (best : Option Mismatch) (w : Word). earlier best (differs w)) None words

-- ---- words that slide elsewhere

abbrev pub leads_to_place : Option PlacedWord → Bool
leads_to_place None = false
leads_to_place (Some w) = to_place w.target
  where
    to_place : WordTarget → Bool
    to_place (Place k g distance) = true
    to_place (Constant c) = false

-- the pointer of a file at an address
unfoldable pub pointer_here : List PlacedWord → ℕ → Option PlacedWord
pointer_here pointers address = find (λ (w : PlacedWord). nat_eq w.at.address address) pointers

-- so many bytes from an address share one with a section
abbrev pub shares_section : ℕ → Section → Bool
shares_section address s = nat_lt (max address s.addr) (min (address + 8) (s.addr + s.size))

-- a word that slides at an address shares a byte with the section, and doesn't begin where a pointer of the file leads to a place
abbrev pub is_stray : List PlacedWord → Pair → ℕ → Bool
is_stray pointers p address = shares_section address p.there && not (leads_to_place (pointer_here pointers (wrap (p.here.addr + above p.there.addr address))))

-- it counts at the lowest byte that they share, and the file's 8 bytes from its start are wanted
abbrev pub stray : ℕ → Pair → ℕ → ℕ → Mismatch
stray number p value address =
    record { section = number; offset = address - p.there.addr; found = Address value; wanted = Number (number_in p.own (wrap (p.own.vmaddr + (address - p.cached.vmaddr)))) }

abbrev pub stray_at : List PlacedWord → ℕ → Pair → ℕ → ℕ → Option Mismatch
stray_at pointers number p value address = if is_stray pointers p address then Some (stray number p value address) else None

unfoldable pub stray_of : Chains → List PlacedWord → ℕ → Pair → ℕ → Option Mismatch
stray_of chains pointers number p i =
    option_and_then (λ (w : ChainWord). stray_at pointers number p w.value (wrap (chains.start + w.offset))) (slice_get chains.words i)

unfoldable pub stray_in : Chains → List PlacedWord → ℕ → Pair → Option Mismatch
stray_in chains pointers number p = first_below (stray_of chains pointers number p) (length chains.words)

-- ---- other bytes

abbrev pub covers : ℕ → Word → Bool
covers address w = nat_le w.at.address address && nat_lt address (w.at.address + width_of w.kind)

-- the byte at an address of a segment; what lies behind the file's bytes is 0
abbrev pub byte_in : Seg → ℕ → ℕ
byte_in s address = slice_index s.bytes (address - s.vmaddr)

-- a byte in no word that isn't the file's
unfoldable pub byte_at : List Word → ℕ → Pair → ℕ → Option Mismatch
byte_at words number p offset =
    if list_any (covers (p.here.addr + offset)) words then None
    else unlike number offset (Number (byte_in p.cached (p.there.addr + offset))) (Number (byte_in p.own (p.here.addr + offset)))

unfoldable pub byte_mismatch : List Word → ℕ → Pair → Option Mismatch
byte_mismatch words number p = first_below (byte_at words number p) p.here.size

-- ---- an image

-- one section after the other, by the number from 0
unfoldable pub in_section : (ℕ → Pair → Option Mismatch) → Img → Img → ℕ → Option Mismatch
in_section differs file cached j = option_and_then (differs (j + 1)) (pair_of file cached (j + 1))

abbrev pub in_sections : (ℕ → Pair → Option Mismatch) → Img → Img → Option Mismatch
in_sections differs file cached = first_below (in_section differs file cached) (length file.sections)

-- the pointers of file k by their addresses, and then its references of other kinds
unfoldable pub words_by_address : ImageSet → ℕ → Img → List Word
words_by_address set k file =
    map pointer_word (ordered_pointers set k) ++ map (reference_word k file.sections file.segments) (filter is_no_pointer (streams_at set k).references)

-- at one offset first what stands at a word, then a word that slides elsewhere, and then the byte
unfoldable pub first_mismatch : Chains → Starts → List PlacedWord → List Word → Img → Img → Option Mismatch
first_mismatch chains starts pointers words file cached =
    earlier (earlier (earliest (word_mismatch chains starts file cached) words) (in_sections (stray_in chains pointers) file cached)) (in_sections (byte_mismatch words) file cached)

abbrev pub bytes_of : ℕ → Mismatch → Difference
bytes_of k m = Bytes k m.section m.offset m.found m.wanted

unfoldable pub bytes_difference : Chains → Starts → ImageSet → ℕ → Img → Img → Option Difference
bytes_difference chains starts set k file cached =
    option_map (bytes_of k) (first_mismatch chains starts (ordered_pointers set k) (words_by_address set k file) file cached)
