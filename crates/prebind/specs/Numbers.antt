-- Where the number at a word leads, and the number by which a word leads to a target, wherever segments start. The kinds of words are those of DYLD_CACHE_ADJ_V2 of Apple's published linker and cache builder.
use Rattle.std.specs.Prelude.{◌≡◌, ℕ, ◌+◌, ◌-◌, ◌%◌, ◌^◌, Bool, true, ◌||◌, nat_le, nat_lt, if◌then◌else◌}
use Rattle.macho_image.specs.Places.{wrap, above}
use Rattle.split_info.specs.declared.reference.RefKind.{RefKind}
use Rattle.split_info.specs.declared.reference.RefKind.TheVariants.{Pointer64, Delta32, Delta64, ImageOff32}
use Rattle.prebind.specs.declared.resolved.WordTarget.{WordTarget}
use Rattle.prebind.specs.declared.resolved.WordTarget.TheVariants.{Place, Constant}

-- where segments start: by the numbers of image and segment, each from 0
abbrev pub Starts : Type 0
Starts = ℕ → ℕ → ℕ

-- a number of 4 bytes in two's complement, as one of 8 bytes
abbrev pub extended : ℕ → ℕ
extended n = if nat_lt n (2 ^ 31) then n else n + (2 ^ 64 - 2 ^ 32)

-- the address to which a number leads from a word at a location, in an image whose header is at another: a difference in 4 bytes has a sign, an offset from the header has none
unfoldable pub led_to : RefKind → ℕ → ℕ → ℕ → ℕ
led_to Pointer64 location header n = n
led_to Delta32 location header n = wrap (location + extended n)
led_to Delta64 location header n = wrap (location + n)
led_to ImageOff32 location header n = wrap (header + n)

-- a word's number leads to its target
abbrev pub LeadsTo : Starts → ℕ → ℕ → RefKind → ℕ → WordTarget → Type 0
LeadsTo starts location header kind n (Place k g distance) = led_to kind location header n ≡ wrap (starts k g + distance)
LeadsTo starts location header kind n (Constant c) = n ≡ c

-- what a word counts to an address: the address itself, its distance from the word, or that from the header
unfoldable pub counted_to : RefKind → ℕ → ℕ → ℕ → ℕ
counted_to Pointer64 location header address = address
counted_to Delta32 location header address = above location address
counted_to Delta64 location header address = above location address
counted_to ImageOff32 location header address = above header address

-- a number as far as the bytes of a word go
unfoldable pub cut_to : RefKind → ℕ → ℕ
cut_to Pointer64 n = n
cut_to Delta32 n = n % 2 ^ 32
cut_to Delta64 n = n
cut_to ImageOff32 n = n % 2 ^ 32

-- the number by which a word leads to its target, as far as the word has bytes for it
unfoldable pub number_to : Starts → ℕ → ℕ → RefKind → WordTarget → ℕ
number_to starts location header kind (Place k g distance) = cut_to kind (counted_to kind location header (wrap (starts k g + distance)))
number_to starts location header kind (Constant c) = c

-- the word has bytes for it: in 4 bytes a difference from - 2 ^ 31 to 2 ^ 31 - 1, or an offset below 2 ^ 32
unfoldable pub fits : RefKind → ℕ → Bool
fits Pointer64 n = true
fits Delta32 n = nat_lt n (2 ^ 31) || nat_le (2 ^ 64 - 2 ^ 31) n
fits Delta64 n = true
fits ImageOff32 n = nat_lt n (2 ^ 32)

-- a target to which a word can lead: a place for which it has bytes, or a number
abbrev pub CanLead : Starts → ℕ → ℕ → RefKind → WordTarget → Type 0
CanLead starts location header kind (Place k g distance) = fits kind (counted_to kind location header (wrap (starts k g + distance))) ≡ true
CanLead starts location header kind (Constant c) = Unit {0}
