-- The header of an image that goes to a cache or to a file of its own: flags say so, some commands are left out, and segments, streams and tables stand where they go.
use Rattle.std.specs.Prelude.{ℕ, ◌+◌, ◌-◌, nat_eq, not, Bool, ◌||◌, if◌then◌else◌, List, [], ◌∷◌, ◌++◌, take, length, filter}
use Rattle.std.specs.List.{concat}
use Rattle.dsc_base.specs.Numbers.{number_at, put_number}
use Rattle.dsc_base.specs.Region.{padded}
use Rattle.macho_image.specs.declared.form.Form.{Form}
use Rattle.macho_image.specs.declared.form.Form.TheVariants.{Standalone, Cached}
use Rattle.macho_image.specs.declared.place.Moved.{Moved}
use Rattle.macho_image.specs.Records.{Img}
use Rattle.macho_image.specs.Macho.{number_of, is_segment, is_split_info, commands_of}
use Rattle.macho_image.specs.Rules.{says_cached}
use Rattle.macho_edit.specs.declared.spots.LinkSpots.{LinkSpots}
use Rattle.macho_edit.specs.Segments.{moved_segment}
use Rattle.macho_edit.specs.Tables.{spotted}

-- LC_SEGMENT_SPLIT_INFO, LC_CODE_SIGNATURE and LC_DYLIB_CODE_SIGN_DRS, which are left out
abbrev pub is_dropped : ℕ → Bool
is_dropped n = is_split_info n || (nat_eq n 0x1D || nat_eq n 0x2B)

abbrev pub is_kept : List ℕ → Bool
is_kept c = not (is_dropped (number_of c))

-- a command, where the next segment's move is the first of those that are left
abbrev pub moved_command : LinkSpots → List Moved → List ℕ → List ℕ
moved_command spots [] c = spotted spots c
moved_command spots (m ∷ ms) c = if is_segment (number_of c) then moved_segment spots m c else spotted spots c

-- the moves that are left behind a command
abbrev pub moves_behind : List Moved → List ℕ → List Moved
moves_behind [] c = []
moves_behind (m ∷ ms) c = if is_segment (number_of c) then ms else m ∷ ms

-- the commands, each segment moved to its place and each stream and table to its spot; other commands are kept
unfoldable pub moved_commands : LinkSpots → List Moved → List (List ℕ) → List (List ℕ)
moved_commands spots moves [] = []
moved_commands spots moves (c ∷ cs) = moved_command spots moves c ∷ moved_commands spots (moves_behind moves c) cs

-- the commands that are not left out, of those of a header, each moved
abbrev pub kept_commands : LinkSpots → List Moved → List ℕ → List (List ℕ)
kept_commands spots moves header = moved_commands spots moves (filter is_kept (commands_of header))

-- flags with MH_DYLIB_IN_CACHE, and without
abbrev pub in_cache : ℕ → ℕ
in_cache flags = if says_cached flags then flags else flags + 0x8000_0000

abbrev pub out_of_cache : ℕ → ℕ
out_of_cache flags = if says_cached flags then flags - 0x8000_0000 else flags

abbrev pub flags_in : Form → ℕ → ℕ
flags_in Cached flags = in_cache flags
flags_in Standalone flags = out_of_cache flags

-- mach_header_64 of a form, of so many commands of so many bytes
unfoldable pub formed_front : Form → ℕ → ℕ → List ℕ → List ℕ
formed_front form count size front = put_number 4 (put_number 4 (put_number 4 front 16 count) 20 size) 24 (flags_in form (number_at 4 front 24))

-- the header of a form, with the commands that are not left out
unfoldable pub formed_header : Form → LinkSpots → List Moved → List ℕ → List ℕ
formed_header form spots moves header =
    let cs = kept_commands spots moves header in
    formed_front form (length cs) (length (concat cs)) (take 32 header) ++ concat cs

-- the same with zeros in the room of the commands that are left out
unfoldable pub formed_bytes : Form → Img → List Moved → LinkSpots → List ℕ
formed_bytes form image moves spots = padded (length image.header) (formed_header form spots moves image.header)

-- ---- in the cache, which has no rebases: they are done

abbrev pub unrebased : LinkSpots → LinkSpots
unrebased spots = record spots { rebase = record { at = 0; len = 0 } }

abbrev pub cached_commands : LinkSpots → List Moved → List ℕ → List (List ℕ)
cached_commands spots moves header = kept_commands (unrebased spots) moves header

abbrev pub cached_front : ℕ → ℕ → List ℕ → List ℕ
cached_front count size front = formed_front Cached count size front

unfoldable pub kept_header : LinkSpots → List Moved → List ℕ → List ℕ
unfolding formed_header
kept_header spots moves header = formed_header Cached (unrebased spots) moves header

unfoldable pub cached_bytes : Img → List Moved → LinkSpots → List ℕ
cached_bytes image moves spots = padded (length image.header) (kept_header spots moves image.header)

-- ---- in a file of its own

unfoldable pub standalone_bytes : Img → List Moved → LinkSpots → List ℕ
standalone_bytes image moves spots = formed_bytes Standalone image moves spots
