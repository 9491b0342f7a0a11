-- The load commands that name streams and tables of the linkedit, after mach-o/loader.h: from byte 8 on, all of their fields are numbers of four bytes.
use Rattle.std.specs.Prelude.{ℕ, ◌+◌, ◌*◌, ◌/◌, nat_eq, if◌then◌else◌, List, [], ◌∷◌, ◌++◌, take, drop, length}
use Rattle.dsc_base.specs.Numbers.{little_bytes}
use Rattle.dsc_base.specs.declared.fault.Span.{Span}
use Rattle.macho_image.specs.Macho.{number_of, is_dyld_info, is_symtab, is_dysymtab, is_function_starts, is_data_in_code}
use Rattle.macho_edit.specs.declared.spots.LinkSpots.{LinkSpots}

-- numbers of four bytes, one after another
unfoldable pub words : List ℕ → List ℕ
words [] = []
words (n ∷ ns) = little_bytes 4 n ++ words ns

-- a command with these numbers from byte 8 on
unfoldable pub with_words : List ℕ → List ℕ → List ℕ
with_words ns c = take 8 c ++ (words ns ++ drop (8 + 4 * length ns) c)

-- where a span begins; 0 for one without bytes
abbrev pub start_of : Span → ℕ
start_of s = if nat_eq s.len 0 then 0 else s.at

-- linkedit_data_command
abbrev pub data_words : Span → List ℕ
data_words s = start_of s ∷ s.len ∷ []

-- dyld_info_command: rebase, bind, weak_bind, lazy_bind and export, each an offset and a size; there are no weak binds
abbrev pub info_words : LinkSpots → List ℕ
info_words spots =
    start_of spots.rebase ∷ spots.rebase.len ∷ start_of spots.bind ∷ spots.bind.len ∷ 0 ∷ 0
    ∷ start_of spots.lazy ∷ spots.lazy.len ∷ start_of spots.exports ∷ spots.exports.len ∷ []

-- symtab_command: the offset and the number of nlist_64, and the offset and the size of the strings
abbrev pub symtab_words : LinkSpots → List ℕ
symtab_words spots = start_of spots.symbols ∷ spots.symbols.len / 16 ∷ start_of spots.strings ∷ spots.strings.len ∷ []

-- dysymtab_command behind its groups: no table of contents, module table and external references; the indirect table; no relocations
abbrev pub indirect_words : Span → List ℕ
indirect_words s = 0 ∷ 0 ∷ 0 ∷ 0 ∷ 0 ∷ 0 ∷ start_of s ∷ s.len / 4 ∷ 0 ∷ 0 ∷ 0 ∷ 0 ∷ []

abbrev pub dysymtab_words : LinkSpots → List ℕ
dysymtab_words spots = spots.groups ++ indirect_words spots.indirect

-- the numbers that a command gets, by its own number; none for a command that names no stream or table
abbrev pub words_for : LinkSpots → ℕ → List ℕ
words_for spots n =
    if is_dyld_info n then info_words spots else
    (if is_symtab n then symtab_words spots else
    (if is_dysymtab n then dysymtab_words spots else
    (if is_function_starts n then data_words spots.function_starts else
    (if is_data_in_code n then data_words spots.data_in_code else []))))

-- a command with the numbers that it gets
unfoldable pub spotted : LinkSpots → List ℕ → List ℕ
spotted spots c = with_words (words_for spots (number_of c)) c
