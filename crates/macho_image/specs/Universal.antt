-- Universal files, after mach-o/fat.h: dylibs for several processors, each a part of the file. Their own numbers have the highest byte first.
use Rattle.std.specs.Prelude.{ℕ, zero, suc, ◌+◌, ◌*◌, Bool, List, [], ◌∷◌, take, drop, length, find, Option, Some, None, nat_eq, nat_le, nat_lt, if◌then◌else◌}
use Rattle.dsc_base.specs.Numbers.{big_number}
use Rattle.dsc_base.specs.declared.fault.Site.{Site}
use Rattle.dsc_base.specs.declared.fault.Span.{Span}
use Rattle.dsc_base.specs.declared.rule.Rule.TheVariants.{NotMachO, NoSlice}
use Rattle.dsc_base.specs.Refusals.{broken}
use Rattle.macho_image.specs.Rules.{breaks_not_mach_o}
use Rattle.macho_image.specs.declared.universal.Arch.{Arch}

unfoldable pub big_at : List ℕ → ℕ → ℕ
big_at bytes at = big_number 4 (drop at bytes)

-- fat_header: FAT_MAGIC and the number of entries
abbrev pub is_universal : List ℕ → Bool
is_universal file = nat_eq (big_at file 0) 0xCAFE_BABE

-- fat_arch, of 20 bytes
abbrev pub arch_fields : List ℕ → Arch
arch_fields x = record { processor = big_at x 0; offset = big_at x 8; size = big_at x 12 }

-- the n entries at the front of the bytes
abbrev pub archs_in : ℕ → List ℕ → List Arch
archs_in zero bytes = []
archs_in (suc n) bytes = arch_fields bytes ∷ archs_in n (drop 20 bytes)

-- CPU_TYPE_X86_64
abbrev pub is_x86_64 : Arch → Bool
is_x86_64 a = nat_eq a.processor 0x0100_0007

-- the part of a file of n bytes that an entry names, where the file has it
abbrev pub part_of : ℕ → Option Arch → Option Span
part_of n None = None
part_of n (Some a) = if nat_le (a.offset + a.size) n then Some (record { at = a.offset; len = a.size }) else None

-- where the file has all entries, the part that the first one for x86_64 names
abbrev pub picked : List ℕ → Option Span
picked file =
    if nat_le (8 + 20 * big_at file 4) (length file) then part_of (length file) (find is_x86_64 (archs_in (big_at file 4) (drop 8 file))) else None

-- the slice of a file: a file that isn't universal is all one
unfoldable pub slice_of : List ℕ → Option Span
slice_of file = if is_universal file then picked file else Some (record { at = 0; len = length file })

abbrev pub bytes_of : List ℕ → Span → List ℕ
bytes_of file s = take s.len (drop s.at file)

-- rule 4 where there is no slice, and else rule 3 of it
abbrev pub unfit : List ℕ → Option Span → Option Site
unfit file None = Some (record { rule = NoSlice; at = 0 })
unfit file (Some s) = broken NotMachO (breaks_not_mach_o (bytes_of file s))

-- the first of rules 3 and 4 that a file breaks, as far as rule 3 speaks of a file or of its slice
unfoldable pub slice_break : List ℕ → Option Site
slice_break file = if nat_lt (length file) 32 then Some (record { rule = NotMachO; at = 0 }) else unfit file (slice_of file)
