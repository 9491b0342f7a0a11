-- The rules that the tables of a dylib keep, each by the least place at which it is broken.
use Rattle.std.specs.Prelude.{ℕ, ◌+◌, Bool, false, not, ◌&&◌, ◌||◌, List, [], ◌∷◌, length, find, slice_index, slice_get, Option, Some, None, is_none, position, nat_eq, nat_lt, nat_le, if◌then◌else◌}
use Rattle.dsc_base.specs.declared.fault.Site.{Site}
use Rattle.dsc_base.specs.declared.rule.Rule.TheVariants.{TableNameOutside, TableBadSection, TableIndexOutside}
use Rattle.macho_image.specs.Records.{Img}
use Rattle.dsc_base.specs.Refusals.{least, broken}
use Rattle.macho_image.specs.Nlists.{Nlist, nlists_of, is_kept, is_in_section, is_alias, name_at, indirect_of, is_flag}

-- Rule 111: the name of an entry, or the one that its value tells, is not in the string table. A place is an entry's index.
abbrev pub lacks_name : List ℕ → Nlist → Bool
lacks_name strings e = is_none (name_at strings e.strx) || (is_alias e.kind && is_none (name_at strings e.value))

abbrev pub breaks_table_name : List ℕ → List Nlist → Option ℕ
breaks_table_name strings es = position (lacks_name strings) es

-- Rule 112: an entry that is defined in a section which isn't one of the n sections. They count from 1.
abbrev pub lacks_section : ℕ → Nlist → Bool
lacks_section n e = is_in_section e.kind && (nat_eq e.section 0 || nat_lt n e.section)

abbrev pub breaks_table_section : ℕ → List Nlist → Option ℕ
breaks_table_section n es = position (lacks_section n) es

-- Rule 113: a group of LC_DYSYMTAB that ends behind the n entries, at the number of its first field; or an indirect index, at its own index, that is no entry's or a stab's.
abbrev pub ends_behind : ℕ → ℕ → ℕ → Bool
ends_behind n index count = nat_lt n (index + count)

abbrev pub breaks_groups : ℕ → List ℕ → Option ℕ
breaks_groups n groups = find (λ k. ends_behind n (slice_index groups k) (slice_index groups (k + 1))) (0 ∷ 2 ∷ 4 ∷ [])

abbrev pub is_symbol : Option Nlist → Bool
is_symbol None = false
is_symbol (Some e) = is_kept e

abbrev pub lacks_symbol : List Nlist → ℕ → Bool
lacks_symbol es index = not (is_flag index) && not (is_symbol (slice_get es index))

abbrev pub breaks_table_index : List Nlist → List ℕ → List ℕ → Option ℕ
breaks_table_index es groups indirect = least (breaks_groups (length es) groups) (position (lacks_symbol es) indirect)

-- of two breaks the one at the lower place; at one place the first of the two
abbrev pub nearer : Option Site → Option Site → Option Site
nearer None other = other
nearer (Some a) None = Some a
nearer (Some a) (Some b) = if nat_le a.at b.at then Some a else Some b

-- the first of the three rules that tables break, in an image of n sections
abbrev pub tables_break : List ℕ → ℕ → List Nlist → List ℕ → List ℕ → Option Site
tables_break strings n es groups indirect =
    nearer (broken TableNameOutside (breaks_table_name strings es))
    (nearer (broken TableBadSection (breaks_table_section n es)) (broken TableIndexOutside (breaks_table_index es groups indirect)))

-- the first of them that an image breaks
unfoldable pub table_break : Img → Option Site
table_break image =
    tables_break image.streams.strings (length image.sections) (nlists_of image.streams.symbols) image.groups (indirect_of image.streams.indirect)
