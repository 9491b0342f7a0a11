-- Rule 119: how much the streams of a set may have together.
use Rattle.std.specs.Prelude.{ℕ, ◌+◌, ◌||◌, nat_lt, if◌then◌else◌, List, length, Option, Some, None}
use Rattle.std.specs.List.{sum_by}
use Rattle.dsc_base.specs.declared.fault.Site.{Site}
use Rattle.dsc_base.specs.declared.rule.Rule.TheVariants.{SetTooLarge}
use Rattle.dsc_base.specs.Limits.{set_record_limit, export_names_limit}
use Rattle.macho_image.specs.Records.{Img}
use Rattle.export_trie.specs.declared.export.Export.{Export}
use Rattle.export_trie.specs.Exports.{exports_of}
use Rattle.prebind.specs.Sets.{StreamLists, lists_of}

-- the rebases, binds and references of an image
abbrev pub count_in : StreamLists → ℕ
count_in s = length s.rebases + (length s.binds + length s.references)

abbrev pub record_count : Img → ℕ
record_count i = count_in (lists_of i)

-- the bytes of the names that it exports
abbrev pub bytes_in : List Export → ℕ
bytes_in es = sum_by (λ (e : Export). length e.name) es

abbrev pub name_bytes : Img → ℕ
name_bytes i = bytes_in (exports_of i.streams.exports)

-- the images up to one have so many records, and names of so many bytes
unfoldable pub sums_break : ℕ → ℕ → Option Site
sums_break records names =
    if nat_lt set_record_limit records || nat_lt export_names_limit names then Some (record { rule = SetTooLarge; at = 0 }) else None
