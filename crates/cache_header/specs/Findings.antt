-- What may be wrong with the head of a cache, in the order in which it is tried.
use Rattle.std.specs.Prelude.{◌≡◌, ◌≤◌, ◌<◌, ℕ, ◌+◌, ◌*◌, Bool, true, not, ◌&&◌, ◌||◌, is_some, nat_eq, nat_le, if◌then◌else◌, List, length, drop, Option, Some, None, find, option_map}
use Rattle.std.specs.List.{list_any, before_first, range_with_len, starts_with}
use Rattle.dsc_base.specs.Numbers.{number_at}
use Rattle.dsc_base.specs.declared.fault.Finding.{Finding}
use Rattle.dsc_base.specs.declared.finding_kind.FindingKind.{FindingKind}
use Rattle.dsc_base.specs.declared.finding_kind.FindingKind.TheVariants.{NotCache, ShortHeader, TableOutside, NameNotPlain}
use Rattle.dsc_base.specs.Texts.{is_plain_text}
use Rattle.cache_header.specs.Paths.{is_nul}
use Rattle.cache_header.specs.Spelling.{magic}
use Rattle.cache_header.specs.Reading.{header_number, image_count, path_offset, has_texts}

abbrev pub is_cache : List ℕ → Bool
is_cache cache = starts_with nat_eq cache magic

-- the file reaches mappingOffset, which leads behind the counts of mappings and images and not past the end
unfoldable pub has_header : List ℕ → Bool
has_header cache =
    nat_le 0x14 (length cache)
    && (nat_le 0x20 (number_at 4 cache 0x10) && nat_le (number_at 4 cache 0x10) (length cache))

-- the same as facts
pub record HasHeader (cache : List ℕ) : Type 0 where
  pub counts : 0x20 ≤ number_at 4 cache 0x10
  pub inside : number_at 4 cache 0x10 ≤ length cache

-- a table at an offset lies in the file, with at most 4,096 entries of 32 bytes
abbrev pub has_table : List ℕ → ℕ → ℕ → Bool
has_table cache at count = nat_le count 4096 && nat_le (at + 32 * count) (length cache)

-- the image text table may be absent
abbrev pub has_text_table : List ℕ → ℕ → ℕ → Bool
has_text_table cache at count = nat_eq count 0 || has_table cache at count

-- the first table that isn't in the file: the field of the header that tells its offset
unfoldable pub table_outside : List ℕ → Option ℕ
table_outside cache =
    if not (has_table cache (number_at 4 cache 0x10) (number_at 4 cache 0x14)) then Some 0x10
    else (if not (has_table cache (header_number 4 cache 0x18) (image_count cache)) then Some 0x18
    else (if not (has_text_table cache (header_number 8 cache 0x88) (header_number 8 cache 0x90)) then Some 0x88 else None))

-- each table as far as it is read lies in the file
pub record HasTables (cache : List ℕ) : Type 0 where
  pub mappings : number_at 4 cache 0x10 + 32 * number_at 4 cache 0x14 ≤ length cache
  pub images : header_number 4 cache 0x18 + 32 * image_count cache ≤ length cache
  pub texts : has_texts cache ≡ true → 0 < image_count cache
      → header_number 8 cache 0x88 + 32 * image_count cache ≤ length cache

-- a path and its NUL stand at the front of the bytes, and it is plain
unfoldable pub begins_plain : List ℕ → Bool
begins_plain bytes = list_any is_nul bytes && is_plain_text (before_first is_nul bytes)

-- the path of image k ends in the file and is plain
abbrev pub has_plain_path : List ℕ → ℕ → Bool
has_plain_path cache k = begins_plain (drop (path_offset cache k) cache)

-- the first image whose path isn't
unfoldable pub ill_named : List ℕ → Option ℕ
ill_named cache = find (λ k. not (has_plain_path cache k)) (range_with_len 0 (image_count cache))

abbrev pub finding : FindingKind → ℕ → ℕ → Finding
finding kind image at = record { kind = kind; image = image; at = at }

abbrev pub name_finding : List ℕ → Option Finding
name_finding cache = option_map (λ k. finding NameNotPlain k (path_offset cache k)) (ill_named cache)

-- the first finding of four kinds
unfoldable pub head_finding : List ℕ → Option Finding
head_finding cache =
    if not (is_cache cache) then Some (finding NotCache 0 0)
    else (if not (has_header cache) then Some (finding ShortHeader 0 0x10)
    else (if is_some (table_outside cache) then option_map (finding TableOutside 0) (table_outside cache)
    else name_finding cache))
