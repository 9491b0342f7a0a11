-- When bytes are no table of patches, and what they say at its places.
use Rattle.std.specs.Prelude.{◌≡◌, ℕ, ◌+◌, ◌*◌, Bool, true, ◌&&◌, ◌||◌, nat_eq, nat_le, if◌then◌else◌, List, length, take, Option, Some, None, option_map}
use Rattle.std.specs.List.{starts_with}
use Rattle.dsc_base.specs.Numbers.{number_at}
use Rattle.dsc_base.specs.declared.rule.Rule.TheVariants.{PatchShape}
use Rattle.dsc_base.specs.declared.fault.Site.{Site}
use Rattle.patch_table.specs.declared.patches.Base.{Base}
use Rattle.patch_table.specs.declared.patches.Base.TheVariants.{Constant, Cache, File}
use Rattle.patch_table.specs.declared.patches.Record.{Record}
use Rattle.patch_table.specs.Spelling.{magic, kind_number}

abbrev pub misshapen : Site
misshapen = record { rule = PatchShape; at = 0 }

-- the break of bytes that should spell something: none where there is what they spell, and else the shape
abbrev pub IsBreakOf : Type 0 → Option Site → Type 0
IsBreakOf Spelled None = Spelled
IsBreakOf Spelled (Some site) = (site ≡ misshapen) × (Spelled → ⊥)

-- the bytes begin with the magic, the kind is 1, or 2 with image 0 and no records of the cache, and the records end with the bytes
unfoldable pub has_head : List ℕ → Bool
has_head b =
    nat_le 0x30 (length b) && (starts_with nat_eq b magic
    && ((nat_eq (number_at 4 b 0x20) 1 || (nat_eq (number_at 4 b 0x20) 2 && (nat_eq (number_at 4 b 0x24) 0 && nat_eq (number_at 4 b 0x28) 0)))
    && nat_eq (length b) (0x30 + 24 * (number_at 4 b 0x28 + number_at 4 b 0x2C))))

-- the same as facts
pub record HasHead (b : List ℕ) : Type 0 where
  pub begins : take 16 b ≡ magic
  pub long : length b ≡ 0x30 + 24 * (number_at 4 b 0x28 + number_at 4 b 0x2C)
  pub kind : kind_number (nat_eq (number_at 4 b 0x20) 2) ≡ number_at 4 b 0x20
  pub alone : nat_eq (number_at 4 b 0x20) 2 ≡ true → (number_at 4 b 0x24 ≡ 0) × (number_at 4 b 0x28 ≡ 0)

abbrev pub base_of : ℕ → Option Base
base_of n = if nat_eq n 0 then Some Constant else (if nat_eq n 1 then Some Cache else (if nat_eq n 2 then Some File else None))

-- what 24 bytes say as a record
unfoldable pub told_record : List ℕ → Option Record
told_record b =
    if nat_eq (number_at 4 b 12) 0
    then option_map (λ base. record { at = number_at 8 b 0; base = base; value = number_at 8 b 16 }) (base_of (number_at 4 b 8))
    else None
