-- What segments take of mappings.
use Rattle.std.proofs.Common.{◌≡◌, ◌≤◌, ℕ, ◌%◌, true, refl, sym, ap, ◌∙◌, arith, if◌then◌else◌, Some, Option}
use Rattle.dsc_base.specs.Region.{paged}
use Rattle.macho_image.specs.Records.{Seg}
use Rattle.cache_layout.specs.declared.mapping.Mapping.{Mapping}
use Rattle.cache_layout.specs.declared.mapping.Mapping.TheVariants.{Text, Writable, Fixed}
use Rattle.cache_layout.specs.Places.{mapping_of, is_same, share, room_of}

pub paged-covers : (n : ℕ) → n ≤ paged n
unfolding paged
paged-covers n = omega arith

pub paged-whole : (n : ℕ) → paged n % 4096 ≡ 0
unfolding paged
paged-whole n = omega arith

pub is_same-self : (m : Mapping) → is_same m m ≡ true
is_same-self Text = refl
is_same-self Writable = refl
is_same-self Fixed = refl

-- a segment takes its whole pages in its own mapping
pub room_of-own : (m : Mapping) (s : Seg) → mapping_of s ≡ Some m → room_of m s ≡ paged s.vmsize
room_of-own m s is =
    ap (λ (o : Option Mapping). share m o (paged s.vmsize)) is ∙ ap (λ b. if b then paged s.vmsize else 0) (is_same-self m)

pub room_covers : (n : ℕ) (m : Mapping) (s : Seg) → Some m ≡ mapping_of s → room_of m s ≤ n → s.vmsize ≤ n
room_covers n m s is fits = omega (arith, room_of-own m s (sym is), paged-covers s.vmsize, fits)
