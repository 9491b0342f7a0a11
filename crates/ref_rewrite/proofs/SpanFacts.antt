-- The room of a segment in its mapping.
use Rattle.std.proofs.Common.{◌≡◌, ◌≤◌, ℕ, true, false, arith, Option, Some, None}
use Rattle.std.proofs.lemmas.Bool.{cond-true}
use Rattle.dsc_base.specs.Region.{paged}
use Rattle.macho_image.specs.Records.{Seg}
use Rattle.cache_layout.specs.declared.mapping.Mapping.{Mapping}
use Rattle.cache_layout.specs.Places.{mapping_of, is_in, is_same, share, room_of}
use Rattle.cache_layout.proofs.RoomLaws.{paged-covers}

differ : false ≡ true → ⊥
differ e = cc

shared : (m : Mapping) (o : Option Mapping) (size : ℕ) → is_in m o ≡ true → share m o size ≡ size
shared m None size own = absurd (differ own)
shared m (Some n) size own = cond-true (is_same m n) size 0 own

pub owned_size : (m : Mapping) (s : Seg) (most : ℕ) → is_in m (mapping_of s) ≡ true → room_of m s ≤ most → s.vmsize ≤ most
owned_size m s most own le =
    let room : room_of m s ≡ paged s.vmsize = shared m (mapping_of s) (paged s.vmsize) own in
    omega (arith, le, room, paged-covers s.vmsize)
