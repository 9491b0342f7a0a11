-- The sections that are compared lie low.
use Rattle.std.proofs.Common.{◌≡◌, ◌≤◌, ℕ, ◌+◌, ◌-◌, ◌^◌, Bool, true, false, Some, None, List, arith, nat_eq, if◌then◌else◌}
use Rattle.std.specs.Prelude.{slice_get}
use Rattle.macho_image.specs.Records.{Img}
use Rattle.macho_image.specs.Breaks.{IsSound}
use Rattle.macho_image.specs.declared.section.Section.{Section}
use Rattle.macho_image.specs.Places.{numbered_section}
use Rattle.split_info.proofs.SoundSections.{IsInside, section_inside}
use Rattle.load_model.proofs.LoadingLaws.{IsLow, low_at}
use Rattle.load_model.proofs.SoundApart.{sound_apart}

pub numbered_there : (xs : List Section) (n : ℕ) (x : Section) → numbered_section xs n ≡ Some x → slice_get xs (n - 1) ≡ Some x
numbered_there xs n x is = at (nat_eq n 0) is
  where
    at : (b : Bool) → (if b then None else slice_get xs (n - 1)) ≡ Some x → slice_get xs (n - 1) ≡ Some x
    at true is = absurd (cc)
    at false is = is

pub section_low : (i : Img) (j : ℕ) (u : Section) → IsSound i → slice_get i.sections j ≡ Some u → u.addr + u.size ≤ 2 ^ 47
section_low i j u sound got =
    let is : IsInside i u = section_inside i j u sound got in
    let low : IsLow is.segment = low_at u.segment is.segment i.segments (sound_apart i sound) is.segment_is in
    let end : is.segment.vmaddr + is.segment.vmsize ≤ 0x800000000000 = low.low in
    omega (arith, is.to, end)

pub numbered_low : (i : Img) (n : ℕ) (u : Section) → IsSound i → numbered_section i.sections n ≡ Some u → u.addr + u.size ≤ 2 ^ 47
numbered_low i n u sound got = section_low i (n - 1) u sound (numbered_there i.sections n u got)
