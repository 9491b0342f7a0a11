-- The segments of a sound image keep apart and lie low, as loading wants them.
use Rattle.std.proofs.Common.{◌≡◌, ◌≤◌, ◌+◌, List, [], ◌∷◌, length, map, sym, ◌∙◌}
use Rattle.std.specs.List.{AllByRecursion}
use Rattle.std.proofs.lemmas.Bool.{false≢true}
use Rattle.macho_image.specs.Records.{Img, Seg}
use Rattle.macho_image.specs.Breaks.{IsSound}
use Rattle.macho_image.specs.Index.{IsApart}
use Rattle.macho_image.specs.Index as index
use Rattle.macho_image.proofs.SegmentLaws.{contains_yes}
use Rattle.macho_image.proofs.SoundSegments.{segments_keep_apart, segments_low, segments_filled}
use Rattle.load_model.proofs.LoadingLaws.{KeepApart, AreApartFrom, AreApart}

keep_apart : (s t : Seg) → IsApart s t → KeepApart s t
keep_apart s t apart x low high from to = false≢true (sym (apart x (contains_yes s x low high)) ∙ contains_yes t x from to)

apart_from : (s : Seg) (ss : List Seg) → AllByRecursion (IsApart s) ss → AreApartFrom s ss
apart_from s [] apart = tt
apart_from s (t ∷ ts) apart = (keep_apart s t apart.0, apart_from s ts apart.1)

joined : (ss : List Seg) → index.AreApart ss → AllByRecursion (λ (s : Seg). s.vmaddr + s.vmsize ≤ 0x8000_0000_0000) ss → AllByRecursion (λ (s : Seg). s.filesize ≤ s.vmsize) ss
    → map (λ (s : Seg). length s.bytes) ss ≡ map (λ (s : Seg). s.filesize) ss → AreApart ss
joined [] apart low filled sizes = tt
joined (s ∷ ss) apart low filled sizes =
    let size : length s.bytes ≡ s.filesize = cc in
    let rest : map (λ (t : Seg). length t.bytes) ss ≡ map (λ (t : Seg). t.filesize) ss = cc in
    (record { low = low.0; bytes = size; within = filled.0 }, apart_from s ss apart.0, joined ss apart.1 low.1 filled.1 rest)

pub sound_apart : (image : Img) → IsSound image → AreApart image.segments
sound_apart image sound = joined image.segments (segments_keep_apart image sound) (segments_low image sound) (segments_filled image sound) sound.sizes
