-- What the rules on a header say of its image's segments: no address is in two of them, they lie below 2 ^ 47, and there are fewer than 2 ^ 32.
use Rattle.std.proofs.Common.{◌≡◌, ◌≤◌, ◌<◌, ◌^◌, ◌+◌, ℕ, suc, min, max, false, not, List, [], ◌∷◌, length, get_or, map, sym, ap, ◌∙◌, arith, inl, inr, None}
use Rattle.std.specs.List.{AllByRecursion}
use Rattle.std.proofs.lemmas.Bool.{cases_Bool}
use Rattle.std.proofs.lemmas.Bool.Decides.{nat_tests}
use Rattle.std.proofs.lemmas.List.{length-map}
use Rattle.macho_image.specs.Records.{Img, Seg, SegmentLoad}
use Rattle.macho_image.specs.Macho.{header_size, loads_of, segment_loads, segment_with}
use Rattle.macho_image.specs.Rules.{is_well_shaped, shares_address, breaks_segment_shape}
use Rattle.macho_image.specs.Breaks.{unread, IsSound}
use Rattle.macho_image.proofs.Sharing.{segments_apart}
use Rattle.macho_image.proofs.Unbroken.{few_loads}
use Rattle.macho_image.proofs.HeaderRules.{sound_rules, shape_parts, all_fail, IsShaped, all_shaped}
use Rattle.macho_image.specs.Segments.{contains}
use Rattle.macho_image.specs.Index.{IsApart, AreApart}
use Rattle.macho_image.proofs.SegmentLaws.{contains_low, contains_high}

-- what rule 10 gives of an image's segments
pub segment_shape : (image : Img) → IsSound image → breaks_segment_shape (header_size image.header) (segment_loads (loads_of image.header)) ≡ None
segment_shape image sound = (sound_rules image sound).segments

one_apart : (s t : Seg) (l k : SegmentLoad) → unread s ≡ segment_with [] l → unread t ≡ segment_with [] k → shares_address l k ≡ false → IsApart s t
one_apart s t l k first second none =
    let a : s.vmaddr ≡ l.vmaddr = ap (λ (x : Seg). x.vmaddr) first in
    let b : s.vmsize ≡ l.vmsize = ap (λ (x : Seg). x.vmsize) first in
    let c : t.vmaddr ≡ k.vmaddr = ap (λ (x : Seg). x.vmaddr) second in
    let d : t.vmsize ≡ k.vmsize = ap (λ (x : Seg). x.vmsize) second in
    let far : min (l.vmaddr + l.vmsize) (k.vmaddr + k.vmsize) ≤ max l.vmaddr k.vmaddr = grind (arith, nat_tests) in
    λ x is. elim (cases_Bool (contains t x)) [
      | inl both ↦
          let low = contains_low s x is in
          let high = contains_high s x is in
          let from = contains_low t x both in
          let to = contains_high t x both in
          absurd (omega arith)
      | inr other ↦ other
    ]

apart_from : (s : Seg) (l : SegmentLoad) (ss : List Seg) (ls : List SegmentLoad) → unread s ≡ segment_with [] l → map unread ss ≡ map (segment_with []) ls
    → ((j : ℕ) (d : SegmentLoad) → j < length ls → shares_address l (get_or ls j d) ≡ false) → AllByRecursion (IsApart s) ss
apart_from s l [] ls here same apart = tt
apart_from s l (t ∷ ts) [] here same apart = absurd (cc)
apart_from s l (t ∷ ts) (k ∷ ks) here same apart =
    let first : unread t ≡ segment_with [] k = cc in
    let later : map unread ts ≡ map (segment_with []) ks = cc in
    (one_apart s t l k here first (apart 0 k (omega arith)), apart_from s l ts ks here later (λ j d lt. apart (suc j) d (omega arith)))

all_apart : (ss : List Seg) (ls : List SegmentLoad) → map unread ss ≡ map (segment_with []) ls
    → ((i j : ℕ) (d : SegmentLoad) → i < j → j < length ls → shares_address (get_or ls i d) (get_or ls j d) ≡ false) → AreApart ss
all_apart [] ls same apart = tt
all_apart (s ∷ ss) [] same apart = absurd (cc)
all_apart (s ∷ ss) (l ∷ ls) same apart =
    let here : unread s ≡ segment_with [] l = cc in
    let later : map unread ss ≡ map (segment_with []) ls = cc in (
      apart_from s l ss ls here later (λ j d lt. apart 0 (suc j) d (omega arith) (omega arith)),
      all_apart ss ls later (λ i j d lt within. apart (suc i) (suc j) d (omega arith) (omega arith)),
    )

-- no address is in two segments of an image
pub segments_keep_apart : (image : Img) → IsSound image → AreApart image.segments
segments_keep_apart image sound =
    let ls = segment_loads (loads_of image.header) in
    all_apart image.segments ls sound.segments (segments_apart (header_size image.header) ls (segment_shape image sound))

-- there are as many segments as commands
pub loads_length : (ss : List Seg) (ls : List SegmentLoad) → map unread ss ≡ map (segment_with []) ls → length ss ≡ length ls
loads_length ss ls same = sym (length-map ss unread) ∙ (ap length same ∙ length-map ls (segment_with []))

-- an image has no more segments than its header has commands, and a header tells their number in four bytes
pub few_segments : (image : Img) → IsSound image → ((k : ℕ) → get_or image.header k 0 < 256) → length image.segments < 2 ^ 32
few_segments image sound bytes = omega (arith, few_loads image.header bytes, loads_length image.segments (segment_loads (loads_of image.header)) sound.segments)

-- what is told of each segment by its command, which is well shaped
pub each_shaped : (P : Seg → Type 0) → ((s : Seg) (l : SegmentLoad) → unread s ≡ segment_with [] l → IsShaped l → P s) → (image : Img) → IsSound image → AllByRecursion P image.segments
each_shaped P told image sound =
    let ls = segment_loads (loads_of image.header) in
    go image.segments ls sound.segments (all_shaped ls (all_fail (λ l. not (is_well_shaped l)) ls (shape_parts (header_size image.header) ls (segment_shape image sound)).1))
  where
    go : (ss : List Seg) (ls : List SegmentLoad) → map unread ss ≡ map (segment_with []) ls → AllByRecursion IsShaped ls → AllByRecursion P ss
    go [] ls same shaped = tt
    go (s ∷ ss) [] same shaped = absurd (cc)
    go (s ∷ ss) (l ∷ ls) same shaped =
        let here : unread s ≡ segment_with [] l = cc in
        let later : map unread ss ≡ map (segment_with []) ls = cc in
        (told s l here shaped.0, go ss ls later shaped.1)

-- the segments of an image lie below 2 ^ 47
pub segments_low : (image : Img) → IsSound image → AllByRecursion (λ (s : Seg). s.vmaddr + s.vmsize ≤ 0x8000_0000_0000) image.segments
segments_low image sound = each_shaped (λ s. s.vmaddr + s.vmsize ≤ 0x8000_0000_0000) (λ s l here shaped. omega (arith, shaped.low, ap (λ (x : Seg). x.vmaddr) here, ap (λ (x : Seg). x.vmsize) here)) image sound

-- and none has more bytes in the file than in memory
pub segments_filled : (image : Img) → IsSound image → AllByRecursion (λ (s : Seg). s.filesize ≤ s.vmsize) image.segments
segments_filled image sound = each_shaped (λ s. s.filesize ≤ s.vmsize) (λ s l here shaped. omega (arith, shaped.filled, ap (λ (x : Seg). x.filesize) here, ap (λ (x : Seg). x.vmsize) here)) image sound
