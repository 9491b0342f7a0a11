-- The segments of an image share no address, so their whole pages take no more room than all addresses below 2 ^ 47 do: going up page by page, each page is counted for one segment at most.
use Rattle.std.proofs.Common.{◌≡◌, ◌≤◌, ◌<◌, ◌⊎◌, ℕ, zero, suc, ◌+◌, ◌-◌, ◌*◌, ◌/◌, ◌%◌, ◌^◌, min, Bool, true, false, not, List, [], ◌∷◌, map, refl, sym, ap, ◌∙◌, subst, arith, if◌then◌else◌, inl, inr, Option, Some, None, add-one, length, get_or}
use Rattle.std.proofs.lemmas.List.Sums.{sum_by-cons}
use Rattle.std.proofs.lemmas.Bool.{cases_lt}
use Rattle.dsc_base.specs.Region.{paged}
use Rattle.macho_image.specs.Records.{Seg, SegmentLoad, Img}
use Rattle.macho_image.specs.Macho.{header_size, loads_of, segment_loads, segment_with}
use Rattle.macho_image.specs.Rules.{is_well_shaped, first_crossing, breaks_segment_shape}
use Rattle.macho_image.specs.Addresses.{range_of}
use Rattle.macho_image.specs.Breaks.{unread, IsSound}
use Rattle.macho_image.proofs.Sharing.{hit, hits_of, hit_cases, hit_in, crossing_few}
use Rattle.cache_layout.proofs.SoundLaws.{load-of}
use Rattle.cache_layout.specs.declared.mapping.Mapping.{Mapping}
use Rattle.cache_layout.specs.Places.{mapping_of, is_same, share, room_of, segments_room}
use Rattle.macho_image.proofs.HeaderRules.{shape_parts, sound_rules, IsShaped, all_shaped, all_fail}
use Rattle.std.specs.List.{AllByRecursion}

-- how many bytes of a segment's whole pages lie in the first n pages
unfoldable below : ℕ → SegmentLoad → ℕ
below n s = min (s.vmaddr + paged s.vmsize) (4096 * n) - min s.vmaddr (4096 * n)

abbrev belows : ℕ → List SegmentLoad → ℕ
belows n [] = 0
belows n (s ∷ ss) = below n s + belows n ss

-- segments that begin at pages and end below 2 ^ 47
abbrev AreInSpace : List SegmentLoad → Type 0
AreInSpace [] = Unit {0}
AreInSpace (s ∷ ss) = (s.vmaddr % 4096 ≡ 0) × (s.vmaddr + s.vmsize ≤ 0x8000_0000_0000) × AreInSpace ss

-- the page that is counted next is in the segment, or no more of the segment is counted
inside-step : (n at size : ℕ) → at % 4096 ≡ 0
    → min (at + (size + 4095) / 4096 * 4096) (4096 * (n + 1)) - min at (4096 * (n + 1)) ≤ min (at + (size + 4095) / 4096 * 4096) (4096 * n) - min at (4096 * n) + 4096
inside-step n at size even = omega arith

above-step : (n at size : ℕ) → at % 4096 ≡ 0 → 4096 * n < at
    → min (at + (size + 4095) / 4096 * 4096) (4096 * (n + 1)) - min at (4096 * (n + 1)) ≤ min (at + (size + 4095) / 4096 * 4096) (4096 * n) - min at (4096 * n)
above-step n at size even lt = omega arith

behind-step : (n at size : ℕ) → at % 4096 ≡ 0 → at + size ≤ 4096 * n
    → min (at + (size + 4095) / 4096 * 4096) (4096 * (n + 1)) - min at (4096 * (n + 1)) ≤ min (at + (size + 4095) / 4096 * 4096) (4096 * n) - min at (4096 * n)
behind-step n at size even le = omega arith

side : (a n at end : ℕ) → a ≡ 0 → (at ≤ n → n < end → a ≡ 1) → (n < at) ⊎ (end ≤ n)
side a n at end none some = elim (cases_lt n at) [
  | inl above ↦ inl above
  | inr low ↦ elim (cases_lt n end) [
    | inl high ↦ absurd (omega (arith, none, some low high))
    | inr behind ↦ inr behind
  ]
]

below-step : (n : ℕ) (s : SegmentLoad) → s.vmaddr % 4096 ≡ 0 → below (n + 1) s ≤ below n s + 4096 * hit (4096 * n) (range_of s)
unfolding below paged
below-step n s even = elim (hit_cases (4096 * n) (range_of s)) [
  | inl none ↦ elim (side (hit (4096 * n) (range_of s)) (4096 * n) s.vmaddr (s.vmaddr + s.vmsize) none (hit_in (4096 * n) (range_of s))) [
    | inl above ↦ omega (arith, above-step n s.vmaddr s.vmsize even above)
    | inr behind ↦ omega (arith, behind-step n s.vmaddr s.vmsize even behind)
  ]
  | inr one ↦ omega (arith, one.0, inside-step n s.vmaddr s.vmsize even)
]

belows-step : (n : ℕ) (ss : List SegmentLoad) → AreInSpace ss → belows (n + 1) ss ≤ belows n ss + 4096 * hits_of (4096 * n) ss
belows-step n [] placed = omega arith
belows-step n (s ∷ ss) placed = omega (arith, below-step n s placed.0, belows-step n ss placed.2)

belows-none : (ss : List SegmentLoad) → belows 0 ss ≡ 0
unfolding below
belows-none [] = refl
belows-none (s ∷ ss) = omega (arith, belows-none ss)

-- n pages have room for no more than their bytes
belows-few : (n : ℕ) (ss : List SegmentLoad) → AreInSpace ss → first_crossing [] ss ≡ None → belows n ss ≤ 4096 * n
belows-few zero ss placed apart = omega (arith, belows-none ss)
belows-few (suc n) ss placed apart =
    let more : belows (suc n) ss ≤ belows n ss + 4096 * hits_of (4096 * n) ss = subst (λ (k : ℕ). belows k ss ≤ belows n ss + 4096 * hits_of (4096 * n) ss) (add-one n) (belows-step n ss placed) in
    let few : hits_of (4096 * n) ss ≤ 1 = crossing_few (4096 * n) [] ss apart (omega arith) in
    omega (arith, more, few, belows-few n ss placed apart)

-- the whole pages of segments
abbrev pages_of : List ℕ → ℕ
pages_of [] = 0
pages_of (v ∷ vs) = paged v + pages_of vs

abbrev load_sizes : List SegmentLoad → List ℕ
load_sizes ss = map (λ (s : SegmentLoad). s.vmsize) ss

abbrev sizes : List Seg → List ℕ
sizes ss = map (λ (s : Seg). s.vmsize) ss

below-whole : (s : SegmentLoad) → s.vmaddr % 4096 ≡ 0 → s.vmaddr + s.vmsize ≤ 0x8000_0000_0000 → below 34359738368 s ≡ paged s.vmsize
unfolding below paged
below-whole s even inside = omega arith

belows-whole : (ss : List SegmentLoad) → AreInSpace ss → belows 34359738368 ss ≡ pages_of (load_sizes ss)
belows-whole [] placed = refl
belows-whole (s ∷ ss) placed = omega (arith, below-whole s placed.0 placed.1, belows-whole ss placed.2)

-- segments of good shape lie in the space
are_in_space : (ss : List SegmentLoad) → AllByRecursion IsShaped ss → AreInSpace ss
are_in_space [] shaped = tt
are_in_space (s ∷ ss) shaped = (shaped.0.aligned, shaped.0.low, are_in_space ss shaped.1)

shaped_loads : (size : ℕ) (ss : List SegmentLoad) → breaks_segment_shape size ss ≡ None → AllByRecursion IsShaped ss
shaped_loads size ss none = all_shaped ss (all_fail (λ s. not (is_well_shaped s)) ss (shape_parts size ss none).1)

shaped_few : (size : ℕ) (ss : List SegmentLoad) → breaks_segment_shape size ss ≡ None → pages_of (load_sizes ss) ≤ 2 ^ 47
shaped_few size ss none =
    let rules = shape_parts size ss none in
    let placed : AreInSpace ss = are_in_space ss (shaped_loads size ss none) in
    omega (arith, belows-few 34359738368 ss placed rules.2, belows-whole ss placed)

-- an image's segments are those of its header
unread_sizes : (ss : List Seg) → sizes (map unread ss) ≡ sizes ss
unread_sizes [] = refl
unread_sizes (s ∷ ss) = ap (λ (l : List ℕ). s.vmsize ∷ l) (unread_sizes ss)

spelled_sizes : (ss : List SegmentLoad) → sizes (map (segment_with []) ss) ≡ load_sizes ss
spelled_sizes [] = refl
spelled_sizes (s ∷ ss) = ap (λ (l : List ℕ). s.vmsize ∷ l) (spelled_sizes ss)

sound_sizes : (image : Img) → IsSound image → sizes image.segments ≡ load_sizes (segment_loads (loads_of image.header))
sound_sizes image sound =
    sym (unread_sizes image.segments) ∙ (ap sizes sound.segments ∙ spelled_sizes (segment_loads (loads_of image.header)))

share-le : (m : Mapping) (o : Option Mapping) (n : ℕ) → share m o n ≤ n
share-le m None n = omega arith
share-le m (Some k) n = pick (is_same m k) n
  where
    pick : (b : Bool) (n : ℕ) → (if b then n else 0) ≤ n
    pick true n = omega arith
    pick false n = omega arith

room-le : (m : Mapping) (ss : List Seg) → segments_room m ss ≤ pages_of (sizes ss)
room-le m [] = omega arith
room-le m (s ∷ ss) = omega (arith, sum_by-cons (room_of m) s ss, share-le m (mapping_of s) (paged s.vmsize), room-le m ss)

-- the segments of an image take at most 2 ^ 47 bytes of a mapping
pub sound_room : (image : Img) → IsSound image → (m : Mapping) → segments_room m image.segments ≤ 2 ^ 47
sound_room image sound m =
    let few : pages_of (sizes image.segments) ≤ 2 ^ 47 =
    subst (λ (l : List ℕ). pages_of l ≤ 2 ^ 47) (sym (sound_sizes image sound)) (shaped_few (header_size image.header) (segment_loads (loads_of image.header)) (sound_rules image sound).segments) in
    omega (arith, room-le m image.segments, few)

in_space-at : (ls : List SegmentLoad) → AreInSpace ls → (g : ℕ) (l : SegmentLoad) → g < length ls → l ≡ get_or ls g l → (l.vmaddr % 4096 ≡ 0) × (l.vmaddr + l.vmsize ≤ 0x8000_0000_0000)
in_space-at [] placed g l lt is = absurd (omega arith)
in_space-at (t ∷ ts) placed zero l lt is = subst (λ (s : SegmentLoad). (s.vmaddr % 4096 ≡ 0) × (s.vmaddr + s.vmsize ≤ 0x8000_0000_0000)) (sym is) (placed.0, placed.1)
in_space-at (t ∷ ts) placed (suc g) l lt is = in_space-at ts placed.2 g l (omega arith) is

-- an image's segment begins at a page and ends below 2 ^ 47
pub sound_space : (image : Img) → IsSound image → (g : ℕ) (s : Seg) → g < length image.segments → s ≡ get_or image.segments g s → (s.vmaddr % 4096 ≡ 0) × (s.vmaddr + s.vmsize ≤ 0x8000_0000_0000)
sound_space image sound g s lt is =
    let ls : List SegmentLoad = segment_loads (loads_of image.header) in
    let command = load-of image.segments ls sound.segments g s lt is in
    let placed = in_space-at ls (are_in_space ls (shaped_loads (header_size image.header) ls (sound_rules image sound).segments)) g command.0 command.1 command.2 in
    subst (λ (t : Seg). (t.vmaddr % 4096 ≡ 0) × (t.vmaddr + t.vmsize ≤ 0x8000_0000_0000)) (sym command.3) placed
