-- What the rules on a header say of its image's sections: each lies in its segment, below 2 ^ 47.
use Rattle.std.proofs.Common.{◌≡◌, ◌≤◌, ◌+◌, ℕ, zero, suc, true, false, not, List, [], ◌∷◌, ◌++◌, map, refl, sym, ap, ◌∙◌, subst, arith, Option, Some, None}
use Rattle.std.specs.Prelude.{option_map, slice_get}
use Rattle.std.specs.List.{AllByRecursion}
use Rattle.std.proofs.lemmas.Bool.{not-false}
use Rattle.std.proofs.lemmas.Bool.Decides.{nat_tests}
use Rattle.std.proofs.lemmas.Option.{slice_get-map}
use Rattle.macho_image.specs.Records.{Img, Seg, SegmentLoad, SectionLoad}
use Rattle.macho_image.specs.declared.section.Section.{Section}
use Rattle.macho_image.specs.Macho.{header_size, loads_of, segment_loads, segment_with, section_of, sections_from}
use Rattle.macho_image.specs.Rules.{first_segment, sections_stand, sections_start, first_crowded}
use Rattle.macho_image.specs.Breaks.{unread, IsSound}
use Rattle.macho_image.proofs.Unbroken.{least_none_both}
use Rattle.macho_image.proofs.SoundSegments.{segments_low}
use Rattle.macho_image.proofs.HeaderRules.{sound_rules, all_fail}
use Rattle.macho_image.proofs.SectionLaws.{start_above}

-- a section lies in the segment of its number
pub record IsInside (image : Img) (x : Section) : Type 0 where
  pub segment : Seg
  pub segment_is : slice_get image.segments x.segment ≡ Some segment
  pub from : segment.vmaddr ≤ x.addr
  pub to : x.addr + x.size ≤ segment.vmaddr + segment.vmsize
  pub low : segment.vmaddr + segment.vmsize ≤ 0x8000_0000_0000

-- the same of the segments from number k on, by their commands
pub record IsInLoads (k : ℕ) (ls : List SegmentLoad) (x : Section) : Type 0 where
  pub load : SegmentLoad
  pub index : ℕ
  pub load_is : slice_get ls index ≡ Some load
  pub number : x.segment ≡ k + index
  pub from : load.vmaddr ≤ x.addr
  pub to : x.addr + x.size ≤ load.vmaddr + load.vmsize

stand_inside : (size k floor : ℕ) (l : SegmentLoad) (ls : List SegmentLoad) (xs : List SectionLoad) → sections_stand l (sections_start size l) floor xs ≡ true → AllByRecursion (IsInLoads k (l ∷ ls)) (map (section_of k) xs)
unfolding section_of
stand_inside size k floor l ls [] stand = tt
stand_inside size k floor l ls (x ∷ xs) stand =
    let start = start_above size l in
    let low : sections_start size l ≤ x.addr = grind (arith, nat_tests) in
    let high : x.addr + x.size ≤ l.vmaddr + l.vmsize = grind (arith, nat_tests) in
    let rest : sections_stand l (sections_start size l) (x.addr + x.size) xs ≡ true = grind (arith, nat_tests) in
    let here : IsInLoads k (l ∷ ls) (section_of k x) = record { load = l; index = 0; load_is = refl; number = omega arith; from = omega (arith, start, low); to = high } in
    (here, stand_inside size k (x.addr + x.size) l ls xs rest)

one_later : (k : ℕ) (l : SegmentLoad) (ls : List SegmentLoad) (xs : List Section) → AllByRecursion (IsInLoads (k + 1) ls) xs → AllByRecursion (IsInLoads k (l ∷ ls)) xs
one_later k l ls [] all = tt
one_later k l ls (x ∷ xs) all =
    let h = all.0 in
    let here : IsInLoads k (l ∷ ls) x = record { load = h.load; index = suc h.index; load_is = h.load_is; number = omega (arith, h.number); from = h.from; to = h.to } in
    (here, one_later k l ls xs all.1)

joined : (P : Section → Type 0) (xs ys : List Section) → AllByRecursion P xs → AllByRecursion P ys → AllByRecursion P (xs ++ ys)
joined P [] ys first second = second
joined P (x ∷ xs) ys first second = (first.0, joined P xs ys first.1 second)

all_inside : (size k : ℕ) (ls : List SegmentLoad) → AllByRecursion (λ (l : SegmentLoad). not (sections_stand l (sections_start size l) 0 l.sections) ≡ false) ls → AllByRecursion (IsInLoads k ls) (sections_from k ls)
all_inside size k [] stand = tt
all_inside size k (l ∷ ls) stand =
    joined (IsInLoads k (l ∷ ls)) (map (section_of k) l.sections) (sections_from (k + 1) ls) (stand_inside size k 0 l ls l.sections (not-false (sections_stand l (sections_start size l) 0 l.sections) stand.0))
    (one_later k l ls (sections_from (k + 1) ls) (all_inside size (k + 1) ls stand.1))

at_index : {X : Type 0} (P : X → Type 0) (xs : List X) (k : ℕ) (x : X) → AllByRecursion P xs → slice_get xs k ≡ Some x → P x
at_index P [] k x all there = absurd (cc)
at_index P (y ∷ ys) zero x all there = let e : y ≡ x = cc in subst P e all.0
at_index P (y ∷ ys) (suc k) x all there = at_index P ys k x all.1 there

-- the segment of a command
pub record IsSegmentOf (image : Img) (index : ℕ) (l : SegmentLoad) : Type 0 where
  pub segment : Seg
  pub segment_is : slice_get image.segments index ≡ Some segment
  pub vmaddr : segment.vmaddr ≡ l.vmaddr
  pub vmsize : segment.vmsize ≡ l.vmsize

segment_there : (image : Img) (index : ℕ) (l : SegmentLoad) → IsSound image → slice_get (segment_loads (loads_of image.header)) index ≡ Some l → IsSegmentOf image index l
segment_there image index l sound there =
    let ls = segment_loads (loads_of image.header) in
    go (slice_get image.segments index) refl
    (sym (slice_get-map unread image.segments index) ∙ (ap (λ (ss : List Seg). slice_get ss index) sound.segments ∙ (slice_get-map (segment_with []) ls index ∙ ap (λ (o : Option SegmentLoad). option_map (segment_with []) o) there)))
  where
    go : (o : Option Seg) → slice_get image.segments index ≡ o → option_map unread o ≡ Some (segment_with [] l) → IsSegmentOf image index l
    go None is same = absurd (cc)
    go (Some s) is same =
        let e : unread s ≡ segment_with [] l = cc in
        record { segment = s; segment_is = is; vmaddr = ap (λ (t : Seg). t.vmaddr) e; vmsize = ap (λ (t : Seg). t.vmsize) e }

pub section_inside : (image : Img) (k : ℕ) (x : Section) → IsSound image → slice_get image.sections k ≡ Some x → IsInside image x
section_inside image k x sound there =
    let ls = segment_loads (loads_of image.header) in
    let size = header_size image.header in
    let shape = least_none_both (first_segment (λ l. not (sections_stand l (sections_start size l) 0 l.sections)) ls) (first_crowded 0 ls) (sound_rules image sound).sections in
    let h = at_index (IsInLoads 0 ls) (sections_from 0 ls) k x (all_inside size 0 ls (all_fail (λ l. not (sections_stand l (sections_start size l) 0 l.sections)) ls shape.0)) (ap (λ (xs : List Section). slice_get xs k) (sym sound.sections) ∙ there) in
    let s = segment_there image h.index h.load sound h.load_is in
    let number : h.index ≡ x.segment = omega (arith, h.number) in
    let place : slice_get image.segments x.segment ≡ Some s.segment = ap (λ (i : ℕ). slice_get image.segments i) (sym number) ∙ s.segment_is in
    record {
      segment = s.segment;
      segment_is = place;
      from = omega (arith, h.from, s.vmaddr);
      to = omega (arith, h.to, s.vmaddr, s.vmsize);
      low = at_index (λ (t : Seg). t.vmaddr + t.vmsize ≤ 0x8000_0000_0000) image.segments x.segment s.segment (segments_low image sound) place;
    }
