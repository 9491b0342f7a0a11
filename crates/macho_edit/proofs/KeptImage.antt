-- The segments and sections of the image where its header was moved.
use Rattle.std.proofs.Common.{◌≡◌, ◌≤◌, ℕ, suc, ◌+◌, ◌-◌, inl, inr, false, not, List, [], ◌∷◌, ◌++◌, take, drop, map, get_or, refl, sym, ap, ap₂, ◌∙◌, arith}
use Rattle.std.specs.List.{AllByRecursion}
use Rattle.std.proofs.lemmas.List.{map-append}
use Rattle.macho_image.specs.declared.section.Section.{Section}
use Rattle.macho_image.specs.Records.{Seg, SectionLoad, SegmentLoad}
use Rattle.macho_image.specs.Macho.{segment_with, segment_of, section_of, sections_from}
use Rattle.macho_image.specs.Rules.{sections_stand, sections_start, is_linkedit}
use Rattle.macho_image.specs.Breaks.{unread}
use Rattle.macho_edit.specs.declared.segment.SegmentPlace.{SegmentPlace}
use Rattle.macho_edit.specs.Segments.{section_address}
use Rattle.macho_edit.specs.MovedImage.{seated, seated_all, followed}
use Rattle.macho_edit.proofs.BoolLaws.{bool_cases}
use Rattle.macho_edit.proofs.MovedSections.{placed_section}
use Rattle.macho_edit.proofs.MovedSegments.{placed_load}
use Rattle.macho_edit.proofs.MovedCommands.{Follow}
use Rattle.macho_edit.proofs.KeptSections.{IsSeatedLoad, address_in, all_inside}
use Rattle.macho_edit.proofs.KeptSegments.{AreSeated, no_sections}
use Rattle.std.proofs.lemmas.Bool.{not-false}

-- a segment with its bytes at its place
segment_seated : (b : List ℕ) (p : SegmentPlace) (at : ℕ) (g : Seg) (s : SegmentLoad) → unread g ≡ segment_with [] s → segment_of b (placed_load p at s) ≡ seated b p g
unfolding segment_of
segment_seated b p at g s same = λ i. record {
  name = ap (λ (x : Seg). x.name) (sym same) i;
  vmaddr = p.address;
  vmsize = p.vmsize;
  fileoff = p.file;
  filesize = p.filesize;
  maxprot = ap (λ (x : Seg). x.maxprot) (sym same) i;
  initprot = ap (λ (x : Seg). x.initprot) (sym same) i;
  flags = ap (λ (x : Seg). x.flags) (sym same) i;
  bytes = take p.filesize (drop p.file b);
}

pub segments_seated : (b : List ℕ) (ps : List SegmentPlace) (ss ts : List SegmentLoad) (segs : List Seg) → Follow ps ss ts → map unread segs ≡ map (segment_with []) ss → map (segment_of b) ts ≡ seated_all b ps segs
segments_seated b [] [] [] segs follow same = refl
segments_seated b [] [] (t ∷ ts) segs follow same = absurd follow
segments_seated b [] (s ∷ ss) ts segs follow same = absurd follow
segments_seated b (p ∷ ps) [] ts segs follow same = absurd follow
segments_seated b (p ∷ ps) (s ∷ ss) [] segs follow same = absurd follow
segments_seated b (p ∷ ps) (s ∷ ss) (t ∷ ts) [] follow same = absurd (cc)
segments_seated b (p ∷ ps) (s ∷ ss) (t ∷ ts) (g ∷ gs) follow same =
    let here : unread g ≡ segment_with [] s = cc in
    let later : map unread gs ≡ map (segment_with []) ss = cc in
    ap₂ (λ (x : Seg) (xs : List Seg). x ∷ xs) (ap (segment_of b) follow.0 ∙ segment_seated b p t.at g s here) (segments_seated b ps ss ts gs follow.1 later)

-- the addresses at which segments and their places start
abbrev pub starts_of : List SegmentLoad → List ℕ
starts_of ss = map (λ s. s.vmaddr) ss

abbrev pub addresses_of : List SegmentPlace → List ℕ
addresses_of ps = map (λ p. p.address) ps

pub same_starts : (segs : List Seg) (ss : List SegmentLoad) → map unread segs ≡ map (segment_with []) ss → map (λ (s : Seg). s.vmaddr) segs ≡ starts_of ss
same_starts [] [] same = refl
same_starts [] (s ∷ ss) same = absurd (cc)
same_starts (g ∷ gs) [] same = absurd (cc)
same_starts (g ∷ gs) (s ∷ ss) same =
    let here : unread g ≡ segment_with [] s = cc in
    let later : map unread gs ≡ map (segment_with []) ss = cc in
    ap₂ (λ (n : ℕ) (ns : List ℕ). n ∷ ns) (ap (λ (x : Seg). x.vmaddr) here) (same_starts gs ss later)

-- the sections of segment k, which goes to a place
sections_placed : (segs : List Seg) (places : List SegmentPlace) (k n : ℕ) (p : SegmentPlace) (s : SegmentLoad) (xs : List SectionLoad) → get_or (map (λ (g : Seg). g.vmaddr) segs) k 0 ≡ s.vmaddr → get_or (addresses_of places) k 0 ≡ p.address
    → IsSeatedLoad n p s → is_linkedit s ≡ false → AllByRecursion (λ x. x.addr ≤ s.vmaddr + s.vmsize) xs → map (section_of k) (map (placed_section p s.vmaddr) xs) ≡ map (followed segs places) (map (section_of k) xs)
unfolding section_of
sections_placed segs places k n p s [] start place seated other inside = refl
sections_placed segs places k n p s (x ∷ xs) start place seated other inside =
    let to : section_address p (x.addr - s.vmaddr) ≡ p.address + (x.addr - s.vmaddr) = address_in n p s x.addr seated.seated (seated.whole other) inside.0 in
    let addr : section_address p (x.addr - s.vmaddr) ≡ get_or (addresses_of places) k 0 + (x.addr - get_or (map (λ (g : Seg). g.vmaddr) segs) k 0) =
    to ∙ ap₂ (λ (a b : ℕ). a + (x.addr - b)) (sym place) (sym start) in
    ap₂ (λ (a : ℕ) (ys : List Section). record { name = x.name; segment_name = x.segment_name; segment = k; addr = a; size = x.size; flags = x.flags } ∷ ys) addr
    (sections_placed segs places k n p s xs start place seated other inside.1)

-- segments whose sections stand
abbrev pub AllStand : ℕ → List SegmentLoad → Type 0
AllStand size ss = AllByRecursion (λ s. not (sections_stand s (sections_start size s) 0 s.sections) ≡ false) ss

pub sections_followed : (segs : List Seg) (places : List SegmentPlace) (n size k : ℕ) (ps : List SegmentPlace) (ss ts : List SegmentLoad) → Follow ps ss ts → AreSeated n ps ss → AllStand size ss
    → ((j : ℕ) → get_or (map (λ (g : Seg). g.vmaddr) segs) (k + j) 0 ≡ get_or (starts_of ss) j 0) → ((j : ℕ) → get_or (addresses_of places) (k + j) 0 ≡ get_or (addresses_of ps) j 0)
    → sections_from k ts ≡ map (followed segs places) (sections_from k ss)
sections_followed segs places n size k [] [] [] follow are stand start place = refl
sections_followed segs places n size k [] [] (t ∷ ts) follow are stand start place = absurd follow
sections_followed segs places n size k [] (s ∷ ss) ts follow are stand start place = absurd follow
sections_followed segs places n size k (p ∷ ps) [] ts follow are stand start place = absurd follow
sections_followed segs places n size k (p ∷ ps) (s ∷ ss) [] follow are stand start place = absurd follow
sections_followed segs places n size k (p ∷ ps) (s ∷ ss) (t ∷ ts) follow are stand start place =
    let none : k + 0 ≡ k = omega arith in
    let moved : t.sections ≡ map (placed_section p s.vmaddr) s.sections = ap (λ (x : SegmentLoad). x.sections) follow.0 in
    let here : map (section_of k) t.sections ≡ map (followed segs places) (map (section_of k) s.sections) =
    elim (bool_cases (is_linkedit s)) [
      | inl other ↦
          ap (map (section_of k)) moved
          ∙ sections_placed segs places k n p s s.sections (ap (λ (m : ℕ). get_or (map (λ (g : Seg). g.vmaddr) segs) m 0) (sym none) ∙ start 0) (ap (λ (m : ℕ). get_or (addresses_of places) m 0) (sym none) ∙ place 0) are.0 other
          (all_inside s (sections_start size s) 0 s.sections (not-false (sections_stand s (sections_start size s) 0 s.sections) stand.0))
      | inr linkedit ↦
          let bare : s.sections ≡ [] = no_sections n p s are.0 linkedit in
          ap (map (section_of k)) (moved ∙ ap (map (placed_section p s.vmaddr)) bare) ∙ sym (ap (λ (xs : List SectionLoad). map (followed segs places) (map (section_of k) xs)) bare)
    ] in
    let later : sections_from (k + 1) ts ≡ map (followed segs places) (sections_from (k + 1) ss) =
    sections_followed segs places n size (k + 1) ps ss ts follow.1 are.1 stand.1
    (λ j. ap (λ (m : ℕ). get_or (map (λ (g : Seg). g.vmaddr) segs) m 0) (next k j) ∙ start (suc j))
    (λ j. ap (λ (m : ℕ). get_or (addresses_of places) m 0) (next k j) ∙ place (suc j)) in
    ap₂ (λ (xs ys : List Section). xs ++ ys) here later ∙ sym (map-append (followed segs places) (map (section_of k) s.sections) (sections_from (k + 1) ss))
  where
    next : (k j : ℕ) → k + 1 + j ≡ k + suc j
    next k j = omega arith
