-- The numbers of shapes, as they are pushed.
use Rattle.std.proofs.Common.{◌≡◌, ◌≤◌, ℕ, ◌+◌, ◌-◌, ◌%◌, ◌^◌, ◌<◌, true, false, not, nat_eq, List, [], ◌∷◌, ◌++◌, length, take, drop, get_or, sym, ap, ap₂, ◌∙◌, append_assoc, if◌then◌else◌}
use Rattle.std.specs.Prelude.{filter}
use Rattle.std.specs.List.{flat_map}
use Rattle.std.proofs.lemmas.Bool.{cond-true, cond-false}
use Rattle.std.proofs.lemmas.List.{append-nil, drop_more, drop_all}
use Rattle.std.proofs.lemmas.List.Elements.{filter_more}
use Rattle.std.proofs.lemmas.List.Concat.{flat_map-append}
use Rattle.dsc_base.specs.Numbers.{big_number}
use Rattle.macho_image.specs.Records.{Seg, Img}
use Rattle.macho_image.specs.Rules.{is_linkedit_segment}
use Rattle.macho_image.specs.Places.{above}
use Rattle.macho_image.specs.declared.section.Section.{Section}
use Rattle.load_model.specs.Corresponds.{section_shape, sections_of, segment_shape, shapes_from, shape_of}

pub section_is : (t : Seg) (s : Section) (start name distance size : ℕ) → start ≡ t.vmaddr → name ≡ big_number 16 s.name → distance ≡ (s.addr + (2 ^ 64 - start)) % 2 ^ 64 → size ≡ s.size → name ∷ distance ∷ size ∷ [] ≡ section_shape t s
unfolding above
section_is t s start name distance size start_is name_is distance_is size_is =
    ap₂ (λ (n : ℕ) (l : List ℕ). n ∷ l) name_is (ap₂ (λ (d z : ℕ). d ∷ z ∷ []) (distance_is ∙ ap (λ (a : ℕ). (s.addr + (2 ^ 64 - a)) % 2 ^ 64) start_is) size_is)

pub fields_are : (t : Seg) (name size prot count : ℕ) (old three all : List ℕ) → three ≡ old ++ name ∷ size ∷ prot ∷ [] → all ≡ three ++ count ∷ [] → name ≡ big_number 16 t.name → size ≡ t.vmsize → prot ≡ t.initprot
    → all ≡ old ++ big_number 16 t.name ∷ t.vmsize ∷ t.initprot ∷ count ∷ []
fields_are t name size prot count old three all three_is all_is name_is size_is prot_is =
    all_is ∙ (ap (λ (l : List ℕ). l ++ count ∷ []) three_is ∙ (append_assoc old (name ∷ size ∷ prot ∷ []) (count ∷ [])
    ∙ ap (λ (l : List ℕ). old ++ l) (ap₂ (λ (n : ℕ) (l : List ℕ). n ∷ l) name_is (ap₂ (λ (z p : ℕ). z ∷ p ∷ count ∷ []) size_is prot_is))))

-- what stands where a list has ended
abbrev pub blank : Section
blank = record { name = []; segment_name = []; segment = 0; addr = 0; size = 0; flags = 0 }

-- ---- the sections of a segment, of those up to one

pub record AreShaped (t : Seg) (g : ℕ) (sections : List Section) (start numbers : List ℕ) (n : ℕ) : Type 0 where
  pub are : numbers ≡ start ++ flat_map (section_shape t) (filter (λ (s : Section). nat_eq s.segment g) (take n sections))

pub shaped_start : (t : Seg) (g : ℕ) (sections : List Section) (numbers : List ℕ) → AreShaped t g sections numbers numbers 0
shaped_start t g sections numbers = record { are = sym (append-nil numbers) }

more_is : (t : Seg) (g n : ℕ) (sections : List Section) (d s : Section) → n < length sections → s ≡ get_or sections n d → (own : List Section) → (if nat_eq s.segment g then s ∷ [] else []) ≡ own
    → filter (λ (x : Section). nat_eq x.segment g) (take (n + 1) sections) ≡ filter (λ (x : Section). nat_eq x.segment g) (take n sections) ++ own
more_is t g n sections d s lt at own is =
    filter_more (λ (x : Section). nat_eq x.segment g) sections n d lt
    ∙ ap (λ (l : List Section). filter (λ (x : Section). nat_eq x.segment g) (take n sections) ++ l) (ap (λ (x : Section). if nat_eq x.segment g then x ∷ [] else []) (sym at) ∙ is)

step : (t : Seg) (g n : ℕ) (sections : List Section) (start numbers numbers' : List ℕ) (own : List Section) → AreShaped t g sections start numbers n
    → filter (λ (x : Section). nat_eq x.segment g) (take (n + 1) sections) ≡ filter (λ (x : Section). nat_eq x.segment g) (take n sections) ++ own
    → numbers' ≡ numbers ++ flat_map (section_shape t) own → AreShaped t g sections start numbers' (n + 1)
step t g n sections start numbers numbers' own old more new = record {
  are =
      let front : List Section = filter (λ (x : Section). nat_eq x.segment g) (take n sections) in
      new ∙ (ap (λ (l : List ℕ). l ++ flat_map (section_shape t) own) old.are
      ∙ (append_assoc start (flat_map (section_shape t) front) (flat_map (section_shape t) own)
      ∙ (ap (λ (l : List ℕ). start ++ l) (sym (flat_map-append (section_shape t) front own))
      ∙ ap (λ (l : List Section). start ++ flat_map (section_shape t) l) (sym more))));
}

pub shaped_more : (t : Seg) (g n : ℕ) (sections : List Section) (start numbers numbers' : List ℕ) (d s : Section) → AreShaped t g sections start numbers n → n < length sections → s ≡ get_or sections n d
    → nat_eq s.segment g ≡ true → numbers' ≡ numbers ++ section_shape t s → AreShaped t g sections start numbers' (n + 1)
shaped_more t g n sections start numbers numbers' d s old lt at own new =
    step t g n sections start numbers numbers' (s ∷ []) old (more_is t g n sections d s lt at (s ∷ []) (cond-true (nat_eq s.segment g) (s ∷ []) [] own)) (new ∙ ap (λ (l : List ℕ). numbers ++ l) (sym (append-nil (section_shape t s))))

pub shaped_other : (t : Seg) (g n : ℕ) (sections : List Section) (start numbers : List ℕ) (d s : Section) → AreShaped t g sections start numbers n → n < length sections → s ≡ get_or sections n d
    → nat_eq s.segment g ≡ false → AreShaped t g sections start numbers (n + 1)
shaped_other t g n sections start numbers d s old lt at other =
    step t g n sections start numbers numbers [] old (more_is t g n sections d s lt at [] (cond-false (nat_eq s.segment g) (s ∷ []) [] other)) (sym (append-nil numbers))

-- ---- the segments of an image: what is pushed, and what is left

pub record AreAllShaped (image : Img) (numbers : List ℕ) (n : ℕ) (whole : List ℕ) : Type 0 where
  pub rest : numbers ++ shapes_from image n (drop n image.segments) ≡ whole

pub all_more : (image : Img) (numbers numbers' whole : List ℕ) (n : ℕ) (d s : Seg) → AreAllShaped image numbers n whole → n < length image.segments → s ≡ get_or image.segments n d
    → is_linkedit_segment s ≡ false → numbers' ≡ numbers ++ segment_shape s (sections_of image n) → AreAllShaped image numbers' (n + 1) whole
all_more image numbers numbers' whole n d s old lt at body new = record {
  rest =
      let own : List ℕ = segment_shape s (sections_of image n) in
      let others : List ℕ = shapes_from image (n + 1) (drop (n + 1) image.segments) in
      ap (λ (l : List ℕ). l ++ others) new
      ∙ (append_assoc numbers own others
      ∙ (ap (λ (l : List ℕ). numbers ++ l) (ap (λ (l : List ℕ). l ++ others) (sym (cond-false (is_linkedit_segment s) [] own body))
      ∙ sym (ap (λ (ss : List Seg). shapes_from image n ss) (drop_more image.segments n d lt ∙ ap (λ (t : Seg). t ∷ drop (n + 1) image.segments) (sym at))))
      ∙ old.rest));
}

pub all_other : (image : Img) (numbers whole : List ℕ) (n : ℕ) (d s : Seg) → AreAllShaped image numbers n whole → n < length image.segments → s ≡ get_or image.segments n d
    → is_linkedit_segment s ≡ true → AreAllShaped image numbers (n + 1) whole
all_other image numbers whole n d s old lt at linkedit = record {
  rest =
      let own : List ℕ = segment_shape s (sections_of image n) in
      let others : List ℕ = shapes_from image (n + 1) (drop (n + 1) image.segments) in
      ap (λ (l : List ℕ). numbers ++ l) (ap (λ (l : List ℕ). l ++ others) (sym (cond-true (is_linkedit_segment s) [] own linkedit))
      ∙ sym (ap (λ (ss : List Seg). shapes_from image n ss) (drop_more image.segments n d lt ∙ ap (λ (t : Seg). t ∷ drop (n + 1) image.segments) (sym at))))
      ∙ old.rest;
}

pub all_start : (image : Img) (numbers : List ℕ) (count : ℕ) → count ≡ length (filter (λ (s : Seg). not (is_linkedit_segment s)) image.segments) → numbers ≡ count ∷ [] → AreAllShaped image numbers 0 (shape_of image)
unfolding shape_of
all_start image numbers count count_is are = record { rest = ap (λ (l : List ℕ). l ++ shapes_from image 0 image.segments) (are ∙ ap (λ (n : ℕ). n ∷ []) count_is) }

pub all_end : (image : Img) (numbers : List ℕ) (n : ℕ) → AreAllShaped image numbers n (shape_of image) → length image.segments ≤ n → numbers ≡ shape_of image
all_end image numbers n shaped all =
    sym (append-nil numbers) ∙ (ap (λ (ss : List Seg). numbers ++ shapes_from image n ss) (sym (drop_all n image.segments all)) ∙ shaped.rest)
