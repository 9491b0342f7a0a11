-- An image keeps its shape where its segments and sections keep names, sizes and distances.
use Rattle.std.proofs.Common.{◌≡◌, ℕ, suc, ◌+◌, Bool, true, false, not, nat_eq, cond, if◌then◌else◌, List, [], ◌∷◌, ◌++◌, length, filter, refl, sym, ap, ap₂, ◌∙◌}
use Rattle.std.specs.List.{flat_map}
use Rattle.std.proofs.lemmas.Bool.{eqb-true}
use Rattle.dsc_base.specs.Numbers.{big_number}
use Rattle.macho_image.specs.declared.section.Section.{Section}
use Rattle.macho_image.specs.Records.{Img, Seg}
use Rattle.macho_image.specs.Rules.{is_linkedit_name, is_linkedit_segment}
use Rattle.macho_image.specs.Places.{above}
use Rattle.load_model.specs.Corresponds.{section_shape, sections_of, segment_shape, shapes_from, shape_of}

-- segments keep their names, and all but `__LINKEDIT` size and protection; the functions tell where those of each number start
abbrev pub AreKept : (ℕ → ℕ) → (ℕ → ℕ) → ℕ → List Seg → List Seg → Type 0
AreKept starts moved g [] [] = Unit {0}
AreKept starts moved g (a ∷ ss) (b ∷ ts) =
    (b.name ≡ a.name) × (is_linkedit_segment a ≡ false → (b.vmsize ≡ a.vmsize) × (b.initprot ≡ a.initprot)) × (starts g ≡ a.vmaddr) × (moved g ≡ b.vmaddr) × AreKept starts moved (g + 1) ss ts
AreKept starts moved g _ _ = ⊥

-- sections keep their segment, name, size and distance from its start
abbrev pub AreSectionsKept : (ℕ → ℕ) → (ℕ → ℕ) → List Section → List Section → Type 0
AreSectionsKept starts moved [] [] = Unit {0}
AreSectionsKept starts moved (u ∷ us) (v ∷ vs) =
    (v.segment ≡ u.segment) × (v.name ≡ u.name) × (v.size ≡ u.size) × (above (moved u.segment) v.addr ≡ above (starts u.segment) u.addr) × AreSectionsKept starts moved us vs
AreSectionsKept starts moved _ _ = ⊥

-- the sections of one segment
abbrev own : ℕ → List Section → List Section
own g us = filter (λ (s : Section). nat_eq s.segment g) us

counted : (x y : Bool) (u v : Section) (us vs : List Section) → x ≡ y → length vs ≡ length us → length (cond x (v ∷ vs) vs) ≡ length (cond y (u ∷ us) us)
counted true true u v us vs same long = ap (λ (n : ℕ). suc n) long
counted false false u v us vs same long = long
counted true false u v us vs same long = absurd (cc)
counted false true u v us vs same long = absurd (cc)

shaped : (x y : Bool) (f h : Section → List ℕ) (u v : Section) (us vs : List Section) → x ≡ y → (y ≡ true → f v ≡ h u) → flat_map f vs ≡ flat_map h us
    → flat_map f (cond x (v ∷ vs) vs) ≡ flat_map h (cond y (u ∷ us) us)
shaped true true f h u v us vs same here rest = ap₂ (λ (p q : List ℕ). p ++ q) (here refl) rest
shaped false false f h u v us vs same here rest = rest
shaped true false f h u v us vs same here rest = absurd (cc)
shaped false true f h u v us vs same here rest = absurd (cc)

own_kept : (starts moved : ℕ → ℕ) (g : ℕ) (a b : Seg) (us vs : List Section) → starts g ≡ a.vmaddr → moved g ≡ b.vmaddr → AreSectionsKept starts moved us vs
    → (length (own g vs) ≡ length (own g us)) × (flat_map (section_shape b) (own g vs) ≡ flat_map (section_shape a) (own g us))
own_kept starts moved g a b [] [] from to kept = (refl, refl)
own_kept starts moved g a b (u ∷ us) [] from to kept = absurd kept
own_kept starts moved g a b [] (v ∷ vs) from to kept = absurd kept
own_kept starts moved g a b (u ∷ us) (v ∷ vs) from to kept =
    let rest = own_kept starts moved g a b us vs from to kept.4 in
    let same : nat_eq v.segment g ≡ nat_eq u.segment g = ap (λ (n : ℕ). nat_eq n g) kept.0 in (
      counted (nat_eq v.segment g) (nat_eq u.segment g) u v (own g us) (own g vs) same rest.0,
      shaped (nat_eq v.segment g) (nat_eq u.segment g) (section_shape b) (section_shape a) u v (own g us) (own g vs) same here rest.1,
    )
  where
    here : nat_eq u.segment g ≡ true → section_shape b v ≡ section_shape a u
    here is =
        let number : u.segment ≡ g = eqb-true u.segment g is in
        let distance : above b.vmaddr v.addr ≡ above a.vmaddr u.addr =
        ap (λ (n : ℕ). above n v.addr) (sym to) ∙ (ap (λ (n : ℕ). above (moved n) v.addr) (sym number)
        ∙ (kept.3 ∙ (ap (λ (n : ℕ). above (starts n) u.addr) number ∙ ap (λ (n : ℕ). above n u.addr) from))) in
        ap₂ (λ (n : List ℕ) (l : List ℕ). big_number 16 n ∷ l) kept.1 (ap₂ (λ (d z : ℕ). d ∷ z ∷ []) distance kept.2)

segment_kept : (a b : Seg) (us vs : List Section) → b.name ≡ a.name → b.vmsize ≡ a.vmsize → b.initprot ≡ a.initprot → length vs ≡ length us
    → flat_map (section_shape b) vs ≡ flat_map (section_shape a) us → segment_shape b vs ≡ segment_shape a us
segment_kept a b us vs name size prot count shapes =
    ap₂ (λ (front rest : List ℕ). front ++ rest)
    (ap₂ (λ (n : List ℕ) (l : List ℕ). big_number 16 n ∷ l) name (ap₂ (λ (z : ℕ) (l : List ℕ). z ∷ l) size (ap₂ (λ (p c : ℕ). p ∷ c ∷ []) prot count))) shapes

linkedit : (a b : Seg) → b.name ≡ a.name → is_linkedit_segment b ≡ is_linkedit_segment a
linkedit a b name = ap (λ (n : List ℕ). is_linkedit_name n) name

shapes_kept : (starts moved : ℕ → ℕ) (g : ℕ) (one two : Img) (ss ts : List Seg) → AreKept starts moved g ss ts → AreSectionsKept starts moved one.sections two.sections → shapes_from two g ts ≡ shapes_from one g ss
shapes_kept starts moved g one two [] [] kept sections = refl
shapes_kept starts moved g one two (a ∷ ss) [] kept sections = absurd kept
shapes_kept starts moved g one two [] (b ∷ ts) kept sections = absurd kept
shapes_kept starts moved g one two (a ∷ ss) (b ∷ ts) kept sections =
    let own_same = own_kept starts moved g a b one.sections two.sections kept.2 kept.3 sections in
    let here : is_linkedit_segment a ≡ false → segment_shape b (sections_of two g) ≡ segment_shape a (sections_of one g) =
    λ other. segment_kept a b (sections_of one g) (sections_of two g) kept.0 (kept.1 other).0 (kept.1 other).1 own_same.0 own_same.1 in
    let same : is_linkedit_segment b ≡ is_linkedit_segment a = linkedit a b kept.0 in
    ap₂ (λ (front rest : List ℕ). front ++ rest)
    (unless (is_linkedit_segment b) (is_linkedit_segment a) (segment_shape a (sections_of one g)) (segment_shape b (sections_of two g)) same here)
    (shapes_kept starts moved (g + 1) one two ss ts kept.4 sections)
  where
    unless : (x y : Bool) (l m : List ℕ) → x ≡ y → (y ≡ false → m ≡ l) → (if x then [] else m) ≡ (if y then [] else l)
    unless true true l m same is = refl
    unless false false l m same is = is refl
    unless true false l m same is = absurd (cc)
    unless false true l m same is = absurd (cc)

count_kept : (starts moved : ℕ → ℕ) (g : ℕ) (ss ts : List Seg) → AreKept starts moved g ss ts
    → length (filter (λ (s : Seg). not (is_linkedit_segment s)) ts) ≡ length (filter (λ (s : Seg). not (is_linkedit_segment s)) ss)
count_kept starts moved g [] [] kept = refl
count_kept starts moved g (a ∷ ss) [] kept = absurd kept
count_kept starts moved g [] (b ∷ ts) kept = absurd kept
count_kept starts moved g (a ∷ ss) (b ∷ ts) kept =
    both (not (is_linkedit_segment b)) (not (is_linkedit_segment a))
    (filter (λ (s : Seg). not (is_linkedit_segment s)) ss) (filter (λ (s : Seg). not (is_linkedit_segment s)) ts)
    (ap (λ (x : Bool). not x) (linkedit a b kept.0)) (count_kept starts moved (g + 1) ss ts kept.4)
  where
    both : (x y : Bool) (us vs : List Seg) → x ≡ y → length vs ≡ length us → length (cond x (b ∷ vs) vs) ≡ length (cond y (a ∷ us) us)
    both true true us vs same long = ap (λ (n : ℕ). suc n) long
    both false false us vs same long = long
    both true false us vs same long = absurd (cc)
    both false true us vs same long = absurd (cc)

pub shape_kept : (starts moved : ℕ → ℕ) (one two : Img) → AreKept starts moved 0 one.segments two.segments → AreSectionsKept starts moved one.sections two.sections → shape_of two ≡ shape_of one
unfolding shape_of
shape_kept starts moved one two kept sections =
    ap₂ (λ (n : ℕ) (l : List ℕ). n ∷ l) (count_kept starts moved 0 one.segments two.segments kept)
    (shapes_kept starts moved 0 one two one.segments two.segments kept sections)
