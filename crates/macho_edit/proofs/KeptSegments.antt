-- The rules on segments and sections hold of the segments at their places.
use Rattle.std.proofs.Common.{◌≡◌, ◌≤◌, inl, inr, ℕ, suc, ◌+◌, ◌-◌, ◌*◌, ◌/◌, ◌%◌, Bool, true, false, not, ◌&&◌, ◌||◌, nat_eq, nat_lt, nat_le, min, max, if◌then◌else◌, Option, Some, None, List, [], ◌∷◌, ◌++◌, length, map, refl, sym, ap, ap₂, ◌∙◌, arith}
use Rattle.std.specs.Prelude.{find, codes}
use Rattle.std.specs.List.{list_any, AllByRecursion}
use Rattle.std.specs.Option.{option_map}
use Rattle.std.proofs.lemmas.Bool.{cond-true, cond-false, eqb-true, eq-eqb, and_parts, and_from, le-leb, leb-true, not-false, le-ltb}
use Rattle.std.proofs.lemmas.List.{length-map, nil_from_length}
use Rattle.std.specs.Cmp.Lexicographic.{same_text}
use Rattle.macho_image.specs.Records.{Load, SectionLoad, SegmentLoad}
use Rattle.macho_image.specs.Rules.{first_segment, is_well_shaped, first_crossing, shares_address, misplaced, misplaced_behind, is_good_text, is_good_linkedit, has_reserved_name, is_text, is_linkedit, is_linkedit_name, same_bytes, first_load, names_outside, outside_of, breaks_segment_shape, breaks_segment_place, starts_elsewhere, breaks_segment_prot, breaks_section_shape, first_crowded, sections_stand, sections_start, breaks_interposing, section_type}
use Rattle.dsc_base.specs.Refusals.{least}
use Rattle.macho_image.proofs.Unbroken.{least_none_both, when_false, when_true, find_none}
use Rattle.macho_edit.specs.declared.segment.SegmentPlace.{SegmentPlace}
use Rattle.macho_edit.specs.Placed.{AreApart}
use Rattle.macho_edit.proofs.BoolLaws.{bool_cases}
use Rattle.macho_edit.proofs.MovedSections.{placed_section}
use Rattle.macho_edit.proofs.MovedSegments.{placed_load}
use Rattle.macho_edit.proofs.MovedCommands.{Follow}
use Rattle.macho_edit.proofs.KeptSections.{shaped_true, IsWholeMove, IsSeatedLoad, sections_stand-moved, any-placed}
use Rattle.macho_image.proofs.SectionLaws.{start_above}

abbrev text_name : List ℕ
text_name = codes "__TEXT" ++ (0 ∷ 0 ∷ 0 ∷ 0 ∷ 0 ∷ 0 ∷ 0 ∷ 0 ∷ 0 ∷ 0 ∷ [])

-- each segment is seated at its place
abbrev pub AreSeated : ℕ → List SegmentPlace → List SegmentLoad → Type 0
AreSeated n [] ss = Unit {0}
AreSeated n (p ∷ ps) [] = Unit {0}
AreSeated n (p ∷ ps) (s ∷ ss) = IsSeatedLoad n p s × AreSeated n ps ss

none_cons : (q : SegmentLoad → Bool) (t : SegmentLoad) (ts : List SegmentLoad) → q t ≡ false → first_segment q ts ≡ None → first_segment q (t ∷ ts) ≡ None
none_cons q t ts here later = ap (λ (o : Option SegmentLoad). option_map {T = SegmentLoad} {U = ℕ} (λ x. x.at) o) (cond-false (q t) (Some t) (find q ts) here) ∙ later

-- a test that no segment passes, and none at its place
pub first_followed : (n : ℕ) (q q' : SegmentLoad → Bool) → ((p : SegmentPlace) (at : ℕ) (s : SegmentLoad) → IsSeatedLoad n p s → q s ≡ false → q' (placed_load p at s) ≡ false)
    → (ps : List SegmentPlace) (ss ts : List SegmentLoad) → Follow ps ss ts → AreSeated n ps ss → first_segment q ss ≡ None → first_segment q' ts ≡ None
first_followed n q q' keeps [] [] [] follow seated none = refl
first_followed n q q' keeps [] [] (t ∷ ts) follow seated none = absurd follow
first_followed n q q' keeps [] (s ∷ ss) ts follow seated none = absurd follow
first_followed n q q' keeps (p ∷ ps) [] ts follow seated none = absurd follow
first_followed n q q' keeps (p ∷ ps) (s ∷ ss) [] follow seated none = absurd follow
first_followed n q q' keeps (p ∷ ps) (s ∷ ss) (t ∷ ts) follow seated none =
    let parts = find_none (q s) s (find q ss) none in
    none_cons q' t ts (ap q' follow.0 ∙ keeps p t.at s seated.0 parts.0) (first_followed n q q' keeps ps ss ts follow.1 seated.1 parts.1)

-- rule 10: the shape of each
shape_kept : (n : ℕ) (p : SegmentPlace) (at : ℕ) (s : SegmentLoad) → IsSeatedLoad n p s → not (is_well_shaped s) ≡ false → not (is_well_shaped (placed_load p at s)) ≡ false
shape_kept n p at s is old = ap not (shaped_true (placed_load p at s) (record { size = is.shaped.size; aligned = is.seated.aligned; filled = is.seated.filled; low = is.seated.low }))

-- places of which no two share an address
abbrev pub AllApart : List SegmentPlace → Type 0
AllApart [] = Unit {0}
AllApart (p ∷ ps) = AllByRecursion (AreApart p) ps × AllApart ps

abbrev pub PairsApart : List SegmentLoad → Type 0
PairsApart [] = Unit {0}
PairsApart (t ∷ ts) = AllByRecursion (λ u. shares_address t u ≡ false) ts × PairsApart ts

-- what shares no address with any of several doesn't with the first, nor with the others
split_apart : (earlier : List SegmentLoad) (t : SegmentLoad) (ts : List SegmentLoad) → AllByRecursion (λ e. AllByRecursion (λ u. shares_address e u ≡ false) (t ∷ ts)) earlier
    → (list_any (λ e. shares_address e t) earlier ≡ false) × AllByRecursion (λ e. AllByRecursion (λ u. shares_address e u ≡ false) ts) earlier
split_apart [] t ts apart = (refl, tt)
split_apart (e ∷ es) t ts apart =
    let later = split_apart es t ts apart.1 in
    (ap (λ (b : Bool). b || list_any (λ x. shares_address x t) es) apart.0.0 ∙ later.0, (apart.0.1, later.1))

one_later : (Q : SegmentLoad → Type 0) (earlier : List SegmentLoad) (t : SegmentLoad) → AllByRecursion Q earlier → Q t → AllByRecursion Q (earlier ++ t ∷ [])
one_later Q [] t all here = (here, tt)
one_later Q (e ∷ es) t all here = (all.0, one_later Q es t all.1 here)

crossing_none : (earlier ts : List SegmentLoad) → AllByRecursion (λ e. AllByRecursion (λ u. shares_address e u ≡ false) ts) earlier → PairsApart ts → first_crossing earlier ts ≡ None
crossing_none earlier [] apart pairs = refl
crossing_none earlier (t ∷ ts) apart pairs =
    let split = split_apart earlier t ts apart in
    cond-false (list_any (λ e. shares_address e t) earlier) (Some t.at) (first_crossing (earlier ++ t ∷ []) ts) split.0
    ∙ crossing_none (earlier ++ t ∷ []) ts (one_later (λ e. AllByRecursion (λ u. shares_address e u ≡ false) ts) earlier t split.1 pairs.0) pairs.1

row_apart : (p : SegmentPlace) (s t : SegmentLoad) (ps : List SegmentPlace) (ss ts : List SegmentLoad) → t ≡ placed_load p t.at s → Follow ps ss ts → AllByRecursion (AreApart p) ps → AllByRecursion (λ u. shares_address t u ≡ false) ts
row_apart p s t [] [] [] is follow apart = tt
row_apart p s t [] [] (v ∷ ts) is follow apart = absurd follow
row_apart p s t [] (u ∷ ss) ts is follow apart = absurd follow
row_apart p s t (q ∷ ps) [] ts is follow apart = absurd follow
row_apart p s t (q ∷ ps) (u ∷ ss) [] is follow apart = absurd follow
row_apart p s t (q ∷ ps) (u ∷ ss) (v ∷ ts) is follow apart = (
  ap₂ shares_address is follow.0 ∙ le-ltb (max p.address q.address) (min (p.address + p.vmsize) (q.address + q.vmsize)) apart.0,
  row_apart p s t ps ss ts is follow.1 apart.1,
)

pairs_apart : (ps : List SegmentPlace) (ss ts : List SegmentLoad) → Follow ps ss ts → AllApart ps → PairsApart ts
pairs_apart [] [] [] follow apart = tt
pairs_apart [] [] (t ∷ ts) follow apart = absurd follow
pairs_apart [] (s ∷ ss) ts follow apart = absurd follow
pairs_apart (p ∷ ps) [] ts follow apart = absurd follow
pairs_apart (p ∷ ps) (s ∷ ss) [] follow apart = absurd follow
pairs_apart (p ∷ ps) (s ∷ ss) (t ∷ ts) follow apart = (row_apart p s t ps ss ts follow.0 follow.1 apart.0, pairs_apart ps ss ts follow.1 apart.1)

-- the segments behind the first one keep their names and their order
behind_kept : (ps : List SegmentPlace) (ss ts : List SegmentLoad) → Follow ps ss ts → misplaced_behind ss ≡ None → misplaced_behind ts ≡ None
behind_kept [] [] [] follow none = refl
behind_kept [] [] (t ∷ ts) follow none = absurd follow
behind_kept [] (s ∷ ss) ts follow none = absurd follow
behind_kept (p ∷ ps) [] ts follow none = absurd follow
behind_kept (p ∷ ps) (s ∷ ss) [] follow none = absurd follow
behind_kept (p ∷ []) (s ∷ []) (t ∷ []) follow none = cond-true (is_good_linkedit t) None (Some t.at) (ap is_good_linkedit follow.0 ∙ good (is_good_linkedit s) s.at none)
  where
    good : (b : Bool) (n : ℕ) → if◌then◌else◌ {A = Option ℕ} b None (Some n) ≡ None → b ≡ true
    good true n none = refl
    good false n none = absurd (cc)
behind_kept (p ∷ []) (s ∷ []) (t ∷ v ∷ ts) follow none = absurd follow.1
behind_kept (p ∷ []) (s ∷ u ∷ ss) (t ∷ ts) follow none = absurd follow.1
behind_kept (p ∷ q ∷ ps) (s ∷ []) (t ∷ ts) follow none = absurd follow.1
behind_kept (p ∷ q ∷ ps) (s ∷ u ∷ ss) (t ∷ []) follow none = absurd follow.1
behind_kept (p ∷ q ∷ ps) (s ∷ u ∷ ss) (t ∷ v ∷ ts) follow none =
    let parts = when_false (has_reserved_name s) s.at (misplaced_behind (u ∷ ss)) none in
    cond-false (has_reserved_name t) (Some t.at) (misplaced_behind (v ∷ ts)) (ap has_reserved_name follow.0 ∙ parts.0)
    ∙ behind_kept (q ∷ ps) (u ∷ ss) (v ∷ ts) follow.1 parts.1

-- `__TEXT` isn't `__LINKEDIT`
pub text_other : (name : List ℕ) → same_bytes name text_name ≡ true → is_linkedit_name name ≡ false
text_other name is = ap is_linkedit_name (same_text name text_name (sym is))

-- a good text segment
pub record IsGoodText (size : ℕ) (s : SegmentLoad) : Type 0 where
  pub named : is_text s ≡ true
  pub executable : s.initprot ≡ 5
  pub holds : size ≤ s.filesize

pub good_text : (size : ℕ) (s : SegmentLoad) → is_good_text size s ≡ true → IsGoodText size s
good_text size s good =
    let named = and_parts (is_text s) (nat_eq s.initprot 5 && nat_le size s.filesize) good in
    let rest = and_parts (nat_eq s.initprot 5) (nat_le size s.filesize) named.1 in
    record { named = named.0; executable = eqb-true s.initprot 5 rest.0; holds = leb-true size s.filesize rest.1 }

misplaced_kept : (n size size' : ℕ) (ps : List SegmentPlace) (ss ts : List SegmentLoad) → size' ≤ size → Follow ps ss ts → AreSeated n ps ss → misplaced size ss ≡ None → misplaced size' ts ≡ None
misplaced_kept n size size' [] [] [] le follow seated none = refl
misplaced_kept n size size' [] [] (t ∷ ts) le follow seated none = absurd follow
misplaced_kept n size size' [] (s ∷ ss) ts le follow seated none = absurd follow
misplaced_kept n size size' (p ∷ ps) [] ts le follow seated none = absurd follow
misplaced_kept n size size' (p ∷ ps) (s ∷ ss) [] le follow seated none = absurd follow
misplaced_kept n size size' (p ∷ ps) (s ∷ ss) (t ∷ ts) le follow seated none =
    let parts = when_true (is_good_text size s) s.at (misplaced_behind ss) none in
    let good : IsGoodText size s = good_text size s parts.0 in
    let whole : IsWholeMove p s = seated.0.whole (text_other s.name good.named) in
    let filled : s.filesize ≤ s.vmsize = seated.0.shaped.filled in
    let holds : size ≤ s.filesize = good.holds in
    let file : p.filesize ≡ s.vmsize = whole.filled in
    let here : is_good_text size' (placed_load p t.at s) ≡ true =
    and_from (is_text s) (nat_eq s.initprot 5 && nat_le size' p.filesize) good.named
    (and_from (nat_eq s.initprot 5) (nat_le size' p.filesize) (eq-eqb s.initprot 5 good.executable) (le-leb size' p.filesize (omega arith))) in
    cond-true (is_good_text size' t) (misplaced_behind ts) (Some t.at) (ap (is_good_text size') follow.0 ∙ here) ∙ behind_kept ps ss ts follow.1 parts.1

follow_length : (ps : List SegmentPlace) (ss ts : List SegmentLoad) → Follow ps ss ts → length ts ≡ length ss
follow_length [] [] [] follow = refl
follow_length [] [] (t ∷ ts) follow = absurd follow
follow_length [] (s ∷ ss) ts follow = absurd follow
follow_length (p ∷ ps) [] ts follow = absurd follow
follow_length (p ∷ ps) (s ∷ ss) [] follow = absurd follow
follow_length (p ∷ ps) (s ∷ ss) (t ∷ ts) follow = ap suc (follow_length ps ss ts follow.1)

least-none : (a b : Option ℕ) → a ≡ None → b ≡ None → least a b ≡ None
least-none a b first second = ap (λ (o : Option ℕ). least o b) first ∙ second

pub shapes_kept : (n size size' : ℕ) (ps : List SegmentPlace) (ss ts : List SegmentLoad) → size' ≤ size → Follow ps ss ts → AreSeated n ps ss → AllApart ps → breaks_segment_shape size ss ≡ None → breaks_segment_shape size' ts ≡ None
shapes_kept n size size' ps ss ts le follow seated apart none =
    let many = when_false (nat_lt (length ss) 2) 0 (least (first_segment (λ s. not (is_well_shaped s)) ss) (least (first_crossing [] ss) (misplaced size ss))) none in
    let parts = least_none_both (first_segment (λ s. not (is_well_shaped s)) ss) (least (first_crossing [] ss) (misplaced size ss)) many.1 in
    let rest = least_none_both (first_crossing [] ss) (misplaced size ss) parts.1 in
    cond-false (nat_lt (length ts) 2) (Some 0) _ (ap (λ (k : ℕ). nat_lt k 2) (follow_length ps ss ts follow) ∙ many.0)
    ∙ least-none (first_segment (λ s. not (is_well_shaped s)) ts) (least (first_crossing [] ts) (misplaced size' ts))
    (first_followed n (λ s. not (is_well_shaped s)) (λ s. not (is_well_shaped s)) (shape_kept n) ps ss ts follow seated parts.0)
    (least-none (first_crossing [] ts) (misplaced size' ts) (crossing_none [] ts tt (pairs_apart ps ss ts follow apart)) (misplaced_kept n size size' ps ss ts le follow seated rest.1))

-- the first place begins at h of the file
abbrev pub StartsAt : ℕ → List SegmentPlace → Type 0
StartsAt h [] = Unit {0}
StartsAt h (p ∷ ps) = p.file ≡ h

never : (ss : List SegmentLoad) → first_segment (λ s. false) ss ≡ None
never [] = refl
never (s ∷ ss) = never ss

starts_kept : (h : ℕ) (ps : List SegmentPlace) (ss ts : List SegmentLoad) → Follow ps ss ts → StartsAt h ps → starts_elsewhere h ts ≡ None
starts_kept h ps ss [] follow starts = refl
starts_kept h [] [] (t ∷ ts) follow starts = absurd follow
starts_kept h [] (s ∷ ss) (t ∷ ts) follow starts = absurd follow
starts_kept h (p ∷ ps) [] (t ∷ ts) follow starts = absurd follow
starts_kept h (p ∷ ps) (s ∷ ss) (t ∷ ts) follow starts =
    let begins : t.fileoff ≡ h = ap (λ (x : SegmentLoad). x.fileoff) follow.0 ∙ starts in
    cond-true (nat_eq t.fileoff h) None (Some t.at) (eq-eqb t.fileoff h begins)

pub places_kept : (n h : ℕ) (ps : List SegmentPlace) (ss ts : List SegmentLoad) → Follow ps ss ts → AreSeated n ps ss → StartsAt h ps → breaks_segment_place n h ts ≡ None
places_kept n h ps ss ts follow seated starts =
    least-none (first_segment (λ s. nat_lt n (s.fileoff + s.filesize)) ts) (starts_elsewhere h ts)
    (first_followed n (λ s. false) (λ s. nat_lt n (s.fileoff + s.filesize)) (λ p at s is old. le-ltb n (p.file + p.filesize) is.seated.inside) ps ss ts follow seated (never ss))
    (starts_kept h ps ss ts follow starts)

-- rule 11
pub prot_kept : (n : ℕ) (ps : List SegmentPlace) (ss ts : List SegmentLoad) → Follow ps ss ts → AreSeated n ps ss → breaks_segment_prot ss ≡ None → breaks_segment_prot ts ≡ None
prot_kept n ps ss ts follow seated none =
    first_followed n (λ s. not (nat_eq s.initprot 5 || (nat_eq s.initprot 3 || nat_eq s.initprot 1)) || nat_eq (s.flags / 8 % 2) 1)
    (λ s. not (nat_eq s.initprot 5 || (nat_eq s.initprot 3 || nat_eq s.initprot 1)) || nat_eq (s.flags / 8 % 2) 1) (λ p at s is old. old) ps ss ts follow seated none

-- rule 12
start_moved : (size size' : ℕ) (p : SegmentPlace) (at : ℕ) (s : SegmentLoad) → size' ≤ size → sections_start size' (placed_load p at s) ≤ p.address + (sections_start size s - s.vmaddr)
start_moved size size' p at s le =
    elim (is_text s) as (λ b. (if b then p.address + size' else p.address) ≤ p.address + ((if b then s.vmaddr + size else s.vmaddr) - s.vmaddr)) [ true ↦ omega arith | false ↦ omega arith ]

pub no_sections : (n : ℕ) (p : SegmentPlace) (s : SegmentLoad) → IsSeatedLoad n p s → is_linkedit s ≡ true → s.sections ≡ []
no_sections n p s is linkedit =
    let bare : s.nsects ≡ 0 = is.bare linkedit in
    let size : s.size ≡ 72 + 80 * s.nsects = is.shaped.size in
    let room : length s.sections ≡ (s.size - 72) / 80 = is.room in
    nil_from_length s.sections (omega arith)

sections_kept : (n size size' : ℕ) → size' ≤ size → (p : SegmentPlace) (at : ℕ) (s : SegmentLoad) → IsSeatedLoad n p s → not (sections_stand s (sections_start size s) 0 s.sections) ≡ false
    → not (sections_stand (placed_load p at s) (sections_start size' (placed_load p at s)) 0 (placed_load p at s).sections) ≡ false
sections_kept n size size' le p at s is old = elim (bool_cases (is_linkedit s)) [
  | inl other ↦
      ap not (sections_stand-moved n p at s (sections_start size s) (sections_start size' (placed_load p at s)) 0 0 s.sections is.seated (is.whole other)
      (start_above size s) (start_moved size size' p at s le) (λ y low floor. omega arith) (not-false (sections_stand s (sections_start size s) 0 s.sections) old))
  | inr linkedit ↦
      ap (λ (xs : List SectionLoad). not (sections_stand (placed_load p at s) (sections_start size' (placed_load p at s)) 0 xs)) (ap (map (placed_section p s.vmaddr)) (no_sections n p s is linkedit))
]

crowded_kept : (before : ℕ) (ps : List SegmentPlace) (ss ts : List SegmentLoad) → Follow ps ss ts → first_crowded before ss ≡ None → first_crowded before ts ≡ None
crowded_kept before [] [] [] follow none = refl
crowded_kept before [] [] (t ∷ ts) follow none = absurd follow
crowded_kept before [] (s ∷ ss) ts follow none = absurd follow
crowded_kept before (p ∷ ps) [] ts follow none = absurd follow
crowded_kept before (p ∷ ps) (s ∷ ss) [] follow none = absurd follow
crowded_kept before (p ∷ ps) (s ∷ ss) (t ∷ ts) follow none =
    let same : length t.sections ≡ length s.sections = ap (λ (x : SegmentLoad). length x.sections) follow.0 ∙ length-map s.sections (placed_section p s.vmaddr) in
    let parts = when_false (nat_lt 255 (before + length s.sections)) s.at (first_crowded (before + length s.sections) ss) none in
    ap (λ (k : ℕ). if◌then◌else◌ {A = Option ℕ} (nat_lt 255 (before + k)) (Some t.at) (first_crowded (before + k) ts)) same
    ∙ (cond-false (nat_lt 255 (before + length s.sections)) (Some t.at) (first_crowded (before + length s.sections) ts) parts.0
    ∙ crowded_kept (before + length s.sections) ps ss ts follow.1 parts.1)

pub section_shapes_kept : (n size size' : ℕ) (ps : List SegmentPlace) (ss ts : List SegmentLoad) → size' ≤ size → Follow ps ss ts → AreSeated n ps ss → breaks_section_shape size ss ≡ None → breaks_section_shape size' ts ≡ None
section_shapes_kept n size size' ps ss ts le follow seated none =
    let parts = least_none_both (first_segment (λ s. not (sections_stand s (sections_start size s) 0 s.sections)) ss) (first_crowded 0 ss) none in
    least-none (first_segment (λ s. not (sections_stand s (sections_start size' s) 0 s.sections)) ts) (first_crowded 0 ts)
    (first_followed n (λ s. not (sections_stand s (sections_start size s) 0 s.sections)) (λ s. not (sections_stand s (sections_start size' s) 0 s.sections)) (sections_kept n size size' le) ps ss ts follow seated parts.0)
    (crowded_kept 0 ps ss ts follow parts.1)

-- rules 13 and 14
pub interposing_kept : (n : ℕ) (ps : List SegmentPlace) (ss ts : List SegmentLoad) → Follow ps ss ts → AreSeated n ps ss → breaks_interposing ss ≡ None → breaks_interposing ts ≡ None
interposing_kept n ps ss ts follow seated none =
    first_followed n (λ s. list_any (λ x. nat_eq (section_type x) 0xD) s.sections) (λ s. list_any (λ x. nat_eq (section_type x) 0xD) s.sections)
    (λ p at s is old. any-placed (λ x. nat_eq (section_type x) 0xD) p s.vmaddr (λ x. refl) s.sections ∙ old) ps ss ts follow seated none

pub relocated_kept : (n : ℕ) (ps : List SegmentPlace) (ss ts : List SegmentLoad) → Follow ps ss ts → AreSeated n ps ss
    → first_segment (λ s. list_any (λ x. not (nat_eq x.nreloc 0)) s.sections) ss ≡ None → first_segment (λ s. list_any (λ x. not (nat_eq x.nreloc 0)) s.sections) ts ≡ None
relocated_kept n ps ss ts follow seated none =
    first_followed n (λ s. list_any (λ x. not (nat_eq x.nreloc 0)) s.sections) (λ s. list_any (λ x. not (nat_eq x.nreloc 0)) s.sections)
    (λ p at s is old. any-placed (λ x. not (nat_eq x.nreloc 0)) p s.vmaddr (λ x. refl) s.sections ∙ old) ps ss ts follow seated none

-- the segments named `__LINKEDIT` have one range of the file
abbrev pub LinkeditAt : ℕ → ℕ → List SegmentPlace → List SegmentLoad → Type 0
LinkeditAt file size [] ss = Unit {0}
LinkeditAt file size (p ∷ ps) [] = Unit {0}
LinkeditAt file size (p ∷ ps) (s ∷ ss) = (is_linkedit s ≡ true → (p.file ≡ file) × (p.filesize ≡ size)) × LinkeditAt file size ps ss

pub outside_kept : (file size : ℕ) (ls : List Load) (ps : List SegmentPlace) (ss ts : List SegmentLoad) → Follow ps ss ts → LinkeditAt file size ps ss
    → first_load (λ l. names_outside file (file + size) l.bytes) ls ≡ None → outside_of (find is_linkedit ts) ls ≡ None
outside_kept file size ls [] [] [] follow linked none = refl
outside_kept file size ls [] [] (t ∷ ts) follow linked none = absurd follow
outside_kept file size ls [] (s ∷ ss) ts follow linked none = absurd follow
outside_kept file size ls (p ∷ ps) [] ts follow linked none = absurd follow
outside_kept file size ls (p ∷ ps) (s ∷ ss) [] follow linked none = absurd follow
outside_kept file size ls (p ∷ ps) (s ∷ ss) (t ∷ ts) follow linked none =
    let same : is_linkedit t ≡ is_linkedit s = ap is_linkedit follow.0 in
    elim (bool_cases (is_linkedit s)) [
      | inl other ↦ ap (λ (o : Option SegmentLoad). outside_of o ls) (cond-false (is_linkedit t) (Some t) (find is_linkedit ts) (same ∙ other)) ∙ outside_kept file size ls ps ss ts follow.1 linked.1 none
      | inr this ↦
          let at = linked.0 this in
          ap (λ (o : Option SegmentLoad). outside_of o ls) (cond-true (is_linkedit t) (Some t) (find is_linkedit ts) (same ∙ this))
          ∙ (ap₂ (λ (a b : ℕ). first_load (λ l. names_outside a (a + b) l.bytes) ls) (ap (λ (x : SegmentLoad). x.fileoff) follow.0 ∙ at.0) (ap (λ (x : SegmentLoad). x.filesize) follow.0 ∙ at.1) ∙ none)
    ]
