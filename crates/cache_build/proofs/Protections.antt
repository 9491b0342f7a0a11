-- The protections of the first segment of a sound image, which is the text segment, and of the last one, which is `__LINKEDIT`.
use Rattle.std.proofs.Common.{◌≡◌, ◌≤◌, ◌<◌, ℕ, zero, suc, ◌+◌, Bool, true, false, ◌&&◌, Option, Some, None, List, [], ◌∷◌, length, get_or, sym, ap, ◌∙◌, arith, inl, inr, if◌then◌else◌, nat_lt, nat_le, nat_eq}
use Rattle.std.proofs.lemmas.Bool.{eqb-true, cases_lt, and_parts}
use Rattle.std.proofs.lemmas.Bool.Decides.{nat_tests}
use Rattle.std.proofs.lemmas.List.{length-map}
use Rattle.macho_image.specs.Records.{Seg, Img, SegmentLoad}
use Rattle.macho_image.specs.Macho.{header_size, loads_of, segment_loads, segment_with}
use Rattle.macho_image.specs.Rules.{is_linkedit, is_text, is_linkedit_segment, is_good_text, is_good_linkedit, has_reserved_name, misplaced_behind, misplaced}
use Rattle.macho_image.specs.Breaks.{unread, IsSound}
use Rattle.cache_layout.proofs.SoundLaws.{load-of, sound_linkedit}
use Rattle.ref_rewrite.proofs.HomeLaws.{two_segments}
use Rattle.macho_image.proofs.HeaderRules.{sound_rules, shape_parts}
use Rattle.macho_image.proofs.Unbroken.{when_true}

refused : (b : Bool) (at : ℕ) (o : Option ℕ) → (if b then Some at else o) ≡ None → o ≡ None
refused true at o e = absurd (cc)
refused false at o e = e

-- ---- the first segment

first_load : (size : ℕ) (ls : List SegmentLoad) (l : SegmentLoad) → misplaced size ls ≡ None → 0 < length ls → l ≡ get_or ls 0 l → l.initprot ≡ 5
first_load size [] l none some at = absurd (omega arith)
first_load size (k ∷ ls) l none some at =
    let good = and_parts (is_text k) (nat_eq k.initprot 5 && nat_le size k.filesize) (when_true (is_good_text size k) k.at (misplaced_behind ls) none).0 in
    ap (λ (x : SegmentLoad). x.initprot) at ∙ eqb-true k.initprot 5 (and_parts (nat_eq k.initprot 5) (nat_le size k.filesize) good.1).0

pub first_protection : (image : Img) → IsSound image → (s : Seg) → s ≡ get_or image.segments 0 s → s.initprot ≡ 5
first_protection image sound s is =
    let ls : List SegmentLoad = segment_loads (loads_of image.header) in
    let size : ℕ = header_size image.header in
    let two : 2 ≤ length image.segments = two_segments image sound in
    let command = load-of image.segments ls sound.segments 0 s (omega (arith, two)) is in
    ap (λ (t : Seg). t.initprot) command.3 ∙ first_load size ls command.0 (shape_parts size ls (sound_rules image sound).segments).3 command.1 command.2

-- ---- the last segment

last_behind : (ls : List SegmentLoad) → misplaced_behind ls ≡ None → (g : ℕ) (l : SegmentLoad) → g + 1 ≡ length ls → l ≡ get_or ls g l → l.initprot ≡ 1
last_behind [] none g l end is = absurd (omega (arith, end))
last_behind (s ∷ []) none zero l end is =
    let good = and_parts (is_linkedit s) (nat_eq s.initprot 1 && nat_eq s.nsects 0) (when_true (is_good_linkedit s) s.at None none).0 in
    ap (λ (x : SegmentLoad). x.initprot) is ∙ eqb-true s.initprot 1 (and_parts (nat_eq s.initprot 1) (nat_eq s.nsects 0) good.1).0
last_behind (s ∷ []) none (suc g) l end is = absurd (omega (arith, end))
last_behind (s ∷ t ∷ ss) none zero l end is = absurd (omega (arith, end))
last_behind (s ∷ t ∷ ss) none (suc g) l end is = last_behind (t ∷ ss) (refused (has_reserved_name s) s.at (misplaced_behind (t ∷ ss)) none) g l (omega (arith, end)) is

last_load : (size : ℕ) (ls : List SegmentLoad) → 2 ≤ length ls → misplaced size ls ≡ None → (g : ℕ) (l : SegmentLoad) → g + 1 ≡ length ls → l ≡ get_or ls g l → l.initprot ≡ 1
last_load size [] some none g l end is = absurd (omega (arith, some))
last_load size (s ∷ ss) some none zero l end is = absurd (omega (arith, some, end))
last_load size (s ∷ ss) some none (suc g) l end is = last_behind ss (when_true (is_good_text size s) s.at (misplaced_behind ss) none).1 g l (omega (arith, end)) is

-- a segment that can be written isn't `__LINKEDIT`
pub writable_owned : (image : Img) → IsSound image → (g : ℕ) (s : Seg) → g < length image.segments → s ≡ get_or image.segments g s → s.initprot ≡ 3 → is_linkedit_segment s ≡ false
writable_owned image sound g s lt is writable =
    let ls : List SegmentLoad = segment_loads (loads_of image.header) in
    let size : ℕ = header_size image.header in
    let command = load-of image.segments ls sound.segments g s lt is in
    let parts = shape_parts size ls (sound_rules image sound).segments in
    let few : nat_lt (length ls) 2 ≡ false = parts.0 in
    let some : 2 ≤ length ls = grind (arith, nat_tests) in
    let long : length image.segments ≡ length ls = sym (length-map image.segments unread) ∙ (ap (λ (ts : List Seg). length ts) sound.segments ∙ length-map ls (segment_with [])) in
    let same : s.initprot ≡ command.0.initprot = ap (λ (t : Seg). t.initprot) command.3 in
    (sound_linkedit image sound g s lt is).0
    (earlier (length image.segments) g lt (λ end. let read : command.0.initprot ≡ 1 = last_load size ls some parts.3 g command.0 (omega (arith, end, long)) command.2 in omega (arith, read, same, writable)))
  where
    earlier : (n g : ℕ) → g < n → (g + 1 ≡ n → ⊥) → g + 1 < n
    earlier n g lt other = elim (cases_lt (g + 1) n) [ inl less ↦ less | inr end ↦ absurd (other (omega (arith, lt, end))) ]
