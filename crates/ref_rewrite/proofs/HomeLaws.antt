-- What the rules on an image's header say of where its parts stand: a segment has no more bytes than its size in memory, and the first one has the header.
use Rattle.std.proofs.Common.{◌≡◌, ◌≤◌, ◌<◌, ℕ, zero, suc, true, false, not, ◌&&◌, List, [], ◌∷◌, length, map, get_or, sym, ap, ◌∙◌, arith, nat_lt, nat_le, nat_eq, None}
use Rattle.std.specs.Prelude.{find}
use Rattle.std.proofs.lemmas.Bool.{and_parts, not-false}
use Rattle.std.proofs.lemmas.Bool.Decides.{nat_tests}
use Rattle.std.proofs.lemmas.List.{get_or_default, length-map}
use Rattle.std.proofs.Math.ListN.{get_or-map}
use Rattle.macho_image.specs.Records.{Seg, Img, SegmentLoad}
use Rattle.macho_image.specs.Macho.{header_size, loads_of, segment_loads, segment_with}
use Rattle.macho_image.specs.Rules.{is_well_shaped, is_text, is_good_text, misplaced_behind, misplaced, first_segment}
use Rattle.macho_image.specs.Breaks.{unread, IsSound}
use Rattle.cache_layout.proofs.SoundLaws.{load-of}
use Rattle.macho_image.proofs.Unbroken.{find_none, when_true}
use Rattle.macho_image.proofs.HeaderRules.{sound_rules, shape_parts, shaped_from}
pub use Rattle.prebind.proofs.SectionHomes.{one_of_two, section_owned}

-- ---- segments of good shape

shaped_at : (ls : List SegmentLoad) → first_segment (λ s. not (is_well_shaped s)) ls ≡ None → (g : ℕ) (l : SegmentLoad) → g < length ls → l ≡ get_or ls g l → is_well_shaped l ≡ true
shaped_at [] none g l lt is = absurd (omega arith)
shaped_at (s ∷ ss) none zero l lt is =
    ap is_well_shaped is ∙ not-false (is_well_shaped s) (find_none (not (is_well_shaped s)) s (find (λ (t : SegmentLoad). not (is_well_shaped t)) ss) none).0
shaped_at (s ∷ ss) none (suc g) l lt is =
    shaped_at ss (find_none (not (is_well_shaped s)) s (find (λ (t : SegmentLoad). not (is_well_shaped t)) ss) none).1 g l (omega arith) is

-- an image's segment has as many bytes as its filesize, which is no more than its size in memory
bytes_filed : (image : Img) → IsSound image → (g : ℕ) (s : Seg) → g < length image.segments → s ≡ get_or image.segments g s → length s.bytes ≡ s.filesize
bytes_filed image sound g s lt at =
    ap (λ (t : Seg). length t.bytes) at ∙ (sym (get_or-map (λ (t : Seg). length t.bytes) image.segments g s)
    ∙ (ap (λ (ns : List ℕ). get_or ns g (length s.bytes)) sound.sizes
    ∙ (get_or_default (map (λ (t : Seg). t.filesize) image.segments) g (length s.bytes) s.filesize (omega (arith, lt, length-map image.segments (λ (t : Seg). t.filesize)))
    ∙ (get_or-map (λ (t : Seg). t.filesize) image.segments g s ∙ sym (ap (λ (t : Seg). t.filesize) at)))))

pub bytes_fit : (image : Img) → IsSound image → (g : ℕ) (s : Seg) → g < length image.segments → s ≡ get_or image.segments g s → length s.bytes ≤ s.vmsize
bytes_fit image sound g s lt at =
    let ls : List SegmentLoad = segment_loads (loads_of image.header) in
    let command = load-of image.segments ls sound.segments g s lt at in
    let shaped = shaped_from command.0 (shaped_at ls (shape_parts (header_size image.header) ls (sound_rules image sound).segments).1 g command.0 command.1 command.2) in
    omega (arith, bytes_filed image sound g s lt at, ap (λ (t : Seg). t.filesize) command.3, ap (λ (t : Seg). t.vmsize) command.3, shaped.filled)

-- the header is in the first segment
pub good_first : (size : ℕ) (ls : List SegmentLoad) (l : SegmentLoad) → misplaced size ls ≡ None → 0 < length ls → l ≡ get_or ls 0 l → is_good_text size l ≡ true
good_first size [] l none some at = absurd (omega arith)
good_first size (k ∷ ls) l none some at = ap (is_good_text size) at ∙ (when_true (is_good_text size k) k.at (misplaced_behind ls) none).0

pub header_fits : (image : Img) → IsSound image → (s : Seg) → 0 < length image.segments → s ≡ get_or image.segments 0 s → length image.header ≤ length s.bytes
header_fits image sound s some at =
    let ls : List SegmentLoad = segment_loads (loads_of image.header) in
    let size : ℕ = header_size image.header in
    let command = load-of image.segments ls sound.segments 0 s some at in
    let good = and_parts (is_text command.0) (nat_eq command.0.initprot 5 && nat_le size command.0.filesize) (good_first size ls command.0 (shape_parts size ls (sound_rules image sound).segments).3 command.1 command.2) in
    let room : nat_le size command.0.filesize ≡ true = (and_parts (nat_eq command.0.initprot 5) (nat_le size command.0.filesize) good.1).1 in
    let le : size ≤ command.0.filesize = grind (arith, nat_tests) in
    omega (arith, sound.whole, le, ap (λ (t : Seg). t.filesize) command.3, bytes_filed image sound 0 s some at)

loads_long : (image : Img) → IsSound image → length image.segments ≡ length (segment_loads (loads_of image.header))
loads_long image sound =
    let ls : List SegmentLoad = segment_loads (loads_of image.header) in
    sym (length-map image.segments unread) ∙ (ap (λ (ts : List Seg). length ts) sound.segments ∙ length-map ls (segment_with []))

pub two_segments : (image : Img) → IsSound image → 2 ≤ length image.segments
two_segments image sound =
    let ls : List SegmentLoad = segment_loads (loads_of image.header) in
    let few : nat_lt (length ls) 2 ≡ false = (shape_parts (header_size image.header) ls (sound_rules image sound).segments).0 in
    let some : 2 ≤ length ls = grind (arith, nat_tests) in
    omega (arith, some, loads_long image sound)
