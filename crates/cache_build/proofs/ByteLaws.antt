-- The bytes of segments are bytes.
use Rattle.std.proofs.Common.{◌≡◌, ◌<◌, ◌+◌, ℕ, zero, suc, List, [], ◌∷◌, ◌++◌, Vec, Global, map, take, drop, length, get_or, refl, sym, ap, subst, ◌∙◌, arith}
use Rattle.std.specs.List.{All}
use Rattle.std.proofs.lemmas.List.{length-map, get_or-map}
use Rattle.std.proofs.lemmas.List.Elements.{All-nil, All-cons, All-append, All-head, All-tail, All-take, All-drop}
use Rattle.macho_image.specs.Records.{Seg, Img, SegmentLoad}
use Rattle.macho_image.specs.Macho.{header_in, image_of, image_from, segment_of, segment_loads, loads_of}
use Rattle.cache_layout.specs.Apart.{IsSegment}
use Rattle.cache_layout.proofs.NumberedLaws.{map-push, take-step}
use Rattle.load_model.specs.Phases.{contents, dylib_of, images_of}
use Rattle.macho_image.proofs.SliceLaws.{dylib_bytes}

-- what lies behind a list's end counts as 0
pub read_byte : (bytes : List ℕ) → All (λ b. b < 256) bytes → (n : ℕ) → get_or bytes n 0 < 256
read_byte [] all n = omega arith
read_byte (b ∷ bytes) all zero = All-head (λ (x : ℕ). x < 256) b bytes all
read_byte (b ∷ bytes) all (suc n) = read_byte bytes (All-tail (λ (x : ℕ). x < 256) b bytes all) n

taken_bytes : (file : List ℕ) (l : SegmentLoad) → All (λ b. b < 256) file → (n : ℕ) → get_or (segment_of file l).bytes n 0 < 256
unfolding segment_of
taken_bytes file l all = read_byte (take l.filesize (drop l.fileoff file)) (All-take (λ (b : ℕ). b < 256) l.filesize (drop l.fileoff file) (All-drop (λ (b : ℕ). b < 256) l.fileoff file all))

made_bytes : (file : List ℕ) (ls : List SegmentLoad) (g : ℕ) (s : Seg) → All (λ b. b < 256) file → g < length (map (segment_of file) ls) → s ≡ get_or (map (segment_of file) ls) g s → (n : ℕ) → get_or s.bytes n 0 < 256
made_bytes file [] g s all lt at n = absurd (omega arith)
made_bytes file (l ∷ ls) zero s all lt at n = subst (λ (t : Seg). get_or t.bytes n 0 < 256) (sym at) (taken_bytes file l all n)
made_bytes file (l ∷ ls) (suc g) s all lt at n = made_bytes file ls g s all (omega arith) at n

image_segments : (file : List ℕ) → (image_of file 0).segments ≡ map (segment_of file) (segment_loads (loads_of (header_in file 0)))
unfolding image_from
image_segments file = refl

pub segment_bytes : (files : List (List ℕ)) → All (λ f. All (λ b. b < 256) f) files → (k g : ℕ) (i : Img) (s : Seg) → IsSegment (images_of files) k g i s → (n : ℕ) → get_or s.bytes n 0 < 256
segment_bytes files all k g i s there =
    let inside : k < length files = omega (arith, there.image_in, length-map files (λ (f : List ℕ). image_of (dylib_of f) 0)) in
    let file : List ℕ = get_or files k [] in
    let f : List ℕ = dylib_of file in
    let own : i.segments ≡ map (segment_of f) (segment_loads (loads_of (header_in f 0))) =
    ap (λ (j : Img). j.segments) (there.image_is ∙ get_or-map (λ (g : List ℕ). image_of (dylib_of g) 0) files k [] i inside) ∙ image_segments f in
    made_bytes f (segment_loads (loads_of (header_in f 0))) g s (dylib_bytes file (all k [] inside)) (subst (λ (ss : List Seg). g < length ss) own there.segment_in) (there.segment_is ∙ ap (λ (ss : List Seg). get_or ss g s) own)

-- files of which one more is known to be bytes
pub bytes_more : (files : List (Vec ℕ Global)) (n : ℕ) (f : Vec ℕ Global) (bytes : List ℕ) → All (λ g. All (λ b. b < 256) g) (contents (take n files)) → n < length files → f ≡ get_or files n f → bytes ≡ f.items → All (λ b. b < 256) bytes
    → All (λ g. All (λ b. b < 256) g) (contents (take (n + 1) files))
bytes_more files n f bytes before lt at is own =
    let AreBytes : List ℕ → Type 0 = λ g. All (λ (b : ℕ). b < 256) g in
    let items = λ (g : Vec ℕ Global). g.items in
    let grown : contents (take (n + 1) files) ≡ contents (take n files) ++ bytes ∷ [] =
    ap contents (take-step files n f lt at) ∙ (map-push items (take n files) f ∙ ap (λ (b : List ℕ). contents (take n files) ++ b ∷ []) (sym is)) in
    subst (λ (fs : List (List ℕ)). All AreBytes fs) (sym grown) (All-append AreBytes (contents (take n files)) (bytes ∷ []) before (All-cons AreBytes bytes [] own (All-nil AreBytes)))
