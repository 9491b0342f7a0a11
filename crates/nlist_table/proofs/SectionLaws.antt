-- Each section of an image belongs to one of its segments.
use Rattle.std.proofs.Common.{◌≡◌, ◌≤◌, ◌<◌, ◌+◌, ℕ, List, [], ◌∷◌, length, map, get_or, sym, ap, subst, ◌∙◌, arith}
use Rattle.std.specs.List.{All}
use Rattle.std.proofs.lemmas.List.{length-map}
use Rattle.std.proofs.lemmas.List.Elements.{All-cons, All-nil, All-append}
use Rattle.macho_image.specs.Records.{Img, SegmentLoad, SectionLoad}
use Rattle.macho_image.specs.declared.section.Section.{Section}
use Rattle.macho_image.specs.Macho.{loads_of, segment_loads, segment_with, section_of, sections_from}
use Rattle.macho_image.specs.Breaks.{IsSound, unread}

of_one : (k n : ℕ) (xs : List SectionLoad) → k < n → All (λ (y : Section). y.segment < n) (map (section_of k) xs)
unfolding section_of
of_one k n [] lt = All-nil (λ (y : Section). y.segment < n)
of_one k n (x ∷ xs) lt = All-cons (λ (y : Section). y.segment < n) (section_of k x) (map (section_of k) xs) lt (of_one k n xs lt)

of_all : (k n : ℕ) (ss : List SegmentLoad) → k + length ss ≤ n → All (λ (y : Section). y.segment < n) (sections_from k ss)
of_all k n [] le = All-nil (λ (y : Section). y.segment < n)
of_all k n (s ∷ ss) le =
    All-append (λ (y : Section). y.segment < n) (map (section_of k) s.sections) (sections_from (k + 1) ss) (of_one k n s.sections (omega arith)) (of_all (k + 1) n ss (omega arith))

pub sections_within : (image : Img) → IsSound image → All (λ (y : Section). y.segment < length image.segments) image.sections
sections_within image sound =
    let ss = segment_loads (loads_of image.header) in
    let as_many : length image.segments ≡ length ss =
    sym (length-map image.segments unread) ∙ (ap length sound.segments ∙ length-map ss (segment_with [])) in
    subst (λ (xs : List Section). All (λ (y : Section). y.segment < length image.segments) xs) (sym sound.sections)
    (of_all 0 (length image.segments) ss (omega (arith, as_many)))

pub section_within : (image : Img) → IsSound image → (sections : List Section) (k : ℕ) (x : Section) → sections ≡ image.sections → k < length sections → x ≡ get_or sections k x → x.segment < length image.segments
section_within image sound sections k x same inside is =
    let all = subst (λ (xs : List Section). All (λ (y : Section). y.segment < length image.segments) xs) (sym same) (sections_within image sound) in
    subst (λ (y : Section). y.segment < length image.segments) (sym is) (all k x inside)
