-- How long the shape of an image is.
use Rattle.std.proofs.Common.{◌≡◌, ◌≤◌, ◌<◌, ℕ, zero, suc, ◌+◌, ◌*◌, ◌^◌, Bool, true, false, nat_eq, nat_lt, Some, None, List, [], ◌∷◌, ◌++◌, length, get_or, map, drop, refl, ap, arith, inl, inr, length-append, length-drop, if◌then◌else◌}
use Rattle.std.specs.Prelude.{filter}
use Rattle.std.specs.List.{flat_map, concat, AllByRecursion}
use Rattle.std.proofs.lemmas.List.Sums.{length-filter, count_by-le-length}
use Rattle.std.proofs.lemmas.Bool.{cases_Bool, cond-true, cond-false, eqb-true, ne_eqb}
use Rattle.std.proofs.lemmas.List.{length-map}
use Rattle.dsc_base.specs.Numbers.{number_at}
use Rattle.dsc_base.proofs.NumberLaws.{number_at-lt}
use Rattle.macho_image.specs.Records.{Img, Seg, Load}
use Rattle.macho_image.specs.Macho.{header_size, size_of, number_of, is_segment, commands_in, commands_of, loads_from, loads_of, segment_load, segment_loads, segment_with}
use Rattle.macho_image.specs.Rules.{misshapen, breaks_command_shape, is_linkedit_segment}
use Rattle.macho_image.specs.Breaks.{unread, IsSound}
use Rattle.macho_image.specs.declared.section.Section.{Section}
use Rattle.macho_image.proofs.CommandLaws.{IsWholeCommand, shape_joins, AreCommands}
use Rattle.macho_image.proofs.SectionLaws.{few_sections}
use Rattle.macho_image.proofs.WalkLaws.{sound_header}
use Rattle.load_model.specs.Corresponds.{section_shape, sections_of, segment_shape, shapes_from, shape_of}

-- ---- each section belongs to one segment

abbrev owned : List Section → ℕ → ℕ → ℕ
owned xs g zero = 0
owned xs g (suc n) = length (filter (λ (s : Section). nat_eq s.segment g) xs) + owned xs (g + 1) n

abbrev one_if : Bool → ℕ
one_if b = if b then 1 else 0

abbrev hits : Section → ℕ → ℕ → ℕ
hits x g zero = 0
hits x g (suc n) = one_if (nat_eq x.segment g) + hits x (g + 1) n

hits_past : (x : Section) (g n : ℕ) → x.segment < g → hits x g n ≡ 0
hits_past x g zero lt = refl
hits_past x g (suc n) lt =
    let here : one_if (nat_eq x.segment g) ≡ 0 = cond-false (nat_eq x.segment g) 1 0 (ne_eqb x.segment g (λ same. omega (arith, lt, same))) in
    omega (arith, here, hits_past x (g + 1) n (omega (arith, lt)))

hits_once : (x : Section) (g n : ℕ) → hits x g n ≤ 1
hits_once x g zero = omega arith
hits_once x g (suc n) = elim (cases_Bool (nat_eq x.segment g)) [
  | inl is ↦
      let same : x.segment ≡ g = eqb-true x.segment g is in
      let here : one_if (nat_eq x.segment g) ≡ 1 = cond-true (nat_eq x.segment g) 1 0 is in
      omega (arith, here, hits_past x (g + 1) n (omega (arith, same)))
  | inr other ↦
      let here : one_if (nat_eq x.segment g) ≡ 0 = cond-false (nat_eq x.segment g) 1 0 other in
      omega (arith, here, hits_once x (g + 1) n)
]

kept_one : (x : Section) (xs : List Section) (g : ℕ) → length (filter (λ (s : Section). nat_eq s.segment g) (x ∷ xs)) ≡ length (filter (λ (s : Section). nat_eq s.segment g) xs) + one_if (nat_eq x.segment g)
kept_one x xs g = at (nat_eq x.segment g)
  where
    at : (b : Bool) → length (if b then x ∷ filter (λ (s : Section). nat_eq s.segment g) xs else filter (λ (s : Section). nat_eq s.segment g) xs) ≡ length (filter (λ (s : Section). nat_eq s.segment g) xs) + one_if b
    at true = omega arith
    at false = omega arith

owned_more : (x : Section) (xs : List Section) (g n : ℕ) → owned (x ∷ xs) g n ≡ owned xs g n + hits x g n
owned_more x xs g zero = refl
owned_more x xs g (suc n) = omega (arith, kept_one x xs g, owned_more x xs (g + 1) n)

owned_none : (g n : ℕ) → owned [] g n ≡ 0
owned_none g zero = refl
owned_none g (suc n) = omega (arith, owned_none (g + 1) n)

owned_all : (xs : List Section) (g n : ℕ) → owned xs g n ≤ length xs
owned_all [] g n = omega (arith, owned_none g n)
owned_all (x ∷ xs) g n = omega (arith, owned_more x xs g n, hits_once x g n, owned_all xs g n)

-- ---- numbers of a shape

length-sections : (t : Seg) (xs : List Section) → length (flat_map (section_shape t) xs) ≡ 3 * length xs
length-sections t [] = refl
length-sections t (x ∷ xs) = omega (arith, length-sections t xs)

length-segment : (t : Seg) (xs : List Section) → length (segment_shape t xs) ≡ 4 + 3 * length xs
length-segment t xs = omega (arith, length-sections t xs)

length-shapes : (image : Img) (g : ℕ) (ss : List Seg) → length (shapes_from image g ss) ≤ 4 * length ss + 3 * owned image.sections g (length ss)
length-shapes image g [] = omega arith
length-shapes image g (s ∷ ss) = at (is_linkedit_segment s) (length-shapes image (g + 1) ss)
  where
    at : (b : Bool) → length (shapes_from image (g + 1) ss) ≤ 4 * length ss + 3 * owned image.sections (g + 1) (length ss)
        → length ((if b then [] else segment_shape s (sections_of image g)) ++ shapes_from image (g + 1) ss) ≤ 4 * length (s ∷ ss) + 3 * owned image.sections g (length (s ∷ ss))
    at true later = omega (arith, later)
    at false later = omega (arith, later, length-append (segment_shape s (sections_of image g)) (shapes_from image (g + 1) ss), length-segment s (sections_of image g))

-- ---- how many segments a header has room for

wide : (cs : List (List ℕ)) → AllByRecursion IsWholeCommand cs → 8 * length cs ≤ length (concat cs)
wide [] whole = omega arith
wide (c ∷ cs) whole = let some : 8 ≤ length c = whole.0.sized.some in omega (arith, some, wide cs whole.1, length-append c (concat cs))

counted : (n : ℕ) (bytes : List ℕ) → length (commands_in n bytes) ≡ n
counted zero bytes = refl
counted (suc n) bytes = omega (arith, counted n (drop (size_of bytes) bytes))

few_commands : (n at : ℕ) (bytes : List ℕ) → misshapen n at bytes ≡ None → 8 * n ≤ length bytes
few_commands n at bytes none =
    let are : AreCommands n bytes = shape_joins n at bytes none in
    omega (arith, counted n bytes, wide (commands_in n bytes) are.whole, ap (λ (l : List ℕ). length l) are.joined)

loads_counted : (at : ℕ) (cs : List (List ℕ)) → length (loads_from at cs) ≡ length cs
loads_counted at [] = refl
loads_counted at (c ∷ cs) = omega (arith, loads_counted (at + length c) cs)

within_shape : (header : List ℕ) → breaks_command_shape header ≡ None → misshapen (number_at 4 header 16) 32 (drop 32 header) ≡ None
within_shape header none = at (nat_lt (length header) (header_size header)) none
  where
    at : (b : Bool) → (if b then Some 0x14 else misshapen (number_at 4 header 16) 32 (drop 32 header)) ≡ None → misshapen (number_at 4 header 16) 32 (drop 32 header) ≡ None
    at true none = absurd (cc)
    at false none = none

few_segments : (image : Img) → IsSound image → ((k : ℕ) → get_or image.header k 0 < 256) → length image.segments < 2 ^ 29
few_segments image sound bytes =
    let ls = loads_of image.header in
    let told : number_at 4 image.header 20 < 256 ^ 4 = number_at-lt 4 image.header 20 bytes in
    let long : length image.header ≡ 32 + number_at 4 image.header 20 = sound.whole in
    let room = few_commands (number_at 4 image.header 16) 32 (drop 32 image.header) (within_shape image.header (sound_header image sound).shape) in
    let commands : length (commands_of image.header) ≡ number_at 4 image.header 16 = counted (number_at 4 image.header 16) (drop 32 image.header) in
    let loads : length (loads_of image.header) ≡ length (commands_of image.header) = loads_counted 32 (commands_of image.header) in
    let kept : List Load = filter (λ (l : Load). is_segment (number_of l.bytes)) (loads_of image.header) in
    let some : length (filter (λ (l : Load). is_segment (number_of l.bytes)) (loads_of image.header)) ≤ length (loads_of image.header) =
    let e = length-filter (λ (l : Load). is_segment (number_of l.bytes)) (loads_of image.header) in
    let le = count_by-le-length (λ (l : Load). is_segment (number_of l.bytes)) (loads_of image.header) in omega arith in
    let made : length (segment_loads (loads_of image.header)) ≡ length (filter (λ (l : Load). is_segment (number_of l.bytes)) (loads_of image.header)) = length-map (filter (λ (l : Load). is_segment (number_of l.bytes)) (loads_of image.header)) segment_load in
    let unmade : length (map (segment_with []) (segment_loads (loads_of image.header))) ≡ length (segment_loads (loads_of image.header)) = length-map (segment_loads (loads_of image.header)) (segment_with []) in
    let ours : length (map unread image.segments) ≡ length image.segments = length-map image.segments unread in
    let same : length (map unread image.segments) ≡ length (map (segment_with []) (segment_loads (loads_of image.header))) = ap length sound.segments in
    let rest = length-drop 32 image.header in
    omega (arith, told, long, room, commands, loads, some, made, unmade, ours, same, rest)

pub few_numbers : (image : Img) → IsSound image → ((k : ℕ) → get_or image.header k 0 < 256) → length (shape_of image) < 2 ^ 32
unfolding shape_of
few_numbers image sound bytes =
    omega (arith, length-shapes image 0 image.segments, owned_all image.sections 0 (length image.segments), few_sections image sound, few_segments image sound bytes)
