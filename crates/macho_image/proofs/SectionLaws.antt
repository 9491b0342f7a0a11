-- Sections in order: the one that holds a word is found by halving, and no other does. An image's sections are in order.
use Rattle.std.proofs.Common.{◌≡◌, ◌≤◌, ◌<◌, ◌⊎◌, ◌+◌, ◌-◌, ◌/◌, ℕ, zero, suc, nat_eq, Bool, true, false, not, List, [], ◌∷◌, ◌++◌, length, get_or, map, refl, sym, ap, ◌∙◌, subst, arith, length-append, if◌then◌else◌, nat_lt, inl, inr, Option, Some, None, option_map}
use Rattle.std.specs.Prelude.{slice_get, drop}
use Rattle.std.specs.List.{All, AllPairs, AllByRecursion, position_or_len, position}
use Rattle.std.specs.List.Sorted.{IsPartitionedBy, IsPartitionPoint}
use Rattle.std.proofs.lemmas.Bool.{cases_lt, cases_Bool, false≢true, not-false, cond-false, ne_eqb}
use Rattle.std.proofs.lemmas.Bool.Decides.{nat_tests}
use Rattle.std.proofs.lemmas.Grind.{common_steps}
use Rattle.std.proofs.lemmas.List.{length-map}
use Rattle.std.proofs.lemmas.List.Elements.{All-cons, All-nil, All-append}
use Rattle.std.proofs.lemmas.List.Kept.{AllPairs-cons}
use Rattle.std.proofs.lemmas.List.Sums.{position_or_len_is}
use Rattle.macho_image.specs.Records.{Img, Load, SegmentLoad, SectionLoad}
use Rattle.macho_image.specs.declared.section.Section.{Section}
use Rattle.macho_image.specs.Macho.{header_size, loads_of, segment_load, segment_loads, sections_in, section_of, sections_from}
use Rattle.macho_image.specs.Rules.{first_segment, is_text, sections_stand, sections_start, first_crowded}
use Rattle.macho_image.specs.Breaks.{IsSound}
use Rattle.macho_image.proofs.Unbroken.{when_false, least_none_both}
use Rattle.macho_image.proofs.HeaderRules.{sound_rules, all_fail}
use Rattle.macho_image.specs.Places.{holds, is_behind, numbered_section, section_around, Precedes}

-- what the tests say
pub record IsHeld (w g address : ℕ) (x : Section) : Type 0 where
  pub segment : x.segment ≡ g
  pub from : x.addr ≤ address
  pub to : address + w ≤ x.addr + x.size

pub held : (w g address : ℕ) (x : Section) → holds w g address x ≡ true → IsHeld w g address x
held w g address x is = record { segment = grind (arith, nat_tests); from = grind (arith, nat_tests); to = grind (arith, nat_tests) }

pub record IsAhead (w g address : ℕ) (x : Section) : Type 0 where
  pub segment : g ≤ x.segment
  pub end : x.segment ≡ g → address + w ≤ x.addr + x.size

ahead : (w g address : ℕ) (x : Section) → is_behind w g address x ≡ false → IsAhead w g address x
ahead w g address x is = record { segment = grind (arith, nat_tests); end = λ same. grind (arith, nat_tests) }

behind : (w g address : ℕ) (x : Section) → is_behind w g address x ≡ true → (x.segment < g) ⊎ ((x.segment ≡ g) × (x.addr + x.size < address + w))
behind w g address x is = elim (cases_lt x.segment g) [
  | inl low ↦ inl low
  | inr high ↦ inr (let e : x.segment ≡ g = grind (arith, nat_tests) in (e, grind (arith, nat_tests)))
]

is_before : (w g address : ℕ) (x : Section) → (x.segment < g) ⊎ ((x.segment ≡ g) × (x.addr + x.size < address + w)) → is_behind w g address x ≡ true
is_before w g address x (inl low) = grind (arith, nat_tests)
is_before w g address x (inr here) = let e : x.segment ≡ g = here.0 in let lt : x.addr + x.size < address + w = here.1 in grind (arith, nat_tests)

held_not_behind : (w g address : ℕ) (x : Section) → IsHeld w g address x → is_behind w g address x ≡ true → false ≡ true
held_not_behind w g address x h is = elim (behind w g address x is) [ inl low ↦ absurd (omega (arith, h.segment)) | inr here ↦ absurd (omega (arith, h.from, h.to, here.1)) ]

-- those behind an address stand in front
pub parted : (w g address : ℕ) (xs : List Section) → AllPairs Precedes xs → IsPartitionedBy (is_behind w g address) xs
parted w g address xs order i j d le lt is = elim (cases_lt i j) [
  | inl before ↦
      let p = order i j d before lt in
      is_before w g address (get_or xs i d) (elim (behind w g address (get_or xs j d) is) as (λ _. ((get_or xs i d).segment < g) ⊎ (((get_or xs i d).segment ≡ g) × ((get_or xs i d).addr + (get_or xs i d).size < address + w))) [
        | inl low ↦ inl (omega (arith, p.segments))
        | inr here ↦ elim (cases_lt (get_or xs i d).segment g) as (λ _. ((get_or xs i d).segment < g) ⊎ (((get_or xs i d).segment ≡ g) × ((get_or xs i d).addr + (get_or xs i d).size < address + w))) [
          | inl low ↦ inl low
          | inr high ↦
              let e : (get_or xs i d).segment ≡ g = omega (arith, p.segments, here.0) in
              let f : (get_or xs i d).segment ≡ (get_or xs j d).segment = omega (arith, here.0) in
              inr (e, omega (arith, p.addresses f, here.1))
        ]
      ])
  | inr same ↦ let e : i ≡ j = omega arith in subst (λ (k : ℕ). is_behind w g address (get_or xs k d) ≡ true) (sym e) is
]

none_held : (w g address : ℕ) (x : Section) → (holds w g address x ≡ true → false ≡ true) → holds w g address x ≡ false
none_held w g address x is_not = elim (cases_Bool (holds w g address x)) [ inl is_so ↦ absurd (false≢true (is_not is_so)) | inr e ↦ e ]

abbrev IsPoint : ℕ → ℕ → ℕ → List Section → ℕ → Type 0
IsPoint w g address xs i = IsPartitionPoint (λ y. is_behind w g address y ≡ true) (λ y. is_behind w g address y ≡ false) xs i

earlier : (w g address : ℕ) (xs : List Section) (i : ℕ) → IsPoint w g address xs i → (k : ℕ) (d : Section) → k < i → holds w g address (get_or xs k d) ≡ false
earlier w g address xs i point k d lt =
    none_held w g address (get_or xs k d) (λ is_so. held_not_behind w g address (get_or xs k d) (held w g address (get_or xs k d) is_so) (point.0 k d (omega arith) lt))

-- one that is neither behind nor around begins above the address
starts_above : (w g address : ℕ) (x : Section) → IsAhead w g address x → holds w g address x ≡ false → x.segment ≡ g → address < x.addr
starts_above w g address x a not_here same = let end = a.end same in grind (arith, nat_tests)

-- where the first one that isn't behind doesn't hold the word, no later one does
later : (w g address : ℕ) (xs : List Section) (i : ℕ) → AllPairs Precedes xs → IsPoint w g address xs i → (d : Section) → i < length xs → holds w g address (get_or xs i d) ≡ false
    → (k : ℕ) → i < k → k < length xs → holds w g address (get_or xs k d) ≡ false
later w g address xs i order point d inside not_here k more lt =
    none_held w g address (get_or xs k d) (λ is_so.
    let h = held w g address (get_or xs k d) is_so in
    let a = ahead w g address (get_or xs i d) (point.1 i d (omega arith) inside) in
    let p = order i k d more lt in
    let e : (get_or xs i d).segment ≡ g = omega (arith, a.segment, p.segments, h.segment) in
    let f : (get_or xs i d).segment ≡ (get_or xs k d).segment = omega (arith, h.segment) in
    let above : address < (get_or xs i d).addr = starts_above w g address (get_or xs i d) a not_here e in
    absurd (omega (arith, above, p.addresses f, h.from)))

position_is : (p : Section → Bool) (xs : List Section) (i : ℕ) → position_or_len p xs ≡ i → i < length xs → position p xs ≡ Some i
position_is p xs i e inside = grind (arith, common_steps)

position_none : (p : Section → Bool) (xs : List Section) → position_or_len p xs ≡ length xs → position p xs ≡ None
position_none p xs e = grind (arith, common_steps)

pub section_found : (w g address : ℕ) (xs : List Section) (i : ℕ) (x : Section) → IsPoint w g address xs i → i < length xs → x ≡ get_or xs i x → holds w g address x ≡ true → section_around xs g address w ≡ Some (i + 1)
section_found w g address xs i x point inside is is_so =
    let first : position_or_len (holds w g address) xs ≡ i =
    position_or_len_is (holds w g address) xs i x (omega arith) (λ k lt. earlier w g address xs i point k x lt) (λ _. sym (ap (holds w g address) is) ∙ is_so) in
    ap (λ (o : Option ℕ). option_map (λ (k : ℕ). k + 1) o) (position_is (holds w g address) xs i first inside)

pub section_none : (w g address : ℕ) (xs : List Section) (i : ℕ) (x : Section) → AllPairs Precedes xs → IsPoint w g address xs i → i < length xs → x ≡ get_or xs i x → holds w g address x ≡ false → section_around xs g address w ≡ None
section_none w g address xs i x order point inside is is_not =
    let here : holds w g address (get_or xs i x) ≡ false = sym (ap (holds w g address) is) ∙ is_not in
    let first : position_or_len (holds w g address) xs ≡ length xs =
    position_or_len_is (holds w g address) xs (length xs) x (omega arith) (λ k lt. all k lt here) (λ lt. absurd (omega arith)) in
    ap (λ (o : Option ℕ). option_map (λ (k : ℕ). k + 1) o) (position_none (holds w g address) xs first)
  where
    all : (k : ℕ) → k < length xs → holds w g address (get_or xs i x) ≡ false → holds w g address (get_or xs k x) ≡ false
    all k lt here = elim (cases_lt k i) [
      | inl before ↦ earlier w g address xs i point k x before
      | inr from ↦ elim (cases_lt i k) [
        | inl more ↦ later w g address xs i order point x inside here k more lt
        | inr same ↦ let e : i ≡ k = omega arith in subst (λ (j : ℕ). holds w g address (get_or xs j x) ≡ false) e here
      ]
    ]

pub no_section : Section
no_section = record { name = []; segment_name = []; segment = 0; addr = 0; size = 0; flags = 0 }

pub section_past : (w g address : ℕ) (xs : List Section) (i : ℕ) → IsPoint w g address xs i → length xs ≤ i → section_around xs g address w ≡ None
section_past w g address xs i point past =
    let first : position_or_len (holds w g address) xs ≡ length xs =
    position_or_len_is (holds w g address) xs (length xs) no_section (omega arith) (λ k lt. earlier w g address xs i point k no_section (omega arith)) (λ lt. absurd (omega arith)) in
    ap (λ (o : Option ℕ). option_map (λ (k : ℕ). k + 1) o) (position_none (holds w g address) xs first)

-- the sections of one segment begin at or above a floor, one behind the other
stand_above : (s : SegmentLoad) (start floor k : ℕ) (xs : List SectionLoad) → sections_stand s start floor xs ≡ true → All (λ (y : Section). (y.segment ≡ k) × (floor ≤ y.addr)) (map (section_of k) xs)
unfolding section_of
stand_above s start floor k [] is = All-nil (λ (y : Section). (y.segment ≡ k) × (floor ≤ y.addr))
stand_above s start floor k (x ∷ xs) is =
    let low : floor ≤ x.addr = grind (arith, nat_tests) in
    let rest : sections_stand s start (x.addr + x.size) xs ≡ true = grind (arith, nat_tests) in
    All-cons (λ (y : Section). (y.segment ≡ k) × (floor ≤ y.addr)) (section_of k x) (map (section_of k) xs) (refl, low)
    (λ i d lt. let p = stand_above s start (x.addr + x.size) k xs rest i d lt in (p.0, omega (arith, p.1)))

stand_in_turn : (s : SegmentLoad) (start floor k : ℕ) (xs : List SectionLoad) → sections_stand s start floor xs ≡ true → AllPairs Precedes (map (section_of k) xs)
unfolding section_of
stand_in_turn s start floor k [] is = λ i j d lt inside. absurd (omega arith)
stand_in_turn s start floor k (x ∷ xs) is =
    let rest : sections_stand s start (x.addr + x.size) xs ≡ true = grind (arith, nat_tests) in
    AllPairs-cons Precedes (section_of k x) (map (section_of k) xs)
    (λ i d lt. let p = stand_above s start (x.addr + x.size) k xs rest i d lt in record { segments = omega (arith, p.0); addresses = λ same. p.1 })
    (stand_in_turn s start (x.addr + x.size) k xs rest)

pairs_append : (R : Section → Section → Type 0) (xs ys : List Section) → AllPairs R xs → AllPairs R ys → All (λ x. All (R x) ys) xs → AllPairs R (xs ++ ys)
pairs_append R [] ys first second across = second
pairs_append R (x ∷ xs) ys first second across =
    AllPairs-cons R x (xs ++ ys)
    (All-append (R x) xs ys (λ i d lt. first 0 (suc i) d (omega arith) (omega arith)) (across 0 x (omega arith)))
    (pairs_append R xs ys (λ i j d lt inside. first (suc i) (suc j) d (omega arith) (omega arith)) second (λ i d lt. across (suc i) d (omega arith)))

-- each segment's sections stand
abbrev AllStand : ℕ → List SegmentLoad → Type 0
AllStand size ss = AllByRecursion (λ (s : SegmentLoad). not (sections_stand s (sections_start size s) 0 s.sections) ≡ false) ss

sections_above : (k : ℕ) (ss : List SegmentLoad) → All (λ (y : Section). k ≤ y.segment) (sections_from k ss)
unfolding section_of
sections_above k [] = All-nil (λ (y : Section). k ≤ y.segment)
sections_above k (s ∷ ss) =
    All-append (λ (y : Section). k ≤ y.segment) (map (section_of k) s.sections) (sections_from (k + 1) ss) (of_one k s.sections)
    (λ i d lt. let p = sections_above (k + 1) ss i d lt in omega (arith, p))
  where
    of_one : (k : ℕ) (xs : List SectionLoad) → All (λ (y : Section). k ≤ y.segment) (map (section_of k) xs)
    of_one k [] = All-nil (λ (y : Section). k ≤ y.segment)
    of_one k (x ∷ xs) = All-cons (λ (y : Section). k ≤ y.segment) (section_of k x) (map (section_of k) xs) (omega arith) (of_one k xs)

in_turn : (size k : ℕ) (ss : List SegmentLoad) → AllStand size ss → AllPairs Precedes (sections_from k ss)
in_turn size k [] stand = λ i j d lt inside. absurd (omega arith)
in_turn size k (s ∷ ss) stand =
    let here = not-false (sections_stand s (sections_start size s) 0 s.sections) stand.0 in
    let above = stand_above s (sections_start size s) 0 k s.sections here in
    pairs_append Precedes (map (section_of k) s.sections) (sections_from (k + 1) ss) (stand_in_turn s (sections_start size s) 0 k s.sections here)
    (in_turn size (k + 1) ss stand.1)
    (λ i d lt j e inside.
    let p = above i d lt in
    let q = sections_above (k + 1) ss j e inside in
    record { segments = omega (arith, p.0, q); addresses = λ same. absurd (omega (arith, p.0, q, same)) })

few : (before k : ℕ) (ss : List SegmentLoad) → before ≤ 255 → first_crowded before ss ≡ None → before + length (sections_from k ss) ≤ 255
few before k [] le none = omega arith
few before k (s ∷ ss) le none =
    let parts = when_false (nat_lt 255 (before + length s.sections)) s.at (first_crowded (before + length s.sections) ss) none in
    let fits : nat_lt 255 (before + length s.sections) ≡ false = parts.0 in
    let room : before + length s.sections ≤ 255 = grind (arith, nat_tests) in
    let rest = few (before + length s.sections) (k + 1) ss room parts.1 in
    let long : length (map (section_of k) s.sections ++ sections_from (k + 1) ss) ≡ length s.sections + length (sections_from (k + 1) ss) =
    length-append (map (section_of k) s.sections) (sections_from (k + 1) ss) ∙ ap (λ (n : ℕ). n + length (sections_from (k + 1) ss)) (length-map s.sections (section_of k)) in
    omega (arith, rest, long)

-- a segment's sections begin in it
pub start_above : (size : ℕ) (l : SegmentLoad) → l.vmaddr ≤ sections_start size l
start_above size l = go (is_text l)
  where
    go : (b : Bool) → l.vmaddr ≤ (if b then l.vmaddr + size else l.vmaddr)
    go true = omega arith
    go false = omega arith

-- the sections of an image stand in the order of their segments, and those of one segment don't overlap
pub sections_in_order : (image : Img) → IsSound image → AllPairs Precedes image.sections
sections_in_order image sound =
    let size = header_size image.header in
    let ss = segment_loads (loads_of image.header) in
    let shape = least_none_both (first_segment (λ s. not (sections_stand s (sections_start size s) 0 s.sections)) ss) (first_crowded 0 ss) (sound_rules image sound).sections in
    subst (λ (xs : List Section). AllPairs Precedes xs) (sym sound.sections) (in_turn size 0 ss (all_fail (λ s. not (sections_stand s (sections_start size s) 0 s.sections)) ss shape.0))

-- and there are few of them
pub few_sections : (image : Img) → IsSound image → length image.sections ≤ 255
few_sections image sound =
    let ss = segment_loads (loads_of image.header) in
    let size = header_size image.header in
    let shape = least_none_both (first_segment (λ s. not (sections_stand s (sections_start size s) 0 s.sections)) ss) (first_crowded 0 ss) (sound_rules image sound).sections in
    let bound = few 0 0 ss (omega arith) shape.1 in
    subst (λ (xs : List Section). length xs ≤ 255) (sym sound.sections) (omega (arith, bound))

-- of sections in order at most one holds so many bytes
pub one_holds : (w g address : ℕ) (xs : List Section) → 0 < w → AllPairs Precedes xs → (i j : ℕ) (d : Section) → i < length xs → j < length xs
    → holds w g address (get_or xs i d) ≡ true → holds w g address (get_or xs j d) ≡ true → i ≡ j
one_holds w g address xs some order i j d first second here there = elim (cases_lt i j) [
  | inl before ↦ absurd (apart i j before second here there)
  | inr from ↦ elim (cases_lt j i) [ inl after ↦ absurd (apart j i after first there here) | inr same ↦ omega arith ]
]
  where
    apart : (i j : ℕ) → i < j → j < length xs → holds w g address (get_or xs i d) ≡ true → holds w g address (get_or xs j d) ≡ true → ⊥
    apart i j lt inside here there =
        let h = held w g address (get_or xs i d) here in
        let k = held w g address (get_or xs j d) there in
        let p = order i j d lt inside in
        let same : (get_or xs i d).segment ≡ (get_or xs j d).segment = omega (arith, h.segment, k.segment) in
        omega (arith, some, p.addresses same, h.to, k.from)

-- a section by its number, which counts from 1
pub numbered : (xs : List Section) (n : ℕ) (x : Section) → 1 ≤ n → slice_get xs (n - 1) ≡ Some x → numbered_section xs n ≡ Some x
numbered xs n x counts got = cond-false (nat_eq n 0) None (slice_get xs (n - 1)) (ne_eqb n 0 (λ none. omega (arith, none, counts))) ∙ got

-- a segment command has as many sections as it has room for
length-sections_in : (n : ℕ) (bytes : List ℕ) → length (sections_in n bytes) ≡ n
length-sections_in zero bytes = refl
length-sections_in (suc n) bytes = ap suc (length-sections_in n (drop 80 bytes))

pub sections_room : (l : Load) → length (segment_load l).sections ≡ ((segment_load l).size - 72) / 80
unfolding segment_load
sections_room l = length-sections_in ((length l.bytes - 72) / 80) (drop 72 l.bytes)
