-- Of each image of a vetted cache a file can be made.
use Rattle.std.proofs.Common.{◌≡◌, ◌≤◌, ◌<◌, ℕ, zero, suc, ◌+◌, ◌-◌, Bool, true, false, not, ◌&&◌, ◌||◌, nat_eq, nat_le, nat_lt, Option, Some, None, List, [], ◌∷◌, filter, take, length, get_or, Vec, Global, refl, sym, ap, ap₂, ◌∙◌, subst, arith, inl, inr, if◌then◌else◌}
use Rattle.std.specs.Prelude.{slice_get, slice_index_or, position, option_map, Result, Ok, Err, IfOk}
use Rattle.std.specs.List.{All, AllByRecursion, list_any}
use Rattle.std.proofs.lemmas.Bool.{cases_lt, lt-ltb, eqb-true, leb-true, and_parts, or_cases, false≢true}
use Rattle.std.proofs.lemmas.List.Elements.{recursion_from_All, All-from_recursion}
use Rattle.std.proofs.lemmas.Option.{slice_get-map}
use Rattle.dsc_base.specs.Limits.{span_limit}
use Rattle.dsc_base.specs.Region.{region_start}
use Rattle.dsc_base.specs.declared.fault.Finding.{Finding}
use Rattle.dsc_base.specs.declared.finding_kind.FindingKind.TheVariants.{SegmentOutside, ExtractTooLarge}
use Rattle.macho_image.specs.Records.{Seg, Img}
use Rattle.macho_image.specs.Rules.{is_linkedit_segment}
use Rattle.macho_image.specs.declared.place.Location.{Location}
use Rattle.dep_closure.proofs.PositionLaws.{position-cons}
use Rattle.rebase_ops.specs.Writing.{CanBeWritten}
use Rattle.slide_chain.specs.declared.words.ChainWord.{ChainWord}
use Rattle.cache_header.specs.declared.head.Mapping.{Mapping}
use Rattle.cache_header.specs.Findings.{finding}
use Rattle.cache_header.specs.Records.{Entry}
use Rattle.load_model.specs.Mapped.{three_mappings}
use Rattle.cache_check.specs.Images.{header_place, image_in, images_of, images_finding, each_of, is_within, is_placed, is_misplaced, segments_of, segment_finding, shares}
use Rattle.cache_check.specs.Shape.{are_three, is_mapped_whole, mapping_finding}
use Rattle.cache_check.specs.Views.{View, IsSoundView}
use Rattle.cache_check.proofs.ShapeLaws.{AreThree, three_are}
use Rattle.extractor.specs.ExtractOf.{bodies_of, linkedit_of, linkedit_limit, free_words, size_in, file_in, extract_of, file_of}
use Rattle.extractor.specs.Files.{IsPlaced, CanExtract}
use Rattle.extractor.specs.Free.{lists}
use Rattle.extractor.proofs.FreeLaws.{lists_at}
use Rattle.extractor.specs.Placing.{data_start}
use Rattle.extractor.specs.Reading.{IsRead}
use Rattle.extractor.specs.Vets.{Parts, IsVetted}
use Rattle.extractor.specs.Vetting.{link_finding, words_finding, cached_set, large_finding, size_finding, vet_finding}
use Rattle.extractor.proofs.ReadLaws.{neither, AreClean, clean, images_read}

-- ---- what was found of none

pub record AreNone (v : View) : Type 0 where
  pub images : images_finding v ≡ None
  pub links : link_finding (images_of v) ≡ None
  pub words : words_finding (data_start v) v.words (cached_set (images_of v)) ≡ None
  pub sizes : size_finding v ≡ None

pub all_none : (v : View) → vet_finding v ≡ None → AreNone v
unfolding vet_finding
all_none v none =
    let images = neither (images_finding v) _ none in
    let links = neither (link_finding (images_of v)) _ images.1 in
    let words = neither (words_finding (data_start v) v.words (cached_set (images_of v))) _ links.1 in
    let sizes = neither (size_finding v) None words.1 in
    record { images = images.0; links = links.0; words = words.0; sizes = sizes.0 }

pub each_none : {X : Type 0} (finds : ℕ → X → Option Finding) (k n : ℕ) (xs : List X) (x : X) → each_of finds k xs ≡ None → slice_get xs n ≡ Some x → finds (k + n) x ≡ None
unfolding each_of
each_none {X} finds k n [] x none got = absurd (cc)
each_none {X} finds k zero (y ∷ ys) x none got =
    let same : y ≡ x = cc in
    let start : k + 0 ≡ k = omega arith in
    ap₂ (λ (m : ℕ) (z : X). finds m z) start (sym same) ∙ (neither (finds k y) (each_of finds (k + 1) ys) none).0
each_none {X} finds k (suc n) (y ∷ ys) x none got =
    let place : k + suc n ≡ k + 1 + n = omega arith in
    ap (λ (m : ℕ). finds m x) place ∙ each_none finds (k + 1) n ys x (neither (finds k y) (each_of finds (k + 1) ys) none).1 got

-- ---- segments

within_is : (s : Seg) (m : Mapping) (size : ℕ) → is_within s m ≡ true → region_start ≤ m.address → m.address + m.size ≤ region_start + size → (region_start ≤ s.vmaddr) × (s.vmaddr + s.vmsize ≤ region_start + size)
within_is s m size is low high =
    let one = and_parts (nat_eq m.init_prot s.initprot) (nat_le m.address s.vmaddr && (nat_le (s.vmaddr + s.vmsize) (m.address + m.size) && nat_eq s.fileoff (m.file + (s.vmaddr - m.address)))) is in
    let two = and_parts (nat_le m.address s.vmaddr) (nat_le (s.vmaddr + s.vmsize) (m.address + m.size) && nat_eq s.fileoff (m.file + (s.vmaddr - m.address))) one.1 in
    let three = and_parts (nat_le (s.vmaddr + s.vmsize) (m.address + m.size)) (nat_eq s.fileoff (m.file + (s.vmaddr - m.address))) two.1 in
    let above : m.address ≤ s.vmaddr = leb-true m.address s.vmaddr two.0 in
    let below : s.vmaddr + s.vmsize ≤ m.address + m.size = leb-true (s.vmaddr + s.vmsize) (m.address + m.size) three.0 in
    (omega (arith, low, above), omega (arith, below, high))

one_placed : (size : ℕ) (mappings : List Mapping) (s : Seg) → are_three size mappings ≡ true → size ≤ span_limit → is_placed mappings s ≡ true → IsPlaced s
unfolding is_placed
one_placed size mappings s mapped few placed =
    let three : AreThree size mappings = three_are size mappings mapped in
    let parts = and_parts (list_any (is_within s) mappings) (nat_eq s.filesize s.vmsize) placed in
    let a : ℕ = three.text in
    let b : ℕ = three.writable in
    let c : ℕ = three.linkedit in
    let one : Mapping = record { address = region_start; size = a; file = 0; max_prot = 5; init_prot = 5 } in
    let two : Mapping = record { address = region_start + a; size = b; file = a; max_prot = 3; init_prot = 3 } in
    let last : Mapping = record { address = region_start + (a + b); size = c; file = a + b; max_prot = 1; init_prot = 1 } in
    let there : list_any (is_within s) (three_mappings three.text three.writable three.linkedit) ≡ true = subst (λ (ms : List Mapping). list_any (is_within s) ms ≡ true) three.are parts.0 in
    let range : (region_start ≤ s.vmaddr) × (s.vmaddr + s.vmsize ≤ region_start + size) = elim (or_cases (is_within s one) (is_within s two || (is_within s last || false)) there) [
      | inl first ↦ within_is s one size first (omega arith) (omega (arith, three.long))
      | inr later ↦ elim (or_cases (is_within s two) (is_within s last || false) later) [
        | inl second ↦ within_is s two size second (omega arith) (omega (arith, three.long))
        | inr end ↦ elim (or_cases (is_within s last) false end) [
          | inl third ↦ within_is s last size third (omega arith) (omega (arith, three.long))
          | inr none ↦ absurd (false≢true none)
        ]
      ]
    ] in
    record { low = range.0; high = omega (arith, range.1, few); filled = eqb-true s.filesize s.vmsize parts.1 }

pub none_found : (k : ℕ) (o : Option ℕ) → option_map (λ (g : ℕ). finding SegmentOutside k g) o ≡ None → o ≡ None
none_found k None none = refl
none_found k (Some g) none = absurd (cc)

nowhere : (b : Bool) (o : Option ℕ) → (if b then Some 0 else option_map (λ (k : ℕ). k + 1) o) ≡ None → (b ≡ false) × (o ≡ None)
nowhere true o none = absurd (cc)
nowhere false None none = (refl, refl)
nowhere false (Some n) none = absurd (cc)

well_placed : (a b c : Bool) → (not a && (not b || c)) ≡ false → a ≡ false → b ≡ true
well_placed true b c none other = absurd (false≢true (sym other))
well_placed false true c none other = refl
well_placed false false c none other = absurd (false≢true (sym none))

all_placed : (size : ℕ) (mappings : List Mapping) (earlier ss : List Seg) → are_three size mappings ≡ true → size ≤ span_limit → position (is_misplaced mappings earlier) ss ≡ None → AllByRecursion IsPlaced (filter (λ (s : Seg). not (is_linkedit_segment s)) ss)
unfolding is_misplaced
all_placed size mappings earlier [] mapped few none = tt
all_placed size mappings earlier (s ∷ ss) mapped few none =
    let parts = nowhere (is_misplaced mappings earlier s) (position (is_misplaced mappings earlier) ss) (sym (position-cons (is_misplaced mappings earlier) s ss) ∙ none) in
    by (is_linkedit_segment s) refl parts.0 (all_placed size mappings earlier ss mapped few parts.1)
  where
    by : (b : Bool) → is_linkedit_segment s ≡ b → (not (is_linkedit_segment s) && (not (is_placed mappings s) || list_any (shares s) earlier)) ≡ false → AllByRecursion IsPlaced (filter (λ (t : Seg). not (is_linkedit_segment t)) ss)
        → AllByRecursion IsPlaced (if not b then s ∷ filter (λ (t : Seg). not (is_linkedit_segment t)) ss else filter (λ (t : Seg). not (is_linkedit_segment t)) ss)
    by true is none rest = rest
    by false is none rest = (one_placed size mappings s mapped few (well_placed (is_linkedit_segment s) (is_placed mappings s) (list_any (shares s) earlier) none is), rest)

mapped_by : (b : Bool) (f : Finding) → (if b then None else Some f) ≡ None → b ≡ true
mapped_by true f none = refl
mapped_by false f none = absurd (cc)

pub bodies_placed : (v : View) (k : ℕ) (i : Img) → IsSoundView v → AreClean v → slice_get (images_of v) k ≡ Some i → All IsPlaced (bodies_of i)
unfolding mapping_finding is_mapped_whole segment_finding
bodies_placed v k i sound found got =
    let whole = mapped_by (is_mapped_whole (length v.flat) v.head) _ sound.mapped in
    let few = and_parts (nat_le (length v.flat) span_limit) _ whole in
    let mapped = and_parts (are_three (length v.flat) v.head.mappings) _ few.1 in
    let none = each_none (segment_finding v.head.mappings (images_of v)) 0 k (images_of v) i found.placed got in
    All-from_recursion IsPlaced (bodies_of i)
    (all_placed (length v.flat) v.head.mappings (segments_of (take (0 + k) (images_of v))) i.segments mapped.0 (leb-true (length v.flat) span_limit few.0) (none_found (0 + k) (position (is_misplaced v.head.mappings (segments_of (take (0 + k) (images_of v)))) i.segments) none))

-- ---- sizes

small_by : (size : ℕ) (b : Bool) (f : Finding) → nat_lt linkedit_limit size ≡ b → (if b then Some f else None) ≡ None → size ≤ linkedit_limit
small_by size true f is none = absurd (cc)
small_by size false f is none = elim (cases_lt linkedit_limit size) [
  | inl over ↦ absurd (false≢true (sym is ∙ lt-ltb linkedit_limit size over))
  | inr within ↦ within
]

pub there : {X Y : Type 0} (f : X → Y) (o : Option X) (y : Y) → option_map f o ≡ Some y → (x : X) × (o ≡ Some x)
there f None y is = absurd (cc)
there f (Some x) y is = (x, refl)

small_at : (start : ℕ) (words : List ChainWord) (images : List Img) (entries : List Entry) (k : ℕ) (i : Img) (e : Entry) → each_of (large_finding start words images) 0 entries ≡ None → slice_get entries k ≡ Some e → slice_get images k ≡ Some i
    → length (linkedit_of i (free_words start words images k i)) ≤ linkedit_limit
unfolding large_finding
small_at start words images entries k i e none entry got =
    let first : 0 + k ≡ k = omega arith in
    let own : large_finding start words images k e ≡ None = sym (ap (λ (n : ℕ). large_finding start words images n e) first) ∙ each_none (large_finding start words images) 0 k entries e none entry in
    let size : size_in start words images k (slice_get images k) ≡ length (linkedit_of i (free_words start words images k i)) = ap (λ (o : Option Img). size_in start words images k o) got in
    let small = small_by (size_in start words images k (slice_get images k)) (nat_lt linkedit_limit (size_in start words images k (slice_get images k))) (finding ExtractTooLarge k (header_place e)) refl own in
    omega (arith, size, small)

pub linkedit_small : (v : View) (k : ℕ) (i : Img) → AreNone v → slice_get (images_of v) k ≡ Some i → length (linkedit_of i (free_words (data_start v) v.words (images_of v) k i)) ≤ linkedit_limit
unfolding size_finding
linkedit_small v k i none got =
    let entry = there (image_in v.flat) (slice_get v.head.images k) i (sym (slice_get-map (image_in v.flat) v.head.images k) ∙ got) in
    small_at (data_start v) v.words (images_of v) v.head.images k i entry.0 none.sizes entry.1 got

-- ---- one image

pub own_words : (p : Parts) (k : ℕ) (i : Img) → IsVetted p → slice_get p.images k ≡ Some i → slice_index_or p.free k [] ≡ free_words (data_start p.view) p.view.words (images_of p.view) k i
own_words p k i vetted got = vetted.free_are.each k i got ∙ ap (λ (is : List Img). free_words (data_start p.view) p.view.words is k i) vetted.images_are

read_at : (images : List Img) (n : ℕ) (j : Img) → AllByRecursion IsRead images → slice_get images n ≡ Some j → IsRead j
read_at [] n j read at = absurd (cc)
read_at (l ∷ ls) zero j read at = let same : l ≡ j = cc in subst IsRead same read.0
read_at (l ∷ ls) (suc n) j read at = read_at ls n j read.1 at

pub can_extract : (p : Parts) (k : ℕ) (i : Img) (own : List Location) → IsVetted p → slice_get p.images k ≡ Some i → own ≡ slice_index_or p.free k [] → CanExtract i own
can_extract p k i own vetted got own_is =
    let here : slice_get (images_of p.view) k ≡ Some i = sym (ap (λ (is : List Img). slice_get is k) vetted.images_are) ∙ got in
    let none = all_none p.view vetted.none in
    let words : own ≡ free_words (data_start p.view) p.view.words (images_of p.view) k i = own_is ∙ own_words p k i vetted got in
    let long : length (linkedit_of i own) ≡ length (linkedit_of i (free_words (data_start p.view) p.view.words (images_of p.view) k i)) = ap (λ (ls : List Location). length (linkedit_of i ls)) words in
    record {
      read = read_at (images_of p.view) k i (recursion_from_All IsRead (images_of p.view) (images_read p.view none.images)) here;
      written = subst (λ (ls : List Location). CanBeWritten i ls) (sym own_is) (vetted.writable k i got);
      linkedit = omega (arith, long, linkedit_small p.view k i none here);
      bodies = bodies_placed p.view k i vetted.view (clean p.view none.images) here;
    }

pub file_is : (p : Parts) (k : ℕ) (i : Img) (own : List Location) (file : List ℕ) → IsVetted p → slice_get p.images k ≡ Some i → own ≡ slice_index_or p.free k [] → file ≡ file_of k i own → file ≡ extract_of p.view k
unfolding extract_of
file_is p k i own file vetted got own_is is =
    let here : slice_get (images_of p.view) k ≡ Some i = sym (ap (λ (is : List Img). slice_get is k) vetted.images_are) ∙ got in
    is ∙ (ap (λ (ls : List Location). file_of k i ls) (own_is ∙ own_words p k i vetted got) ∙ sym (ap (λ (o : Option Img). file_in p.view k o) here))

-- the words of image k among the lists that are held
pub own_list : (free : List (Vec Location Global)) (k : ℕ) (own : Vec Location Global) → k < length free → own ≡ get_or free k own → own.items ≡ slice_index_or (lists free) k []
own_list free k own lt is = ap (λ (v : Vec Location Global). v.items) is ∙ sym (lists_at free k own lt)

pub all_files : (p : Parts) (k : ℕ) (i : Img) (own : List Location) {A : Type 0} (r : Result (Vec ℕ Global) A) → IsVetted p → slice_get p.images k ≡ Some i → own ≡ slice_index_or p.free k []
    → IfOk r (λ (v : Vec ℕ Global). v.items ≡ file_of k i own) → IfOk r (λ (v : Vec ℕ Global). v.items ≡ extract_of p.view k)
all_files p k i own (Ok v) vetted got own_is is = file_is p k i own v.items vetted got own_is is
all_files p k i own (Err e) vetted got own_is is = tt
