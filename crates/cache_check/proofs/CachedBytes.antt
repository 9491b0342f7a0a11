-- The segments of a cache's images: where they stand in the cache, and the bytes that they have at slide 0.
use Rattle.std.proofs.Common.{◌≡◌, ◌≤◌, ◌<◌, ℕ, ◌+◌, ◌-◌, Bool, true, false, not, ◌&&◌, ◌||◌, nat_eq, nat_le, Option, Some, None, List, length, map, take, drop, get_or, refl, sym, ap, ◌∙◌, subst, arith, inl, inr, length-drop}
use Rattle.std.specs.Prelude.{slice_get, option_map, position}
use Rattle.std.specs.List.{list_any, range_with_len}
use Rattle.std.proofs.lemmas.Bool.{and_parts, or_cases, eqb-true, leb-true, false≢true}
use Rattle.std.proofs.lemmas.List.{get_or-take, get_or-drop, length-take-le, length-map}
use Rattle.std.proofs.lemmas.List.FromFn.{get_or-range_with_len, length-range_with_len}
use Rattle.std.proofs.lemmas.Option.{same_Some, slice_get-map, slice_get-get_or, slice_get_within}
use Rattle.dsc_base.specs.Region.{region_start}
use Rattle.dsc_base.specs.declared.fault.Finding.{Finding}
use Rattle.dsc_base.specs.declared.finding_kind.FindingKind.TheVariants.{ImageBroken, SegmentOutside}
use Rattle.macho_image.specs.Records.{Seg, Img, SegmentLoad}
use Rattle.macho_image.specs.declared.form.Form.TheVariants.{Cached}
use Rattle.macho_image.specs.Macho.{header_in, image_from, segment_of, segment_loads, loads_of}
use Rattle.macho_image.specs.Rules.{is_linkedit_segment}
use Rattle.macho_image.specs.Breaks.{IsSound, image_break}
use Rattle.macho_image.proofs.Unbroken.{image_sound}
use Rattle.export_trie.specs.Order.{trie_break}
use Rattle.cache_header.specs.declared.head.Mapping.{Mapping}
use Rattle.cache_header.specs.Findings.{finding}
use Rattle.cache_header.specs.Records.{Entry, Head}
use Rattle.cache_header.specs.Reading.{head_read, image_count}
use Rattle.load_model.specs.Mapped.{three_mappings, flat, cached_image}
use Rattle.load_model.proofs.WordCases.{IsOf, of_map}
use Rattle.load_model.proofs.RuledWords.{position_none}
use Rattle.cache_check.specs.Shape.{are_three, mapping_finding, place_finding, shape_finding}
use Rattle.cache_check.specs.Images.{header_place, image_in, images_of, each_of, is_within, is_placed, is_misplaced, shares, segments_of, broken_finding, name_finding, segment_finding, images_finding}
use Rattle.cache_check.specs.Views.{View, view_of}
use Rattle.cache_check.proofs.CachedLaws.{neither, no_rule, cached_are, view_images}
use Rattle.cache_check.proofs.ReadableLaws.{AreBytes, taken, dropped}
use Rattle.cache_check.proofs.ShapeLaws.{AreThree, three_are, first_none, whole_tests}
use Rattle.cache_check.proofs.SteadyLaws.{flat_bytes}
use Rattle.cache_check.proofs.TrieLaws.{each_none, view_tries}
use Rattle.cache_check.proofs.ViewLaws.{IsReadable, length-flat}

-- ---- where a segment that is placed stands

record IsPlacedIn (size : ℕ) (s : Seg) : Type 0 where
  low : region_start ≤ s.vmaddr
  high : s.vmaddr + s.vmsize ≤ region_start + size
  file : s.fileoff ≡ s.vmaddr - region_start

within_is : (s : Seg) (m : Mapping) (size : ℕ) → is_within s m ≡ true → m.address ≡ region_start + m.file → m.file + m.size ≤ size → IsPlacedIn size s
within_is s m size is at room =
    let one = and_parts (nat_eq m.init_prot s.initprot) (nat_le m.address s.vmaddr && (nat_le (s.vmaddr + s.vmsize) (m.address + m.size) && nat_eq s.fileoff (m.file + (s.vmaddr - m.address)))) is in
    let two = and_parts (nat_le m.address s.vmaddr) (nat_le (s.vmaddr + s.vmsize) (m.address + m.size) && nat_eq s.fileoff (m.file + (s.vmaddr - m.address))) one.1 in
    let three = and_parts (nat_le (s.vmaddr + s.vmsize) (m.address + m.size)) (nat_eq s.fileoff (m.file + (s.vmaddr - m.address))) two.1 in
    let above : m.address ≤ s.vmaddr = leb-true m.address s.vmaddr two.0 in
    let below : s.vmaddr + s.vmsize ≤ m.address + m.size = leb-true (s.vmaddr + s.vmsize) (m.address + m.size) three.0 in
    let file : s.fileoff ≡ m.file + (s.vmaddr - m.address) = eqb-true s.fileoff (m.file + (s.vmaddr - m.address)) three.1 in
    record { low = omega (arith, above, at); high = omega (arith, below, at, room); file = omega (arith, file, at, above) }

placed_in : (size : ℕ) (mappings : List Mapping) (s : Seg) → are_three size mappings ≡ true → is_placed mappings s ≡ true → IsPlacedIn size s × (s.filesize ≡ s.vmsize)
unfolding is_placed
placed_in size mappings s mapped placed =
    let three : AreThree size mappings = three_are size mappings mapped in
    let sides = and_parts (list_any (is_within s) mappings) (nat_eq s.filesize s.vmsize) placed in
    let a : ℕ = three.text in
    let b : ℕ = three.writable in
    let c : ℕ = three.linkedit in
    let one : Mapping = record { address = region_start; size = a; file = 0; max_prot = 5; init_prot = 5 } in
    let two : Mapping = record { address = region_start + a; size = b; file = a; max_prot = 3; init_prot = 3 } in
    let last : Mapping = record { address = region_start + (a + b); size = c; file = a + b; max_prot = 1; init_prot = 1 } in
    let there : list_any (is_within s) (three_mappings three.text three.writable three.linkedit) ≡ true = subst (λ (ms : List Mapping). list_any (is_within s) ms ≡ true) three.are sides.0 in (
      elim (or_cases (is_within s one) (is_within s two || (is_within s last || false)) there) [
        | inl first ↦ within_is s one size first (omega arith) (omega (arith, three.long))
        | inr later ↦ elim (or_cases (is_within s two) (is_within s last || false) later) [
          | inl second ↦ within_is s two size second (omega arith) (omega (arith, three.long))
          | inr end ↦ elim (or_cases (is_within s last) false end) [
            | inl third ↦ within_is s last size third (omega arith) (omega (arith, three.long))
            | inr none ↦ absurd (false≢true none)
          ]
        ]
      ],
      eqb-true s.filesize s.vmsize sides.1,
    )

-- ---- its bytes

filed : (b : List ℕ) (l : SegmentLoad) → (segment_of b l).bytes ≡ take (segment_of b l).filesize (drop (segment_of b l).fileoff b)
unfolding segment_of
filed b l = refl

segment_bytes : (b header : List ℕ) (g : ℕ) (t : Seg) → slice_get (image_from b header).segments g ≡ Some t → t.bytes ≡ take t.filesize (drop t.fileoff b)
unfolding image_from
segment_bytes b header g t got =
    let from : IsOf (segment_of b) (segment_loads (loads_of header)) t = of_map (segment_of b) (segment_loads (loads_of header)) t (record { number = g; found = got }) in
    subst (λ (x : Seg). x.bytes ≡ take x.filesize (drop x.fileoff b)) (sym from.is) (filed b from.from)

-- a segment stands in the cache, with the bytes that the cache has there
pub record IsHome (cache : List ℕ) (t : Seg) : Type 0 where
  pub low : region_start ≤ t.vmaddr
  pub high : t.vmaddr + t.vmsize ≤ region_start + length cache
  pub byte : (a : ℕ) → t.vmaddr ≤ a → a < t.vmaddr + t.vmsize → get_or t.bytes (a - t.vmaddr) 0 ≡ get_or (flat cache) (a - region_start) 0
  pub long : length t.bytes ≡ t.vmsize
  pub bytes : AreBytes t.bytes

home_of : (cache header : List ℕ) (mappings : List Mapping) (g : ℕ) (t : Seg) → length (flat cache) ≡ length cache → AreBytes (flat cache) → are_three (length cache) mappings ≡ true
    → slice_get (image_from (flat cache) header).segments g ≡ Some t → is_placed mappings t ≡ true → IsHome cache t
home_of cache header mappings g t same bytes mapped got placed =
    let stands = placed_in (length cache) mappings t mapped placed in
    let at : IsPlacedIn (length cache) t = stands.0 in
    let filled : t.filesize ≡ t.vmsize = stands.1 in
    let own : t.bytes ≡ take t.filesize (drop t.fileoff (flat cache)) = segment_bytes (flat cache) header g t got in
    record {
      low = at.low;
      high = at.high;
      byte = λ a from to.
          let inside : a - t.vmaddr < t.filesize = omega (arith, from, to, filled) in
          let place : t.fileoff + (a - t.vmaddr) ≡ a - region_start = omega (arith, at.file, at.low, from) in
          ap (λ (l : List ℕ). get_or l (a - t.vmaddr) 0) own
          ∙ (get_or-take t.filesize (drop t.fileoff (flat cache)) (a - t.vmaddr) 0 inside
          ∙ (get_or-drop t.fileoff (flat cache) (a - t.vmaddr) 0 ∙ ap (λ (n : ℕ). get_or (flat cache) n 0) place));
      long = ap (λ (l : List ℕ). length l) own
          ∙ (length-take-le t.filesize (drop t.fileoff (flat cache)) (omega (arith, length-drop t.fileoff (flat cache), same, at.file, at.low, at.high, filled)) ∙ filled);
      bytes = subst AreBytes (sym own) (taken t.filesize (drop t.fileoff (flat cache)) (dropped t.fileoff (flat cache) bytes));
    }

-- ---- the images of a cache of which nothing is found

pub record IsHeld (cache : List ℕ) (k : ℕ) (image : Img) : Type 0 where
  pub found : cached_image cache k ≡ Some image
  pub sound : IsSound image
  pub homes : (g : ℕ) (t : Seg) → slice_get image.segments g ≡ Some t → is_linkedit_segment t ≡ false → IsHome cache t
  pub trie : trie_break image.streams.exports ≡ None

well_placed : (mappings : List Mapping) (earlier : List Seg) (t : Seg) → is_misplaced mappings earlier t ≡ false → is_linkedit_segment t ≡ false → is_placed mappings t ≡ true
unfolding is_misplaced
well_placed mappings earlier t none other = at (is_linkedit_segment t) (is_placed mappings t) (list_any (shares t) earlier) other none
  where
    at : (l p b : Bool) → l ≡ false → not l && (not p || b) ≡ false → p ≡ true
    at true p b other none = absurd (cc)
    at false true b other none = refl
    at false false b other none = absurd (cc)

none_misplaced : (mappings : List Mapping) (images : List Img) (k : ℕ) (i : Img) → segment_finding mappings images k i ≡ None → position (is_misplaced mappings (segments_of (take k images))) i.segments ≡ None
unfolding segment_finding
none_misplaced mappings images k i none = at (position (is_misplaced mappings (segments_of (take k images))) i.segments) none
  where
    at : (o : Option ℕ) → option_map (λ (g : ℕ). finding SegmentOutside k g) o ≡ None → o ≡ None
    at None none = refl
    at (Some g) none = absurd (cc)

image_unbroken : (bytes : List ℕ) (k : ℕ) (e : Entry) → broken_finding bytes k e ≡ None → image_break Cached bytes (header_place e) ≡ None
unfolding broken_finding
image_unbroken bytes k e none = no_rule ImageBroken k (image_break Cached bytes (header_place e)) none

sound_image : (bytes : List ℕ) (k : ℕ) (e : Entry) → broken_finding bytes k e ≡ None → IsSound (image_in bytes e)
sound_image bytes k e none = image_sound Cached bytes (header_place e) (λ is. absurd (cc)) (image_unbroken bytes k e none)

each_at : {X : Type 0} (finds : ℕ → X → Option Finding) (k : ℕ) (xs : List X) (x : X) → each_of finds 0 xs ≡ None → slice_get xs k ≡ Some x → finds k x ≡ None
each_at finds k xs x none got = let plain : 0 + k ≡ k = omega arith in subst (λ (n : ℕ). finds n x ≡ None) plain (each_none finds 0 k xs x none got)

-- an image by its entry
abbrev EntryOf : View → ℕ → Img → Type 0
EntryOf v k image = (e : Entry) × (slice_get v.head.images k ≡ Some e) × (image ≡ image_in v.flat e)

entry_of : (v : View) (k : ℕ) (image : Img) → slice_get (images_of v) k ≡ Some image → EntryOf v k image
entry_of v k image got = at (slice_get v.head.images k) refl (sym (slice_get-map (image_in v.flat) v.head.images k) ∙ got)
  where
    at : (o : Option Entry) → slice_get v.head.images k ≡ o → option_map (image_in v.flat) o ≡ Some image → EntryOf v k image
    at None is same = absurd (cc)
    at (Some e) is same = (e, is, sym (same_Some (image_in v.flat e) image same))

found_at : (cache : List ℕ) (k : ℕ) (image : Img) → map Some (images_of (view_of cache)) ≡ map (cached_image cache) (range_with_len 0 (image_count cache)) → slice_get (images_of (view_of cache)) k ≡ Some image → cached_image cache k ≡ Some image
found_at cache k image are got =
    let all : List ℕ = range_with_len 0 (image_count cache) in
    let here : slice_get (map (cached_image cache) all) k ≡ Some (Some image) =
    sym (ap (λ (l : List (Option Img)). slice_get l k) are) ∙ (slice_get-map Some (images_of (view_of cache)) k ∙ ap (λ (o : Option Img). option_map Some o) got) in
    let within : k < length (map (cached_image cache) all) = slice_get_within (map (cached_image cache) all) k (Some image) here in
    let inside : k < length all = omega (arith, within, length-map all (cached_image cache)) in
    let number : slice_get all k ≡ Some k =
    slice_get-get_or all k 0 inside ∙ ap (λ (n : ℕ). Some n) (get_or-range_with_len 0 (image_count cache) k 0 (omega (arith, inside, length-range_with_len 0 (image_count cache))) ∙ omega arith) in
    same_Some (cached_image cache k) (Some image) (sym (slice_get-map (cached_image cache) all k ∙ ap (λ (o : Option ℕ). option_map (cached_image cache) o) number) ∙ here)

view_head : (cache : List ℕ) → (view_of cache).head ≡ head_read cache
unfolding view_of
view_head cache = refl

view_flat : (cache : List ℕ) → (view_of cache).flat ≡ flat cache
unfolding view_of
view_flat cache = refl

mapping_none : (cache : List ℕ) → IsReadable cache → mapping_finding (length cache) (head_read cache) ≡ None
unfolding shape_finding
mapping_none cache readable = (first_none (mapping_finding (length cache) (head_read cache)) (place_finding (head_read cache)) readable.shape).0

pub held : (cache : List ℕ) → AreBytes cache → IsReadable cache → images_finding (view_of cache) ≡ None → (k : ℕ) (image : Img) → slice_get (images_of (view_of cache)) k ≡ Some image → IsHeld cache k image
unfolding images_finding
held cache bytes readable none k image got =
    let v : View = view_of cache in
    let one = neither (each_of (broken_finding v.flat) 0 v.head.images) _ none in
    let two = neither (each_of (name_finding v.flat) 0 v.head.images) _ one.1 in
    let three = neither (each_of (segment_finding v.head.mappings (images_of v)) 0 (images_of v)) _ two.1 in
    let entry = entry_of v k image got in
    let unbroken : broken_finding v.flat k entry.0 ≡ None = each_at (broken_finding v.flat) k v.head.images entry.0 one.0 entry.1 in
    let sound : IsSound image = subst IsSound (sym entry.2) (sound_image v.flat k entry.0 unbroken) in
    let placed : position (is_misplaced v.head.mappings (segments_of (take k (images_of v)))) image.segments ≡ None =
    none_misplaced v.head.mappings (images_of v) k image (each_at (segment_finding v.head.mappings (images_of v)) k (images_of v) image three.0 got) in
    let mapped : are_three (length cache) v.head.mappings ≡ true = ap (λ (h : Head). are_three (length cache) h.mappings) (view_head cache) ∙ (whole_tests (length cache) (head_read cache) (mapping_none cache readable)).1 in
    record {
      found = found_at cache k image (cached_are v (images_of v) refl one.0 ∙ view_images cache) got;
      sound = sound;
      homes = λ g t found other.
          let own : image ≡ image_from (flat cache) (header_in (flat cache) (header_place entry.0)) = entry.2 ∙ ap (λ (b : List ℕ). image_in b entry.0) (view_flat cache) in
          home_of cache (header_in (flat cache) (header_place entry.0)) v.head.mappings g t (length-flat cache readable) (flat_bytes cache readable bytes) mapped
          (ap (λ (i : Img). slice_get i.segments g) (sym own) ∙ found)
          (well_placed v.head.mappings (segments_of (take k (images_of v))) t (position_none (is_misplaced v.head.mappings (segments_of (take k (images_of v)))) image.segments t placed (record { number = g; found = found })) other);
      trie = view_tries v none k image got;
    }
