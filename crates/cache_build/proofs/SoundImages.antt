-- The images of the cache of a set that breaks no rule: nothing is wrong with them.
use Rattle.std.proofs.Common.{◌≡◌, ◌≤◌, ◌<◌, ◌⊎◌, ℕ, zero, suc, ◌+◌, ◌-◌, min, max, Bool, true, false, not, ◌&&◌, ◌||◌, Option, Some, None, List, [], ◌∷◌, ◌++◌, take, length, map, get_or, refl, sym, ap, ap₂, ◌∙◌, subst, arith, inl, inr, if◌then◌else◌, nat_lt, nat_eq}
use Rattle.std.specs.Prelude.{option_map, slice_get, position}
use Rattle.std.specs.List.{flat_map, list_any, range_with_len}
use Rattle.std.specs.Option.{option_or}
use Rattle.std.proofs.lemmas.Bool.{cases_Bool, cond-true, eq-eqb, le-leb}
use Rattle.std.proofs.lemmas.Bool.Decides.{nat_tests}
use Rattle.std.proofs.lemmas.List.{length-map, length-take-le, get_or-map, get_or-take}
use Rattle.std.proofs.lemmas.List.FromFn.{length-range_with_len, get_or-range_with_len}
use Rattle.std.proofs.lemmas.Option.{same_Some, slice_get-map, slice_get_within, slice_get_read, get_or_from_slice_get}
use Rattle.dsc_base.specs.Refusals.{first_break, broken, in_image}
use Rattle.dsc_base.specs.RuleNames.{number_of}
use Rattle.dsc_base.specs.declared.rule.Rule.TheVariants.{DuplicateName, RebaseBadUleb}
use Rattle.dsc_base.specs.Region.{region_start, paged}
use Rattle.dsc_base.specs.declared.fault.Finding.{Finding}
use Rattle.dsc_base.specs.declared.fault.Site.{Site}
use Rattle.dsc_base.specs.declared.finding_kind.FindingKind.TheVariants.{ImageBroken, NameDiffers, NameTwice, SegmentOutside, StreamBroken}
use Rattle.macho_image.specs.Records.{Seg, Img}
use Rattle.macho_image.specs.Breaks.{IsSound, image_break}
use Rattle.macho_image.specs.Macho.{image_of, commands_of, command_where, is_dyld_info}
use Rattle.macho_image.specs.Places.{above}
use Rattle.macho_image.specs.Rules.{same_bytes, is_linkedit_segment, is_linkedit_name}
use Rattle.macho_image.specs.declared.form.Form.TheVariants.{Cached}
use Rattle.macho_image.specs.declared.place.Moved.{Moved}
use Rattle.macho_image.proofs.Unbroken.{broken_none, image_at-some, or_none}
use Rattle.macho_edit.specs.MovedImage.{seated, seated_all, named_by, moved_image}
use Rattle.macho_edit.specs.Placed.{places_of}
use Rattle.macho_edit.specs.Segments.{place_for, linkedit_place, own_place}
use Rattle.macho_edit.specs.declared.segment.SegmentPlace.{SegmentPlace}
use Rattle.macho_edit.specs.declared.spots.LinkSpots.{LinkSpots}
use Rattle.macho_edit.proofs.PlaceLaws.{place_other, place_linkedit}
use Rattle.cache_header.specs.declared.head.Mapping.{Mapping as Mapped}
use Rattle.cache_header.specs.Findings.{finding}
use Rattle.cache_header.specs.Reading.{head_read, images_of, image_at, image_count, image_address, mappings_of}
use Rattle.cache_header.specs.Records.{Entry}
use Rattle.cache_layout.specs.declared.mapping.Mapping.{Mapping}
use Rattle.cache_layout.specs.declared.mapping.Mapping.TheVariants.{Text, Writable, Fixed}
use Rattle.cache_layout.specs.Places.{mapping_of}
use Rattle.cache_layout.specs.Layouts.{Laid, layout_of}
use Rattle.cache_layout.specs.Apart.{IsSegment, IsWithin, AreInTurn, move_at, range_in}
use Rattle.cache_layout.proofs.PlaceLaws.{are_within, are_apart}
use Rattle.cache_layout.proofs.RoomLaws.{paged-covers}
use Rattle.cache_layout.proofs.SoundLaws.{sound_protection}
use Rattle.dep_closure.specs.Breaks.{image_break as link_image_break, break_from, link_break}
use Rattle.dep_closure.specs.Dependencies.{image_named}
use Rattle.dep_closure.proofs.PositionLaws.{position-cons}
use Rattle.bind_ops.specs.Weak.{weak_break}
use Rattle.load_model.specs.Mapped.{flat, cached_image, three_mappings}
use Rattle.nlist_table.proofs.ListLaws.{none_pass}
use Rattle.prebind.specs.Sets.{image_set}
use Rattle.prebind.proofs.ImageLaws.{has_at}
use Rattle.cache_check.specs.Images.{each_of, rule_finding, header_place, image_in, broken_finding, name_finding, twice_finding, is_within, is_placed, shares, is_misplaced, segments_of, segment_finding, linkedit_break, stream_finding, images_finding}
use Rattle.cache_check.specs.Views.{view_of}
use Rattle.cache_build.specs.Cache.{cache_of}
use Rattle.cache_build.proofs.BuildableSets.{set_slide, set_start, set_span, slid_of}
use Rattle.cache_build.proofs.CacheFacts.{moved_in}
use Rattle.cache_build.proofs.CacheHeads.{IsFramed, framed}
use Rattle.cache_build.proofs.CachedHeaders.{image_found}
use Rattle.cache_build.proofs.KeptStreams.{keeps_binds}
use Rattle.cache_build.proofs.KeptTables.{tables_kept}
use Rattle.cache_build.proofs.MappedWords.{IsCachedSet}
use Rattle.cache_build.proofs.MovedExports.{trie_accepted}
use Rattle.cache_build.proofs.MovedSpots.{own_moves, own_spots, own_spotted}
use Rattle.cache_build.proofs.PlacedImages.{IsHeld, held_at, there_at, move_is, start_behind}
use Rattle.cache_build.proofs.ToldCaches.{rest_of, mappings_is}

-- ---- lists of which each item passes

none_each : {X : Type 0} (finds : ℕ → X → Option Finding) (n : ℕ) (xs : List X) → ((k : ℕ) (x : X) → slice_get xs k ≡ Some x → finds (n + k) x ≡ None) → each_of finds n xs ≡ None
unfolding each_of
none_each finds n [] none = refl
none_each {X} finds n (x ∷ xs) none =
    let here : finds n x ≡ None = ap (λ (m : ℕ). finds m x) (let e : n ≡ n + 0 = omega arith in e) ∙ none 0 x refl in
    let rest : each_of finds (n + 1) xs ≡ None = none_each finds (n + 1) xs (λ k y found. ap (λ (m : ℕ). finds m y) (let e : (n + 1) + k ≡ n + suc k = omega arith in e) ∙ none (suc k) y found) in
    (λ i. option_or (here i) (rest i))

none_at : {X : Type 0} (p : X → Bool) (xs : List X) → ((k : ℕ) (x : X) → slice_get xs k ≡ Some x → p x ≡ false) → position p xs ≡ None
none_at p [] none = refl
none_at p (x ∷ xs) none =
    let here = none 0 x refl in
    let rest = none_at p xs (λ k y found. none (suc k) y found) in
    position-cons p x xs ∙ (λ i. if here i then Some 0 else option_map (λ (k : ℕ). k + 1) (rest i))

any_behind : {X : Type 0} (p : X → Bool) (xs ys : List X) → ((k : ℕ) (x : X) → slice_get xs k ≡ Some x → p x ≡ false) → list_any p ys ≡ false → list_any p (xs ++ ys) ≡ false
any_behind p [] ys none rest = rest
any_behind p (x ∷ xs) ys none rest = ap₂ (λ (a b : Bool). a || b) (none 0 x refl) (any_behind p xs ys (λ k y found. none (suc k) y found) rest)

any_flat : {X Y : Type 0} (p : Y → Bool) (f : X → List Y) (xs : List X) → ((j : ℕ) (x : X) → slice_get xs j ≡ Some x → (h : ℕ) (y : Y) → slice_get (f x) h ≡ Some y → p y ≡ false) → list_any p (flat_map f xs) ≡ false
any_flat p f [] none = refl
any_flat p f (x ∷ xs) none = any_behind p (f x) (flat_map f xs) (λ h y found. none 0 x refl h y found) (any_flat p f xs (λ j y at. none (suc j) y at))

taken : {X : Type 0} (xs : List X) (n j : ℕ) (x : X) → slice_get (take n xs) j ≡ Some x → (j < n) × (slice_get xs j ≡ Some x)
taken [] zero j x found = absurd (cc)
taken [] (suc n) j x found = absurd (cc)
taken (y ∷ ys) zero j x found = absurd (cc)
taken (y ∷ ys) (suc n) zero x found = (omega arith, found)
taken (y ∷ ys) (suc n) (suc j) x found = let rest = taken ys n j x found in (omega (arith, rest.0), rest.1)

-- ---- where the segments of a cached image are

-- a segment of the image with its segments moved, by that of the file
record IsSeated (b : List ℕ) (spots : LinkSpots) (moves : List Moved) (ss : List Seg) (g : ℕ) (t : Seg) : Type 0 where
  own : Seg
  own_is : slice_get ss g ≡ Some own
  move : Moved
  move_is : slice_get moves g ≡ Some move
  is : t ≡ seated b (place_for spots move own.name own.vmsize) own

seated_at : (b : List ℕ) (spots : LinkSpots) (moves : List Moved) (ss : List Seg) (g : ℕ) (t : Seg) → slice_get (seated_all b (places_of spots moves ss) ss) g ≡ Some t → IsSeated b spots moves ss g t
seated_at b spots [] ss g t found = absurd (cc)
seated_at b spots (n ∷ ns) [] g t found = absurd (cc)
seated_at b spots (n ∷ ns) (s ∷ ss) zero t found = record { own = s; own_is = refl; move = n; move_is = refl; is = sym (same_Some (seated b (place_for spots n s.name s.vmsize) s) t found) }
seated_at b spots (n ∷ ns) (s ∷ ss) (suc g) t found =
    let rest = seated_at b spots ns ss g t found in
    record { own = rest.own; own_is = rest.own_is; move = rest.move; move_is = rest.move_is; is = rest.is }

moved_seated : (image : Img) (moves : List Moved) (spots : LinkSpots) (b : List ℕ) (g : ℕ) (t : Seg) → slice_get (moved_image image moves spots b).segments g ≡ Some t → IsSeated b spots moves image.segments g t
unfolding moved_image
moved_seated image moves spots b g t found = seated_at b spots moves image.segments g t found

-- one place is behind another one
apart_none : (a b c d : ℕ) → (a + b ≤ c) ⊎ (c + d ≤ a) → nat_lt (max a c) (min (a + b) (c + d)) ≡ false
apart_none a b c d (inl before) = let low : min (a + b) (c + d) ≤ max a c = omega (arith, before) in grind (arith, nat_tests)
apart_none a b c d (inr behind) = let low : min (a + b) (c + d) ≤ max a c = omega (arith, behind) in grind (arith, nat_tests)

module _ (bits : ℕ) (is : List Img) (set : IsCachedSet bits is) where
  -- where a segment of image k stands: it isn't `__LINKEDIT`, and goes where the layout puts it
  record Stands (k g : ℕ) (t : Seg) : Type 0 where
    file : Seg
    own : Img
    segment : IsSegment is k g own file
    owned : is_linkedit_segment file ≡ false
    address : t.vmaddr ≡ region_start + (move_at (layout_of is) k g).file
    size : t.vmsize ≡ file.vmsize
    fileoff : t.fileoff ≡ (move_at (layout_of is) k g).file
    filesize : t.filesize ≡ t.vmsize
    protection : t.initprot ≡ file.initprot
    held : (move_at (layout_of is) k g).file + paged file.vmsize ≤ (layout_of is).fixed.at + (layout_of is).fixed.len

  -- or it is, and goes behind all others
  record StandsLast (t : Seg) : Type 0 where
    named : is_linkedit_segment t ≡ true
    address : t.vmaddr ≡ region_start + set_start bits is

  seat : (k g : ℕ) (i : Img) (t : Seg) → k < length is → i ≡ get_or is k i → slice_get (moved_in bits is k i).segments g ≡ Some t → StandsLast t ⊎ ((is_linkedit_segment t ≡ false) × Stands k g t)
  seat k g i t lt at found =
      let b : List ℕ = slid_of bits is 0 in
      let s = moved_seated i (own_moves is k) (own_spots bits is k) (slid_of bits is 0) g t found in
      let name : t.name ≡ s.own.name = ap (λ (x : Seg). x.name) s.is in
      elim (cases_Bool (is_linkedit_name s.own.name)) [
        | inl is_linkedit ↦
            let place : place_for (own_spots bits is k) s.move s.own.name s.own.vmsize ≡ linkedit_place (own_spots bits is k) = place_linkedit (own_spots bits is k) s.move s.own.name s.own.vmsize is_linkedit in
            inl (record {
              named = ap (λ (n : List ℕ). is_linkedit_name n) name ∙ is_linkedit;
              address = ap (λ (x : Seg). x.vmaddr) s.is ∙ (ap (λ (p : SegmentPlace). p.address) place ∙ (own_spotted bits is k i lt at).address);
            })
        | inr other ↦
            let inside : g < length i.segments = slice_get_within i.segments g s.own s.own_is in
            let own : get_or i.segments g s.own ≡ s.own = get_or_from_slice_get i.segments g s.own s.own s.own_is in
            let there : IsSegment is k g i s.own = subst (λ (x : Seg). IsSegment is k g i x) own (there_at is k g i s.own lt at inside) in
            let place : place_for (own_spots bits is k) s.move s.own.name s.own.vmsize ≡ own_place s.move s.own.vmsize = place_other (own_spots bits is k) s.move s.own.name s.own.vmsize other in
            let goes : move_at (layout_of is) k g ≡ s.move = move_is is k g i s.move lt at inside ∙ get_or_from_slice_get (own_moves is k) g s.move s.move s.move_is in
            let held : IsHeld (layout_of is) (paged s.own.vmsize) (move_at (layout_of is) k g) = held_at is set.ready.accepted.layout k g i s.own there other in
            let address : s.move.address ≡ (move_at (layout_of is) k g).address = ap (λ (m : Moved). m.address) (sym goes) in
            let file : s.move.file ≡ (move_at (layout_of is) k g).file = ap (λ (m : Moved). m.file) (sym goes) in
            inr (
              ap (λ (n : List ℕ). is_linkedit_name n) name ∙ other,
              record {
                file = s.own;
                own = i;
                segment = there;
                owned = other;
                address = ap (λ (x : Seg). x.vmaddr) s.is ∙ (ap (λ (p : SegmentPlace). p.address) place ∙ (address ∙ held.address));
                size = ap (λ (x : Seg). x.vmsize) s.is ∙ ap (λ (p : SegmentPlace). p.vmsize) place;
                fileoff = ap (λ (x : Seg). x.fileoff) s.is ∙ (ap (λ (p : SegmentPlace). p.file) place ∙ file);
                filesize = (ap (λ (x : Seg). x.filesize) s.is ∙ ap (λ (p : SegmentPlace). p.filesize) place) ∙ sym (ap (λ (x : Seg). x.vmsize) s.is ∙ ap (λ (p : SegmentPlace). p.vmsize) place);
                protection = ap (λ (x : Seg). x.initprot) s.is;
                held = held.before;
              },
            )
      ]

  -- a segment of an image shares no address with one of another
  apart_from : (k g j h : ℕ) (t u : Seg) → (j ≡ k → ⊥) → Stands k g t → StandsLast u ⊎ ((is_linkedit_segment u ≡ false) × Stands j h u) → shares t u ≡ false
  apart_from k g j h t u other here (inl last) =
      let behind = start_behind (layout_of is) (length (set_slide bits is)) in
      let room : here.file.vmsize ≤ paged here.file.vmsize = paged-covers here.file.vmsize in
      apart_none t.vmaddr t.vmsize u.vmaddr u.vmsize (inl (omega (arith, here.address, here.size, here.held, room, last.address, behind.0)))
  apart_from k g j h t u other here (inr there) =
      let two = are_apart is k g here.own here.file j h there.1.own there.1.file here.segment there.1.segment here.owned there.1.owned (λ same _. other (sym same)) in
      let room : here.file.vmsize ≤ paged here.file.vmsize = paged-covers here.file.vmsize in
      let room' : there.1.file.vmsize ≤ paged there.1.file.vmsize = paged-covers there.1.file.vmsize in
      apart_none t.vmaddr t.vmsize u.vmaddr u.vmsize (elim two [
        | inl before ↦ inl (omega (arith, before, here.address, here.size, there.1.address, room))
        | inr behind ↦ inr (omega (arith, behind, here.address, there.1.address, there.1.size, room'))
      ])

  -- ---- each is in the mapping of its protection

  within_true : (t : Seg) (m : Mapped) → m.init_prot ≡ t.initprot → m.address ≤ t.vmaddr → t.vmaddr + t.vmsize ≤ m.address + m.size → t.fileoff ≡ m.file + (t.vmaddr - m.address) → is_within t m ≡ true
  within_true t m protection from to offset =
      let a = eq-eqb m.init_prot t.initprot protection in
      let b = le-leb m.address t.vmaddr from in
      let c = le-leb (t.vmaddr + t.vmsize) (m.address + m.size) to in
      let d = eq-eqb t.fileoff (m.file + (t.vmaddr - m.address)) offset in
      (λ i. a i && (b i && (c i && d i)))

  first_of : (text writable linkedit : Mapped) (t : Seg) → is_within t text ≡ true → list_any (is_within t) (text ∷ writable ∷ linkedit ∷ []) ≡ true
  first_of text writable linkedit t is = ap (λ (b : Bool). b || (is_within t writable || (is_within t linkedit || false))) is

  second_of : (text writable linkedit : Mapped) (t : Seg) → is_within t writable ≡ true → list_any (is_within t) (text ∷ writable ∷ linkedit ∷ []) ≡ true
  second_of text writable linkedit t is = ap (λ (b : Bool). is_within t text || (b || (is_within t linkedit || false))) is ∙ or_true (is_within t text)
    where
      or_true : (b : Bool) → (b || true) ≡ true
      or_true true = refl
      or_true false = refl

  third_of : (text writable linkedit : Mapped) (t : Seg) → is_within t linkedit ≡ true → list_any (is_within t) (text ∷ writable ∷ linkedit ∷ []) ≡ true
  third_of text writable linkedit t is = ap (λ (b : Bool). is_within t text || (is_within t writable || (b || false))) is ∙ or_true (is_within t text) (is_within t writable)
    where
      or_true : (a b : Bool) → (a || (b || true)) ≡ true
      or_true true b = refl
      or_true false true = refl
      or_true false false = refl

  -- the mapping of a protection
  told : (s : Seg) (m : Mapping) → is_linkedit_segment s ≡ false → mapping_of s ≡ Some m → (s.initprot ≡ 5) ⊎ ((s.initprot ≡ 3) ⊎ (s.initprot ≡ 1)) → ((m ≡ Text) × (s.initprot ≡ 5)) ⊎ (((m ≡ Writable) × (s.initprot ≡ 3)) ⊎ ((m ≡ Fixed) × (s.initprot ≡ 1)))
  unfolding mapping_of
  told s m owned found (inl five) =
      inl (same_Some m Text (sym found ∙ (λ i. if owned i then None else (if nat_eq (five i) 5 then Some Text else (if nat_eq (five i) 3 then Some Writable else Some Fixed)))), five)
  told s m owned found (inr (inl three)) =
      inr (inl (same_Some m Writable (sym found ∙ (λ i. if owned i then None else (if nat_eq (three i) 5 then Some Text else (if nat_eq (three i) 3 then Some Writable else Some Fixed)))), three))
  told s m owned found (inr (inr one)) =
      inr (inr (same_Some m Fixed (sym found ∙ (λ i. if owned i then None else (if nat_eq (one i) 5 then Some Text else (if nat_eq (one i) 3 then Some Writable else Some Fixed)))), one))

  placed : (k g : ℕ) (t : Seg) → Stands k g t → is_placed (mappings_of (cache_of bits is)) t ≡ true
  unfolding is_placed
  placed k g t here =
      let s : Seg = here.file in
      let l : Laid = layout_of is in
      let frame : IsFramed bits is = framed bits is set.ready in
      let turn : AreInTurn is (layout_of is) = frame.turn in
      let sound : IsSound here.own = subst IsSound (sym here.segment.image_is) (set.ready.accepted.sound k here.own here.segment.image_in) in
      let own = are_within is set.ready.accepted.layout k g here.own here.file here.segment here.owned in
      let protection = sound_protection here.own sound g here.file here.segment.segment_in here.segment.segment_is in
      let room : here.file.vmsize ≤ paged here.file.vmsize = paged-covers here.file.vmsize in
      let whole : (layout_of is).fixed.at + (layout_of is).fixed.len ≤ set_span bits is = omega (arith, frame.segments) in
      let are = mappings_is bits is set.ready in
      let size : nat_eq t.filesize t.vmsize ≡ true = eq-eqb t.filesize t.vmsize here.filesize in
      let text : Mapped = record { address = region_start; size = (layout_of is).writable.at; file = 0; max_prot = 5; init_prot = 5 } in
      let writable : Mapped = record { address = region_start + (layout_of is).writable.at; size = (layout_of is).writable.len; file = (layout_of is).writable.at; max_prot = 3; init_prot = 3 } in
      let linkedit : Mapped =
      record { address = region_start + ((layout_of is).writable.at + (layout_of is).writable.len); size = rest_of bits is; file = (layout_of is).writable.at + (layout_of is).writable.len; max_prot = 1; init_prot = 1 } in
      let any : list_any (is_within t) (three_mappings (layout_of is).writable.at (layout_of is).writable.len (rest_of bits is)) ≡ true =
      elim (told here.file own.0 here.owned own.1 protection) [
        | inl five ↦
            let range = subst (λ (m : Mapping). IsWithin (range_in (layout_of is) m) here.file (move_at (layout_of is) k g)) five.0 own.2 in
            first_of text writable linkedit t
            (within_true t text (sym (here.protection ∙ five.1)) (omega (arith, here.address)) (omega (arith, here.address, here.size, range.end, turn.writable, room)) (omega (arith, here.address, here.fileoff)))
        | inr (inl three) ↦
            let range = subst (λ (m : Mapping). IsWithin (range_in (layout_of is) m) here.file (move_at (layout_of is) k g)) three.0 own.2 in
            second_of text writable linkedit t
            (within_true t writable (sym (here.protection ∙ three.1)) (omega (arith, here.address, range.start)) (omega (arith, here.address, here.size, range.end, room)) (omega (arith, here.address, here.fileoff, range.start)))
        | inr (inr one) ↦
            let range = subst (λ (m : Mapping). IsWithin (range_in (layout_of is) m) here.file (move_at (layout_of is) k g)) one.0 own.2 in
            third_of text writable linkedit t
            (within_true t linkedit (sym (here.protection ∙ one.1)) (omega (arith, here.address, range.start, turn.fixed)) (omega (arith, here.address, here.size, range.end, room, turn.fixed, whole)) (omega (arith, here.address, here.fileoff, range.start, turn.fixed)))
      ] in
      (λ i. list_any (is_within t) (are i) && size i) ∙ ap (λ (b : Bool). b && true) any

  -- ---- the images

  entry_is : (k : ℕ) (e : Entry) → slice_get (head_read (cache_of bits is)).images k ≡ Some e → (k < length is) × (e ≡ image_at (cache_of bits is) k)
  unfolding head_read images_of
  entry_is k e found =
      let ns : List ℕ = range_with_len 0 (image_count (cache_of bits is)) in
      let long : length ns ≡ length is = length-range_with_len 0 (image_count (cache_of bits is)) ∙ set.cache.count in
      let inside : k < length (map (image_at (cache_of bits is)) ns) = slice_get_within (map (image_at (cache_of bits is)) ns) k e found in
      let lt : k < length is = omega (arith, inside, length-map ns (image_at (cache_of bits is)), long) in (
        lt,
        sym (get_or_from_slice_get (map (image_at (cache_of bits is)) ns) k e e found)
            ∙ (get_or-map (image_at (cache_of bits is)) ns k k e (omega (arith, lt, long))
            ∙ ap (image_at (cache_of bits is)) (get_or-range_with_len 0 (image_count (cache_of bits is)) k k (omega (arith, lt, set.cache.count)) ∙ (let n : 0 + k ≡ k = omega arith in n))),
      )

  -- the file of an entry, and the image that its header spells
  record HasFile (k : ℕ) (e : Entry) (m : Img) : Type 0 where
    file : Img
    within : k < length is
    file_is : file ≡ get_or is k file
    entry : e ≡ image_at (cache_of bits is) k
    image : m ≡ moved_in bits is k file
    unbroken : image_break Cached (flat (cache_of bits is)) (header_place e) ≡ None

  has_file : (k : ℕ) (e : Entry) → slice_get (head_read (cache_of bits is)).images k ≡ Some e → HasFile k e (image_in (flat (cache_of bits is)) e)
  unfolding cached_image image_at
  has_file k e found =
      let entry = entry_is k e found in
      let there = has_at is k entry.0 in
      let i : Img = there.0 in
      let at : i ≡ get_or is k i = sym (get_or_from_slice_get is k i i there.1) in
      let place : header_place e ≡ above region_start (image_address (cache_of bits is) k) = ap header_place entry.1 in
      let some = image_at-some Cached (flat (cache_of bits is)) (above region_start (image_address (cache_of bits is) k)) (moved_in bits is k i) (image_found bits is set.ready set.edits set.cache k i entry.0 at) in
      record {
        file = i;
        within = entry.0;
        file_is = at;
        entry = entry.1;
        image = ap (λ (h : ℕ). image_of (flat (cache_of bits is)) h) place ∙ sym some.1;
        unbroken = ap (λ (h : ℕ). image_break Cached (flat (cache_of bits is)) h) place ∙ some.0;
      }

  image_has : (k : ℕ) (m : Img) → slice_get (map (image_in (flat (cache_of bits is))) (head_read (cache_of bits is)).images) k ≡ Some m → (e : Entry) × HasFile k e m
  image_has k m found = go (slice_get (head_read (cache_of bits is)).images k) refl
    where
      go : (o : Option Entry) → slice_get (head_read (cache_of bits is)).images k ≡ o → (e : Entry) × HasFile k e m
      go None at = absurd (let no : ◌≡◌ {A = Option Img} None (Some m) = sym (slice_get-map (image_in (flat (cache_of bits is))) (head_read (cache_of bits is)).images k ∙ ap (λ (p : Option Entry). option_map (image_in (flat (cache_of bits is))) p) at) ∙ found in cc)
      go (Some e) at =
          let same : image_in (flat (cache_of bits is)) e ≡ m =
          same_Some (image_in (flat (cache_of bits is)) e) m (sym (slice_get-map (image_in (flat (cache_of bits is))) (head_read (cache_of bits is)).images k ∙ ap (λ (p : Option Entry). option_map (image_in (flat (cache_of bits is))) p) at) ∙ found) in
          (e, subst (λ (j : Img). HasFile k e j) same (has_file k e at))

  -- ---- their names

  same_self : (xs : List ℕ) → same_bytes xs xs ≡ true
  same_self [] = refl
  same_self (x ∷ xs) = ap₂ (λ (a b : Bool). a && b) (eq-eqb x x refl) (same_self xs)

  named : (i : Img) (moves : List Moved) (spots : LinkSpots) (b : List ℕ) → (moved_image i moves spots b).install_name ≡ i.install_name
  unfolding moved_image
  named i moves spots b = refl

  path_is : (k : ℕ) (e : Entry) (m : Img) → (has : HasFile k e m) → e.path ≡ has.file.install_name
  unfolding image_at
  path_is k e m has = ap (λ (d : Entry). d.path) has.entry ∙ set.cache.path k has.file has.within has.file_is

  names_same : (k : ℕ) (e : Entry) → slice_get (head_read (cache_of bits is)).images k ≡ Some e → name_finding (flat (cache_of bits is)) k e ≡ None
  unfolding name_finding
  names_same k e found =
      let has = has_file k e found in
      let own : (image_in (flat (cache_of bits is)) e).install_name ≡ e.path =
      ap (λ (m : Img). m.install_name) has.image ∙ (named has.file (own_moves is k) (own_spots bits is k) (slid_of bits is 0) ∙ sym (path_is k e (image_in (flat (cache_of bits is)) e) has)) in
      cond-true (same_bytes (image_in (flat (cache_of bits is)) e).install_name e.path) None (Some (finding NameDiffers k (header_place e))) (ap (λ (xs : List ℕ). same_bytes xs e.path) own ∙ same_self e.path)

  -- no two have one name
  unlinked : (images : List Img) (n : ℕ) (xs : List Img) → break_from images n xs ≡ None → (k : ℕ) (i : Img) → slice_get xs k ≡ Some i → image_named (take (n + k) images) i.install_name ≡ None
  unlinked images n [] none k i found = absurd (cc)
  unlinked images n (x ∷ xs) none zero i found =
      let first = or_none (option_map (in_image n) (link_image_break images n x)) (break_from images (n + 1) xs) none in
      let own : link_image_break images n x ≡ None = unmapped n (link_image_break images n x) first.0 in
      let name = or_none (broken DuplicateName (image_named (take n images) x.install_name)) _ own in
      let here : x ≡ i = same_Some x i found in
      ap₂ (λ (m : ℕ) (j : Img). image_named (take m images) j.install_name) (let e : n + 0 ≡ n = omega arith in e) (sym here) ∙ broken_none DuplicateName (image_named (take n images) x.install_name) name.0
    where
      unmapped : (n : ℕ) (o : Option Site) → option_map (in_image n) o ≡ None → o ≡ None
      unmapped n None none = refl
      unmapped n (Some s) none = absurd (cc)
  unlinked images n (x ∷ xs) none (suc k) i found =
      let rest = or_none (option_map (in_image n) (link_image_break images n x)) (break_from images (n + 1) xs) none in
      ap (λ (m : ℕ). image_named (take m images) i.install_name) (let e : n + suc k ≡ (n + 1) + k = omega arith in e) ∙ unlinked images (n + 1) xs rest.1 k i found

  linked : link_break is ≡ None
  unfolding image_set
  linked = set.ready.accepted.set.linked

  distinct : (k : ℕ) (e : Entry) → slice_get (head_read (cache_of bits is)).images k ≡ Some e → twice_finding (head_read (cache_of bits is)).images k e ≡ None
  unfolding twice_finding link_break
  distinct k e found =
      let entries : List Entry = (head_read (cache_of bits is)).images in
      let has = has_file k e found in
      let none : image_named (take (0 + k) is) has.file.install_name ≡ None = unlinked is 0 is linked k has.file (slice_get_read is (length is) k has.file refl has.within has.file_is) in
      let other = none_pass (λ (j : Img). same_bytes has.file.install_name j.install_name) (take (0 + k) is) none in
      let differ : position (λ (d : Entry). same_bytes e.path d.path) (take k entries) ≡ None =
      none_at (λ (d : Entry). same_bytes e.path d.path) (take k entries)
      (λ j d at.
      let earlier = taken entries k j d at in
      let one = has_file j d earlier.1 in
      let less : j < length (take (0 + k) is) = omega (arith, earlier.0, has.within, length-take-le (0 + k) is (omega (arith, has.within))) in
      let at_j : get_or (take (0 + k) is) j one.file ≡ one.file = get_or-take (0 + k) is j one.file (omega (arith, earlier.0)) ∙ sym one.file_is in
      ap₂ (λ (a b : List ℕ). same_bytes a b) (path_is k e (image_in (flat (cache_of bits is)) e) has) (path_is j d (image_in (flat (cache_of bits is)) d) one)
      ∙ (ap (λ (x : Img). same_bytes has.file.install_name x.install_name) (sym at_j) ∙ other j one.file less)) in
      ap (λ (o : Option ℕ). option_map (λ (j : ℕ). finding NameTwice k j) o) differ

  -- ---- their segments

  seated_well : (k : ℕ) (m : Img) → slice_get (map (image_in (flat (cache_of bits is))) (head_read (cache_of bits is)).images) k ≡ Some m
      → segment_finding (mappings_of (cache_of bits is)) (map (image_in (flat (cache_of bits is))) (head_read (cache_of bits is)).images) k m ≡ None
  unfolding segment_finding is_misplaced
  seated_well k m found =
      let images : List Img = map (image_in (flat (cache_of bits is))) (head_read (cache_of bits is)).images in
      let has = (image_has k m found).1 in
      let well : position (λ (t : Seg). not (is_linkedit_segment t) && (not (is_placed (mappings_of (cache_of bits is)) t) || list_any (shares t) (segments_of (take k images)))) m.segments ≡ None =
      none_at (λ (t : Seg). not (is_linkedit_segment t) && (not (is_placed (mappings_of (cache_of bits is)) t) || list_any (shares t) (segments_of (take k images)))) m.segments
      (λ g t at. elim (seat k g has.file t has.within has.file_is (sym (ap (λ (x : Img). slice_get x.segments g) has.image) ∙ at)) [
        | inl last ↦ ap (λ (b : Bool). not b && (not (is_placed (mappings_of (cache_of bits is)) t) || list_any (shares t) (segments_of (take k images)))) last.named
        | inr own ↦
            let there : is_placed (mappings_of (cache_of bits is)) t ≡ true = placed k g t own.1 in
            let apart : list_any (shares t) (segments_of (take k images)) ≡ false =
            any_flat (shares t) (λ (x : Img). x.segments) (take k images)
            (λ j n got h u here.
            let earlier = taken images k j n got in
            let one = (image_has j n earlier.1).1 in
            apart_from k g j h t u (λ same. let less : j < k = earlier.0 in omega (arith, same, less)) own.1 (seat j h one.file u one.within one.file_is (sym (ap (λ (x : Img). slice_get x.segments h) one.image) ∙ here))) in
            (λ i. not (own.0 i) && (not (there i) || apart i))
      ]) in
      ap (λ (o : Option ℕ). option_map (λ (g : ℕ). finding SegmentOutside k g) o) well

  -- ---- their streams

  nothing_rebased : (i : Img) (moves : List Moved) (spots : LinkSpots) (b : List ℕ) → (moved_image i moves spots b).streams.rebase ≡ []
  unfolding moved_image
  nothing_rebased i moves spots b = go (command_where is_dyld_info (commands_of i.header))
    where
      go : (o : Option (List ℕ)) → named_by o b (record { at = 0; len = 0 }) ≡ []
      go None = refl
      go (Some c) = refl

  nothing_weak : (i : Img) (moves : List Moved) (spots : LinkSpots) (b : List ℕ) → (moved_image i moves spots b).streams.weak ≡ []
  unfolding moved_image
  nothing_weak i moves spots b = refl

  streams_well : (k : ℕ) (m : Img) → slice_get (map (image_in (flat (cache_of bits is))) (head_read (cache_of bits is)).images) k ≡ Some m → stream_finding k m ≡ None
  unfolding stream_finding linkedit_break
  streams_well k m found =
      let has = (image_has k m found).1 in
      let i : Img = has.file in
      let own : moved_in bits is k i ≡ m = sym has.image in
      let binds = keeps_binds bits is set.ready set.edits set.cache k i has.within has.file_is in
      let tables = tables_kept bits is set.ready set.cache k i has.within has.file_is in
      let trie = trie_accepted bits is set.ready set.cache k i has.within has.file_is in
      let rebase : (moved_in bits is k i).streams.rebase ≡ [] = nothing_rebased i (own_moves is k) (own_spots bits is k) (slid_of bits is 0) in
      let weak : weak_break (moved_in bits is k i).streams.weak ≡ None = ap weak_break (nothing_weak i (own_moves is k) (own_spots bits is k) (slid_of bits is 0)) in
      let short : nat_eq (length m.streams.rebase) 0 ≡ true = ap (λ (x : Img). nat_eq (length x.streams.rebase) 0) has.image ∙ ap (λ (l : List ℕ). nat_eq (length l) 0) rebase in
      let none : linkedit_break (moved_in bits is k i) ≡ None = (λ j. first_break (binds.bind_none j ∷ binds.lazy_none j ∷ weak j ∷ binds.apart j ∷ trie j ∷ tables j ∷ [])) in
      cond-true (nat_eq (length m.streams.rebase) 0) (rule_finding StreamBroken k (linkedit_break m)) (Some (finding StreamBroken k (number_of RebaseBadUleb))) short
      ∙ (ap (λ (x : Img). rule_finding StreamBroken k (linkedit_break x)) has.image ∙ ap (λ (o : Option Site). rule_finding StreamBroken k o) none)

  -- ---- nothing is wrong with them

  unbroken : (k : ℕ) (e : Entry) → slice_get (head_read (cache_of bits is)).images k ≡ Some e → broken_finding (flat (cache_of bits is)) k e ≡ None
  unfolding broken_finding
  unbroken k e found = ap (λ (o : Option Site). rule_finding ImageBroken k o) (has_file k e found).unbroken

  pub images_sound : images_finding (view_of (cache_of bits is)) ≡ None
  unfolding images_finding view_of head_read
  images_sound =
      let entries : List Entry = (head_read (cache_of bits is)).images in
      let bytes : List ℕ = flat (cache_of bits is) in
      let images : List Img = map (image_in bytes) entries in
      let number : (k : ℕ) → 0 + k ≡ k = λ k. omega arith in
      let one = none_each (broken_finding bytes) 0 entries (λ k e found. ap (λ (n : ℕ). broken_finding bytes n e) (number k) ∙ unbroken k e found) in
      let two = none_each (name_finding bytes) 0 entries (λ k e found. ap (λ (n : ℕ). name_finding bytes n e) (number k) ∙ names_same k e found) in
      let three = none_each (segment_finding (mappings_of (cache_of bits is)) images) 0 images
      (λ k m found. ap (λ (n : ℕ). segment_finding (mappings_of (cache_of bits is)) images n m) (number k) ∙ seated_well k m found) in
      let four = none_each (twice_finding entries) 0 entries (λ k e found. ap (λ (n : ℕ). twice_finding entries n e) (number k) ∙ distinct k e found) in
      let five = none_each stream_finding 0 images (λ k m found. ap (λ (n : ℕ). stream_finding n m) (number k) ∙ streams_well k m found) in
      (λ i. first_break (one i ∷ two i ∷ three i ∷ four i ∷ five i ∷ []))
