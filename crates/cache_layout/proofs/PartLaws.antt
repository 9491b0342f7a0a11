-- The joined segments of a mapping are as long as its room, and each stands in them where its place says.
use Rattle.std.proofs.Common.{◌≡◌, ◌<◌, ℕ, suc, ◌+◌, Bool, true, false, List, [], ◌∷◌, ◌++◌, length, take, drop, get_or, refl, sym, ap, ap₂, ◌∙◌, subst, arith, append_assoc, length-append, if◌then◌else◌, Option, Some, None}
use Rattle.std.specs.List.{sum_by, flat_map, enumerate_from}
use Rattle.std.proofs.lemmas.List.{take-append-drop, drop_more, length-take-le, get_or-take}
use Rattle.std.proofs.lemmas.List.Sums.{sum_by-cons}
use Rattle.std.proofs.Math.Seq.{drop-append_seam, take-append_seam}
use Rattle.dsc_base.specs.Region.{paged}
use Rattle.macho_image.specs.Records.{Seg, Img}
use Rattle.macho_image.specs.declared.place.Moved.{Moved}
use Rattle.cache_layout.specs.declared.mapping.Mapping.{Mapping}
use Rattle.cache_layout.specs.declared.mapping.Mapping.TheVariants.{Text, Writable, Fixed}
use Rattle.cache_layout.specs.Places.{mapping_of, is_same, share, room_of, segments_room, images_room, mapping_start, image_start}
use Rattle.cache_layout.specs.Layouts.{layout_of}
use Rattle.cache_layout.specs.Apart.{IsSegment}
use Rattle.cache_layout.specs.Parts.{part_in, image_part, mapping_part, AreWholePages, joined, StandsAt, AreJoined}
use Rattle.cache_layout.proofs.RoomLaws.{is_same-self}
use Rattle.cache_layout.proofs.PlaceLaws.{mapped_own, mapped, move_at-own}

-- lists that are joined of what each item and its number give

abbrev joined_from : {X : Type 0} → (ℕ → X → List ℕ) → ℕ → List X → List ℕ
joined_from h n xs = flat_map (λ p. h p.0 p.1) (enumerate_from n xs)

joined-long : {X : Type 0} (h : ℕ → X → List ℕ) (f : X → ℕ) (xs : List X) (n : ℕ) → ((j : ℕ) (x : X) → j < length xs → x ≡ get_or xs j x → length (h (n + j) x) ≡ f x)
    → length (joined_from h n xs) ≡ sum_by f xs
joined-long h f [] n long = refl
joined-long {X} h f (x ∷ xs) n long =
    let first : length (h n x) ≡ f x = subst (λ (k : ℕ). length (h k x) ≡ f x) (let e : n + 0 ≡ n = omega arith in e) (long 0 x (omega arith) refl) in
    let later : length (joined_from h (n + 1) xs) ≡ sum_by f xs =
    joined-long h f xs (n + 1) (λ j y lt is. subst (λ (k : ℕ). length (h k y) ≡ f y) (let e : n + suc j ≡ n + 1 + j = omega arith in e) (long (suc j) y (omega arith) is)) in
    omega (arith, length-append (h n x) (joined_from h (n + 1) xs), first, later, sum_by-cons f x xs)

joined-all : {X : Type 0} (h : ℕ → X → List ℕ) (f : X → ℕ) (xs : List X) → ((j : ℕ) (x : X) → j < length xs → x ≡ get_or xs j x → length (h j x) ≡ f x) → length (joined_from h 0 xs) ≡ sum_by f xs
joined-all {X} h f xs long =
    joined-long h f xs 0 (λ j x lt is. subst (λ (k : ℕ). length (h k x) ≡ f x) (let e : j ≡ 0 + j = omega arith in e) (long j x lt is))

joined-split : {X : Type 0} (h : ℕ → X → List ℕ) (xs ys : List X) (n : ℕ) → joined_from h n (xs ++ ys) ≡ joined_from h n xs ++ joined_from h (n + length xs) ys
joined-split h [] ys n = ap (λ (k : ℕ). joined_from h k ys) (let e : n ≡ n + 0 = omega arith in e)
joined-split {X} h (x ∷ xs) ys n =
    ap (λ (l : List ℕ). h n x ++ l) (joined-split h xs ys (n + 1) ∙ ap (λ (k : ℕ). joined_from h (n + 1) xs ++ joined_from h k ys) (let e : n + 1 + length xs ≡ n + length (x ∷ xs) = omega arith in e))
    ∙ sym (append_assoc (h n x) (joined_from h (n + 1) xs) (joined_from h (n + length (x ∷ xs)) ys))

-- the part of the item with a number stands behind the parts of those before it
joined-at : {X : Type 0} (h : ℕ → X → List ℕ) (f : X → ℕ) (xs : List X) (n : ℕ) (x : X) → ((j : ℕ) (y : X) → j < length xs → y ≡ get_or xs j y → length (h j y) ≡ f y)
    → n < length xs → x ≡ get_or xs n x → StandsAt (joined_from h 0 xs) (sum_by f (take n xs)) (h n x)
joined-at {X} h f xs n x long lt is =
    let back : drop n xs ≡ x ∷ drop (n + 1) xs = drop_more xs n x lt ∙ ap (λ (y : X). y ∷ drop (n + 1) xs) (sym is) in
    let whole : take n xs ++ (x ∷ drop (n + 1) xs) ≡ xs = ap (λ (l : List X). take n xs ++ l) (sym back) ∙ take-append-drop n xs in
    let front : length (take n xs) ≡ n = length-take-le n xs (omega arith) in
    let number : 0 + length (take n xs) ≡ n = omega (arith, front) in
    let split : joined_from h 0 xs ≡ joined_from h 0 (take n xs) ++ (h n x ++ joined_from h (n + 1) (drop (n + 1) xs)) =
    ap (λ (l : List X). joined_from h 0 l) (sym whole)
    ∙ (joined-split h (take n xs) (x ∷ drop (n + 1) xs) 0
    ∙ ap (λ (k : ℕ). joined_from h 0 (take n xs) ++ joined_from h k (x ∷ drop (n + 1) xs)) number) in
    (joined_from h 0 (take n xs), joined_from h (n + 1) (drop (n + 1) xs), split, joined-all h f (take n xs) (λ j y below at. long j y (omega (arith, front)) (at ∙ get_or-take n xs j y (omega (arith, front)))))

-- what stands in a part of a list stands in the list
pub stands_further : (all mid bytes : List ℕ) (at place : ℕ) → StandsAt all at mid → StandsAt mid place bytes → StandsAt all (at + place) bytes
stands_further all mid bytes at place (front, after, whole, long) (front', after', part, long') =
    let inner : mid ++ after ≡ front' ++ (bytes ++ (after' ++ after)) =
    ap (λ (l : List ℕ). l ++ after) part ∙ (append_assoc front' (bytes ++ after') after ∙ ap (λ (l : List ℕ). front' ++ l) (append_assoc bytes after' after)) in (
      front ++ front',
      after' ++ after,
      whole ∙ (ap (λ (l : List ℕ). front ++ l) inner ∙ sym (append_assoc front front' (bytes ++ (after' ++ after)))),
      length-append front front' ∙ ap₂ (λ a b. a + b) long long',
    )

-- what is left from the place on begins with what stands there
pub stands_drop : (all bytes : List ℕ) (at : ℕ) → StandsAt all at bytes → (after : List ℕ) × (drop at all ≡ bytes ++ after)
stands_drop all bytes at (front, after, whole, long) =
    (after, ap₂ (λ (n : ℕ) (l : List ℕ). drop n l) (sym long) whole ∙ drop-append_seam front (bytes ++ after))

pub stands_take : (all bytes : List ℕ) (at : ℕ) → StandsAt all at bytes → take (length bytes) (drop at all) ≡ bytes
stands_take all bytes at stands =
    let left = stands_drop all bytes at stands in
    ap (λ (l : List ℕ). take (length bytes) l) left.1 ∙ take-append_seam bytes left.0

-- the parts of a mapping

pick-long : (b : Bool) (bytes : List ℕ) (size : ℕ) → length bytes ≡ size → length (if b then bytes else []) ≡ (if b then size else 0)
pick-long true bytes size long = long
pick-long false bytes size long = refl

part-long : (m : Mapping) (o : Option Mapping) (bytes : List ℕ) (size : ℕ) → ((n : Mapping) → o ≡ Some n → length bytes ≡ size) → length (part_in m o bytes) ≡ share m o size
part-long m None bytes size long = refl
part-long m (Some n) bytes size long = pick-long (is_same m n) bytes size (long n refl)

part-own : (m : Mapping) (o : Option Mapping) (bytes : List ℕ) → o ≡ Some m → part_in m o bytes ≡ bytes
part-own m o bytes own =
    ap (λ (p : Option Mapping). part_in m p bytes) own ∙ ap (λ (b : Bool). let l : List ℕ = if b then bytes else [] in l) (is_same-self m)

segment-long : (m : Mapping) (bytes : ℕ → ℕ → List ℕ) (is : List Img) → AreWholePages bytes is → (k g : ℕ) (i : Img) (s : Seg) → IsSegment is k g i s
    → length (part_in m (mapping_of s) (bytes k g)) ≡ room_of m s
segment-long m bytes is whole k g i s there =
    part-long m (mapping_of s) (bytes k g) (paged s.vmsize) (λ n own. whole k g i s there (mapped_own s n own))

pub length-image_part : (m : Mapping) (bytes : ℕ → ℕ → List ℕ) (is : List Img) → AreWholePages bytes is → (k : ℕ) (i : Img) → k < length is → i ≡ get_or is k i
    → length (image_part m (bytes k) i.segments) ≡ segments_room m i.segments
length-image_part m bytes is whole k i lt at =
    joined-all (λ (g : ℕ) (s : Seg). part_in m (mapping_of s) (bytes k g)) (room_of m) i.segments
    (λ g s below is_there. segment-long m bytes is whole k g i s (record { image_in = lt; image_is = at; segment_in = below; segment_is = is_there }))

pub length-mapping_part : (m : Mapping) (bytes : ℕ → ℕ → List ℕ) (is : List Img) → AreWholePages bytes is → length (mapping_part m bytes is) ≡ images_room m is
length-mapping_part m bytes is whole =
    joined-all (λ (k : ℕ) (i : Img). image_part m (bytes k) i.segments) (λ (i : Img). segments_room m i.segments) is (length-image_part m bytes is whole)

-- an image's part of a mapping
pub image_part-at : (m : Mapping) (bytes : ℕ → ℕ → List ℕ) (is : List Img) → AreWholePages bytes is → (k : ℕ) (i : Img) → k < length is → i ≡ get_or is k i
    → StandsAt (mapping_part m bytes is) (images_room m (take k is)) (image_part m (bytes k) i.segments)
image_part-at m bytes is whole k i lt at =
    joined-at (λ (k : ℕ) (i : Img). image_part m (bytes k) i.segments) (λ (i : Img). segments_room m i.segments) is k i (length-image_part m bytes is whole) lt at

-- a segment in its image's part
pub segment-at : (m : Mapping) (bytes : ℕ → ℕ → List ℕ) (is : List Img) → AreWholePages bytes is → (k g : ℕ) (i : Img) (s : Seg) → IsSegment is k g i s → mapping_of s ≡ Some m
    → StandsAt (image_part m (bytes k) i.segments) (segments_room m (take g i.segments)) (bytes k g)
segment-at m bytes is whole k g i s there own =
    subst (λ (l : List ℕ). StandsAt (image_part m (bytes k) i.segments) (segments_room m (take g i.segments)) l) (part-own m (mapping_of s) (bytes k g) own)
    (joined-at (λ (g : ℕ) (s : Seg). part_in m (mapping_of s) (bytes k g)) (room_of m) i.segments g s
    (λ j t below is_there. segment-long m bytes is whole k j i t (record { image_in = there.image_in; image_is = there.image_is; segment_in = below; segment_is = is_there }))
    there.segment_in there.segment_is)

-- a mapping's part of all
pub mapping_part-at : (m : Mapping) (head : List ℕ) (bytes : ℕ → ℕ → List ℕ) (is : List Img) (rest : List ℕ) → length head ≡ mapping_start Text is → AreWholePages bytes is
    → StandsAt (joined head bytes is rest) (mapping_start m is) (mapping_part m bytes is)
mapping_part-at Text head bytes is rest long whole = (head, mapping_part Writable bytes is ++ (mapping_part Fixed bytes is ++ rest), refl, long)
mapping_part-at Writable head bytes is rest long whole = (
  head ++ mapping_part Text bytes is,
  mapping_part Fixed bytes is ++ rest,
  sym (append_assoc head (mapping_part Text bytes is) (mapping_part Writable bytes is ++ (mapping_part Fixed bytes is ++ rest))),
  length-append head (mapping_part Text bytes is) ∙ ap₂ (λ a b. a + b) long (length-mapping_part Text bytes is whole),
)
mapping_part-at Fixed head bytes is rest long whole =
    let front : List ℕ = head ++ mapping_part Text bytes is in (
      front ++ mapping_part Writable bytes is,
      rest,
      sym (append_assoc head (mapping_part Text bytes is) (mapping_part Writable bytes is ++ (mapping_part Fixed bytes is ++ rest))) ∙ sym (append_assoc front (mapping_part Writable bytes is) (mapping_part Fixed bytes is ++ rest)),
      length-append front (mapping_part Writable bytes is)
          ∙ ap₂ (λ a b. a + b) (length-append head (mapping_part Text bytes is) ∙ ap₂ (λ a b. a + b) long (length-mapping_part Text bytes is whole)) (length-mapping_part Writable bytes is whole),
    )

-- an image's part of a mapping among all
pub image_part-all : (m : Mapping) (head : List ℕ) (bytes : ℕ → ℕ → List ℕ) (is : List Img) (rest : List ℕ) → length head ≡ mapping_start Text is → AreWholePages bytes is
    → (k : ℕ) (i : Img) → k < length is → i ≡ get_or is k i → StandsAt (joined head bytes is rest) (image_start is (take k is) m) (image_part m (bytes k) i.segments)
image_part-all m head bytes is rest long whole k i lt at =
    stands_further (joined head bytes is rest) (mapping_part m bytes is) (image_part m (bytes k) i.segments) (mapping_start m is) (images_room m (take k is))
    (mapping_part-at m head bytes is rest long whole) (image_part-at m bytes is whole k i lt at)

text_starts : (is : List Img) → (layout_of is).text.at ≡ mapping_start Text is
unfolding layout_of
text_starts is = refl

pub are_joined : (is : List Img) → AreJoined is (layout_of is)
are_joined is head bytes rest long whole k g i s there owned =
    let own = mapped s owned in
    let m = own.0 in
    subst (λ (n : ℕ). StandsAt (joined head bytes is rest) n (bytes k g)) (sym (ap (λ (v : Moved). v.file) (move_at-own is k g i s m there own.1)))
    (stands_further (joined head bytes is rest) (image_part m (bytes k) i.segments) (bytes k g) (image_start is (take k is) m) (segments_room m (take g i.segments))
    (image_part-all m head bytes is rest (long ∙ text_starts is) whole k i there.image_in there.image_is) (segment-at m bytes is whole k g i s there own.1))
