-- The homes of chain words: those that begin in a segment are the words from one number up to another one.
use Rattle.std.proofs.Common.{◌≡◌, ◌≤◌, ◌<◌, ℕ, zero, suc, ◌+◌, ◌-◌, Bool, true, false, nat_eq, nat_le, nat_lt, Option, Some, None, List, [], ◌∷◌, ◌++◌, take, drop, length, get_or, replicate, refl, sym, ap, ap₂, ◌∙◌, arith, if◌then◌else◌, inl, inr, length-append, length-drop, slice_set}
use Rattle.std.specs.List.Sorted.{IsPartitionedBy, IsPartitionPoint}
use Rattle.std.proofs.lemmas.Bool.{cases_lt, cond-true, cond-false, lt-ltb, le-ltb, ltb-true, le-leb, lt-leb, and_from, and_left, and_right}
use Rattle.std.proofs.lemmas.List.{get_or-take, get_or-drop, get_or-append_right, get_or_append_left, get_or-replicate, get_or-map, length-take-le, length-replicate, length-map, drop_more, drop_all}
use Rattle.macho_image.specs.Records.{Seg, Img}
use Rattle.macho_image.specs.Segments.{contains}
use Rattle.slide_chain.specs.declared.words.ChainWord.{ChainWord}
use Rattle.extractor.specs.declared.homes.Home.{Home}
use Rattle.extractor.specs.Placing.{has_data, home_in, or_else, home_from, home_of}
use Rattle.extractor.specs.Homes.{Rise, IsFirstFrom, each_word, segment_first, segments_first, Become}

-- ---- the first word from an address on

pub parted : (start bound : ℕ) (words : List ChainWord) → Rise words → IsPartitionedBy (λ (w : ChainWord). nat_lt (start + w.offset) bound) words
parted start bound words rise i j d le within is =
    let low = ltb-true (start + (get_or words j d).offset) bound is in
    lt-ltb (start + (get_or words i d).offset) bound (omega (arith, low, rise i j d le within))

ltb-false : (a b : ℕ) → nat_lt a b ≡ false → b ≤ a
ltb-false a b is = elim (cases_lt a b) [
  | inl lt ↦ absurd (true_false (sym (lt-ltb a b lt) ∙ is))
  | inr le ↦ le
]
  where
    true_false : true ≡ false → ⊥
    true_false e = cc

pub first_is : (start bound : ℕ) (words : List ChainWord) (i : ℕ) → i ≤ length words
    → IsPartitionPoint (λ (w : ChainWord). nat_lt (start + w.offset) bound ≡ true) (λ (w : ChainWord). nat_lt (start + w.offset) bound ≡ false) words i → IsFirstFrom start words bound i
first_is start bound words i within point = record {
  within = within;
  below = λ j d lt. ltb-true (start + (get_or words j d).offset) bound (point.0 j d (omega (arith, lt, within)) lt);
  above = λ j d le lt. ltb-false (start + (get_or words j d).offset) bound (point.1 j d le lt);
}

pub first_order : (start low high : ℕ) (words : List ChainWord) (i j : ℕ) → low ≤ high → IsFirstFrom start words low i → IsFirstFrom start words high j → i ≤ j
first_order start low high words i j le first end = elim (cases_lt j i) [
  | inl over ↦
      let d : ChainWord = record { offset = 0; value = 0 } in
      absurd (omega (arith, le, first.below j d over, end.above j d (omega arith) (omega (arith, over, first.within))))
  | inr within ↦ within
]

-- ---- lists with the same items

same_items : {X : Type 0} (d : X) (xs ys : List X) → length xs ≡ length ys → ((k : ℕ) → k < length xs → get_or xs k d ≡ get_or ys k d) → xs ≡ ys
same_items {X = X} d [] [] long same = refl
same_items {X = X} d [] (y ∷ ys) long same = absurd (omega (arith, long))
same_items {X = X} d (x ∷ xs) [] long same = absurd (omega (arith, long))
same_items {X = X} d (x ∷ xs) (y ∷ ys) long same =
    ap₂ (λ (z : X) (zs : List X). z ∷ zs) (same 0 (omega arith)) (same_items d xs ys (omega (arith, long)) (λ k lt. same (suc k) (omega (arith, lt))))

-- ---- a range that is filled

abbrev filled : List (Option Home) → ℕ → ℕ → Option Home → List (Option Home)
filled old f e v = take f old ++ (replicate (e - f) v ++ drop e old)

record Range (old : List (Option Home)) (f e : ℕ) : Type 0 where
  pub order : f ≤ e
  pub within : e ≤ length old

front_long : (old : List (Option Home)) (f e : ℕ) → Range old f e → length (take f old) ≡ f
front_long old f e range = length-take-le f old (omega (arith, range.order, range.within))

filled_long : (old : List (Option Home)) (f e : ℕ) (v : Option Home) → Range old f e → length (filled old f e v) ≡ length old
filled_long old f e v range =
    length-append (take f old) (replicate (e - f) v ++ drop e old)
    ∙ omega (arith, front_long old f e range, length-replicate (e - f) v, length-append (replicate (e - f) v) (drop e old), length-drop e old, range.order, range.within)

at_front : (old : List (Option Home)) (f e : ℕ) (v : Option Home) (k : ℕ) → Range old f e → k < f → get_or (filled old f e v) k None ≡ get_or old k None
at_front old f e v k range lt =
    get_or_append_left (take f old) (replicate (e - f) v ++ drop e old) None k (omega (arith, lt, front_long old f e range)) ∙ get_or-take f old k None lt

at_middle : (old : List (Option Home)) (f e : ℕ) (v : Option Home) (k : ℕ) → Range old f e → f ≤ k → k < e → get_or (filled old f e v) k None ≡ v
at_middle old f e v k range le lt =
    get_or-append_right (take f old) (replicate (e - f) v ++ drop e old) f k None (front_long old f e range) le
    ∙ (get_or_append_left (replicate (e - f) v) (drop e old) None (k - f) (omega (arith, length-replicate (e - f) v, le, lt))
    ∙ get_or-replicate (e - f) (k - f) v None (omega (arith, le, lt)))

at_back : (old : List (Option Home)) (f e : ℕ) (v : Option Home) (k : ℕ) → Range old f e → e ≤ k → get_or (filled old f e v) k None ≡ get_or old k None
at_back old f e v k range le =
    let place : e + (k - f - (e - f)) ≡ k = omega (arith, range.order, le) in
    get_or-append_right (take f old) (replicate (e - f) v ++ drop e old) f k None (front_long old f e range) (omega (arith, range.order, le))
    ∙ (get_or-append_right (replicate (e - f) v) (drop e old) (e - f) (k - f) None (length-replicate (e - f) v) (omega (arith, range.order, le))
    ∙ (get_or-drop e old (k - f - (e - f)) None ∙ ap (λ (n : ℕ). get_or old n None) place))

-- ---- a segment of data

abbrev pub no_word : ChainWord
no_word = record { offset = 0; value = 0 }

each_at : (f : ℕ → Option Home) (start : ℕ) (words : List ChainWord) (k : ℕ) → k < length words → get_or (each_word f start words) k None ≡ f (start + (get_or words k no_word).offset)
each_at f start words k lt = get_or-map (λ (w : ChainWord). f (start + w.offset)) words k no_word None lt

has : (address : ℕ) (s : Seg) → nat_eq s.initprot 3 ≡ true → s.vmaddr ≤ address → address < s.vmaddr + s.vmsize → has_data address s ≡ true
has address s writable low high =
    and_from (nat_eq s.initprot 3) (contains s address) writable
    (and_from (nat_le s.vmaddr address) (nat_lt address (s.vmaddr + s.vmsize)) (le-leb s.vmaddr address low) (lt-ltb address (s.vmaddr + s.vmsize) high))

has_below : (address : ℕ) (s : Seg) → address < s.vmaddr → has_data address s ≡ false
has_below address s low =
    and_right (nat_eq s.initprot 3) (contains s address) (and_left (nat_le s.vmaddr address) (nat_lt address (s.vmaddr + s.vmsize)) (lt-leb s.vmaddr address low))

has_above : (address : ℕ) (s : Seg) → s.vmaddr + s.vmsize ≤ address → has_data address s ≡ false
has_above address s high =
    and_right (nat_eq s.initprot 3) (contains s address) (and_right (nat_le s.vmaddr address) (nat_lt address (s.vmaddr + s.vmsize)) (le-ltb address (s.vmaddr + s.vmsize) high))

first_yes : (s : Seg) (h : Home) (f : ℕ → Option Home) (a : ℕ) → has_data a s ≡ true → segment_first s h f a ≡ Some h
first_yes s h f a is = cond-true (has_data a s) (Some h) (f a) is

first_no : (s : Seg) (h : Home) (f : ℕ → Option Home) (a : ℕ) → has_data a s ≡ false → segment_first s h f a ≡ f a
first_no s h f a is = cond-false (has_data a s) (Some h) (f a) is

pub segment_filled : (start : ℕ) (words : List ChainWord) (s : Seg) (h : Home) (lo hi : ℕ) (old new : List (Option Home)) → nat_eq s.initprot 3 ≡ true → length old ≡ length words
    → IsFirstFrom start words s.vmaddr lo → IsFirstFrom start words (s.vmaddr + s.vmsize) hi → new ≡ take lo old ++ (replicate (hi - lo) (Some h) ++ drop hi old) → Become start words old new (segment_first s h)
segment_filled start words s h lo hi old new writable many first end new_is f old_is =
    let range : Range old lo hi = record { order = first_order start s.vmaddr (s.vmaddr + s.vmsize) words lo hi (omega arith) first end; within = omega (arith, end.within, many) } in
    let long : length (filled old lo hi (Some h)) ≡ length words = filled_long old lo hi (Some h) range ∙ many in
    new_is
    ∙ same_items None (filled old lo hi (Some h)) (each_word (segment_first s h f) start words)
    (long ∙ sym (length-map words (λ (w : ChainWord). segment_first s h f (start + w.offset))))
    (λ k lt.
    let within : k < length words = omega (arith, lt, long) in
    let a : ℕ = start + (get_or words k no_word).offset in
    let was : get_or old k None ≡ f (start + (get_or words k no_word).offset) = ap (λ (l : List (Option Home)). get_or l k None) old_is ∙ each_at f start words k within in
    elim (cases_lt k lo) [
      | inl before ↦
          at_front old lo hi (Some h) k range before ∙ (was ∙ (sym (first_no s h f a (has_below a s (first.below k no_word before))) ∙ sym (each_at (segment_first s h f) start words k within)))
      | inr from ↦ elim (cases_lt k hi) [
        | inl inside ↦
            at_middle old lo hi (Some h) k range from inside
            ∙ (sym (first_yes s h f a (has a s writable (first.above k no_word from within) (end.below k no_word inside))) ∙ sym (each_at (segment_first s h f) start words k within))
        | inr past ↦
            at_back old lo hi (Some h) k range past ∙ (was ∙ (sym (first_no s h f a (has_above a s (end.above k no_word past within))) ∙ sym (each_at (segment_first s h f) start words k within)))
      ]
    ])

each_same : (f g : ℕ → Option Home) (start : ℕ) (words : List ChainWord) → ((a : ℕ) → f a ≡ g a) → each_word f start words ≡ each_word g start words
each_same f g start [] same = refl
each_same f g start (w ∷ ws) same = ap₂ (λ (o : Option Home) (os : List (Option Home)). o ∷ os) (same (start + w.offset)) (each_same f g start ws same)

pub segment_kept : (start : ℕ) (words : List ChainWord) (s : Seg) (h : Home) (homes : List (Option Home)) → nat_eq s.initprot 3 ≡ false → Become start words homes homes (segment_first s h)
segment_kept start words s h homes other f is = is ∙ each_same f (segment_first s h f) start words (λ a. sym (first_no s h f a (and_left (nat_eq s.initprot 3) (contains s a) other)))

-- ---- one home after the other

pub set_next : {X : Type 0} (k : ℕ) (v : X) (xs : List X) → k < length xs → slice_set (replicate k v ++ drop k xs) k v ≡ replicate (k + 1) v ++ drop (k + 1) xs
set_next {X = X} k v [] lt = absurd (omega (arith, lt))
set_next {X = X} zero v (x ∷ xs) lt = refl
set_next {X = X} (suc k) v (x ∷ xs) lt =
    let next : suc (k + 1) ≡ suc k + 1 = omega arith in
    ap (λ (ys : List X). v ∷ ys) (set_next k v xs (omega (arith, lt))) ∙ ap (λ (n : ℕ). replicate n v ++ drop n (x ∷ xs)) next

-- ---- the segments of an image, and images, from the last one on

pub or_if : (b : Bool) (h : Home) (o rest : Option Home) → or_else (if b then Some h else o) rest ≡ (if b then Some h else or_else o rest)
or_if true h o rest = refl
or_if false h o rest = refl

-- segments from one number on, where the others behind it are done
pub record AreFilled (start : ℕ) (words : List ChainWord) (initial now : List (Option Home)) (k g : ℕ) (segments : List Seg) : Type 0 where
  pub many : length now ≡ length initial
  pub homes : Become start words initial now (segments_first k g (drop g segments))

pub filled_start : (start : ℕ) (words : List ChainWord) (homes : List (Option Home)) (k g : ℕ) (segments : List Seg) → length segments ≤ g → AreFilled start words homes homes k g segments
filled_start start words homes k g segments all = record {
  many = refl;
  homes = λ f is. is ∙ each_same f (segments_first k g (drop g segments) f) start words (λ a. ap (λ (ss : List Seg). or_else (home_in k g ss a) (f a)) (sym (drop_all g segments all)));
}

pub filled_more : (start : ℕ) (words : List ChainWord) (initial homes homes' : List (Option Home)) (k g : ℕ) (segments : List Seg) (s : Seg) (h : Home) → AreFilled start words initial homes k (g + 1) segments → g < length segments
    → s ≡ get_or segments g s → h ≡ record { image = k; segment = g } → Become start words homes homes' (segment_first s h) → length homes' ≡ length homes → AreFilled start words initial homes' k g segments
filled_more start words initial homes homes' k g segments s h done lt at is more long = record {
  many = long ∙ done.many;
  homes = λ f old.
      more (segments_first k (g + 1) (drop (g + 1) segments) f) (done.homes f old)
      ∙ each_same (segment_first s h (segments_first k (g + 1) (drop (g + 1) segments) f)) (segments_first k g (drop g segments) f) start words
      (λ a.
      ap (λ (m : Home). if has_data a s then Some m else or_else (home_in k (g + 1) (drop (g + 1) segments) a) (f a)) is
      ∙ (sym (or_if (has_data a s) (record { image = k; segment = g }) (home_in k (g + 1) (drop (g + 1) segments) a) (f a))
      ∙ ap (λ (ss : List Seg). or_else (home_in k g ss a) (f a)) (sym (drop_more segments g s lt ∙ ap (λ (t : Seg). t ∷ drop (g + 1) segments) (sym at)))));
}

-- images from one number on
pub record AreHomes (start : ℕ) (words : List ChainWord) (homes : List (Option Home)) (k : ℕ) (images : List Img) : Type 0 where
  pub are : homes ≡ each_word (home_from k (drop k images)) start words

none_each : (start : ℕ) (words : List ChainWord) → replicate (length words) None ≡ each_word (λ a. None) start words
none_each start [] = refl
none_each start (w ∷ ws) = ap (λ (os : List (Option Home)). None ∷ os) (none_each start ws)

pub homes_start : (start : ℕ) (words : List ChainWord) (homes : List (Option Home)) (k : ℕ) (images : List Img) → length images ≤ k → homes ≡ replicate (length words) None → AreHomes start words homes k images
homes_start start words homes k images all is = record {
  are = is ∙ (none_each start words ∙ each_same (λ a. None) (home_from k (drop k images)) start words (λ a. ap (λ (is : List Img). home_from k is a) (sym (drop_all k images all))));
}

pub homes_long : (start : ℕ) (words : List ChainWord) (homes : List (Option Home)) (k : ℕ) (images : List Img) → AreHomes start words homes k images → length homes ≡ length words
homes_long start words homes k images done = ap (λ (l : List (Option Home)). length l) done.are ∙ length-map words (λ (w : ChainWord). home_from k (drop k images) (start + w.offset))

pub homes_more : (start : ℕ) (words : List ChainWord) (homes homes' : List (Option Home)) (k : ℕ) (images : List Img) (i : Img) → AreHomes start words homes (k + 1) images → k < length images → i ≡ get_or images k i
    → Become start words homes homes' (segments_first k 0 i.segments) → AreHomes start words homes' k images
homes_more start words homes homes' k images i done lt at more = record {
  are =
      more (home_from (k + 1) (drop (k + 1) images)) done.are
      ∙ each_same (segments_first k 0 i.segments (home_from (k + 1) (drop (k + 1) images))) (home_from k (drop k images)) start words
      (λ a. ap (λ (is : List Img). home_from k is a) (sym (drop_more images k i lt ∙ ap (λ (j : Img). j ∷ drop (k + 1) images) (sym at))));
}

pub homes_all : (start : ℕ) (words : List ChainWord) (homes : List (Option Home)) (images : List Img) → AreHomes start words homes 0 images → homes ≡ each_word (home_of images) start words
unfolding home_of
homes_all start words homes images done = done.are

-- the home of one word
pub home_at : (images : List Img) (start : ℕ) (words : List ChainWord) (homes : List (Option Home)) (k : ℕ) → homes ≡ each_word (home_of images) start words → k < length words
    → get_or homes k None ≡ home_of images (start + (get_or words k no_word).offset)
home_at images start words homes k are lt = ap (λ (l : List (Option Home)). get_or l k None) are ∙ each_at (home_of images) start words k lt

pub word_at : (words : List ChainWord) (k : ℕ) (d e : ChainWord) → k < length words → get_or words k d ≡ get_or words k e
word_at [] k d e lt = absurd (omega (arith, lt))
word_at (w ∷ ws) zero d e lt = refl
word_at (w ∷ ws) (suc k) d e lt = word_at ws k d e (omega (arith, lt))
