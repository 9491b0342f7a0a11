-- The words of images that slide and aren't bound, gathered word by word.
use Rattle.std.proofs.Common.{◌≡◌, ◌≤◌, ◌<◌, ℕ, zero, suc, ◌+◌, Bool, true, false, not, ◌&&◌, nat_eq, Option, Some, None, List, [], ◌∷◌, ◌++◌, map, filter, take, length, get_or, replicate, Vec, Global, refl, sym, ap, ap₂, ◌∙◌, subst, arith, if◌then◌else◌, inl, inr}
use Rattle.std.specs.Prelude.{slice_get, slice_set}
use Rattle.std.proofs.lemmas.Bool.{cases_Bool, eqb-true, eq-eqb, and_left, and_right}
use Rattle.std.proofs.lemmas.List.{length-map, length-set, get_or-set_same, get_or-set_other, append-nil, map-append, length-replicate, get_or-replicate, take_all, take_more}
use Rattle.std.proofs.lemmas.List.Elements.{filter-append}
use Rattle.std.proofs.lemmas.Option.{slice_get_read, slice_get_within}
use Rattle.macho_image.specs.Records.{Seg, Img}
use Rattle.macho_image.specs.declared.place.Location.{Location}
use Rattle.bind_ops.specs.Records.{BoundWord}
use Rattle.prebind.specs.Sets.{all_binds}
use Rattle.prebind.specs.Words.{is_bound}
use Rattle.slide_chain.specs.declared.words.ChainWord.{ChainWord}
use Rattle.extractor.specs.declared.homes.Home.{Home}
use Rattle.extractor.specs.Placing.{has_data, home_in, or_else, home_from, home_of}
use Rattle.extractor.specs.ExtractOf.{is_home, is_free, location_at, location_of, free_words}
use Rattle.extractor.specs.Free.{lists, AreFree, AreGrown}
use Rattle.extractor.specs.Chained.{has, AreBounds}
use Rattle.extractor.specs.Vetting.{cached_lists}
use Rattle.extractor.proofs.ChainLaws.{binds_are}

-- ---- lists of locations

pub lists_set : (vs : List (Vec Location Global)) (i : ℕ) (y : Vec Location Global) (ls : List Location) → y.items ≡ ls → lists (slice_set vs i y) ≡ slice_set (lists vs) i ls
lists_set [] i y ls is = refl
lists_set (v ∷ vs) zero y ls is = ap (λ (b : List Location). b ∷ lists vs) is
lists_set (v ∷ vs) (suc i) y ls is = ap (λ (l : List (List Location)). v.items ∷ l) (lists_set vs i y ls is)

pub lists_at : (vs : List (Vec Location Global)) (i : ℕ) (d : Vec Location Global) → i < length vs → get_or (lists vs) i [] ≡ (get_or vs i d).items
lists_at [] i d lt = absurd (omega arith)
lists_at (v ∷ vs) zero d lt = refl
lists_at (v ∷ vs) (suc i) d lt = lists_at vs i d (omega (arith, lt))

pub lists_more : (vs vs' : List (Vec Location Global)) (v : Vec Location Global) → vs' ≡ vs ++ v ∷ [] → lists vs' ≡ lists vs ++ v.items ∷ []
lists_more vs vs' v is = ap (λ (l : List (Vec Location Global)). lists l) is ∙ map-append (λ (u : Vec Location Global). u.items) vs (v ∷ [])

-- ---- the number of a home is that of an image

in_test : (k g : ℕ) (later : Option Home) (h : Home) (b : Bool) → (later ≡ Some h → h.image ≡ k) → (if b then Some (record { image = k; segment = g }) else later) ≡ Some h → h.image ≡ k
in_test k g later h true others here = let same : record { image = k; segment = g } ≡ h = cc in sym (ap (λ (m : Home). m.image) same)
in_test k g later h false others there = others there

within_in : (k g : ℕ) (ss : List Seg) (a : ℕ) (h : Home) → home_in k g ss a ≡ Some h → h.image ≡ k
within_in k g [] a h is = absurd (cc)
within_in k g (s ∷ ss) a h is = in_test k g (home_in k (g + 1) ss a) h (has_data a s) (λ later. within_in k (g + 1) ss a h later) is

or_test : (k n : ℕ) (o later : Option Home) (h : Home) → ((m : Home) → o ≡ Some m → m.image ≡ k) → (later ≡ Some h → h.image < k + 1 + n) → or_else o later ≡ Some h → h.image < k + suc n
or_test k n None later h own others there = let below = others there in omega (arith, below)
or_test k n (Some m) later h own others there =
    let one = own m refl in
    let e : m ≡ h = cc in
    let f = ap (λ (n : Home). n.image) e in
    omega (arith, one, f)

within_from : (k : ℕ) (images : List Img) (a : ℕ) (h : Home) → home_from k images a ≡ Some h → h.image < k + length images
within_from k [] a h is = absurd (cc)
within_from k (i ∷ is) a h found =
    or_test k (length is) (home_in k 0 i.segments a) (home_from (k + 1) is a) h (λ m here. within_in k 0 i.segments a m here) (λ later. within_from (k + 1) is a h later) found

pub home_within : (images : List Img) (a : ℕ) (h : Home) → Some h ≡ home_of images a → h.image < length images
unfolding home_of
home_within images a h is = let below = within_from 0 images a h (sym is) in omega (arith, below)

-- ---- one word

-- a word that an image hasn't
kept_out : (start : ℕ) (w : ChainWord) (images : List Img) (k : ℕ) (i : Img) → is_free start images k (all_binds i) w ≡ false → free_words start (w ∷ []) images k i ≡ []
unfolding free_words
kept_out start w images k i is = ap (λ (b : Bool). map (location_of start images i) (if b then w ∷ [] else [])) is

kept_in : (start : ℕ) (w : ChainWord) (images : List Img) (k : ℕ) (i : Img) → is_free start images k (all_binds i) w ≡ true → free_words start (w ∷ []) images k i ≡ location_of start images i w ∷ []
unfolding free_words
kept_in start w images k i is = ap (λ (b : Bool). map (location_of start images i) (if b then w ∷ [] else [])) is

pub homeless : (start : ℕ) (w : ChainWord) (images : List Img) (all : List (List Location)) → None ≡ home_of images (start + w.offset) → AreGrown start (w ∷ []) images all all
homeless start w images all none = record {
  count = refl;
  each = λ k i got.
      sym (append-nil (get_or all k []))
      ∙ ap (λ (l : List Location). get_or all k [] ++ l) (sym (kept_out start w images k i (and_left (is_home k (home_of images (start + w.offset))) (not (is_bound (all_binds i) (start + w.offset))) (ap (is_home k) (sym none)))));
}

addresses_at : (images : List Img) (bounds : List (List ℕ)) (k : ℕ) (i : Img) (a : ℕ) (d : List ℕ) → AreBounds (map cached_lists images) bounds → slice_get images k ≡ Some i → has (get_or bounds k d) a ≡ is_bound (all_binds i) a
addresses_at images bounds k i a d are got =
    let lt : k < length bounds = let within = slice_get_within images k i got in omega (arith, within, are.count, length-map images cached_lists) in
    are.each k (get_or bounds k d) (slice_get_read bounds (length bounds) k (get_or bounds k d) refl lt (again bounds k d lt)) a ∙ ap (λ (bs : List BoundWord). is_bound bs a) (binds_are images k i got)
  where
    again : (bs : List (List ℕ)) (k : ℕ) (d : List ℕ) → k < length bs → get_or bs k d ≡ get_or bs k (get_or bs k d)
    again [] k d lt = absurd (omega (arith, lt))
    again (b ∷ bs) zero d lt = refl
    again (b ∷ bs) (suc k) d lt = again bs k d (omega (arith, lt))

unequal : (a b : ℕ) → (a ≡ b → ⊥) → nat_eq a b ≡ false
unequal a b other = elim (cases_Bool (nat_eq a b)) [
  | inl is ↦ absurd (other (eqb-true a b is))
  | inr is_not ↦ is_not
]

pub bound_word : (start : ℕ) (w : ChainWord) (images : List Img) (bounds : List (List ℕ)) (all : List (List Location)) (h : Home) (own : List ℕ) → AreBounds (map cached_lists images) bounds → Some h ≡ home_of images (start + w.offset)
    → own ≡ get_or bounds h.image own → has own (start + w.offset) ≡ true → AreGrown start (w ∷ []) images all all
bound_word start w images bounds all h own are home at is = record {
  count = refl;
  each = λ k i got.
      sym (append-nil (get_or all k []))
      ∙ ap (λ (l : List Location). get_or all k [] ++ l) (sym (kept_out start w images k i (elim (cases_Bool (nat_eq h.image k)) [
        | inl same ↦
            let number : h.image ≡ k = eqb-true h.image k same in
            let bound : is_bound (all_binds i) (start + w.offset) ≡ true =
            sym (addresses_at images bounds k i (start + w.offset) own are got) ∙ (ap (λ (n : ℕ). has (get_or bounds n own) (start + w.offset)) (sym number) ∙ (ap (λ (b : List ℕ). has b (start + w.offset)) (sym at) ∙ is)) in
            and_right (is_home k (home_of images (start + w.offset))) (not (is_bound (all_binds i) (start + w.offset))) (ap not bound)
        | inr other ↦
            and_left (is_home k (home_of images (start + w.offset))) (not (is_bound (all_binds i) (start + w.offset))) (ap (is_home k) (sym home) ∙ other)
      ])));
}

pub free_word : (start : ℕ) (w : ChainWord) (images : List Img) (bounds : List (List ℕ)) (all new : List (List Location)) (h : Home) (own : List ℕ) (i : Img) (l : Location) → AreBounds (map cached_lists images) bounds
    → Some h ≡ home_of images (start + w.offset) → length all ≡ length images → own ≡ get_or bounds h.image own → has own (start + w.offset) ≡ false → i ≡ get_or images h.image i
    → l ≡ location_at i (start + w.offset) (Some h) → new ≡ slice_set all h.image (get_or all h.image [] ++ l ∷ []) → AreGrown start (w ∷ []) images all new
free_word start w images bounds all new h own i l are home long at is image_at l_is new_is = record {
  count = ap (λ (ls : List (List Location)). length ls) new_is ∙ length-set all h.image (get_or all h.image [] ++ l ∷ []);
  each = λ k j got. elim (cases_Bool (nat_eq h.image k)) [
    | inl same ↦
        let number : h.image ≡ k = eqb-true h.image k same in
        let lt : h.image < length images = home_within images (start + w.offset) h home in
        let there : slice_get images h.image ≡ Some i = slice_get_read images (length images) h.image i refl lt image_at in
        let one : i ≡ j = same_image i j (sym there ∙ (ap (λ (n : ℕ). slice_get images n) number ∙ got)) in
        let bound : is_bound (all_binds j) (start + w.offset) ≡ false =
        sym (addresses_at images bounds k j (start + w.offset) own are got) ∙ (ap (λ (n : ℕ). has (get_or bounds n own) (start + w.offset)) (sym number) ∙ (ap (λ (b : List ℕ). has b (start + w.offset)) (sym at) ∙ is)) in
        let is_in : is_free start images k (all_binds j) w ≡ true = ap₂ (λ (x y : Bool). x && not y) (ap (is_home k) (sym home) ∙ same) bound in
        let placed : l ≡ location_of start images j w = l_is ∙ (ap (λ (m : Img). location_at m (start + w.offset) (Some h)) one ∙ ap (λ (o : Option Home). location_at j (start + w.offset) o) home) in
        ap (λ (n : ℕ). get_or new n []) (sym number)
        ∙ (ap (λ (ls : List (List Location)). get_or ls h.image []) new_is
        ∙ (get_or-set_same all h.image (get_or all h.image [] ++ l ∷ []) [] (omega (arith, lt, long))
        ∙ (ap (λ (m : Location). get_or all h.image [] ++ m ∷ []) placed
        ∙ (ap (λ (n : ℕ). get_or all n [] ++ location_of start images j w ∷ []) number
        ∙ ap (λ (ls : List Location). get_or all k [] ++ ls) (sym (kept_in start w images k j is_in))))))
    | inr other ↦
        let differ : (k ≡ h.image) → ⊥ = λ e. true_false (sym (eq-eqb h.image k (sym e)) ∙ other) in
        ap (λ (ls : List (List Location)). get_or ls k []) new_is
        ∙ (get_or-set_other all h.image k (get_or all h.image [] ++ l ∷ []) [] differ
        ∙ (sym (append-nil (get_or all k []))
        ∙ ap (λ (ls : List Location). get_or all k [] ++ ls) (sym (kept_out start w images k j (and_left (is_home k (home_of images (start + w.offset))) (not (is_bound (all_binds j) (start + w.offset))) (ap (is_home k) (sym home) ∙ other))))))
  ];
}
  where
    true_false : true ≡ false → ⊥
    true_false e = cc

    same_image : (a b : Img) → Some a ≡ Some b → a ≡ b
    same_image a b e = cc

-- ---- all words

free_more : (start : ℕ) (ws vs : List ChainWord) (images : List Img) (k : ℕ) (i : Img) → free_words start (ws ++ vs) images k i ≡ free_words start ws images k i ++ free_words start vs images k i
unfolding free_words
free_more start ws vs images k i =
    ap (λ (l : List ChainWord). map (location_of start images i) l) (filter-append (is_free start images k (all_binds i)) ws vs)
    ∙ map-append (location_of start images i) (filter (is_free start images k (all_binds i)) ws) (filter (is_free start images k (all_binds i)) vs)

none_free : (start : ℕ) (images : List Img) (k : ℕ) (i : Img) → free_words start [] images k i ≡ []
unfolding free_words
none_free start images k i = refl

pub free_start : (start : ℕ) (words : List ChainWord) (images : List Img) (all : List (List Location)) → all ≡ replicate (length images) [] → AreFree start (take 0 words) images all
free_start start words images all is = record {
  count = ap (λ (ls : List (List Location)). length ls) is ∙ length-replicate (length images) [];
  each = λ k i got.
      let lt : k < length images = slice_get_within images k i got in
      ap (λ (ls : List (List Location)). get_or ls k []) is ∙ (get_or-replicate (length images) k [] [] lt ∙ sym (none_free start images k i));
}

pub free_next : (start : ℕ) (words : List ChainWord) (images : List Img) (old new : List (List Location)) (n : ℕ) (w : ChainWord) → AreFree start (take n words) images old → n < length words → w ≡ get_or words n w
    → AreGrown start (w ∷ []) images old new → AreFree start (take (n + 1) words) images new
free_next start words images old new n w done lt at more = record {
  count = more.count ∙ done.count;
  each = λ k i got.
      more.each k i got
      ∙ (ap (λ (l : List Location). l ++ free_words start (w ∷ []) images k i) (done.each k i got)
      ∙ (sym (free_more start (take n words) (w ∷ []) images k i)
      ∙ ap (λ (ws : List ChainWord). free_words start ws images k i) (sym (take_more words n w lt ∙ ap (λ (v : ChainWord). take n words ++ v ∷ []) (sym at)))));
}

pub free_all : (start : ℕ) (words : List ChainWord) (images : List Img) (all : List (List Location)) (n : ℕ) → AreFree start (take n words) images all → length words ≤ n → AreFree start words images all
free_all start words images all n done past = subst (λ (ws : List ChainWord). AreFree start ws images all) (take_all n words past) done

pub lists_long : (vs : List (Vec Location Global)) → length (lists vs) ≡ length vs
lists_long vs = length-map vs (λ (v : Vec Location Global). v.items)
