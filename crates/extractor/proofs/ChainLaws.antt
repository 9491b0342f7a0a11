-- What is found of chain words by the addresses that are bound is what is found by the binds.
use Rattle.std.proofs.Common.{◌≡◌, ◌≤◌, ℕ, zero, suc, ◌+◌, ◌-◌, ◌%◌, Bool, true, false, not, ◌&&◌, ◌||◌, nat_eq, nat_lt, Option, Some, None, List, [], ◌∷◌, ◌++◌, map, length, refl, sym, ap, ap₂, ◌∙◌, subst, arith, if◌then◌else◌}
use Rattle.std.specs.Prelude.{slice_get, is_some}
use Rattle.std.specs.List.{list_any, All}
use Rattle.std.proofs.lemmas.Bool.Decides.{nat_tests}
use Rattle.std.proofs.lemmas.List.{length-map}
use Rattle.dsc_base.specs.declared.fault.Finding.{Finding}
use Rattle.dsc_base.specs.declared.finding_kind.FindingKind.TheVariants.{ChainOutside, ForeignPointer}
use Rattle.macho_image.specs.Records.{Seg, Img}
use Rattle.macho_image.specs.Places.{place_fault, IsWord}
use Rattle.bind_ops.specs.Records.{BoundWord}
use Rattle.rebase_ops.specs.Writing.{offset_in}
use Rattle.bind_ops.specs.declared.kind.StreamKind.TheVariants.{Bind, Lazy}
use Rattle.bind_ops.specs.Binds.{binds_of}
use Rattle.bind_ops.specs.Clash.{is_skew}
use Rattle.bind_ops.proofs.BindLaws.{accepted_binds}
use Rattle.prebind.specs.Sets.{all_binds}
use Rattle.prebind.specs.Words.{is_bound}
use Rattle.slide_chain.specs.declared.words.ChainWord.{ChainWord}
use Rattle.cache_header.specs.Findings.{finding}
use Rattle.dsc_base.specs.Refusals.{IsViewRefusal}
use Rattle.dsc_base.specs.declared.fault.ViewFault.{ViewFault}
use Rattle.dsc_base.specs.declared.fault.ViewFault.TheVariants.{Broken as BrokenView, Memory as ViewMemory}
use Rattle.cache_check.specs.Images.{each_of}
use Rattle.std.specs.Option.{option_or}
use Rattle.extractor.specs.declared.homes.Home.{Home}
use Rattle.extractor.specs.Placing.{home_of, is_crossed}
use Rattle.extractor.specs.Reading.{IsRead, AreRead}
use Rattle.extractor.specs.Chained as tried
use Rattle.extractor.specs.Chained.{binds_at, has, AreAddresses, AreBounds, IsAddress, HaveAddresses}
use Rattle.extractor.specs.Vetting as spec
use Rattle.extractor.specs.Vetting.{cached_lists, cached_set}

-- ---- binds at multiples of four

abbrev pub AreFours : List BoundWord → Type 0
AreFours [] = Unit {0}
AreFours (b ∷ bs) = (b.at.address % 4 ≡ 0) × AreFours bs

fours : (i : Img) (bs : List BoundWord) → All (λ (b : BoundWord). IsWord i b.at) bs → AreFours bs
fours i [] all = tt
fours i (b ∷ bs) all = ((all 0 b (omega arith)).aligned, fours i bs (λ k d lt. all (suc k) d (omega (arith, lt))))

fours_both : (bs cs : List BoundWord) → AreFours bs → AreFours cs → AreFours (bs ++ cs)
fours_both [] cs own rest = rest
fours_both (b ∷ bs) cs own rest = (own.0, fours_both bs cs own.1 rest)

pub read_fours : (i : Img) → IsRead i → AreFours (all_binds i)
read_fours i read =
    fours_both (binds_of Bind i.streams.bind i) (binds_of Lazy i.streams.lazy i) (fours i (binds_of Bind i.streams.bind i) (accepted_binds Bind i i.streams.bind read.binds).all)
    (fours i (binds_of Lazy i.streams.lazy i) (accepted_binds Lazy i i.streams.lazy read.lazy).all)

-- a word that shares a part of another one is half a word away
skew_one : (x a : ℕ) → x % 4 ≡ 0 → a % 4 ≡ 0 → 4 ≤ a → (nat_eq x (a - 4) || nat_eq x (a + 4)) ≡ is_skew x a
skew_one x a own other low = grind (arith, nat_tests)

or_swap : (p q r s : Bool) → ((p || q) || (r || s)) ≡ ((p || r) || (q || s))
or_swap true q r s = refl
or_swap false true true s = refl
or_swap false true false s = refl
or_swap false false r s = refl

crossed : (bs : List BoundWord) (a : ℕ) → AreFours bs → a % 4 ≡ 0 → 4 ≤ a → (is_bound bs (a - 4) || is_bound bs (a + 4)) ≡ is_crossed bs a
crossed [] a own aligned low = refl
crossed (b ∷ bs) a own aligned low =
    or_swap (nat_eq b.at.address (a - 4)) (is_bound bs (a - 4)) (nat_eq b.at.address (a + 4)) (is_bound bs (a + 4))
    ∙ ap₂ (λ (x y : Bool). x || y) (skew_one b.at.address a own.0 aligned low) (crossed bs a own.1 aligned low)

-- ---- one image

outside_same : (i : Img) (binds : List BoundWord) (bound : List ℕ) (g a : ℕ) → AreAddresses binds bound → AreFours binds → IsAddress a → tried.is_outside i bound g a ≡ spec.is_outside i binds g a
outside_same i binds bound g a are own address =
    ap (λ (x : Bool). nat_lt 15 g || (not i.has_dyld_info || (is_some (place_fault i (Some g) (offset_in i g a) 0) || x)))
    (ap₂ (λ (x y : Bool). x || y) (are (a - 4)) (are (a + 4)) ∙ crossed binds a own address.aligned address.low)

foreign_same : (segments : List Seg) (binds : List BoundWord) (bound : List ℕ) (a value : ℕ) → AreAddresses binds bound → tried.is_foreign segments bound a value ≡ spec.is_foreign segments binds a value
foreign_same segments binds bound a value are = ap (λ (x : Bool). not x && not (list_any (spec.reaches value) segments)) (are a)

-- ---- the image of a number

record AreTried (images : List Img) (bounds : List (List ℕ)) : Type 0 where
  pub bounds_are : AreBounds (map cached_lists images) bounds
  pub read : AreRead images

pub binds_are : (images : List Img) (k : ℕ) (i : Img) → slice_get images k ≡ Some i → binds_at (map cached_lists images) k ≡ all_binds i
binds_are [] k i got = absurd (cc)
binds_are (j ∷ js) zero i got = let same : j ≡ i = cc in ap (λ (m : Img). all_binds m) same
binds_are (j ∷ js) (suc k) i got = binds_are js k i got

read_at : (images : List Img) (k : ℕ) (i : Img) → AreRead images → slice_get images k ≡ Some i → IsRead i
read_at [] k i read got = absurd (cc)
read_at (j ∷ js) zero i read got = let same : j ≡ i = cc in subst IsRead same (read 0 j (omega arith))
read_at (j ∷ js) (suc k) i read got = read_at js k i (λ n d lt. read (suc n) d (omega (arith, lt))) got

-- the two lists are as long as each other
not_missing : (images : List Img) (bounds : List (List ℕ)) (k : ℕ) (i : Img) → length bounds ≡ length images → slice_get images k ≡ Some i → slice_get bounds k ≡ None → ⊥
not_missing [] bounds k i same got none = cc
not_missing (j ∷ js) [] k i same got none = omega (arith, same)
not_missing (j ∷ js) (b ∷ bs) zero i same got none = cc
not_missing (j ∷ js) (b ∷ bs) (suc k) i same got none = not_missing js bs k i (omega (arith, same)) got none

outside_at_same : (images : List Img) (bounds : List (List ℕ)) (k g a : ℕ) (o : Option Img) (p : Option (List ℕ)) → AreTried images bounds → IsAddress a → slice_get images k ≡ o → slice_get bounds k ≡ p
    → tried.outside_in o p g a ≡ spec.outside_in (binds_at (map cached_lists images) k) o g a
outside_at_same images bounds k g a None p are address got given = refl
outside_at_same images bounds k g a (Some i) None are address got given = absurd (not_missing images bounds k i (are.bounds_are.count ∙ length-map images cached_lists) got given)
outside_at_same images bounds k g a (Some i) (Some b) are address got given =
    outside_same i (binds_at (map cached_lists images) k) b g a (are.bounds_are.each k b given) (subst AreFours (sym (binds_are images k i got)) (read_fours i (read_at images k i are.read got))) address

foreign_at_same : (images : List Img) (bounds : List (List ℕ)) (k a value : ℕ) (o : Option Img) (p : Option (List ℕ)) → AreTried images bounds → slice_get images k ≡ o → slice_get bounds k ≡ p
    → tried.foreign_in o p a value ≡ spec.foreign_in (binds_at (map cached_lists images) k) o a value
foreign_at_same images bounds k a value None p are got given = refl
foreign_at_same images bounds k a value (Some i) None are got given = absurd (not_missing images bounds k i (are.bounds_are.count ∙ length-map images cached_lists) got given)
foreign_at_same images bounds k a value (Some i) (Some b) are got given = foreign_same i.segments (binds_at (map cached_lists images) k) b a value (are.bounds_are.each k b given)

-- ---- one word

outside_home : (images : List Img) (bounds : List (List ℕ)) (w : ChainWord) (a : ℕ) (h : Option Home) → AreTried images bounds → IsAddress a → tried.outside_at images bounds w.offset a h ≡ spec.outside_at (cached_set images) w a h
unfolding cached_set
outside_home images bounds w a None are address = refl
outside_home images bounds w a (Some h) are address =
    ap (λ (b : Bool). if b then Some (finding ChainOutside h.image w.offset) else None) (outside_at_same images bounds h.image h.segment a (slice_get images h.image) (slice_get bounds h.image) are address refl refl)

foreign_home : (images : List Img) (bounds : List (List ℕ)) (w : ChainWord) (a : ℕ) (h : Option Home) → AreTried images bounds → tried.foreign_at images bounds w a h ≡ spec.foreign_at (cached_set images) w a h
unfolding cached_set
foreign_home images bounds w a None are = refl
foreign_home images bounds w a (Some h) are =
    ap (λ (b : Bool). if b then Some (finding ForeignPointer h.image w.offset) else None) (foreign_at_same images bounds h.image a w.value (slice_get images h.image) (slice_get bounds h.image) are refl refl)

-- ---- all words

outsides : (start : ℕ) (images : List Img) (bounds : List (List ℕ)) (words : List ChainWord) → AreTried images bounds → HaveAddresses start words
    → map (tried.outside_of images bounds start) words ≡ map (spec.outside_of start (cached_set images)) words
unfolding cached_set
outsides start images bounds [] are addresses = refl
outsides start images bounds (w ∷ ws) are addresses =
    ap₂ (λ (f : Option Finding) (fs : List (Option Finding)). f ∷ fs) (outside_home images bounds w (start + w.offset) (home_of images (start + w.offset)) are (addresses 0 w (omega arith)))
    (outsides start images bounds ws are (λ k d lt. addresses (suc k) d (omega (arith, lt))))

foreigns : (start : ℕ) (images : List Img) (bounds : List (List ℕ)) (words : List ChainWord) → AreTried images bounds → map (tried.foreign_of images bounds start) words ≡ map (spec.foreign_of start (cached_set images)) words
unfolding cached_set
foreigns start images bounds [] are = refl
foreigns start images bounds (w ∷ ws) are =
    ap₂ (λ (f : Option Finding) (fs : List (Option Finding)). f ∷ fs) (foreign_home images bounds w (start + w.offset) (home_of images (start + w.offset)) are) (foreigns start images bounds ws are)

pub chain_is : (start : ℕ) (words : List ChainWord) (images : List Img) (bounds : List (List ℕ)) → AreBounds (map cached_lists images) bounds → AreRead images → HaveAddresses start words
    → spec.by_image (map (tried.outside_of images bounds start) words) ≡ spec.chain_finding start words (cached_set images)
unfolding spec.chain_finding
chain_is start words images bounds bounds_are read addresses = ap spec.by_image (outsides start images bounds words (record { bounds_are = bounds_are; read = read }) addresses)

pub foreign_is : (start : ℕ) (words : List ChainWord) (images : List Img) (bounds : List (List ℕ)) → AreBounds (map cached_lists images) bounds → AreRead images
    → spec.by_image (map (tried.foreign_of images bounds start) words) ≡ spec.foreign_finding start words (cached_set images)
unfolding spec.foreign_finding
foreign_is start words images bounds bounds_are read = ap spec.by_image (foreigns start images bounds words (record { bounds_are = bounds_are; read = read }))

-- ---- the three kinds of findings, one after the other

pub outside_found : (start : ℕ) (words : List ChainWord) (images : List Img) (f : Finding) → Some f ≡ spec.chain_finding start words (cached_set images) → spec.words_finding start words (cached_set images) ≡ Some f
unfolding spec.words_finding
outside_found start words images f is =
    ap (λ (o : Option Finding). option_or o (option_or (spec.pointer_finding start words (cached_set images)) (option_or (spec.foreign_finding start words (cached_set images)) None))) (sym is)

after_chain : (start : ℕ) (words : List ChainWord) (images : List Img) → None ≡ spec.chain_finding start words (cached_set images)
    → spec.words_finding start words (cached_set images) ≡ option_or (spec.pointer_finding start words (cached_set images)) (option_or (spec.foreign_finding start words (cached_set images)) None)
unfolding spec.words_finding
after_chain start words images is =
    ap (λ (o : Option Finding). option_or o (option_or (spec.pointer_finding start words (cached_set images)) (option_or (spec.foreign_finding start words (cached_set images)) None))) (sym is)

pub pointer_refused : (start : ℕ) (words : List ChainWord) (images : List Img) (fault : ViewFault) → None ≡ spec.chain_finding start words (cached_set images) → IsViewRefusal (each_of (spec.pointer_in start words (cached_set images)) 0 images) fault
    → IsViewRefusal (spec.words_finding start words (cached_set images)) fault
unfolding spec.pointer_finding cached_set
pointer_refused start words images (BrokenView f) is found = after_chain start words images is ∙ ap (λ (o : Option Finding). option_or o (option_or (spec.foreign_finding start words (cached_set images)) None)) found
pointer_refused start words images ViewMemory is found = tt

pub after_pointers : (start : ℕ) (words : List ChainWord) (images : List Img) (o : Option Finding) → None ≡ spec.chain_finding start words (cached_set images) → each_of (spec.pointer_in start words (cached_set images)) 0 images ≡ None
    → o ≡ spec.foreign_finding start words (cached_set images) → spec.words_finding start words (cached_set images) ≡ o
unfolding spec.pointer_finding cached_set
after_pointers start words images o is none foreign =
    after_chain start words images is
    ∙ (ap (λ (p : Option Finding). option_or p (option_or (spec.foreign_finding start words (cached_set images)) None)) none
    ∙ (ap (λ (p : Option Finding). option_or p None) (sym foreign) ∙ last o))
  where
    last : (o : Option Finding) → option_or o None ≡ o
    last None = refl
    last (Some f) = refl
