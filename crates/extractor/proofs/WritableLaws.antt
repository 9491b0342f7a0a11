-- The chain words of an image that aren't bound can be written as rebases.
use Rattle.std.proofs.Common.{◌≡◌, ◌≤◌, ◌<◌, ℕ, zero, suc, ◌+◌, ◌-◌, ◌^◌, Bool, true, false, not, ◌||◌, nat_eq, nat_le, nat_lt, Option, Some, None, List, [], ◌∷◌, map, filter, length, get_or, refl, sym, ap, ◌∙◌, subst, arith, if◌then◌else◌, inl, inr}
use Rattle.std.specs.Prelude.{slice_get, is_some, unwrap_or}
use Rattle.std.specs.List.{All}
use Rattle.std.proofs.lemmas.Bool.{cases_lt, eqb-true, leb-true, lt-ltb, and_parts, false≢true}
use Rattle.std.proofs.lemmas.List.Elements.{All-cons, All-nil}
use Rattle.dsc_base.specs.declared.fault.Finding.{Finding}
use Rattle.dsc_base.specs.declared.finding_kind.FindingKind.TheVariants.{ChainOutside}
use Rattle.macho_image.specs.Records.{Seg, Img}
use Rattle.macho_image.specs.declared.place.Location.{Location}
use Rattle.macho_image.specs.declared.places.record.PlaceFault.{PlaceFault}
use Rattle.macho_image.specs.Places.{wrap, section_at, place_fault, location, location_in, IsWord}
use Rattle.macho_image.specs.Segments.{contains}
use Rattle.macho_image.proofs.WordLaws.{accepted_one}
use Rattle.bind_ops.specs.Records.{BoundWord}
use Rattle.rebase_ops.specs.Writing.{offset_in, offset_from, CanBeWritten}
use Rattle.prebind.specs.Sets.{all_binds}
use Rattle.prebind.specs.Words.{streams_at, is_bound}
use Rattle.slide_chain.specs.declared.words.ChainWord.{ChainWord}
use Rattle.slide_chain.specs.Making.{AreWords}
use Rattle.cache_header.specs.Findings.{finding}
use Rattle.cache_check.specs.Views.{offsets_of}
use Rattle.extractor.specs.declared.homes.Home.{Home}
use Rattle.extractor.specs.Placing.{has_data, home_in, or_else, home_from, home_of, is_crossed}
use Rattle.extractor.specs.ExtractOf.{is_home, is_free, location_at, location_of, free_words}
use Rattle.extractor.specs.Chained.{HaveAddresses}
use Rattle.extractor.specs.Vetting.{cached_set, earlier, by_image, outside_in, outside_at, outside_of, is_outside, chain_finding}
use Rattle.extractor.proofs.ChainLaws.{binds_are}

-- ---- the segment of a home

pub record IsAt (k g : ℕ) (ss : List Seg) (a : ℕ) (h : Home) : Type 0 where
  pub image : h.image ≡ k
  pub place : ℕ
  pub number : h.segment ≡ g + place
  pub segment : Seg
  pub there : slice_get ss place ≡ Some segment
  pub writable : segment.initprot ≡ 3
  pub low : segment.vmaddr ≤ a

at_test : (k g : ℕ) (s : Seg) (ss : List Seg) (a : ℕ) (h : Home) (b : Bool) → has_data a s ≡ b → (home_in k (g + 1) ss a ≡ Some h → IsAt k (g + 1) ss a h) → (if b then Some (record { image = k; segment = g }) else home_in k (g + 1) ss a) ≡ Some h
    → IsAt k g (s ∷ ss) a h
at_test k g s ss a h true is others here =
    let same : record { image = k; segment = g } ≡ h = cc in
    let parts = and_parts (nat_eq s.initprot 3) (contains s a) is in
    let inner = and_parts (nat_le s.vmaddr a) (nat_lt a (s.vmaddr + s.vmsize)) parts.1 in
    let number = ap (λ (m : Home). m.segment) same in
    record {
      image = sym (ap (λ (m : Home). m.image) same);
      place = 0;
      number = omega (arith, number);
      segment = s;
      there = refl;
      writable = eqb-true s.initprot 3 parts.0;
      low = leb-true s.vmaddr a inner.0;
    }
at_test k g s ss a h false is others there =
    let later = others there in
    record {
      image = later.image;
      place = suc later.place;
      number = omega (arith, later.number);
      segment = later.segment;
      there = later.there;
      writable = later.writable;
      low = later.low;
    }

home_at : (k g : ℕ) (ss : List Seg) (a : ℕ) (h : Home) → home_in k g ss a ≡ Some h → IsAt k g ss a h
home_at k g [] a h is = absurd (cc)
home_at k g (s ∷ ss) a h is = at_test k g s ss a h (has_data a s) refl (λ later. home_at k (g + 1) ss a h later) is

pub record IsIn (k : ℕ) (images : List Img) (a : ℕ) (h : Home) : Type 0 where
  pub place : ℕ
  pub number : h.image ≡ k + place
  pub image : Img
  pub there : slice_get images place ≡ Some image
  pub at : IsAt h.image 0 image.segments a h

in_test : (k : ℕ) (i : Img) (is : List Img) (a : ℕ) (h : Home) (o : Option Home) → home_in k 0 i.segments a ≡ o → (home_from (k + 1) is a ≡ Some h → IsIn (k + 1) is a h) → or_else o (home_from (k + 1) is a) ≡ Some h → IsIn k (i ∷ is) a h
in_test k i is a h None none others there =
    let later = others there in
    record { place = suc later.place; number = omega (arith, later.number); image = later.image; there = later.there; at = later.at }
in_test k i is a h (Some m) found others there =
    let e : m ≡ h = cc in
    let at = home_at k 0 i.segments a h (found ∙ ap (λ (n : Home). let o : Option Home = Some n in o) e) in
    record { place = 0; number = omega (arith, at.image); image = i; there = refl; at = subst (λ (n : ℕ). IsAt n 0 i.segments a h) (sym at.image) at }

pub image_at : (k : ℕ) (images : List Img) (a : ℕ) (h : Home) → home_from k images a ≡ Some h → IsIn k images a h
image_at k [] a h is = absurd (cc)
image_at k (i ∷ is) a h found = in_test k i is a h (home_in k 0 i.segments a) refl (λ later. image_at (k + 1) is a h later) found

-- ---- nothing is found of any word

none_of : (f : Option Finding) (others : Option Finding) → earlier f others ≡ None → (f ≡ None) × (others ≡ None)
none_of None others none = (refl, none)
none_of (Some f) None none = absurd (cc)
none_of (Some f) (Some g) none = absurd (by (nat_lt g.image f.image) none)
  where
    by : (b : Bool) → (if b then Some g else Some f) ≡ None → ⊥
    by true e = cc
    by false e = cc

each_none : (finds : ChainWord → Option Finding) (ws : List ChainWord) → by_image (map finds ws) ≡ None → All (λ (w : ChainWord). finds w ≡ None) ws
unfolding by_image
each_none finds [] none = All-nil (λ (w : ChainWord). finds w ≡ None)
each_none finds (w ∷ ws) none =
    let parts = none_of (finds w) (by_image (map finds ws)) none in
    All-cons (λ (v : ChainWord). finds v ≡ None) w ws parts.0 (each_none finds ws parts.1)

pub all_inside : (start : ℕ) (words : List ChainWord) (images : List Img) → chain_finding start words (cached_set images) ≡ None → All (λ (w : ChainWord). outside_of start (cached_set images) w ≡ None) words
unfolding chain_finding
all_inside start words images none = each_none (outside_of start (cached_set images)) words none

-- ---- one word

record IsGood (i : Img) (binds : List BoundWord) (g a : ℕ) : Type 0 where
  pub few : g < 16
  pub info : not i.has_dyld_info ≡ false
  pub fine : place_fault i (Some g) (offset_in i g a) 0 ≡ None
  pub clear : is_crossed binds a ≡ false

or_none : (a b : Bool) → (a || b) ≡ false → (a ≡ false) × (b ≡ false)
or_none false b none = (refl, none)
or_none true b none = absurd (cc)

is_none : (o : Option PlaceFault) → is_some o ≡ false → o ≡ None
is_none None none = refl
is_none (Some f) none = absurd (cc)

good : (i : Img) (binds : List BoundWord) (g a : ℕ) → is_outside i binds g a ≡ false → IsGood i binds g a
good i binds g a none =
    let one = or_none (nat_lt 15 g) (not i.has_dyld_info || (is_some (place_fault i (Some g) (offset_in i g a) 0) || is_crossed binds a)) none in
    let two = or_none (not i.has_dyld_info) (is_some (place_fault i (Some g) (offset_in i g a) 0) || is_crossed binds a) one.1 in
    let three = or_none (is_some (place_fault i (Some g) (offset_in i g a) 0)) (is_crossed binds a) two.1 in
    record {
      few = elim (cases_lt 15 g) [
        | inl over ↦ absurd (let t = lt_true over in cc)
        | inr within ↦ omega (arith, within)
      ];
      info = two.0;
      fine = is_none (place_fault i (Some g) (offset_in i g a) 0) three.0;
      clear = three.1;
    }
  where
    lt_true : 15 < g → nat_lt 15 g ≡ true
    lt_true lt = lt-ltb 15 g lt

unfound : (k at : ℕ) (b : Bool) → (if b then Some (finding ChainOutside k at) else None) ≡ None → b ≡ false
unfound k at true none = absurd (cc)
unfound k at false none = refl

-- the location of a word of an image
located : (i : Img) (g a : ℕ) (s : Seg) → slice_get i.segments g ≡ Some s → s.vmaddr ≤ a → a < 2 ^ 64 → location i (Some g) (offset_in i g a) ≡ record { segment = g; section = unwrap_or (section_at i.sections g a) 0; address = a }
unfolding location offset_in
located i g a s there low high =
    let back : wrap (s.vmaddr + (a - s.vmaddr)) ≡ a = omega (arith, low, high) in
    ap (λ (o : Option Seg). location_in i.sections g o (offset_from o a)) there
    ∙ ap (λ (x : ℕ). let l : Location = record { segment = g; section = unwrap_or (section_at i.sections g x) 0; address = x } in l) back

pub record IsWritable (i : Img) (l : Location) : Type 0 where
  pub word : IsWord i l
  pub low : l.segment < 16
  pub info : not i.has_dyld_info ≡ false
  pub clear : is_crossed (all_binds i) l.address ≡ false

pub written : (start : ℕ) (images : List Img) (k : ℕ) (i : Img) (w : ChainWord) (o : Option Home) → home_of images (start + w.offset) ≡ o → slice_get images k ≡ Some i → is_home k o ≡ true → start + w.offset < 2 ^ 64
    → outside_at (cached_set images) w (start + w.offset) o ≡ None → IsWritable i (location_at i (start + w.offset) o)
unfolding cached_set home_of
written start images k i w None home got is high none = absurd (false≢true is)
written start images k i w (Some h) home got is high none =
    let a : ℕ = start + w.offset in
    let number : h.image ≡ k = eqb-true h.image k is in
    let inside = image_at 0 images a h home in
    let same : h.image ≡ inside.place = omega (arith, inside.number) in
    let here : slice_get images h.image ≡ Some i = ap (λ (n : ℕ). slice_get images n) number ∙ got in
    let one : inside.image ≡ i = same_image inside.image i (sym inside.there ∙ (ap (λ (n : ℕ). slice_get images n) (sym same) ∙ here)) in
    let at : IsAt h.image 0 i.segments a h = subst (λ (j : Img). IsAt h.image 0 j.segments a h) one inside.at in
    let g : h.segment ≡ at.place = omega (arith, at.number) in
    let there : slice_get i.segments h.segment ≡ Some at.segment = ap (λ (n : ℕ). slice_get i.segments n) g ∙ at.there in
    let clear : outside_in (streams_at (cached_set images) h.image).binds (slice_get images h.image) h.segment a ≡ false = unfound h.image w.offset (outside_in (streams_at (cached_set images) h.image).binds (slice_get images h.image) h.segment a) none in
    let fine = good i (streams_at (cached_set images) h.image).binds h.segment a (sym (ap (λ (o : Option Img). outside_in (streams_at (cached_set images) h.image).binds o h.segment a) here) ∙ clear) in
    record {
      word = subst (λ (l : Location). IsWord i l) (located i h.segment a at.segment there at.low high) (accepted_one i (Some h.segment) (offset_in i h.segment a) 0 fine.fine).word;
      low = fine.few;
      info = fine.info;
      clear = ap (λ (bs : List BoundWord). is_crossed bs a) (sym (binds_are images h.image i here)) ∙ fine.clear;
    }
  where
    same_image : (a b : Img) → Some a ≡ Some b → a ≡ b
    same_image a b e = cc

-- ---- all words of an image

abbrev spaced : ℕ → List Location → Type 0
spaced from [] = Unit {0}
spaced from (l ∷ ls) = (from ≤ l.address) × spaced (l.address + 8) ls

record AreWritable (i : Img) (from : ℕ) (ls : List Location) : Type 0 where
  pub each : All (IsWritable i) ls
  pub apart : spaced from ls

pub address_is : (i : Img) (a : ℕ) (o : Option Home) → (location_at i a o).address ≡ a
address_is i a None = refl
address_is i a (Some h) = refl

later_from : (from to : ℕ) (ls : List Location) → from ≤ to → spaced to ls → spaced from ls
later_from from to [] le rest = tt
later_from from to (l ∷ ls) le rest = (omega (arith, le, rest.0), rest.1)

gather : (start from : ℕ) (images : List Img) (k : ℕ) (i : Img) (ws : List ChainWord) → slice_get images k ≡ Some i → AreWords from (offsets_of ws) → HaveAddresses start ws → All (λ (w : ChainWord). outside_of start (cached_set images) w ≡ None) ws
    → AreWritable i (start + from) (free_words start ws images k i)
unfolding free_words cached_set
gather start from images k i [] got are addresses none = record { each = All-nil (IsWritable i); apart = tt }
gather start from images k i (w ∷ ws) got are addresses none =
    let rest = gather start (w.offset + 8) images k i ws got are.3 (λ n d lt. addresses (suc n) d (omega (arith, lt))) (λ n d lt. none (suc n) d (omega (arith, lt))) in
    by (is_free start images k (all_binds i) w) refl rest
  where
    by : (b : Bool) → is_free start images k (all_binds i) w ≡ b → AreWritable i (start + (w.offset + 8)) (free_words start ws images k i) → AreWritable i (start + from) (map (location_of start images i) (if b then w ∷ filter (is_free start images k (all_binds i)) ws else filter (is_free start images k (all_binds i)) ws))
    by false is rest = record { each = rest.each; apart = later_from (start + from) (start + (w.offset + 8)) (free_words start ws images k i) (omega (arith, are.0)) rest.apart }
    by true is rest =
        let own = (and_parts (is_home k (home_of images (start + w.offset))) (not (is_bound (all_binds i) (start + w.offset))) is).0 in
        let high : start + w.offset < 2 ^ 64 = let a = addresses 0 w (omega arith) in omega (arith, a.high) in
        let one = written start images k i w (home_of images (start + w.offset)) refl got own high (none 0 w (omega arith)) in
        let at : (location_of start images i w).address ≡ start + w.offset = address_is i (start + w.offset) (home_of images (start + w.offset)) in
        record {
          each = All-cons (IsWritable i) (location_of start images i w) (free_words start ws images k i) one rest.each;
          apart = (omega (arith, at, are.0), later_from ((location_of start images i w).address + 8) (start + (w.offset + 8)) (free_words start ws images k i) (omega (arith, at)) rest.apart);
        }

spaced_at : (from : ℕ) (ls : List Location) → spaced from ls → (k : ℕ) (d : Location) → k + 1 < length ls → (get_or ls k d).address + 8 ≤ (get_or ls (k + 1) d).address
spaced_at from [] apart k d lt = absurd (omega (arith, lt))
spaced_at from (l ∷ []) apart k d lt = absurd (omega (arith, lt))
spaced_at from (l ∷ (m ∷ ls)) apart zero d lt = apart.1.0
spaced_at from (l ∷ (m ∷ ls)) apart (suc k) d lt =
    let next : suc (k + 1) ≡ suc k + 1 = omega arith in
    subst (λ (n : ℕ). (get_or (m ∷ ls) k d).address + 8 ≤ (get_or (l ∷ (m ∷ ls)) n d).address) next (spaced_at (l.address + 8) (m ∷ ls) apart.1 k d (omega (arith, lt)))

pub can_be_written : (start : ℕ) (words : List ChainWord) (images : List Img) (k : ℕ) (i : Img) → slice_get images k ≡ Some i → AreWords 0 (offsets_of words) → HaveAddresses start words → chain_finding start words (cached_set images) ≡ None
    → CanBeWritten i (free_words start words images k i)
can_be_written start words images k i got are addresses none =
    let all = gather start 0 images k i words got are addresses (all_inside start words images none) in
    record {
      all = λ n d lt. (all.each n d lt).word;
      apart = spaced_at (start + 0) (free_words start words images k i) all.apart;
      low = λ n d lt. (all.each n d lt).low;
    }

-- an image without dyld info has none
pub without_info : (start : ℕ) (words : List ChainWord) (images : List Img) (k : ℕ) (i : Img) → slice_get images k ≡ Some i → AreWords 0 (offsets_of words) → HaveAddresses start words → chain_finding start words (cached_set images) ≡ None
    → i.has_dyld_info ≡ false → free_words start words images k i ≡ []
without_info start words images k i got are addresses none lacks =
    let all = gather start 0 images k i words got are addresses (all_inside start words images none) in
    nothing (free_words start words images k i) all.each
  where
    nothing : (ls : List Location) → All (IsWritable i) ls → ls ≡ []
    nothing [] each = refl
    nothing (l ∷ ls) each = absurd (false≢true (sym (each 0 l (omega arith)).info ∙ ap not lacks))
