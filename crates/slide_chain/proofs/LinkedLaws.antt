-- What linked data are: at any slide the edits with the pointers raised, and the chain words are the pointers.
use Rattle.std.proofs.Common.{◌≡◌, ◌≤◌, ◌<◌, ◌⊎◌, ℕ, zero, suc, ◌+◌, ◌-◌, ◌*◌, ◌/◌, ◌%◌, ◌^◌, List, [], ◌∷◌, map, length, get_or, refl, sym, ap, ap₂, subst, ◌∙◌, arith, inl, inr, Bool, true, false}
use Rattle.std.specs.Prelude.{nat_eq, ◌&&◌, ◌||◌, bit_and, if◌then◌else◌, None}
use Rattle.std.specs.Int.{bytes_low_first}
use Rattle.std.specs.List.{list_any}
use Rattle.std.proofs.lemmas.Bool.{eq-eqb, eqb-true, ne_eqb, cond-true, cond-false, cases_eq, and_from, or_right, false_from_ne_true, false≢true}
use Rattle.std.proofs.lemmas.List.{ext_get_or}
use Rattle.std.proofs.Math.Nat.{zero-mod}
use Rattle.std.proofs.lemmas.Nat.Bits.{and_high}
use Rattle.dsc_base.specs.declared.edits.Edit.{Edit}
use Rattle.dsc_base.specs.Numbers.{number_at, little_bytes}
use Rattle.dsc_base.specs.Edits.{put_all, AllInside, AllFit, ApartFrom, AllApart, IsAmong, settled, change_all}
use Rattle.dsc_base.proofs.EditLaws.{length-put_all, number_at-put_all, get_or-put_all, get_or-put_all_apart, in_one_or_apart, rising_apart, change_all-settled}
use Rattle.slide_chain.specs.declared.words.ChainWord.{ChainWord}
use Rattle.slide_chain.specs.Chains.{Slide, chain_words, chain_finding, slid_area}
use Rattle.slide_chain.specs.Making.{linking, info_of, page_firsts, extras_of, AreOutside, chains_break, given, raising}
use Rattle.slide_chain.specs.Linked.{linked_data, raised, value_at, chained_words, HasPointer, HavePointers, CanLink}
use Rattle.slide_chain.proofs.WordLaws.{made_ones}
use Rattle.slide_chain.proofs.LinkLaws.{AreBytes, IsLinkable, linking-inside, linking-rises, chain_words-made, limit_back}
use Rattle.slide_chain.proofs.MappedLaws.{slid-linked, raising-inside, raising-rises}
use Rattle.slide_chain.proofs.SoundLaws.{chains-sound}
use Rattle.slide_chain.proofs.RefusedLaws.{accepted_few}

-- ---- edits that keep apart

-- an edit covers a byte
abbrev pub Covers : Edit → ℕ → Type 0
Covers e i = (e.at ≤ i) × (i < e.at + e.width)

apart-among : (x : Edit) (at w : ℕ) (es : List Edit) → ApartFrom at w es → IsAmong x es → (at + w ≤ x.at) ⊎ (x.at + x.width ≤ at)
apart-among x at w [] apart among = absurd among
apart-among x at w (e ∷ es) apart (inl is) = subst (λ (v : Edit). (at + w ≤ v.at) ⊎ (v.at + v.width ≤ at)) (sym is) apart.0
apart-among x at w (e ∷ es) apart (inr later) = apart-among x at w es apart.1 later

never-both : (x y : Edit) (i : ℕ) → Covers x i → Covers y i → (x.at + x.width ≤ y.at) ⊎ (y.at + y.width ≤ x.at) → ⊥
never-both x y i in_x in_y (inl before) = omega (arith, in_x.1, in_y.0, before)
never-both x y i in_x in_y (inr behind) = omega (arith, in_x.0, in_y.1, behind)

-- only one of them covers a byte
same-edit : (x y : Edit) (es : List Edit) (i : ℕ) → AllApart es → IsAmong x es → IsAmong y es → Covers x i → Covers y i → x ≡ y
same-edit x y [] i apart among_x among_y in_x in_y = absurd among_x
same-edit x y (e ∷ es) i apart (inl is_x) (inl is_y) in_x in_y = is_x ∙ sym is_y
same-edit x y (e ∷ es) i apart (inl is_x) (inr later_y) in_x in_y =
    absurd (never-both x y i in_x in_y (subst (λ (v : Edit). (v.at + v.width ≤ y.at) ⊎ (y.at + y.width ≤ v.at)) (sym is_x) (apart-among y e.at e.width es apart.0 later_y)))
same-edit x y (e ∷ es) i apart (inr later_x) (inl is_y) in_x in_y =
    absurd (never-both y x i in_y in_x (subst (λ (v : Edit). (v.at + v.width ≤ x.at) ⊎ (x.at + x.width ≤ v.at)) (sym is_y) (apart-among x e.at e.width es apart.0 later_x)))
same-edit x y (e ∷ es) i apart (inr later_x) (inr later_y) in_x in_y = same-edit x y es i apart.1 later_x later_y in_x in_y

-- ---- the edits under a slide lie where the edits lie

pub raised-inside : (slide n : ℕ) (chained : List ℕ) (es : List Edit) → AllInside n es → AllInside n (map (raised slide chained) es)
raised-inside slide n chained [] inside = tt
raised-inside slide n chained (e ∷ es) inside = (inside.0, raised-inside slide n chained es inside.1)

raised-from : (slide at w : ℕ) (chained : List ℕ) (es : List Edit) → ApartFrom at w es → ApartFrom at w (map (raised slide chained) es)
raised-from slide at w chained [] apart = tt
raised-from slide at w chained (e ∷ es) apart = (apart.0, raised-from slide at w chained es apart.1)

from-raised : (slide at w : ℕ) (chained : List ℕ) (es : List Edit) → ApartFrom at w (map (raised slide chained) es) → ApartFrom at w es
from-raised slide at w chained [] apart = tt
from-raised slide at w chained (e ∷ es) apart = (apart.0, from-raised slide at w chained es apart.1)

pub raised-apart : (slide : ℕ) (chained : List ℕ) (es : List Edit) → AllApart es → AllApart (map (raised slide chained) es)
raised-apart slide chained [] apart = tt
raised-apart slide chained (e ∷ es) apart = (raised-from slide e.at e.width chained es apart.0, raised-apart slide chained es apart.1)

pub raised-among : (slide : ℕ) (chained : List ℕ) (e : Edit) (es : List Edit) → IsAmong e es → IsAmong (raised slide chained e) (map (raised slide chained) es)
raised-among slide chained e [] among = absurd among
raised-among slide chained e (x ∷ es) (inl is) = inl (ap (raised slide chained) is)
raised-among slide chained e (x ∷ es) (inr later) = inr (raised-among slide chained e es later)

-- ---- the places of the pointers

pub has-pointer : (edits : List Edit) (chained : List ℕ) (a : ℕ) → HavePointers edits chained → list_any (nat_eq a) chained ≡ true → HasPointer edits a
has-pointer edits [] a pointers among = absurd (false≢true among)
has-pointer edits (c ∷ chained) a pointers among =
    elim (cases_eq a c) [
      | inl same ↦ subst (HasPointer edits) (sym same) pointers.0
      | inr other ↦ has-pointer edits chained a pointers.1 (sym (ap (λ (b : Bool). b || list_any (nat_eq a) chained) (ne_eqb a c other)) ∙ among)
    ]

-- the byte that a pointer covers isn't apart from what becomes of the chained words
chained-apart : (slide i a : ℕ) (b chained : List ℕ) → list_any (nat_eq a) chained ≡ true → ApartFrom i 1 (map (settled b) (map (raising slide) chained)) → (i + 1 ≤ a) ⊎ (a + 8 ≤ i)
chained-apart slide i a b [] among apart = absurd (false≢true among)
chained-apart slide i a b (c ∷ chained) among apart =
    elim (cases_eq a c) [
      | inl same ↦ subst (λ (n : ℕ). (i + 1 ≤ n) ⊎ (n + 8 ≤ i)) (sym same) apart.0
      | inr other ↦ chained-apart slide i a b chained (sym (ap (λ (t : Bool). t || list_any (nat_eq a) chained) (ne_eqb a c other)) ∙ among) apart.1
    ]

-- what is set at a pointer's place
pub pointer-number : (edits : List Edit) (bytes : List ℕ) (a : ℕ) → AllInside (length bytes) edits → AllApart edits → AllFit edits → (p : HasPointer edits a) → number_at 8 (put_all edits bytes) a ≡ p.edit.value
pointer-number edits bytes a inside apart fit p =
    ap₂ (λ (w n : ℕ). number_at w (put_all edits bytes) n) (sym p.width) (sym p.place) ∙ number_at-put_all p.edit edits bytes inside apart fit p.among

-- an edit that a chained word becomes is a raised edit
record Origin (slide : ℕ) (chained : List ℕ) (edits : List Edit) (r : Edit) : Type 0 where
  edit : Edit
  among : IsAmong edit edits
  is : r ≡ raised slide chained edit

pointer-raised : (slide v a : ℕ) (chained : List ℕ) (edits : List Edit) → list_any (nat_eq a) chained ≡ true → (p : HasPointer edits a) → v ≡ p.edit.value
    → record { at = a; width = 8; value = if nat_eq v 0 then 0 else (v + slide) % 2 ^ 64 } ≡ raised slide chained p.edit
pointer-raised slide v a chained edits among p is =
    let value : (if nat_eq v 0 then 0 else (v + slide) % 2 ^ 64) ≡ (p.edit.value + slide) % 2 ^ 64 =
    cond-false (nat_eq v 0) 0 ((v + slide) % 2 ^ 64) (ne_eqb v 0 (λ none. omega (arith, none, is, p.some))) ∙ ap (λ (n : ℕ). (n + slide) % 2 ^ 64) is in
    let here : list_any (nat_eq p.edit.at) chained ≡ true = ap (λ (n : ℕ). list_any (nat_eq n) chained) p.place ∙ among in
    ap (λ (n : ℕ). let e : Edit = record { at = a; width = 8; value = n } in e) (value ∙ sym (cond-true (list_any (nat_eq p.edit.at) chained) ((p.edit.value + slide) % 2 ^ 64) p.edit.value here))
    ∙ ap₂ (λ (n w : ℕ). let e : Edit = record { at = n; width = w; value = (raised slide chained p.edit).value } in e) (sym p.place) (sym p.width)

origin : (slide : ℕ) (all ws : List ℕ) (edits : List Edit) (bytes : List ℕ) (r : Edit) → AllInside (length bytes) edits → AllApart edits → AllFit edits → HavePointers edits ws
    → ((a : ℕ) → list_any (nat_eq a) ws ≡ true → list_any (nat_eq a) all ≡ true) → IsAmong r (map (settled (put_all edits bytes)) (map (raising slide) ws)) → Origin slide all edits r
origin slide all [] edits bytes r inside apart fit pointers of among = absurd among
origin slide all (a ∷ ws) edits bytes r inside apart fit pointers of (inl is) =
    record {
      edit = pointers.0.edit;
      among = pointers.0.among;
      is = is ∙ pointer-raised slide (number_at 8 (put_all edits bytes) a) a all edits (of a (ap (λ (t : Bool). t || list_any (nat_eq a) ws) (eq-eqb a a refl))) pointers.0 (pointer-number edits bytes a inside apart fit pointers.0);
    }
origin slide all (a ∷ ws) edits bytes r inside apart fit pointers of (inr later) =
    origin slide all ws edits bytes r inside apart fit pointers.1 (λ b among. of b (or_right (nat_eq b a) (list_any (nat_eq b) ws) among)) later

-- ---- under a slide

raised-plain : (slide : ℕ) (chained : List ℕ) (e : Edit) → list_any (nat_eq e.at) chained ≡ false → raised slide chained e ≡ e
raised-plain slide chained e none =
    ap (λ (n : ℕ). let x : Edit = record { at = e.at; width = e.width; value = n } in x) (cond-false (list_any (nat_eq e.at) chained) ((e.value + slide) % 2 ^ 64) e.value none)

-- an edit that covers a byte apart from the chained words isn't at a chained place
not-chained : (slide i : ℕ) (chained b : List ℕ) (edits : List Edit) (e : Edit) → AllApart edits → HavePointers edits chained → IsAmong e edits → Covers e i
    → ApartFrom i 1 (map (settled b) (map (raising slide) chained)) → list_any (nat_eq e.at) chained ≡ true → ⊥
not-chained slide i chained b edits e apart pointers among covers free chains =
    let p : HasPointer edits e.at = has-pointer edits chained e.at pointers chains in
    let same : e ≡ p.edit = same-edit e p.edit edits e.at apart among p.among (omega arith, omega (arith, covers.0, covers.1)) (omega (arith, p.place), omega (arith, p.place, p.width)) in
    let width : e.width ≡ 8 = ap (λ (x : Edit). x.width) same ∙ p.width in
    elim (chained-apart slide i e.at b chained chains free) [
      | inl before ↦ omega (arith, before, covers.0)
      | inr behind ↦ omega (arith, behind, covers.1, width)
    ]

raised-byte : (slide i : ℕ) (chained : List ℕ) (edits : List Edit) (bytes : List ℕ) → AllInside (length bytes) edits → AllApart edits → HavePointers edits chained
    → ApartFrom i 1 (map (settled (put_all edits bytes)) (map (raising slide) chained)) → get_or (put_all (map (raised slide chained) edits) bytes) i 0 ≡ get_or (put_all edits bytes) i 0
raised-byte slide i chained edits bytes inside apart pointers free =
    let all : List Edit = map (raised slide chained) edits in
    elim (in_one_or_apart edits i) [
      | inl found ↦
          let e : Edit = found.0 in
          let plain : raised slide chained e ≡ e =
          raised-plain slide chained e (false_from_ne_true (list_any (nat_eq e.at) chained) (not-chained slide i chained (put_all edits bytes) edits e apart pointers found.1.0 (found.1.1, found.1.2) free)) in
          let k : ℕ = i - e.at in
          let place : e.at + (i - e.at) ≡ i = omega (arith, found.1.1) in
          let small : i - e.at < e.width = omega (arith, found.1.1, found.1.2) in
          ap (λ (j : ℕ). get_or (put_all all bytes) j 0) (sym place)
          ∙ (get_or-put_all (raised slide chained e) all bytes k (raised-inside slide (length bytes) chained edits inside) (raised-apart slide chained edits apart) (raised-among slide chained e edits found.1.0) small
          ∙ (ap (λ (x : Edit). get_or (little_bytes x.width x.value) k 0) plain
          ∙ (sym (get_or-put_all e edits bytes k inside apart found.1.0 small)
          ∙ ap (λ (j : ℕ). get_or (put_all edits bytes) j 0) place)))
      | inr out ↦
          get_or-put_all_apart all bytes i (raised-inside slide (length bytes) chained edits inside) (raised-from slide i 1 chained edits out)
          ∙ sym (get_or-put_all_apart edits bytes i inside out)
    ]

-- raising the chained words of what was set is setting them raised
raising-raised : (slide size : ℕ) (chained : List ℕ) (edits : List Edit) (bytes : List ℕ) → length bytes ≡ size → AllInside (length bytes) edits → AllApart edits → AllFit edits
    → HavePointers edits chained → AllInside size (map (settled (put_all edits bytes)) (map (raising slide) chained)) → AllApart (map (settled (put_all edits bytes)) (map (raising slide) chained))
    → put_all (map (settled (put_all edits bytes)) (map (raising slide) chained)) (put_all edits bytes) ≡ put_all (map (raised slide chained) edits) bytes
raising-raised slide size chained edits bytes long inside apart fit pointers in_words apart_words =
    let set : List ℕ = put_all edits bytes in
    let words : List Edit = map (settled (put_all edits bytes)) (map (raising slide) chained) in
    let all : List Edit = map (raised slide chained) edits in
    let in_all : AllInside (length bytes) (map (raised slide chained) edits) = raised-inside slide (length bytes) chained edits inside in
    let set_long : length (put_all edits bytes) ≡ length bytes = length-put_all edits bytes inside in
    let in_set : AllInside (length (put_all edits bytes)) (map (settled (put_all edits bytes)) (map (raising slide) chained)) = subst (λ (n : ℕ). AllInside n words) (sym (set_long ∙ long)) in_words in
    ext_get_or 0 (put_all words set) (put_all all bytes) (length-put_all words set in_set ∙ (set_long ∙ sym (length-put_all all bytes in_all)))
    (λ i lt. elim (in_one_or_apart words i) [
      | inl found ↦
          let r : Edit = found.0 in
          let from : Origin slide chained edits r = origin slide chained chained edits bytes r inside apart fit pointers (λ a among. among) found.1.0 in
          let k : ℕ = i - r.at in
          let place : r.at + (i - r.at) ≡ i = omega (arith, found.1.1) in
          let small : i - r.at < r.width = omega (arith, found.1.1, found.1.2) in
          let among : IsAmong r all = subst (λ (x : Edit). IsAmong x all) (sym from.is) (raised-among slide chained from.edit edits from.among) in
          ap (λ (j : ℕ). get_or (put_all words set) j 0) (sym place)
          ∙ (get_or-put_all r words set k in_set apart_words found.1.0 small
          ∙ (sym (get_or-put_all r all bytes k in_all (raised-apart slide chained edits apart) among small)
          ∙ ap (λ (j : ℕ). get_or (put_all all bytes) j 0) place))
      | inr free ↦
          get_or-put_all_apart words set i in_set free
          ∙ sym (raised-byte slide i chained edits bytes inside apart pointers free)
    ])

-- ---- what is set can be linked

little_byte : (i n v k : ℕ) → get_or (bytes_low_first i n v) k 0 < 256
little_byte i zero v k = omega arith
little_byte zero (suc n) v zero = omega arith
little_byte (suc i) (suc n) v zero = omega arith
little_byte i (suc n) v (suc k) = little_byte (suc i) n v k

-- what is set in bytes leaves bytes
pub set-bytes : (es : List Edit) (b : List ℕ) → AllInside (length b) es → AllApart es → AreBytes b → AreBytes (put_all es b)
set-bytes es b inside apart bytes i =
    elim (in_one_or_apart es i) [
      | inl found ↦
          let e : Edit = found.0 in
          let place : e.at + (i - e.at) ≡ i = omega (arith, found.1.1) in
          let byte : get_or (put_all es b) (e.at + (i - e.at)) 0 ≡ get_or (little_bytes e.width e.value) (i - e.at) 0 =
          get_or-put_all e es b (i - e.at) inside apart found.1.0 (omega (arith, found.1.1, found.1.2)) in
          subst (λ (v : ℕ). v < 256) (sym byte ∙ ap (λ (j : ℕ). get_or (put_all es b) j 0) place) (little_byte 0 e.width e.value (i - e.at))
      | inr free ↦ subst (λ (v : ℕ). v < 256) (sym (get_or-put_all_apart es b i inside free)) (bytes i)
    ]

zero_shifted : (n : ℕ) → 0 % 2 ^ n * 2 ^ 48 ≡ 0
zero_shifted n = ap (λ (k : ℕ). k * 2 ^ 48) (zero-mod (2 ^ n))

and_first : (x y : Bool) → (x && y) ≡ true → x ≡ true
and_first true y e = refl
and_first false y e = e

and_second : (x y : Bool) → (x && y) ≡ true → y ≡ true
and_second true y e = e
and_second false y e = absurd (false≢true e)

-- the bits from 48 up are free
pub set-outside : (bits : ℕ) (edits : List Edit) (bytes ws : List ℕ) → AllInside (length bytes) edits → AllApart edits → AllFit edits → HavePointers edits ws → AreOutside ((2 ^ bits - 1) * 2 ^ 48) (put_all edits bytes) ws
set-outside bits edits bytes [] inside apart fit pointers = tt
set-outside bits edits bytes (a ∷ ws) inside apart fit pointers =
    let p : HasPointer edits a = pointers.0 in
    let high : bit_and p.edit.value ((2 ^ bits - 1) * 2 ^ 48) ≡ p.edit.value / 2 ^ 48 % 2 ^ bits * 2 ^ 48 = ap (bit_and p.edit.value) (made_ones bits) ∙ and_high p.edit.value bits 48 in
    let none : p.edit.value / 2 ^ 48 ≡ 0 = omega (arith, p.small) in (
      ap (λ (v : ℕ). bit_and v ((2 ^ bits - 1) * 2 ^ 48)) (pointer-number edits bytes a inside apart fit p) ∙ (high ∙ ap (λ (q : ℕ). q % 2 ^ bits * 2 ^ 48) none ∙ zero_shifted bits),
      set-outside bits edits bytes ws inside apart fit pointers.1,
    )

-- what callers of the writer owe
pub linkable-data : (bits size : ℕ) (chained : List ℕ) (edits : List Edit) (bytes : List ℕ) → CanLink bits size chained edits → AreBytes bytes → length bytes ≡ size → IsLinkable bits size (put_all edits bytes) chained
linkable-data bits size chained edits bytes can are long =
    let inside : AllInside (length bytes) edits = subst (λ (n : ℕ). AllInside n edits) (sym long) can.inside in
    record {
      some = can.some;
      most = can.most;
      even = can.pages;
      long = length-put_all edits bytes inside ∙ long;
      bytes = set-bytes edits bytes inside can.apart are;
      words = can.words;
      under = can.below;
      outside = set-outside bits edits bytes chained inside can.apart can.fit can.pointers;
    }

-- ---- altogether

pub length-linked_data : (bits size : ℕ) (chained : List ℕ) (edits : List Edit) (bytes : List ℕ) → CanLink bits size chained edits → length bytes ≡ size → length (linked_data bits chained edits bytes) ≡ length bytes
length-linked_data bits size chained edits bytes can long =
    let inside : AllInside (length bytes) edits = subst (λ (n : ℕ). AllInside n edits) (sym long) can.inside in
    let set : List ℕ = put_all edits bytes in
    let set_long : length (put_all edits bytes) ≡ length bytes = length-put_all edits bytes inside in
    let links : List Edit = map (settled set) (linking (2 ^ bits - 1) chained) in
    let in_set : AllInside (length (put_all edits bytes)) (map (settled (put_all edits bytes)) (linking (2 ^ bits - 1) chained)) =
    subst (λ (n : ℕ). AllInside n links) (sym (set_long ∙ long)) (linking-inside (2 ^ bits - 1) size 0 set chained can.pages can.words can.below) in
    ap (λ (l : List ℕ). length l) (change_all-settled (linking (2 ^ bits - 1) chained) set in_set (rising_apart 0 links (linking-rises (2 ^ bits - 1) 0 set chained can.words)))
    ∙ (length-put_all links set in_set ∙ set_long)

few : (bits size : ℕ) (ws : List ℕ) → chains_break bits size ws ≡ None → length (extras_of (page_firsts (2 ^ bits - 1) 0 (size / 4096) ws)) ≤ 0x4000
unfolding info_of
few bits size ws none = accepted_few bits size ws none

-- at any slide they are the edits with the pointers raised
pub slid-linked_data : (bits size slide : ℕ) (chained : List ℕ) (edits : List Edit) (bytes : List ℕ) → CanLink bits size chained edits → AreBytes bytes → length bytes ≡ size → chains_break bits size chained ≡ None
    → slid_area (info_of bits size chained) slide (linked_data bits chained edits bytes) ≡ put_all (map (raised slide chained) edits) bytes
slid-linked_data bits size slide chained edits bytes can are long none =
    let fit : IsLinkable bits size (put_all edits bytes) chained = linkable-data bits size chained edits bytes can are long in
    let set : List ℕ = put_all edits bytes in
    let words : List Edit = map (settled (put_all edits bytes)) (map (raising slide) chained) in
    let in_words : AllInside size (map (settled (put_all edits bytes)) (map (raising slide) chained)) = raising-inside slide size 0 set chained can.pages can.words can.below in
    let apart_words : AllApart (map (settled (put_all edits bytes)) (map (raising slide) chained)) = rising_apart 0 words (raising-rises slide 0 set chained can.words) in
    slid-linked bits size slide set chained fit (few bits size chained none)
    ∙ (change_all-settled (map (raising slide) chained) set (subst (λ (n : ℕ). AllInside n words) (sym fit.long) in_words) apart_words
    ∙ raising-raised slide size chained edits bytes long (subst (λ (n : ℕ). AllInside n edits) (sym long) can.inside) can.apart can.fit can.pointers in_words apart_words)

-- nothing is wrong with their chains
pub sound-linked_data : (bits size : ℕ) (chained : List ℕ) (edits : List Edit) (bytes : List ℕ) → CanLink bits size chained edits → AreBytes bytes → length bytes ≡ size → chains_break bits size chained ≡ None
    → chain_finding (info_of bits size chained) (linked_data bits chained edits bytes) ≡ None
sound-linked_data bits size chained edits bytes can are long none =
    chains-sound bits size (put_all edits bytes) (linked_data bits chained edits bytes) chained (linkable-data bits size chained edits bytes can are long) (few bits size chained none) refl

-- a pointer's value is what the edits tell
value-is : (p : Edit) (es : List Edit) (a : ℕ) → AllApart es → IsAmong p es → p.at ≡ a → p.width ≡ 8 → value_at es a ≡ p.value
unfolding value_at
value-is p [] a apart among place width = absurd among
value-is p (e ∷ es) a apart (inl is) place width =
    cond-true (nat_eq e.at a && nat_eq e.width 8) e.value (value_at es a)
    (and_from (nat_eq e.at a) (nat_eq e.width 8) (eq-eqb e.at a (sym (ap (λ (x : Edit). x.at) is) ∙ place)) (eq-eqb e.width 8 (sym (ap (λ (x : Edit). x.width) is) ∙ width)))
    ∙ ap (λ (x : Edit). x.value) (sym is)
value-is p (e ∷ es) a apart (inr later) place width =
    cond-false (nat_eq e.at a && nat_eq e.width 8) e.value (value_at es a)
    (false_from_ne_true (nat_eq e.at a && nat_eq e.width 8) (λ both.
    let here : e.at ≡ a = eqb-true e.at a (and_first (nat_eq e.at a) (nat_eq e.width 8) both) in
    let wide : e.width ≡ 8 = eqb-true e.width 8 (and_second (nat_eq e.at a) (nat_eq e.width 8) both) in
    never-both e p a (omega (arith, here), omega (arith, here, wide)) (omega (arith, place), omega (arith, place, width)) (apart-among p e.at e.width es apart.0 later)))
    ∙ value-is p es a apart.1 later place width

given-words : (edits : List Edit) (bytes ws : List ℕ) → AllInside (length bytes) edits → AllApart edits → AllFit edits → HavePointers edits ws → given (put_all edits bytes) ws ≡ chained_words edits ws
unfolding given
given-words edits bytes [] inside apart fit pointers = refl
given-words edits bytes (a ∷ ws) inside apart fit pointers =
    let p : HasPointer edits a = pointers.0 in
    let set : List ℕ = put_all edits bytes in
    let number : number_at 8 (put_all edits bytes) a ≡ p.edit.value = pointer-number edits bytes a inside apart fit p in
    let value : number_at 8 (put_all edits bytes) a ≡ value_at edits a = number ∙ sym (value-is p.edit edits a apart p.among p.place p.width) in
    cond-false (nat_eq (number_at 8 set a) 0) (given set ws) (record { offset = a; value = number_at 8 set a } ∷ given set ws) (ne_eqb (number_at 8 set a) 0 (λ none. omega (arith, none, number, p.some)))
    ∙ ap₂ (λ (v : ℕ) (l : List ChainWord). record { offset = a; value = v } ∷ l) value (given-words edits bytes ws inside apart fit pointers.1)

-- and their chain words are the pointers
pub words-linked_data : (bits size : ℕ) (chained : List ℕ) (edits : List Edit) (bytes : List ℕ) → CanLink bits size chained edits → AreBytes bytes → length bytes ≡ size → chains_break bits size chained ≡ None
    → chain_words (info_of bits size chained) (linked_data bits chained edits bytes) ≡ chained_words edits chained
words-linked_data bits size chained edits bytes can are long none =
    let fit : IsLinkable bits size (put_all edits bytes) chained = linkable-data bits size chained edits bytes can are long in
    chain_words-made bits size (put_all edits bytes) (linked_data bits chained edits bytes) chained fit (few bits size chained none) refl (length-linked_data bits size chained edits bytes can long ∙ long)
    ∙ given-words edits bytes chained (subst (λ (n : ℕ). AllInside n edits) (sym long) can.inside) can.apart can.fit can.pointers

-- each byte of an edit is that edit's under the slide, and no other byte changes
pub edit-byte : (slide k : ℕ) (chained : List ℕ) (e : Edit) (edits : List Edit) (bytes : List ℕ) → AllInside (length bytes) edits → AllApart edits → IsAmong e edits → k < e.width
    → get_or (put_all (map (raised slide chained) edits) bytes) (e.at + k) 0 ≡ get_or (little_bytes e.width (raised slide chained e).value) k 0
edit-byte slide k chained e edits bytes inside apart among lt =
    get_or-put_all (raised slide chained e) (map (raised slide chained) edits) bytes k (raised-inside slide (length bytes) chained edits inside) (raised-apart slide chained edits apart) (raised-among slide chained e edits among) lt

pub other-byte : (slide i : ℕ) (chained : List ℕ) (edits : List Edit) (bytes : List ℕ) → AllInside (length bytes) edits → ApartFrom i 1 edits
    → get_or (put_all (map (raised slide chained) edits) bytes) i 0 ≡ get_or bytes i 0
other-byte slide i chained edits bytes inside free =
    get_or-put_all_apart (map (raised slide chained) edits) bytes i (raised-inside slide (length bytes) chained edits inside) (raised-from slide i 1 chained edits free)

-- ---- the information that was made, for the writer

pub mask-made : (s : Slide) (bits size : ℕ) (ws : List ℕ) → s ≡ info_of bits size ws → s.mask ≡ (2 ^ bits - 1) * 2 ^ 48
unfolding info_of
mask-made s bits size ws is = ap (λ (t : Slide). t.mask) is

pub outside-made : (s : Slide) (bits size : ℕ) (area ws : List ℕ) → s ≡ info_of bits size ws → AreOutside ((2 ^ bits - 1) * 2 ^ 48) area ws → AreOutside s.mask area ws
outside-made s bits size area ws is outside = subst (λ (m : ℕ). AreOutside m area ws) (sym (mask-made s bits size ws is)) outside

-- what the writer leaves of data in which the edits were made
pub data-linked : (s : Slide) (bits size : ℕ) (edits : List Edit) (bytes set after ws : List ℕ) → s ≡ info_of bits size ws → set ≡ put_all edits bytes → after ≡ change_all (linking (s.mask / 2 ^ 48) ws) set
    → after ≡ linked_data bits ws edits bytes
data-linked s bits size edits bytes set after ws is made linked =
    linked
    ∙ (ap (λ (m : ℕ). change_all (linking (m / 2 ^ 48) ws) set) (mask-made s bits size ws is)
    ∙ ap₂ (λ (l : ℕ) (b : List ℕ). change_all (linking l ws) b) (limit_back bits) made)
