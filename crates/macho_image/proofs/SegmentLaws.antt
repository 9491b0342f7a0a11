-- The segment that contains an address: it is one of the segments, and where these keep apart it is the only one.
use Rattle.std.proofs.Common.{◌≡◌, ◌≤◌, ◌<◌, ◌+◌, ◌-◌, ℕ, zero, suc, true, false, List, [], ◌∷◌, refl, sym, ap, ◌∙◌, subst, arith, inl, inr, Option, Some, None}
use Rattle.std.specs.Prelude.{slice_get}
use Rattle.std.specs.List.{AllByRecursion}
use Rattle.std.proofs.lemmas.Bool.{cond-true, cond-false, cases_Bool}
use Rattle.std.proofs.lemmas.Bool.Decides.{nat_tests}
use Rattle.macho_image.specs.Records.{Seg}
use Rattle.macho_image.specs.declared.places.segment_index.Inside.{Inside}
use Rattle.macho_image.specs.Segments.{contains, inside_from, inside}
use Rattle.macho_image.specs.Index.{IsApart, AreApart}

pub contains_yes : (s : Seg) (x : ℕ) → s.vmaddr ≤ x → x < s.vmaddr + s.vmsize → contains s x ≡ true
contains_yes s x low high = grind (arith, nat_tests)

pub contains_low : (s : Seg) (x : ℕ) → contains s x ≡ true → s.vmaddr ≤ x
contains_low s x is = grind (arith, nat_tests)

pub contains_high : (s : Seg) (x : ℕ) → contains s x ≡ true → x < s.vmaddr + s.vmsize
contains_high s x is = grind (arith, nat_tests)

pub contains_none : (s : Seg) (x : ℕ) → s.vmsize ≡ 0 → contains s x ≡ false
contains_none s x none = grind (arith, nat_tests)

here_from : (g : ℕ) (s : Seg) (ss : List Seg) (x : ℕ) → contains s x ≡ true → inside_from g (s ∷ ss) x ≡ Some (record { segment = g; distance = x - s.vmaddr })
here_from g s ss x is = cond-true (contains s x) (Some (record { segment = g; distance = x - s.vmaddr })) (inside_from (g + 1) ss x) is

later_from : (g : ℕ) (s : Seg) (ss : List Seg) (x : ℕ) → contains s x ≡ false → inside_from g (s ∷ ss) x ≡ inside_from (g + 1) ss x
later_from g s ss x is = cond-false (contains s x) (Some (record { segment = g; distance = x - s.vmaddr })) (inside_from (g + 1) ss x) is

-- what is known of the segment that is found from number g on
record IsFound (g : ℕ) (ss : List Seg) (x : ℕ) (p : Inside) : Type 0 where
  number : ℕ
  number_is : p.segment ≡ g + number
  segment : Seg
  segment_is : slice_get ss number ≡ Some segment
  low : segment.vmaddr ≤ x
  distance : p.distance ≡ x - segment.vmaddr
  high : x < segment.vmaddr + segment.vmsize

found_from : (g : ℕ) (ss : List Seg) (x : ℕ) (p : Inside) → inside_from g ss x ≡ Some p → IsFound g ss x p
found_from g [] x p found = absurd (cc)
found_from g (s ∷ ss) x p found = elim (cases_Bool (contains s x)) [
  | inl is ↦
      let e : Some (record { segment = g; distance = x - s.vmaddr }) ≡ Some p = sym (here_from g s ss x is) ∙ found in
      let q : (record { segment = g; distance = x - s.vmaddr }) ≡ p = cc in
      record {
        number = 0;
        number_is = let f : g ≡ p.segment = ap (λ (i : Inside). i.segment) q in omega arith;
        segment = s;
        segment_is = refl;
        low = contains_low s x is;
        distance = sym (ap (λ (i : Inside). i.distance) q);
        high = contains_high s x is;
      }
  | inr is_not ↦
      let rest = found_from (g + 1) ss x p (sym (later_from g s ss x is_not) ∙ found) in
      record {
        number = suc rest.number;
        number_is = omega (arith, rest.number_is);
        segment = rest.segment;
        segment_is = rest.segment_is;
        low = rest.low;
        distance = rest.distance;
        high = rest.high;
      }
]

-- the segment that is found contains the address, at the distance that is told
pub inside_some : (ss : List Seg) (x : ℕ) (p : Inside) → inside ss x ≡ Some p → (s : Seg) × (slice_get ss p.segment ≡ Some s) × (s.vmaddr ≤ x) × (p.distance ≡ x - s.vmaddr) × (p.distance < s.vmsize)
unfolding inside
inside_some ss x p found =
    let f = found_from 0 ss x p found in
    let n : f.number ≡ p.segment = omega (arith, f.number_is) in
    (f.segment, subst (λ (k : ℕ). slice_get ss k ≡ Some f.segment) n f.segment_is, f.low, f.distance, omega (arith, f.low, f.distance, f.high))

apart_from : (s : Seg) (ss : List Seg) (k : ℕ) (t : Seg) (x : ℕ) → AllByRecursion (IsApart s) ss → slice_get ss k ≡ Some t → contains t x ≡ true → contains s x ≡ false
apart_from s [] k t x apart at is = absurd (cc)
apart_from s (u ∷ us) zero t x apart at is =
    let e : u ≡ t = cc in
    elim (cases_Bool (contains s x)) [
      | inl both ↦
          let no : contains t x ≡ false = subst (λ (v : Seg). contains v x ≡ false) e (apart.0 x both) in
          absurd (cc)
      | inr none ↦ none
    ]
apart_from s (u ∷ us) (suc k) t x apart at is = apart_from s us k t x apart.1 at is

contained_from : (g : ℕ) (ss : List Seg) (k : ℕ) (s : Seg) (x : ℕ) → AreApart ss → slice_get ss k ≡ Some s → contains s x ≡ true → inside_from g ss x ≡ Some (record { segment = g + k; distance = x - s.vmaddr })
contained_from g [] k s x apart at is = absurd (cc)
contained_from g (t ∷ ts) zero s x apart at is =
    let e : t ≡ s = cc in
    let n : g ≡ g + 0 = omega arith in
    here_from g t ts x (subst (λ (v : Seg). contains v x ≡ true) (sym e) is)
    ∙ (ap (λ (v : Seg). let o : Option Inside = Some (record { segment = g; distance = x - v.vmaddr }) in o) e
    ∙ ap (λ (m : ℕ). let o : Option Inside = Some (record { segment = m; distance = x - s.vmaddr }) in o) n)
contained_from g (t ∷ ts) (suc k) s x apart at is =
    let n : g + 1 + k ≡ g + suc k = omega arith in
    later_from g t ts x (apart_from t ts k s x apart.0 at is)
    ∙ (contained_from (g + 1) ts k s x apart.1 at is
    ∙ ap (λ (m : ℕ). let o : Option Inside = Some (record { segment = m; distance = x - s.vmaddr }) in o) n)

-- of segments that keep apart, the one that contains an address is the one that is found
pub inside_here : (ss : List Seg) (g : ℕ) (s : Seg) (x : ℕ) → AreApart ss → slice_get ss g ≡ Some s → s.vmaddr ≤ x → x < s.vmaddr + s.vmsize → inside ss x ≡ Some (record { segment = g; distance = x - s.vmaddr })
unfolding inside
inside_here ss g s x apart at low high =
    let n : 0 + g ≡ g = omega arith in
    contained_from 0 ss g s x apart at (contains_yes s x low high) ∙ ap (λ (m : ℕ). let o : Option Inside = Some (record { segment = m; distance = x - s.vmaddr }) in o) n

none_from : (g : ℕ) (ss : List Seg) (x : ℕ) → AllByRecursion (λ (s : Seg). contains s x ≡ false) ss → inside_from g ss x ≡ None
none_from g [] x none = refl
none_from g (s ∷ ss) x none = later_from g s ss x none.0 ∙ none_from (g + 1) ss x none.1
