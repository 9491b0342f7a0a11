-- The bytes of a section between words that rise by their addresses.
use Rattle.std.proofs.Common.{◌≡◌, ◌≤◌, ◌<◌, ℕ, ◌+◌, ◌-◌, Bool, true, false, nat_le, nat_lt, Some, None, List, length, get_or, refl, sym, ap, subst, ◌∙◌, arith, inl, inr, if◌then◌else◌}
use Rattle.std.specs.Prelude.{nat_eq}
use Rattle.std.specs.List.{list_any}
use Rattle.std.specs.List.Sorted.{IsNonDecreasingBy}
use Rattle.std.proofs.lemmas.Bool.{cases_lt, cond-true, cond-false, and_from, le-leb, lt-leb, lt-ltb, le-ltb, eq-eqb, ne_eqb, and_left, and_right}
use Rattle.std.proofs.lemmas.List.Folds.{list_any_none, list_any_at}
use Rattle.cache_check.specs.declared.extents.Extent.{Extent}
use Rattle.cache_check.specs.declared.verdict.Seen.TheVariants.{Number}
use Rattle.cache_check.specs.Bytes.{Pair, unlike}
use Rattle.cache_check.specs.Firsts.{first_below}
use Rattle.cache_check.specs.Steps.Extents.{holds}
use Rattle.cache_check.specs.Steps.Gaps.{found_byte, wanted_byte, AreSame, other_byte, held_byte}
use Rattle.cache_check.proofs.FirstLaws.{found_below, none_of_each}

-- ---- one offset

module _ (extents : List Extent) (number : ℕ) (p : Pair) (o : ℕ) where
  pub held_none : list_any (holds (p.here.addr + o)) extents ≡ true → held_byte extents number p o ≡ None
  unfolding held_byte
  held_none held = cond-true (list_any (holds (p.here.addr + o)) extents) None (unlike number o (Number (found_byte p o)) (Number (wanted_byte p o))) held

  pub same_none : found_byte p o ≡ wanted_byte p o → held_byte extents number p o ≡ None
  unfolding held_byte unlike
  same_none same = at (list_any (holds (p.here.addr + o)) extents)
    where
      at : (b : Bool) → (if b then None else (if nat_eq (found_byte p o) (wanted_byte p o) then None else Some (other_byte number p o))) ≡ None
      at true = refl
      at false = cond-true (nat_eq (found_byte p o) (wanted_byte p o)) None (Some (other_byte number p o)) (eq-eqb (found_byte p o) (wanted_byte p o) same)

  pub free_some : list_any (holds (p.here.addr + o)) extents ≡ false → (found_byte p o ≡ wanted_byte p o → ⊥) → held_byte extents number p o ≡ Some (other_byte number p o)
  unfolding held_byte unlike
  free_some free differs =
      cond-false (list_any (holds (p.here.addr + o)) extents) None (if nat_eq (found_byte p o) (wanted_byte p o) then None else Some (other_byte number p o)) free
      ∙ cond-false (nat_eq (found_byte p o) (wanted_byte p o)) None (Some (other_byte number p o)) (ne_eqb (found_byte p o) (wanted_byte p o) differs)

-- ---- a word holds an address or not

held_by : (a : ℕ) (e : Extent) → e.at ≤ a → a < e.at + e.width → holds a e ≡ true
held_by a e from to = and_from (nat_le e.at a) (nat_lt a (e.at + e.width)) (le-leb e.at a from) (lt-ltb a (e.at + e.width) to)

above_it : (a : ℕ) (e : Extent) → e.at + e.width ≤ a → holds a e ≡ false
above_it a e over = and_right (nat_le e.at a) (nat_lt a (e.at + e.width)) (le-ltb a (e.at + e.width) over)

below_it : (a : ℕ) (e : Extent) → a < e.at → holds a e ≡ false
below_it a e under = and_left (nat_le e.at a) (nat_lt a (e.at + e.width)) (lt-leb e.at a under)

-- ---- so far

-- the first n words end by an offset, below which no byte differs
pub record AreTried (extents : List Extent) (number : ℕ) (p : Pair) (n at : ℕ) : Type 0 where
  pub ended : (i : ℕ) (d : Extent) → i < n → (get_or extents i d).at + (get_or extents i d).width ≤ p.here.addr + at
  pub none : (o : ℕ) → o < at → held_byte extents number p o ≡ None

module _ (extents : List Extent) (number : ℕ) (p : Pair) (n at : ℕ) (rises : IsNonDecreasingBy (λ (e : Extent). e.at) extents) (tried : AreTried extents number p n at) where
  -- an address at which no later word has begun
  free_at : (o : ℕ) → at ≤ o → ((i : ℕ) (d : Extent) → n ≤ i → i < length extents → p.here.addr + o < (get_or extents i d).at) → list_any (holds (p.here.addr + o)) extents ≡ false
  free_at o from later = list_any_none (holds (p.here.addr + o)) extents (λ i d lt. elim (cases_lt i n) [
    | inl before ↦ above_it (p.here.addr + o) (get_or extents i d) (omega (arith, tried.ended i d before, from))
    | inr behind ↦ below_it (p.here.addr + o) (get_or extents i d) (later i d behind lt)
  ])

  -- the bytes below an offset, up to which those between the words are the same
  none_up_to : (end : ℕ) → AreSame p at end → (o : ℕ) → o < end → held_byte extents number p o ≡ None
  none_up_to end same o lt = elim (cases_lt o at) [
    | inl before ↦ tried.none o before
    | inr from ↦ same_none extents number p o (same o from lt)
  ]

  pub differs_at : (offset size : ℕ) → offset < size → at ≤ offset → AreSame p at offset → (found_byte p offset ≡ wanted_byte p offset → ⊥) → ((i : ℕ) (d : Extent) → n ≤ i → i < length extents → p.here.addr + offset < (get_or extents i d).at)
      → first_below (held_byte extents number p) size ≡ Some (other_byte number p offset)
  differs_at offset size lt from same differs later =
      found_below (held_byte extents number p) offset size (other_byte number p offset) (none_of_each (held_byte extents number p) offset (λ o under. none_up_to offset same o under))
      (free_some extents number p offset (free_at offset from later) differs) lt

  pub none_differs : (size : ℕ) → AreSame p at size → first_below (held_byte extents number p) size ≡ None
  none_differs size same = none_of_each (held_byte extents number p) size (λ o lt. none_up_to size same o lt)

  -- the next word
  pub tried_more : (e : Extent) (next : ℕ) → n < length extents → ((d : Extent) → get_or extents n d ≡ e) → AreSame p at (e.at - p.here.addr) → at ≤ next → e.at + e.width ≤ p.here.addr + next → (at < next → next ≡ e.at + e.width - p.here.addr)
      → AreTried extents number p (n + 1) next
  tried_more e next inside is same kept end new = record {
    ended = λ i d lt. elim (cases_lt i n) [
      | inl before ↦ omega (arith, tried.ended i d before, kept)
      | inr behind ↦
          let here : i ≡ n = omega (arith, lt, behind) in
          let one : get_or extents i d ≡ e = ap (λ (m : ℕ). get_or extents m d) here ∙ is d in
          subst (λ (x : Extent). x.at + x.width ≤ p.here.addr + next) (sym one) end
    ];
    none = λ o lt. elim (cases_lt o at) [
      | inl before ↦ tried.none o before
      | inr from ↦ elim (cases_lt o (e.at - p.here.addr)) [
        | inl gap ↦ same_none extents number p o (same o from gap)
        | inr within ↦
            held_none extents number p o
            (list_any_at (holds (p.here.addr + o)) extents n e inside
            (ap (holds (p.here.addr + o)) (is e) ∙ held_by (p.here.addr + o) e (omega (arith, within)) (omega (arith, new (omega (arith, from, lt)), lt))))
      ]
    ];
  }

pub tried_start : (extents : List Extent) (number : ℕ) (p : Pair) (n : ℕ) → n ≤ length extents → ((i : ℕ) (d : Extent) → i < length extents → (get_or extents i d).width ≤ 8) → ((i : ℕ) (d : Extent) → i < n → (get_or extents i d).at + 8 ≤ p.here.addr)
    → AreTried extents number p n 0
tried_start extents number p n bound narrow before = record {
  ended = λ i d lt. omega (arith, before i d lt, narrow i d (omega (arith, lt, bound)));
  none = λ o lt. absurd (omega (arith, lt));
}
