-- A run of words, one at a time: what is there and what is left make the whole.
use Rattle.std.proofs.Common.{◌≡◌, ◌<◌, ◌+◌, ◌-◌, ◌*◌, ◌%◌, ◌^◌, ℕ, suc, List, [], ◌∷◌, ◌++◌, length, map, refl, sym, ap, ◌∙◌, subst, arith, append_assoc, length-append, Option, Some, None}
use Rattle.std.specs.Prelude.{Ok, Err}
use Rattle.std.specs.List.{range_with_len}
use Rattle.std.specs.Option.{option_or}
use Rattle.macho_image.specs.Places.{wrap, unless}
use Rattle.macho_image.specs.Runs.{progression, first_fault}

pub unless_ok : {X F : Type 0} (fault : Option F) (x l : X) → Ok l ≡ unless fault x → (fault ≡ None) × (l ≡ x)
unless_ok None x l is = (refl, cc)
unless_ok (Some f) x l is = absurd (cc)

pub unless_err : {X F : Type 0} (fault : Option F) (x : X) (f : F) → Err f ≡ unless fault x → fault ≡ Some f
unless_err None x f is = absurd (cc)
unless_err (Some e) x f is = cc

-- the offsets from the one with this number on
abbrev pub left : ℕ → ℕ → ℕ → ℕ → List ℕ
left a t done more = map (λ k. wrap (a + k * t)) (range_with_len done more)

left_next : (a t count done : ℕ) → done < count → left a t done (count - done) ≡ wrap (a + done * t) ∷ left a t (done + 1) (count - (done + 1))
left_next a t count done lt = let e : count - done ≡ suc (count - (done + 1)) = omega arith in ap (λ (n : ℕ). left a t done n) e

-- so many records are done, and the next one is at an offset
pub record Running {X F : Type 0} (made : ℕ → X) (refused : ℕ → ℕ → Option F) (a t count : ℕ) (before : List X) (done offset : ℕ) (now : List X) : Type 0 where
  pub place : offset ≡ wrap (a + done * t)
  pub added : now ++ map made (left a t done (count - done)) ≡ before ++ map made (progression a t count)
  pub sound : first_fault refused (length now) (left a t done (count - done)) ≡ first_fault refused (length before) (progression a t count)

pub running_start : {X F : Type 0} (made : ℕ → X) (refused : ℕ → ℕ → Option F) (a t count : ℕ) (before : List X) → a < 2 ^ 64 → Running made refused a t count before 0 a before
running_start made refused a t count before fits =
    let all : count - 0 ≡ count = omega arith in
    record {
      place = omega arith;
      added = ap (λ (n : ℕ). before ++ map made (left a t 0 n)) all;
      sound = ap (λ (n : ℕ). first_fault refused (length before) (left a t 0 n)) all;
    }

pub running_step : {X F : Type 0} (made : ℕ → X) (refused : ℕ → ℕ → Option F) (a t count : ℕ) (before : List X) (done offset : ℕ) (now : List X) (k next : ℕ) (x : X) (longer : List X)
    → Running made refused a t count before done offset now → done < count → k ≡ length now → Ok x ≡ unless (refused offset k) (made offset) → longer ≡ now ++ x ∷ [] → next ≡ (offset + t) % 2 ^ 64
    → Running made refused a t count before (done + 1) next longer
running_step {X} {F} made refused a t count before done offset now k next x longer run lt count_is given pushed moved =
    let more = left_next a t count done lt in
    let rest = left a t (done + 1) (count - (done + 1)) in
    let here = unless_ok (refused offset k) (made offset) x given in
    let at : offset ≡ wrap (a + done * t) = run.place in
    let sound : refused (wrap (a + done * t)) (length now) ≡ None = subst (λ (n : ℕ). refused n (length now) ≡ None) at (subst (λ (n : ℕ). refused offset n ≡ None) count_is here.0) in
    let is : x ≡ made (wrap (a + done * t)) = here.1 ∙ ap made at in
    let long : length longer ≡ length now + 1 = ap length pushed ∙ length-append now (x ∷ []) in
    record {
      place = omega (arith, run.place, moved);
      added =
          ap (λ (xs : List X). xs ++ map made rest) pushed
          ∙ (append_assoc now (x ∷ []) (map made rest)
          ∙ (ap (λ (y : X). now ++ y ∷ map made rest) is ∙ (ap (λ (os : List ℕ). now ++ map made os) (sym more) ∙ run.added)));
      sound =
          ap (λ (n : ℕ). first_fault refused n rest) long
          ∙ (ap (λ (o : Option F). option_or o (first_fault refused (length now + 1) rest)) (sym sound)
          ∙ (ap (λ (os : List ℕ). first_fault refused (length now) os) (sym more) ∙ run.sound));
    }

-- the first record that is refused
pub running_fault : {X F : Type 0} (made : ℕ → X) (refused : ℕ → ℕ → Option F) (a t count : ℕ) (before : List X) (done offset : ℕ) (now : List X) (k : ℕ) (fault : F)
    → Running made refused a t count before done offset now → done < count → k ≡ length now → Err fault ≡ unless (refused offset k) (made offset)
    → first_fault refused (length before) (progression a t count) ≡ Some fault
running_fault {X} {F} made refused a t count before done offset now k fault run lt count_is given =
    let more = left_next a t count done lt in
    let rest = left a t (done + 1) (count - (done + 1)) in
    let at : offset ≡ wrap (a + done * t) = run.place in
    let here : refused (wrap (a + done * t)) (length now) ≡ Some fault =
    subst (λ (n : ℕ). refused n (length now) ≡ Some fault) at (subst (λ (n : ℕ). refused offset n ≡ Some fault) count_is (unless_err (refused offset k) (made offset) fault given)) in
    sym run.sound ∙ (ap (λ (os : List ℕ). first_fault refused (length now) os) more ∙ ap (λ (o : Option F). option_or o (first_fault refused (length now + 1) rest)) here)
