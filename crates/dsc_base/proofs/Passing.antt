-- Passing bytes on to a writer, piece by piece.
use Rattle.std.specs.Prelude.{◌≡◌, ◌+◌, ◌++◌, ℕ, List, [], take, drop, Option, Some, None, refl}
use Rattle.std.proofs.Common.{ap, sym, ◌∙◌, subst, append-nil, append_assoc}
use Rattle.std.proofs.lemmas.List.{take-append-drop, drop-drop}
use Rattle.std.proofs.Math.Seq.{take-add}
use Rattle.std.specs.Io.KnownBytes.{Appends, Keeps}

pub Appends-none : (old : Option (List ℕ)) → Appends old old []
Appends-none None = tt
Appends-none (Some xs) = sym (append-nil xs)

pub Appends-then : (old mid new : Option (List ℕ)) (xs ys : List ℕ) → Appends old mid xs → Appends mid new ys → Appends old new (xs ++ ys)
Appends-then None mid new xs ys p q = tt
Appends-then (Some os) None new xs ys p q = absurd p
Appends-then (Some os) (Some ms) None xs ys p q = absurd q
Appends-then (Some os) (Some ms) (Some ns) xs ys p q = q ∙ ap (λ (zs : List ℕ). zs ++ ys) p ∙ append_assoc os xs ys

pub Appends-kept : (old mid new : Option (List ℕ)) (xs : List ℕ) → Appends old mid xs → Keeps mid new → Appends old new xs
Appends-kept None mid new xs p q = tt
Appends-kept (Some os) None new xs p q = absurd p
Appends-kept (Some os) (Some ms) None xs p q = absurd q
Appends-kept (Some os) (Some ms) (Some ns) xs p q = q ∙ p

-- so many of the bytes were passed on, and these are left
pub record HasPassed (old new : Option (List ℕ)) (bytes rest : List ℕ) : Type 0 where
  pub count : ℕ
  pub left : rest ≡ drop count bytes
  pub passed : Appends old new (take count bytes)

pub passed_none : (old : Option (List ℕ)) (bytes : List ℕ) → HasPassed old old bytes bytes
passed_none old bytes = record { count = 0; left = refl; passed = Appends-none old }

pub passed_more : (old mid new : Option (List ℕ)) (bytes rest : List ℕ) (n : ℕ) → HasPassed old mid bytes rest → Appends mid new (take n rest) → HasPassed old new bytes (drop n rest)
passed_more old mid new bytes rest n h more = record {
  count = h.count + n;
  left = ap (drop n) h.left ∙ drop-drop n h.count bytes;
  passed = let P : List ℕ → Type 0 = λ xs. Appends old new xs in
      subst P (ap (λ (xs : List ℕ). take h.count bytes ++ take n xs) h.left ∙ sym (take-add h.count n bytes)) (Appends-then old mid new (take h.count bytes) (take n rest) h.passed more);
}

pub passed_kept : (old mid new : Option (List ℕ)) (bytes rest : List ℕ) → HasPassed old mid bytes rest → Keeps mid new → HasPassed old new bytes rest
passed_kept old mid new bytes rest h kept = record { count = h.count; left = h.left; passed = Appends-kept old mid new (take h.count bytes) h.passed kept }

pub passed_all : (old new : Option (List ℕ)) (bytes rest : List ℕ) → HasPassed old new bytes rest → rest ≡ [] → Appends old new bytes
passed_all old new bytes rest h none =
    let P : List ℕ → Type 0 = λ xs. Appends old new xs in
    let whole : take h.count bytes ≡ bytes = sym (append-nil (take h.count bytes)) ∙ ap (λ (xs : List ℕ). take h.count bytes ++ xs) (sym none ∙ h.left) ∙ take-append-drop h.count bytes in
    subst P whole h.passed
