-- Splitting joined commands gives them back, and a header that isn't misshapen is its commands joined.
use Rattle.std.proofs.Common.{◌≡◌, ◌≤◌, ◌+◌, ◌%◌, ℕ, zero, suc, Bool, false, List, [], ◌∷◌, ◌++◌, take, drop, length, map, refl, sym, ap, ap₂, ◌∙◌, arith, append_assoc, if◌then◌else◌, nat_eq, Some, None}
use Rattle.std.specs.List.{AllByRecursion, concat, flat_map}
use Rattle.std.proofs.lemmas.List.{take-append-drop, length-take-le}
use Rattle.std.proofs.Math.Seq.{take-append_seam, drop-append_seam}
use Rattle.std.proofs.lemmas.Bool.Decides.{nat_tests}
use Rattle.dsc_base.proofs.NumberLaws.{number_at-take, number_at-append_left}
use Rattle.macho_image.specs.Macho.{size_of, number_of, commands_in}
use Rattle.macho_image.specs.Rules.{begins_whole, misshapen, least_size}
use Rattle.macho_image.proofs.Splitting.{begins_whole-front}
use Rattle.macho_image.proofs.Unbroken.{when_true}

-- a command that is as long as its cmdsize says
pub record IsSized (c : List ℕ) : Type 0 where
  pub some : 8 ≤ length c
  pub own : size_of c ≡ length c

-- splitting joined commands gives them back, whatever follows them
pub commands_in-joined : (cs : List (List ℕ)) (rest : List ℕ) → AllByRecursion IsSized cs → commands_in (length cs) (concat cs ++ rest) ≡ cs
commands_in-joined [] rest sized = refl
commands_in-joined (c ∷ cs) rest sized =
    let some : 8 ≤ length c = sized.0.some in
    let joined : (c ++ concat cs) ++ rest ≡ c ++ (concat cs ++ rest) = append_assoc c (concat cs) rest in
    let size : size_of (c ++ (concat cs ++ rest)) ≡ length c = number_at-append_left 4 c (concat cs ++ rest) 4 (omega arith) ∙ sized.0.own in
    ap (λ (l : List ℕ). commands_in (suc (length cs)) l) joined
    ∙ (ap (λ (n : ℕ). take n (c ++ (concat cs ++ rest)) ∷ commands_in (length cs) (drop n (c ++ (concat cs ++ rest)))) size
    ∙ ap₂ (λ (x r : List ℕ). x ∷ commands_in (length cs) r) (take-append_seam c (concat cs ++ rest)) (drop-append_seam c (concat cs ++ rest))
    ∙ ap (λ (l : List (List ℕ)). c ∷ l) (commands_in-joined cs rest sized.1))

concat-map : (f : List ℕ → List ℕ) (cs : List (List ℕ)) → concat (map f cs) ≡ flat_map f cs
concat-map f [] = refl
concat-map f (c ∷ cs) = ap (λ (l : List ℕ). f c ++ l) (concat-map f cs)

sized-map : (f : List ℕ → List ℕ) (cs : List (List ℕ)) → AllByRecursion (λ c. IsSized (f c)) cs → AllByRecursion IsSized (map f cs)
sized-map f [] sized = sized
sized-map f (c ∷ cs) sized = (sized.0, sized-map f cs sized.1)

length-mapped : (f : List ℕ → List ℕ) (cs : List (List ℕ)) → length (map f cs) ≡ length cs
length-mapped f [] = refl
length-mapped f (c ∷ cs) = omega (arith, length-mapped f cs)

-- a command with all of its structure
pub record IsWholeCommand (c : List ℕ) : Type 0 where
  pub sized : IsSized c
  pub aligned : length c % 8 ≡ 0
  pub least : least_size (number_of c) ≤ length c

-- bytes that are so many commands and nothing else
pub record AreCommands (n : ℕ) (bytes : List ℕ) : Type 0 where
  pub joined : concat (commands_in n bytes) ≡ bytes
  pub whole : AllByRecursion IsWholeCommand (commands_in n bytes)

empty : (bytes : List ℕ) (k : ℕ) → (if nat_eq (length bytes) 0 then None else Some k) ≡ None → [] ≡ bytes
empty [] k e = refl
empty (x ∷ bytes) k e =
    let some : nat_eq (length (x ∷ bytes)) 0 ≡ false = grind (arith, nat_tests) in
    absurd (some-is-none k (sym (ap (λ (b : Bool). if b then None else Some k) some) ∙ e))
  where
    some-is-none : (k : ℕ) → Some k ≡ None → ⊥
    some-is-none k e = cc

pub shape_joins : (n at : ℕ) (bytes : List ℕ) → misshapen n at bytes ≡ None → AreCommands n bytes
shape_joins zero at bytes none = record { joined = empty bytes 20 none; whole = tt }
shape_joins (suc n) at bytes none =
    let parts = when_true (begins_whole bytes) at (misshapen n (at + size_of bytes) (drop (size_of bytes) bytes)) none in
    let front = begins_whole-front bytes parts.0 in
    let some : 8 ≤ size_of bytes = front.some in
    let len : length (take (size_of bytes) bytes) ≡ size_of bytes = length-take-le (size_of bytes) bytes front.within in
    let size : size_of (take (size_of bytes) bytes) ≡ size_of bytes = number_at-take 4 (size_of bytes) bytes 4 (omega arith) in
    let number : number_of (take (size_of bytes) bytes) ≡ number_of bytes = number_at-take 4 (size_of bytes) bytes 0 (omega arith) in
    let later = shape_joins n (at + size_of bytes) (drop (size_of bytes) bytes) parts.1 in
    record {
      joined = ap (λ (l : List ℕ). take (size_of bytes) bytes ++ l) later.joined ∙ take-append-drop (size_of bytes) bytes;
      whole = (
        record {
          sized = record { some = omega (arith, len, some); own = size ∙ sym len };
          aligned = ap (λ (m : ℕ). m % 8) len ∙ front.aligned;
          least = omega (arith, len, ap least_size number, front.least);
        },
        later.whole,
      );
    }
