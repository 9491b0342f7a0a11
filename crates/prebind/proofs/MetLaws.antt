-- What a set of keys holds, seen as the re-exports that were met.
use Rattle.std.proofs.Common.{◌≡◌, ℕ, Bool, ◌||◌, ◌&&◌, nat_eq, List, [], ◌∷◌, map, refl, ap, Bor}
use Rattle.std.specs.List.{list_any}
use Rattle.std.specs.Cmp.Lexicographic.{pointwise}
use Rattle.prebind.specs.Resolves.{is_met}
use Rattle.prebind.specs.Met.{pair_of}

pub met_keys : (k : ℕ) (name : List ℕ) (keys : List (ℕ × Bor (List ℕ))) → list_any (λ (q : ℕ × Bor (List ℕ)). nat_eq k q.0 && pointwise nat_eq name q.1.now) keys ≡ is_met (map pair_of keys) (k, name)
met_keys k name [] = refl
met_keys k name (q ∷ qs) = ap (λ (b : Bool). (nat_eq k q.0 && pointwise nat_eq name q.1.now) || b) (met_keys k name qs)
