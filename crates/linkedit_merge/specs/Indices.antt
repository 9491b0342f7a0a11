-- What the code keeps of a string pool while names are put into it.
use Rattle.std.specs.Prelude.{◌≡◌, ◌≤◌, ℕ, ◌+◌, List, [], ◌∷◌, map, length}
use Rattle.std.specs.Borrow.{Bor}
use Rattle.linkedit_merge.specs.declared.pool.Pool.{Pool}
use Rattle.linkedit_merge.specs.Pool.{pool_bytes}

abbrev pub Entry : Type 0
Entry = Bor (List ℕ) × ℕ

abbrev pub names_in : List Entry → List (List ℕ)
names_in entries = map (λ (e : Entry). e.0.now) entries

-- each name has the place where it stands, the first one the place `at`
abbrev pub AreIndexed : ℕ → List Entry → Type 0
AreIndexed at [] = Unit {0}
AreIndexed at (e ∷ es) = (e.1 ≡ at) × AreIndexed (at + (length e.0.now + 1)) es

abbrev pub HasIndices : Pool → Type 0
HasIndices pool = AreIndexed 1 pool.indices.entries

-- the names of a pool
abbrev pub names_of : Pool → List (List ℕ)
names_of pool = names_in pool.indices.entries

abbrev pub pool_len : List (List ℕ) → ℕ
pool_len names = length (pool_bytes names)

-- each name has its index, and the pool's length is known and keeps a limit
pub record IsPool (limit : ℕ) (pool : Pool) : Type 0 where
  pub indexed : HasIndices pool
  pub long : pool.len ≡ pool_len (names_of pool)
  pub low : pool.len ≤ limit
