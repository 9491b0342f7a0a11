-- The string pool of a linkedit: a byte 0, and then each name that isn't empty with its NUL, once, at its first appearance. Index 0 is the empty name, after mach-o/nlist.h.
use Rattle.std.specs.Prelude.{ℕ, ◌+◌, nat_eq, ◌||◌, if◌then◌else◌, Bool, List, [], ◌∷◌, ◌++◌, length, Option, Some, None, unwrap_or}
use Rattle.std.specs.List.{list_any, flat_map}
use Rattle.macho_image.specs.Rules.{same_bytes}
use Rattle.nlist_table.specs.Symbols.{Sym}

-- a name that needs no place of its own behind the names of a pool
abbrev pub is_pooled : List (List ℕ) → List ℕ → Bool
is_pooled pool name = nat_eq (length name) 0 || list_any (same_bytes name) pool

abbrev pub put_name : List (List ℕ) → List ℕ → List (List ℕ)
put_name pool name = if is_pooled pool name then pool else pool ++ name ∷ []

-- the names of a pool after others
unfoldable pub pooled_behind : List (List ℕ) → List (List ℕ) → List (List ℕ)
pooled_behind pool [] = pool
pooled_behind pool (name ∷ names) = pooled_behind (put_name pool name) names

-- its bytes
abbrev pub text_of : List ℕ → List ℕ
text_of name = name ++ 0 ∷ []

unfoldable pub pool_bytes : List (List ℕ) → List ℕ
pool_bytes pool = 0 ∷ flat_map text_of pool

-- where a name stands among some that begin at a place
unfoldable pub found_from : ℕ → List (List ℕ) → List ℕ → Option ℕ
found_from at [] name = None
found_from at (first ∷ pool) name = if same_bytes name first then Some at else found_from (at + (length first + 1)) pool name

unfoldable pub index_in : List (List ℕ) → List ℕ → ℕ
index_in pool name = unwrap_or (found_from 1 pool name) 0

-- the names that a symbol needs: its own, and the one that it is another name for
abbrev pub alias_names : Option (List ℕ) → List (List ℕ)
alias_names None = []
alias_names (Some name) = name ∷ []

abbrev pub symbol_names : Sym → List (List ℕ)
symbol_names s = s.name ∷ alias_names s.alias
