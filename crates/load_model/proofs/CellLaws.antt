-- Bytes in memory, by how far an address lies above where they start.
use Rattle.std.proofs.Common.{◌≡◌, ◌≤◌, ◌<◌, ℕ, ◌+◌, ◌-◌, ◌^◌, nat_lt, if◌then◌else◌, Some, List, length, get_or, ap, ◌∙◌, arith}
use Rattle.std.specs.Prelude.{slice_index}
use Rattle.std.proofs.lemmas.Bool.{cond-true, cond-false, lt-ltb, le-ltb}
use Rattle.macho_image.specs.Places.{wrap, above}
use Rattle.load_model.specs.Memory.{Cells, with_bytes}

-- a byte at a distance from the start of bytes
pub cell_at : (start x d : ℕ) (bytes : List ℕ) (cells : Cells) → above start x ≡ d → d < length bytes → with_bytes start bytes cells x ≡ Some (get_or bytes d 0)
unfolding with_bytes
cell_at start x d bytes cells is lt =
    ap (λ (n : ℕ). if nat_lt n (length bytes) then Some (slice_index bytes n) else cells x) is
    ∙ cond-true (nat_lt d (length bytes)) (Some (get_or bytes d 0)) (cells x) (lt-ltb d (length bytes) lt)

-- an address behind the bytes
pub cell_behind : (start x d : ℕ) (bytes : List ℕ) (cells : Cells) → above start x ≡ d → length bytes ≤ d → with_bytes start bytes cells x ≡ cells x
unfolding with_bytes
cell_behind start x d bytes cells is le =
    ap (λ (n : ℕ). if nat_lt n (length bytes) then Some (slice_index bytes n) else cells x) is
    ∙ cond-false (nat_lt d (length bytes)) (Some (slice_index bytes d)) (cells x) (le-ltb d (length bytes) le)

-- how far an address lies above a start that isn't above it, both slid
pub distance_is : (start d slide : ℕ) → d < 2 ^ 64 → above (wrap (start + slide)) (wrap (start + d + slide)) ≡ d
unfolding above
distance_is start d slide small = omega arith

-- and above one that is
pub distance_below : (start x slide : ℕ) → x < start → start < 2 ^ 64 → above (wrap (start + slide)) (wrap (x + slide)) ≡ 2 ^ 64 - (start - x)
unfolding above
distance_below start x slide below small = omega arith
