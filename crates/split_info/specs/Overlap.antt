-- References that share a byte with one another or with a word.
use Rattle.std.specs.Prelude.{ℕ, ◌+◌, Bool, true, false, not, ◌&&◌, ◌||◌, nat_lt, List, [], ◌∷◌, map, filter, Option, Some, None, count_by}
use Rattle.std.specs.List.{list_any}
use Rattle.dsc_base.specs.Refusals.{least}
use Rattle.macho_image.specs.declared.place.Location.{Location}
use Rattle.split_info.specs.declared.reference.RefKind.{RefKind}
use Rattle.split_info.specs.declared.reference.RefKind.TheVariants.{Pointer64}
use Rattle.split_info.specs.declared.reference.Reference.{Reference}
use Rattle.split_info.specs.References.{width_of}

abbrev pub is_pointer : RefKind → Bool
is_pointer Pointer64 = true
is_pointer kind = false

-- m bytes at a and n bytes at b share one
abbrev pub shares : ℕ → ℕ → ℕ → ℕ → Bool
shares a m b n = nat_lt a (b + n) && nat_lt b (a + m)

abbrev pub meets : Reference → Reference → Bool
meets r s = shares r.from (width_of r.kind) s.from (width_of s.kind)

-- a reference shares a byte with one of some words
abbrev pub meets_word : List Location → Reference → Bool
meets_word words r = list_any (λ (l : Location). shares r.from (width_of r.kind) l.address 8) words

-- a reference that is no pointer shares a byte with a rebase or a bind
abbrev pub strays : List Location → List Location → Reference → Bool
strays rebases bound r = not (is_pointer r.kind) && (meets_word rebases r || meets_word bound r)

-- A reference overlaps: it strays, or it shares a byte with another one; each shares all its bytes with itself.
abbrev pub overlaps : List Location → List Location → List Reference → Reference → Bool
overlaps rebases bound rs r = nat_lt 1 (count_by (meets r) rs) || strays rebases bound r

-- a reference shares a byte with the one behind it, if there is one
abbrev pub reaches : Reference → Option Reference → Bool
reaches r None = false
reaches r (Some s) = meets r s

abbrev pub lowest : List ℕ → Option ℕ
lowest [] = None
lowest (x ∷ xs) = least (Some x) (lowest xs)

-- the least address of a reference that overlaps
unfoldable pub overlap_at : List Location → List Location → List Reference → Option ℕ
overlap_at rebases bound rs = lowest (map (λ (r : Reference). r.from) (filter (overlaps rebases bound rs) rs))
