-- Locations in address order, and words that overlap.
use Rattle.std.specs.Prelude.{ℕ, ◌+◌, Bool, ◌&&◌, List, [], ◌∷◌, map, find, Option, count_by, nat_le, nat_lt, if◌then◌else◌}
use Rattle.macho_image.specs.declared.place.Location.{Location}

abbrev pub put_in_order : Location → List Location → List Location
put_in_order l [] = l ∷ []
put_in_order l (m ∷ ms) = if nat_le l.address m.address then l ∷ (m ∷ ms) else m ∷ put_in_order l ms

abbrev pub in_address_order : List Location → List Location
in_address_order [] = []
in_address_order (l ∷ ls) = put_in_order l (in_address_order ls)

abbrev pub addresses_of : List Location → List ℕ
addresses_of ls = map (λ l. l.address) ls

-- two words of 8 bytes that share one
abbrev pub is_near : ℕ → ℕ → Bool
is_near a b = nat_lt a (b + 8) && nat_lt b (a + 8)

-- of addresses in order, the first that is near another one; each is near itself
unfoldable pub first_close : List ℕ → Option ℕ
first_close addresses = find (λ a. nat_lt 1 (count_by (is_near a) addresses)) addresses
