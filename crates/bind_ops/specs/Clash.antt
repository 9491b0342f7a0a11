-- Words of an image's rebases, binds and lazy binds that share a byte.
use Rattle.std.specs.Prelude.{ℕ, ◌+◌, Bool, not, ◌&&◌, List, [], ◌∷◌, ◌++◌, filter, find, Option, Some, None, nat_eq, nat_le, nat_lt}
use Rattle.std.specs.List.{list_any}
use Rattle.dsc_base.specs.declared.fault.Site.{Site}
use Rattle.dsc_base.specs.declared.rule.Rule.TheVariants.{WordsOverlap}
use Rattle.dsc_base.specs.Refusals.{broken, least}
use Rattle.macho_image.specs.Order.{is_near}

-- two words of 8 bytes that share one, and aren't the same word
abbrev pub is_skew : ℕ → ℕ → Bool
is_skew a b = is_near a b && not (nat_eq a b)

-- the addresses of the first list that make such a pair with one of the second
abbrev pub in_pairs : (ℕ → ℕ → Bool) → List ℕ → List ℕ → List ℕ
in_pairs share xs ys = filter (λ x. list_any (share x) ys) xs

-- a rebase may be a bind or a lazy bind, but not share only a part of one; a bind and a lazy bind share nothing
unfoldable pub clashing : List ℕ → List ℕ → List ℕ → List ℕ
clashing rebases binds lazy =
    in_pairs is_skew rebases (binds ++ lazy) ++ (in_pairs is_skew (binds ++ lazy) rebases ++ (in_pairs is_near binds lazy ++ in_pairs is_near lazy binds))

abbrev pub least_of : List ℕ → Option ℕ
least_of [] = None
least_of (x ∷ xs) = least (Some x) (least_of xs)

-- rule 82, by the addresses of an image's rebases, binds and lazy binds: the least one that clashes
unfoldable pub clash_break : List ℕ → List ℕ → List ℕ → Option Site
clash_break rebases binds lazy = broken WordsOverlap (least_of (clashing rebases binds lazy))

-- a word begins at least so far above the start of another one, and before its end
abbrev pub begins_in : ℕ → ℕ → ℕ → Bool
begins_in gap low high = nat_le (low + gap) high && nat_lt high (low + 8)

-- of ascending addresses, the first one in whose word a word of the other list begins, at least so far above its start
abbrev pub first_in : ℕ → List ℕ → List ℕ → Option ℕ
first_in gap lower upper = find (λ x. list_any (begins_in gap x) upper) lower
