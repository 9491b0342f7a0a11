-- The pointers of all images, told by the numbers of the images, and taken out of what holds them.
use Rattle.std.proofs.Common.{◌≡◌, ◌<◌, ℕ, zero, suc, Some, List, [], ◌∷◌, map, length, refl, sym, ap, ◌∙◌, subst, arith}
use Rattle.std.specs.Prelude.{slice_get, slice_index_or, option_map}
use Rattle.std.proofs.lemmas.List.{length-map}
use Rattle.std.proofs.lemmas.Option.{slice_get-map, slice_get_within, get_or_from_slice_get}
use Rattle.prebind.specs.declared.resolved.PlacedWord.{PlacedWord}
use Rattle.prebind.specs.Sets.{ImageSet}
use Rattle.prebind.specs.Placed.{AreAllPlaced, AreListsPlaced}
use Rattle.prebind.specs.Words.{pointers_of, ArePlaced}

is_there : {X : Type 0} (xs : List X) (k : ℕ) → k < length xs → (x : X) × (slice_get xs k ≡ Some x)
is_there [] k lt = absurd (omega (arith, lt))
is_there (x ∷ xs) zero lt = (x, refl)
is_there (x ∷ xs) (suc k) lt = is_there xs k (omega (arith, lt))

pub placed_at : (set : ImageSet) (lists : List (List PlacedWord)) → AreListsPlaced set lists → (k : ℕ) → k < length set.images → ArePlaced (pointers_of set k) (slice_index_or lists k [])
placed_at set lists are k lt =
    let own = is_there lists k (omega (arith, lt, are.count)) in
    subst (λ (l : List PlacedWord). ArePlaced (pointers_of set k) l) (sym (get_or_from_slice_get lists k own.0 [] own.1)) (are.placed k own.0 own.1)

pub lists_placed : (set : ImageSet) (lists : List (List PlacedWord)) → length lists ≡ length set.images → ((k : ℕ) → k < length set.images → ArePlaced (pointers_of set k) (slice_index_or lists k [])) → AreListsPlaced set lists
lists_placed set lists count each = record {
  count = count;
  placed = λ k own got. subst (λ (l : List PlacedWord). ArePlaced (pointers_of set k) l) (get_or_from_slice_get lists k own [] got) (each k (omega (arith, slice_get_within lists k own got, count)));
}

pub items_placed : {X : Type 0} (items : X → List PlacedWord) (set : ImageSet) (words : List X) → AreAllPlaced items set words → AreListsPlaced set (map items words)
items_placed items set words are =
    lists_placed set (map items words) (length-map words items ∙ are.count)
    (λ k lt.
    let own = is_there words k (omega (arith, lt, are.count)) in
    let got = slice_get-map items words k ∙ ap (λ o. option_map items o) own.1 in
    subst (λ (l : List PlacedWord). ArePlaced (pointers_of set k) l) (sym (get_or_from_slice_get (map items words) k (items own.0) [] got)) (are.placed k own.0 own.1))
