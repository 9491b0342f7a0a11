-- The bytes of words, as they are pushed and sorted.
use Rattle.std.proofs.Common.{◌≡◌, ◌≤◌, ℕ, Bool, ◌||◌, List, [], ◌∷◌, ◌++◌, map, refl, sym, ap, ap₂, ◌∙◌, subst, arith}
use Rattle.std.specs.Prelude.{filter}
use Rattle.std.specs.List.{list_any, All}
use Rattle.std.specs.List.Sorted.{IsPermutation}
use Rattle.std.proofs.lemmas.List.Elements.{All-append, All-nil, All-cons}
use Rattle.std.proofs.lemmas.List.Folds.{list_any-append}
use Rattle.std.proofs.lemmas.List.Sorted.{list_any-IsPermutation, All-permutation}
use Rattle.macho_image.specs.Records.{Seg}
use Rattle.macho_image.specs.declared.section.Section.{Section}
use Rattle.split_info.specs.declared.reference.Reference.{Reference}
use Rattle.split_info.specs.declared.reference.RefKind.{RefKind}
use Rattle.split_info.specs.declared.reference.RefKind.TheVariants.{Pointer64, Delta32, Delta64, ImageOff32}
use Rattle.split_info.specs.References.{width_of}
use Rattle.prebind.specs.declared.resolved.PlacedWord.{PlacedWord}
use Rattle.prebind.specs.Words.{pointer_word, reference_word, is_no_pointer}
use Rattle.cache_check.specs.declared.extents.Extent.{Extent}
use Rattle.cache_check.specs.Bytes.{covers}
use Rattle.cache_check.specs.Steps.Extents.{pointer_extent, reference_extent, holds}

pointers_alike : (address : ℕ) (ws : List PlacedWord) → list_any (holds address) (map pointer_extent ws) ≡ list_any (covers address) (map pointer_word ws)
pointers_alike address [] = refl
pointers_alike address (w ∷ ws) = ap (λ (b : Bool). covers address (pointer_word w) || b) (pointers_alike address ws)

references_alike : (k address : ℕ) (sections : List Section) (segments : List Seg) (rs : List Reference) → list_any (holds address) (map reference_extent rs) ≡ list_any (covers address) (map (reference_word k sections segments) rs)
references_alike k address sections segments [] = refl
references_alike k address sections segments (r ∷ rs) = ap (λ (b : Bool). covers address (reference_word k sections segments r) || b) (references_alike k address sections segments rs)

pub held_alike : (k address : ℕ) (sections : List Section) (segments : List Seg) (ws : List PlacedWord) (rs : List Reference) (made sorted : List Extent) → made ≡ map pointer_extent ws ++ map reference_extent (filter is_no_pointer rs) → IsPermutation made sorted
    → list_any (holds address) sorted ≡ list_any (covers address) (map pointer_word ws ++ map (reference_word k sections segments) (filter is_no_pointer rs))
held_alike k address sections segments ws rs made sorted made_is moved =
    sym (list_any-IsPermutation (holds address) made sorted moved)
    ∙ (ap (λ (l : List Extent). list_any (holds address) l) made_is
    ∙ (list_any-append (holds address) (map pointer_extent ws) (map reference_extent (filter is_no_pointer rs))
    ∙ (ap₂ (λ (a b : Bool). a || b) (pointers_alike address ws) (references_alike k address sections segments (filter is_no_pointer rs))
    ∙ sym (list_any-append (covers address) (map pointer_word ws) (map (reference_word k sections segments) (filter is_no_pointer rs))))))

-- ---- no word has more than 8 bytes

narrow_kind : (kind : RefKind) → width_of kind ≤ 8
narrow_kind Pointer64 = omega arith
narrow_kind Delta32 = omega arith
narrow_kind Delta64 = omega arith
narrow_kind ImageOff32 = omega arith

narrow_pointers : (ws : List PlacedWord) → All (λ (e : Extent). e.width ≤ 8) (map pointer_extent ws)
narrow_pointers [] = All-nil (λ (e : Extent). e.width ≤ 8)
narrow_pointers (w ∷ ws) = All-cons (λ (e : Extent). e.width ≤ 8) (pointer_extent w) (map pointer_extent ws) (omega arith) (narrow_pointers ws)

narrow_references : (rs : List Reference) → All (λ (e : Extent). e.width ≤ 8) (map reference_extent rs)
narrow_references [] = All-nil (λ (e : Extent). e.width ≤ 8)
narrow_references (r ∷ rs) = All-cons (λ (e : Extent). e.width ≤ 8) (reference_extent r) (map reference_extent rs) (narrow_kind r.kind) (narrow_references rs)

pub all_narrow : (ws : List PlacedWord) (rs : List Reference) (made sorted : List Extent) → made ≡ map pointer_extent ws ++ map reference_extent (filter is_no_pointer rs) → IsPermutation made sorted → All (λ (e : Extent). e.width ≤ 8) sorted
all_narrow ws rs made sorted made_is moved =
    All-permutation (λ (e : Extent). e.width ≤ 8) made sorted moved
    (subst (λ (l : List Extent). All (λ (e : Extent). e.width ≤ 8) l) (sym made_is)
    (All-append (λ (e : Extent). e.width ≤ 8) (map pointer_extent ws) (map reference_extent (filter is_no_pointer rs)) (narrow_pointers ws) (narrow_references (filter is_no_pointer rs))))
