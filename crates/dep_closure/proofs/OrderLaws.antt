-- The search orders of a set, from the lists of what each image re-exports.
use Rattle.std.proofs.Common.{◌≡◌, ◌<◌, ◌+◌, ◌++◌, arith, ℕ, Bool, true, false, if◌then◌else◌, List, [], ◌∷◌, Vec, Global, length, map, refl, sym, ap, ap₂, ◌∙◌, subst, Option, Some, None}
use Rattle.std.specs.Prelude.{All}
use Rattle.std.specs.List.{AllByRecursion, range_with_len, filter_map, cons_option}
use Rattle.std.proofs.lemmas.List.{length-map, map-append}
use Rattle.std.proofs.lemmas.List.FromFn.{map-range_with_len_more}
use Rattle.std.proofs.lemmas.List.Elements.{All-from_recursion}
use Rattle.macho_image.specs.Records.{Img, Dep as Dependency}
use Rattle.macho_image.specs.Rules.{same_bytes}
use Rattle.dep_closure.specs.Dependencies.{image_named}
use Rattle.dep_closure.specs.SearchOrder.{is_reexport, reexport_by, reexports_of, reexports, visit, search_order}
use Rattle.dep_closure.proofs.LinkLaws.{items_of}
use Rattle.dep_closure.proofs.PositionLaws.{position-within}

-- each re-export is one of the images
abbrev pub IsWithin : ℕ → Option ℕ → Type 0
IsWithin n None = Unit {0}
IsWithin n (Some k) = k < n

pub within_named : (images : List Img) (name : List ℕ) → IsWithin (length images) (image_named images name)
within_named images name = go (image_named images name) refl
  where
    go : (o : Option ℕ) → image_named images name ≡ o → IsWithin (length images) o
    go None is = tt
    go (Some k) is = position-within (λ (i : Img). same_bytes name i.install_name) images k is

within_chosen : (n : ℕ) (b : Bool) (o : Option ℕ) → IsWithin n o → IsWithin n (if b then o else None)
within_chosen n true o is = is
within_chosen n false o is = tt

within_more : (n : ℕ) (o : Option ℕ) (ks : List ℕ) → IsWithin n o → AllByRecursion (λ k. k < n) ks → AllByRecursion (λ k. k < n) (cons_option o ks)
within_more n None ks one rest = rest
within_more n (Some k) ks one rest = (one, rest)

within_all : (images : List Img) (ds : List Dependency) → AllByRecursion (λ k. k < length images) (filter_map (reexport_by images) ds)
within_all images [] = tt
within_all images (d ∷ ds) =
    within_more (length images) (reexport_by images d) (filter_map (reexport_by images) ds)
    (within_chosen (length images) (is_reexport d.kind) (image_named images d.name) (within_named images d.name)) (within_all images ds)

-- links that lead to fewer than n images
abbrev pub AreWithin : ℕ → List (List ℕ) → Type 0
AreWithin n links = AllByRecursion (λ ks. AllByRecursion (λ k. k < n) ks) links

within_map : (images js : List Img) → AreWithin (length images) (map (reexports_of images) js)
within_map images [] = tt
within_map images (i ∷ is) = (within_all images i.dependencies, within_map images is)

pub reexports_within : (images : List Img) → AreWithin (length images) (reexports images)
reexports_within images = within_map images images

vectors_within : (n : ℕ) (links : List (Vec ℕ Global)) → AreWithin n (map items_of links) → AllByRecursion (λ (v : Vec ℕ Global). All (λ k. k < n) v.items) links
vectors_within n [] within = tt
vectors_within n (v ∷ vs) within = (All-from_recursion (λ k. k < n) v.items within.0, vectors_within n vs within.1)

one_each : (images : List Img) (links : List (Vec ℕ Global)) → map items_of links ≡ reexports images → length links ≡ length images
one_each images links is = sym (length-map links items_of) ∙ (ap length is ∙ length-map images (reexports_of images))

pub links_within : (images : List Img) (links : List (Vec ℕ Global)) → map items_of links ≡ reexports images → All (λ v. All (λ k. k < length links) v.items) links
links_within images links is =
    let within : AreWithin (length links) (map items_of links) = subst (λ (n : ℕ). AreWithin n (map items_of links)) (sym (one_each images links is)) (subst (λ (ls : List (List ℕ)). AreWithin (length images) ls) (sym is) (reexports_within images)) in
    All-from_recursion (λ (v : Vec ℕ Global). All (λ k. k < length links) v.items) links (vectors_within (length links) links within)

pub orders_are : (images : List Img) (links : List (Vec ℕ Global)) (orders : List (List ℕ)) → map items_of links ≡ reexports images
    → orders ≡ map (visit (length links) (map items_of links) []) (range_with_len 0 (length links)) → orders ≡ map (search_order images) (range_with_len 0 (length images))
unfolding search_order
orders_are images links orders is found =
    found ∙ ap₂ (λ (n : ℕ) (ls : List (List ℕ)). map (λ (i : ℕ). visit n ls [] i) (range_with_len 0 n)) (one_each images links is) is

pub orders_more : (links : List (List ℕ)) (n image : ℕ) (orders longer : List (Vec ℕ Global)) (order : Vec ℕ Global) → map items_of orders ≡ map (visit n links []) (range_with_len 0 image) → order.items ≡ visit n links [] image → longer ≡ orders ++ order ∷ []
    → map items_of longer ≡ map (visit n links []) (range_with_len 0 (image + 1))
orders_more links n image orders longer order kept one pushed =
    ap (λ (vs : List (Vec ℕ Global)). map items_of vs) pushed
    ∙ (map-append items_of orders (order ∷ [])
    ∙ (ap₂ (λ (os : List (List ℕ)) (o : List ℕ). os ++ o ∷ []) kept one ∙ sym (map-range_with_len_more (visit n links []) 0 image image (omega arith))))
