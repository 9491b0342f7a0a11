-- The links of a set of images as contracts see them.
use Rattle.std.specs.Prelude.{◌≡◌, ◌<◌, ℕ, ◌-◌, nat_eq, if◌then◌else◌, List, [], ◌∷◌, length, map, slice_get, slice_index_or, unwrap_or}
use Rattle.std.specs.List.{range_with_len, All, IsDistinct}
use Rattle.macho_image.specs.Records.{Img}
use Rattle.dep_closure.specs.declared.dep.Dep.{Dep}
use Rattle.dep_closure.specs.declared.dep.Dep.TheVariants.{Image, Missing, BadOrdinal}
use Rattle.dep_closure.specs.Dependencies.{dependencies_of}
use Rattle.dep_closure.specs.SearchOrder.{search_order}

-- of each image what its dependencies name, from ordinal 1 on, and its search order
pub record Linked : Type 0 where
  pub dependencies : List (List Dep)
  pub orders : List (List ℕ)

unfoldable pub links_of : List Img → Linked
links_of images = record {
  dependencies = map (dependencies_of images) images;
  orders = map (search_order images) (range_with_len 0 (length images));
}

-- what a library ordinal of an image names: 0 is the image itself
abbrev pub dependency_at : Linked → ℕ → ℕ → Dep
dependency_at links image ordinal =
    if nat_eq ordinal 0 then Image image else unwrap_or (slice_get (slice_index_or links.dependencies image []) (ordinal - 1)) BadOrdinal

-- what is true of the links of n images: each dependency names one of them or none, and the search order of each of them begins with it, and has some of them once
abbrev pub IsOneOf : ℕ → Dep → Type 0
IsOneOf n (Image k) = k < n
IsOneOf n Missing = Unit {0}
IsOneOf n BadOrdinal = Unit {0}

pub record IsOrder (n i : ℕ) (order : List ℕ) : Type 0 where
  pub rest : List ℕ
  pub first : order ≡ i ∷ rest
  pub within : All (λ k. k < n) order
  pub once : IsDistinct nat_eq order

pub record AreLinks (n : ℕ) (links : Linked) : Type 0 where
  pub dependencies : length links.dependencies ≡ n
  pub orders : length links.orders ≡ n
  pub named : All (λ ds. All (IsOneOf n) ds) links.dependencies
  pub searched : (i : ℕ) → i < n → IsOrder n i (slice_index_or links.orders i [])
