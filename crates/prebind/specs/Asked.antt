-- The set of the tests on steps: its first image needs the second, in whose search order the fourth and the fifth come before the third.
use Rattle.std.specs.Prelude.{◌≡◌, ℕ, List, [], ◌∷◌, map, Option, slice_index_or}
use Rattle.bind_ops.specs.Records.{BoundWord}
use Rattle.export_trie.specs.declared.export.Export.{Export}
use Rattle.export_trie.specs.declared.export.Target.{Target}
use Rattle.dep_closure.specs.declared.dep.Dep.TheVariants as deps
use Rattle.dep_closure.specs.Linked.{Linked, dependency_at}
use Rattle.prebind.specs.Resolves.{first_exporting}

pub record IsSearchedInDepth (links : Linked) : Type 0 where
  pub needed : deps.Image 1 ≡ dependency_at links 0 1
  pub order : slice_index_or links.orders 1 [] ≡ 1 ∷ 3 ∷ 4 ∷ 2 ∷ []

-- what that order has of a name
abbrev pub OrderHas : Linked → List (List Export) → List ℕ → Option (ℕ × Target) → Type 0
OrderHas links names name found = found ≡ first_exporting names name (slice_index_or links.orders 1 [])

-- one bind, of a name of the first dependency
pub record IsOneBind (binds : List BoundWord) (name : List ℕ) : Type 0 where
  pub ordinals : map (λ (b : BoundWord). b.ordinal) binds ≡ 1 ∷ []
  pub names : map (λ (b : BoundWord). b.name) binds ≡ name ∷ []
