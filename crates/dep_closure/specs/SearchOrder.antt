-- The order in which images are searched for a symbol: an image, and then what it re-exports by LC_REEXPORT_DYLIB of mach-o/loader.h.
use Rattle.std.specs.Prelude.{ℕ, zero, suc, Bool, true, false, nat_eq, if◌then◌else◌, List, [], ◌∷◌, ◌++◌, length, map, fold, Option, None, slice_index_or}
use Rattle.std.specs.List.{list_any, filter_map}
use Rattle.macho_image.specs.Records.{Img, Dep as Dependency}
use Rattle.macho_image.specs.declared.form.LinkKind.{LinkKind}
use Rattle.macho_image.specs.declared.form.LinkKind.TheVariants.{Reexport}
use Rattle.dep_closure.specs.Dependencies.{image_named}

abbrev pub is_reexport : LinkKind → Bool
is_reexport Reexport = true
is_reexport kind = false

-- the image that a dependency re-exports
abbrev pub reexport_by : List Img → Dependency → Option ℕ
reexport_by images d = if is_reexport d.kind then image_named images d.name else None

-- the images that an image re-exports, in command order
abbrev pub reexports_of : List Img → Img → List ℕ
reexports_of images i = filter_map (reexport_by images) i.dependencies

abbrev pub reexports : List Img → List (List ℕ)
reexports images = map (reexports_of images) images

abbrev pub is_listed : List ℕ → ℕ → Bool
is_listed listed i = list_any (nat_eq i) listed

-- What is listed after a visit of image i, which goes so many re-exports deep at most: an image that was listed before isn't listed again; another one is listed, and then each of its re-exports is visited in turn.
unfoldable pub visit : ℕ → List (List ℕ) → List ℕ → ℕ → List ℕ
visit zero links listed i = listed
visit (suc depth) links listed i =
    if is_listed listed i then listed else fold (visit depth links) (listed ++ i ∷ []) (slice_index_or links i [])

-- The search order of image i: what a visit lists where nothing was listed before. No visit lists an image behind more of them than there are.
unfoldable pub search_order : List Img → ℕ → List ℕ
search_order images i = visit (length images) (reexports images) [] i
