-- Sets of images that are linked alike, export the same and have all segments but `__LINKEDIT` at the same places: names lead to the same.
use Rattle.std.proofs.Common.{◌≡◌, ℕ, zero, suc, ◌+◌, Option, Some, None, List, [], ◌∷◌, map, length, refl, sym, ap, ap₂, ◌∙◌, if◌then◌else◌}
use Rattle.std.specs.Prelude.{option_map}
use Rattle.std.specs.List.{filter_map, range_with_len}
use Rattle.macho_image.specs.Records.{Img, Dep as Dependency}
use Rattle.macho_image.specs.Rules.{same_bytes}
use Rattle.macho_image.specs.Segments.{header_address, segments_at}
use Rattle.dep_closure.specs.declared.dep.Dep.{Dep}
use Rattle.dep_closure.specs.Dependencies.{image_named, answer_of, named_by, dependencies_of}
use Rattle.dep_closure.specs.Linked.{links_of}
use Rattle.dep_closure.specs.SearchOrder.{reexport_by, is_reexport, visit, search_order}
use Rattle.dep_closure.proofs.PositionLaws.{position-cons}
use Rattle.export_trie.specs.declared.export.Export.{Export}
use Rattle.export_trie.specs.Exports.{exports_of}
use Rattle.prebind.specs.Agree.{body_extent}
use Rattle.prebind.specs.Places.{exports_in}
use Rattle.prebind.specs.Sets.{StreamLists}

-- an image and another one that has its names, exports, header address and segments but `__LINKEDIT`
pub record IsAlike (i j : Img) : Type 0 where
  pub name : j.install_name ≡ i.install_name
  pub needs : j.dependencies ≡ i.dependencies
  pub exports : j.streams.exports ≡ i.streams.exports
  pub header : header_address j.segments ≡ header_address i.segments
  pub bodies : map body_extent j.segments ≡ map body_extent i.segments

abbrev pub AreAlike : List Img → List Img → Type 0
AreAlike [] [] = Unit {0}
AreAlike (i ∷ is) (j ∷ js) = IsAlike i j × AreAlike is js
AreAlike is js = ⊥

-- ---- links

many_alike : (is js : List Img) → AreAlike is js → length js ≡ length is
many_alike [] [] alike = refl
many_alike [] (j ∷ js) alike = absurd alike
many_alike (i ∷ is) [] alike = absurd alike
many_alike (i ∷ is) (j ∷ js) alike = ap suc (many_alike is js alike.1)

same_named : (is js : List Img) (name : List ℕ) → AreAlike is js → image_named js name ≡ image_named is name
same_named [] [] name alike = refl
same_named [] (j ∷ js) name alike = absurd alike
same_named (i ∷ is) [] name alike = absurd alike
same_named (i ∷ is) (j ∷ js) name alike =
    position-cons (λ (l : Img). same_bytes name l.install_name) j js
    ∙ ((λ n. if same_bytes name (alike.0.name n) then Some 0 else option_map (λ (m : ℕ). m + 1) (same_named is js name alike.1 n))
    ∙ sym (position-cons (λ (l : Img). same_bytes name l.install_name) i is))

-- of each image what a function of its dependencies gives
same_each : {Y : Type 0} (f g : List Dependency → Y) (is js : List Img) → ((ds : List Dependency) → g ds ≡ f ds) → AreAlike is js → map (λ (j : Img). g j.dependencies) js ≡ map (λ (i : Img). f i.dependencies) is
same_each {Y} f g [] [] same alike = refl
same_each {Y} f g [] (j ∷ js) same alike = absurd alike
same_each {Y} f g (i ∷ is) [] same alike = absurd alike
same_each {Y} f g (i ∷ is) (j ∷ js) same alike = ap₂ (λ (y : Y) (ys : List Y). y ∷ ys) (same j.dependencies ∙ ap f alike.0.needs) (same_each f g is js same alike.1)

same_dependencies : (is js : List Img) → AreAlike is js → (ds : List Dependency) → map (named_by js) ds ≡ map (named_by is) ds
same_dependencies is js alike [] = refl
same_dependencies is js alike (d ∷ ds) = ap₂ (λ (a : Dep) (rest : List Dep). a ∷ rest) (ap answer_of (same_named is js d.name alike)) (same_dependencies is js alike ds)

same_reexport : (is js : List Img) → AreAlike is js → (d : Dependency) → reexport_by js d ≡ reexport_by is d
same_reexport is js alike d = ap (λ (o : Option ℕ). if is_reexport d.kind then o else None) (same_named is js d.name alike)

same_reexports : (is js : List Img) → AreAlike is js → (ds : List Dependency) → filter_map (reexport_by js) ds ≡ filter_map (reexport_by is) ds
same_reexports is js alike ds = λ n. filter_map (λ (d : Dependency). same_reexport is js alike d n) ds

same_orders : (is js : List Img) → AreAlike is js → (ks : List ℕ) → map (search_order js) ks ≡ map (search_order is) ks
unfolding search_order
same_orders is js alike [] = refl
same_orders is js alike (k ∷ ks) =
    ap₂ (λ (o : List ℕ) (os : List (List ℕ)). o ∷ os)
    (ap₂ (λ (n : ℕ) (rs : List (List ℕ)). visit n rs [] k) (many_alike is js alike) (same_each (filter_map (reexport_by is)) (filter_map (reexport_by js)) is js (same_reexports is js alike) alike))
    (same_orders is js alike ks)

pub same_links : (is js : List Img) → AreAlike is js → links_of js ≡ links_of is
unfolding links_of
same_links is js alike =
    let deps : map (dependencies_of js) js ≡ map (dependencies_of is) is = same_each (map (named_by is)) (map (named_by js)) is js (same_dependencies is js alike) alike in
    let orders : map (search_order js) (range_with_len 0 (length js)) ≡ map (search_order is) (range_with_len 0 (length is)) =
    same_orders is js alike (range_with_len 0 (length js)) ∙ ap (λ (n : ℕ). map (search_order is) (range_with_len 0 n)) (many_alike is js alike) in
    λ n. record { dependencies = deps n; orders = orders n }

-- ---- exports, headers and segments

pub same_exports : (f g : Img → StreamLists) (is js : List Img) → ((i : Img) → (f i).exports ≡ i.streams.exports) → ((j : Img) → (g j).exports ≡ j.streams.exports) → AreAlike is js → exports_in (map g js) ≡ exports_in (map f is)
same_exports f g [] [] one two alike = refl
same_exports f g [] (j ∷ js) one two alike = absurd alike
same_exports f g (i ∷ is) [] one two alike = absurd alike
same_exports f g (i ∷ is) (j ∷ js) one two alike =
    ap₂ (λ (e : List ℕ) (es : List (List Export)). exports_of e ∷ es) (two j ∙ (alike.0.exports ∙ sym (one i))) (same_exports f g is js one two alike.1)

pub same_headers : (is js : List Img) → AreAlike is js → (k : ℕ) → header_address (segments_at js k) ≡ header_address (segments_at is k)
same_headers [] [] alike k = refl
same_headers [] (j ∷ js) alike k = absurd alike
same_headers (i ∷ is) [] alike k = absurd alike
same_headers (i ∷ is) (j ∷ js) alike zero = alike.0.header
same_headers (i ∷ is) (j ∷ js) alike (suc k) = same_headers is js alike.1 k

pub same_bodies : (is js : List Img) → AreAlike is js → (k : ℕ) → map body_extent (segments_at js k) ≡ map body_extent (segments_at is k)
same_bodies [] [] alike k = refl
same_bodies [] (j ∷ js) alike k = absurd alike
same_bodies (i ∷ is) [] alike k = absurd alike
same_bodies (i ∷ is) (j ∷ js) alike zero = alike.0.bodies
same_bodies (i ∷ is) (j ∷ js) alike (suc k) = same_bodies is js alike.1 k
