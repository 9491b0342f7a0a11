-- Dependencies, one at a time: those before one name what was found, and none of them is lacking.
use Rattle.std.proofs.Common.{◌≡◌, ◌≤◌, ◌<◌, ℕ, ◌+◌, Bool, true, false, not, ◌&&◌, List, [], ◌∷◌, ◌++◌, take, length, get_or, map, refl, sym, ap, ap₂, ◌∙◌, subst, arith, Option, Some, None}
use Rattle.std.specs.Prelude.{position, option_map, is_none}
use Rattle.std.specs.Option.{option_or}
use Rattle.dsc_base.specs.declared.fault.Site.{Site}
use Rattle.std.proofs.lemmas.List.{take_more, take_all, length-take-le, map-append}
use Rattle.dsc_base.specs.declared.fault.Fault.{Fault}
use Rattle.dsc_base.specs.declared.fault.Fault.TheVariants.{Broken}
use Rattle.dsc_base.specs.declared.rule.Rule.TheVariants.{RelativeDependency, MissingDependency}
use Rattle.macho_image.specs.Records.{Img, Dep as Dependency}
use Rattle.dep_closure.specs.declared.dep.Dep.{Dep}
use Rattle.dep_closure.specs.Dependencies.{image_named, named_by}
use Rattle.dsc_base.specs.Refusals.{broken, IsRefusal}
use Rattle.dep_closure.specs.Breaks.{is_weak, is_absolute, is_lacking, dependency_break}
use Rattle.dep_closure.proofs.PositionLaws.{or_last, position-push, position-take, from_below}

pub record AreResolved (images : List Img) (ds : List Dependency) (found : List Dep) (index : ℕ) : Type 0 where
  pub found_are : found ≡ map (named_by images) (take index ds)
  pub none_lacks : position (is_lacking images) (take index ds) ≡ None

one_more : (images : List Img) (ds : List Dependency) (index : ℕ) (d : Dependency) → index < length ds → d ≡ get_or ds index d
    → position (is_lacking images) (take (index + 1) ds) ≡ or_last (position (is_lacking images) (take index ds)) (is_lacking images d) index
one_more images ds index d more is =
    let long : length (take index ds) ≡ index = length-take-le index ds (omega arith) in
    ap (λ (es : List Dependency). position (is_lacking images) es) (take_more ds index d more)
    ∙ (position-push (is_lacking images) (take index ds) (get_or ds index d)
    ∙ ap₂ (λ (e : Dependency) (n : ℕ). or_last (position (is_lacking images) (take index ds)) (is_lacking images e) n) (sym is) long)

pub resolved_more : (images : List Img) (ds : List Dependency) (found longer : List Dep) (index : ℕ) (d : Dependency) (one : Dep) → AreResolved images ds found index → index < length ds → d ≡ get_or ds index d
    → one ≡ named_by images d → is_lacking images d ≡ false → longer ≡ found ++ one ∷ [] → AreResolved images ds longer (index + 1)
resolved_more images ds found longer index d one kept more is one_is named pushed = record {
  found_are =
      pushed ∙ (ap₂ (λ (xs : List Dep) (x : Dep). xs ++ x ∷ []) kept.found_are (one_is ∙ ap (λ (e : Dependency). named_by images e) is)
      ∙ (sym (map-append (named_by images) (take index ds) (get_or ds index d ∷ [])) ∙ sym (ap (λ (es : List Dependency). map (named_by images) es) (take_more ds index d more))));
  none_lacks = one_more images ds index d more is ∙ ap₂ (λ (o : Option ℕ) (b : Bool). or_last o b index) kept.none_lacks named;
}

pub resolved_lacking : (images : List Img) (ds : List Dependency) (found : List Dep) (index : ℕ) (d : Dependency) → AreResolved images ds found index → index < length ds → d ≡ get_or ds index d
    → is_lacking images d ≡ true → position (is_lacking images) ds ≡ Some index
resolved_lacking images ds found index d kept more is lacks =
    from_below (index + 1) index (position (is_lacking images) ds)
    (sym (position-take (is_lacking images) (index + 1) ds) ∙ (one_more images ds index d more is ∙ ap₂ (λ (o : Option ℕ) (b : Bool). or_last o b index) kept.none_lacks lacks))

pub resolved_all : (images : List Img) (ds : List Dependency) (found : List Dep) (index : ℕ) → AreResolved images ds found index → length ds ≤ index → AreResolved images ds found (length ds)
resolved_all images ds found index kept all = record {
  found_are = kept.found_are ∙ ap (λ (es : List Dependency). map (named_by images) es) (take_all index ds all ∙ sym (take_all (length ds) ds (omega arith)));
  none_lacks = ap (λ (es : List Dependency). position (is_lacking images) es) (take_all (length ds) ds (omega arith) ∙ sym (take_all index ds all)) ∙ kept.none_lacks;
}

abbrev pub is_relative : Dependency → Bool
is_relative d = not (is_absolute d.name)

-- what the two places decide
abbrev decided : Option ℕ → Option ℕ → Option Site
decided relative lacking = option_or (broken RelativeDependency (option_map (λ (k : ℕ). k + 1) relative)) (broken MissingDependency (option_map (λ (k : ℕ). k + 1) lacking))

break_is : (images : List Img) (ds : List Dependency) (relative lacking : Option ℕ) → position is_relative ds ≡ relative → position (is_lacking images) ds ≡ lacking → dependency_break images ds ≡ decided relative lacking
unfolding dependency_break
break_is images ds relative lacking r l = ap₂ (λ (a b : Option ℕ). decided a b) r l

pub relative_refused : (images : List Img) (ds : List Dependency) (k : ℕ) (fault : Fault) → Some k ≡ position is_relative ds → fault ≡ Broken (record { rule = RelativeDependency; at = k + 1 }) → IsRefusal (dependency_break images ds) fault
relative_refused images ds k fault there is =
    subst (λ (f : Fault). IsRefusal (dependency_break images ds) f) (sym is) (break_is images ds (Some k) (position (is_lacking images) ds) (sym there) refl)

pub lacking_refused : (images : List Img) (ds : List Dependency) (k : ℕ) (fault : Fault) → None ≡ position is_relative ds → position (is_lacking images) ds ≡ Some k → fault ≡ Broken (record { rule = MissingDependency; at = k + 1 })
    → IsRefusal (dependency_break images ds) fault
lacking_refused images ds k fault none there is =
    subst (λ (f : Fault). IsRefusal (dependency_break images ds) f) (sym is) (break_is images ds None (Some k) (sym none) there)

pub none_refused : (images : List Img) (ds : List Dependency) (found : List Dep) → None ≡ position is_relative ds → AreResolved images ds found (length ds) → dependency_break images ds ≡ None
none_refused images ds found none kept =
    break_is images ds None None (sym none) (ap (λ (es : List Dependency). position (is_lacking images) es) (sym (take_all (length ds) ds (omega arith))) ∙ kept.none_lacks)

pub lacking_is : (images : List Img) (d e : Dependency) → e ≡ d → false ≡ is_weak e.kind → None ≡ image_named images e.name → is_lacking images d ≡ true
lacking_is images d e same weak nowhere =
    ap (λ (x : Dependency). is_lacking images x) (sym same) ∙ ap₂ (λ (b : Bool) (o : Option ℕ). not b && is_none o) (sym weak) (sym nowhere)

pub none_is : (found answer : Option ℕ) → answer ≡ found → ((k : ℕ) → answer ≡ Some k → ⊥) → None ≡ found
none_is found None is never = is
none_is found (Some k) is never = absurd (never k refl)
