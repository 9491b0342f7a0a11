-- What is true of the links of every set, and the search order as a visit of each image in turn, however deep.
use Rattle.std.proofs.Common.{◌≡◌, ◌<◌, ◌++◌, ℕ, zero, suc, Bool, false, if◌then◌else◌, nat_eq, List, [], ◌∷◌, length, map, get_or, refl, sym, ap, ◌∙◌, subst, arith, append_assoc, append-nil, Option, Some, None, inl, inr}
use Rattle.std.specs.Prelude.{All, fold, slice_index_or}
use Rattle.std.specs.List.{AllByRecursion, IsDistinct}
use Rattle.std.specs.Cmp.{nat_eq_equiv}
use Rattle.std.proofs.lemmas.Bool.{cases_Bool}
use Rattle.std.proofs.lemmas.List.{length-map}
use Rattle.std.proofs.lemmas.List.FromFn.{length-map-range_with_len, get_or-map-range_with_len}
use Rattle.std.proofs.lemmas.List.Elements.{All-push, All-from_recursion}
use Rattle.std.proofs.lemmas.Map.Keys.{IsDistinct-push}
use Rattle.macho_image.specs.Records.{Img, Dep as Dependency}
use Rattle.dep_closure.specs.declared.dep.Dep.{Dep}
use Rattle.dep_closure.specs.Dependencies.{image_named, answer_of, named_by, dependencies_of}
use Rattle.dep_closure.specs.SearchOrder.{is_listed, reexports, visit, search_order}
use Rattle.dep_closure.specs.Linked.{IsOneOf, IsOrder, AreLinks, links_of}
use Rattle.dep_closure.proofs.VisitLaws.{AreInside, left_few, visit_listed, visit_new}
use Rattle.dep_closure.proofs.OrderLaws.{IsWithin, AreWithin, within_named, reexports_within}

inside_lists : (n : ℕ) (links : List (List ℕ)) → AreWithin n links → AreInside n links
inside_lists n [] within i = tt
inside_lists n (ks ∷ links) within zero = within.0
inside_lists n (ks ∷ links) within (suc i) = inside_lists n links within.1 i

-- ---- The search order, however deep a visit may go

-- A visit of an image of the set gives what was listed where the image was, and else lists it and visits its re-exports in turn.
pub visit_one : (images : List Img) (listed : List ℕ) (i : ℕ) → i < length images
    → visit (length images) (reexports images) listed i
    ≡ (if is_listed listed i then listed else fold (visit (length images) (reexports images)) (listed ++ i ∷ []) (slice_index_or (reexports images) i []))
visit_one images listed i lt = elim (cases_Bool (is_listed listed i)) [
  | inl there ↦
      visit_listed links n listed i there ∙ sym (ap (λ (b : Bool). if b then listed else fold (visit n links) (listed ++ i ∷ []) (get_or links i [])) there)
  | inr new ↦
      visit_new links n (inside_lists n links (reexports_within images)) n listed i lt (left_few listed n) new
      ∙ sym (ap (λ (b : Bool). if b then listed else fold (visit n links) (listed ++ i ∷ []) (get_or links i [])) new)
]
  where
    links : List (List ℕ)
    links = reexports images

    n : ℕ
    n = length images

-- ---- What a visit keeps

-- what is listed behind what was
pub record IsGrown (n : ℕ) (before after : List ℕ) : Type 0 where
  pub added : List ℕ
  pub is : after ≡ before ++ added
  pub within : All (λ k. k < n) before → All (λ k. k < n) after
  pub once : IsDistinct nat_eq before → IsDistinct nat_eq after

grown_none : (n : ℕ) (listed : List ℕ) → IsGrown n listed listed
grown_none n listed = record { added = []; is = sym (append-nil listed); within = λ all. all; once = λ all. all }

grown_twice : (n : ℕ) (a b c : List ℕ) → IsGrown n a b → IsGrown n b c → IsGrown n a c
grown_twice n a b c first second = record {
  added = first.added ++ second.added;
  is = second.is ∙ (ap (λ (l : List ℕ). l ++ second.added) first.is ∙ append_assoc a first.added second.added);
  within = λ all. second.within (first.within all);
  once = λ all. second.once (first.once all);
}

grown_one : (n : ℕ) (listed : List ℕ) (i : ℕ) → i < n → is_listed listed i ≡ false → IsGrown n listed (listed ++ i ∷ [])
grown_one n listed i lt new = record {
  added = i ∷ [];
  is = refl;
  within = λ all. All-push (λ k. k < n) listed i all lt;
  once = λ all. IsDistinct-push nat_eq_equiv listed i all new;
}

fold_grown : (n : ℕ) (f : List ℕ → ℕ → List ℕ) → ((listed : List ℕ) (i : ℕ) → i < n → IsGrown n listed (f listed i)) → (is : List ℕ) (listed : List ℕ) → AllByRecursion (λ k. k < n) is → IsGrown n listed (fold f listed is)
fold_grown n f grows [] listed within = grown_none n listed
fold_grown n f grows (i ∷ is) listed within =
    grown_twice n listed (f listed i) (fold f (f listed i) is) (grows listed i within.0) (fold_grown n f grows is (f listed i) within.1)

visit_grown : (links : List (List ℕ)) (n : ℕ) → AreInside n links → (depth : ℕ) (listed : List ℕ) (i : ℕ) → i < n → IsGrown n listed (visit depth links listed i)
unfolding visit
visit_grown links n inside zero listed i lt = grown_none n listed
visit_grown links n inside (suc depth) listed i lt =
    elim (cases_Bool (is_listed listed i)) as (λ _. IsGrown n listed (if is_listed listed i then listed else fold (visit depth links) (listed ++ i ∷ []) (get_or links i []))) [
      | inl there ↦
          subst (λ (b : Bool). IsGrown n listed (if b then listed else fold (visit depth links) (listed ++ i ∷ []) (get_or links i []))) (sym there) (grown_none n listed)
      | inr new ↦
          subst (λ (b : Bool). IsGrown n listed (if b then listed else fold (visit depth links) (listed ++ i ∷ []) (get_or links i []))) (sym new)
          (grown_twice n listed (listed ++ i ∷ []) (fold (visit depth links) (listed ++ i ∷ []) (get_or links i [])) (grown_one n listed i lt new)
          (fold_grown n (visit depth links) (visit_grown links n inside depth) (get_or links i []) (listed ++ i ∷ []) (inside i)))
    ]

-- ---- The links of a set

pub order_is : (images : List Img) (i : ℕ) → i < length images → IsOrder (length images) i (search_order images i)
unfolding search_order IsDistinct
order_is images i lt =
    let n = length images in
    let links = reexports images in
    let inside = inside_lists n links (reexports_within images) in
    let rest = fold_grown n (visit n links) (visit_grown links n inside n) (get_or links i []) (i ∷ []) (inside i) in
    let step : visit n links [] i ≡ fold (visit n links) (i ∷ []) (get_or links i []) = visit_one images [] i lt in
    let first = grown_one n [] i lt refl in
    record {
      rest = rest.added;
      first = step ∙ rest.is;
      within = subst (λ (o : List ℕ). All (λ k. k < n) o) (sym step) (rest.within (first.within (λ k d none. absurd (omega arith))));
      once = subst (λ (o : List ℕ). IsDistinct nat_eq o) (sym step) (rest.once (first.once tt));
    }

one_of : (n : ℕ) (o : Option ℕ) → IsWithin n o → IsOneOf n (answer_of o)
one_of n None is = tt
one_of n (Some k) is = is

all_named : (images : List Img) (ds : List Dependency) → AllByRecursion (IsOneOf (length images)) (map (named_by images) ds)
all_named images [] = tt
all_named images (d ∷ ds) = (one_of (length images) (image_named images d.name) (within_named images d.name), all_named images ds)

all_linked : (images js : List Img) → AllByRecursion (λ ds. All (IsOneOf (length images)) ds) (map (dependencies_of images) js)
all_linked images [] = tt
all_linked images (i ∷ is) = (All-from_recursion (IsOneOf (length images)) (map (named_by images) i.dependencies) (all_named images i.dependencies), all_linked images is)

pub order_at : (images : List Img) (i : ℕ) → i < length images → slice_index_or (links_of images).orders i [] ≡ search_order images i
unfolding links_of
order_at images i lt = get_or-map-range_with_len (search_order images) 0 (length images) i i [] lt (omega arith)

pub links_sound : (images : List Img) → AreLinks (length images) (links_of images)
unfolding links_of
links_sound images = record {
  dependencies = length-map images (dependencies_of images);
  orders = length-map-range_with_len (search_order images) 0 (length images);
  named = All-from_recursion (λ (ds : List Dep). All (IsOneOf (length images)) ds) (map (dependencies_of images) images) (all_linked images images);
  searched = λ i lt. subst (λ (o : List ℕ). IsOrder (length images) i o) (sym (order_at images i lt)) (order_is images i lt);
}
