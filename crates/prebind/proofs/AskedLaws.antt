-- The steps of a resolution that ends in the first search order.
use Rattle.std.proofs.Common.{◌≡◌, ◌+◌, ℕ, suc, List, [], ◌∷◌, length, map, get_or, refl, sym, ap, ◌∙◌, arith, Option, Some, None}
use Rattle.std.proofs.lemmas.List.Sums.{sum_by-cons}
use Rattle.bind_ops.specs.Records.{BoundWord}
use Rattle.export_trie.specs.declared.export.Export.{Export}
use Rattle.export_trie.specs.declared.export.Target.{Target}
use Rattle.export_trie.specs.declared.export.Target.TheVariants.{Offset}
use Rattle.export_trie.specs.Finding.{target_named}
use Rattle.dep_closure.specs.Linked.{Linked}
use Rattle.prebind.specs.declared.resolved.Resolved.{Resolved}
use Rattle.prebind.specs.declared.resolved.Resolved.TheVariants.{Absent}
use Rattle.prebind.specs.Sets.{ImageSet}
use Rattle.prebind.specs.Resolves.{Ends, or_later, first_exporting}
use Rattle.prebind.specs.Probes.{unless_found, searched, step_probes, probes, bind_probes}
use Rattle.prebind.specs.Indexed.{IndexOf, AreOf}
use Rattle.prebind.specs.Framed.{framed_found, framed_place, frame_at}
use Rattle.prebind.specs.Asked.{IsSearchedInDepth, OrderHas, IsOneBind}
use Rattle.prebind.proofs.IndexLaws.{found_image, searched_image}
use Rattle.prebind.proofs.ProbeLaws.{probes_end}

-- where no image of an order exports a name, all are asked
searched_all : (es : List (List Export)) (name ks : List ℕ) → None ≡ first_exporting es name ks → searched es name ks ≡ length ks
searched_all es name [] none = refl
searched_all es name (k ∷ ks) none = by (target_named (get_or es k []) name) none (searched_all es name ks)
  where
    by : (o : Option Target) → None ≡ or_later k o (first_exporting es name ks) → (None ≡ first_exporting es name ks → searched es name ks ≡ length ks) → 1 + unless_found o (searched es name ks) ≡ length (k ∷ ks)
    by None later rest = let all = rest later in omega (arith, all)
    by (Some t) is rest = absurd (let e : ◌≡◌ {A = Option (ℕ × Target)} None (Some (k, t)) = is in cc)

abbrev image_or : Option (ℕ × Target) → ℕ
image_or None = 0
image_or (Some p) = p.0

-- where the third one does first, three
searched_three : (es : List (List Export)) (name : List ℕ) (t : Target) → Some (4, t) ≡ first_exporting es name (1 ∷ 3 ∷ 4 ∷ 2 ∷ []) → searched es name (1 ∷ 3 ∷ 4 ∷ 2 ∷ []) ≡ 3
searched_three es name t is = one (target_named (get_or es 1 []) name) (target_named (get_or es 3 []) name) (target_named (get_or es 4 []) name) is
  where
    one : (a b c : Option Target) → Some (4, t) ≡ or_later 1 a (or_later 3 b (or_later 4 c (first_exporting es name (2 ∷ []))))
        → 1 + unless_found a (1 + unless_found b (1 + unless_found c (searched es name (2 ∷ [])))) ≡ 3
    one (Some u) b c is = absurd (let e : 4 ≡ 1 = ap image_or is in omega (arith, e))
    one None (Some u) c is = absurd (let e : 4 ≡ 3 = ap image_or is in omega (arith, e))
    one None None (Some u) is = refl
    one None None None is = absurd (last (target_named (get_or es 2 []) name) is)
      where
        last : (d : Option Target) → Some (4, t) ≡ or_later 2 d None → ⊥
        last None is = absurd (let e : ◌≡◌ {A = Option (ℕ × Target)} (Some (4, t)) None = is in cc)
        last (Some u) is = absurd (let e : 4 ≡ 2 = ap image_or is in omega (arith, e))

-- what is found ends the resolution
asked : (set : ImageSet) (links : Linked) (indexed : IndexOf) (name : List ℕ) (found : Option (ℕ × Target)) (end : Resolved) → AreOf set links indexed → IsSearchedInDepth links → OrderHas links indexed.names name found → Ends end ≡ framed_found indexed.frames found
    → probes set 0 1 name ≡ searched indexed.names name (1 ∷ 3 ∷ 4 ∷ 2 ∷ [])
asked set links indexed name found end are deep has ends =
    let order : List ℕ = get_or links.orders 1 [] in
    let counted : 0 + searched indexed.names name order ≡ 0 + step_probes set 0 1 name = searched_image set links indexed 0 1 1 name order indexed.names 0 (0 + searched indexed.names name order) are deep.needed refl refl refl in
    let same : step_probes set 0 1 name ≡ searched indexed.names name order = omega (arith, counted) in
    probes_end set 0 1 name end (found_image set links indexed 0 1 1 name order indexed.frames indexed.names found (Ends end) are deep.needed refl refl refl has ends)
    ∙ (same ∙ ap (λ (ks : List ℕ). searched indexed.names name ks) deep.order)

pub asked_three : (set : ImageSet) (links : Linked) (indexed : IndexOf) (name : List ℕ) (offset : ℕ) → AreOf set links indexed → IsSearchedInDepth links → OrderHas links indexed.names name (Some (4, Offset offset)) → probes set 0 1 name ≡ 3
asked_three set links indexed name offset are deep has =
    asked set links indexed name (Some (4, Offset offset)) (framed_place (frame_at indexed.frames 4) 4 offset) are deep has refl
    ∙ searched_three indexed.names name (Offset offset) (has ∙ ap (λ (ks : List ℕ). first_exporting indexed.names name ks) deep.order)

pub asked_four : (set : ImageSet) (links : Linked) (indexed : IndexOf) (name : List ℕ) → AreOf set links indexed → IsSearchedInDepth links → OrderHas links indexed.names name None → probes set 0 1 name ≡ 4
asked_four set links indexed name are deep has =
    asked set links indexed name None Absent are deep has refl
    ∙ searched_all indexed.names name (1 ∷ 3 ∷ 4 ∷ 2 ∷ []) (has ∙ ap (λ (ks : List ℕ). first_exporting indexed.names name ks) deep.order)

pub one_bind : (binds : List BoundWord) (b : BoundWord) (name : List ℕ) → length binds ≡ 1 → b ≡ get_or binds 0 b → b.ordinal ≡ 1 → b.name ≡ name → IsOneBind binds name
one_bind [] b name one at ordinal named = absurd (let e : 0 ≡ 1 = one in omega (arith, e))
one_bind (a ∷ []) b name one at ordinal named = record {
  ordinals = ap (λ (n : ℕ). n ∷ []) (sym (ap (λ (c : BoundWord). c.ordinal) at) ∙ ordinal);
  names = ap (λ (n : List ℕ). n ∷ []) (sym (ap (λ (c : BoundWord). c.name) at) ∙ named);
}
one_bind (a ∷ c ∷ bs) b name one at ordinal named = absurd (let e : suc (suc (length bs)) ≡ 1 = one in omega (arith, e))

-- one bind takes the steps of its name
pub asked_once : (set : ImageSet) (binds : List BoundWord) (name : List ℕ) → IsOneBind binds name → bind_probes set 0 binds ≡ probes set 0 1 name
unfolding bind_probes
asked_once set [] name one = absurd (let e : [] ≡ 1 ∷ [] = one.ordinals in cc)
asked_once set (b ∷ []) name one =
    let ordinal : b.ordinal ≡ 1 = let e : b.ordinal ∷ [] ≡ 1 ∷ [] = one.ordinals in cc in
    let named : b.name ≡ name = let e : b.name ∷ [] ≡ name ∷ [] = one.names in cc in
    let asked_for : probes set 0 b.ordinal b.name ≡ probes set 0 1 name = λ i. probes set 0 (ordinal i) (named i) in
    omega (arith, sum_by-cons (λ (c : BoundWord). probes set 0 c.ordinal c.name) b [], asked_for)
asked_once set (b ∷ c ∷ bs) name one = absurd (let e : b.ordinal ∷ c.ordinal ∷ map (λ (d : BoundWord). d.ordinal) bs ≡ 1 ∷ [] = one.ordinals in cc)
