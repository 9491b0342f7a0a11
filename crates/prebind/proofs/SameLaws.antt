-- What a resolution depends on: sets that agree in it have the same outcomes.
use Rattle.std.proofs.Common.{◌≡◌, ◌+◌, ◌-◌, ℕ, zero, suc, Bool, true, false, ◌&&◌, List, [], ◌∷◌, ◌++◌, length, map, get_or, refl, sym, ap, ap₂, ◌∙◌, arith, if◌then◌else◌, inl, inr, Option, Some, None}
use Rattle.std.specs.Prelude.{slice_get, position, option_map, nat_le, nat_lt, nat_eq}
use Rattle.std.specs.List.{sum_by}
use Rattle.std.specs.Cmp.Lexicographic.{pointwise}
use Rattle.std.proofs.lemmas.Bool.{false≢true, cond-true, cond-false, cases_Bool}
use Rattle.dsc_base.specs.declared.rule.Rule.TheVariants.{ExportOutside}
use Rattle.dsc_base.specs.declared.fault.Break.{Break}
use Rattle.macho_image.specs.Records.{Seg}
use Rattle.macho_image.specs.Rules.{is_linkedit_segment}
use Rattle.dsc_base.specs.Refusals.{broken, in_image}
use Rattle.macho_image.specs.declared.places.segment_index.Inside.{Inside}
use Rattle.macho_image.specs.Places.{wrap}
use Rattle.macho_image.specs.Segments.{contains, inside_from, inside, header_address, segments_at}
use Rattle.export_trie.specs.declared.export.Export.{Export}
use Rattle.export_trie.specs.declared.export.Target.{Target}
use Rattle.export_trie.specs.declared.export.Target.TheVariants.{Offset, Absolute, Reexport}
use Rattle.export_trie.specs.Finding.{target_named}
use Rattle.dep_closure.specs.declared.dep.Dep.{Dep}
use Rattle.dep_closure.specs.declared.dep.Dep.TheVariants as deps
use Rattle.dep_closure.specs.Linked.{Linked, dependency_at}
use Rattle.dep_closure.proofs.PositionLaws.{position-cons}
use Rattle.prebind.specs.declared.resolved.Resolved.{Resolved}
use Rattle.prebind.specs.declared.resolved.Resolved.TheVariants.{Loop}
use Rattle.prebind.specs.Sets.{ImageSet}
use Rattle.prebind.specs.Places.{address_of_export, exports_in, is_linkedit_at, is_stray, strays, export_break}
use Rattle.prebind.specs.Resolves.{Pair, is_met, Step, Ends, Reexports, first_exporting, place_of, export_place, found_step, dependency_step, step, next_name, after_step, resolves_after, export_count, resolves}
use Rattle.prebind.specs.Agree.{extent, body_extent, AgreeOnExports, HaveSameSegments, HaveSameBodies, HaveExportsInside}
use Rattle.prebind.proofs.ResolveLaws.{named_first}

-- each offset export has the same place in both sets
abbrev pub PlaceAlike : ImageSet → ImageSet → Type 0
PlaceAlike a b = (k : ℕ) (name : List ℕ) (offset : ℕ) → target_named (get_or (exports_in a.streams) k []) name ≡ Some (Offset offset)
    → export_place (segments_at a.images k) k offset ≡ export_place (segments_at b.images k) k offset

same_found : (a b : ImageSet) → PlaceAlike a b → (name ks : List ℕ) (found : Option (ℕ × Target)) → first_exporting (exports_in a.streams) name ks ≡ found → found_step a.images found ≡ found_step b.images found
same_found a b places name ks None first = refl
same_found a b places name ks (Some (k, Offset offset)) first = ap Ends (places k name offset (named_first (exports_in a.streams) name ks k (Offset offset) first))
same_found a b places name ks (Some (k, Absolute value)) first = refl
same_found a b places name ks (Some (k, Reexport ordinal own)) first = refl

same_dependency : (a b : ImageSet) → AgreeOnExports a b → PlaceAlike a b → (name : List ℕ) (d : Dep) → dependency_step a name d ≡ dependency_step b name d
same_dependency a b agree places name deps.BadOrdinal = refl
same_dependency a b agree places name deps.Missing = refl
same_dependency a b agree places name (deps.Image j) =
    same_found a b places name (get_or a.links.orders j []) (first_exporting (exports_in a.streams) name (get_or a.links.orders j [])) refl
    ∙ ap₂ (λ (es : List (List Export)) (l : Linked). found_step b.images (first_exporting es name (get_or l.orders j []))) agree.exports agree.links

same_step : (a b : ImageSet) → AgreeOnExports a b → PlaceAlike a b → (image ordinal : ℕ) (name : List ℕ) → step a image ordinal name ≡ step b image ordinal name
unfolding step
same_step a b agree places image ordinal name =
    same_dependency a b agree places name (dependency_at a.links image ordinal) ∙ ap (λ (l : Linked). dependency_step b name (dependency_at l image ordinal)) agree.links

alike_after : (met : List Pair) (name : List ℕ) (s : Step) (f g : List Pair → ℕ → ℕ → List ℕ → Resolved) → ((m : List Pair) (k by : ℕ) (n : List ℕ) → f m k by n ≡ g m k by n) → after_step met name s f ≡ after_step met name s g
alike_after met name (Ends outcome) f g same = refl
alike_after met name (Reexports k by own) f g same =
    ap (λ (r : Resolved). if is_met met (k, name) then Loop else r) (same (met ++ (k, name) ∷ []) k by (next_name name own))

same_after : (a b : ImageSet) → AgreeOnExports a b → PlaceAlike a b → (left : ℕ) (met : List Pair) (image ordinal : ℕ) (name : List ℕ) → resolves_after left a met image ordinal name ≡ resolves_after left b met image ordinal name
unfolding resolves_after
same_after a b agree places zero met image ordinal name = refl
same_after a b agree places (suc left) met image ordinal name =
    ap (λ (s : Step). after_step met name s (resolves_after left a)) (same_step a b agree places image ordinal name)
    ∙ alike_after met name (step b image ordinal name) (resolves_after left a) (resolves_after left b) (λ m k by n. same_after a b agree places left m k by n)

same_count : (a b : ImageSet) → AgreeOnExports a b → export_count a ≡ export_count b
unfolding export_count
same_count a b agree = ap (λ (es : List (List Export)). sum_by length es) agree.exports

same_resolves : (a b : ImageSet) → AgreeOnExports a b → PlaceAlike a b → (image ordinal : ℕ) (name : List ℕ) → resolves a image ordinal name ≡ resolves b image ordinal name
unfolding resolves
same_resolves a b agree places image ordinal name =
    same_after a b agree places (export_count a + 1) [] image ordinal name
    ∙ ap (λ (n : ℕ). resolves_after (n + 1) b [] image ordinal name) (same_count a b agree)

-- the segment that contains an address, by starts and sizes
abbrev has : ℕ × ℕ → ℕ → Bool
has e x = nat_le e.0 x && nat_lt x (e.0 + e.1)

abbrev extent_from : ℕ → List (ℕ × ℕ) → ℕ → Option Inside
extent_from g [] x = None
extent_from g (e ∷ es) x = if has e x then Some (record { segment = g; distance = x - e.0 }) else extent_from (g + 1) es x

by_extents : (g : ℕ) (ss : List Seg) (x : ℕ) → inside_from g ss x ≡ extent_from g (map extent ss) x
by_extents g [] x = refl
by_extents g (s ∷ ss) x = ap (λ (o : Option Inside). if contains s x then Some (record { segment = g; distance = x - s.vmaddr }) else o) (by_extents (g + 1) ss x)

inside_by_extents : (ss : List Seg) (x : ℕ) → inside ss x ≡ extent_from 0 (map extent ss) x
unfolding inside
inside_by_extents ss x = by_extents 0 ss x

abbrev place_at : List Seg → ℕ → ℕ → Resolved
place_at ss k address = place_of k address (inside ss address)

-- sets with the same segments: the outcome depends on nothing else
pub same_outcomes : (a b : ImageSet) → AgreeOnExports a b → HaveSameSegments a b → (image ordinal : ℕ) (name : List ℕ) → resolves a image ordinal name ≡ resolves b image ordinal name
same_outcomes a b agree segments image ordinal name = same_resolves a b agree places image ordinal name
  where
    places : PlaceAlike a b
    places k text offset named =
        let one = segments_at a.images k in
        let other = segments_at b.images k in
        ap (λ (h : ℕ). place_at one k (wrap (h + offset))) (agree.headers k)
        ∙ ap (λ (o : Option Inside). place_of k (address_of_export other offset) o)
        (inside_by_extents one (address_of_export other offset)
        ∙ (ap (λ (es : List (ℕ × ℕ)). extent_from 0 es (address_of_export other offset)) (segments k)
        ∙ sym (inside_by_extents other (address_of_export other offset))))

-- the same without `__LINKEDIT`
abbrev body_from : ℕ → List (Option (ℕ × ℕ)) → ℕ → Option Inside
body_from g [] x = None
body_from g (None ∷ es) x = body_from (g + 1) es x
body_from g (Some e ∷ es) x = if has e x then Some (record { segment = g; distance = x - e.0 }) else body_from (g + 1) es x

pub record IsFoundIn (g : ℕ) (ss : List Seg) (x : ℕ) (p : Inside) : Type 0 where
  pub index : ℕ
  pub segment : Seg
  pub number : p.segment ≡ g + index
  pub at : slice_get ss index ≡ Some segment
  pub body : is_linkedit_segment segment ≡ false → body_from g (map body_extent ss) x ≡ Some p

found_here : (g : ℕ) (s : Seg) (ss : List Seg) (x : ℕ) (p : Inside) → contains s x ≡ true → inside_from g (s ∷ ss) x ≡ Some p → IsFoundIn g (s ∷ ss) x p
found_here g s ss x p holds is =
    let at : Inside = record { segment = g; distance = x - s.vmaddr } in
    let same : ◌≡◌ {A = Option Inside} (Some at) (Some p) = sym (cond-true (contains s x) (Some at) (inside_from (g + 1) ss x) holds) ∙ is in
    let point : at ≡ p = cc in
    record {
      index = 0;
      segment = s;
      number = let e : at.segment ≡ p.segment = ap (λ (q : Inside). q.segment) point in omega (arith, e);
      at = refl;
      body = λ other.
          ap (λ (o : Option (ℕ × ℕ)). body_from g (o ∷ map body_extent ss) x) (cond-false (is_linkedit_segment s) None (Some (extent s)) other)
          ∙ (cond-true (contains s x) (Some at) (body_from (g + 1) (map body_extent ss) x) holds ∙ same);
    }

found_behind : (g : ℕ) (s : Seg) (ss : List Seg) (x : ℕ) (p : Inside) → contains s x ≡ false → IsFoundIn (g + 1) ss x p → IsFoundIn g (s ∷ ss) x p
found_behind g s ss x p lacks found = record {
  index = suc found.index;
  segment = found.segment;
  number = omega (arith, found.number);
  at = found.at;
  body = λ other. pass (is_linkedit_segment s) ∙ found.body other;
}
  where
    pass : (b : Bool) → body_from g ((if b then None else Some (extent s)) ∷ map body_extent ss) x ≡ body_from (g + 1) (map body_extent ss) x
    pass true = refl
    pass false = cond-false (contains s x) (Some (record { segment = g; distance = x - s.vmaddr })) (body_from (g + 1) (map body_extent ss) x) lacks

found_in : (g : ℕ) (ss : List Seg) (x : ℕ) (p : Inside) → inside_from g ss x ≡ Some p → IsFoundIn g ss x p
found_in g [] x p is = absurd (let e : ◌≡◌ {A = Option Inside} None (Some p) = is in cc)
found_in g (s ∷ ss) x p is = elim (cases_Bool (contains s x)) [
  | inl holds ↦ found_here g s ss x p holds is
  | inr lacks ↦
      found_behind g s ss x p lacks
      (found_in (g + 1) ss x p (sym (cond-false (contains s x) (Some (record { segment = g; distance = x - s.vmaddr })) (inside_from (g + 1) ss x) lacks) ∙ is))
]

-- an address that doesn't stray is found without `__LINKEDIT`
body_place : (ss : List Seg) (x : ℕ) (found : Option Inside) → inside ss x ≡ found → is_stray ss found ≡ false → found ≡ body_from 0 (map body_extent ss) x
unfolding inside
body_place ss x None is stays = absurd (false≢true (sym stays))
body_place ss x (Some p) is stays =
    let at = found_in 0 ss x p is in
    let number : p.segment ≡ at.index = omega (arith, at.number) in
    let segment : slice_get ss p.segment ≡ Some at.segment = ap (λ (n : ℕ). slice_get ss n) number ∙ at.at in
    sym (at.body (sym (ap is_linkedit_at segment) ∙ stays))

abbrev one_more : Option ℕ → Option ℕ
one_more o = option_map (λ (k : ℕ). k + 1) o

abbrev here : Bool → Option ℕ → Option ℕ
here b o = if b then Some 0 else one_more o

-- where no export of a list strays, a named one doesn't
none_behind : (b : Bool) (o : Option ℕ) → here b o ≡ None → (b ≡ false) × (o ≡ None)
none_behind true o is = absurd (let e : ◌≡◌ {A = Option ℕ} (Some 0) None = is in cc)
none_behind false None is = (refl, refl)
none_behind false (Some n) is = absurd (let e : ◌≡◌ {A = Option ℕ} (Some (n + 1)) None = is in cc)

-- an export that a name finds doesn't stray where none does
pub named_stays : (ss : List Seg) (es : List Export) (name : List ℕ) (t : Target) → position (λ (e : Export). strays ss e.target) es ≡ None → target_named es name ≡ Some t → strays ss t ≡ false
unfolding target_named
named_stays ss [] name t none is = absurd (let e : ◌≡◌ {A = Option Target} None (Some t) = is in cc)
named_stays ss (e ∷ es) name t none is =
    let parts = none_behind (strays ss e.target) (position (λ (f : Export). strays ss f.target) es) (sym (position-cons (λ (f : Export). strays ss f.target) e es) ∙ none) in
    elim (cases_Bool (pointwise nat_eq name e.name)) [
      | inl same ↦
          let found : ◌≡◌ {A = Option Target} (Some e.target) (Some t) = sym (cond-true (pointwise nat_eq name e.name) (Some e.target) (target_named es name) same) ∙ is in
          let target : t ≡ e.target = cc in
          ap (strays ss) target ∙ parts.0
      | inr other ↦ named_stays ss es name t parts.1 (sym (cond-false (pointwise nat_eq name e.name) (Some e.target) (target_named es name) other) ∙ is)
    ]

pub unbroken : (k : ℕ) (o : Option ℕ) → option_map (in_image k) (broken ExportOutside o) ≡ None → o ≡ None
unbroken k None is = refl
unbroken k (Some n) is = absurd (let e : ◌≡◌ {A = Option Break} (Some (record { rule = ExportOutside; image = k; at = n })) None = is in cc)

pub none_strays : (set : ImageSet) (k : ℕ) → export_break set k ≡ None → position (λ (e : Export). strays (segments_at set.images k) e.target) (get_or (exports_in set.streams) k []) ≡ None
unfolding export_break
none_strays set k none = unbroken k (position (λ (e : Export). strays (segments_at set.images k) e.target) (get_or (exports_in set.streams) k [])) none

export_body : (set : ImageSet) → HaveExportsInside set → (k : ℕ) (name : List ℕ) (offset : ℕ) → target_named (get_or (exports_in set.streams) k []) name ≡ Some (Offset offset)
    → export_place (segments_at set.images k) k offset ≡ place_of k (address_of_export (segments_at set.images k) offset) (body_from 0 (map body_extent (segments_at set.images k)) (address_of_export (segments_at set.images k) offset))
export_body set insides k name offset named =
    let ss = segments_at set.images k in
    let x = address_of_export ss offset in
    ap (λ (o : Option Inside). place_of k x o)
    (body_place ss x (inside ss x) refl (named_stays ss (get_or (exports_in set.streams) k []) name (Offset offset) (none_strays set k (insides k)) named))

-- sets in which rule 131 holds nowhere: `__LINKEDIT` has no part in the outcome
pub same_outcomes_inside : (a b : ImageSet) → AgreeOnExports a b → HaveSameBodies a b → HaveExportsInside a → HaveExportsInside b → (image ordinal : ℕ) (name : List ℕ) → resolves a image ordinal name ≡ resolves b image ordinal name
same_outcomes_inside a b agree bodies inside_a inside_b image ordinal name = same_resolves a b agree places image ordinal name
  where
    places : PlaceAlike a b
    places k text offset named =
        let named_b : target_named (get_or (exports_in b.streams) k []) text ≡ Some (Offset offset) = sym (ap (λ (es : List (List Export)). target_named (get_or es k []) text) agree.exports) ∙ named in
        export_body a inside_a k text offset named
        ∙ (both (header_address (segments_at a.images k)) (header_address (segments_at b.images k)) (map body_extent (segments_at a.images k)) (map body_extent (segments_at b.images k)) k offset (agree.headers k) (bodies k)
        ∙ sym (export_body b inside_b k text offset named_b))
      where
        both : (g h : ℕ) (es fs : List (Option (ℕ × ℕ))) (k offset : ℕ) → g ≡ h → es ≡ fs → place_of k (wrap (g + offset)) (body_from 0 es (wrap (g + offset))) ≡ place_of k (wrap (h + offset)) (body_from 0 fs (wrap (h + offset)))
        both g h es fs k offset header body = ap₂ (λ (n : ℕ) (l : List (Option (ℕ × ℕ))). place_of k (wrap (n + offset)) (body_from 0 l (wrap (n + offset)))) header body
