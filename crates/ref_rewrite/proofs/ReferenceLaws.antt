-- References that are no pointers, one more at a time, and those that have no bytes for their new numbers.
use Rattle.std.proofs.Common.{◌≡◌, ◌<◌, ◌+◌, ℕ, Bool, true, false, not, ◌&&◌, ◌||◌, List, [], ◌∷◌, ◌++◌, length, map, filter, take, get_or, refl, sym, ap, ap₂, ◌∙◌, append_assoc, true≢false, Option, Some, None}
use Rattle.std.specs.Prelude.{position}
use Rattle.std.specs.List.{list_any}
use Rattle.std.proofs.lemmas.Bool.{and_parts}
use Rattle.std.proofs.lemmas.List.{map-append, take_more}
use Rattle.std.proofs.lemmas.List.Elements.{filter-append}
use Rattle.std.proofs.lemmas.List.Folds.{list_any_more, list_any_at}
use Rattle.std.proofs.lemmas.List.Quantifiers.{position-Some}
use Rattle.dsc_base.specs.declared.edits.Edit.{Edit}
use Rattle.dsc_base.specs.declared.rule.Rule.TheVariants.{DeltaOutOfRange, OffsetOutOfRange}
use Rattle.dsc_base.specs.Refusals.{broken, first_break}
use Rattle.macho_image.specs.Records.{Seg}
use Rattle.macho_image.specs.declared.section.Section.{Section}
use Rattle.split_info.specs.declared.reference.RefKind.{RefKind}
use Rattle.split_info.specs.declared.reference.RefKind.TheVariants.{Pointer64, Delta32, Delta64, ImageOff32}
use Rattle.split_info.specs.declared.reference.Reference.{Reference}
use Rattle.split_info.specs.Overlap.{is_pointer}
use Rattle.prebind.specs.Numbers.{fits}
use Rattle.prebind.specs.Words.{Word, reference_word, is_no_pointer}
use Rattle.cache_layout.specs.Layouts.{Laid}
use Rattle.ref_rewrite.specs.Breaks.{is_delta, is_offset, is_out_of_range}
use Rattle.ref_rewrite.specs.Moving.{new_number, edit_of, can_lead}
use Rattle.ref_rewrite.specs.Steps.{misfits, edits_of, references_break}

-- a pointer has bytes for any number
pub pointer_fits : (kind : RefKind) (n : ℕ) (b : Bool) → b ≡ not (not (is_pointer kind)) → b ≡ true → false ≡ not (fits kind n)
unfolding fits
pointer_fits Pointer64 n b is holds = refl
pointer_fits Delta32 n b is holds = absurd (true≢false (sym holds ∙ is))
pointer_fits Delta64 n b is holds = absurd (true≢false (sym holds ∙ is))
pointer_fits ImageOff32 n b is holds = absurd (true≢false (sym holds ∙ is))

-- ---- one more

pub edits_join : (l : Laid) (k : ℕ) (ss : List Seg) (xs ys : List Reference) → edits_of l k ss (xs ++ ys) ≡ edits_of l k ss xs ++ edits_of l k ss ys
edits_join l k ss xs ys =
    let words : List Reference → List Word = λ rs. map (reference_word k [] ss) rs in
    ap (λ (rs : List Reference). map (edit_of l k ss) (words rs)) (filter-append is_no_pointer xs ys)
    ∙ (ap (λ (ws : List Word). map (edit_of l k ss) ws) (map-append (reference_word k [] ss) (filter is_no_pointer xs) (filter is_no_pointer ys))
    ∙ map-append (edit_of l k ss) (words (filter is_no_pointer xs)) (words (filter is_no_pointer ys)))

pub edits_more : (l : Laid) (k : ℕ) (ss : List Seg) (rs : List Reference) (i : ℕ) (d : Reference) (old mid new : List Edit) → i < length rs
    → mid ≡ old ++ edits_of l k ss (take i rs) → new ≡ mid ++ edits_of l k ss (get_or rs i d ∷ []) → new ≡ old ++ edits_of l k ss (take (i + 1) rs)
edits_more l k ss rs i d old mid new lt before pushed =
    let r : Reference = get_or rs i d in
    pushed
    ∙ (ap (λ (es : List Edit). es ++ edits_of l k ss (r ∷ [])) before
    ∙ (append_assoc old (edits_of l k ss (take i rs)) (edits_of l k ss (r ∷ []))
    ∙ ap (λ (es : List Edit). old ++ es) (sym (ap (λ (xs : List Reference). edits_of l k ss xs) (take_more rs i d lt) ∙ edits_join l k ss (take i rs) (r ∷ [])))))

pub misfits_more : (test : Reference → Bool) (rs : List Reference) (i : ℕ) (d : Reference) (before here : Bool) → i < length rs
    → before ≡ list_any test (take i rs) → here ≡ test (get_or rs i d) → (before || here) ≡ list_any test (take (i + 1) rs)
misfits_more test rs i d before here lt told is_here = ap₂ (λ (a b : Bool). a || b) told is_here ∙ sym (list_any_more test rs i d lt)

-- ---- the section of a reference

pub edits_anywhere : (l : Laid) (k : ℕ) (xs : List Section) (ss : List Seg) (rs : List Reference) → map (edit_of l k ss) (map (reference_word k xs ss) rs) ≡ map (edit_of l k ss) (map (reference_word k [] ss) rs)
unfolding new_number
edits_anywhere l k xs ss [] = refl
edits_anywhere l k xs ss (r ∷ rs) = ap (λ (es : List Edit). edit_of l k ss (reference_word k [] ss r) ∷ es) (edits_anywhere l k xs ss rs)

-- ---- none without bytes

out_misfits : (kinds : RefKind → Bool) (l : Laid) (k : ℕ) (ss : List Seg) (r : Reference) → is_out_of_range kinds l k [] ss r ≡ true → misfits l k ss r ≡ true
unfolding can_lead
out_misfits kinds l k ss r out = (and_parts (kinds r.kind) (misfits l k ss r) out).1

contradicted : (kinds : RefKind → Bool) (l : Laid) (k : ℕ) (ss : List Seg) (rs : List Reference) (i : ℕ) → position (is_out_of_range kinds l k [] ss) rs ≡ Some i → list_any (misfits l k ss) rs ≡ false → ⊥
contradicted kinds l k ss [] i is none = true≢false (let e : ◌≡◌ {A = Option ℕ} None (Some i) = is in cc)
contradicted kinds l k ss (r ∷ rs) i is none =
    let found = position-Some (is_out_of_range kinds l k [] ss) (r ∷ rs) i r is in
    true≢false (sym (list_any_at (misfits l k ss) (r ∷ rs) i r found.0 (out_misfits kinds l k ss (get_or (r ∷ rs) i r) found.1)) ∙ none)

none_out : (kinds : RefKind → Bool) (l : Laid) (k : ℕ) (ss : List Seg) (rs : List Reference) → list_any (misfits l k ss) rs ≡ false → position (is_out_of_range kinds l k [] ss) rs ≡ None
none_out kinds l k ss rs none = at (position (is_out_of_range kinds l k [] ss) rs) refl
  where
    at : (o : Option ℕ) → position (is_out_of_range kinds l k [] ss) rs ≡ o → position (is_out_of_range kinds l k [] ss) rs ≡ None
    at None is = is
    at (Some i) is = absurd (contradicted kinds l k ss rs i is none)

pub none_broken : (l : Laid) (k : ℕ) (ss : List Seg) (rs : List Reference) → list_any (misfits l k ss) rs ≡ false → references_break l k [] ss rs ≡ None
none_broken l k ss rs none =
    ap₂ (λ (a b : Option ℕ). first_break (broken DeltaOutOfRange a ∷ broken OffsetOutOfRange b ∷ [])) (none_out is_delta l k ss rs none) (none_out is_offset l k ss rs none)
