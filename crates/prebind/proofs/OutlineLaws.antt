-- Where rebases lead depends on the segments' addresses, on which of them is `__LINKEDIT`, and on the numbers at the rebases.
use Rattle.std.proofs.Common.{◌≡◌, ◌+◌, ℕ, Bool, true, false, not, ◌&&◌, ◌||◌, nat_lt, List, [], ◌∷◌, map, filter, refl, sym, ap, ap₂, ◌∙◌, if◌then◌else◌, Option, Some, None, option_map}
use Rattle.std.specs.Prelude.{slice_get}
use Rattle.std.specs.List.{All}
use Rattle.std.proofs.lemmas.List.Elements.{All-head, All-tail}
use Rattle.std.proofs.lemmas.Option.{slice_get-map}
use Rattle.dsc_base.specs.declared.fault.Span.{Span}
use Rattle.dsc_base.specs.declared.rule.Rule.TheVariants as numbers
use Rattle.dsc_base.specs.Refusals.{broken, first_break}
use Rattle.macho_image.specs.Records.{Seg}
use Rattle.macho_image.specs.Rules.{is_linkedit_segment}
use Rattle.macho_image.specs.declared.place.Location.{Location}
use Rattle.macho_image.specs.declared.places.segment_index.Inside.{Inside}
use Rattle.macho_image.specs.Places.{above}
use Rattle.macho_image.specs.Segments.{start_of, value_of, inside}
use Rattle.dep_closure.proofs.PositionLaws.{position-cons}
use Rattle.prebind.specs.declared.resolved.WordTarget.{WordTarget}
use Rattle.prebind.specs.declared.resolved.WordTarget.TheVariants.{Place, Constant}
use Rattle.prebind.specs.declared.resolved.PlacedWord.{PlacedWord}
use Rattle.prebind.specs.Places.{is_linkedit_at}
use Rattle.prebind.specs.Targets.{value_place, rebase_target}
use Rattle.prebind.specs.Words.{is_free, rebased_word, rebased_words}
use Rattle.prebind.specs.WordRules.{leads_into_linkedit, leads_nowhere, is_out_of, breaks_135, breaks_136, breaks_137, first_rebase, rebase_fault}
use Rattle.prebind.specs.Indexed.{span_of, bare_segment}
use Rattle.prebind.proofs.FrameLaws.{inside_is}

-- the same addresses, and `__LINKEDIT` in the same place
pub record HaveSameOutline (a b : List Seg) : Type 0 where
  pub spans : map span_of a ≡ map span_of b
  pub named : map is_linkedit_segment a ≡ map is_linkedit_segment b

same_inside : (a b : List Seg) → HaveSameOutline a b → (x : ℕ) → inside a x ≡ inside b x
same_inside a b same x = sym (inside_is a x) ∙ (ap (λ (ss : List Span). inside (map bare_segment ss) x) same.spans ∙ inside_is b x)

abbrev named_at : Option Bool → Bool
named_at None = true
named_at (Some b) = b

named_is : (o : Option Seg) → is_linkedit_at o ≡ named_at (option_map is_linkedit_segment o)
named_is None = refl
named_is (Some s) = refl

same_named : (a b : List Seg) → HaveSameOutline a b → (g : ℕ) → is_linkedit_at (slice_get a g) ≡ is_linkedit_at (slice_get b g)
same_named a b same g =
    named_is (slice_get a g)
    ∙ (ap named_at (sym (slice_get-map is_linkedit_segment a g) ∙ (ap (λ (bs : List Bool). slice_get bs g) same.named ∙ slice_get-map is_linkedit_segment b g))
    ∙ sym (named_is (slice_get b g)))

same_span : (a b : List Seg) → HaveSameOutline a b → (g : ℕ) → option_map span_of (slice_get a g) ≡ option_map span_of (slice_get b g)
same_span a b same g = sym (slice_get-map span_of a g) ∙ (ap (λ (ss : List Span). slice_get ss g) same.spans ∙ slice_get-map span_of b g)

abbrev start_at : Option Span → ℕ
start_at None = 0
start_at (Some s) = s.at

start_is : (o : Option Seg) → start_of o ≡ start_at (option_map span_of o)
start_is None = refl
start_is (Some s) = refl

same_start : (a b : List Seg) → HaveSameOutline a b → (g : ℕ) → start_of (slice_get a g) ≡ start_of (slice_get b g)
same_start a b same g = start_is (slice_get a g) ∙ (ap start_at (same_span a b same g) ∙ sym (start_is (slice_get b g)))

abbrev outside_at : Option Span → ℕ → Bool
outside_at None x = true
outside_at (Some s) x = nat_lt x s.at || nat_lt (s.at + s.len) x

outside_is : (o : Option Seg) (x : ℕ) → is_out_of o x ≡ outside_at (option_map span_of o) x
outside_is None x = refl
outside_is (Some s) x = refl

same_outside : (a b : List Seg) → HaveSameOutline a b → (g x : ℕ) → is_out_of (slice_get a g) x ≡ is_out_of (slice_get b g) x
same_outside a b same g x = outside_is (slice_get a g) x ∙ (ap (λ (o : Option Span). outside_at o x) (same_span a b same g) ∙ sym (outside_is (slice_get b g) x))

same_place : (a b : List Seg) → HaveSameOutline a b → (k value : ℕ) (o : Option Inside) → value_place k a value o ≡ value_place k b value o
same_place a b same k value None = refl
same_place a b same k value (Some p) = ap (λ (l : Bool). if l then Constant value else Place k p.segment p.distance) (same_named a b same p.segment)

-- where a value leads
same_target : (a b : List Seg) → HaveSameOutline a b → (k value : ℕ) (recorded : Option ℕ) → rebase_target k a value recorded ≡ rebase_target k b value recorded
same_target a b same k value None =
    ap (λ (o : Option Inside). value_place k a value o) (same_inside a b same value) ∙ same_place a b same k value (inside b value)
same_target a b same k value (Some g) = ap (λ (n : ℕ). Place k g (above n value)) (same_start a b same g)

-- and which rules it breaks
same_into : (a b : List Seg) → HaveSameOutline a b → (o : Option Inside) → leads_into_linkedit a o ≡ leads_into_linkedit b o
same_into a b same None = refl
same_into a b same (Some p) = same_named a b same p.segment

abbrev BreakAlike : (List Seg → ℕ → Option ℕ → Bool) → Type 0
BreakAlike breaks = (a b : List Seg) → HaveSameOutline a b → (value : ℕ) (recorded : Option ℕ) → breaks a value recorded ≡ breaks b value recorded

alike_135 : BreakAlike breaks_135
alike_135 a b same value None = ap (λ (o : Option Inside). leads_into_linkedit a o) (same_inside a b same value) ∙ same_into a b same (inside b value)
alike_135 a b same value (Some g) = refl

alike_136 : BreakAlike breaks_136
alike_136 a b same value None = ap leads_nowhere (same_inside a b same value)
alike_136 a b same value (Some g) = refl

alike_137 : BreakAlike breaks_137
alike_137 a b same value None = refl
alike_137 a b same value (Some g) = same_outside a b same g value

-- the numbers at some locations are the same
abbrev pub HaveSameValues : List Seg → List Seg → List Location → Type 0
HaveSameValues a b ls = All (λ (l : Location). value_of a l ≡ value_of b l) ls

abbrev one_more : Option ℕ → Option ℕ
one_more o = option_map (λ (k : ℕ). k + 1) o

same_first : (breaks : List Seg → ℕ → Option ℕ → Bool) → BreakAlike breaks → (a b : List Seg) → HaveSameOutline a b → (bound : ℕ → Bool) (pointer : ℕ → Option ℕ) (ls : List Location) → HaveSameValues a b ls → first_rebase breaks a bound pointer ls ≡ first_rebase breaks b bound pointer ls
same_first breaks alike a b same bound pointer [] values = refl
same_first breaks alike a b same bound pointer (l ∷ ls) values =
    let here : breaks a (value_of a l) (pointer l.address) ≡ breaks b (value_of b l) (pointer l.address) =
    alike a b same (value_of a l) (pointer l.address) ∙ ap (λ (v : ℕ). breaks b v (pointer l.address)) (All-head (λ (m : Location). value_of a m ≡ value_of b m) l ls values) in
    let later = same_first breaks alike a b same bound pointer ls (All-tail (λ (m : Location). value_of a m ≡ value_of b m) l ls values) in
    position-cons (λ (m : Location). not (bound m.address) && breaks a (value_of a m) (pointer m.address)) l ls
    ∙ (ap₂ (λ (x : Bool) (o : Option ℕ). if not (bound l.address) && x then Some 0 else one_more o) here later
    ∙ sym (position-cons (λ (m : Location). not (bound m.address) && breaks b (value_of b m) (pointer m.address)) l ls))

pub same_fault : (a b : List Seg) → HaveSameOutline a b → (bound : ℕ → Bool) (pointer : ℕ → Option ℕ) (ls : List Location) → HaveSameValues a b ls → rebase_fault a bound pointer ls ≡ rebase_fault b bound pointer ls
same_fault a b same bound pointer ls values =
    λ i.
    first_break (broken numbers.PointsIntoLinkedit (same_first breaks_135 alike_135 a b same bound pointer ls values i)
    ∷ broken numbers.RebaseOutside (same_first breaks_136 alike_136 a b same bound pointer ls values i)
    ∷ broken numbers.PointerOutOfRange (same_first breaks_137 alike_137 a b same bound pointer ls values i) ∷ [])

pub same_rebased : (a b : List Seg) → HaveSameOutline a b → (k : ℕ) (bound : ℕ → Bool) (pointer : ℕ → Option ℕ) (ls : List Location) → HaveSameValues a b ls → rebased_words k a bound pointer ls ≡ rebased_words k b bound pointer ls
same_rebased a b same k bound pointer [] values = refl
same_rebased a b same k bound pointer (l ∷ ls) values =
    let here : rebased_word k a pointer l ≡ rebased_word k b pointer l =
    ap (λ (t : WordTarget). let w : PlacedWord = record { at = l; target = t } in w)
    (same_target a b same k (value_of a l) (pointer l.address) ∙ ap (λ (v : ℕ). rebase_target k b v (pointer l.address)) (All-head (λ (m : Location). value_of a m ≡ value_of b m) l ls values)) in
    let later = same_rebased a b same k bound pointer ls (All-tail (λ (m : Location). value_of a m ≡ value_of b m) l ls values) in
    by_free (is_free bound l) here later
  where
    by_free : (free : Bool) → rebased_word k a pointer l ≡ rebased_word k b pointer l → rebased_words k a bound pointer ls ≡ rebased_words k b bound pointer ls
        → map (rebased_word k a pointer) (if free then l ∷ filter (is_free bound) ls else filter (is_free bound) ls) ≡ map (rebased_word k b pointer) (if free then l ∷ filter (is_free bound) ls else filter (is_free bound) ls)
    by_free true here later = ap₂ (λ (w : PlacedWord) (ws : List PlacedWord). w ∷ ws) here later
    by_free false here later = later
